-- Words and their bytes determine one another, and exclusive or goes byte by byte.
use Rattle.std.proofs.Common.{◌≡◌, ℕ, zero, suc, ◌+◌, ◌-◌, ◌*◌, ◌/◌, ◌%◌, ◌^◌, ◌<◌, ◌≤◌, List, [], ◌∷◌, ◌++◌, length, get_or, take, drop, replicate, refl, ap, ◌∙◌, ⊎_elim, arith}
use lib.Bits.{bit_xor, xor_shr, xor_mod}
use Rattle.std.proofs.lemmas.List.{length-append, length-take, length-replicate, get_or_append_left, get_or_past, get_or-take, get_or-drop}
use Rattle.std.proofs.lemmas.Bool.{cases_lt}
use Rattle.ascon.specs.Blocks.{Bytes, word, bytes, pad}
use Rattle.ascon.proofs.BlockLaws.{get_or_noughts}

-- the bytes of a word that is made of bytes
pub bytes_of : (a b c d e f g h : ℕ) → a < 256 → b < 256 → c < 256 → d < 256 → e < 256 → f < 256 → g < 256 → h < 256 → bytes (a + b * 256 + c * 65536 + d * 16777216 + e * 4294967296 + f * 1099511627776 + g * 281474976710656 + h * 72057594037927936) ≡ a ∷ (b ∷ (c ∷ (d ∷ (e ∷ (f ∷ (g ∷ (h ∷ [])))))))
unfolding bytes
bytes_of a b c d e f g h a' b' c' d' e' f' g' h' =
    let x : ℕ = a + b * 256 + c * 65536 + d * 16777216 + e * 4294967296 + f * 1099511627776 + g * 281474976710656 + h * 72057594037927936 in
    let p0 : x % 256 ≡ a = omega arith in
    let q1 : x / 256 ≡ b + c * 256 + d * 65536 + e * 16777216 + f * 4294967296 + g * 1099511627776 + h * 281474976710656 = omega arith in
    let p1 : (b + c * 256 + d * 65536 + e * 16777216 + f * 4294967296 + g * 1099511627776 + h * 281474976710656) % 256 ≡ b = omega arith in
    let q2 : x / 65536 ≡ c + d * 256 + e * 65536 + f * 16777216 + g * 4294967296 + h * 1099511627776 = omega arith in
    let p2 : (c + d * 256 + e * 65536 + f * 16777216 + g * 4294967296 + h * 1099511627776) % 256 ≡ c = omega arith in
    let q3 : x / 16777216 ≡ d + e * 256 + f * 65536 + g * 16777216 + h * 4294967296 = omega arith in
    let p3 : (d + e * 256 + f * 65536 + g * 16777216 + h * 4294967296) % 256 ≡ d = omega arith in
    let q4 : x / 4294967296 ≡ e + f * 256 + g * 65536 + h * 16777216 = omega arith in
    let p4 : (e + f * 256 + g * 65536 + h * 16777216) % 256 ≡ e = omega arith in
    let q5 : x / 1099511627776 ≡ f + g * 256 + h * 65536 = omega arith in
    let p5 : (f + g * 256 + h * 65536) % 256 ≡ f = omega arith in
    let q6 : x / 281474976710656 ≡ g + h * 256 = omega arith in
    let p6 : (g + h * 256) % 256 ≡ g = omega arith in
    let q7 : x / 72057594037927936 ≡ h = omega arith in
    let p7 : (h) % 256 ≡ h = omega arith in
    cc

-- the word of a word's bytes
pub word_of : (x : ℕ) → x < 2 ^ 64 → x % 256 + x / 256 % 256 * 256 + x / 65536 % 256 * 65536 + x / 16777216 % 256 * 16777216 + x / 4294967296 % 256 * 4294967296 + x / 1099511627776 % 256 * 1099511627776 + x / 281474976710656 % 256 * 281474976710656 + x / 72057594037927936 % 256 * 72057594037927936 ≡ x
word_of x h = omega arith

pub word_lt : (b : List ℕ) → Bytes b → word b < 2 ^ 64
unfolding word
word_lt b h =
    let h0 = h 0 in
    let h1 = h 1 in
    let h2 = h 2 in
    let h3 = h 3 in
    let h4 = h 4 in
    let h5 = h 5 in
    let h6 = h 6 in
    let h7 = h 7 in
    omega arith

-- each place among eight, and those behind them
places : (P : ℕ → Type 0) → P 0 → P 1 → P 2 → P 3 → P 4 → P 5 → P 6 → P 7 → ((i : ℕ) → P (suc (suc (suc (suc (suc (suc (suc (suc i))))))))) → (i : ℕ) → P i
places P a b c d e f g h behind zero = a
places P a b c d e f g h behind (suc zero) = b
places P a b c d e f g h behind (suc (suc zero)) = c
places P a b c d e f g h behind (suc (suc (suc zero))) = d
places P a b c d e f g h behind (suc (suc (suc (suc zero)))) = e
places P a b c d e f g h behind (suc (suc (suc (suc (suc zero))))) = f
places P a b c d e f g h behind (suc (suc (suc (suc (suc (suc zero)))))) = g
places P a b c d e f g h behind (suc (suc (suc (suc (suc (suc (suc zero))))))) = h
places P a b c d e f g h behind (suc (suc (suc (suc (suc (suc (suc (suc i)))))))) = behind i

-- eight values, place by place
eight_at : (f : ℕ → ℕ) (i : ℕ) → i < 8 → get_or (f 0 ∷ (f 1 ∷ (f 2 ∷ (f 3 ∷ (f 4 ∷ (f 5 ∷ (f 6 ∷ (f 7 ∷ [])))))))) i 0 ≡ f i
eight_at f =
    places (λ (i : ℕ). i < 8 → get_or (f 0 ∷ (f 1 ∷ (f 2 ∷ (f 3 ∷ (f 4 ∷ (f 5 ∷ (f 6 ∷ (f 7 ∷ [])))))))) i 0 ≡ f i)
    (λ _. refl) (λ _. refl) (λ _. refl) (λ _. refl) (λ _. refl) (λ _. refl) (λ _. refl) (λ _. refl)
    (λ (i : ℕ) (h : suc (suc (suc (suc (suc (suc (suc (suc i))))))) < 8). let z : ⊥ = omega arith in absurd z)

-- a word's bytes are those it is made of
pub byte_word : (b : List ℕ) → Bytes b → (i : ℕ) → i < 8 → get_or (bytes (word b)) i 0 ≡ get_or b i 0
unfolding word
byte_word b h i p = ap (λ (xs : List ℕ). get_or xs i 0) (bytes_of (get_or b 0 0) (get_or b 1 0) (get_or b 2 0) (get_or b 3 0) (get_or b 4 0) (get_or b 5 0) (get_or b 6 0) (get_or b 7 0) (h 0) (h 1) (h 2) (h 3) (h 4) (h 5) (h 6) (h 7)) ∙ eight_at (λ j. get_or b j 0) i p

-- one byte of an exclusive or
xor-byte : (x y k : ℕ) → bit_xor x y / 2 ^ k % 2 ^ 8 ≡ bit_xor (x / 2 ^ k % 2 ^ 8) (y / 2 ^ k % 2 ^ 8)
xor-byte x y k = ap (λ n. n % 2 ^ 8) (xor_shr x y k) ∙ xor_mod (x / 2 ^ k) (y / 2 ^ k) 8

pub byte-xor : (x y i : ℕ) → get_or (bytes (bit_xor x y)) i 0 ≡ bit_xor (get_or (bytes x) i 0) (get_or (bytes y) i 0)
unfolding bytes
byte-xor x y =
    places (λ (i : ℕ). get_or (bytes (bit_xor x y)) i 0 ≡ bit_xor (get_or (bytes x) i 0) (get_or (bytes y) i 0))
    (xor_mod x y 8) (xor-byte x y 8) (xor-byte x y 16) (xor-byte x y 24) (xor-byte x y 32) (xor-byte x y 40) (xor-byte x y 48) (xor-byte x y 56)
    (λ _. refl)

pub Bytes-bytes : (x : ℕ) → Bytes (bytes x)
unfolding bytes
Bytes-bytes x =
    places (λ (i : ℕ). get_or (bytes x) i 0 < 256)
    (omega arith) (omega arith) (omega arith) (omega arith) (omega arith) (omega arith) (omega arith) (omega arith)
    (λ _. omega arith)

pub Bytes-drop : (n : ℕ) (xs : List ℕ) → Bytes xs → Bytes (drop n xs)
Bytes-drop n xs h i = rw get_or-drop (h (n + i))

pub Bytes-take : (n : ℕ) (xs : List ℕ) → Bytes xs → Bytes (take n xs)
Bytes-take n xs h i =
    ⊎_elim
    (λ (p : i < n). rw (get_or-take n xs i 0 p) (h i))
    (λ (p : n ≤ i). let past : get_or (take n xs) i 0 ≡ 0 = get_or_past (take n xs) i 0 (simp length-take (omega arith)) in omega arith)
    (cases_lt i n)

pub Bytes-++ : (xs ys : List ℕ) → Bytes xs → Bytes ys → Bytes (xs ++ ys)
Bytes-++ [] ys h k i = k i
Bytes-++ (x ∷ xs) ys h k zero = h 0
Bytes-++ (x ∷ xs) ys h k (suc i) = Bytes-++ xs ys (λ (j : ℕ). h (suc j)) k i

pub Bytes-pad : (r : ℕ) (m : List ℕ) → Bytes m → Bytes (pad r m)
Bytes-pad r m h = Bytes-++ m (1 ∷ replicate (r - 1 - length m) 0) h tail where
  tail : Bytes (1 ∷ replicate (r - 1 - length m) 0)
  tail zero = omega arith
  tail (suc i) = let e = get_or_noughts [] (r - 1 - length m) i in omega arith

-- the padding begins behind the message
pub get_or-pad : (r : ℕ) (m : List ℕ) (i : ℕ) → i < length m → get_or (pad r m) i 0 ≡ get_or m i 0
get_or-pad r m i h = get_or_append_left m (1 ∷ replicate (r - 1 - length m) 0) 0 i h

pub length-pad : (r : ℕ) (m : List ℕ) → length m < r → length (pad r m) ≡ r
length-pad r m h = let e = length-replicate {A = ℕ} (r - 1 - length m) 0 in simp length-append (omega arith)
