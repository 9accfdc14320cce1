-- Decryption undoes encryption, and encryption decryption, with the same state behind.
use Rattle.std.proofs.Common.{◌≡◌, ℕ, zero, suc, ◌+◌, ◌-◌, ◌/◌, ◌<◌, ◌≤◌, true, false, List, ◌++◌, length, get_or, take, drop, Some, None, sym, refl, ap, ◌∙◌, subst, ⊎_elim, arith}
use lib.Bits.{bit_xor, xor_assoc, xor_self, xor_zero_l}
use Rattle.std.proofs.lemmas.List.{take_all, length-append, length-drop, length-take-le, take_at, drop_at, take-append-drop, get_or_append_left, get_or-append_right, get_or-take, get_or-drop, ext_get_or}
use Rattle.std.proofs.lemmas.Bool.{cases_lt}
use Rattle.std.proofs.lemmas.Option.{cond_some}
use Rattle.std.specs.Str.{bytes_eq}
use Rattle.std.proofs.lemmas.Slice.Eq.{bytes_eq-Decides}
use Rattle.ascon.specs.declared.state.State.{State}
use Rattle.ascon.specs.Permutation.{p8}
use Rattle.ascon.specs.Blocks.{Bytes, word, bytes, pad}
use Rattle.ascon.specs.Aead.{rate, add, replace, encrypted, after_text, decrypted, after_ciphertext, finalized, begun, ciphertext, tag, opened}
use Rattle.ascon.specs.Laws.{Opens, Only, IsSealing}
use Rattle.ascon.proofs.BlockLaws.{length-bytes, Cut, cut}
use Rattle.ascon.proofs.AeadLaws.{length-rate}
use Rattle.ascon.proofs.WordLaws.{word_of, byte_word, byte-xor, Bytes-bytes, Bytes-take, Bytes-drop, Bytes-++, Bytes-pad, get_or-pad}
use Rattle.ascon.proofs.StateLaws.{Fits, p8_fits, add_fits, begun_fits}

-- twice the same exclusive or is none
undone : (a b : ℕ) → bit_xor a (bit_xor a b) ≡ b
undone a b = sym (xor_assoc a a b) ∙ (ap (λ n. bit_xor n b) (xor_self a) ∙ xor_zero_l b)

Bytes-rate : (s : State) → Bytes (rate s)
unfolding rate
Bytes-rate s = Bytes-++ (bytes s.x0) (bytes s.x1) (Bytes-bytes s.x0) (Bytes-bytes s.x1)

-- a block is added to the rate byte by byte
rate-add : (s : State) (b : List ℕ) → Bytes b → (i : ℕ) → i < 16 → get_or (rate (add s b)) i 0 ≡ bit_xor (get_or (rate s) i 0) (get_or b i 0)
unfolding rate add
rate-add s b h i p = ⊎_elim low high (cases_lt i 8) where
  low : i < 8 → get_or (bytes (bit_xor s.x0 (word b)) ++ bytes (bit_xor s.x1 (word (drop 8 b)))) i 0 ≡ bit_xor (get_or (bytes s.x0 ++ bytes s.x1) i 0) (get_or b i 0)
  low q =
      let l : i < length (bytes (bit_xor s.x0 (word b))) = rw (length-bytes (bit_xor s.x0 (word b))) q in
      let r : i < length (bytes s.x0) = rw (length-bytes s.x0) q in
      let one = get_or_append_left (bytes (bit_xor s.x0 (word b))) (bytes (bit_xor s.x1 (word (drop 8 b)))) 0 i l in
      let two = get_or_append_left (bytes s.x0) (bytes s.x1) 0 i r in
      one ∙ (byte-xor s.x0 (word b) i ∙ (ap (bit_xor (get_or (bytes s.x0) i 0)) (byte_word b h i q) ∙ sym (ap (λ n. bit_xor n (get_or b i 0)) two)))

  high : 8 ≤ i → get_or (bytes (bit_xor s.x0 (word b)) ++ bytes (bit_xor s.x1 (word (drop 8 b)))) i 0 ≡ bit_xor (get_or (bytes s.x0 ++ bytes s.x1) i 0) (get_or b i 0)
  high q =
      let j : i - 8 < 8 = omega arith in
      let one = get_or-append_right (bytes (bit_xor s.x0 (word b))) (bytes (bit_xor s.x1 (word (drop 8 b)))) 8 i 0 (length-bytes (bit_xor s.x0 (word b))) q in
      let two = get_or-append_right (bytes s.x0) (bytes s.x1) 8 i 0 (length-bytes s.x0) q in
      let e : 8 + (i - 8) ≡ i = omega arith in
      let byte : get_or (bytes (word (drop 8 b))) (i - 8) 0 ≡ get_or b i 0 = byte_word (drop 8 b) (Bytes-drop 8 b h) (i - 8) j ∙ (get_or-drop 8 b (i - 8) 0 ∙ ap (λ n. get_or b n 0) e) in
      one ∙ (byte-xor s.x1 (word (drop 8 b)) (i - 8) ∙ (ap (bit_xor (get_or (bytes s.x1) (i - 8) 0)) byte ∙ sym (ap (λ n. bit_xor n (get_or b i 0)) two)))

-- bytes that are the rate's after a block was added give that block back
back : (s : State) (b c : List ℕ) → Bytes b → Bytes c → (i : ℕ) → i < 16 → get_or c i 0 ≡ get_or (rate (add s b)) i 0 → get_or (rate (add s c)) i 0 ≡ get_or b i 0
back s b c h k i p e = rate-add s c k i p ∙ (ap (bit_xor (get_or (rate s) i 0)) (e ∙ rate-add s b h i p) ∙ undone (get_or (rate s) i 0) (get_or b i 0))

-- the same of as many bytes as x has, fewer than a block
back_front : (s : State) (b c x : List ℕ) → Bytes b → Bytes c → length x ≤ 16 → ((i : ℕ) → i < length x → get_or c i 0 ≡ get_or (rate (add s b)) i 0) → ((i : ℕ) → i < length x → get_or b i 0 ≡ get_or x i 0) → take (length x) (rate (add s c)) ≡ x
back_front s b c x h k l e f =
    let whole : length (rate (add s c)) ≡ 16 = length-rate (add s c) in
    let long : length (take (length x) (rate (add s c))) ≡ length x = length-take-le (length x) (rate (add s c)) (omega arith) in
    ext_get_or 0 (take (length x) (rate (add s c))) x long
    (λ (i : ℕ) (p : i < length (take (length x) (rate (add s c)))).
    let q : i < length x = omega arith in
    get_or-take (length x) (rate (add s c)) i 0 q ∙ (back s b c h k i (omega arith) (e i q) ∙ f i q))

-- a whole block
back_whole : (s : State) (b : List ℕ) → Bytes b → length b ≡ 16 → rate (add s (rate (add s b))) ≡ b
back_whole s b h l =
    let all : take (length b) (rate (add s (rate (add s b)))) ≡ b = back_front s b (rate (add s b)) b h (Bytes-rate (add s b)) (omega arith) (λ (i : ℕ) (q : i < length b). refl) (λ (i : ℕ) (q : i < length b). refl) in
    sym (take_all (length b) (rate (add s (rate (add s b)))) (let w = length-rate (add s (rate (add s b))) in omega arith)) ∙ all

-- the length of a part of the rate
length_part : (s : State) (n : ℕ) → n < 16 → length (take n (rate s)) ≡ n
length_part s n h = length-take-le n (rate s) (let w = length-rate s in omega arith)

-- a last block of text, encrypted and decrypted
back_text : (s : State) (t : List ℕ) → Bytes t → length t < 16 → take (length t) (rate (add s (take (length t) (rate (add s (pad 16 t)))))) ≡ t
back_text s t h l =
    back_front s (pad 16 t) (take (length t) (rate (add s (pad 16 t)))) t (Bytes-pad 16 t h) (Bytes-take (length t) (rate (add s (pad 16 t))) (Bytes-rate (add s (pad 16 t)))) (omega arith)
    (λ (i : ℕ) (q : i < length t). get_or-take (length t) (rate (add s (pad 16 t))) i 0 q)
    (λ (i : ℕ) (q : i < length t). get_or-pad 16 t i q)

-- a last block of ciphertext, decrypted and encrypted
back_ciphertext : (s : State) (c : List ℕ) → Bytes c → length c < 16 → take (length c) (rate (add s (pad 16 (take (length c) (rate (add s c)))))) ≡ c
back_ciphertext s c h l =
    let t : List ℕ = take (length c) (rate (add s c)) in
    let long : length t ≡ length c = length_part (add s c) (length c) l in
    back_front s c (pad 16 t) c h (Bytes-pad 16 t (Bytes-take (length c) (rate (add s c)) (Bytes-rate (add s c)))) (omega arith)
    (λ (i : ℕ) (q : i < length c). get_or-pad 16 t i (omega arith) ∙ get_or-take (length c) (rate (add s c)) i 0 q)
    (λ (i : ℕ) (q : i < length c). refl)

-- the words of the rate
word-rate : (s : State) → Fits s → word (rate s) ≡ s.x0
unfolding rate word bytes
word-rate s h = word_of s.x0 h.x0

word_rate_high : (s : State) → Fits s → word (drop 8 (rate s)) ≡ s.x1
unfolding rate word bytes
word_rate_high s h = word_of s.x1 h.x1

-- states that differ at most in x0 and x1
same-rate : (s : State) (x y x' y' : ℕ) → x ≡ x' → y ≡ y' → ◌≡◌ {A = State} (record { x0 = x; x1 = y; x2 = s.x2; x3 = s.x3; x4 = s.x4 }) (record { x0 = x'; x1 = y'; x2 = s.x2; x3 = s.x3; x4 = s.x4 })
same-rate s x y x' y' p q = cc

replace-rate : (s : State) (b : List ℕ) → Fits (add s b) → replace s (rate (add s b)) ≡ add s b
unfolding replace add
replace-rate s b h = same-rate s (word (rate (add s b))) (word (drop 8 (rate (add s b)))) (bit_xor s.x0 (word b)) (bit_xor s.x1 (word (drop 8 b))) (word-rate (add s b) h) (word_rate_high (add s b) h)

add-rate : (s : State) (b : List ℕ) → Fits (add s b) → add s (rate (add s b)) ≡ replace s b
unfolding replace add
add-rate s b h =
    let low : bit_xor s.x0 (word (rate (add s b))) ≡ word b = ap (bit_xor s.x0) (word-rate (add s b) h) ∙ undone s.x0 (word b) in
    let high : bit_xor s.x1 (word (drop 8 (rate (add s b)))) ≡ word (drop 8 b) = ap (bit_xor s.x1) (word_rate_high (add s b) h) ∙ undone s.x1 (word (drop 8 b)) in
    same-rate s (bit_xor s.x0 (word (rate (add s b)))) (bit_xor s.x1 (word (drop 8 (rate (add s b))))) (word b) (word (drop 8 b)) low high

length-encrypted : (n : ℕ) (s : State) (t : List ℕ) → Cut 16 n t → length (encrypted n s t) ≡ length t
unfolding encrypted
length-encrypted zero s t w = length_part (add s (pad 16 t)) (length t) w
length-encrypted (suc n) s t w =
    let rest = length-encrypted n (p8 (add s (take 16 t))) (drop 16 t) w.1 in
    let block = length-rate (add s (take 16 t)) in
    let l = w.0 in
    let d = length-drop 16 t in
    simp length-append (omega arith)

length-decrypted : (n : ℕ) (s : State) (c : List ℕ) → Cut 16 n c → length (decrypted n s c) ≡ length c
unfolding decrypted
length-decrypted zero s c w = length_part (add s c) (length c) w
length-decrypted (suc n) s c w =
    let rest = length-decrypted n (p8 (replace s (take 16 c))) (drop 16 c) w.1 in
    let block = length-rate (add s (take 16 c)) in
    let l = w.0 in
    let d = length-drop 16 c in
    simp length-append (omega arith)

-- a text, encrypted and decrypted
record TextBack (n : ℕ) (s : State) (t : List ℕ) : Type 0 where
  text : decrypted n s (encrypted n s t) ≡ t
  state : after_ciphertext n s (encrypted n s t) ≡ after_text n s t

text_back : (n : ℕ) (s : State) (t : List ℕ) → Fits s → Bytes t → Cut 16 n t → TextBack n s t
unfolding encrypted decrypted after_text after_ciphertext
text_back zero s t f h w =
    let long : length (take (length t) (rate (add s (pad 16 t)))) ≡ length t = length_part (add s (pad 16 t)) (length t) w in
    let all = back_text s t h w in
    record { text = rw long all; state = rw (long, all) }
text_back (suc n) s t f h w =
    let a : State = add s (take 16 t) in
    let af : Fits a = add_fits s (take 16 t) (Bytes-take 16 t h) f in
    let rest = text_back n (p8 a) (drop 16 t) (p8_fits a af) (Bytes-drop 16 t h) w.1 in
    let front : take 16 (rate a ++ encrypted n (p8 a) (drop 16 t)) ≡ rate a = take_at (rate a) (encrypted n (p8 a) (drop 16 t)) 16 (length-rate a) in
    let behind : drop 16 (rate a ++ encrypted n (p8 a) (drop 16 t)) ≡ encrypted n (p8 a) (drop 16 t) = drop_at (rate a) (encrypted n (p8 a) (drop 16 t)) 16 (length-rate a) in
    let block : rate (add s (rate a)) ≡ take 16 t = back_whole s (take 16 t) (Bytes-take 16 t h) (length-take-le 16 t w.0) in
    let next : replace s (rate a) ≡ a = replace-rate s (take 16 t) af in
    let joined : take 16 t ++ drop 16 t ≡ t = take-append-drop 16 t in
    record { text = rw (front, behind, block, next, rest.text) joined; state = rw (front, behind, next) rest.state }

-- a ciphertext, decrypted and encrypted
record CiphertextBack (n : ℕ) (s : State) (c : List ℕ) : Type 0 where
  text : encrypted n s (decrypted n s c) ≡ c
  state : after_text n s (decrypted n s c) ≡ after_ciphertext n s c

ciphertext_back : (n : ℕ) (s : State) (c : List ℕ) → Fits s → Bytes c → Cut 16 n c → CiphertextBack n s c
unfolding encrypted decrypted after_text after_ciphertext
ciphertext_back zero s c f h w =
    let long : length (take (length c) (rate (add s c))) ≡ length c = length_part (add s c) (length c) w in
    record { text = ap (λ m. take m (rate (add s (pad 16 (take (length c) (rate (add s c))))))) long ∙ back_ciphertext s c h w; state = refl }
ciphertext_back (suc n) s c f h w =
    let a : State = add s (take 16 c) in
    let r : State = replace s (take 16 c) in
    let af : Fits a = add_fits s (take 16 c) (Bytes-take 16 c h) f in
    let next : add s (rate a) ≡ r = add-rate s (take 16 c) af in
    let rf : Fits r = rw (← next) (add_fits s (rate a) (Bytes-rate a) f) in
    let rest = ciphertext_back n (p8 r) (drop 16 c) (p8_fits r rf) (Bytes-drop 16 c h) w.1 in
    let front : take 16 (rate a ++ decrypted n (p8 r) (drop 16 c)) ≡ rate a = take_at (rate a) (decrypted n (p8 r) (drop 16 c)) 16 (length-rate a) in
    let behind : drop 16 (rate a ++ decrypted n (p8 r) (drop 16 c)) ≡ decrypted n (p8 r) (drop 16 c) = drop_at (rate a) (decrypted n (p8 r) (drop 16 c)) 16 (length-rate a) in
    let block : rate (add s (rate a)) ≡ take 16 c = back_whole s (take 16 c) (Bytes-take 16 c h) (length-take-le 16 c w.0) in
    let joined : take 16 c ++ drop 16 c ≡ c = take-append-drop 16 c in
    record { text = rw (front, behind, block, next, rest.text) joined; state = rw (front, behind, next) rest.state }

-- the number of whole blocks
cut_16 : (t : List ℕ) → Cut 16 (length t / 16) t
cut_16 t = cut 16 (omega arith) (length t / 16) t refl

-- a ciphertext is as long as its text
pub length-ciphertext : (k n a t : List ℕ) → length (ciphertext k n a t) ≡ length t
unfolding ciphertext
length-ciphertext k n a t = length-encrypted (length t / 16) (begun k n a) t (cut_16 t)

-- a tag has sixteen bytes
pub length-tag : (k n a t : List ℕ) → length (tag k n a t) ≡ 16
unfolding tag finalized bytes
length-tag k n a t = refl

-- what was sealed opens, and what opens is the sealing of what it opens to, where the state before the
-- text fits its words
module _ (k n a : List ℕ) (s : State) (start : s ≡ begun k n a) (f : Fits s) where
  fits : Fits (begun k n a)
  fits = let P : State → Type 0 = λ x. Fits x in subst P start f

  pub opens_from : (t : List ℕ) → Bytes t → opened k n a (ciphertext k n a t) (tag k n a t) ≡ Some t
  unfolding opened ciphertext tag
  opens_from t bt =
      let m : ℕ = length t / 16 in
      let all = text_back m (begun k n a) t fits bt (cut_16 t) in
      let long : length (encrypted m (begun k n a) t) ≡ length t = length-encrypted m (begun k n a) t (cut_16 t) in
      let mark : List ℕ = finalized k (after_text m (begun k n a) t) in
      let same_tag : bytes_eq mark mark ≡ true = (bytes_eq-Decides mark mark).1 refl in
      rw (long, all.state, same_tag, all.text)

  pub sealed_from : (c g : List ℕ) → Bytes c → bytes_eq (finalized k (after_ciphertext (length c / 16) (begun k n a) c)) g ≡ true → IsSealing k n a (decrypted (length c / 16) (begun k n a) c) c g
  unfolding ciphertext tag
  sealed_from c g bc p =
      let m : ℕ = length c / 16 in
      let all = ciphertext_back m (begun k n a) c fits bc (cut_16 c) in
      let long : length (decrypted m (begun k n a) c) ≡ length c = length-decrypted m (begun k n a) c (cut_16 c) in
      record {
        same_text = rw long (sym all.text);
        same_tag = rw (long, all.state) (sym ((bytes_eq-Decides (finalized k (after_ciphertext m (begun k n a) c)) g).0 p));
      }

pub opens : Opens
opens k n a t bk bn ba bt = opens_from k n a (begun k n a) refl (begun_fits k n a bk bn ba) t bt

pub only : Only
unfolding opened
only k n a c g t bk bn ba bc e =
    let right = cond_some (bytes_eq (finalized k (after_ciphertext (length c / 16) (begun k n a) c)) g) (decrypted (length c / 16) (begun k n a) c) t e in
    let P : List ℕ → Type 0 = λ x. IsSealing k n a x c g in
    subst P right.1 (sealed_from k n a (begun k n a) refl (begun_fits k n a bk bn ba) c g bc right.0)

-- opening, by whether the tag is right
module _ (k n a c g : List ℕ) where
  pub opened-right : bytes_eq (finalized k (after_ciphertext (length c / 16) (begun k n a) c)) g ≡ true → opened k n a c g ≡ Some (decrypted (length c / 16) (begun k n a) c)
  unfolding opened
  opened-right e = rw e

  pub opened-wrong : bytes_eq (finalized k (after_ciphertext (length c / 16) (begun k n a) c)) g ≡ false → opened k n a c g ≡ None
  unfolding opened
  opened-wrong e = rw e
