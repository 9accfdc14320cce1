-- The words that Ascon-CXOF128 absorbs determine customization string and message.
use Rattle.std.proofs.Common.{◌≡◌, ℕ, zero, suc, ◌-◌, ◌*◌, ◌/◌, ◌<◌, List, [], ◌∷◌, ◌++◌, map, length, get_or, take, drop, replicate, sym, refl, ap, ◌∙◌, ⊎_elim, arith}
use Rattle.std.proofs.lemmas.List.{length-map, length-take-le, take_at, drop_at, take-append-drop, get_or_at, get_or-append_right, ext_get_or}
use Rattle.std.proofs.lemmas.Bool.{cases_order}
use Rattle.ascon.specs.Blocks.{Bytes, word, bytes, pad, blocks, padded}
use Rattle.ascon.specs.Hash.{words, cxof_words}
use Rattle.ascon.specs.Laws.{Determines}
use Rattle.ascon.proofs.BlockLaws.{Cut, cut, get_or_noughts}
use Rattle.ascon.proofs.WordLaws.{byte_word, Bytes-take, Bytes-drop, Bytes-pad, length-pad}

-- eight bytes are determined by their word
word_determines : (a b : List ℕ) → Bytes a → Bytes b → length a ≡ 8 → length b ≡ 8 → word a ≡ word b → a ≡ b
word_determines a b h k l m e =
    ext_get_or 0 a b (l ∙ sym m)
    (λ (i : ℕ) (p : i < length a).
    let q : i < 8 = omega arith in
    sym (byte_word a h i q) ∙ (ap (λ x. get_or (bytes x) i 0) e ∙ byte_word b k i q))

-- the byte that begins the padding, and the noughts behind it
pad_mark : (r : ℕ) (m : List ℕ) → get_or (pad r m) (length m) 0 ≡ 1
pad_mark r m = get_or_at m 1 (replicate (r - 1 - length m) 0) 0 (length m) refl

pad_behind : (r : ℕ) (m : List ℕ) (j : ℕ) → length m < j → get_or (pad r m) j 0 ≡ 0
pad_behind r m j h =
    let e : j - length m ≡ suc (j - length m - 1) = omega arith in
    let behind : get_or (m ++ 1 ∷ replicate (r - 1 - length m) 0) j 0 ≡ get_or (1 ∷ replicate (r - 1 - length m) 0) (j - length m) 0 = get_or-append_right m (1 ∷ replicate (r - 1 - length m) 0) (length m) j 0 refl (omega arith) in
    let nought : get_or (1 ∷ replicate (r - 1 - length m) 0) (suc (j - length m - 1)) 0 ≡ 0 = get_or_noughts [] (r - 1 - length m) (j - length m - 1) in
    rw (behind, e) nought

pad_front : (r : ℕ) (m : List ℕ) → take (length m) (pad r m) ≡ m
pad_front r m = take_at m (1 ∷ replicate (r - 1 - length m) 0) (length m) refl

-- a message is determined by what padding makes of it
pad_apart : (r : ℕ) (m n : List ℕ) → length m < length n → pad r m ≡ pad r n → m ≡ n
pad_apart r m n l e =
    let one = pad_mark r n in
    let none = pad_behind r m (length n) l in
    let here = ap (λ (xs : List ℕ). get_or xs (length n) 0) e in
    let z : ⊥ = omega arith in
    absurd z

pad_determines : (r : ℕ) (m n : List ℕ) → pad r m ≡ pad r n → m ≡ n
pad_determines r m n e =
    ⊎_elim
    (λ (l : length m ≡ length n). sym (pad_front r m) ∙ (ap (λ k. take k (pad r m)) l ∙ (ap (take (length n)) e ∙ pad_front r n)))
    (⊎_elim
    (λ (l : length m < length n). pad_apart r m n l e)
    (λ (l : length n < length m). sym (pad_apart r n m l (sym e))))
    (cases_order (length m) (length n))

length-blocks : (r n : ℕ) (m : List ℕ) → length (blocks r n m) ≡ suc n
unfolding blocks
length-blocks r zero m = refl
length-blocks r (suc n) m = ap suc (length-blocks r n (drop r m))

blocks_determine : (k : ℕ) (m n : List ℕ) → Bytes m → Bytes n → Cut 8 k m → Cut 8 k n → map word (blocks 8 k m) ≡ map word (blocks 8 k n) → m ≡ n
unfolding blocks
blocks_determine zero m n b c p q e =
    let one : word (pad 8 m) ≡ word (pad 8 n) = cc in
    pad_determines 8 m n (word_determines (pad 8 m) (pad 8 n) (Bytes-pad 8 m b) (Bytes-pad 8 n c) (length-pad 8 m p) (length-pad 8 n q) one)
blocks_determine (suc k) m n b c p q e =
    let first : word (take 8 m) ≡ word (take 8 n) = cc in
    let others : map word (blocks 8 k (drop 8 m)) ≡ map word (blocks 8 k (drop 8 n)) = cc in
    let front : take 8 m ≡ take 8 n = word_determines (take 8 m) (take 8 n) (Bytes-take 8 m b) (Bytes-take 8 n c) (length-take-le 8 m p.0) (length-take-le 8 n q.0) first in
    let behind : drop 8 m ≡ drop 8 n = blocks_determine k (drop 8 m) (drop 8 n) (Bytes-drop 8 m b) (Bytes-drop 8 n c) p.1 q.1 others in
    let left = take-append-drop 8 m in
    let right = take-append-drop 8 n in
    cc

length-words : (m : List ℕ) → length (words m) ≡ suc (length m / 8)
unfolding words padded
length-words m = length-map (blocks 8 (length m / 8) m) word ∙ length-blocks 8 (length m / 8) m

-- a message is determined by its words
pub words_determine : (m n : List ℕ) → Bytes m → Bytes n → words m ≡ words n → m ≡ n
unfolding words padded
words_determine m n b c e =
    let l = length-words m in
    let r = length-words n in
    let same : length m / 8 ≡ length n / 8 = let x : length (words m) ≡ length (words n) = ap length e in omega arith in
    blocks_determine (length m / 8) m n b c (cut 8 (omega arith) (length m / 8) m refl) (cut 8 (omega arith) (length m / 8) n (sym same)) (e ∙ ap (λ k. map word (blocks 8 k n)) (sym same))

pub determines : Determines
unfolding cxof_words
determines z m z' m' bz bm bz' bm' lz lz' e =
    let bits : 8 * length z ≡ 8 * length z' = cc in
    let both : words z ++ words m ≡ words z' ++ words m' = cc in
    let size : length z ≡ length z' = omega arith in
    let count : length (words z) ≡ length (words z') = length-words z ∙ (ap (λ n. suc (n / 8)) size ∙ sym (length-words z')) in
    let strings : words z ≡ words z' = sym (take_at (words z) (words m) (length (words z')) count) ∙ (ap (take (length (words z'))) both ∙ take_at (words z') (words m') (length (words z')) refl) in
    let messages : words m ≡ words m' = sym (drop_at (words z) (words m) (length (words z')) count) ∙ (ap (drop (length (words z'))) both ∙ drop_at (words z') (words m') (length (words z')) refl) in
    (words_determine z z' bz bz' strings, words_determine m m' bm bm' messages)
