-- One word of input or of output at a time, for the loops of Ascon-Hash256 and Ascon-CXOF128.
use Rattle.std.proofs.Common.{◌≡◌, ℕ, suc, ◌+◌, ◌-◌, ◌*◌, ◌/◌, ◌≤◌, List, [], ◌∷◌, ◌++◌, map, length, fold, take, drop, refl, ap, ◌∙◌, add-one, arith}
use native.Mathlib.Nat.{div-eq-sub-div}
use borrow.Rule.Slice.PartMut.{put_mid}
use Rattle.std.proofs.lemmas.List.{length-append, length-take, length-drop, drop_all, take-append-le, take_at, drop_at, drop-append-le, append_assoc, append-nil}
use Rattle.std.proofs.lemmas.Slice.{take-put_mid}
use Rattle.ascon.specs.declared.state.State.{State}
use Rattle.ascon.specs.Permutation.{p12}
use Rattle.ascon.specs.Blocks.{word, bytes}
use Rattle.ascon.specs.Hash.{add_word, absorbed_words, words, stream, output, initial, cxof_words, cxof128, customized}
use Rattle.ascon.specs.declared.purpose.Purpose.{Purpose}
use Rattle.ascon.specs.Keyed.{string_of, keyed}
use Rattle.ascon.proofs.BlockLaws.{padded_more, length-bytes, take-append, word-take}

pub words_more : (m : List ℕ) → 8 ≤ length m → words m ≡ word (take 8 m) ∷ words (drop 8 m)
unfolding words
words_more m h = ap (map word) (padded_more 8 m (omega arith) h)

-- what a block of a message does to the state
abbrev pub word_step : State → List ℕ → State
word_step s b = p12 (add_word s (word b))

pub absorbed_words-fold : (bs : List (List ℕ)) (s : State) → fold word_step s bs ≡ absorbed_words s (map word bs)
unfolding absorbed_words
absorbed_words-fold [] s = refl
absorbed_words-fold (b ∷ bs) s = absorbed_words-fold bs (word_step s b)

pub absorbed_words-++ : (s : State) (xs ys : List ℕ) → absorbed_words s (xs ++ ys) ≡ absorbed_words (absorbed_words s xs) ys
unfolding absorbed_words
absorbed_words-++ s [] ys = refl
absorbed_words-++ s (x ∷ xs) ys = absorbed_words-++ (p12 (add_word s x)) xs ys

-- the customization string comes first
pub cxof_customized : (z m : List ℕ) (n : ℕ) → cxof128 z m n ≡ output n (absorbed_words (customized z) (words m))
unfolding cxof128 cxof_words customized
cxof_customized z m n = ap (output n) (absorbed_words-++ (initial 0x0000080000cc0004) (8 * length z ∷ words z) (words m))

-- one word of output more
pub output_more : (n : ℕ) (s : State) → 8 ≤ n → output n s ≡ bytes s.x0 ++ output (n - 8) (p12 s)
unfolding output stream
output_more n s h =
    let e : n / 8 + 1 ≡ suc ((n - 8) / 8 + 1) = add-one (n / 8) ∙ ap suc (div-eq-sub-div (omega arith) h) in
    ap (λ k. take n (stream k s)) e ∙ take-append (bytes s.x0) (stream ((n - 8) / 8 + 1) (p12 s)) n 8 (length-bytes s.x0) h

-- the last word of output, or a part of it
pub output-last : (n : ℕ) (s : State) → n ≤ 8 → output n s ≡ take n (bytes s.x0)
unfolding output stream
output-last n s h =
    let e : n / 8 + 1 ≡ suc (n / 8) = add-one (n / 8) in
    ap (λ k. take n (stream k s)) e ∙ take-append-le n (bytes s.x0) (stream (n / 8) (p12 s)) (rw (length-bytes s.x0) h)

-- the loop that squeezes: what is written and what is left give the whole
pub record Squeezed (s₀ s : State) (cur : List ℕ) (at : ℕ) : Type 0 where
  pub within : at ≤ length cur
  pub bytes : take at cur ++ output (length cur - at) s ≡ output (length cur) s₀

module _ (s₀ s : State) (cur : List ℕ) (at : ℕ) (so_far : Squeezed s₀ s cur at) where
  pub squeeze_more : (s' : State) (out : List ℕ) (k : ℕ) → k ≡ 8 → at + 8 ≤ length cur → out ≡ bytes s.x0 → s' ≡ p12 s → Squeezed s₀ s' (put_mid at k cur out) (at + 8)
  squeeze_more s' out k size fits o p =
      let whole : length out ≡ 8 = ap length o ∙ length-bytes s.x0 in
      let longer : length (put_mid at k cur out) ≡ length cur = simp (length-append, length-take, length-drop) (omega arith) in
      let front : take (at + 8) (put_mid at k cur out) ≡ take at cur ++ out = take-put_mid at k cur out (at + 8) (omega arith) (omega arith) in
      let more : output (length cur - at) s ≡ bytes s.x0 ++ output (length cur - at - 8) (p12 s) = output_more (length cur - at) s (omega arith) in
      let less : length cur - (at + 8) ≡ length cur - at - 8 = omega arith in
      let joined = append_assoc (take at cur) (bytes s.x0) (output (length cur - at - 8) (p12 s)) in
      let before = so_far.bytes in
      record { within = rw longer fits; bytes = cc }

  pub squeeze_last : (out : List ℕ) → length cur - at ≤ 8 → out ≡ take (length cur - at) (bytes s.x0) → put_mid at (length cur - at) cur out ≡ output (length cur) s₀
  squeeze_last out h o =
      let w : at ≤ length cur = so_far.within in
      let last = output-last (length cur - at) s h in
      let end : drop (length cur - at) (drop at cur) ≡ [] = drop_all (length cur - at) (drop at cur) (simp length-drop (omega arith)) in
      let nil : out ++ [] ≡ out = append-nil out in
      let before = so_far.bytes in
      cc

-- a key of sixteen bytes is two whole words, whatever follows it
pub words_key : (k t : List ℕ) → length k ≡ 16 → words (k ++ t) ≡ word k ∷ (word (drop 8 k) ∷ words t)
words_key k t h =
    let long : 8 ≤ length (k ++ t) = simp length-append (omega arith) in
    let back : drop 8 (k ++ t) ≡ drop 8 k ++ t = drop-append-le 8 k t (omega arith) in
    let rest : length (drop 8 k) ≡ 8 = simp length-drop (omega arith) in
    let long' : 8 ≤ length (drop 8 k ++ t) = simp length-append (omega arith) in
    let first : word (take 8 (k ++ t)) ≡ word k = ap word (take-append-le 8 k t (omega arith)) ∙ word-take k in
    let second : take 8 (drop 8 k ++ t) ≡ drop 8 k = take_at (drop 8 k) t 8 rest in
    let end : drop 8 (drop 8 k ++ t) ≡ t = drop_at (drop 8 k) t 8 rest in
    let one = words_more (k ++ t) long in
    let two = words_more (drop 8 k ++ t) long' in
    cc

-- a key, then a text, under a customization string
pub keyed_absorbed : (p : Purpose) (k t : List ℕ) → length k ≡ 16 → keyed p k t ≡ output 16 (absorbed_words (p12 (add_word (p12 (add_word (customized (string_of p)) (word k))) (word (drop 8 k)))) (words t))
unfolding keyed absorbed_words
keyed_absorbed p k t h = cxof_customized (string_of p) (k ++ t) 16 ∙ ap (λ (ws : List ℕ). output 16 (absorbed_words (customized (string_of p)) ws)) (words_key k t h)
