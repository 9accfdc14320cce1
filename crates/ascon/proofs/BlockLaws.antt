-- Whole blocks and what is left of them, for the loops over a message.
use Rattle.std.proofs.Common.{◌≡◌, ℕ, zero, suc, ◌+◌, ◌-◌, ◌*◌, ◌/◌, ◌<◌, ◌≤◌, List, [], ◌∷◌, ◌++◌, length, fold, get_or, take, drop, replicate, sym, refl, ap, ◌∙◌, ⊎_elim, add-one, arith, lit<, get_or-drop, get_or-take}
use native.Mathlib.Nat.{div-eq-sub-div, div-eq_of_lt}
use borrow.Rule.Slice.PartMut.{put_mid, post_of}
use Rattle.std.proofs.lemmas.List.{length-append, length-take, length-drop, drop-drop, drop_all, take_at, drop_at, append_assoc, append-nil}
use Rattle.std.proofs.lemmas.Slice.{take-put_mid, drop-put_mid}
use Rattle.std.proofs.lemmas.List.Sums.{fold-append}
use Rattle.std.proofs.lemmas.Bool.{cases_lt}
use lib.Seq.{take-append-add}
use Rattle.std.specs.Simd.{first_chunks}
use Rattle.std.proofs.Math.Nat.{suc-mul, zero-mul}
use Rattle.ascon.specs.Blocks.{pad, blocks, padded, bytes, word}

-- one whole block more than what is left behind it has
pub whole_more : (r : ℕ) (m : List ℕ) → 0 < r → r ≤ length m → length m / r ≡ suc (length (drop r m) / r)
whole_more r m p h = div-eq-sub-div p h ∙ (add-one ((length m - r) / r) ∙ ap (λ n. suc (n / r)) (sym (length-drop r m)))

-- n whole blocks of r bytes, and less than one more
abbrev pub Cut : ℕ → ℕ → List ℕ → Type 0
Cut r zero m = length m < r
Cut r (suc n) m = (r ≤ length m) × Cut r n (drop r m)

pub cut : (r : ℕ) → 0 < r → (n : ℕ) (m : List ℕ) → length m / r ≡ n → Cut r n m
cut r p zero m e =
    ⊎_elim
    (λ (h : length m < r). h)
    (λ (h : r ≤ length m). let more = whole_more r m p h in let z : ⊥ = omega arith in absurd z)
    (cases_lt (length m) r)
cut r p (suc n) m e =
    ⊎_elim
    (λ (h : length m < r). let none : length m / r ≡ 0 = div-eq_of_lt h in let z : ⊥ = omega arith in absurd z)
    (λ (h : r ≤ length m). let more = whole_more r m p h in (h, cut r p n (drop r m) (omega arith)))
    (cases_lt (length m) r)

pub padded_more : (r : ℕ) (m : List ℕ) → 0 < r → r ≤ length m → padded r m ≡ take r m ∷ padded r (drop r m)
unfolding padded blocks
padded_more r m p h = ap (λ n. blocks r n m) (whole_more r m p h)

-- two halves of eight bytes, written one after the other
pub two_halves : (a b out : List ℕ) → length a ≡ 8 → length b ≡ 8 → length out ≡ 16 → put_mid 8 8 (a ++ post_of 0 8 out) b ≡ a ++ b
two_halves a b out la lb lo =
    let none : drop 8 (drop 8 out) ≡ [] = drop-drop 8 8 out ∙ drop_all 16 out (omega arith) in
    let front : take 8 (a ++ drop 8 out) ≡ a = take_at a (drop 8 out) 8 la in
    let back : drop 8 (a ++ drop 8 out) ≡ drop 8 out = drop_at a (drop 8 out) 8 la in
    let end : b ++ [] ≡ b = append-nil b in
    cc

-- a block of sixteen bytes, written where it was read
module _ (cur out : List ℕ) (at k : ℕ) (size : k ≡ 16) (fits : at + 16 ≤ length cur) (whole : length out ≡ 16) where
  pub length_written : length (put_mid at k cur out) ≡ length cur
  length_written = simp (length-append, length-take, length-drop) (omega arith)

  -- what is behind it stays
  pub behind_written : drop (at + 16) (put_mid at k cur out) ≡ drop 16 (drop at cur)
  behind_written = drop-put_mid at k cur out (at + 16) (omega arith) (omega arith) (whole ∙ sym size) ∙ sym (drop-drop 16 at cur)

  -- what stands before it grows by it
  pub block_written : (F : List ℕ → List ℕ) → take (at + 16) (put_mid at k cur out) ++ F (drop (at + 16) (put_mid at k cur out)) ≡ take at cur ++ (out ++ F (drop 16 (drop at cur)))
  block_written F =
      let front : take (at + 16) (put_mid at k cur out) ≡ take at cur ++ out = take-put_mid at k cur out (at + 16) (omega arith) (omega arith) in
      rw (front, behind_written) (append_assoc (take at cur) out (F (drop 16 (drop at cur))))

pub length-bytes : (x : ℕ) → length (bytes x) ≡ 8
unfolding bytes
length-bytes x = refl

-- noughts behind a list change no word of it
pub get_or_noughts : (m : List ℕ) (k i : ℕ) → get_or (m ++ replicate k 0) i 0 ≡ get_or m i 0
get_or_noughts [] zero i = refl
get_or_noughts [] (suc k) zero = refl
get_or_noughts [] (suc k) (suc i) = get_or_noughts [] k i
get_or_noughts (x ∷ m) k zero = refl
get_or_noughts (x ∷ m) k (suc i) = get_or_noughts m k i

pub word_noughts : (m : List ℕ) (k i : ℕ) → word (drop i (m ++ replicate k 0)) ≡ word (drop i m)
unfolding word
word_noughts m k i = simp (get_or-drop, get_or_noughts)

-- a front of two lists that reaches into the second
pub take-append : (xs ys : List ℕ) (n k : ℕ) → length xs ≡ k → k ≤ n → take n (xs ++ ys) ≡ xs ++ take (n - k) ys
take-append xs ys n k l h = let e : n ≡ length xs + (n - k) = omega arith in ap (λ i. take i (xs ++ ys)) e ∙ take-append-add xs ys (n - k)

-- a word is that of the first eight bytes
pub word-take : (m : List ℕ) → word (take 8 m) ≡ word m
unfolding word
word-take m = rw (get_or-take 8 m 0 0 (lit< tt), get_or-take 8 m 1 0 (lit< tt), get_or-take 8 m 2 0 (lit< tt), get_or-take 8 m 3 0 (lit< tt), get_or-take 8 m 4 0 (lit< tt), get_or-take 8 m 5 0 (lit< tt), get_or-take 8 m 6 0 (lit< tt), get_or-take 8 m 7 0 (lit< tt))

-- the blocks of a message: those that are whole, and the last one
pub blocks_split : (r n : ℕ) (m : List ℕ) → blocks r n m ≡ first_chunks r n m ++ pad r (drop (n * r) m) ∷ []
unfolding blocks
blocks_split r zero m = rw zero-mul refl
blocks_split r (suc n) m =
    let e : drop (n * r) (drop r m) ≡ drop (suc n * r) m = drop-drop (n * r) r m ∙ ap (λ k. drop k m) (omega (arith, suc-mul n r)) in
    rw (← e) (ap (λ (bs : List (List ℕ)). take r m ∷ bs) (blocks_split r n (drop r m)))

-- a step for each whole block, and one for the last
pub fold_padded : {S : Type 0} (step : S → List ℕ → S) (r : ℕ) (m : List ℕ) (s : S) → step (fold step s (first_chunks r (length m / r) m)) (pad r (drop (length m / r * r) m)) ≡ fold step s (padded r m)
unfolding padded
fold_padded step r m s =
    sym (ap (fold step s) (blocks_split r (length m / r) m) ∙ fold-append step s (first_chunks r (length m / r) m) (pad r (drop (length m / r * r) m) ∷ []))

-- the words of the two halves of a block
pub halves : (b : List ℕ) (cs : List (List ℕ)) → cs ≡ first_chunks 8 (length b / 8) b → length b ≡ 16 → (word (get_or cs 0 []) ≡ word b) × (word (get_or cs 1 []) ≡ word (drop 8 b))
halves b cs e l =
    let two : cs ≡ first_chunks 8 2 b = e ∙ ap (λ n. first_chunks 8 (n / 8) b) l in
    (ap (λ (xs : List (List ℕ)). word (get_or xs 0 [])) two ∙ word-take b, ap (λ (xs : List (List ℕ)). word (get_or xs 1 [])) two ∙ word-take (drop 8 b))
