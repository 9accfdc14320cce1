-- A part written behind the bytes of a buffer.
use Rattle.std.proofs.Common.{◌≡◌, ℕ, zero, suc, ◌+◌, ◌≤◌, List, [], ◌∷◌, ◌++◌, length, take, drop, refl, ap, arith}
use Rattle.std.proofs.lemmas.List.{length-append, length-take-le}
use Rattle.keys.specs.Padded.{padded}
use Rattle.keys.proofs.PaddedLaws.{take-padded}
use Rattle.keybox.specs.declared.buffer.TheConstants.{BLOB_LIMIT}

-- n bytes in all
length-padded : (n : ℕ) (bs : List ℕ) → length (padded n bs) ≡ n
unfolding padded
length-padded zero bs = refl
length-padded (suc n) [] = ap suc (length-padded n [])
length-padded (suc n) (b ∷ bs) = ap suc (length-padded n bs)

-- a part in the place of the noughts at the front
pub put_front : (n : ℕ) (part : List ℕ) → length part ≤ n → part ++ drop (length part) (padded n []) ≡ padded n part
unfolding padded
put_front zero [] h = refl
put_front zero (p ∷ part) h = let z : ⊥ = omega arith in absurd z
put_front (suc n) [] h = refl
put_front (suc n) (p ∷ part) h = ap (λ (xs : List ℕ). p ∷ xs) (put_front n part (omega arith))

-- a part in the place of the noughts behind bytes
put_behind : (n : ℕ) (bs part : List ℕ) → length bs + length part ≤ n
    → bs ++ (part ++ drop (length part) (drop (length bs) (padded n bs))) ≡ padded n (bs ++ part)
unfolding padded
put_behind n [] part h = put_front n part (omega arith)
put_behind zero (b ∷ bs) part h = let z : ⊥ = omega arith in absurd z
put_behind (suc n) (b ∷ bs) part h = ap (λ (xs : List ℕ). b ∷ xs) (put_behind n bs part (omega arith))

-- what a buffer of n bytes keeps, when k bytes behind them are written over
pub kept_more : (n k : ℕ) (bs part : List ℕ) → k ≡ length part → n + length part ≤ BLOB_LIMIT → n ≤ BLOB_LIMIT → bs ≡ padded BLOB_LIMIT (take n bs)
    → take n bs ++ (part ++ drop k (drop n bs)) ≡ padded BLOB_LIMIT (take (n + length part) (take n bs ++ (part ++ drop k (drop n bs))))
kept_more n k bs part e h f clear =
    let size : length (take n bs) ≡ n = length-take-le n bs (omega (arith, ap length clear, length-padded BLOB_LIMIT (take n bs))) in
    let fits : length (take n bs) + length part ≤ BLOB_LIMIT = omega (arith, size, h) in
    let whole : length (take n bs ++ part) ≡ n + length part = simp length-append (omega (arith, size)) in
    let cut = take-padded BLOB_LIMIT (take n bs ++ part) (simp length-append fits) in
    cc (put_behind BLOB_LIMIT (take n bs) part fits)
