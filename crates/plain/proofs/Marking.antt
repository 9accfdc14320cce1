-- The mark of a text, made of its parts.
use Rattle.std.proofs.Common.{◌≡◌, ℕ, zero, suc, ◌+◌, ◌≤◌, List, [], ◌∷◌, ◌++◌, length, take, drop, min, ap, ◌∙◌, arith}
use Rattle.std.proofs.lemmas.List.{length-take, take_min}
use Rattle.keys.specs.Padded.{padded}
use Rattle.keybox.proofs.BufferLaws.{put_front}
use Rattle.plain.specs.Plain.{marked}

-- bytes, and others with noughts behind them
padded-append : (m n : ℕ) (xs ys : List ℕ) → m ≡ length xs + n → padded m (xs ++ ys) ≡ xs ++ padded n ys
unfolding padded
padded-append m n [] ys e = ap (λ k. padded k ys) (omega arith)
padded-append zero n (x ∷ xs) ys e = let z : ⊥ = omega arith in absurd z
padded-append (suc m) n (x ∷ xs) ys e = ap (λ (zs : List ℕ). x ∷ zs) (padded-append m n xs ys (omega arith))

-- half a key, and the start of a text in the place of noughts
pub marks : (k v front noughts : List ℕ) (n : ℕ) → length k ≡ 16 → front ≡ take 8 k → n ≡ min (length v) 8 → noughts ≡ 0 ∷ 0 ∷ 0 ∷ 0 ∷ 0 ∷ 0 ∷ 0 ∷ 0 ∷ []
    → front ++ (take n v ++ drop (length (take n v)) noughts) ≡ marked k v
unfolding padded
marks k v front noughts n l f e z =
    let start : take n v ≡ take 8 v = ap (λ m. take m v) (omega arith) ∙ take_min 8 v in
    let fits : length (take n v) ≤ 8 = simp length-take (omega arith) in
    let half : 16 ≡ length (take 8 k) + 8 = simp length-take (omega arith) in
    let put : take n v ++ drop (length (take n v)) (padded 8 []) ≡ padded 8 (take n v) = put_front 8 (take n v) fits in
    let whole : padded 16 (take 8 k ++ take 8 v) ≡ take 8 k ++ padded 8 (take 8 v) = padded-append 16 8 (take 8 k) (take 8 v) half in
    cc
