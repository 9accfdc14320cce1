-- Bytes with noughts behind them.
use Rattle.std.proofs.Common.{◌≡◌, ℕ, zero, suc, ◌≤◌, List, [], ◌∷◌, length, take, replicate, refl, ap, arith}
use Rattle.keys.specs.Padded.{padded}

-- nothing, and noughts behind it
pub padded_none : (n : ℕ) → padded n [] ≡ replicate n 0
unfolding padded
padded_none zero = refl
padded_none (suc n) = ap (λ bs. 0 ∷ bs) (padded_none n)

-- bytes that fill their memory have nothing behind them
pub padded_whole : (n : ℕ) (bs : List ℕ) → length bs ≡ n → padded n bs ≡ bs
unfolding padded
padded_whole zero [] e = refl
padded_whole zero (b ∷ bs) e = let z : ⊥ = omega arith in absurd z
padded_whole (suc n) [] e = let z : ⊥ = omega arith in absurd z
padded_whole (suc n) (b ∷ bs) e = ap (λ cs. b ∷ cs) (padded_whole n bs (omega arith))

-- as many of padded bytes as there were
pub take-padded : (n : ℕ) (bs : List ℕ) → length bs ≤ n → take (length bs) (padded n bs) ≡ bs
unfolding padded
take-padded n [] h = refl
take-padded zero (b ∷ bs) h = let z : ⊥ = omega arith in absurd z
take-padded (suc n) (b ∷ bs) h = ap (λ cs. b ∷ cs) (take-padded n bs (omega arith))
