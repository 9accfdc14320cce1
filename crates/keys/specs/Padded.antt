-- Bytes in lent memory that may be longer than they are.
use Rattle.std.specs.Prelude.{ℕ, zero, suc, List, [], ◌∷◌}

-- bytes, and noughts behind them, n in all
unfoldable pub padded : ℕ → List ℕ → List ℕ
padded zero bs = []
padded (suc n) [] = 0 ∷ padded n []
padded (suc n) (b ∷ bs) = b ∷ padded n bs

-- the bytes of a key that is wiped
abbrev pub blank_key : List ℕ
blank_key = padded 16 []
