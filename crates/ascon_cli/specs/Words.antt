-- The words of a line: what stands between single spaces. Two spaces in a row have an empty word between them.
use Rattle.std.specs.Prelude.{ℕ, cond, List, [], ◌∷◌, ◌==◌}

-- A sign in front of the first word.
abbrev pub lengthened : ℕ → List (List ℕ) → List (List ℕ)
lengthened b [] = []
lengthened b (w ∷ ws) = (b ∷ w) ∷ ws

-- The words of a text, at least one: 32 is the space.
unfoldable pub words : List ℕ → List (List ℕ)
words [] = [] ∷ []
words (b ∷ bs) = cond (b == 32) ([] ∷ words bs) (lengthened b (words bs))

-- The words of the rest of a line, each after its space.
unfoldable pub spaced : List ℕ → List (List ℕ)
spaced [] = []
spaced (b ∷ bs) = words bs
