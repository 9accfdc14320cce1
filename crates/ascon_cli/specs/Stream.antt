-- The whole input, byte by byte: each line is answered when its newline, 10, has come.
use Rattle.std.specs.Prelude.{◌≡◌, ℕ, cond, List, [], ◌∷◌, ◌++◌, length, ◌==◌, ◌≢◌}
use Rattle.ascon_cli.specs.Format.{reply}

-- The answers to the lines that end in these bytes, where p is what the first line has already.
unfoldable pub replies : List ℕ → List ℕ → List ℕ
replies p [] = []
replies p (b ∷ bs) = cond (b == 10) (reply p ++ 10 ∷ replies [] bs) (replies (p ++ b ∷ []) bs)

-- What the last line has, which no newline ended.
unfoldable pub pending : List ℕ → List ℕ → List ℕ
pending p [] = p
pending p (b ∷ bs) = cond (b == 10) (pending [] bs) (pending (p ++ b ∷ []) bs)

-- The answer to a last line without a newline; an empty one is no line.
abbrev pub last_reply : List ℕ → List ℕ
last_reply p = cond (length p == 0) [] (reply p ++ 10 ∷ [])

-- All that is written for an input.
abbrev pub transcript : List ℕ → List ℕ
transcript input = replies [] input ++ last_reply (pending [] input)

-- However reads cut the input, the answers are the same.
abbrev pub CutsDoNotMatter : Type 0
CutsDoNotMatter =
    (p a b : List ℕ) → (replies p (a ++ b) ≡ replies p a ++ replies (pending p a) b) × (pending p (a ++ b) ≡ pending (pending p a) b)

-- A line has no newline in it.
abbrev pub Line : List ℕ → Type 0
Line [] = Unit {0}
Line (b ∷ bs) = (b ≢ 10) × Line bs

-- Each of these is a line.
abbrev pub Lines : List (List ℕ) → Type 0
Lines [] = Unit {0}
Lines (l ∷ ls) = Line l × Lines ls

-- Lines, each with its newline.
abbrev pub ended : List (List ℕ) → List ℕ
ended [] = []
ended (l ∷ ls) = l ++ 10 ∷ ended ls

-- Their answers, each with its newline.
abbrev pub answers : List (List ℕ) → List ℕ
answers [] = []
answers (l ∷ ls) = reply l ++ 10 ∷ answers ls

-- Each line is answered by one line, in order; the last may lack its newline.
abbrev pub LineByLine : Type 0
LineByLine = (ls : List (List ℕ)) (t : List ℕ) → Lines ls → Line t → transcript (ended ls ++ t) ≡ answers ls ++ last_reply t
