-- Hexadecimal: bytes as digits, two to a byte, the high half first.
use Rattle.std.specs.Prelude.{◌≡◌, ℕ, ◌+◌, ◌-◌, ◌*◌, ◌/◌, ◌%◌, ◌<◌, Bool, cond, ◌&&◌, List, [], ◌∷◌, ◌++◌, map, Some, None, Option, nat_le, nat_lt}

-- Whether b lies from low to high.
abbrev pub between : ℕ → ℕ → ℕ → Bool
between low high b = nat_le low b && nat_le b high

-- The value of a digit, small or capital; no other sign has one.
abbrev pub digit : ℕ → Option ℕ
digit b =
    cond (between 48 57 b) (Some (b - 48))
    (cond (between 97 102 b) (Some (b - 97 + 10)) (cond (between 65 70 b) (Some (b - 65 + 10)) None))

-- The byte of two digits' values.
abbrev pub byte : Option ℕ → Option ℕ → Option ℕ
byte None l = None
byte (Some h) None = None
byte (Some h) (Some l) = Some (h * 16 + l)

-- The bytes bs, then those of a text that has been read.
abbrev pub following : List ℕ → Option (List ℕ) → Option (List ℕ)
following bs None = None
following bs (Some cs) = Some (bs ++ cs)

-- A first byte, then the others, if both have been read.
abbrev pub onto : Option ℕ → Option (List ℕ) → Option (List ℕ)
onto None bs = None
onto (Some b) bs = following (b ∷ []) bs

-- The bytes that digits stand for; none for an odd number of them or for another sign.
unfoldable pub decoded : List ℕ → Option (List ℕ)
decoded [] = Some []
decoded (h ∷ []) = None
decoded (h ∷ l ∷ ds) = onto (byte (digit h) (digit l)) (decoded ds)

-- The small digit of a value below 16.
abbrev pub sign : ℕ → ℕ
sign d = cond (nat_lt d 10) (48 + d) (97 + (d - 10))

-- The digits of bytes.
unfoldable pub encoded : List ℕ → List ℕ
encoded [] = []
encoded (b ∷ bs) = sign (b / 16) ∷ sign (b % 16) ∷ encoded bs

-- Each number is a byte.
abbrev pub Bytes : List ℕ → Type 0
Bytes [] = Unit {0}
Bytes (b ∷ bs) = (b < 256) × Bytes bs

-- What was encoded is read back.
abbrev pub ReadsBack : Type 0
ReadsBack = (bs : List ℕ) → Bytes bs → decoded (encoded bs) ≡ Some bs

-- A digit as it is written: a capital made small.
abbrev pub small : ℕ → ℕ
small b = cond (between 65 70 b) (b + 32) b

-- What was decoded is written again, but for capitals.
abbrev pub WritesBack : Type 0
WritesBack = (ds bs : List ℕ) → decoded ds ≡ Some bs → encoded bs ≡ map small ds
