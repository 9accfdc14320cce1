-- What the memory of a place holds.
use Rattle.std.specs.Prelude.{◌≡◌, ℕ, List, Some, None, Option}
use Rattle.keys.specs.Padded.{blank_key}
use Rattle.keys.specs.declared.tag.Tag.{Tag}

-- the bytes that a place may have: noughts if it is empty
abbrev pub kept_in : Option Tag → List ℕ → List ℕ
kept_in None bs = blank_key
kept_in (Some t) bs = bs

-- the key's bytes of an empty place are noughts
abbrev pub Clear : Option Tag → List ℕ → Type 0
Clear t bs = bs ≡ kept_in t bs
