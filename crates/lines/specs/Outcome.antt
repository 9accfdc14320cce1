-- What `decode` answers.
use Rattle.std.specs.Prelude.{◌≡◌, ℕ, List, Some, None, Ok, Err, vec_items, Result, Vec}
use Rattle.lines.specs.Hex.{decoded}
use Rattle.lines.specs.declared.hex.HexError.{HexError}
use Rattle.lines.specs.declared.hex.HexError.TheVariants.{NotHex, Memory}
use Rattle.std.specs.declared.alloc.Global.{Global}

-- The bytes, or that there are none; for want of memory nothing is said.
abbrev pub Decodes : List ℕ → Result (Vec ℕ Global) HexError → Type 0
Decodes ds (Ok v) = decoded ds ≡ Some (vec_items v)
Decodes ds (Err NotHex) = decoded ds ≡ None
Decodes ds (Err Memory) = Unit {0}
