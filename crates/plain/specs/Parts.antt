-- What the parts of the plain cipher read.
use Rattle.std.specs.Prelude.{List, ℕ, Some, None, Option}
use Rattle.keys.specs.Algebra as algebra
use Rattle.keys.specs.Tables.{slot_of}
use Rattle.keys.specs.declared.slot.Slot.{Slot}
use Rattle.keybox.specs.declared.text.Text.{Text}

-- what a lent text, if there is one, holds
abbrev pub lent_text : Option Text → Option (List ℕ)
lent_text None = None
lent_text (Some t) = Some t.bytes.now

-- the machine's slot of a lent key with its tag, if there is one
abbrev pub lent_slot : Option Slot → Option (algebra.Slot (List ℕ))
lent_slot None = None
lent_slot (Some s) = Some (slot_of s)
