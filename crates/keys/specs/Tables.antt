-- The box that a table stands for.
use Rattle.std.specs.Prelude.{ℕ, List}
use Rattle.keys.specs.Algebra as algebra
use Rattle.keys.specs.Machine as machine
use Rattle.keys.specs.declared.slot.Slot.{Slot}
use Rattle.keys.specs.declared.stamp.Stamp.{Stamp}
use Rattle.keys.specs.declared.stamp.StampNumbers.{StampNumbers}
use Rattle.keys.specs.declared.table.Table.{Table}

-- the box of a machine that a table stands for
abbrev pub state_of : Table → machine.Box (List ℕ)
state_of t = record { number = t.counts.number; drawn = t.counts.drawn; count = t.counts.count; places = t.places }

-- the machine's stamp of these numbers
abbrev pub numbers_of : StampNumbers → algebra.Stamp
numbers_of n = record { number = n.number; count = n.count }

-- the machine's stamp
abbrev pub stamp_of : Stamp → algebra.Stamp
stamp_of s = numbers_of s.numbers

-- the machine's key with its tag
abbrev pub slot_of : Slot → algebra.Slot (List ℕ)
slot_of s = record { key = s.key.now; tag = s.tag }

-- the box of a table of empty places
abbrev pub blank_box : ℕ → machine.Box (List ℕ)
blank_box n = record { number = n; drawn = 0; count = 0; places = machine.empties machine.capacity }
