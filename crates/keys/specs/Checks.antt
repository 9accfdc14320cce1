-- What the checks of a command answer.
use Rattle.std.specs.Prelude.{◌≡◌, ℕ, ◌+◌, ◌<◌, Bool, true, false, not, List, length, Ok, Err, Result, nat_lt, slice_index_or}
use Rattle.keys.specs.declared.counts.Counts.{Counts}
use Rattle.keys.specs.declared.refusal.Refusal.{Refusal}
use Rattle.keys.specs.declared.refusal.Refusal.TheVariants.{NoKey, NoRoom, WrongRole, UsedUp}
use Rattle.keys.specs.declared.role.Role.{Role}
use Rattle.keys.specs.declared.slot.Slot.{Slot}
use Rattle.keys.specs.declared.stamp.Stamp.{Stamp}
use Rattle.keys.specs.Algebra.{same_role}
use Rattle.keys.specs.Machine as machine
use Rattle.keys.specs.Machine.{Empty, Full, first_empty, limit, capacity}
use Rattle.keys.specs.Tables.{slot_of, stamp_of}

-- Ok if the test came out as wanted, else this refusal
abbrev pub Checks : (wanted test : Bool) → Refusal → Result (Unit {0}) Refusal → Type 0
Checks w b e (Ok u) = b ≡ w
Checks w b e (Err d) = (b ≡ not w) × (d ≡ e)

-- why a place gives no key of role r
abbrev pub Misfits : Role → machine.Place (List ℕ) → Refusal → Type 0
Misfits r Empty d = d ≡ NoKey
Misfits r (Full s) d = (same_role r s.tag.role ≡ false) × (d ≡ WrongRole)

-- the key in place i with its tag, or that there is none
abbrev pub Finds : List (machine.Place (List ℕ)) → ℕ → Result Slot Refusal → Type 0
Finds ps i (Ok s) = (slice_index_or ps i Empty ≡ Full (slot_of s)) × (i < capacity)
Finds ps i (Err d) = (slice_index_or ps i Empty ≡ Empty) × (d ≡ NoKey)

-- the key in place i, which has role r; or that there is none, or one of another role
abbrev pub FindsInRole : List (machine.Place (List ℕ)) → ℕ → Role → Result Slot Refusal → Type 0
FindsInRole ps i r (Ok s) = Finds ps i (Ok s) × (same_role r s.tag.role ≡ true)
FindsInRole ps i r (Err d) = Misfits r (slice_index_or ps i Empty) d

-- the first empty place, or that there is none
abbrev pub Rooms : List (machine.Place (List ℕ)) → Result ℕ Refusal → Type 0
Rooms ps (Ok i) = (nat_lt (first_empty 0 ps) (length ps) ≡ true) × (i ≡ first_empty 0 ps) × (i < capacity)
Rooms ps (Err d) = (nat_lt (first_empty 0 ps) (length ps) ≡ false) × (d ≡ NoRoom)

-- a count that is one more, and what it was; or that it is at its end, and stays
abbrev pub Counted : ℕ → Result ℕ Refusal → ℕ → Type 0
Counted n (Ok m) k = (nat_lt n limit ≡ true) × (m ≡ n) × (k ≡ n + 1)
Counted n (Err d) k = (nat_lt n limit ≡ false) × (d ≡ UsedUp) × (k ≡ n)

-- the counts with other counters
abbrev pub counting : Counts → (drawn count : ℕ) → Counts
counting t d c = record { number = t.number; drawn = d; count = c }

-- the next stamp, which is counted, or that all are used
abbrev pub Stamps : Counts → Result Stamp Refusal → Counts → Type 0
Stamps t (Ok s) u = (nat_lt t.count limit ≡ true) × (stamp_of s ≡ record { number = t.number; count = t.count }) × (u ≡ counting t t.drawn (t.count + 1))
Stamps t (Err d) u = (nat_lt t.count limit ≡ false) × (d ≡ UsedUp) × (u ≡ t)

-- the number of the next key to be drawn, which is counted, or that all are drawn
abbrev pub Draws : Counts → Result ℕ Refusal → Counts → Type 0
Draws t (Ok n) u = (nat_lt t.drawn limit ≡ true) × (n ≡ t.drawn) × (u ≡ counting t (t.drawn + 1) t.count)
Draws t (Err d) u = (nat_lt t.drawn limit ≡ false) × (d ≡ UsedUp) × (u ≡ t)
