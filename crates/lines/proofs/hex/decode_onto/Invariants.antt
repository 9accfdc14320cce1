-- The bytes so far, with those of the pairs to come, are the whole; and the room left is enough for them.
use Rattle.std.proofs.Common.{◌≡◌, ◌+◌, ◌-◌, ◌≤◌, length, drop, vec_items, vec_len, vec_capacity}
use Rattle.lines.specs.Hex.{following}
use Rattle.lines.proofs.Digits.{decoded_pairs}
use Rattle.lines.proofs.hex.decode_onto.Given as goal

abbrev pub invariant-loop-high : goal.invariant-loop-high
invariant-loop-high l =
    (following (vec_items l.bytes) (decoded_pairs (drop l.high-index l.pairs)) ≡ following (vec_items l.initial.bytes) (decoded_pairs l.pairs))
    × (vec_len l.bytes + (length l.pairs - l.high-index) ≤ vec_capacity l.bytes)
