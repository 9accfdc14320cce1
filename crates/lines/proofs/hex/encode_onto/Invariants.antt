-- The digits so far, with those of the bytes to come, are the whole; and the room left is enough for them.
use Rattle.std.proofs.Common.{◌≡◌, ◌+◌, ◌-◌, ◌*◌, ◌≤◌, ◌++◌, length, drop, vec_items, vec_len, vec_capacity}
use Rattle.lines.specs.Hex.{encoded}
use Rattle.lines.proofs.hex.encode_onto.Given as goal

abbrev pub invariant-loop-byte : goal.invariant-loop-byte
invariant-loop-byte l =
    (vec_items l.text ++ encoded (drop l.byte-index l.bytes) ≡ vec_items l.initial.text ++ encoded l.bytes)
    × (vec_len l.text + 2 * (length l.bytes - l.byte-index) ≤ vec_capacity l.text)
