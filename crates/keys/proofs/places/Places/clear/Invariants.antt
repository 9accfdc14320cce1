-- The places so far are empty.
use Rattle.std.proofs.Common.{◌≡◌, map, length, take}
use Rattle.keys.specs.Machine.{capacity, empties}
use Rattle.keys.specs.Contents.{place_of}
use Rattle.keys.proofs.places.Places.clear.Given as goal

abbrev pub invariant-loop-place : goal.invariant-loop-place
invariant-loop-place l = (take l.place-index (map place_of l.place-items) ≡ empties l.place-index) × (length l.place-items ≡ capacity)
