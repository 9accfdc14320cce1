use Rattle.std.proofs.Common.{arith, refl}
use Rattle.keys.specs.Machine.{empties}
use Rattle.std.proofs.lemmas.List.{length-set}
use Rattle.keys.proofs.PlaceLaws.{empty_more}
use Rattle.keys.proofs.places.Places.clear.Goals as goal

pub loop-place-init : goal.loop-place-init
unfolding empties
loop-place-init c = (refl, c.self.invariant)

pub loop-place-preserved : goal.loop-place-preserved
loop-place-preserved c =
    let l = c.loop-place in
    (empty_more l.place-items l.place-index c.clear.new.self (omega arith) c.clear.ensures l.invariant.0, simp length-set l.invariant.1)
