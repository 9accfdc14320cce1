use Rattle.std.proofs.Common.{◌-◌, length}
use Rattle.ascon.proofs.HashLaws.{Squeezed}
use Rattle.ascon.proofs.state.State.squeeze.Given as goal

abbrev pub invariant-loop-out : goal.invariant-loop-out
invariant-loop-out l = Squeezed l.initial.s l.s l.out l.at

abbrev pub decreases-loop-out : goal.decreases-loop-out
decreases-loop-out l = length l.initial.out - l.at
