use Rattle.std.proofs.Common.{◌-◌, length}
use Rattle.ascon.specs.Aead.{encrypted, after_text}
use Rattle.ascon.proofs.AeadLaws.{Left}
use Rattle.ascon.proofs.state.State.encrypt.Given as goal

abbrev pub invariant-loop-block : goal.invariant-loop-block
invariant-loop-block l = Left encrypted after_text l.initial.s l.initial.text l.s l.text l.at

abbrev pub decreases-loop-block : goal.decreases-loop-block
decreases-loop-block l = length l.initial.text - l.at
