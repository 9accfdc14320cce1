use Rattle.std.proofs.Common.{◌-◌, length}
use Rattle.ascon.specs.Aead.{decrypted, after_ciphertext}
use Rattle.ascon.proofs.AeadLaws.{Left}
use Rattle.ascon.proofs.state.State.decrypt.Given as goal

abbrev pub invariant-loop-block : goal.invariant-loop-block
invariant-loop-block l = Left decrypted after_ciphertext l.initial.s l.initial.text l.s l.text l.at

abbrev pub decreases-loop-block : goal.decreases-loop-block
decreases-loop-block l = length l.initial.text - l.at
