use Rattle.std.proofs.Common.{◌∙◌, arith}
use Rattle.ascon.specs.Aead.{encrypted, after_text}
use Rattle.ascon.proofs.AeadLaws.{encrypt_step, left_last}
use Rattle.ascon.proofs.state.State.encrypt.Goals as goal

pub loop-block-preserved : goal.loop-block-preserved
loop-block-preserved c = encrypt_step _ _ _ _ _ _ c.add-s.result c.p8-s.result c.copy_from_slice.new.self _ c.loop-block.invariant c.in-Some.ensures.cases (omega arith) c.add-s.ensures (c.copy_from_slice.ensures.after ∙ c.rate.ensures) c.p8-s.ensures

pub returns : goal.returns
returns c =
    let end = left_last encrypted after_text c.args.self c.args.text.now c.loop-block.s c.loop-block.text c.loop-block.at c.loop-block.invariant c.encrypt_last.result c.encrypt_last.new.text c.in_default.ensures.cases c.encrypt_last.ensures.bytes c.encrypt_last.ensures.state in
    record { bytes = end.0; state = end.1 }
