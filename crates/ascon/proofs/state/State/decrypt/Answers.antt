use Rattle.std.proofs.Common.{◌∙◌, arith}
use Rattle.ascon.specs.Aead.{decrypted, after_ciphertext}
use Rattle.ascon.proofs.AeadLaws.{decrypt_step, left_last}
use Rattle.ascon.proofs.state.State.decrypt.Goals as goal

pub loop-block-preserved : goal.loop-block-preserved
loop-block-preserved c = decrypt_step _ _ _ _ _ _ c.add.result c.replace-next.result c.p8-s.result c.copy_from_slice.new.self _ c.loop-block.invariant c.in-Some.ensures.cases (omega arith) c.replace-next.ensures c.add.ensures (c.copy_from_slice.ensures.after ∙ c.rate-opened.ensures) c.p8-s.ensures

pub returns : goal.returns
returns c =
    let end = left_last decrypted after_ciphertext c.args.self c.args.text.now c.loop-block.s c.loop-block.text c.loop-block.at c.loop-block.invariant c.decrypt_last.result c.decrypt_last.new.text c.in_default.ensures.cases c.decrypt_last.ensures.bytes c.decrypt_last.ensures.state in
    record { bytes = end.0; state = end.1 }
