use Rattle.std.proofs.Common.{Some, vec_items, sym, ap, ◌∙◌, append-nil, arith}
use Rattle.lines.specs.Hex.{following}
use Rattle.lines.proofs.Digits.{decoded_bad, decoded_end, decoded_odd, decoded-pairs, decoded-step, following_none}
use Rattle.lines.proofs.hex.decode_onto.Goals as goal

-- a digit is left over
pub returns-in_default : goal.returns-in_default
returns-in_default c = decoded_odd c.args.digits.now (omega arith)

-- a sign that is no digit
pub returns-in_err-byte_of : goal.returns-in_err-byte_of
returns-in_err-byte_of c =
    let all = decoded-pairs c.args.digits.now c.as_chunks.result.0.now (omega arith) c.as_chunks.ensures.front in
    let e = decoded_bad c.as_chunks.result.0.now c.loop-high.high-index c.loop-high-test.true c.in_err-byte_of.ensures in
    rw c.from_residual.ensures (all ∙ following_none (vec_items c.args.bytes.now) _ (sym c.loop-high.invariant.0 ∙ ap (following (vec_items c.loop-high.bytes)) e))

pub loop-high-preserved : goal.loop-high-preserved
loop-high-preserved c =
    rw c.push_reserved.ensures.items (
      decoded-step (vec_items c.loop-high.bytes) c.as_chunks.result.0.now c.loop-high.high-index c.in_ok-byte_of.field-0 c.loop-high-test.true c.in_ok-byte_of.ensures ∙ c.loop-high.invariant.0,
      omega arith,
    )

pub returns : goal.returns
returns c =
    let all = decoded-pairs c.args.digits.now c.as_chunks.result.0.now (omega arith) c.as_chunks.ensures.front in
    let e = decoded_end c.as_chunks.result.0.now c.loop-high.high-index c.loop-high-test.false in
    ap (following (vec_items c.args.bytes.now)) all
    ∙ sym c.loop-high.invariant.0
    ∙ ap (following (vec_items c.loop-high.bytes)) e
    ∙ ap Some (append-nil (vec_items c.loop-high.bytes))
