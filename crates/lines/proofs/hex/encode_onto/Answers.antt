use Rattle.std.proofs.Common.{vec_items, ◌∙◌, append-nil, arith}
use Rattle.lines.proofs.Digits.{encoded_none, encoded_push}
use Rattle.lines.proofs.hex.encode_onto.Goals as goal

pub loop-byte-preserved : goal.loop-byte-preserved
loop-byte-preserved c = (
  encoded_push (vec_items c.loop-byte.text) _ _ c.args.bytes.now c.loop-byte.byte-index _ _ c.loop-byte-test.true c.push_reserved.ensures.items c.push_reserved-in-loop-byte.ensures.items c.digit_sign.ensures c.digit_sign-in-loop-byte.ensures
      ∙ c.loop-byte.invariant.0,
  omega arith,
)

pub returns-clause-bytes : goal.returns-clause-bytes
returns-clause-bytes c =
    let e = encoded_none c.args.bytes.now c.loop-byte.byte-index c.loop-byte-test.false in
    let n = append-nil (vec_items c.loop-byte.text) in
    cc (e, n, c.reserve.ensures.items, c.loop-byte.invariant.0)
