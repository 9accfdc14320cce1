use Rattle.std.proofs.Common.{◌≡◌, get_or, None, Some, sym, ◌∙◌, arith}
use Rattle.std.proofs.lemmas.Bool.{cond-true, cond-false, le-leb, lt-leb}
use Rattle.std.proofs.lemmas.Result.{err_from_is_err_and}
use Rattle.ascon_cli.proofs.Numbers.{decimal_below, decimal_more, length_bad, length_read, power_more, to_decimal}
use Rattle.ascon_cli.proofs.arguments.output_length.Goals as goal

pub loop-sign-preserved : goal.loop-sign-preserved
loop-sign-preserved c =
    let o : Some c.in_ok-digit.digit ≡ c.to_digit.result = grind arith in
    let e = o ∙ to_decimal (get_or c.args.word.now c.loop-sign.sign-index 0) _ _ c.from.ensures c.to_digit.ensures.value in (
      decimal_more c.args.word.now c.loop-sign.sign-index c.loop-sign.value c.in_ok-digit.digit c.loop-sign-test.true e ∙ c.loop-sign.invariant.0,
      power_more c.loop-sign.sign-index c.loop-sign.value c.in_ok-digit.digit c.loop-sign.invariant.1 (decimal_below (get_or c.args.word.now c.loop-sign.sign-index 0) _ e),
    )

pub returns-in_err-digit : goal.returns-in_err-digit
returns-in_err-digit c =
    let p = err_from_is_err_and c.from_residual.result c.from_residual.ensures.1 in
    let o : None ≡ c.to_digit.result = grind arith in
    let n = o ∙ to_decimal (get_or c.args.word.now c.loop-sign.sign-index 0) _ _ c.from.ensures c.to_digit.ensures.value in
    let l = length_bad c.args.word.now _ _ c.if-is_empty.ensures (omega arith) c.loop-sign-test.true n c.loop-sign.invariant.0 in
    grind arith

pub returns-then-value-gt-LONGEST_OUTPUT : goal.returns-then-value-gt-LONGEST_OUTPUT
returns-then-value-gt-LONGEST_OUTPUT c =
    sym (
    length_read c.args.word.now _ _ c.if-is_empty.ensures (omega arith) c.loop-sign-test.false c.loop-sign.invariant.0
    ∙ cond-false _ _ _ (lt-leb c.loop-sign.value 65536 (omega arith))
    )

pub returns : goal.returns
returns c =
    sym (
    length_read c.args.word.now _ _ c.if-is_empty.ensures (omega arith) c.loop-sign-test.false c.loop-sign.invariant.0
    ∙ cond-true _ _ _ (le-leb c.loop-sign.value 65536 (omega arith))
    )
