use Rattle.std.proofs.Common.{refl, ◌∙◌, arith, ltb-false, ltb-true, eqb-true}
use Rattle.std.proofs.lemmas.Bool.{eqb-false}
use Rattle.ascon_cli.proofs.Cuts.{spaced_none, spaced-words}
use Rattle.ascon_cli.proofs.split.next_word.Goals as goal

pub returns-in-empty : goal.returns-in-empty
returns-in-empty c = (refl, spaced_none c.args.rest.now (omega (arith, ltb-true, ltb-false, eqb-true, eqb-false)))

pub returns-in-len1-up : goal.returns-in-len1-up
returns-in-len1-up c = spaced-words c.args.rest.now (omega (arith, ltb-true, ltb-false, eqb-true, eqb-false)) ∙ c.split_word.ensures
