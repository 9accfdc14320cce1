use Rattle.std.proofs.Common.{◌≡◌, ◌<◌, ◌∷◌, length, sym, refl, ap, ◌∙◌, arith}
use Rattle.std.proofs.lemmas.Bool.{eqb-true, eqb-false, ne_eqb}
use Rattle.ascon_cli.proofs.Cuts.{spaced_none, spaced_some}
use Rattle.ascon_cli.proofs.split.only_word.Goals as goal

pub returns-then-is_empty : goal.returns-then-is_empty
returns-then-is_empty c =
    let n : length c.in_ok-word.more.now ≡ 0 = eqb-true _ _ (sym c.if-is_empty.ensures) in
    c.in_ok-word.ensures ∙ ap (λ ws. c.in_ok-word.word.now ∷ ws) (spaced_none _ n)

pub returns : goal.returns
returns c =
    let h : 0 < length c.in_ok-word.more.now = let d = eqb-false _ _ (sym c.if-is_empty.ensures) in omega arith in
    let m = spaced_some _ h in
    let e = ap length c.in_ok-word.ensures in
    (refl, ne_eqb _ _ (λ z. omega arith))
