use Rattle.std.proofs.Common.{◌∷◌, refl, ap, ◌∙◌}
use Rattle.std.proofs.lemmas.Result.{err_from_is_err_and}
use Rattle.ascon_cli.proofs.request.read_packet.Goals as goal

pub returns-in_err-try_from : goal.returns-in_err-try_from
returns-in_err-try_from c =
    let p = err_from_is_err_and c.from_residual-in_err-try_from.result c.from_residual-in_err-try_from.ensures.1 in
    let ws = c.in_ok-key.ensures ∙ ap (λ w. c.in_ok-key.key.now ∷ w) (c.in_ok-nonce.ensures ∙ ap (λ w. c.in_ok-nonce.nonce.now ∷ w) (c.in_ok-associated.ensures ∙ ap (λ w. c.in_ok-associated.associated.now ∷ w) c.in_ok-text.ensures)) in
    rw (p.1, p.2, ws, c.in_ok-key-2.ensures, c.in_ok-nonce-2.ensures, c.in_ok-associated-2.ensures, c.in_ok-text-2.ensures, c.in_err-try_from.ensures) refl

pub returns-in_err-try_from-2 : goal.returns-in_err-try_from-2
returns-in_err-try_from-2 c =
    let p = err_from_is_err_and c.from_residual-in_err-try_from-2.result c.from_residual-in_err-try_from-2.ensures.1 in
    let ws = c.in_ok-key.ensures ∙ ap (λ w. c.in_ok-key.key.now ∷ w) (c.in_ok-nonce.ensures ∙ ap (λ w. c.in_ok-nonce.nonce.now ∷ w) (c.in_ok-associated.ensures ∙ ap (λ w. c.in_ok-associated.associated.now ∷ w) c.in_ok-text.ensures)) in
    rw (p.1, p.2, ws, c.in_ok-key-2.ensures, c.in_ok-nonce-2.ensures, c.in_ok-associated-2.ensures, c.in_ok-text-2.ensures, c.in_ok-try_from.ensures, c.in_err-try_from-2.ensures) refl
