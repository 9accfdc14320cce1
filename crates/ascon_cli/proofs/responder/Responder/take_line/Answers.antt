use Rattle.std.proofs.Common.{◌++◌, length, sym, ap, ◌∙◌, append-nil, arith}
use Rattle.std.proofs.lemmas.List.{take_all}
use Rattle.ascon_cli.proofs.Cuts.{position-found, position-nowhere}
use Rattle.ascon_cli.proofs.Flow.{ended, quiet}
use Rattle.ascon_cli.proofs.responder.Responder.take_line.Goals as goal

pub returns-in_default-clause-text : goal.returns-in_default-clause-text
returns-in_default-clause-text c =
    let q = quiet c.args.self.now.line c.args.input.now (length c.args.input.now) (omega arith) (position-nowhere c.args.input.now 10 c.in_default.ensures) in
    sym (ap (λ z. c.args.self.now.out ++ z) q.0 ∙ append-nil _)

pub returns-in_default-clause-rest : goal.returns-in_default-clause-rest
returns-in_default-clause-rest c =
    let q = quiet c.args.self.now.line c.args.input.now (length c.args.input.now) (omega arith) (position-nowhere c.args.input.now 10 c.in_default.ensures) in
    let h = c.in_ok-extend.ensures in
    cc (h, q.1, take_all (length c.args.input.now) c.args.input.now (omega arith))

pub returns-clause-text : goal.returns-clause-text
returns-clause-text c =
    let p = position-found c.args.input.now 10 c.in-Some.end c.in-Some.ensures in
    let q = ended c.args.self.now.line c.args.input.now c.in-Some.end p.0 p.2 p.1 in
    let h1 = c.in_ok-extend-2.ensures in
    let h2 = c.in_ok-answer_line.ensures.text in
    cc (h1, h2, q.0)

pub returns-clause-rest : goal.returns-clause-rest
returns-clause-rest c =
    let p = position-found c.args.input.now 10 c.in-Some.end c.in-Some.ensures in
    let q = ended c.args.self.now.line c.args.input.now c.in-Some.end p.0 p.2 p.1 in
    c.in_ok-answer_line.ensures.rest ∙ sym q.1
