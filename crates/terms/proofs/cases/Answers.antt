use Rattle.terms.proofs.CasesProof.{cases}
use Rattle.terms.proofs.cases.Goals as goal

pub returns : goal.returns
returns c = cases
