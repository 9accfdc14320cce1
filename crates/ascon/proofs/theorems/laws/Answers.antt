use Rattle.ascon.proofs.OpenLaws.{opens, only}
use Rattle.ascon.proofs.CxofLaws.{determines}
use Rattle.ascon.proofs.theorems.laws.Goals as goal

pub returns : goal.returns
returns c = record { opens = opens; only = only; determines = determines }
