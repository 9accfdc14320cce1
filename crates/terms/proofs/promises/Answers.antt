use Rattle.terms.proofs.SecurityProof.{secret, one_role, never_twice, genuine}
use Rattle.terms.proofs.Refusals.{refused-same, lasts}
use Rattle.terms.proofs.CausesProof.{caused}
use Rattle.terms.proofs.MemoriesProof.{memories}
use Rattle.terms.proofs.AlikeProof.{same_start, same_machine, same_runs, one_world}
use Rattle.terms.proofs.promises.Goals as goal

pub returns : goal.returns
returns c =
    record {
      secret = secret;
      one_role = one_role;
      never_twice = never_twice;
      genuine = genuine;
      refused_same_bytes = refused-same;
      refused_same_terms = refused-same;
      same_start = same_start;
      same_machine = same_machine;
      same_runs = same_runs;
      one_world = one_world;
      memories = memories;
      causes_bytes = caused;
      causes_terms = caused;
      lasts_bytes = lasts;
      lasts_terms = lasts;
    }
