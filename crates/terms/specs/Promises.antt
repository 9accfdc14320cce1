-- The promises, for any number of boxes, any order of commands, and an adversary who knows every answer ever given.
use Rattle.std.specs.Prelude.{ℕ, List}
use Rattle.terms.specs.Term.{Term}
use Rattle.terms.specs.Security.{Secret, OneRole, NeverTwice, Genuine}
use Rattle.terms.specs.Memories.{Memories}
use Rattle.terms.specs.Causes.{Caused, RefusedSame, Lasts}
use Rattle.terms.specs.Alike.{SameStart, SameMachine, SameRuns, OneWorld}

-- all of them; what holds for every algebra is said for those on bytes and for those on terms
pub record Promises : Type 0 where
  pub secret : Secret
  pub one_role : OneRole
  pub never_twice : NeverTwice
  pub genuine : Genuine
  pub refused_same_bytes : RefusedSame (List ℕ)
  pub refused_same_terms : RefusedSame Term
  pub same_start : SameStart
  pub same_machine : SameMachine
  pub same_runs : SameRuns
  pub one_world : OneWorld
  pub memories : Memories
  pub causes_bytes : Caused (List ℕ)
  pub causes_terms : Caused Term
  pub lasts_bytes : Lasts (List ℕ)
  pub lasts_terms : Lasts Term
