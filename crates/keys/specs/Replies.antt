-- The machine's answers for what the code returns and leaves in lent memory.
use Rattle.std.specs.Prelude.{ℕ, List, Ok, Err, Result}
use Rattle.keys.specs.declared.refusal.Refusal.{Refusal}
use Rattle.keys.specs.Machine.{Answer, Refused, Placed, Gives, Done}

-- a place, or a refusal
abbrev pub place_answer : Result ℕ Refusal → Answer (List ℕ)
place_answer (Ok i) = Placed i
place_answer (Err e) = Refused e

-- nothing more to say, or a refusal
abbrev pub done_answer : Result (Unit {0}) Refusal → Answer (List ℕ)
done_answer (Ok u) = Done
done_answer (Err e) = Refused e

-- the lent bytes, or a refusal
abbrev pub value_answer : Result (Unit {0}) Refusal → List ℕ → Answer (List ℕ)
value_answer (Ok u) bs = Gives bs
value_answer (Err e) bs = Refused e

-- the bytes of a mark, or a refusal
abbrev pub mark_answer : Result (List ℕ) Refusal → Answer (List ℕ)
mark_answer (Ok bs) = Gives bs
mark_answer (Err e) = Refused e
