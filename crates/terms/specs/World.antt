-- Several boxes, an adversary who sends them commands, and memories of all that happened.
use Rattle.std.specs.Prelude.{ℕ, ◌<◌, List, [], ◌∷◌, ◌++◌, map, length, Some, None, Option, slice_index_or, slice_set}
use mathlib.Core.List.{Memᴰ as Mem}
use Rattle.keys.specs.Algebra.{Slot}
use Rattle.keys.specs.Machine.{Place, Empty, Full, Box, Command, Make, Load, Show, Wrap, Unwrap, Seal, Open, Mark, Derive, Forget, Answer, Refused, Placed, Gives, Done, answer_value, After, fresh, does}
use Rattle.terms.specs.Term.{Term, Drawn, Text, terms}
use Rattle.terms.specs.Knowledge.{Knows}

-- the boxes; all that boxes answered; every slot that ever lay in a place; every slot as it was drawn; every blob that a box made. The newest first
pub record World : Type 0 where
  pub boxes : List (Box Term)
  pub transcript : List Term
  pub held : List (Slot Term)
  pub generated : List (Slot Term)
  pub issued : List Term

-- no two are the same
unfoldable pub Distinct : {A : Type 0} → List A → Type 0
Distinct [] = Unit {0}
Distinct (x ∷ xs) = (Mem x xs → ⊥) × Distinct xs

-- a list with one more, or none
abbrev pub added : {A : Type 0} → Option A → List A → List A
added None xs = xs
added (Some x) xs = x ∷ xs

-- what lies in places
unfoldable pub slots_of : {V : Type 0} → List (Place V) → List (Slot V)
slots_of [] = []
slots_of (Empty ∷ ps) = slots_of ps
slots_of (Full s ∷ ps) = s ∷ slots_of ps

-- what lies in boxes
unfoldable pub slots_in : List (Box Term) → List (Slot Term)
slots_in [] = []
slots_in (b ∷ bs) = slots_of b.places ++ slots_in bs

-- new boxes of these numbers
abbrev pub start : List ℕ → World
start numbers =
    let bs = map (fresh terms) numbers in
    record { boxes = bs; transcript = []; held = slots_in bs; generated = []; issued = [] }

-- what stands for a box that isn't there: it refuses every command
abbrev pub no_box : {V : Type 0} → Box V
no_box = record { number = 0; drawn = 0; count = 0; places = [] }

-- the i-th box
abbrev pub box_at : {V : Type 0} → ℕ → List (Box V) → Box V
box_at i bs = slice_index_or bs i no_box

-- the key that a Make drew
abbrev pub generated_by : Command Term → Box Term → Answer Term → Option (Slot Term)
generated_by (Make t) b (Placed i) = Some (record { key = Drawn b.number b.drawn; tag = t })
generated_by (Make t) b (Refused r) = None
generated_by (Make t) b (Gives v) = None
generated_by (Make t) b Done = None
generated_by (Load r v) b a = None
generated_by (Show i) b a = None
generated_by (Wrap i u) b a = None
generated_by (Unwrap u v) b a = None
generated_by (Seal i v) b a = None
generated_by (Open i v) b a = None
generated_by (Mark i v) b a = None
generated_by (Derive i l r) b a = None
generated_by (Forget i) b a = None

-- the blob that a Wrap or Seal made
abbrev pub issued_by : Command Term → Answer Term → Option Term
issued_by (Make t) a = None
issued_by (Load r v) a = None
issued_by (Show i) a = None
issued_by (Wrap i u) a = answer_value a
issued_by (Unwrap u v) a = None
issued_by (Seal i v) a = answer_value a
issued_by (Open i v) a = None
issued_by (Mark i v) a = None
issued_by (Derive i l r) a = None
issued_by (Forget i) a = None

-- the world after box i, before that b, did what a says
abbrev pub after : World → ℕ → Command Term → Box Term → After Term → World
after w i c b a =
    record {
      boxes = slice_set w.boxes i a.box;
      transcript = added (answer_value a.answer) w.transcript;
      held = slots_of a.box.places ++ w.held;
      generated = added (generated_by c b a.answer) w.generated;
      issued = added (issued_by c a.answer) w.issued;
    }

-- a command to box i
abbrev pub step : ℕ → Command Term → World → World
step i c w = after w i c (box_at i w.boxes) (does terms c (box_at i w.boxes))

-- the key, blob or text of a command; who sends it has to know it
abbrev pub carried : Command Term → Term
carried (Make t) = Text []
carried (Load r v) = v
carried (Show i) = Text []
carried (Wrap i u) = Text []
carried (Unwrap u v) = v
carried (Seal i v) = v
carried (Open i v) = v
carried (Mark i v) = v
carried (Derive i l r) = Text []
carried (Forget i) = Text []

-- every world that can come about from boxes of pairwise distinct numbers: any commands, in any order, to any box, by an adversary who knows what they carry
pub data Reachable (numbers : List ℕ) : World → Type 0 where
  begins : Distinct numbers → Reachable numbers (start numbers)
  then : {w : World} → Reachable numbers w → (i : ℕ) → i < length w.boxes → (c : Command Term) → Knows w.transcript (carried c) → Reachable numbers (step i c w)
