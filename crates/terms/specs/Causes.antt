-- Why a command is refused, said without the machine's own tests.
use Rattle.std.specs.Prelude.{◌≡◌, ℕ, ◌<◌, ◌≤◌, Bool, true, false, ◌⊎◌, ◌↔◌, List, [], ◌∷◌, length, Some, None}
use Rattle.keys.specs.declared.role.Role.{Role}
use Rattle.keys.specs.declared.role.Role.TheVariants.{Wrapper, Sealer, Marker, Base}
use Rattle.keys.specs.declared.refusal.Refusal.{Refusal}
use Rattle.keys.specs.declared.refusal.Refusal.TheVariants.{NoKey, NoRoom, WrongRole, Stays, NotOpened, UsedUp}
use Rattle.keys.specs.Algebra.{Slot, Algebra}
use Rattle.keys.specs.Machine.{Empty, Full, Box, Command, Make, Load, Show, Wrap, Unwrap, Seal, Open, Mark, Derive, Forget, answer_number, refusal_number, capacity, limit, fresh, does}
use Rattle.terms.specs.At.{At}

-- a refusal, and when there is cause for it
pub record Cause : Type 1 where
  pub refusal : Refusal
  pub holds : Type 0

-- the place is empty, or its number is above 63
abbrev pub Vacant : {V : Type 0} → Box V → ℕ → Type 0
Vacant b i = (63 < i) ⊎ At b.places i Empty

-- no place is empty
abbrev pub NoneEmpty : {V : Type 0} → Box V → Type 0
NoneEmpty b = (i : ℕ) → At b.places i Empty → ⊥

-- the key in a place has another role
pub record OtherRole {V : Type 0} (b : Box V) (i : ℕ) (r : Role) : Type 0 where
  pub slot : Slot V
  pub lies : At b.places i (Full slot)
  pub other : slot.tag.role ≡ r → ⊥

-- the key in a place stays, or doesn't
pub record Lies {V : Type 0} (b : Box V) (i : ℕ) (stays : Bool) : Type 0 where
  pub slot : Slot V
  pub lies : At b.places i (Full slot)
  pub stays_so : slot.tag.stays ≡ stays

-- a key that stays is to be wrapped under one that doesn't
pub record LeavesBoxes {V : Type 0} (b : Box V) (i u : ℕ) : Type 0 where
  pub stays : Lies b i true
  pub under : Lies b u false

-- the blob doesn't open as a key under the key in a place
pub record NotUnwrapped {V : Type 0} (a : Algebra V) (b : Box V) (u : ℕ) (v : V) : Type 0 where
  pub slot : Slot V
  pub lies : At b.places u (Full slot)
  pub shut : a.unwrap slot.key v ≡ None

-- the blob says that its key stays, under a key that doesn't
pub record SaysStays {V : Type 0} (a : Algebra V) (b : Box V) (u : ℕ) (v : V) : Type 0 where
  pub slot : Slot V
  pub lies : At b.places u (Full slot)
  pub leaves : slot.tag.stays ≡ false
  pub content : Slot V
  pub opens : a.unwrap slot.key v ≡ Some content
  pub says : content.tag.stays ≡ true

-- the blob doesn't open as a text under the key in a place
pub record NotUnsealed {V : Type 0} (a : Algebra V) (b : Box V) (i : ℕ) (v : V) : Type 0 where
  pub slot : Slot V
  pub lies : At b.places i (Full slot)
  pub shut : a.unseal slot.key v ≡ None

-- short for the record
abbrev pub cause : Refusal → Type 0 → Cause
cause r t = record { refusal = r; holds = t }

-- the causes for which each command is refused, in the order in which they are looked for
abbrev pub causes : {V : Type 0} → Algebra V → Command V → Box V → List Cause
causes a (Make t) b = cause NoRoom (NoneEmpty b) ∷ cause UsedUp (limit ≤ b.drawn) ∷ []
causes a (Load r v) b = cause NoRoom (NoneEmpty b) ∷ []
causes a (Show i) b = cause NoKey (Vacant b i) ∷ cause Stays (Lies b i true) ∷ []
causes a (Wrap i u) b =
    cause NoKey (Vacant b i) ∷ cause NoKey (Vacant b u) ∷ cause WrongRole (OtherRole b u Wrapper) ∷ cause Stays (LeavesBoxes b i u) ∷ cause UsedUp (limit ≤ b.count) ∷ []
causes a (Unwrap u v) b =
    cause NoKey (Vacant b u) ∷ cause WrongRole (OtherRole b u Wrapper) ∷ cause NotOpened (NotUnwrapped a b u v) ∷ cause Stays (SaysStays a b u v) ∷ cause NoRoom (NoneEmpty b) ∷ []
causes a (Seal i v) b = cause NoKey (Vacant b i) ∷ cause WrongRole (OtherRole b i Sealer) ∷ cause UsedUp (limit ≤ b.count) ∷ []
causes a (Open i v) b = cause NoKey (Vacant b i) ∷ cause WrongRole (OtherRole b i Sealer) ∷ cause NotOpened (NotUnsealed a b i v) ∷ []
causes a (Mark i v) b = cause NoKey (Vacant b i) ∷ cause WrongRole (OtherRole b i Marker) ∷ []
causes a (Derive i l r) b = cause NoKey (Vacant b i) ∷ cause WrongRole (OtherRole b i Base) ∷ cause NoRoom (NoneEmpty b) ∷ []
causes a (Forget i) b = cause NoKey (Vacant b i) ∷ []

-- one of the causes holds, and none before it: that refusal
abbrev pub First : List Cause → Refusal → Type 0
First [] r = ⊥
First (c ∷ cs) r = (c.holds × (r ≡ c.refusal)) ⊎ ((c.holds → ⊥) × First cs r)

-- none of the causes holds
abbrev pub NoCause : List Cause → Type 0
NoCause [] = Unit {0}
NoCause (c ∷ cs) = (c.holds → ⊥) × NoCause cs

-- a command is refused by a number exactly if its cause is the first that holds, and answered exactly if none does
pub record Caused (V : Type 0) : Type 0 where
  pub refused : (a : Algebra V) (c : Command V) (b : Box V) → length b.places ≡ capacity → (r : Refusal) →
      (answer_number (does a c b).answer ≡ refusal_number r) ↔ First (causes a c b) r
  pub answered : (a : Algebra V) (c : Command V) (b : Box V) → length b.places ≡ capacity → (answer_number (does a c b).answer ≡ 0) ↔ NoCause (causes a c b)

-- a refused command changes nothing
abbrev pub RefusedSame : Type 0 → Type 0
RefusedSame V = (a : Algebra V) (c : Command V) (b : Box V) → 0 < answer_number (does a c b).answer → (does a c b).box ≡ b

-- a box has 64 places from the start, and keeps its number and its places
pub record Lasts (V : Type 0) : Type 0 where
  pub start : (a : Algebra V) (n : ℕ) → length (fresh a n).places ≡ capacity
  pub places : (a : Algebra V) (c : Command V) (b : Box V) → length (does a c b).box.places ≡ length b.places
  pub number : (a : Algebra V) (c : Command V) (b : Box V) → (does a c b).box.number ≡ b.number
