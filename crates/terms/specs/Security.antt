-- Secrecy, one role, no stamp twice, genuine blobs: in every world that can come about.
use Rattle.std.specs.Prelude.{◌≡◌, ℕ, true, List, [], ◌∷◌, length, Some}
use mathlib.Core.List.{Memᴰ as Mem}
use Rattle.keys.specs.declared.role.Role.{Role}
use Rattle.keys.specs.Algebra.{Stamp, Slot}
use Rattle.terms.specs.Term.{Term, House, Drawn, Text, Wrapped, Sealed, Marked, Derived, terms}
use Rattle.terms.specs.Knowledge.{Knows}
use Rattle.terms.specs.World.{World, Distinct, Reachable}

-- a key, or one that is derived from it in one step or several
pub data DerivedFrom (k : Term) : Term → Type 0 where
  itself : DerivedFrom k k
  further : {t : Term} → DerivedFrom k t → (l : ℕ) (r : Role) → DerivedFrom k (Derived t l r)

-- a slot that stays in a box, or ever did
pub record Stayed (w : World) (s : Slot Term) : Type 0 where
  pub lay : Mem s w.held
  pub stays : s.tag.stays ≡ true

-- a key that stays, or ever did, can't be worked out, nor can any key derived from it, whether or not a box ever held that
abbrev pub Secret : Type 0
Secret = (numbers : List ℕ) (w : World) → Reachable numbers w → (s : Slot Term) → Stayed w s → (t : Term) → DerivedFrom s.key t → Knows w.transcript t → ⊥

-- the second slot stays like the first, in the same role
pub record StaysAlike (s t : Slot Term) : Type 0 where
  pub stays : t.tag.stays ≡ true
  pub role : t.tag.role ≡ s.tag.role

-- a key that stays has one role and stays, wherever and whenever it lies in a place
abbrev pub OneRole : Type 0
OneRole =
    (numbers : List ℕ) (w : World) → Reachable numbers w → (s t : Slot Term) → Stayed w s → Mem t w.held → s.key ≡ t.key → StaysAlike s t

-- the stamps of the blobs among terms
unfoldable pub stamps_of : List Term → List Stamp
stamps_of [] = []
stamps_of (House ∷ ts) = stamps_of ts
stamps_of (Drawn b n ∷ ts) = stamps_of ts
stamps_of (Text bs ∷ ts) = stamps_of ts
stamps_of (Wrapped u s g k ∷ ts) = s ∷ stamps_of ts
stamps_of (Sealed k s t ∷ ts) = s ∷ stamps_of ts
stamps_of (Marked k t ∷ ts) = stamps_of ts
stamps_of (Derived k l r ∷ ts) = stamps_of ts

-- each of the blobs has a stamp, and no two the same
pub record OneStampEach (blobs : List Term) : Type 0 where
  pub each : length (stamps_of blobs) ≡ length blobs
  pub distinct : Distinct (stamps_of blobs)

-- no stamp stands on two of the blobs that boxes made
abbrev pub NeverTwice : Type 0
NeverTwice = (numbers : List ℕ) (w : World) → Reachable numbers w → OneStampEach w.issued

-- a box made v: this content sealed under this key
pub record BoxSealed (w : World) (key content v : Term) : Type 0 where
  pub stamp : Stamp
  pub is : v ≡ Sealed key stamp content
  pub issued : Mem v w.issued

-- a box made v: this slot wrapped under this key
pub record BoxWrapped (w : World) (under : Term) (s : Slot Term) (v : Term) : Type 0 where
  pub stamp : Stamp
  pub is : v ≡ Wrapped under stamp s.tag s.key
  pub issued : Mem v w.issued

-- what the adversary knows and what opens under a key that stays, or ever did, was made by a box, under this key, of just this content
pub record Genuine : Type 0 where
  pub sealed : (numbers : List ℕ) (w : World) → Reachable numbers w → (s : Slot Term) → Stayed w s → (v : Term) → Knows w.transcript v → (t : Term) →
      terms.unseal s.key v ≡ Some t → BoxSealed w s.key t v
  pub wrapped : (numbers : List ℕ) (w : World) → Reachable numbers w → (s : Slot Term) → Stayed w s → (v : Term) → Knows w.transcript v → (t : Slot Term) →
      terms.unwrap s.key v ≡ Some t → BoxWrapped w s.key t v
