-- Which keys stay, and what may be known.
use Rattle.std.proofs.Common.{◌≡◌, ℕ, Bool, true, false, not, ◌&&◌, ◌⊎◌, List, ◌∷◌, map, Some, None, Option, sym, refl, ap, ◌∙◌, inl, inr, ⊎_elim}
use mathlib.Core.List.Memᴰ.{head as here}
use mathlib.Core.List.{Memᴰ as Mem}
use Rattle.std.proofs.lemmas.Bool.{true≢false}
use Rattle.keys.specs.declared.role.Role.{Role}
use Rattle.keys.specs.declared.role.Role.TheVariants.{Wrapper, Sealer, Base}
use Rattle.keys.specs.declared.tag.Tag.{Tag}
use Rattle.keys.specs.Algebra.{Stamp, Slot}
use Rattle.terms.specs.Term.{Term, House, Drawn, Text, Wrapped, Sealed, Marked, Derived}
use Rattle.terms.specs.Knowledge.{Knows, heard, writes, wraps, unwraps, seals, unseals, marks, derives}
use Rattle.terms.specs.World.{Distinct, added}
use Rattle.terms.proofs.Lists.{Within, within-added, once}

-- a key as it is drawn
abbrev pub drawn_slot : ℕ → ℕ → Role → Bool → Slot Term
drawn_slot b n r x = record { key = Drawn b n; tag = record { role = r; stays = x } }

-- a key that stays, in this role, where ds are the slots as they were drawn
unfoldable pub StaysAs : List (Slot Term) → Term → Role → Type 0
StaysAs ds House r = r ≡ Wrapper
StaysAs ds (Drawn b n) r = Mem (drawn_slot b n r true) ds
StaysAs ds (Text bs) r = ⊥
StaysAs ds (Wrapped u p g k) r = ⊥
StaysAs ds (Sealed k p t) r = ⊥
StaysAs ds (Marked k t) r = ⊥
StaysAs ds (Derived k l q) r = StaysAs ds k Base × (q ≡ r)

-- the first of a key that stays, the second of another
abbrev pub Either : Bool → Type 0 → Type 0 → Type 0
Either true A B = A
Either false A B = B

-- what may be known, where ms are the blobs that boxes made: a blob is one of them, under a key that stays, or could be made by anyone
unfoldable pub Public : List (Slot Term) → List Term → Term → Type 0
Public ds ms House = ⊥
Public ds ms (Drawn b n) = (r : Role) × Mem (drawn_slot b n r false) ds
Public ds ms (Text bs) = Unit {0}
Public ds ms (Wrapped u p g k) =
    (Mem (Wrapped u p g k) ms × StaysAs ds u Wrapper × Either g.stays (StaysAs ds k g.role) (Public ds ms k)) ⊎ (Public ds ms u × Public ds ms k)
Public ds ms (Sealed k p t) = ((Mem (Sealed k p t) ms × StaysAs ds k Sealer) ⊎ Public ds ms k) × Public ds ms t
Public ds ms (Marked k t) = Unit {0}
Public ds ms (Derived k l r) = Public ds ms k

-- a key that stays, in this role, or one that may be known
abbrev pub HeldAs : List (Slot Term) → List Term → Bool → Term → Role → Type 0
HeldAs ds ms x k r = Either x (StaysAs ds k r) (Public ds ms k)

abbrev pub Held : List (Slot Term) → List Term → Slot Term → Type 0
Held ds ms s = HeldAs ds ms s.tag.stays s.key s.tag.role

abbrev pub keys_of : List (Slot Term) → List Term
keys_of = map (λ (s : Slot Term). s.key)

-- as more is drawn and issued, what stays still stays, and what may be known may still be
module _ (ds es : List (Slot Term)) (ms ns : List Term) (f : Within ds es) (g : Within ms ns) where
  stays_on : (t : Term) (r : Role) → StaysAs ds t r → StaysAs es t r
  unfolding StaysAs
  stays_on House r h = h
  stays_on (Drawn b n) r h = f (drawn_slot b n r true) h
  stays_on (Text bs) r h = h
  stays_on (Wrapped u p a k) r h = h
  stays_on (Sealed k p t) r h = h
  stays_on (Marked k t) r h = h
  stays_on (Derived k l q) r h = (stays_on k Base h.0, h.1)

  either_on : (x : Bool) (k : Term) (r : Role) → (Public ds ms k → Public es ns k) → HeldAs ds ms x k r → HeldAs es ns x k r
  either_on true k r on h = stays_on k r h
  either_on false k r on h = on h

  public_on : (t : Term) → Public ds ms t → Public es ns t
  unfolding Public
  public_on House h = h
  public_on (Drawn b n) h = (h.0, f (drawn_slot b n h.0 false) h.1)
  public_on (Text bs) h = h
  public_on (Wrapped u p a k) (inl h) = inl (g (Wrapped u p a k) h.0, stays_on u Wrapper h.1, either_on a.stays k a.role (public_on k) h.2)
  public_on (Wrapped u p a k) (inr h) = inr (public_on u h.0, public_on k h.1)
  public_on (Sealed k p t) h = (⊎_elim (λ q. inl (g (Sealed k p t) q.0, stays_on k Sealer q.1)) (λ q. inr (public_on k q)) h.0, public_on t h.1)
  public_on (Marked k t) h = h
  public_on (Derived k l r) h = public_on k h

module _ (ds : List (Slot Term)) (ms : List Term) (g : Option (Slot Term)) (m : Option Term) where
  pub public_added : (t : Term) → Public ds ms t → Public (added g ds) (added m ms) t
  public_added t h = public_on ds (added g ds) ms (added m ms) (within-added g ds) (within-added m ms) t h

  pub held_added : (s : Slot Term) → Held ds ms s → Held (added g ds) (added m ms) s
  held_added s h =
      either_on ds (added g ds) ms (added m ms) (within-added g ds) (within-added m ms) s.tag.stays s.key s.tag.role (public_added s.key) h

-- where no key was drawn twice
module _ (ds : List (Slot Term)) (d : Distinct (keys_of ds)) where
  drawn_once : (b n : ℕ) (r q : Role) (x y : Bool) → Mem (drawn_slot b n r x) ds → Mem (drawn_slot b n q y) ds → drawn_slot b n r x ≡ drawn_slot b n q y
  drawn_once b n r q x y h k = once (λ (s : Slot Term). s.key) ds d h k refl

  -- no key that stays may be known
  pub never_both : (ms : List Term) (t : Term) (r : Role) → StaysAs ds t r → Public ds ms t → ⊥
  unfolding StaysAs Public
  never_both ms House r h k = k
  never_both ms (Drawn b n) r h k = true≢false (ap (λ (s : Slot Term). s.tag.stays) (drawn_once b n r k.0 true false h k.1))
  never_both ms (Text bs) r h k = h
  never_both ms (Wrapped u p g t) r h k = h
  never_both ms (Sealed u p t) r h k = h
  never_both ms (Marked u t) r h k = h
  never_both ms (Derived u l q) r h k = never_both ms u Base h.0 k

  -- a key that stays has one role
  pub stays_once : (t : Term) (r q : Role) → StaysAs ds t r → StaysAs ds t q → r ≡ q
  unfolding StaysAs
  stays_once House r q h k = h ∙ sym k
  stays_once (Drawn b n) r q h k = ap (λ (s : Slot Term). s.tag.role) (drawn_once b n r q true true h k)
  stays_once (Text bs) r q h k = absurd h
  stays_once (Wrapped u p g t) r q h k = absurd h
  stays_once (Sealed u p t) r q h k = absurd h
  stays_once (Marked u t) r q h k = absurd h
  stays_once (Derived u l a) r q h k = sym h.1 ∙ k.1

  unwrapped_public : (ms : List Term) (u k : Term) (p : Stamp) (g : Tag) → Public ds ms (Wrapped u p g k) → Public ds ms u → Public ds ms k
  unfolding Public
  unwrapped_public ms u k p g (inl h) o = absurd (never_both ms u Wrapper h.1 o)
  unwrapped_public ms u k p g (inr h) o = h.1

  -- from what may be known, only that is worked out
  pub knows_public : (ms hs : List Term) → ((t : Term) → Mem t hs → Public ds ms t) → {t : Term} → Knows hs t → Public ds ms t
  unfolding Public
  knows_public ms hs f (heard {t} m) = f t m
  knows_public ms hs f (writes bs) = tt
  knows_public ms hs f (wraps s g a b) = inr (knows_public ms hs f a, knows_public ms hs f b)
  knows_public ms hs f (unwraps {u} {k} {s} {g} a b) = unwrapped_public ms u k s g (knows_public ms hs f a) (knows_public ms hs f b)
  knows_public ms hs f (seals s a b) = (inr (knows_public ms hs f a), knows_public ms hs f b)
  knows_public ms hs f (unseals a b) = (knows_public ms hs f a).1
  knows_public ms hs f (marks a b) = tt
  knows_public ms hs f (derives l r a) = knows_public ms hs f a

-- what boxes make of what they hold
module _ (ds : List (Slot Term)) (ms : List Term) where
  pub held_drawn : (b n : ℕ) (r : Role) (x : Bool) → Held (drawn_slot b n r x ∷ ds) ms (drawn_slot b n r x)
  unfolding StaysAs Public
  held_drawn b n r true = here refl
  held_drawn b n r false = (r, here refl)

  pub held_derived : (x : Bool) (k : Term) (l : ℕ) (r : Role) → HeldAs ds ms x k Base → HeldAs ds ms x (Derived k l r) r
  unfolding StaysAs Public
  held_derived true k l r h = (h, refl)
  held_derived false k l r h = h

  pub wrap_public : (x y : Bool) (u k : Term) (p : Stamp) (r : Role) → (y && not x) ≡ false → HeldAs ds ms x u Wrapper → HeldAs ds ms y k r →
      let v = Wrapped u p (record { role = r; stays = y }) k in Public ds (v ∷ ms) v
  unfolding Public
  wrap_public true true u k p r e h f = inl (here refl, h, f)
  wrap_public true false u k p r e h f = inl (here refl, h, public_added ds ms None (Some _) k f)
  wrap_public false true u k p r e h f = absurd (true≢false e)
  wrap_public false false u k p r e h f = inr (public_added ds ms None (Some _) u h, public_added ds ms None (Some _) k f)

  pub seal_public : (x : Bool) (k t : Term) (p : Stamp) → HeldAs ds ms x k Sealer → Public ds ms t → Public ds (Sealed k p t ∷ ms) (Sealed k p t)
  unfolding Public
  seal_public true k t p h f = (inl (here refl, h), public_added ds ms None (Some _) t f)
  seal_public false k t p h f = (inr (public_added ds ms None (Some _) k h), public_added ds ms None (Some _) t f)

  pub unsealed_public : (k t : Term) (p : Stamp) → Public ds ms (Sealed k p t) → Public ds ms t
  unfolding Public
  unsealed_public k t p h = h.1

  pub unwrapped_held : Distinct (keys_of ds) → (x y : Bool) (u k : Term) (p : Stamp) (q r : Role) → (y && not x) ≡ false → HeldAs ds ms x u q →
      Public ds ms (Wrapped u p (record { role = r; stays = y }) k) → HeldAs ds ms y k r
  unfolding Public
  unwrapped_held d x y u k p q r e h (inl f) = f.2
  unwrapped_held d x false u k p q r e h (inr f) = f.1
  unwrapped_held d true true u k p q r e h (inr f) = absurd (never_both ds d ms u q h f.0)
  unwrapped_held d false true u k p q r e h (inr f) = absurd (true≢false e)

  -- a blob under a key that may not be known was made by a box
  pub sealed_issued : (k t : Term) (p : Stamp) → (Public ds ms k → ⊥) → Public ds ms (Sealed k p t) → Mem (Sealed k p t) ms
  unfolding Public
  sealed_issued k t p f h = ⊎_elim (λ m. m.0) (λ z. absurd (f z)) h.0

  pub wrapped_issued : (u k : Term) (p : Stamp) (g : Tag) → (Public ds ms u → ⊥) → Public ds ms (Wrapped u p g k) → Mem (Wrapped u p g k) ms
  unfolding Public
  wrapped_issued u k p g f h = ⊎_elim (λ m. m.0) (λ z. absurd (f z.0)) h
