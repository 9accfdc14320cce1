-- Where something stands in a list, beside what is read, written and looked for there.
use Rattle.std.proofs.Common.{◌≡◌, ℕ, zero, suc, ◌+◌, ◌<◌, ◌⊎◌, List, [], ◌∷◌, length, get_or, set, sym, refl, ◌∙◌, inl, inr, arith}
use mathlib.Core.List.Memᴰ.{cast as mem-cast}
use mathlib.Core.List.{Memᴰ as Mem}
use Rattle.keys.specs.declared.refusal.Refusal.TheVariants.{NoKey}
use Rattle.keys.specs.Algebra.{Slot}
use Rattle.keys.specs.Machine.{Place, Empty, Full, Box, After, place, refused, first_empty, on_full, with_key}
use Rattle.terms.specs.At.{At}
use Rattle.terms.proofs.Lists.{empty_full, mem-get_or}

pub at_below : {A : Type 0} (xs : List A) (i : ℕ) (x : A) → At xs i x → i < length xs
unfolding At
at_below [] i x h = absurd h
at_below (y ∷ ys) zero x h = omega arith
at_below (y ∷ ys) (suc i) x h = let k = at_below ys i x h in omega arith

pub at_get_or : {A : Type 0} (xs : List A) (i : ℕ) (x d : A) → At xs i x → get_or xs i d ≡ x
unfolding At
at_get_or [] i x d h = absurd h
at_get_or (y ∷ ys) zero x d h = h
at_get_or (y ∷ ys) (suc i) x d h = at_get_or ys i x d h

pub get_or_at : {A : Type 0} (xs : List A) (i : ℕ) (x d : A) → i < length xs → get_or xs i d ≡ x → At xs i x
unfolding At
get_or_at [] i x d l e = let z : ⊥ = omega arith in absurd z
get_or_at (y ∷ ys) zero x d l e = e
get_or_at (y ∷ ys) (suc i) x d l e = get_or_at ys i x d (omega arith) e

pub at_mem : {A : Type 0} (xs : List A) (i : ℕ) (x : A) → At xs i x → Mem x xs
at_mem xs i x h = mem-cast (sym (at_get_or xs i x x h)) (mem-get_or xs i x (at_below xs i x h))

pub at_same : {A : Type 0} (xs : List A) (i : ℕ) (x y : A) → At xs i x → At xs i y → x ≡ y
at_same xs i x y h k = sym (at_get_or xs i x x h) ∙ at_get_or xs i y x k

pub set_at : {A : Type 0} (xs : List A) (i : ℕ) (x : A) → i < length xs → At (set xs i x) i x
unfolding At
set_at [] i x l = let z : ⊥ = omega arith in absurd z
set_at (y ∷ ys) zero x l = refl
set_at (y ∷ ys) (suc i) x l = set_at ys i x (omega arith)

-- after a write something new stands there, or what stood there before
pub at_set : {A : Type 0} (xs : List A) (i j : ℕ) (x y : A) → At (set xs i x) j y → (x ≡ y) ⊎ At xs j y
unfolding At
at_set [] i j x y h = absurd h
at_set (z ∷ zs) zero zero x y h = inl h
at_set (z ∷ zs) zero (suc j) x y h = inr h
at_set (z ∷ zs) (suc i) zero x y h = inr h
at_set (z ∷ zs) (suc i) (suc j) x y h = at_set zs i j x y h

-- a key that is read lies in a place that is there
pub full_at : {V : Type 0} (ps : List (Place V)) (i : ℕ) (s : Slot V) → get_or ps i Empty ≡ Full s → At ps i (Full s)
unfolding At
full_at [] i s e = empty_full e
full_at (p ∷ ps) zero s e = e
full_at (p ∷ ps) (suc i) s e = full_at ps i s e

-- what holds of the refusal if place i is empty, and of what f does with the key if it is full
pub by_place : {V : Type 0} (i : ℕ) (b : Box V) (f : Slot V → After V) (P : After V → Type 0) → (place i b ≡ Empty → P (refused NoKey b)) →
    ((s : Slot V) → At b.places i (Full s) → P (f s)) → P (with_key i b f)
by_place {V} i b f P none some = go (place i b) refl
  where
    go : (p : Place V) → place i b ≡ p → P (on_full b f p)
    go Empty e = none e
    go (Full s) e = some s (full_at b.places i s e)

-- two keys in one place are one
pub full_same : {V : Type 0} (ps : List (Place V)) (i : ℕ) (s t : Slot V) → At ps i (Full s) → At ps i (Full t) → s ≡ t
full_same ps i s t h k = let e = at_same ps i (Full s) (Full t) h k in cc

-- an empty place is found, if there is one
pub first_found : {V : Type 0} (k i : ℕ) (ps : List (Place V)) → At ps i Empty → first_empty k ps < k + length ps
unfolding At first_empty
first_found k i [] h = absurd h
first_found k i (Empty ∷ ps) h = omega arith
first_found k zero (Full s ∷ ps) h = empty_full (sym h)
first_found k (suc i) (Full s ∷ ps) h = let l = first_found (k + 1) i ps h in omega arith

-- and what is found is empty
pub first_empty_lem : {V : Type 0} (k : ℕ) (ps : List (Place V)) → first_empty k ps < k + length ps → (i : ℕ) × (first_empty k ps ≡ k + i) × At ps i Empty
unfolding At first_empty
first_empty_lem k [] l = let z : ⊥ = omega arith in absurd z
first_empty_lem k (Empty ∷ ps) l = (0, omega arith, refl)
first_empty_lem k (Full s ∷ ps) l =
    let r = first_empty_lem (k + 1) ps (omega arith) in
    let e = r.1 in
    (suc r.0, omega arith, r.2)
