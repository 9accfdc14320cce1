-- Membership in lists, in places and in boxes.
use Rattle.std.proofs.Common.{◌≡◌, ℕ, zero, suc, ◌<◌, ◌⊎◌, List, [], ◌∷◌, map, length, get_or, set, Some, None, Option, sym, refl, ap, ◌∙◌, inl, inr, ⊎_elim, arith}
use mathlib.Core.List.Memᴰ.{head as here}
use mathlib.Core.List.Memᴰ.{tail as there}
use mathlib.Core.List.{Memᴰ as Mem}
use mathlib.Core.List.Memᴰ.{append_left as mem-left}
use mathlib.Core.List.Memᴰ.{append_right as mem-right}
use mathlib.Core.List.Memᴰ.{cast as mem-cast}
use mathlib.Core.List.Memᴰ.{map as mem-map}
use Rattle.keys.specs.Algebra.{Slot}
use Rattle.keys.specs.Machine.{Place, Empty, Full, Box, empties}
use Rattle.terms.specs.Term.{Term}
use Rattle.terms.specs.World.{Distinct, added, slots_of, slots_in}

-- all of the first are in the second
abbrev pub Within : {A : Type 0} → List A → List A → Type 0
Within {A} xs ys = (x : A) → Mem x xs → Mem x ys

pub within-added : {A : Type 0} (o : Option A) (xs : List A) → Within xs (added o xs)
within-added None xs x m = m
within-added (Some y) xs x m = there m

pub mem-get_or : {A : Type 0} (xs : List A) (i : ℕ) (d : A) → i < length xs → Mem (get_or xs i d) xs
mem-get_or [] i d h = let z : ⊥ = omega arith in absurd z
mem-get_or (x ∷ xs) zero d h = here refl
mem-get_or (x ∷ xs) (suc i) d h = there (mem-get_or xs i d (omega arith))

pub mem_set_same : {A : Type 0} (xs : List A) (i : ℕ) (y : A) → i < length xs → Mem y (set xs i y)
mem_set_same [] i y h = let z : ⊥ = omega arith in absurd z
mem_set_same (x ∷ xs) zero y h = here refl
mem_set_same (x ∷ xs) (suc i) y h = there (mem_set_same xs i y (omega arith))

pub mem-set : {A : Type 0} {x : A} (xs : List A) (i : ℕ) (y : A) → Mem x (set xs i y) → (x ≡ y) ⊎ Mem x xs
mem-set [] i y m = inr m
mem-set (z ∷ zs) zero y (here e) = inl e
mem-set (z ∷ zs) zero y (there m) = inr (there m)
mem-set (z ∷ zs) (suc i) y (here e) = inr (here e)
mem-set (z ∷ zs) (suc i) y (there m) = ⊎_elim (λ e. inl e) (λ n. inr (there n)) (mem-set zs i y m)

-- where all images differ, elements with one image are one
pub once : {A B : Type 0} (f : A → B) {x y : A} (xs : List A) → Distinct (map f xs) → Mem x xs → Mem y xs → f x ≡ f y → x ≡ y
unfolding Distinct
once f [] d m n e = elim m [ ]
once f (z ∷ zs) d (here p) (here q) e = p ∙ sym q
once f (z ∷ zs) d (here p) (there n) e = absurd (d.0 (mem-cast (sym (ap f p) ∙ e) (mem-map f n)))
once f (z ∷ zs) d (there m) (here q) e = absurd (d.0 (mem-cast (sym (ap f q) ∙ sym e) (mem-map f m)))
once f (z ∷ zs) d (there m) (there n) e = once f zs d.1 m n e

pub empty_full : {V P : Type 0} {s : Slot V} → ◌≡◌ {A = Place V} Empty (Full s) → P
empty_full e = cc

-- what lies in place i lies in the places
pub slots_at : {V : Type 0} {s : Slot V} (ps : List (Place V)) (i : ℕ) → get_or ps i Empty ≡ Full s → Mem s (slots_of ps)
unfolding slots_of
slots_at [] i e = empty_full e
slots_at (Empty ∷ ps) zero e = empty_full e
slots_at (Full t ∷ ps) zero e = here cc
slots_at (Empty ∷ ps) (suc i) e = slots_at ps i e
slots_at (Full t ∷ ps) (suc i) e = there (slots_at ps i e)

-- what lies in places of which one was set is what was set, or lay there before
pub slots_set : {V : Type 0} {s : Slot V} (ps : List (Place V)) (i : ℕ) (p : Place V) → Mem s (slots_of (set ps i p)) → (p ≡ Full s) ⊎ Mem s (slots_of ps)
unfolding slots_of
slots_set [] i p m = inr m
slots_set (Empty ∷ ps) zero Empty m = inr m
slots_set (Full t ∷ ps) zero Empty m = inr (there m)
slots_set (Empty ∷ ps) zero (Full u) (here e) = inl (ap Full (sym e))
slots_set (Empty ∷ ps) zero (Full u) (there m) = inr m
slots_set (Full t ∷ ps) zero (Full u) (here e) = inl (ap Full (sym e))
slots_set (Full t ∷ ps) zero (Full u) (there m) = inr (there m)
slots_set (Empty ∷ ps) (suc i) p m = slots_set ps i p m
slots_set (Full t ∷ ps) (suc i) p (here e) = inr (here e)
slots_set (Full t ∷ ps) (suc i) p (there m) = ⊎_elim (λ e. inl e) (λ n. inr (there n)) (slots_set ps i p m)

pub slots_empties : {V : Type 0} {s : Slot V} (n : ℕ) → Mem s (slots_of (empties n)) → ⊥
unfolding slots_of empties
slots_empties zero m = elim m [ ]
slots_empties (suc n) m = slots_empties n m

-- what lies in a box lies in the boxes
pub slots_in_lem : {s : Slot Term} {b : Box Term} (bs : List (Box Term)) → Mem b bs → Mem s (slots_of b.places) → Mem s (slots_in bs)
unfolding slots_in
slots_in_lem [] m n = elim m [ ]
slots_in_lem (c ∷ cs) (here e) n = mem-left (slots_in cs) (rw e at n)
slots_in_lem (c ∷ cs) (there m) n = mem-right (slots_of c.places) (slots_in_lem cs m n)
