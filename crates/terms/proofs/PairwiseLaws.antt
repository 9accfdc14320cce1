-- Lists whose elements are paired.
use Rattle.std.proofs.Common.{◌≡◌, ℕ, zero, suc, ◌+◌, List, length, get_or, set, refl, ap}
use Rattle.keys.specs.Machine.{Place, first_empty, empties}
use Rattle.terms.specs.Term.{Term}
use Rattle.terms.specs.Alike.{StandsFor, Pairwise, none, both, AlikePlace, empty, full}

module _ {A B : Type 0} {P : A → B → Type 0} where
  pub pairwise_length : {xs : List A} {ys : List B} → Pairwise P xs ys → length xs ≡ length ys
  pairwise_length none = refl
  pairwise_length (both p ps) = ap suc (pairwise_length ps)

  pub pairwise_get_or : {x : A} {y : B} {xs : List A} {ys : List B} → Pairwise P xs ys → P x y → (i : ℕ) → P (get_or xs i x) (get_or ys i y)
  pairwise_get_or none d i = d
  pairwise_get_or (both p ps) d zero = p
  pairwise_get_or (both p ps) d (suc i) = pairwise_get_or ps d i

  pub pairwise_set : {x : A} {y : B} {xs : List A} {ys : List B} → Pairwise P xs ys → P x y → (i : ℕ) → Pairwise P (set xs i x) (set ys i y)
  pairwise_set none d i = none
  pairwise_set (both p ps) d zero = both d ps
  pairwise_set (both p ps) d (suc i) = both p (pairwise_set ps d i)

module _ (r : StandsFor) where
  pub pairwise_empties : (n : ℕ) → Pairwise (AlikePlace r) (empties n) (empties n)
  unfolding empties
  pairwise_empties zero = none
  pairwise_empties (suc n) = both empty (pairwise_empties n)

  pub pairwise_first_empty : {ps : List (Place (List ℕ))} {qs : List (Place Term)} → Pairwise (AlikePlace r) ps qs → (i : ℕ) → first_empty i ps ≡ first_empty i qs
  unfolding first_empty
  pairwise_first_empty none i = refl
  pairwise_first_empty (both empty ps) i = refl
  pairwise_first_empty (both (full s) ps) i = pairwise_first_empty ps (i + 1)
