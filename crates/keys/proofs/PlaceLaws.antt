-- The places of a table and those of its box.
use Rattle.std.proofs.Common.{Bool, true, false, not, cond, Some, None, Option, nat_lt, is_none, MatchOption, arith, ◌≡◌, ℕ, zero, suc, ◌+◌, ◌<◌, List, [], ◌∷◌, ◌++◌, map, length, take, set, refl, sym, ap, ◌∙◌, add-one}
use Rattle.std.proofs.lemmas.Bool.{ltb-true}
use Rattle.std.proofs.lemmas.List.{map-set, length-map, take_all, take_more_set}
use Rattle.std.specs.Prelude.{Ok}
use Rattle.std.specs.List.{position, position_or_len}
use Rattle.keys.specs.Checks.{Rooms}
use Rattle.keys.specs.declared.tag.Tag.{Tag}
use Rattle.keys.specs.Machine.{Empty, capacity, empties, first_empty, Place}
use Rattle.keys.specs.Contents.{holding, place_of}
use Rattle.keys.specs.declared.place.Place as code

-- one more empty place at the end
pub empties_more : {V : Type 0} (n : ℕ) → empties {V = V} n ++ Empty ∷ [] ≡ empties (n + 1)
unfolding empties
empties_more zero = refl
empties_more (suc n) = rw add-one (ap (λ ps. Empty ∷ ps) (empties_more n ∙ ap empties (add-one n)))

-- and so after an emptied one
pub empty_more : (ps : List code.Place) (i : ℕ) (p : code.Place) → i < length ps → p.tag ≡ None
    → take i (map place_of ps) ≡ empties i → take (i + 1) (map place_of (set ps i p)) ≡ empties (i + 1)
empty_more ps i p h e t =
    ap (take (i + 1)) (map-set place_of ps i p)
    ∙ (take_more_set (map place_of ps) i (place_of p) (simp length-map h)
    ∙ (ap (λ t. take i (map place_of ps) ++ holding t p.key.bytes ∷ []) e ∙ (ap (λ qs. qs ++ Empty ∷ []) t ∙ empties_more i)))

-- all places are empty if as many are as there are
pub all_empty : (ps : List code.Place) (n : ℕ) → take n (map place_of ps) ≡ empties n → length ps ≡ n → map place_of ps ≡ empties n
all_empty ps n e all = sym (take_all n (map place_of ps) (omega (arith, length-map ps place_of))) ∙ e

-- a write to a place
pub put_place : (ps : List code.Place) (i : ℕ) (p : code.Place) (q : Place (List ℕ)) → place_of p ≡ q → map place_of (set ps i p) ≡ set (map place_of ps) i q
put_place ps i p q e = map-set place_of ps i p ∙ ap (set (map place_of ps) i) e

-- whether a place is empty
abbrev pub vacant : code.Place → Bool
vacant p = is_none p.tag

-- a search for an empty place ends at an empty one, and goes on behind a full one
first_of : (t : Option Tag) (bs : List ℕ) (ps : List (Place (List ℕ))) (i n : ℕ) → first_empty (i + 1) ps ≡ i + 1 + n
    → first_empty i (holding t bs ∷ ps) ≡ i + cond (not (is_none t)) (1 + n) 0
unfolding first_empty
first_of None bs ps i n e = omega arith
first_of (Some t) bs ps i n e = omega arith

-- the first empty place, counted from i
first_from : (ps : List code.Place) (i : ℕ) → first_empty i (map place_of ps) ≡ i + position_or_len vacant ps
unfolding first_empty
first_from [] i = omega arith
first_from (p ∷ ps) i = first_of p.tag p.key.bytes (map place_of ps) i (position_or_len vacant ps) (first_from ps (i + 1))

-- what a search among n comes to, if it ends at m
found_at : (b : Bool) (m n : ℕ) → nat_lt m n ≡ b → n ≡ capacity
    → MatchOption (cond b (Some m) None) (nat_lt m n ≡ false) (λ i. (nat_lt m n ≡ true) × (i ≡ m) × (i < capacity))
found_at true m n e h = let less = ltb-true m n e in (e, refl, omega arith)
found_at false m n e h = e

-- what a search for the first empty place comes to
pub rooms : (ps : List code.Place) (r : Option ℕ) → r ≡ position vacant ps → length ps ≡ capacity
    → MatchOption r (nat_lt (first_empty 0 (map place_of ps)) (length (map place_of ps)) ≡ false) (λ i. Rooms (map place_of ps) (Ok i))
rooms ps r e n =
    let first : first_empty 0 (map place_of ps) ≡ position_or_len vacant ps = omega (arith, first_from ps 0) in
    rw (e, first, length-map ps place_of) (found_at _ (position_or_len vacant ps) (length ps) refl n)
