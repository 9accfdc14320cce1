-- A text cut at its first space.
use Rattle.std.proofs.Common.{◌≡◌, ℕ, suc, ◌+◌, ◌-◌, ◌<◌, ◌≤◌, Bool, true, false, cond, eqb, ltb, not, Option, Some, None, unwrap_or, List, [], ◌∷◌, length, get_or, take, drop, sym, refl, ap, ◌∙◌, arith}
use Rattle.std.proofs.lemmas.List.{nil_from_length, take_rest}
use Rattle.std.proofs.lemmas.List.Quantifiers.{position-Some}
use Rattle.std.proofs.lemmas.List.Sums.{fails_before_first, prefix_len-le-length}
use Rattle.std.specs.List.{position, position_or_len}
use Rattle.std.proofs.lemmas.Bool.{eqb-true, eqb-false}
use Rattle.ascon_cli.specs.Words.{lengthened, spaced, words}

-- The first place of a sign.
pub position-found : (t : List ℕ) (s i : ℕ) → Some i ≡ position (λ b. eqb b s) t → (i < length t) × (get_or t i 0 ≡ s) × ((k : ℕ) → k < i → get_or t k 0 ≡ s → ⊥)
position-found t s i e =
    let p = position-Some (λ b. eqb b s) t i 0 (sym e) in
    (p.0, eqb-true _ _ p.1, λ k h. eqb-false _ _ (p.2 k h))

-- A sign that stands nowhere.
pub position-nowhere : (t : List ℕ) (s : ℕ) → None ≡ position (λ b. eqb b s) t → (k : ℕ) → k < length t → get_or t k 0 ≡ s → ⊥
position-nowhere t s e k h =
    let n : ℕ = position_or_len (λ b. eqb b s) t in
    eqb-false _ _ (fails_before_first (λ b. eqb b s) t k 0 (none_le n (length t) e k h))
  where
    none_le : (n m : ℕ) → None ≡ cond (ltb n m) (Some n) None → (k : ℕ) → k < m → k < n
    none_le n m e k h = grind arith

words_at : (t : List ℕ) → words t ≡ take (position_or_len (λ b. eqb b 32) t) t ∷ spaced (drop (position_or_len (λ b. eqb b 32) t) t)
unfolding words spaced
words_at [] = refl
words_at (x ∷ t) = go (eqb x 32) (position_or_len (λ b. eqb b 32) t) (words_at t)
  where
    go : (c : Bool) (n : ℕ) → words t ≡ take n t ∷ spaced (drop n t) → cond c ([] ∷ words t) (lengthened x (words t)) ≡ take (cond (not c) (1 + n) 0) (x ∷ t) ∷ spaced (drop (cond (not c) (1 + n) 0) (x ∷ t))
    go true n h = refl
    go false n h = let e : 1 + n ≡ suc n = omega arith in rw e (ap (lengthened x) h)

-- The first space ends the first word.
pub words_split : (t : List ℕ) (o : Option ℕ) → o ≡ position (λ b. eqb b 32) t → words t ≡ take (unwrap_or o (length t)) t ∷ spaced (drop (unwrap_or o (length t)) t)
words_split t o e =
    let n : unwrap_or o (length t) ≡ position_or_len (λ b. eqb b 32) t = cut_at o (position_or_len (λ b. eqb b 32) t) (length t) (prefix_len-le-length _ t) e in
    words_at t ∙ ap (λ i. take i t ∷ spaced (drop i t)) (sym n)
  where
    cut_at : (o : Option ℕ) (n m : ℕ) → n ≤ m → o ≡ cond (ltb n m) (Some n) None → unwrap_or o m ≡ n
    cut_at None n m h e = grind arith
    cut_at (Some i) n m h e = grind arith

-- The words after a space.
pub spaced-words : (r : List ℕ) → 0 < length r → spaced r ≡ words (take (length r - 1) (drop 1 r))
unfolding spaced
spaced-words [] h = let z : ⊥ = omega arith in absurd z
spaced-words (b ∷ t) h = sym (ap words (take_rest (b ∷ t) 1))

pub spaced_none : (r : List ℕ) → length r ≡ 0 → spaced r ≡ []
unfolding spaced
spaced_none r h = ap spaced (nil_from_length r h)

words_some : (t : List ℕ) → 0 < length (words t)
unfolding words
words_some [] = omega arith
words_some (b ∷ t) = go (eqb b 32) (words t) (words_some t)
  where
    go : (c : Bool) (ws : List (List ℕ)) → 0 < length ws → 0 < length (cond c ([] ∷ ws) (lengthened b ws))
    go true ws h = omega arith
    go false [] h = h
    go false (w ∷ ws) h = omega arith

pub spaced_some : (r : List ℕ) → 0 < length r → 0 < length (spaced r)
unfolding spaced
spaced_some [] h = h
spaced_some (b ∷ t) h = words_some t
