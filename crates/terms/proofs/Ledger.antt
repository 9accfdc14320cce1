-- What boxes number by a counter, drawn keys and stamps: nothing is numbered twice.
use Rattle.std.proofs.Common.{◌≡◌, ℕ, ◌+◌, ◌<◌, ◌≤◌, List, [], ◌∷◌, map, length, set, sym, ap, ◌∙◌, ⊎_elim, arith}
use mathlib.Core.List.Memᴰ.{cast as mem-cast}
use mathlib.Core.List.Memᴰ.{head as here}
use mathlib.Core.List.Memᴰ.{tail as there}
use mathlib.Core.List.{Memᴰ as Mem}
use Rattle.keys.specs.Algebra.{Stamp}
use Rattle.keys.specs.Machine.{Box}
use Rattle.terms.specs.Term.{Term, Drawn}
use Rattle.terms.specs.World.{Distinct, box_at}
use Rattle.terms.proofs.Lists.{mem-get_or, mem-set, mem_set_same, once}

-- a kind of entries: the one of a box's number and a count, and the box's counter of them
pub record Numbering (X : Type 0) : Type 0 where
  pub entry : ℕ → ℕ → X
  pub counter : Box Term → ℕ
  pub injective : (m n p q : ℕ) → entry m n ≡ entry p q → (m ≡ p) × (n ≡ q)

pub drawn_injective : (m n p q : ℕ) → Drawn m n ≡ Drawn p q → (m ≡ p) × (n ≡ q)
drawn_injective m n p q e = (cc, cc)

abbrev pub key_numbering : Numbering Term
key_numbering = record { entry = Drawn; counter = λ b. b.drawn; injective = drawn_injective }

abbrev pub stamp_numbering : Numbering Stamp
stamp_numbering =
    record {
      entry = λ m n. record { number = m; count = n };
      counter = λ b. b.count;
      injective = λ m n p q e. (ap (λ (s : Stamp). s.number) e, ap (λ (s : Stamp). s.count) e);
    }

abbrev pub numbers_of : List (Box Term) → List ℕ
numbers_of = map (λ (b : Box Term). b.number)

module _ {X : Type 0} (k : Numbering X) where
  -- no entry twice, and each below the counter of a box with its number
  pub record Ledger (bs : List (Box Term)) (xs : List X) : Type 0 where
    pub distinct : Distinct xs
    pub below : (b : Box Term) → Mem b bs → (n : ℕ) → Mem (k.entry b.number n) xs → n < k.counter b

  -- box b becomes c: no entry more, or one, at the counter
  pub data Counted (b c : Box Term) (xs ys : List X) : Type 0 where
    none : k.counter c ≡ k.counter b → ys ≡ xs → Counted b c xs ys
    one : k.counter c ≡ k.counter b + 1 → ys ≡ k.entry b.number (k.counter b) ∷ xs → Counted b c xs ys

  pub ledger_none : (bs : List (Box Term)) → Ledger bs []
  unfolding Distinct
  ledger_none bs = record { distinct = tt; below = λ b m n h. elim h [ ] }

  -- a box changes, and its counter doesn't fall
  same_entries : (bs : List (Box Term)) (xs : List X) → Ledger bs xs → (i : ℕ) → i < length bs → (c : Box Term) → c.number ≡ (box_at i bs).number →
      k.counter (box_at i bs) ≤ k.counter c → Ledger (set bs i c) xs
  same_entries bs xs l i lt c e le =
      record { distinct = l.distinct; below = λ b m n h. ⊎_elim (changed b n h) (λ old. l.below b old n h) (mem-set bs i c m) }
    where
      changed : (b : Box Term) (n : ℕ) → Mem (k.entry b.number n) xs → b ≡ c → n < k.counter b
      changed b n h q =
          let number : b.number ≡ (box_at i bs).number = ap (λ (x : Box Term). x.number) q ∙ e in
          let before = l.below (box_at i bs) (mem-get_or bs i _ lt) n (mem-cast (ap (λ x. k.entry x n) (sym number)) h) in
          let counter = ap k.counter q in
          omega arith

  -- an entry more, with a number that only this box has
  one_more : (bs : List (Box Term)) (xs : List X) → Distinct (numbers_of bs) → Ledger bs xs → (c : Box Term) → Mem c bs → (n : ℕ) → k.counter c ≡ n + 1 →
      (Mem (k.entry c.number n) xs → ⊥) → Ledger bs (k.entry c.number n ∷ xs)
  unfolding Distinct
  one_more bs xs d l c mc n e new = record { distinct = (new, l.distinct); below = below }
    where
      below : (b : Box Term) → Mem b bs → (m : ℕ) → Mem (k.entry b.number m) (k.entry c.number n ∷ xs) → m < k.counter b
      below b mb m (here q) =
          let same = k.injective b.number m c.number n q in
          let counter = ap k.counter (once (λ (x : Box Term). x.number) bs d mb mc same.0) in
          let index = same.1 in
          omega arith
      below b mb m (there h) = l.below b mb m h

  pub ledger_step : (bs : List (Box Term)) (xs ys : List X) → Ledger bs xs → (i : ℕ) → i < length bs → (c : Box Term) → c.number ≡ (box_at i bs).number →
      Distinct (numbers_of (set bs i c)) → Counted (box_at i bs) c xs ys → Ledger (set bs i c) ys
  ledger_step bs xs ys l i lt c e d (none h q) = rw q (same_entries bs xs l i lt c e (omega arith))
  ledger_step bs xs ys l i lt c e d (one h q) =
      let n = k.counter (box_at i bs) in
      let new : Mem (k.entry (box_at i bs).number n) xs → ⊥ = λ m. let z = l.below (box_at i bs) (mem-get_or bs i _ lt) n m in omega arith in
      rw (q, ← e) (one_more (set bs i c) xs d (same_entries bs xs l i lt c e (omega arith)) c (mem_set_same bs i c lt) n h (rw e new))
