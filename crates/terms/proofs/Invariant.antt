-- What holds of every world that can come about.
use Rattle.std.proofs.Common.{◌≡◌, ℕ, ◌<◌, List, [], ◌∷◌, map, length, set, Some, None, Option, sym, refl, ap, ◌∙◌, subst, ⊎_elim}
use mathlib.Core.List.Memᴰ.{append_cases as mem-append}
use mathlib.Core.List.Memᴰ.{cases_cons as mem-cons}
use mathlib.Core.List.{Memᴰ as Mem}
use mathlib.Core.List.Memᴰ.{append_left as mem-left}
use mathlib.Core.List.Memᴰ.{append_right as mem-right}
use Rattle.keys.specs.Algebra.{Slot}
use Rattle.keys.specs.Machine.{Full, Box, Command, After, answer_value, capacity, empties, house_slot, fresh, does}
use Rattle.terms.specs.Term.{Term, terms}
use Rattle.terms.specs.Security.{stamps_of}
use Rattle.terms.specs.World.{World, Distinct, Reachable, begins, then, added, box_at, slots_of, slots_in, start, after, generated_by, issued_by}
use Rattle.std.proofs.Math.Seq.{map-set_same}
use Rattle.terms.proofs.Lists.{mem-get_or, mem-set, slots_set, slots_empties, slots_in_lem}
use Rattle.terms.proofs.Ledger.{key_numbering, stamp_numbering, numbers_of, Ledger, ledger_none, ledger_step}
use Rattle.terms.proofs.Good.{StaysAs, Public, Held, keys_of, public_added, held_added, knows_public}
use Rattle.terms.proofs.Commands.{OnSome, AllowedTo, full_held, obeys}

-- the boxes keep their numbers; no key is drawn and no stamp used twice; all that was said may be known; all that lay was held rightly; what lies is among it
pub record Invariant (numbers : List ℕ) (w : World) : Type 0 where
  pub distinct : Distinct numbers
  pub numbered : numbers_of w.boxes ≡ numbers
  pub keys : Ledger key_numbering w.boxes (keys_of w.generated)
  pub stamps : Ledger stamp_numbering w.boxes (stamps_of w.issued)
  pub each : length (stamps_of w.issued) ≡ length w.issued
  pub said : (t : Term) → Mem t w.transcript → Public w.generated w.issued t
  pub lay : (s : Slot Term) → Mem s w.held → Held w.generated w.issued s
  pub lies : (b : Box Term) → Mem b w.boxes → (s : Slot Term) → Mem s (slots_of b.places) → Mem s w.held

fresh_numbers : (ns : List ℕ) → numbers_of (map (fresh terms) ns) ≡ ns
fresh_numbers [] = refl
fresh_numbers (n ∷ ns) = ap (λ xs. n ∷ xs) (fresh_numbers ns)

-- nothing but the house key lies in new boxes
fresh-held : (ns : List ℕ) (s : Slot Term) → Mem s (slots_in (map (fresh terms) ns)) → Held [] [] s
unfolding slots_in StaysAs
fresh-held [] s m = elim m [ ]
fresh-held (n ∷ ns) s m = ⊎_elim new (fresh-held ns s) (mem-append (slots_of (fresh terms n).places) m)
  where
    house : Full (house_slot terms) ≡ Full s → Held [] [] s
    house e = full_held [] [] (house_slot terms) s refl e

    new : Mem s (slots_of (fresh terms n).places) → Held [] [] s
    new k = ⊎_elim house (λ z. absurd (slots_empties capacity z)) (slots_set (empties capacity) 63 (Full (house_slot terms)) k)

start_invariant : (ns : List ℕ) → Distinct ns → Invariant ns (start ns)
unfolding stamps_of
start_invariant ns d =
    let bs = map (fresh terms) ns in
    record {
      distinct = d;
      numbered = fresh_numbers ns;
      keys = ledger_none key_numbering bs;
      stamps = ledger_none stamp_numbering bs;
      each = refl;
      said = λ t m. elim m [ ];
      lay = fresh-held ns;
      lies = λ b m s n. slots_in_lem bs m n;
    }

said_more : (P : Term → Type 0) (v : Option Term) (hs : List Term) → OnSome P v → ((t : Term) → Mem t hs → P t) → (t : Term) → Mem t (added v hs) → P t
said_more P None hs h f t m = f t m
said_more P (Some v) hs h f t m = ⊎_elim (λ e. subst P (sym e) h) (f t) (mem-cons m)

-- what is allowed keeps the invariant
after_invariant : (ns : List ℕ) (w : World) → Invariant ns w → (i : ℕ) → i < length w.boxes → (c : Command Term) (a : After Term) →
    AllowedTo w.generated w.issued (box_at i w.boxes) c a → Invariant ns (after w i c (box_at i w.boxes) a)
after_invariant ns w h i lt c a r =
    let g = generated_by c (box_at i w.boxes) a.answer in
    let m = issued_by c a.answer in
    let ds = w.generated in
    let ms = w.issued in
    let numbered : numbers_of (set w.boxes i a.box) ≡ ns = map-set_same (λ (b : Box Term). b.number) w.boxes i a.box _ r.number ∙ h.numbered in
    let d : Distinct (numbers_of (set w.boxes i a.box)) = rw numbered h.distinct in
    record {
      distinct = h.distinct;
      numbered = numbered;
      keys = ledger_step key_numbering w.boxes (keys_of ds) (keys_of (added g ds)) h.keys i lt a.box r.number d r.drawn;
      stamps = ledger_step stamp_numbering w.boxes (stamps_of ms) (stamps_of (added m ms)) h.stamps i lt a.box r.number d r.count;
      each = r.each h.each;
      said = said_more (Public (added g ds) (added m ms)) (answer_value a.answer) w.transcript r.given (λ t k. public_added ds ms g m t (h.said t k));
      lay = λ s k. ⊎_elim (r.slots s) (λ l. held_added ds ms g m s (h.lay s l)) (mem-append (slots_of a.box.places) k);
      lies = λ x k s l.
          ⊎_elim (λ e. mem-left w.held (subst (λ (y : Box Term). Mem s (slots_of y.places)) e l))
          (λ n. mem-right (slots_of a.box.places) (h.lies x n s l))
          (mem-set w.boxes i a.box k);
    }

pub invariant : (ns : List ℕ) {w : World} → Reachable ns w → Invariant ns w
invariant ns (begins d) = start_invariant ns d
invariant ns (then {w} r i lt c k) =
    let h = invariant ns r in
    let b = box_at i w.boxes in
    let known = knows_public w.generated h.keys.distinct w.issued w.transcript h.said k in
    let lies = λ (s : Slot Term) (m : Mem s (slots_of b.places)). h.lay s (h.lies b (mem-get_or w.boxes i _ lt) s m) in
    after_invariant ns w h i lt c (does terms c b) (obeys w.generated w.issued h.keys.distinct b lies c known)
