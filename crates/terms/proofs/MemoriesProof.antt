-- The memories of a world, step by step.
use Rattle.std.proofs.Common.{◌≡◌, ℕ, Bool, true, false, cond, not, ◌&&◌, ltb, List, Some, None, Option, sym, refl, ap, ◌∙◌, subst}
use mathlib.Core.List.Memᴰ
use Rattle.std.proofs.lemmas.Bool.{ltb-true, cond_both}
use Rattle.keys.specs.declared.role.Role.{Role}
use Rattle.keys.specs.declared.role.Role.TheVariants.{Wrapper, Sealer}
use Rattle.keys.specs.declared.tag.Tag.{Tag}
use Rattle.keys.specs.declared.refusal.Refusal.{Refusal}
use Rattle.keys.specs.declared.refusal.Refusal.TheVariants.{NoRoom, UsedUp}
use Rattle.keys.specs.Algebra.{Slot, same_role}
use Rattle.keys.specs.Machine.{Empty, Full, Box, Command, Make, Load, Show, Wrap, Unwrap, Seal, Open, Mark, Derive, Forget}
use Rattle.keys.specs.Machine.{Answer, Refused, Placed, Gives, Done, answer_value, After, limit, next, has_room, with_key, in_role, issues, does}
use Rattle.terms.specs.At.{At}
use Rattle.terms.specs.Term.{Term, Drawn, terms}
use Rattle.terms.specs.World.{World, added, slots_of, no_box, box_at, generated_by, issued_by}
use Rattle.terms.specs.Memories.{LiesHeld, BlobOf, wrapping, sealing, MakesBlob, wraps, seals, Issues, Generates, Hears, Memories}
use Rattle.terms.proofs.Lists.{slots_at, within-added}
use Rattle.terms.proofs.Places.{at_get_or, at_mem, by_place, set_at}
use Rattle.std.proofs.lemmas.Option.{none-some}
use Rattle.terms.proofs.Invariant.{invariant}

lies_held : LiesHeld
lies_held numbers w r i h b s p q = (invariant numbers r).lies b (at_mem w.boxes i b p) s (slots_at b.places h (at_get_or b.places h (Full s) Empty q))

-- an answer without a value gives none
silent : (x : Answer Term) (v : Term) → answer_value x ≡ None → x ≡ Gives v → ⊥
silent x v n e = none-some v (sym n ∙ ap answer_value e)

-- a blob of box b by command c, or no value
data Blob (b : Box Term) (c : Command Term) (x : After Term) : Type 0 where
  made : (v : Term) → x.answer ≡ Gives v → BlobOf b c v → Blob b c x
  not_made : answer_value x.answer ≡ None → Blob b c x

blob_issued : {c : Command Term} (v : Term) → MakesBlob c → issued_by c (Gives v) ≡ Some v
blob_issued v (wraps i u) = refl
blob_issued v (seals i t) = refl

module _ (b : Box Term) (c : Command Term) where
  blob_key : (i : ℕ) {f : Slot Term → After Term} → ((s : Slot Term) → At b.places i (Full s) → Blob b c (f s)) → Blob b c (with_key i b f)
  blob_key i {f} = by_place i b f (Blob b c) (λ e. not_made refl)

  blob_either : (t : Bool) {x y : After Term} → Blob b c x → Blob b c y → Blob b c (cond t x y)
  blob_either true p q = p
  blob_either false p q = q

  blob_in_role : (r : Role) (s : Slot Term) {x : After Term} → Blob b c x → Blob b c (in_role r s b x)
  blob_in_role r s p = blob_either (same_role r s.tag.role) p (not_made refl)

  blob_made : (v : Term) → BlobOf b c v → Blob b c (issues v b)
  blob_made v p = blob_either (ltb b.count limit) (made v refl p) (not_made refl)

  issues_made : (before : List Term) → Blob b c (does terms c b) → Issues b c before (added (answer_value (does terms c b).answer) before)
  issues_made before (made v e p) = Issues.blob v e p (ap (λ (x : Answer Term). added (answer_value x) before) e)
  issues_made before (not_made e) = Issues.none (λ v q p. silent _ v e q) (ap (λ (o : Option Term). added o before) e)

  issues_none : (before : List Term) → ((x : Answer Term) → issued_by c x ≡ None) → Issues b c before (added (issued_by c (does terms c b).answer) before)
  issues_none before n =
      Issues.none (λ v e p. none-some v (sym (n (Gives v)) ∙ blob_issued v p))
      (ap (λ (o : Option Term). added o before) (n (does terms c b).answer))

  generates_none : (before : List (Slot Term)) → ((x : Answer Term) → generated_by c b x ≡ None) →
      Generates b c before (added (generated_by c b (does terms c b).answer) before)
  generates_none before n =
      Generates.none (λ t i e q. none-some _ (sym (n (Placed i)) ∙ ap (λ (d : Command Term). generated_by d b (Placed i)) e))
      (ap (λ (o : Option (Slot Term)). added o before) (n (does terms c b).answer))

issues-by : (b : Box Term) (before : List Term) (c : Command Term) → Issues b c before (added (issued_by c (does terms c b).answer) before)
issues-by b before (Make t) = issues_none b (Make t) before (λ x. refl)
issues-by b before (Load r v) = issues_none b (Load r v) before (λ x. refl)
issues-by b before (Show i) = issues_none b (Show i) before (λ x. refl)
issues-by b before (Wrap i u) =
    issues_made b (Wrap i u) before
    (blob_key b _ i λ s h. blob_key b _ u λ w k. blob_in_role b _ Wrapper w
    (blob_either b _ (s.tag.stays && not w.tag.stays) (not_made refl) (blob_made b _ _ (wrapping i u s w h k))))
issues-by b before (Unwrap u v) = issues_none b (Unwrap u v) before (λ x. refl)
issues-by b before (Seal i v) = issues_made b (Seal i v) before (blob_key b _ i λ s h. blob_in_role b _ Sealer s (blob_made b _ _ (sealing i s v h)))
issues-by b before (Open i v) = issues_none b (Open i v) before (λ x. refl)
issues-by b before (Mark i v) = issues_none b (Mark i v) before (λ x. refl)
issues-by b before (Derive i l r) = issues_none b (Derive i l r) before (λ x. refl)
issues-by b before (Forget i) = issues_none b (Forget i) before (λ x. refl)

-- the key that box b draws with tag t
abbrev drawn_slot : Box Term → Tag → Slot Term
drawn_slot b t = record { key = Drawn b.number b.drawn; tag = t }

-- it comes to lie in the place that is answered, or the command is refused
data Draws (s : Slot Term) (x : After Term) : Type 0 where
  lies : (i : ℕ) → x.answer ≡ Placed i → At x.box.places i (Full s) → Draws s x
  refuses : (r : Refusal) → x.answer ≡ Refused r → Draws s x

refused-placed : (r : Refusal) (i : ℕ) → ◌≡◌ {A = Answer Term} (Refused r) (Placed i) → ⊥
refused-placed r i e = cc

draws : (t : Tag) (b : Box Term) → Draws (drawn_slot b t) (does terms (Make t) b)
draws t b =
    cond_both (has_room b) _ _ (Draws (drawn_slot b t))
    (λ e. cond_both (ltb b.drawn limit) _ _ (Draws (drawn_slot b t))
    (λ l. lies (next b) refl (set_at b.places (next b) _ (ltb-true _ _ e))) (λ l. refuses UsedUp refl))
    (λ e. refuses NoRoom refl)

generates_drawn : (t : Tag) (b : Box Term) (before : List (Slot Term)) → Draws (drawn_slot b t) (does terms (Make t) b) →
    Generates b (Make t) before (added (generated_by (Make t) b (does terms (Make t) b).answer) before)
generates_drawn t b before (lies i e h) = Generates.key t i (drawn_slot b t) refl e refl h (ap (λ (x : Answer Term). added (generated_by (Make t) b x) before) e)
generates_drawn t b before (refuses r e) =
    Generates.none (λ u i m q. refused-placed r i (sym e ∙ q)) (ap (λ (x : Answer Term). added (generated_by (Make t) b x) before) e)

generates_by : (b : Box Term) (before : List (Slot Term)) (c : Command Term) → Generates b c before (added (generated_by c b (does terms c b).answer) before)
generates_by b before (Make t) = generates_drawn t b before (draws t b)
generates_by b before (Load r v) = generates_none b (Load r v) before (λ x. refl)
generates_by b before (Show i) = generates_none b (Show i) before (λ x. refl)
generates_by b before (Wrap i u) = generates_none b (Wrap i u) before (λ x. refl)
generates_by b before (Unwrap u v) = generates_none b (Unwrap u v) before (λ x. refl)
generates_by b before (Seal i v) = generates_none b (Seal i v) before (λ x. refl)
generates_by b before (Open i v) = generates_none b (Open i v) before (λ x. refl)
generates_by b before (Mark i v) = generates_none b (Mark i v) before (λ x. refl)
generates_by b before (Derive i l r) = generates_none b (Derive i l r) before (λ x. refl)
generates_by b before (Forget i) = generates_none b (Forget i) before (λ x. refl)

hears_by : (b : Box Term) (c : Command Term) (before : List Term) (x : Answer Term) → (does terms c b).answer ≡ x → Hears b c before (added (answer_value x) before)
hears_by b c before (Refused r) e = Hears.none (λ v q. silent (Refused r) v refl (sym e ∙ q)) refl
hears_by b c before (Placed i) e = Hears.none (λ v q. silent (Placed i) v refl (sym e ∙ q)) refl
hears_by b c before (Gives v) e = Hears.value v e refl
hears_by b c before Done e = Hears.none (λ v q. silent Done v refl (sym e ∙ q)) refl

-- what holds of box b holds of the box that is looked up
looked_up : (P : Box Term → Type 0) (w : World) (i : ℕ) (b : Box Term) → At w.boxes i b → P b → P (box_at i w.boxes)
looked_up P w i b p = subst P (sym (at_get_or w.boxes i b no_box p))

pub memories : Memories
memories =
    record {
      lies_held = lies_held;
      issues = λ w i b p c. looked_up (λ d. Issues b c w.issued (added (issued_by c (does terms c d).answer) w.issued))
          w i b p (issues-by b w.issued c);
      generates = λ w i b p c. looked_up (λ d. Generates b c w.generated (added (generated_by c d (does terms c d).answer) w.generated))
          w i b p (generates_by b w.generated c);
      hears = λ w i b p c. looked_up (λ d. Hears b c w.transcript (added (answer_value (does terms c d).answer) w.transcript))
          w i b p (hears_by b c w.transcript _ refl);
      keeps = λ w i c.
          record {
            transcript = within-added _ w.transcript;
            held = λ s. Memᴰ.append_right (slots_of (does terms c (box_at i w.boxes)).box.places);
            generated = within-added _ w.generated;
            issued = within-added _ w.issued;
          };
    }
