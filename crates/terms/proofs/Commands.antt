-- What a command may do to a box, and that each command does no more.
use Rattle.std.proofs.Common.{◌≡◌, ℕ, suc, false, not, ◌&&◌, ltb, List, ◌∷◌, length, set, Some, None, Option, refl, ap, subst, ⊎_elim}
use mathlib.Core.List.{Memᴰ as Mem}
use Rattle.std.proofs.lemmas.Bool.{cond_both}
use Rattle.keys.specs.declared.role.Role.{Role}
use Rattle.keys.specs.declared.role.Role.TheVariants.{Wrapper, Sealer, Marker, Base}
use Rattle.keys.specs.declared.tag.Tag.{Tag}
use Rattle.keys.specs.declared.refusal.Refusal.TheVariants.{NoKey, WrongRole}
use Rattle.keys.specs.Algebra.{same_role, Slot}
use Rattle.keys.specs.Machine.{Place, Empty, Full, Box, Command, Make, Load, Show, Wrap, Unwrap, Seal, Open, Mark, Derive, Forget, After, answer_value}
use Rattle.keys.specs.Machine.{limit, put_at, counted, drew, refused, next, has_room, put_in, with_key, in_role, next_stamp, issues}
use Rattle.keys.specs.Machine.{admits, opens, derived_slot, does}
use Rattle.terms.specs.Term.{Term, terms, unwrapped, unsealed}
use Rattle.terms.specs.Security.{stamps_of}
use Rattle.terms.specs.World.{Distinct, added, slots_of, generated_by, issued_by, carried}
use Rattle.terms.proofs.Lists.{empty_full, slots_at, slots_set}
use Rattle.terms.proofs.Places.{at_get_or, by_place}
use Rattle.terms.proofs.Equal.{role_is, unwrapped_is, unsealed_is}
use Rattle.terms.proofs.Ledger.{key_numbering, stamp_numbering, Counted, none, one}
use Rattle.terms.proofs.Good.{Public, HeldAs, Held, keys_of, drawn_slot, held_added}
use Rattle.terms.proofs.Good.{held_drawn, held_derived, wrap_public, seal_public, unsealed_public, unwrapped_held}

abbrev pub OnSome : {A : Type 0} → (A → Type 0) → Option A → Type 0
OnSome P None = Unit {0}
OnSome P (Some x) = P x

-- box b may become c, give v, draw g and issue m, where ds were drawn and ms issued before
pub record Allowed (ds : List (Slot Term)) (ms : List Term) (b c : Box Term) (v : Option Term) (g : Option (Slot Term)) (m : Option Term) : Type 0 where
  pub number : c.number ≡ b.number
  pub drawn : Counted key_numbering b c (keys_of ds) (keys_of (added g ds))
  pub count : Counted stamp_numbering b c (stamps_of ms) (stamps_of (added m ms))
  pub each : length (stamps_of ms) ≡ length ms → length (stamps_of (added m ms)) ≡ length (added m ms)
  pub given : OnSome (Public (added g ds) (added m ms)) v
  pub slots : (s : Slot Term) → Mem s (slots_of c.places) → Held (added g ds) (added m ms) s

-- the same of a command c that does a
abbrev pub AllowedTo : List (Slot Term) → List Term → Box Term → Command Term → After Term → Type 0
AllowedTo ds ms b c a = Allowed ds ms b a.box (answer_value a.answer) (generated_by c b a.answer) (issued_by c a.answer)

pub full_held : (ds : List (Slot Term)) (ms : List Term) (s t : Slot Term) → Held ds ms s → Full s ≡ Full t → Held ds ms t
full_held ds ms s t h e = let q : s ≡ t = cc in subst (Held ds ms) q h

-- of a box that holds what it may
module _ (ds : List (Slot Term)) (ms : List Term) (d : Distinct (keys_of ds)) (b : Box Term)
    (lies : (s : Slot Term) → Mem s (slots_of b.places) → Held ds ms s) where
  -- after a command that draws and issues nothing, and after one that issues what it gives
  abbrev Quiet : After Term → Type 0
  Quiet a = Allowed ds ms b a.box (answer_value a.answer) None None

  abbrev Issuing : After Term → Type 0
  Issuing a = Allowed ds ms b a.box (answer_value a.answer) None (answer_value a.answer)

  quiet : (ps : List (Place Term)) (v : Option Term) → OnSome (Public ds ms) v → ((s : Slot Term) → Mem s (slots_of ps) → Held ds ms s) →
      Allowed ds ms b (record { number = b.number; drawn = b.drawn; count = b.count; places = ps }) v None None
  quiet ps v h f = record { number = refl; drawn = none refl refl; count = none refl refl; each = λ e. e; given = h; slots = f }

  unchanged : Allowed ds ms b b None None None
  unchanged = quiet b.places None tt lies

  gives_public : (v : Term) → Public ds ms v → Allowed ds ms b b (Some v) None None
  gives_public v h = quiet b.places (Some v) h lies

  sets : (i : ℕ) (p : Place Term) → ((s : Slot Term) → p ≡ Full s → Held ds ms s) → Allowed ds ms b (put_at i p b) None None None
  sets i p h = quiet (set b.places i p) None tt (λ s m. ⊎_elim (h s) (lies s) (slots_set b.places i p m))

  puts : (s : Slot Term) → Held ds ms s → Quiet (put_in s b)
  puts s h = cond_both (has_room b) _ _ Quiet (λ e. sets (next b) (Full s) (λ t q. full_held ds ms s t h q)) (λ e. unchanged)

  draws : (i : ℕ) (t : Tag) → let s = drawn_slot b.number b.drawn t.role t.stays in Allowed ds ms b (put_at i (Full s) (drew b)) None (Some s) None
  draws i t =
      let s = drawn_slot b.number b.drawn t.role t.stays in
      let new : Held (s ∷ ds) ms s = held_drawn ds ms b.number b.drawn t.role t.stays in
      let old = held_added ds ms (Some s) None in
      let slots : (u : Slot Term) → Mem u (slots_of (set b.places i (Full s))) → Held (s ∷ ds) ms u =
      λ u m. ⊎_elim (λ e. full_held (s ∷ ds) ms s u new e) (λ n. old u (lies u n)) (slots_set b.places i (Full s) m) in
      record { number = refl; drawn = one refl refl; count = none refl refl; each = λ e. e; given = tt; slots = slots }

  issues_public : (v : Term) → stamps_of (v ∷ ms) ≡ next_stamp b ∷ stamps_of ms → Public ds (v ∷ ms) v → Issuing (issues v b)
  issues_public v e h = cond_both (ltb b.count limit) _ _ Issuing (λ f. blob) (λ f. unchanged)
    where
      blob : Allowed ds ms b (counted b) (Some v) None (Some v)
      blob =
          record {
            number = refl;
            drawn = none refl refl;
            count = one refl e;
            each = λ f. rw e (ap suc f);
            given = h;
            slots = λ s m. held_added ds ms None (Some v) s (lies s m);
          }

  on_key : (P : After Term → Type 0) → P (refused NoKey b) → (i : ℕ) (f : Slot Term → After Term) → ((s : Slot Term) → Held ds ms s → P (f s)) →
      P (with_key i b f)
  on_key P empty i f h = by_place i b f P (λ e. empty) (λ s q. h s (lies s (slots_at b.places i (at_get_or b.places i (Full s) Empty q))))

  in_role_lem : (P : After Term → Type 0) → P (refused WrongRole b) → (r : Role) (s : Slot Term) (a : After Term) → Held ds ms s →
      (HeldAs ds ms s.tag.stays s.key r → P a) → P (in_role r s b a)
  in_role_lem P wrong r s a h f = cond_both (same_role r s.tag.role) a _ P (λ e. f (rw (role_is r s.tag.role e) h)) (λ e. wrong)

  admits_held : (v : Term) → Public ds ms v → (w : Slot Term) → Held ds ms w → (o : Option (Slot Term)) → unwrapped w.key v ≡ o → Quiet (admits w o b)
  admits_held v h w k None e = unchanged
  admits_held v h w k (Some s) e =
      cond_both (s.tag.stays && not w.tag.stays) _ _ Quiet (λ f. unchanged) (λ f.
      let (p, is) = unwrapped_is w.key v s e in
      puts s (unwrapped_held ds ms d w.tag.stays s.tag.stays w.key s.key p w.tag.role s.tag.role f k (subst (Public ds ms) is h)))

  opens_public : (v : Term) → Public ds ms v → (k : Term) (o : Option Term) → unsealed k v ≡ o → Quiet (opens o b)
  opens_public v h k None e = unchanged
  opens_public v h k (Some t) e = let (p, is) = unsealed_is k v t e in gives_public t (unsealed_public ds ms k t p (subst (Public ds ms) is h))

  -- each command does what it may
  pub obeys : (c : Command Term) → Public ds ms (carried c) → AllowedTo ds ms b c (does terms c b)
  unfolding stamps_of Public
  obeys (Make t) h =
      let P = AllowedTo ds ms b (Make t) in
      cond_both (has_room b) _ _ P (λ e. cond_both (ltb b.drawn limit) _ _ P (λ f. draws (next b) t) (λ f. unchanged)) (λ e. unchanged)
  obeys (Load r v) h = puts (record { key = v; tag = record { role = r; stays = false } }) h
  obeys (Show i) h =
      on_key Quiet unchanged i _ (λ s k. cond_both s.tag.stays _ _ Quiet (λ e. unchanged) (λ e. gives_public s.key (rw e at k)))
  obeys (Wrap i u) h =
      on_key Issuing unchanged i _ (λ s k. on_key Issuing unchanged u _ (λ w l. in_role_lem Issuing unchanged Wrapper w _ l (λ f.
      cond_both (s.tag.stays && not w.tag.stays) _ _ Issuing (λ e. unchanged) (λ e.
      issues_public _ refl (wrap_public ds ms w.tag.stays s.tag.stays w.key s.key (next_stamp b) s.tag.role e f k)))))
  obeys (Unwrap u v) h = on_key Quiet unchanged u _ (λ w k. in_role_lem Quiet unchanged Wrapper w _ k (λ f. admits_held v h w k (unwrapped w.key v) refl))
  obeys (Seal i v) h =
      on_key Issuing unchanged i _ (λ s k. in_role_lem Issuing unchanged Sealer s _ k (λ f.
      issues_public _ refl (seal_public ds ms s.tag.stays s.key v (next_stamp b) f h)))
  obeys (Open i v) h = on_key Quiet unchanged i _ (λ s k. in_role_lem Quiet unchanged Sealer s _ k (λ f. opens_public v h s.key (unsealed s.key v) refl))
  obeys (Mark i v) h = on_key Quiet unchanged i _ (λ s k. in_role_lem Quiet unchanged Marker s _ k (λ f. gives_public _ tt))
  obeys (Derive i l r) h =
      on_key Quiet unchanged i _ (λ s k. in_role_lem Quiet unchanged Base s _ k (λ f.
      puts (derived_slot terms s l r) (held_derived ds ms s.tag.stays s.key l r f)))
  obeys (Forget i) h = on_key Quiet unchanged i _ (λ s k. sets i Empty (λ t e. empty_full e))
