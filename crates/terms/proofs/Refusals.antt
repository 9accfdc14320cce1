-- A refused command changes nothing, and no command changes a box's number or how many places it has.
use Rattle.std.proofs.Common.{◌≡◌, ℕ, ◌<◌, Bool, true, false, cond, not, ◌&&◌, ltb, length, Some, None, Option, refl, arith, length-set}
use Rattle.keys.specs.declared.role.Role.{Role}
use Rattle.keys.specs.declared.role.Role.TheVariants.{Wrapper, Sealer, Marker, Base}
use Rattle.keys.specs.declared.refusal.Refusal.{Refusal}
use Rattle.keys.specs.Algebra.{Slot, Algebra, same_role}
use Rattle.keys.specs.Machine.{Empty, Full, Box, Command, Make, Load, Show, Wrap, Unwrap, Seal, Open, Mark, Derive, Forget, Answer, answer_number}
use Rattle.keys.specs.Machine.{After, limit, empties, refused, gives, next, has_room, put_in, with_key, in_role, issues, admits, opens, does}
use Rattle.terms.specs.Causes.{RefusedSame, Lasts}
use Rattle.terms.proofs.Places.{by_place}

-- what box b keeps
record Preserves {V : Type 0} (b : Box V) (x : After V) : Type 0 where
  same : 0 < answer_number x.answer → x.box ≡ b
  places : length x.box.places ≡ length b.places
  number : x.box.number ≡ b.number

keeps_refused : {V : Type 0} {r : Refusal} {b : Box V} → Preserves b (refused r b)
keeps_refused = record { same = λ h. refl; places = refl; number = refl }

keeps_answered : {V : Type 0} {b d : Box V} {x : Answer V} → answer_number x ≡ 0 → length d.places ≡ length b.places → d.number ≡ b.number →
    Preserves b (record { box = d; answer = x })
keeps_answered e p n = record { same = λ h. let z : ⊥ = omega arith in absurd z; places = p; number = n }

keeps_either : {V : Type 0} {b : Box V} (t : Bool) {x y : After V} → Preserves b x → Preserves b y → Preserves b (cond t x y)
keeps_either true p q = p
keeps_either false p q = q

keeps_key : {V : Type 0} (i : ℕ) {b : Box V} {f : Slot V → After V} → ((s : Slot V) → Preserves b (f s)) → Preserves b (with_key i b f)
keeps_key i {b} {f} g = by_place i b f (Preserves b) (λ e. keeps_refused) (λ s h. g s)

keeps_role : {V : Type 0} (r : Role) (s : Slot V) {b : Box V} {x : After V} → Preserves b x → Preserves b (in_role r s b x)
keeps_role r s k = keeps_either (same_role r s.tag.role) k keeps_refused

keeps_given : {V : Type 0} (v : V) (b : Box V) → Preserves b (gives v b)
keeps_given v b = keeps_answered refl refl refl

keeps_issued : {V : Type 0} (v : V) (b : Box V) → Preserves b (issues v b)
keeps_issued v b = keeps_either (ltb b.count limit) (keeps_answered refl refl refl) keeps_refused

keeps_put : {V : Type 0} (s : Slot V) (b : Box V) → Preserves b (put_in s b)
keeps_put s b = keeps_either (has_room b) (keeps_answered refl (length-set b.places (next b) (Full s)) refl) keeps_refused

keeps_admitted : {V : Type 0} (w : Slot V) (o : Option (Slot V)) (b : Box V) → Preserves b (admits w o b)
keeps_admitted w None b = keeps_refused
keeps_admitted w (Some s) b = keeps_either (s.tag.stays && not w.tag.stays) keeps_refused (keeps_put s b)

keeps_opened : {V : Type 0} (o : Option V) (b : Box V) → Preserves b (opens o b)
keeps_opened None b = keeps_refused
keeps_opened (Some v) b = keeps_given v b

-- every command
kept : {V : Type 0} (a : Algebra V) (c : Command V) (b : Box V) → Preserves b (does a c b)
kept a (Make t) b =
    keeps_either (has_room b) (keeps_either (ltb b.drawn limit) (keeps_answered refl (length-set b.places (next b) _) refl) keeps_refused) keeps_refused
kept a (Load r v) b = keeps_put _ b
kept a (Show i) b = keeps_key i λ s. keeps_either s.tag.stays keeps_refused (keeps_given s.key b)
kept a (Wrap i u) b = keeps_key i λ s. keeps_key u λ w. keeps_role Wrapper w (keeps_either (s.tag.stays && not w.tag.stays) keeps_refused (keeps_issued _ b))
kept a (Unwrap u v) b = keeps_key u λ w. keeps_role Wrapper w (keeps_admitted w (a.unwrap w.key v) b)
kept a (Seal i v) b = keeps_key i λ s. keeps_role Sealer s (keeps_issued _ b)
kept a (Open i v) b = keeps_key i λ s. keeps_role Sealer s (keeps_opened (a.unseal s.key v) b)
kept a (Mark i v) b = keeps_key i λ s. keeps_role Marker s (keeps_given _ b)
kept a (Derive i l r) b = keeps_key i λ s. keeps_role Base s (keeps_put _ b)
kept a (Forget i) b = keeps_key i λ s. keeps_answered refl (length-set b.places i Empty) refl

pub refused-same : {V : Type 0} → RefusedSame V
refused-same a c b = (kept a c b).same

pub lasts : {V : Type 0} → Lasts V
unfolding empties
lasts = record { start = λ a n. refl; places = λ a c b. (kept a c b).places; number = λ a c b. (kept a c b).number }
