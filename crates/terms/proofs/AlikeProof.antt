-- Bytes that stand for terms do as the terms do.
use Rattle.std.proofs.Common.{◌≡◌, ℕ, ◌+◌, Bool, true, false, cond, not, ◌&&◌, T, ltb, List, [], ◌∷◌, Option, sym, refl, ap, subst, ap₂}
use mathlib.Core.Bool.{false≢true}
use mathlib.Core.List.Memᴰ
use Rattle.std.proofs.lemmas.Bool.{and_from}
use Rattle.keys.specs.declared.role.Role.{Role}
use Rattle.keys.specs.declared.role.Role.TheVariants.{Wrapper, Sealer, Marker, Base}
use Rattle.keys.specs.declared.tag.Tag.{Tag}
use Rattle.keys.specs.declared.refusal.Refusal.{Refusal}
use Rattle.keys.specs.declared.refusal.Refusal.TheVariants.{NoKey, NoRoom, WrongRole, Stays, NotOpened, UsedUp}
use Rattle.keys.specs.Algebra.{same_role, Slot, Algebra}
use Rattle.keys.specs.Machine.{Place, Empty, Full, Box, Command, After, Placed, limit, put_at, drew, counted, place, next, has_room, placed as placed_in, put_in, on_full, with_key, in_role, issues, admits, opens, refused as refuses, gives as gave, does}
use Rattle.terms.specs.Term.{Term, terms}
use Rattle.terms.specs.Alike.{StandsFor, Pairwise, none, both, AlikeSlot, AlikePlace, empty, full, AlikeBox, AlikeCommand, make, load, show, wrap, unwrap, seal, unseal, mark, derive, forget, refused, placed, gives, done, AlikeAfter, AlikeOpened, shut, found, Call, Right, on_slot, if, asks, AllRight, Sent, play, play_asks, world_after, KnownPlay, heard_in, SameStart, SameMachine, SameRuns, OneWorld}
use Rattle.terms.specs.World.{World, Reachable, begins, then, box_at, start, step}
use Rattle.terms.proofs.PairwiseLaws.{pairwise_length, pairwise_get_or, pairwise_set, pairwise_empties, pairwise_first_empty}

pub same_start : SameStart
same_start a r house n =
    record { number = refl; drawn = refl; count = refl; places = pairwise_set (pairwise_empties r 64) (full (record { key = house; tag = refl })) 63 }

module _ {r : StandsFor} where
  -- one test of either box, and alike whichever way it goes
  cond_alike : {p q : Bool} {x x' : After (List ℕ)} {y y' : After Term} → p ≡ q → (q ≡ true → AlikeAfter r x y) → (q ≡ false → AlikeAfter r x' y') →
      AlikeAfter r (cond p x x') (cond q y y')
  cond_alike {p} {q} {x} {x'} {y} {y'} e f g = subst (λ (p : Bool). AlikeAfter r (cond p x x') (cond q y y')) (sym e) (go q refl) where
    go : (b : Bool) → q ≡ b → AlikeAfter r (cond b x x') (cond b y y')
    go true h = f h
    go false h = g h

  module _ {b : Box (List ℕ)} {e : Box Term} (h : AlikeBox r b e) where
    refused_alike : (n : Refusal) → AlikeAfter r (refuses n b) (refuses n e)
    refused_alike n = record { box = h; answer = refused n }

    gives_alike : {x : List ℕ} {t : Term} → T (r x t) → AlikeAfter r (gave x b) (gave t e)
    gives_alike k = record { box = h; answer = gives k }

    put_alike : (i : ℕ) {p : Place (List ℕ)} {q : Place Term} → AlikePlace r p q → AlikeBox r (put_at i p b) (put_at i q e)
    put_alike i k = record { number = h.number; drawn = h.drawn; count = h.count; places = pairwise_set h.places k i }

    drew_alike : AlikeBox r (drew b) (drew e)
    drew_alike = record { number = h.number; drawn = ap (λ n. n + 1) h.drawn; count = h.count; places = h.places }

    counted_alike : AlikeBox r (counted b) (counted e)
    counted_alike = record { number = h.number; drawn = h.drawn; count = ap (λ n. n + 1) h.count; places = h.places }

    next_alike : next b ≡ next e
    next_alike = pairwise_first_empty r h.places 0

    room_alike : has_room b ≡ has_room e
    room_alike = ap₂ ltb next_alike (pairwise_length h.places)

    -- a slot in the first empty place
    placed_alike : {s : Slot (List ℕ)} {t : Slot Term} → AlikeSlot r s t → AlikeAfter r (placed_in s b) (placed_in t e)
    placed_alike {s} {t} k =
        subst (λ (n : ℕ). AlikeAfter r (record { box = put_at n (Full s) b; answer = Placed n }) (placed_in t e)) (sym next_alike)
        (record { box = put_alike (next e) (full k); answer = placed (next e) })

    put_in_alike : {s : Slot (List ℕ)} {t : Slot Term} → (has_room e ≡ true → AlikeSlot r s t) → AlikeAfter r (put_in s b) (put_in t e)
    put_in_alike k = cond_alike room_alike (λ room. placed_alike (k room)) (λ _. refused_alike NoRoom)

    issues_alike : (x : List ℕ) (t : Term) → (ltb e.count limit ≡ true → T (r x t)) → AlikeAfter r (issues x b) (issues t e)
    issues_alike x t k =
        cond_alike (ap (λ n. ltb n limit) h.count) (λ left. record { box = counted_alike; answer = gives (k left) }) (λ _. refused_alike UsedUp)

    in_role_alike : (q : Role) {s : Slot (List ℕ)} {t : Slot Term} {x : After (List ℕ)} {y : After Term} → AlikeSlot r s t →
        (same_role q t.tag.role ≡ true → AlikeAfter r x y) → AlikeAfter r (in_role q s b x) (in_role q t e y)
    in_role_alike q k f = cond_alike (ap (λ (g : Tag). same_role q g.role) k.tag) f (λ _. refused_alike WrongRole)

    -- a slot that stays is refused beside one that doesn't
    stays_alike : {s w : Slot (List ℕ)} {t u : Slot Term} {x : After (List ℕ)} {y : After Term} → AlikeSlot r s t → AlikeSlot r w u →
        ((t.tag.stays && not u.tag.stays) ≡ false → AlikeAfter r x y) →
        AlikeAfter r (cond (s.tag.stays && not w.tag.stays) (refuses Stays b) x) (cond (t.tag.stays && not u.tag.stays) (refuses Stays e) y)
    stays_alike k l f = cond_alike (ap₂ (λ (g v : Tag). g.stays && not v.stays) k.tag l.tag) (λ _. refused_alike Stays) f

    admits_alike : {w : Slot (List ℕ)} {u : Slot Term} {o : Option (Slot (List ℕ))} {p : Option (Slot Term)} → AlikeSlot r w u → AlikeOpened (AlikeSlot r) o p →
        AlikeAfter r (admits w o b) (admits u p e)
    admits_alike l shut = refused_alike NotOpened
    admits_alike l (found k) = stays_alike k l (λ _. put_in_alike (λ _. k))

    opens_alike : {o : Option (List ℕ)} {p : Option Term} → AlikeOpened (λ x t. T (r x t)) o p → AlikeAfter r (opens o b) (opens p e)
    opens_alike shut = refused_alike NotOpened
    opens_alike (found k) = gives_alike k

-- what a command does, if the calls that it makes are right
module _ (a : Algebra (List ℕ)) (r : StandsFor) where
  -- a call that is made is right
  asked : (p : Bool) (q : Call) → AllRight a r (if p q) → p ≡ true → Right a r q
  asked true q right e = right q (Memᴰ.head refl)
  asked false q right e = absurd (false≢true e)

  no_calls : (p : Place Term) → AllRight a r (on_slot p (λ _. []))
  no_calls Empty q m = absurd (Memᴰ.not-nil m)
  no_calls (Full s) q m = absurd (Memᴰ.not-nil m)

  -- alike for slots that are alike, if the calls are right that such a slot leads to
  abbrev Continues : (Slot Term → List Call) → (Slot (List ℕ) → After (List ℕ)) → (Slot Term → After Term) → Type 0
  Continues calls f g = (s : Slot (List ℕ)) (t : Slot Term) → AlikeSlot r s t → AllRight a r (calls t) → AlikeAfter r (f s) (g t)

  module _ {b : Box (List ℕ)} {e : Box Term} (h : AlikeBox r b e) {f : Slot (List ℕ) → After (List ℕ)} {g : Slot Term → After Term} where
    on_full_alike : {p : Place (List ℕ)} {q : Place Term} (calls : Slot Term → List Call) → AlikePlace r p q → AllRight a r (on_slot q calls) →
        Continues calls f g → AlikeAfter r (on_full b f p) (on_full e g q)
    on_full_alike calls empty right k = refused_alike h NoKey
    on_full_alike calls (full l) right k = k _ _ l right

    with_key_alike : (i : ℕ) (calls : Slot Term → List Call) → AllRight a r (on_slot (place i e) calls) → Continues calls f g →
        AlikeAfter r (with_key i b f) (with_key i e g)
    with_key_alike i calls = on_full_alike calls (pairwise_get_or h.places empty i)

  does_alike : {c : Command (List ℕ)} {d : Command Term} {b : Box (List ℕ)} {e : Box Term} → AlikeCommand r c d → AlikeBox r b e → AllRight a r (asks d e) →
      AlikeAfter r (does a c b) (does terms d e)
  does_alike (make t) h right =
      cond_alike (room_alike h)
      (λ room. cond_alike (ap (λ n. ltb n limit) h.drawn)
      (λ left. placed_alike (drew_alike h) (record { key = rw (h.number, h.drawn) (asked _ _ right (and_from _ _ room left)); tag = refl }))
      (λ _. refused_alike h UsedUp))
      (λ _. refused_alike h NoRoom)
  does_alike (load q k) h right = put_in_alike h (λ _. record { key = k; tag = refl })
  does_alike {e} (show i) h right =
      with_key_alike h i (λ _. []) (no_calls (place i e)) λ s t k _.
      cond_alike (ap (λ (g : Tag). g.stays) k.tag) (λ _. refused_alike h Stays) (λ _. gives_alike h k.key)
  does_alike (wrap i u) h right =
      with_key_alike h i _ right λ s t k under. with_key_alike h u _ under λ w v l ask. in_role_alike h Wrapper l λ role. stays_alike h k l λ stays.
      issues_alike h _ _ λ left. rw (h.number, h.count, k.tag) (asked _ _ ask (and_from _ _ (and_from _ _ role (ap not stays)) left) _ _ l.key k.key)
  does_alike (unwrap u k) h right =
      with_key_alike h u _ right λ w v l ask. in_role_alike h Wrapper l λ role. admits_alike h l (asked _ _ ask role _ _ l.key k)
  does_alike (seal i k) h right =
      with_key_alike h i _ right λ s t l ask. in_role_alike h Sealer l λ role.
      issues_alike h _ _ λ left. rw (h.number, h.count) (asked _ _ ask (and_from _ _ role left) _ _ l.key k)
  does_alike (unseal i k) h right =
      with_key_alike h i _ right λ s t l ask. in_role_alike h Sealer l λ role. opens_alike h (asked _ _ ask role _ _ l.key k)
  does_alike (mark i k) h right =
      with_key_alike h i _ right λ s t l ask. in_role_alike h Marker l λ role. gives_alike h (asked _ _ ask role _ _ l.key k)
  does_alike (derive i n q) h right =
      with_key_alike h i _ right λ s t l ask. in_role_alike h Base l λ role.
      put_in_alike h λ room.
      record { key = asked _ _ ask (and_from _ _ role room) _ l.key; tag = ap (λ (g : Tag). record { role = q; stays = g.stays }) l.tag }
  does_alike {e} (forget i) h right =
      with_key_alike h i (λ _. []) (no_calls (place i e)) λ s t k _. record { box = put_alike h i empty; answer = done }

pub same_machine : SameMachine
same_machine a r c d k b e = does_alike a r k

-- boxes of one index
box_at_alike : {r : StandsFor} {bs : List (Box (List ℕ))} {es : List (Box Term)} → Pairwise (AlikeBox r) bs es → (i : ℕ) → AlikeBox r (box_at i bs) (box_at i es)
box_at_alike h i = pairwise_get_or h (record { number = refl; drawn = refl; count = refl; places = none }) i

pub same_runs : SameRuns
unfolding play play_asks
same_runs a r cs ds none bs es h right = record { boxes = h; answers = none }
same_runs a r cs ds (both {y = t} k ks) bs es h right =
    let here = does_alike a r k.command (box_at_alike h t.to) (λ q m. right q (Memᴰ.append_left _ m)) in
    let rest = same_runs a r _ _ ks _ _ (rw k.to (pairwise_set h here.box t.to)) (λ q m. right q (Memᴰ.append_right _ m)) in
    record { boxes = rest.boxes; answers = both (rw k.to here.answer) rest.answers }

-- the boxes and the transcript of a world after commands are those of their play
boxes_after_lem : (ss : List (Sent Term)) (w : World) → (world_after ss w).boxes ≡ (play terms ss w.boxes).boxes
unfolding world_after play
boxes_after_lem [] w = refl
boxes_after_lem (s ∷ ss) w = boxes_after_lem ss (step s.to s.command w)

transcript-after : (ss : List (Sent Term)) (w : World) → (world_after ss w).transcript ≡ heard_in (play terms ss w.boxes).answers w.transcript
unfolding world_after play heard_in
transcript-after [] w = refl
transcript-after (s ∷ ss) w = transcript-after ss (step s.to s.command w)

-- known commands lead from a world that can come about to another
reachable_after : (numbers : List ℕ) (ss : List (Sent Term)) (w : World) → Reachable numbers w → KnownPlay ss w → Reachable numbers (world_after ss w)
unfolding world_after KnownPlay
reachable_after numbers [] w reached known = reached
reachable_after numbers (s ∷ ss) w reached known =
    reachable_after numbers ss (step s.to s.command w) (then reached s.to known.0 s.command known.1) known.2

pub one_world : OneWorld
one_world numbers distinct ss known =
    record {
      reachable = reachable_after numbers ss (start numbers) (begins distinct) known;
      boxes = boxes_after_lem ss (start numbers);
      transcript = transcript-after ss (start numbers);
    }
