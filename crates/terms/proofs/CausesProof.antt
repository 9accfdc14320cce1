-- Each check of the machine beside the cause that it looks for.
use Rattle.std.proofs.Common.{◌≡◌, ℕ, ◌≤◌, Bool, true, false, cond, not, ◌&&◌, ltb, ◌↔◌, List, [], ◌∷◌, length, get_or, Some, None, Option, sym, refl, ap, ◌∙◌, subst, inl, inr, ⊎_elim, arith}
use Rattle.std.proofs.lemmas.Bool.{ltb-true, ltb-false, eqb-false, and_parts, and_from, not-true, not_from_false, both_ways, cases_lt}
use Rattle.keys.specs.declared.role.Role.{Role}
use Rattle.keys.specs.declared.role.Role.TheVariants.{Wrapper, Sealer, Marker, Base}
use Rattle.keys.specs.declared.refusal.Refusal.{Refusal}
use Rattle.keys.specs.declared.refusal.Refusal.TheVariants.{Malformed, NoKey, NoRoom, WrongRole, Stays, NotOpened, UsedUp}
use Rattle.keys.specs.Algebra.{Slot, Algebra, role_number, same_role}
use Rattle.keys.specs.Machine.{Empty, Full, Box, Command, Make, Load, Show, Wrap, Unwrap, Seal, Open, Mark, Derive, Forget, Refused, answer_number, refusal_number}
use Rattle.keys.specs.Machine.{After, capacity, limit, place, refused, next, has_room, with_key, in_role, admits, opens, does}
use Rattle.terms.specs.At.{At}
use Rattle.terms.specs.Causes.{Cause, Vacant, NoneEmpty, OtherRole, Lies, NotUnwrapped, SaysStays, NotUnsealed, causes, First, NoCause, Caused}
use Rattle.terms.proofs.Lists.{empty_full}
use Rattle.terms.proofs.Places.{at_below, at_same, get_or_at, full_same, by_place, first_found, first_empty_lem}
use Rattle.terms.proofs.Equal.{role_is}

-- the refusal of a number
abbrev refusal_of : ℕ → Refusal
refusal_of n = get_or (Malformed ∷ Malformed ∷ NoKey ∷ NoRoom ∷ WrongRole ∷ Stays ∷ NotOpened ∷ []) n UsedUp

refusal_back : (r : Refusal) → refusal_of (refusal_number r) ≡ r
refusal_back Malformed = refl
refusal_back NoKey = refl
refusal_back NoRoom = refl
refusal_back WrongRole = refl
refusal_back Stays = refl
refusal_back NotOpened = refl
refusal_back UsedUp = refl

refusal_same : (r q : Refusal) → refusal_number r ≡ refusal_number q → r ≡ q
refusal_same r q e = sym (refusal_back r) ∙ ap refusal_of e ∙ refusal_back q

refusal_nonzero : (r : Refusal) → refusal_number r ≡ 0 → ⊥
refusal_nonzero r e = let m : refusal_number r ≡ 1 = ap refusal_number (sym (refusal_back r) ∙ ap refusal_of e) in omega arith

first_same : (cs : List Cause) (r q : Refusal) → First cs r → First cs q → r ≡ q
first_same [] r q f g = absurd f
first_same (c ∷ cs) r q (inl f) (inl g) = f.1 ∙ sym g.1
first_same (c ∷ cs) r q (inl f) (inr g) = absurd (g.0 f.0)
first_same (c ∷ cs) r q (inr f) (inl g) = absurd (f.0 g.0)
first_same (c ∷ cs) r q (inr f) (inr g) = first_same cs r q f.1 g.1

none_first : (cs : List Cause) (r : Refusal) → NoCause cs → First cs r → ⊥
none_first [] r n f = f
none_first (c ∷ cs) r n (inl f) = n.0 f.0
none_first (c ∷ cs) r n (inr f) = none_first cs r n.1 f.1

-- a refusal for the first of the causes that holds, or an answer if none does
data Follows {V : Type 0} (x : After V) (cs : List Cause) : Type 0 where
  refuses : (r : Refusal) → x.answer ≡ Refused r → First cs r → Follows x cs
  answers : answer_number x.answer ≡ 0 → NoCause cs → Follows x cs

refused_when : {V : Type 0} {x : After V} {cs : List Cause} → Follows x cs → (r : Refusal) → (answer_number x.answer ≡ refusal_number r) ↔ First cs r
refused_when {cs = cs} (refuses q e f) r =
    (λ n. subst (First cs) (refusal_same q r (sym (ap answer_number e) ∙ n)) f, λ g. ap answer_number e ∙ ap refusal_number (first_same cs q r f g))
refused_when {cs = cs} (answers e m) r = (λ n. absurd (refusal_nonzero r (sym n ∙ e)), λ g. absurd (none_first cs r m g))

answered_when : {V : Type 0} {x : After V} {cs : List Cause} → Follows x cs → (answer_number x.answer ≡ 0) ↔ NoCause cs
answered_when {cs = cs} (refuses q e f) = (λ n. absurd (refusal_nonzero q (sym (ap answer_number e) ∙ n)), λ m. absurd (none_first cs q m f))
answered_when (answers e m) = (λ n. m, λ k. e)

no_more : {V : Type 0} {x : After V} → answer_number x.answer ≡ 0 → Follows x []
no_more e = answers e tt

later : {V : Type 0} {x : After V} {c : Cause} {cs : List Cause} → (c.holds → ⊥) → Follows x cs → Follows x (c ∷ cs)
later n (refuses r e f) = refuses r e (inr (n, f))
later n (answers e m) = answers e (n, m)

module _ {V : Type 0} (b : Box V) (sized : length b.places ≡ capacity) where
  abbrev LiesAt : ℕ → Slot V → Type 0
  LiesAt i s = At b.places i (Full s)

  -- h is looked for first, as a cause for r
  abbrev Checks : Refusal → Type 0 → List Cause → After V → Type 0
  Checks r h cs x = Follows x (record { refusal = r; holds = h } ∷ cs)

  caught : {r : Refusal} {h : Type 0} {cs : List Cause} → h → Checks r h cs (refused r b)
  caught {r} p = refuses r refl (inl (p, refl))

  -- a test that lets through what has no cause
  passes : (t : Bool) {x : After V} {r : Refusal} {h : Type 0} {cs : List Cause} →
      (t ≡ false → h) → (t ≡ true → h → ⊥) → Follows x cs → Checks r h cs (cond t x (refused r b))
  passes true p n f = later (n refl) f
  passes false p n f = caught (p refl)

  -- a test that stops what has cause
  stops : (t : Bool) {x : After V} {r : Refusal} {h : Type 0} {cs : List Cause} →
      (t ≡ true → h) → (t ≡ false → h → ⊥) → Follows x cs → Checks r h cs (cond t (refused r b) x)
  stops true p n f = caught (p refl)
  stops false p n f = later (n refl) f

  room : {x : After V} {cs : List Cause} → Follows x cs → Checks NoRoom (NoneEmpty b) cs (cond (has_room b) x (refused NoRoom b))
  room =
      passes (has_room b) (λ e i h. let l = first_found 0 i b.places h in let m = ltb-false _ _ e in omega arith)
      (λ e n. let l = ltb-true (next b) (length b.places) e in let r = first_empty_lem 0 b.places (omega arith) in n r.0 r.2)

  within : (n : ℕ) {x : After V} {cs : List Cause} → Follows x cs → Checks UsedUp (limit ≤ n) cs (cond (ltb n limit) x (refused UsedUp b))
  within n = passes (ltb n limit) (ltb-false n limit) (λ e h. let l = ltb-true n limit e in omega arith)

  found : (i : ℕ) {f : Slot V → After V} {cs : List Cause} → ((s : Slot V) → LiesAt i s → Follows (f s) cs) → Checks NoKey (Vacant b i) cs (with_key i b f)
  found i {f} {cs} g = by_place i b f (Checks NoKey (Vacant b i) cs) (λ e. caught (empty e)) (λ s h. later (full s h) (g s h))
    where
      empty : place i b ≡ Empty → Vacant b i
      empty e = ⊎_elim inl (λ l. inr (get_or_at b.places i Empty Empty (omega arith) e)) (cases_lt 63 i)

      full : (s : Slot V) → LiesAt i s → Vacant b i → ⊥
      full s h (inl l) = let k = at_below b.places i (Full s) h in omega arith
      full s h (inr k) = empty_full (at_same b.places i Empty (Full s) k h)

  in_role_lem : (i : ℕ) (r : Role) (s : Slot V) {x : After V} {cs : List Cause} → LiesAt i s → Follows x cs → Checks WrongRole (OtherRole b i r) cs (in_role r s b x)
  in_role_lem i r s h =
      passes (same_role r s.tag.role) (λ e. record { slot = s; lies = h; other = λ q. eqb-false _ _ e (ap role_number (sym q)) })
      (λ e o. o.other (ap (λ (t : Slot V). t.tag.role) (full_same b.places i _ s o.lies h) ∙ sym (role_is r s.tag.role e)))

  lies_stays : (i : ℕ) (s : Slot V) (t : Bool) → LiesAt i s → Lies b i t → s.tag.stays ≡ t
  lies_stays i s t h l = ap (λ (q : Slot V). q.tag.stays) (full_same b.places i s l.slot h l.lies) ∙ l.stays_so

  leaves : (i : ℕ) (s : Slot V) {x : After V} {cs : List Cause} → LiesAt i s → Follows x cs →
      Checks Stays (Lies b i true) cs (cond s.tag.stays (refused Stays b) x)
  leaves i s h = stops s.tag.stays (λ e. record { slot = s; lies = h; stays_so = e }) (λ e l. both_ways _ e (lies_stays i s true h l))

  -- h says that s stays and w doesn't
  leaves_under : (s w : Slot V) {x : After V} {h : Type 0} {cs : List Cause} →
      (s.tag.stays ≡ true → w.tag.stays ≡ false → h) → (h → (s.tag.stays ≡ true) × (w.tag.stays ≡ false)) →
      Follows x cs → Checks Stays h cs (cond (s.tag.stays && not w.tag.stays) (refused Stays b) x)
  leaves_under s w p n =
      stops (s.tag.stays && not w.tag.stays) (λ e. let q = and_parts _ _ e in p q.0 (not-true _ q.1))
      (λ e k. let q = n k in both_ways _ e (and_from _ _ q.0 (not_from_false _ q.1)))

  -- what opens under the key in a place isn't shut under it
  not_shut : {A : Type 0} (f : V → Option A) (i : ℕ) (s t : Slot V) (x : A) → LiesAt i s → LiesAt i t → f s.key ≡ Some x → f t.key ≡ None → ⊥
  not_shut f i s t x h k p q = let e = full_same b.places i s t h k in cc

  unwraps : (a : Algebra V) (u : ℕ) (v : V) (w : Slot V) → LiesAt u w → (o : Option (Slot V)) → a.unwrap w.key v ≡ o →
      Checks NotOpened (NotUnwrapped a b u v) (record { refusal = Stays; holds = SaysStays a b u v } ∷ record { refusal = NoRoom; holds = NoneEmpty b } ∷ [])
      (admits w o b)
  unwraps a u v w h None e = caught (record { slot = w; lies = h; shut = e })
  unwraps a u v w h (Some s) e =
      later (λ n. not_shut (λ k. a.unwrap k v) u w n.slot s h n.lies e n.shut)
      (leaves_under s w (λ p q. record { slot = w; lies = h; leaves = q; content = s; opens = e; says = p }) says (room (no_more refl)))
    where
      says : SaysStays a b u v → (s.tag.stays ≡ true) × (w.tag.stays ≡ false)
      says n = let q = full_same b.places u w n.slot h n.lies in let o = n.opens in let y = n.says in let l = n.leaves in (cc, cc)

  unseals : (a : Algebra V) (i : ℕ) (v : V) (s : Slot V) → LiesAt i s → (o : Option V) → a.unseal s.key v ≡ o →
      Checks NotOpened (NotUnsealed a b i v) [] (opens o b)
  unseals a i v s h None e = caught (record { slot = s; lies = h; shut = e })
  unseals a i v s h (Some t) e = later (λ n. not_shut (λ k. a.unseal k v) i s n.slot t h n.lies e n.shut) (no_more refl)

  follows : (a : Algebra V) (c : Command V) → Follows (does a c b) (causes a c b)
  follows a (Make t) = room (within b.drawn (no_more refl))
  follows a (Load r v) = room (no_more refl)
  follows a (Show i) = found i λ s h. leaves i s h (no_more refl)
  follows a (Wrap i u) =
      found i λ s h. found u λ w k. in_role_lem u Wrapper w k
      (leaves_under s w (λ p q. record { stays = record { slot = s; lies = h; stays_so = p }; under = record { slot = w; lies = k; stays_so = q } })
      (λ l. (lies_stays i s true h l.stays, lies_stays u w false k l.under)) (within b.count (no_more refl)))
  follows a (Unwrap u v) = found u λ w h. in_role_lem u Wrapper w h (unwraps a u v w h (a.unwrap w.key v) refl)
  follows a (Seal i v) = found i λ s h. in_role_lem i Sealer s h (within b.count (no_more refl))
  follows a (Open i v) = found i λ s h. in_role_lem i Sealer s h (unseals a i v s h (a.unseal s.key v) refl)
  follows a (Mark i v) = found i λ s h. in_role_lem i Marker s h (no_more refl)
  follows a (Derive i l r) = found i λ s h. in_role_lem i Base s h (room (no_more refl))
  follows a (Forget i) = found i λ s h. no_more refl

pub caused : {V : Type 0} → Caused V
caused = record { refused = λ a c b l. refused_when (follows b l a c); answered = λ a c b l. answered_when (follows b l a c) }
