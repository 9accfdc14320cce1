-- Bytes that stand for terms, and the machine on either.
use Rattle.std.specs.Prelude.{◌≡◌, ℕ, ◌<◌, Bool, cond, not, ◌&&◌, T, List, [], ◌∷◌, ◌++◌, map, length, Some, None, Option, nat_lt, slice_set}
use mathlib.Core.List.{Memᴰ as Mem}
use Rattle.keys.specs.declared.role.Role.{Role}
use Rattle.keys.specs.declared.role.Role.TheVariants.{Wrapper, Sealer, Marker, Base}
use Rattle.keys.specs.declared.tag.Tag.{Tag}
use Rattle.keys.specs.declared.refusal.Refusal.{Refusal}
use Rattle.keys.specs.Algebra.{same_role, Stamp, Slot, Algebra}
use Rattle.keys.specs.Machine.{Place, Empty, Full, Box, Command, Make, Load, Show, Wrap, Unwrap, Seal, Open, Mark, Derive, Forget, Answer, Refused, Placed, Gives, Done, After, limit, fresh, place, has_room, next_stamp, answer_value, does}
use Rattle.terms.specs.Term.{Term, House, Drawn, Wrapped, Sealed, Marked, Derived, terms}
use Rattle.terms.specs.Knowledge.{Knows}
use Rattle.terms.specs.World.{World, Distinct, Reachable, box_at, start, step, added, carried}

-- which bytes stand for which terms
abbrev pub StandsFor : Type 0
StandsFor = List ℕ → Term → Bool

-- two lists of one length, each element with its partner
pub data Pairwise {A B : Type 0} (P : A → B → Type 0) : List A → List B → Type 0 where
  none : Pairwise P [] []
  both : {x : A} {y : B} {xs : List A} {ys : List B} → P x y → Pairwise P xs ys → Pairwise P (x ∷ xs) (y ∷ ys)

-- the keys stand for one another, and the tags are one
pub record AlikeSlot (r : StandsFor) (s : Slot (List ℕ)) (t : Slot Term) : Type 0 where
  pub key : T (r s.key t.key)
  pub tag : s.tag ≡ t.tag

-- both empty, or full of slots that are alike
pub data AlikePlace (r : StandsFor) : Place (List ℕ) → Place Term → Type 0 where
  empty : AlikePlace r Empty Empty
  full : {s : Slot (List ℕ)} {t : Slot Term} → AlikeSlot r s t → AlikePlace r (Full s) (Full t)

-- one number, the same counts, and alike place by place
pub record AlikeBox (r : StandsFor) (b : Box (List ℕ)) (e : Box Term) : Type 0 where
  pub number : b.number ≡ e.number
  pub drawn : b.drawn ≡ e.drawn
  pub count : b.count ≡ e.count
  pub places : Pairwise (AlikePlace r) b.places e.places

-- one command, and what it carries stands for one another
pub data AlikeCommand (r : StandsFor) : Command (List ℕ) → Command Term → Type 0 where
  make : (t : Tag) → AlikeCommand r (Make t) (Make t)
  load : (q : Role) {x : List ℕ} {t : Term} → T (r x t) → AlikeCommand r (Load q x) (Load q t)
  show : (i : ℕ) → AlikeCommand r (Show i) (Show i)
  wrap : (i u : ℕ) → AlikeCommand r (Wrap i u) (Wrap i u)
  unwrap : (u : ℕ) {x : List ℕ} {t : Term} → T (r x t) → AlikeCommand r (Unwrap u x) (Unwrap u t)
  seal : (i : ℕ) {x : List ℕ} {t : Term} → T (r x t) → AlikeCommand r (Seal i x) (Seal i t)
  unseal : (i : ℕ) {x : List ℕ} {t : Term} → T (r x t) → AlikeCommand r (Open i x) (Open i t)
  mark : (i : ℕ) {x : List ℕ} {t : Term} → T (r x t) → AlikeCommand r (Mark i x) (Mark i t)
  derive : (i l : ℕ) (q : Role) → AlikeCommand r (Derive i l q) (Derive i l q)
  forget : (i : ℕ) → AlikeCommand r (Forget i) (Forget i)

-- one answer, and what it gives stands for one another
pub data AlikeAnswer (r : StandsFor) : Answer (List ℕ) → Answer Term → Type 0 where
  refused : (n : Refusal) → AlikeAnswer r (Refused n) (Refused n)
  placed : (i : ℕ) → AlikeAnswer r (Placed i) (Placed i)
  gives : {x : List ℕ} {t : Term} → T (r x t) → AlikeAnswer r (Gives x) (Gives t)
  done : AlikeAnswer r Done Done

-- box and answer
pub record AlikeAfter (r : StandsFor) (x : After (List ℕ)) (y : After Term) : Type 0 where
  pub box : AlikeBox r x.box y.box
  pub answer : AlikeAnswer r x.answer y.answer

-- neither opens, or both do, to what is alike
pub data AlikeOpened {A B : Type 0} (P : A → B → Type 0) : Option A → Option B → Type 0 where
  shut : AlikeOpened P None None
  found : {x : A} {y : B} → P x y → AlikeOpened P (Some x) (Some y)

-- a call of a cipher, by its terms
pub data Call : Type 0 where
  AskHouse : Call
  AskDraw : (number n : ℕ) → Call
  AskWrap : (under : Term) → Stamp → Tag → (key : Term) → Call
  AskUnwrap : (under blob : Term) → Call
  AskSeal : (key : Term) → Stamp → (content : Term) → Call
  AskUnseal : (key blob : Term) → Call
  AskMark : (key content : Term) → Call
  AskDerive : (base : Term) → (label : ℕ) → Role → Call

-- on bytes that stand for its terms, the call gives bytes that stand for what it gives on terms
abbrev pub Right : Algebra (List ℕ) → StandsFor → Call → Type 0
Right a r AskHouse = T (r a.house House)
Right a r (AskDraw b n) = T (r (a.draw b n) (Drawn b n))
Right a r (AskWrap u s g k) = (x y : List ℕ) → T (r x u) → T (r y k) → T (r (a.wrap x s g y) (Wrapped u s g k))
Right a r (AskUnwrap u v) = (x y : List ℕ) → T (r x u) → T (r y v) → AlikeOpened (AlikeSlot r) (a.unwrap x y) (terms.unwrap u v)
Right a r (AskSeal k s t) = (x y : List ℕ) → T (r x k) → T (r y t) → T (r (a.seal x s y) (Sealed k s t))
Right a r (AskUnseal k v) = (x y : List ℕ) → T (r x k) → T (r y v) → AlikeOpened (λ z t. T (r z t)) (a.unseal x y) (terms.unseal k v)
Right a r (AskMark k t) = (x y : List ℕ) → T (r x k) → T (r y t) → T (r (a.mark x y) (Marked k t))
Right a r (AskDerive k l q) = (x : List ℕ) → T (r x k) → T (r (a.derive x l q) (Derived k l q))

-- the calls that a key in a place leads to
abbrev pub on_slot : Place Term → (Slot Term → List Call) → List Call
on_slot Empty f = []
on_slot (Full s) f = f s

-- a call that is made only if the test holds
abbrev pub if : Bool → Call → List Call
if b q = cond b (q ∷ []) []

-- the calls that a command makes: none that a refusal comes before
abbrev pub asks : Command Term → Box Term → List Call
asks (Make t) b = if (has_room b && nat_lt b.drawn limit) (AskDraw b.number b.drawn)
asks (Load q v) b = []
asks (Show i) b = []
asks (Wrap i u) b =
    on_slot (place i b) (λ s. on_slot (place u b) (λ k.
    if (same_role Wrapper k.tag.role && not (s.tag.stays && not k.tag.stays) && nat_lt b.count limit)
    (AskWrap k.key (next_stamp b) s.tag s.key)))
asks (Unwrap u v) b = on_slot (place u b) (λ k. if (same_role Wrapper k.tag.role) (AskUnwrap k.key v))
asks (Seal i v) b = on_slot (place i b) (λ k. if (same_role Sealer k.tag.role && nat_lt b.count limit) (AskSeal k.key (next_stamp b) v))
asks (Open i v) b = on_slot (place i b) (λ k. if (same_role Sealer k.tag.role) (AskUnseal k.key v))
asks (Mark i v) b = on_slot (place i b) (λ k. if (same_role Marker k.tag.role) (AskMark k.key v))
asks (Derive i l q) b = on_slot (place i b) (λ k. if (same_role Base k.tag.role && has_room b) (AskDerive k.key l q))
asks (Forget i) b = []

-- a command to the box of an index
pub record Sent (V : Type 0) : Type 0 where
  pub to : ℕ
  pub command : Command V

-- boxes after commands, and the answers in their order
pub record Played (V : Type 0) : Type 0 where
  pub boxes : List (Box V)
  pub answers : List (Answer V)

-- one of several boxes after a command, the others as they were
abbrev pub boxes_after : {V : Type 0} → Algebra V → Sent V → List (Box V) → List (Box V)
boxes_after a s bs = slice_set bs s.to (does a s.command (box_at s.to bs)).box

-- commands to several boxes, one after the other
unfoldable pub play : {V : Type 0} → Algebra V → List (Sent V) → List (Box V) → Played V
play a [] bs = record { boxes = bs; answers = [] }
play a (s ∷ ss) bs =
    let rest = play a ss (boxes_after a s bs) in
    record { boxes = rest.boxes; answers = (does a s.command (box_at s.to bs)).answer ∷ rest.answers }

-- all calls that a play makes
unfoldable pub play_asks : List (Sent Term) → List (Box Term) → List Call
play_asks [] bs = []
play_asks (s ∷ ss) bs = asks s.command (box_at s.to bs) ++ play_asks ss (boxes_after terms s bs)

-- one command to one box
pub record AlikeSent (r : StandsFor) (s : Sent (List ℕ)) (t : Sent Term) : Type 0 where
  pub to : s.to ≡ t.to
  pub command : AlikeCommand r s.command t.command

-- box by box, and answer by answer
pub record AlikePlayed (r : StandsFor) (x : Played (List ℕ)) (y : Played Term) : Type 0 where
  pub boxes : Pairwise (AlikeBox r) x.boxes y.boxes
  pub answers : Pairwise (AlikeAnswer r) x.answers y.answers

-- all of these calls are right
abbrev pub AllRight : Algebra (List ℕ) → StandsFor → List Call → Type 0
AllRight a r qs = (q : Call) → Mem q qs → Right a r q

-- new boxes are alike
abbrev pub SameStart : Type 0
SameStart = (a : Algebra (List ℕ)) (r : StandsFor) → Right a r AskHouse → (n : ℕ) → AlikeBox r (fresh a n) (fresh terms n)

-- boxes that are alike do alike, if the calls that this command makes are right
abbrev pub SameMachine : Type 0
SameMachine =
    (a : Algebra (List ℕ)) (r : StandsFor) (c : Command (List ℕ)) (d : Command Term) → AlikeCommand r c d → (b : Box (List ℕ)) (e : Box Term) → AlikeBox r b e →
    AllRight a r (asks d e) → AlikeAfter r (does a c b) (does terms d e)

-- whole plays to several boxes are alike, if the calls that this play makes are right
abbrev pub SameRuns : Type 0
SameRuns =
    (a : Algebra (List ℕ)) (r : StandsFor) (cs : List (Sent (List ℕ))) (ds : List (Sent Term)) → Pairwise (AlikeSent r) cs ds → (bs : List (Box (List ℕ))) (es : List (Box Term)) →
    Pairwise (AlikeBox r) bs es → AllRight a r (play_asks ds es) → AlikePlayed r (play a cs bs) (play terms ds es)

-- the world after commands
unfoldable pub world_after : List (Sent Term) → World → World
world_after [] w = w
world_after (s ∷ ss) w = world_after ss (step s.to s.command w)

-- each command goes to a box that is there, and the adversary knows what it carries when it is sent
unfoldable pub KnownPlay : List (Sent Term) → World → Type 0
KnownPlay [] w = Unit {0}
KnownPlay (s ∷ ss) w = (s.to < length w.boxes) × Knows w.transcript (carried s.command) × KnownPlay ss (step s.to s.command w)

-- a transcript with the values of further answers, the newest first
unfoldable pub heard_in : List (Answer Term) → List Term → List Term
heard_in [] ts = ts
heard_in (x ∷ xs) ts = heard_in xs (added (answer_value x) ts)

-- a world that can come about, and whose boxes and transcript are those of the play
pub record WorldOf (numbers : List ℕ) (ss : List (Sent Term)) (w : World) : Type 0 where
  pub reachable : Reachable numbers w
  pub boxes : w.boxes ≡ (play terms ss (map (fresh terms) numbers)).boxes
  pub transcript : w.transcript ≡ heard_in (play terms ss (map (fresh terms) numbers)).answers []

-- a play of known commands to new boxes is one of the worlds that can come about
abbrev pub OneWorld : Type 0
OneWorld = (numbers : List ℕ) → Distinct numbers → (ss : List (Sent Term)) → KnownPlay ss (start numbers) → WorldOf numbers ss (world_after ss (start numbers))
