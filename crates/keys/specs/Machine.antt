-- The machine: what a box holds, and what each command does, over any algebra of ciphers.
use Rattle.std.specs.Prelude.{ℕ, zero, suc, ◌+◌, ◌^◌, Bool, true, false, cond, not, ◌&&◌, List, [], ◌∷◌, length, Some, None, Option, nat_lt, slice_index_or, slice_set}
use Rattle.keys.specs.declared.role.Role.{Role}
use Rattle.keys.specs.declared.role.Role.TheVariants.{Wrapper, Sealer, Marker, Base}
use Rattle.keys.specs.declared.tag.Tag.{Tag}
use Rattle.keys.specs.declared.refusal.Refusal.{Refusal}
use Rattle.keys.specs.declared.refusal.Refusal.TheVariants.{Malformed, NoKey, NoRoom, WrongRole, Stays, NotOpened, UsedUp}
use Rattle.keys.specs.Algebra.{same_role, Stamp, Slot, Algebra}

-- a place is empty, or holds a key
pub data Place (V : Type 0) : Type 0 where
  Empty : Place V
  Full : Slot V → Place V

-- a box: its number, how many keys it drew, how many blobs it made, its places
pub record Box (V : Type 0) : Type 0 where
  pub number : ℕ
  pub drawn : ℕ
  pub count : ℕ
  pub places : List (Place V)

-- the ten commands; places and labels are numbers, keys, texts and blobs are values
pub data Command (V : Type 0) : Type 0 where
  Make : Tag → Command V
  Load : Role → V → Command V
  Show : ℕ → Command V
  Wrap : (at under : ℕ) → Command V
  Unwrap : (under : ℕ) → V → Command V
  Seal : ℕ → V → Command V
  Open : ℕ → V → Command V
  Mark : ℕ → V → Command V
  Derive : (base label : ℕ) → Role → Command V
  Forget : ℕ → Command V

-- refused; or a place, a value, or nothing more to say
pub data Answer (V : Type 0) : Type 0 where
  Refused : Refusal → Answer V
  Placed : ℕ → Answer V
  Gives : V → Answer V
  Done : Answer V

-- the number of each refusal
abbrev pub refusal_number : Refusal → ℕ
refusal_number Malformed = 1
refusal_number NoKey = 2
refusal_number NoRoom = 3
refusal_number WrongRole = 4
refusal_number Stays = 5
refusal_number NotOpened = 6
refusal_number UsedUp = 7

-- the number of each answer: 0, or the refusal's
abbrev pub answer_number : {V : Type 0} → Answer V → ℕ
answer_number (Refused r) = refusal_number r
answer_number (Placed i) = 0
answer_number (Gives v) = 0
answer_number Done = 0

-- the value that an answer gives away
abbrev pub answer_value : {V : Type 0} → Answer V → Option V
answer_value (Refused r) = None
answer_value (Placed i) = None
answer_value (Gives v) = Some v
answer_value Done = None

-- a box after a command, and its answer
pub record After (V : Type 0) : Type 0 where
  pub box : Box V
  pub answer : Answer V

-- how many places a box has
abbrev pub capacity : ℕ
capacity = 64

-- how many keys a box draws, and how many blobs it makes, before it is used up
abbrev pub limit : ℕ
limit = 2 ^ 48

-- n empty places
unfoldable pub empties : {V : Type 0} → ℕ → List (Place V)
empties zero = []
empties (suc n) = Empty ∷ empties n

-- the box with another content of place i
abbrev pub put_at : {V : Type 0} → ℕ → Place V → Box V → Box V
put_at i p b = record { number = b.number; drawn = b.drawn; count = b.count; places = slice_set b.places i p }

-- the box with one key more drawn
abbrev pub drew : {V : Type 0} → Box V → Box V
drew b = record { number = b.number; drawn = b.drawn + 1; count = b.count; places = b.places }

-- the box with one blob more made
abbrev pub counted : {V : Type 0} → Box V → Box V
counted b = record { number = b.number; drawn = b.drawn; count = b.count + 1; places = b.places }

-- a wrapper that stays, the same key in every box
abbrev pub house_slot : {V : Type 0} → Algebra V → Slot V
house_slot a = record { key = a.house; tag = record { role = Wrapper; stays = true } }

-- a new box: the house key in the last place, nothing in the others
abbrev pub fresh : {V : Type 0} → Algebra V → ℕ → Box V
fresh a n = put_at 63 (Full (house_slot a)) (record { number = n; drawn = 0; count = 0; places = empties capacity })

-- what lies in place i; a place that isn't there is empty
abbrev pub place : {V : Type 0} → ℕ → Box V → Place V
place i b = slice_index_or b.places i Empty

-- refused: the box stays as it is
abbrev pub refused : {V : Type 0} → Refusal → Box V → After V
refused r b = record { box = b; answer = Refused r }

-- a value is given: the box stays as it is
abbrev pub gives : {V : Type 0} → V → Box V → After V
gives v b = record { box = b; answer = Gives v }

-- the first empty place, counted from i; past the last if there is none
unfoldable pub first_empty : {V : Type 0} → ℕ → List (Place V) → ℕ
first_empty i [] = i
first_empty i (Empty ∷ ps) = i
first_empty i (Full s ∷ ps) = first_empty (i + 1) ps

-- where the next key comes to lie
abbrev pub next : {V : Type 0} → Box V → ℕ
next b = first_empty 0 b.places

-- whether a place is empty
abbrev pub has_room : {V : Type 0} → Box V → Bool
has_room b = nat_lt (next b) (length b.places)

-- a key comes to lie in the first empty place
abbrev pub placed : {V : Type 0} → Slot V → Box V → After V
placed s b = record { box = put_at (next b) (Full s) b; answer = Placed (next b) }

-- the same, if there is one
abbrev pub put_in : {V : Type 0} → Slot V → Box V → After V
put_in s b = cond (has_room b) (placed s b) (refused NoRoom b)

-- something is done with the key of a full place
abbrev pub on_full : {V : Type 0} → Box V → (Slot V → After V) → Place V → After V
on_full b f Empty = refused NoKey b
on_full b f (Full s) = f s

-- something is done with the key in place i
abbrev pub with_key : {V : Type 0} → ℕ → Box V → (Slot V → After V) → After V
with_key i b f = on_full b f (place i b)

-- only if the key has this role
abbrev pub in_role : {V : Type 0} → Role → Slot V → Box V → After V → After V
in_role r s b a = cond (same_role r s.tag.role) a (refused WrongRole b)

-- the stamp of the next blob
abbrev pub next_stamp : {V : Type 0} → Box V → Stamp
next_stamp b = record { number = b.number; count = b.count }

-- a blob is made, and counted
abbrev pub issues : {V : Type 0} → V → Box V → After V
issues v b = cond (nat_lt b.count limit) (record { box = counted b; answer = Gives v }) (refused UsedUp b)

-- a key is drawn only if there is a place for it
abbrev pub makes : {V : Type 0} → Algebra V → Tag → Box V → After V
makes a t b =
    cond (has_room b)
    (cond (nat_lt b.drawn limit) (placed (record { key = a.draw b.number b.drawn; tag = t }) (drew b)) (refused UsedUp b))
    (refused NoRoom b)

-- a key is shown unless it stays
abbrev pub shows : {V : Type 0} → Slot V → Box V → After V
shows s b = cond s.tag.stays (refused Stays b) (gives s.key b)

-- a key that stays is wrapped only under one that stays
abbrev pub wraps : {V : Type 0} → Algebra V → Slot V → Slot V → Box V → After V
wraps a s w b =
    in_role Wrapper w b (cond (s.tag.stays && not w.tag.stays) (refused Stays b) (issues (a.wrap w.key (next_stamp b) s.tag s.key) b))

-- a blob that says that its key stays is believed only under a wrapper that stays
abbrev pub admits : {V : Type 0} → Slot V → Option (Slot V) → Box V → After V
admits w None b = refused NotOpened b
admits w (Some s) b = cond (s.tag.stays && not w.tag.stays) (refused Stays b) (put_in s b)

-- what a blob of Seal holds is given
abbrev pub opens : {V : Type 0} → Option V → Box V → After V
opens None b = refused NotOpened b
opens (Some v) b = gives v b

-- a key derived from a base stays if the base does
abbrev pub derived_slot : {V : Type 0} → Algebra V → Slot V → ℕ → Role → Slot V
derived_slot a s l r = record { key = a.derive s.key l r; tag = record { role = r; stays = s.tag.stays } }

-- what each command does
abbrev pub does : {V : Type 0} → Algebra V → Command V → Box V → After V
does a (Make t) b = makes a t b
does a (Load r v) b = put_in (record { key = v; tag = record { role = r; stays = false } }) b
does a (Show i) b = with_key i b (λ s. shows s b)
does a (Wrap i u) b = with_key i b (λ s. with_key u b (λ w. wraps a s w b))
does a (Unwrap u v) b = with_key u b (λ w. in_role Wrapper w b (admits w (a.unwrap w.key v) b))
does a (Seal i v) b = with_key i b (λ s. in_role Sealer s b (issues (a.seal s.key (next_stamp b) v) b))
does a (Open i v) b = with_key i b (λ s. in_role Sealer s b (opens (a.unseal s.key v) b))
does a (Mark i v) b = with_key i b (λ s. in_role Marker s b (gives (a.mark s.key v) b))
does a (Derive i l r) b = with_key i b (λ s. in_role Base s b (put_in (derived_slot a s l r) b))
does a (Forget i) b = with_key i b (λ s. record { box = put_at i Empty b; answer = Done })
