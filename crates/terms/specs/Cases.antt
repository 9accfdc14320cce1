-- Short orders of commands and all that boxes answer to them.
use Rattle.std.specs.Prelude.{◌≡◌, ℕ, zero, suc, ◌+◌, ◌-◌, ◌^◌, Bool, true, false, List, [], ◌∷◌, ◌++◌, map, take, replicate}
use Rattle.keys.specs.declared.role.Role.{Role}
use Rattle.keys.specs.declared.role.Role.TheVariants.{Wrapper, Sealer, Marker, Base}
use Rattle.keys.specs.declared.tag.Tag.{Tag}
use Rattle.keys.specs.declared.refusal.Refusal.TheVariants.{Malformed, NoKey, NoRoom, WrongRole, Stays, NotOpened, UsedUp}
use Rattle.keys.specs.Algebra.{Stamp, Slot}
use Rattle.keys.specs.Machine.{Place, Full, Box, Command, Make, Load, Show, Wrap, Unwrap, Seal, Open, Mark, Derive, Forget, Answer, Refused, Placed, Gives, Done, answer_number, put_at, house_slot, fresh, place, does}
use Rattle.terms.specs.Term.{Term, House, Drawn, Text, Wrapped, Sealed, Marked, Derived, terms}
use Rattle.terms.specs.World.{box_at}
use Rattle.terms.specs.Alike.{Played, play}

-- commands to one new box of this number
abbrev pub play_alone : ℕ → List (Command Term) → Played Term
play_alone n cs = play terms (map (λ c. record { to = 0; command = c }) cs) (fresh terms n ∷ [])

-- what a new box answers to commands, in their order
abbrev pub answers : ℕ → List (Command Term) → List (Answer Term)
answers n cs = (play_alone n cs).answers

-- a new box after commands
abbrev pub after : ℕ → List (Command Term) → Box Term
after n cs = box_at 0 (play_alone n cs).boxes

-- what then lies in its first places
abbrev pub first_places : ℕ → ℕ → List (Command Term) → List (Place Term)
first_places k n cs = take k (after n cs).places

-- a tag
abbrev pub tag : Role → Bool → Tag
tag r s = record { role = r; stays = s }

-- a slot
abbrev pub slot : Term → Role → Bool → Slot Term
slot k r s = record { key = k; tag = tag r s }

-- a stamp
abbrev pub stamp : ℕ → ℕ → Stamp
stamp b n = record { number = b; count = n }

-- a text, as a key or a content
abbrev pub one : Term
one = Text (1 ∷ [])

-- another
abbrev pub two : Term
two = Text (2 ∷ [])

-- the second key of box 0, a sealer that stays, wrapped under the first
abbrev pub wrapped_sealer : Term
wrapped_sealer = Wrapped (Drawn 0 0) (stamp 0 0) (tag Sealer true) (Drawn 0 1)

-- the commands that make it, and put it back
abbrev pub wrap_and_unwrap_commands : List (Command Term)
wrap_and_unwrap_commands = Make (tag Wrapper true) ∷ Make (tag Sealer true) ∷ Wrap 1 0 ∷ Unwrap 0 wrapped_sealer ∷ []

-- a key wrapped under a text outside the boxes
abbrev pub forged : Bool → Term
forged stays = Wrapped one (stamp 0 0) (tag Sealer stays) two

-- a text sealed under the first key of box 0
abbrev pub sealed_text : Term
sealed_text = Sealed (Drawn 0 0) (stamp 0 0) one

-- three keys derived from one base
abbrev pub derive_thrice_commands : List (Command Term)
derive_thrice_commands = Make (tag Base true) ∷ Derive 0 5 Sealer ∷ Derive 0 5 Sealer ∷ Derive 0 5 Marker ∷ []

-- all places filled, one more key asked for, a place made empty, a key asked for again
abbrev pub fill_and_refill_commands : List (Command Term)
fill_and_refill_commands = replicate 63 (Make (tag Sealer true)) ++ Make (tag Sealer true) ∷ Forget 9 ∷ Make (tag Sealer true) ∷ []

-- n places one after the other, from i on
unfoldable pub places_from : ℕ → ℕ → List (Answer Term)
places_from i zero = []
places_from i (suc n) = Placed i ∷ places_from (i + 1) n

-- the first key of box 0, a wrapper that stays, wrapped under itself
abbrev pub wrapped_in_itself : Term
wrapped_in_itself = Wrapped (Drawn 0 0) (stamp 0 0) (tag Wrapper true) (Drawn 0 0)

-- the commands that make it, and put it back
abbrev pub wrap_in_itself_commands : List (Command Term)
wrap_in_itself_commands = Make (tag Wrapper true) ∷ Wrap 0 0 ∷ Unwrap 0 wrapped_in_itself ∷ []

-- the first key of box 0, a sealer that stays, wrapped under the house key
abbrev pub wrapped_under_house : Term
wrapped_under_house = Wrapped House (stamp 0 0) (tag Sealer true) (Drawn 0 0)

-- a box that holds one key beside the house key, a sealer that stays, after so many keys and blobs
abbrev pub used : (drawn count : ℕ) → Box Term
used d c = put_at 0 (Full (slot (Drawn 0 0) Sealer true)) (record { number = 0; drawn = d; count = c; places = (fresh terms 0).places })

-- the same with a wrapper that doesn't stay in place 1
abbrev pub used_with_loaded : (drawn count : ℕ) → Box Term
used_with_loaded d c = put_at 1 (Full (slot one Wrapper false)) (used d c)

-- a box with no empty place, after so many keys
abbrev pub filled : (drawn : ℕ) → Box Term
filled d = record { number = 0; drawn = d; count = 0; places = replicate 64 (Full (house_slot terms)) }

-- the number of the last key, and the count of the last blob
abbrev pub last : ℕ
last = 2 ^ 48 - 1

-- all answers to each order of commands, and what then lies in places
pub record Cases : Type 0 where
  -- a key that stays, wrapped under one that stays, comes back as it was
  pub wrap_and_unwrap : answers 0 wrap_and_unwrap_commands ≡ Placed 0 ∷ Placed 1 ∷ Gives wrapped_sealer ∷ Placed 2 ∷ []
  pub unwrapped_as_it_was : first_places 3 0 wrap_and_unwrap_commands ≡
      Full (slot (Drawn 0 0) Wrapper true) ∷ Full (slot (Drawn 0 1) Sealer true) ∷ Full (slot (Drawn 0 1) Sealer true) ∷ []
  -- under another key it doesn't open
  pub unwrap_under_another : answers 1 (Make (tag Wrapper true) ∷ Unwrap 0 wrapped_sealer ∷ []) ≡ Placed 0 ∷ Refused NotOpened ∷ []
  -- a key that stays isn't wrapped under one that was loaded
  pub not_under_loaded : answers 0 (Make (tag Sealer true) ∷ Load Wrapper one ∷ Wrap 0 1 ∷ []) ≡ Placed 0 ∷ Placed 1 ∷ Refused Stays ∷ []
  -- nor under one that was shown, and loaded as a wrapper
  pub not_under_shown : answers 0 (Make (tag Sealer false) ∷ Show 0 ∷ Load Wrapper (Drawn 0 0) ∷ Make (tag Sealer true) ∷ Wrap 2 1 ∷ []) ≡
      Placed 0 ∷ Gives (Drawn 0 0) ∷ Placed 1 ∷ Placed 2 ∷ Refused Stays ∷ []
  -- under a wrapper that doesn't stay, a blob isn't believed that says that its key stays
  pub forged_stays : answers 0 (Load Wrapper one ∷ Unwrap 0 (forged true) ∷ []) ≡ Placed 0 ∷ Refused Stays ∷ []
  -- one that says that its key doesn't is
  pub forged_leaves : answers 0 (Load Wrapper one ∷ Unwrap 0 (forged false) ∷ []) ≡ Placed 0 ∷ Placed 1 ∷ []
  -- what is sealed opens under the same key
  pub seal_and_open : answers 0 (Make (tag Sealer true) ∷ Seal 0 one ∷ Open 0 sealed_text ∷ []) ≡ Placed 0 ∷ Gives sealed_text ∷ Gives one ∷ []
  -- not in a box without a key
  pub open_without_key : answers 1 (Open 0 sealed_text ∷ []) ≡ Refused NoKey ∷ []
  -- and not under another key
  pub open_under_another : answers 1 (Make (tag Sealer true) ∷ Open 0 sealed_text ∷ []) ≡ Placed 0 ∷ Refused NotOpened ∷ []
  -- one label and one role give one key, and it stays as the base does
  pub derive_thrice : answers 0 derive_thrice_commands ≡ Placed 0 ∷ Placed 1 ∷ Placed 2 ∷ Placed 3 ∷ []
  pub derived_places : first_places 4 0 derive_thrice_commands ≡
      Full (slot (Drawn 0 0) Base true) ∷ Full (slot (Derived (Drawn 0 0) 5 Sealer) Sealer true) ∷ Full (slot (Derived (Drawn 0 0) 5 Sealer) Sealer true) ∷
      Full (slot (Derived (Drawn 0 0) 5 Marker) Marker true) ∷ []
  -- another role gives another key
  pub derived_apart : Derived (Drawn 0 0) 5 Sealer ≡ Derived (Drawn 0 0) 5 Marker → ⊥
  -- 63 keys have a place, the next has none, until one is forgotten
  pub fill_and_refill : answers 0 fill_and_refill_commands ≡ places_from 0 63 ++ Refused NoRoom ∷ Done ∷ Placed 9 ∷ []
  -- a refused Make draws no key
  pub refilled_place : place 9 (after 0 fill_and_refill_commands) ≡ Full (slot (Drawn 0 63) Sealer true)
  -- a marker marks
  pub mark_with_marker : answers 0 (Make (tag Marker true) ∷ Mark 0 one ∷ []) ≡ Placed 0 ∷ Gives (Marked (Drawn 0 0) one) ∷ []
  -- a sealer doesn't mark
  pub mark_with_sealer : answers 0 (Make (tag Sealer true) ∷ Mark 0 one ∷ []) ≡ Placed 0 ∷ Refused WrongRole ∷ []
  -- a wrapper can be wrapped under itself
  pub wrap_in_itself : answers 0 wrap_in_itself_commands ≡ Placed 0 ∷ Gives wrapped_in_itself ∷ Placed 1 ∷ []
  pub unwrapped_from_itself : first_places 2 0 wrap_in_itself_commands ≡ Full (slot (Drawn 0 0) Wrapper true) ∷ Full (slot (Drawn 0 0) Wrapper true) ∷ []
  -- a key that stays isn't shown
  pub show_that_stays : answers 0 (Make (tag Sealer true) ∷ Show 0 ∷ []) ≡ Placed 0 ∷ Refused Stays ∷ []
  -- a key goes from box to box under the house key
  pub wrap_under_house : answers 0 (Make (tag Sealer true) ∷ Wrap 0 63 ∷ []) ≡ Placed 0 ∷ Gives wrapped_under_house ∷ []
  pub unwrap_in_another : answers 1 (Unwrap 63 wrapped_under_house ∷ []) ≡ Placed 0 ∷ []
  pub unwrapped_in_another : place 0 (after 1 (Unwrap 63 wrapped_under_house ∷ [])) ≡ Full (slot (Drawn 0 0) Sealer true)
  -- the last stamp is used for a blob, and none after it
  pub last_wrap : does terms (Wrap 0 63) (used 1 last) ≡
      record { box = used 1 (2 ^ 48); answer = Gives (Wrapped House (stamp 0 last) (tag Sealer true) (Drawn 0 0)) }
  pub no_wrap_more : does terms (Wrap 0 63) (used 1 (2 ^ 48)) ≡ record { box = used 1 (2 ^ 48); answer = Refused UsedUp }
  pub last_seal : does terms (Seal 0 one) (used 1 last) ≡ record { box = used 1 (2 ^ 48); answer = Gives (Sealed (Drawn 0 0) (stamp 0 last) one) }
  pub no_seal_more : does terms (Seal 0 one) (used 1 (2 ^ 48)) ≡ record { box = used 1 (2 ^ 48); answer = Refused UsedUp }
  -- the last key is drawn, and none after it
  pub last_make : does terms (Make (tag Sealer true)) (used last 0) ≡
      record { box = put_at 1 (Full (slot (Drawn 0 last) Sealer true)) (used (2 ^ 48) 0); answer = Placed 1 }
  pub no_make_more : does terms (Make (tag Sealer true)) (used (2 ^ 48) 0) ≡ record { box = used (2 ^ 48) 0; answer = Refused UsedUp }
  -- a key that stays is refused for that, also where no stamp is left
  pub stays_before_used_up : does terms (Wrap 0 1) (used_with_loaded 1 (2 ^ 48)) ≡ record { box = used_with_loaded 1 (2 ^ 48); answer = Refused Stays }
  -- where no place is empty, that is the cause, also where no key is left
  pub no_room_before_used_up : does terms (Make (tag Sealer true)) (filled (2 ^ 48)) ≡ record { box = filled (2 ^ 48); answer = Refused NoRoom }
  -- the refusals have the numbers 1 to 7
  pub refusal_numbers : map (λ r. answer_number {V = Term} (Refused r)) (Malformed ∷ NoKey ∷ NoRoom ∷ WrongRole ∷ Stays ∷ NotOpened ∷ UsedUp ∷ []) ≡
      1 ∷ 2 ∷ 3 ∷ 4 ∷ 5 ∷ 6 ∷ 7 ∷ []
