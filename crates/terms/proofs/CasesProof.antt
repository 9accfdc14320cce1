-- Each case computes.
use Rattle.std.proofs.Common.{refl}
use native.Mathlib.Decide.{ℕ_discrete}
use Rattle.keys.specs.Machine.{empties, first_empty}
use Rattle.terms.specs.Equality.{bytes_discrete}
use Rattle.terms.specs.Alike.{play}
use Rattle.terms.specs.Cases.{Cases, places_from}

pub cases : Cases
unfolding empties first_empty play places_from ℕ_discrete bytes_discrete
cases =
    record {
      wrap_and_unwrap = refl;
      unwrapped_as_it_was = refl;
      unwrap_under_another = refl;
      not_under_loaded = refl;
      not_under_shown = refl;
      forged_stays = refl;
      forged_leaves = refl;
      seal_and_open = refl;
      open_without_key = refl;
      open_under_another = refl;
      derive_thrice = refl;
      derived_places = refl;
      derived_apart = λ e. cc e;
      fill_and_refill = refl;
      refilled_place = refl;
      mark_with_marker = refl;
      mark_with_sealer = refl;
      wrap_in_itself = refl;
      unwrapped_from_itself = refl;
      show_that_stays = refl;
      wrap_under_house = refl;
      unwrap_in_another = refl;
      unwrapped_in_another = refl;
      last_wrap = refl;
      no_wrap_more = refl;
      last_seal = refl;
      no_seal_more = refl;
      last_make = refl;
      no_make_more = refl;
      stays_before_used_up = refl;
      no_room_before_used_up = refl;
      refusal_numbers = refl;
    }
