-- Terms that are found to be one are, and only what was made under a key opens under it.
use Rattle.std.proofs.Common.{◌≡◌, true, Some, sym, refl, ap, ◌∙◌}
use native.Mathlib.Decide.{ℕ_discrete}
use Rattle.std.proofs.lemmas.Bool.{eqb-true, false≢true}
use Rattle.std.proofs.lemmas.Option.{cond_some, none-some}
use Rattle.keys.specs.declared.role.Role.{Role}
use Rattle.keys.specs.Algebra.{role_of, same_role, Stamp, Slot}
use Rattle.keys.proofs.RoleLaws.{role_number_lem}
use Rattle.terms.specs.Equality.{is_yes, bytes_discrete, stamp_discrete, tag_discrete, role_discrete}
use Rattle.terms.specs.Term.{Term, House, Drawn, Text, Wrapped, Sealed, Marked, Derived, term-discrete, same, unwrapped, unsealed}

yes_holds : {A : Type 0} (d : Dec A) → is_yes d ≡ true → A
yes_holds (yes a) e = a
yes_holds (no n) e = absurd (false≢true e)

pub same_is : (t u : Term) → same t u ≡ true → t ≡ u
same_is t u e = yes_holds (term-discrete ℕ_discrete bytes_discrete stamp_discrete tag_discrete role_discrete t u) e

pub role_is : (r q : Role) → same_role r q ≡ true → r ≡ q
role_is r q e = sym (role_number_lem r) ∙ ap role_of (eqb-true _ _ e) ∙ role_number_lem q

-- what unwraps to a slot is that slot, wrapped under this key
pub unwrapped_is : (w v : Term) (s : Slot Term) → unwrapped w v ≡ Some s → (p : Stamp) × (v ≡ Wrapped w p s.tag s.key)
unwrapped_is w House s e = absurd (none-some s e)
unwrapped_is w (Drawn b n) s e = absurd (none-some s e)
unwrapped_is w (Text bs) s e = absurd (none-some s e)
unwrapped_is w (Wrapped u p g k) s e =
    let found = cond_some (same w u) (record { key = k; tag = g }) s e in
    let r = same_is w u found.0 in (p, rw (sym found.1, r) refl)
unwrapped_is w (Sealed k p t) s e = absurd (none-some s e)
unwrapped_is w (Marked k t) s e = absurd (none-some s e)
unwrapped_is w (Derived k l r) s e = absurd (none-some s e)

-- what unseals to a content is that content, sealed under this key
pub unsealed_is : (w v t : Term) → unsealed w v ≡ Some t → (p : Stamp) × (v ≡ Sealed w p t)
unsealed_is w House t e = absurd (none-some t e)
unsealed_is w (Drawn b n) t e = absurd (none-some t e)
unsealed_is w (Text bs) t e = absurd (none-some t e)
unsealed_is w (Wrapped u p g k) t e = absurd (none-some t e)
unsealed_is w (Sealed k p u) t e =
    let found = cond_some (same w k) u t e in
    let r = same_is w k found.0 in (p, rw (sym found.1, r) refl)
unsealed_is w (Marked k u) t e = absurd (none-some t e)
unsealed_is w (Derived k l r) t e = absurd (none-some t e)
