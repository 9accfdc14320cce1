-- Secrecy, one role, no stamp twice and genuine blobs, from the invariant.
use Rattle.std.proofs.Common.{◌≡◌, ℕ, Bool, true, false, List, Some, refl, subst}
use mathlib.Core.List.Memᴰ.{cast as mem-cast}
use Rattle.keys.specs.declared.role.Role.{Role}
use Rattle.keys.specs.Algebra.{Slot}
use Rattle.terms.specs.Term.{Term, terms}
use Rattle.terms.specs.Knowledge.{Knows}
use Rattle.terms.specs.World.{World, Reachable}
use Rattle.terms.specs.Security.{DerivedFrom, itself, further, Stayed, Secret, OneRole, NeverTwice, BoxSealed, BoxWrapped, Genuine}
use Rattle.terms.proofs.Equal.{unwrapped_is, unsealed_is}
use Rattle.terms.proofs.Good.{StaysAs, Public, HeldAs, knows_public, never_both, stays_once, sealed_issued, wrapped_issued}
use Rattle.terms.proofs.Invariant.{invariant}

-- where a derived key may be known, so may what it is derived from
base_public : (ds : List (Slot Term)) (ms : List Term) {k t : Term} → DerivedFrom k t → Public ds ms t → Public ds ms k
unfolding Public
base_public ds ms itself h = h
base_public ds ms (further f l r) h = base_public ds ms f h

module _ (ns : List ℕ) (w : World) (r : Reachable ns w) where
  abbrev Known : Term → Type 0
  Known t = Public w.generated w.issued t

  known : {t : Term} → Knows w.transcript t → Known t
  known k = knows_public w.generated (invariant ns r).keys.distinct w.issued w.transcript (invariant ns r).said k

  stays : (s : Slot Term) → Stayed w s → StaysAs w.generated s.key s.tag.role
  stays s y = rw y.stays at ((invariant ns r).lay s y.lay)

  not_known : (s : Slot Term) → Stayed w s → Known s.key → ⊥
  not_known s y h = never_both w.generated (invariant ns r).keys.distinct w.issued s.key s.tag.role (stays s y) h

  alike : (s : Slot Term) → Stayed w s → (k : Term) (q : Role) (x : Bool) → s.key ≡ k → HeldAs w.generated w.issued x k q →
      (x ≡ true) × (q ≡ s.tag.role)
  alike s y k q true e h = (refl, stays_once w.generated (invariant ns r).keys.distinct k q s.tag.role h (rw e at (stays s y)))
  alike s y k q false e h = absurd (not_known s y (rw e h))

  sealed : (s : Slot Term) → Stayed w s → (v : Term) → Knows w.transcript v → (t : Term) → terms.unseal s.key v ≡ Some t → BoxSealed w s.key t v
  sealed s y v k t e =
      let (p, is) = unsealed_is s.key v t e in
      let issued = sealed_issued w.generated w.issued s.key t p (not_known s y) (subst Known is (known k)) in
      record { stamp = p; is = is; issued = mem-cast is issued }

  wrapped : (s : Slot Term) → Stayed w s → (v : Term) → Knows w.transcript v → (t : Slot Term) → terms.unwrap s.key v ≡ Some t →
      BoxWrapped w s.key t v
  wrapped s y v k t e =
      let (p, is) = unwrapped_is s.key v t e in
      let issued = wrapped_issued w.generated w.issued s.key t.key p t.tag (not_known s y) (subst Known is (known k)) in
      record { stamp = p; is = is; issued = mem-cast is issued }

pub secret : Secret
secret ns w r s y t f k = not_known ns w r s y (base_public w.generated w.issued f (known ns w r k))

pub one_role : OneRole
one_role ns w r s t y m e =
    let p = alike ns w r s y t.key t.tag.role t.tag.stays e ((invariant ns r).lay t m) in
    record { stays = p.0; role = p.1 }

pub never_twice : NeverTwice
never_twice ns w r = record { each = (invariant ns r).each; distinct = (invariant ns r).stamps.distinct }

pub genuine : Genuine
genuine = record { sealed = sealed; wrapped = wrapped }
