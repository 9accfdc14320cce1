use Rattle.std.proofs.Common.{◌≡◌, Some, None, Err, rules, tests, refl, sym, ◌∙◌}
use Rattle.keys.specs.declared.refusal.Refusal.TheVariants.{NoRoom}
use Rattle.std.proofs.lemmas.Iterator.{YieldsList-from_slice}
use Rattle.std.proofs.lemmas.Iterator.Search.{position_from_yields_List}
use Rattle.keys.proofs.PlaceLaws.{vacant, rooms}
use Rattle.keys.proofs.places.Places.first_empty.Goals as goal

pub returns-in_err-at : goal.returns-in_err-at
returns-in_err-at c =
    let ps = c.self.inside.slots in
    let found = position_from_yields_List vacant _ _ c.position.result c.position.ensures.ran (YieldsList-from_slice ps (cc)) (λ x b q k. search (rules, tests)) in
    let none : c.position.result ≡ None = search rules in
    let refused : c.from_residual.result ≡ Err NoRoom = search rules in
    rw (← c.self.view_is, refused) (rooms ps None (sym none ∙ found) c.self.invariant, refl)

pub returns : goal.returns
returns c =
    let ps = c.self.inside.slots in
    let found = position_from_yields_List vacant _ _ c.position.result c.position.ensures.ran (YieldsList-from_slice ps (cc)) (λ x b q k. search (rules, tests)) in
    let some : c.position.result ≡ Some c.in_ok-at.at = search rules in
    rw (← c.self.view_is) (rooms ps (Some c.in_ok-at.at) (sym some ∙ found) c.self.invariant)
