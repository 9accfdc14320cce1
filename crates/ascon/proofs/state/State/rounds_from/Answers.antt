use Rattle.std.proofs.Common.{◌≡◌, ℕ, ◌-◌, drop, take, rules, ◌∙◌, fold, refl, ap, List, [], ◌∷◌}
use Rattle.std.proofs.lemmas.Iterator.{YieldsList-from_slice}
use Rattle.std.proofs.lemmas.Iterator.Consumers.{fold_from_yields_List}
use Rattle.std.proofs.lemmas.List.{take_rest}
use Rattle.ascon.specs.declared.state.State.{State}
use Rattle.ascon.specs.Permutation.{rounds, round, constants}
use Rattle.ascon.proofs.state.State.rounds_from.Goals as goal

-- the rounds, one after another over the list
rounds-fold : (cs : List ℕ) (s : State) → fold (λ (t : State) (c : ℕ). round c t) s cs ≡ rounds cs s
unfolding rounds
rounds-fold [] s = refl
rounds-fold (c ∷ cs) s = rounds-fold cs (round c s)

pub returns : goal.returns
returns c =
    let cs : List ℕ = take (12 - c.args.first) (drop c.args.first constants) in
    let e : c.fold.result ≡ fold (λ (t : State) (k : ℕ). round k t) c.args.self cs = fold_from_yields_List _ (λ (t : State) (k : ℕ). round k t) c.args.self c.fold.result c.fold.ensures.ran (YieldsList-from_slice cs c.iter.ensures.rest) (λ t k u q h. search rules) in
    e ∙ (rounds-fold _ c.args.self ∙ ap (λ (xs : List ℕ). rounds xs c.args.self) (take_rest constants c.args.first))
