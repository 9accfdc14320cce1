use Rattle.std.proofs.Common.{◌≡◌, ◌/◌, length, rules, fold, ◌∙◌}
use Rattle.std.specs.Simd.{first_chunks}
use Rattle.std.proofs.lemmas.Iterator.{YieldsList-from_slice}
use Rattle.std.proofs.lemmas.Iterator.Consumers.{fold_from_yields_List}
use Rattle.ascon.specs.Blocks.{padded}
use Rattle.ascon.proofs.BlockLaws.{fold_padded}
use Rattle.ascon.proofs.AeadLaws.{data_step, absorbed-fold}
use Rattle.ascon.proofs.state.State.absorb.Goals as goal

pub returns : goal.returns
returns c =
    let m = c.args.message.now in
    let whole : c.fold-s.result ≡ fold data_step c.args.self (first_chunks 16 (length m / 16) m) = fold_from_yields_List _ data_step c.args.self c.fold-s.result c.fold-s.ensures.ran (YieldsList-from_slice _ (c.iter.ensures.rest ∙ c.as_chunks.ensures.front)) (λ s b t q h. search rules) in
    let joined = fold_padded data_step 16 m c.args.self in
    let all = absorbed-fold (padded 16 m) c.args.self in
    cc
