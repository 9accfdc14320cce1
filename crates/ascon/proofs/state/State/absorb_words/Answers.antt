use Rattle.std.proofs.Common.{◌≡◌, ◌/◌, length, rules, fold, ◌∙◌}
use Rattle.std.specs.Simd.{first_chunks}
use Rattle.std.proofs.lemmas.Iterator.{YieldsList-from_slice}
use Rattle.std.proofs.lemmas.Iterator.Consumers.{fold_from_yields_List}
use Rattle.ascon.specs.Blocks.{padded}
use Rattle.ascon.specs.Hash.{words}
use Rattle.ascon.proofs.BlockLaws.{fold_padded}
use Rattle.ascon.proofs.HashLaws.{word_step, absorbed_words-fold}
use Rattle.ascon.proofs.state.State.absorb_words.Goals as goal

pub returns : goal.returns
unfolding words
returns c =
    let m = c.args.message.now in
    let whole : c.fold-s.result ≡ fold word_step c.args.self (first_chunks 8 (length m / 8) m) = fold_from_yields_List _ word_step c.args.self c.fold-s.result c.fold-s.ensures.ran (YieldsList-from_slice _ (c.iter.ensures.rest ∙ c.as_chunks.ensures.front)) (λ s b t q h. search rules) in
    let joined = fold_padded word_step 8 m c.args.self in
    let all = absorbed_words-fold (padded 8 m) c.args.self in
    cc
