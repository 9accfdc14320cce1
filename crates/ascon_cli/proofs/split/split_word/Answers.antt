use Rattle.ascon_cli.proofs.Cuts.{words_split}
use Rattle.ascon_cli.proofs.split.split_word.Goals as goal

pub returns : goal.returns
returns c =
    let e = words_split c.args.text.now c.position.result c.position.ensures in
    cc (e, c.unwrap_or.ensures, c.split_at.ensures.front, c.split_at.ensures.back)
