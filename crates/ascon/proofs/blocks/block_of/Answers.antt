use Rattle.std.proofs.Common.{◌≡◌, length, ap, ◌∙◌, replicate, refl}
use Rattle.ascon.specs.Blocks.{bytes}
use Rattle.ascon.proofs.BlockLaws.{two_halves}
use Rattle.ascon.proofs.blocks.block_of.Goals as goal

pub returns : goal.returns
unfolding bytes
returns c =
    let first : c.copy_from_slice.new.self ≡ bytes c.args.low = c.copy_from_slice.ensures.after ∙ c.to_le_bytes.ensures in
    let second : c.copy_from_slice-2.new.self ≡ bytes c.args.high = c.copy_from_slice-2.ensures.after ∙ c.to_le_bytes-2.ensures in
    let written = two_halves c.copy_from_slice.new.self c.copy_from_slice-2.new.self (replicate 16 0) (ap length first) (ap length second) refl in
    cc
