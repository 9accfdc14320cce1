use Rattle.std.proofs.Common.{◌≡◌, ℕ, ◌+◌, ◌-◌, List, length, take, ap, ◌∙◌, arith}
use Rattle.ascon.specs.Blocks.{bytes}
use Rattle.ascon.specs.Hash.{output}
use Rattle.ascon.proofs.HashLaws.{squeeze_more, squeeze_last}
use Rattle.ascon.proofs.state.State.squeeze.Goals as goal

pub loop-out-preserved : goal.loop-out-preserved
unfolding bytes
loop-out-preserved c =
    squeeze_more c.args.self c.loop-out.s c.loop-out.out c.loop-out.at c.loop-out.invariant c.p12-s.result c.copy_from_slice.new.self (c.loop-out.at + 8 - c.loop-out.at) (omega arith) (omega arith) (c.copy_from_slice.ensures.after ∙ c.to_le_bytes.ensures) c.p12-s.ensures

pub returns : goal.returns
unfolding bytes
returns c =
    let n = length c.loop-out.out - c.loop-out.at in
    let part : c.copy_from_slice-2.new.self ≡ take n (bytes c.loop-out.s.x0) = c.copy_from_slice-2.ensures.after ∙ ap (λ (xs : List ℕ). take n xs) c.to_le_bytes-2.ensures in
    squeeze_last c.args.self c.loop-out.s c.loop-out.out c.loop-out.at c.loop-out.invariant c.copy_from_slice-2.new.self (omega arith) part ∙ ap (λ n. output n c.args.self) c.loop-out.auto.out
