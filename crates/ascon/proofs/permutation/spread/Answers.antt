use Rattle.std.proofs.Common.{◌≡◌, ◌-◌, ◌%◌, mod-eq_of_lt, arith}
use Rattle.ascon.specs.Permutation.{spread, rotated}
use Rattle.ascon.proofs.permutation.spread.Goals as goal

pub returns : goal.returns
unfolding spread rotated
returns c =
    let a : c.args.a % 64 ≡ c.args.a = mod-eq_of_lt (omega arith) in
    let b : c.args.b % 64 ≡ c.args.b = mod-eq_of_lt (omega arith) in
    let a' : (64 - c.args.a) % 64 ≡ 64 - c.args.a = mod-eq_of_lt (omega arith) in
    let b' : (64 - c.args.b) % 64 ≡ 64 - c.args.b = mod-eq_of_lt (omega arith) in
    cc
