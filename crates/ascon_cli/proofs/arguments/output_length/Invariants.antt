use Rattle.std.proofs.Common.{◌≡◌, ◌^◌, ◌<◌, drop}
use Rattle.ascon_cli.specs.Fields.{decimal}
use Rattle.ascon_cli.proofs.arguments.output_length.Given as goal

-- The value so far, with the digits to come, is the number; and it has no more digits than were read.
abbrev pub invariant-loop-sign : goal.invariant-loop-sign
invariant-loop-sign l = (decimal l.value (drop l.sign-index l.word) ≡ decimal 0 l.word) × (l.value < 10 ^ l.sign-index)
