-- The four commands.
use Rattle.std.specs.Prelude.{ℕ, cond, List, Some, None, codes, Option}
use Rattle.std.specs.Str.{bytes_eq}
use Rattle.ascon_cli.specs.declared.request.Command.{Command}
use Rattle.ascon_cli.specs.declared.request.Command.TheVariants.{Seal, Open, Hash, Xof}

-- The command that a line's first word names.
abbrev pub command_of : List ℕ → Option Command
command_of w =
    cond (bytes_eq w (codes "seal")) (Some Seal)
    (cond (bytes_eq w (codes "open")) (Some Open)
    (cond (bytes_eq w (codes "hash")) (Some Hash)
    (cond (bytes_eq w (codes "xof")) (Some Xof) None)))
