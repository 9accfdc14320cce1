-- What the program's values stand for.
use Rattle.ascon_cli.specs.Format.{Asked, Parts, sealing, opening, hashing, squeezing}
use Rattle.ascon_cli.specs.declared.request.Packet.{Packet}
use Rattle.ascon_cli.specs.declared.request.Output.{Output}
use Rattle.ascon_cli.specs.declared.request.Request.{Request}
use Rattle.ascon_cli.specs.declared.request.Request.TheVariants.{Seal, Open, Hash, Xof}

-- The four arguments of `seal` or `open`.
abbrev pub parts_of : Packet → Parts
parts_of p = record { key = p.context.key.secret; nonce = p.context.nonce.secret; associated = p.context.associated; text = p.text }

-- What the arguments of `xof` ask for.
abbrev pub output_of : Output → Asked
output_of o = squeezing o.label.secret o.text o.length

-- What a request asks for.
abbrev pub asked_of : Request → Asked
asked_of (Seal p) = sealing (parts_of p)
asked_of (Open p) = opening (parts_of p)
asked_of (Hash t) = hashing t
asked_of (Xof o) = output_of o
