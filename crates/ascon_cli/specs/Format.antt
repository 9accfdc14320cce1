-- The format of lines: what a line asks for, and the line that answers it.
use Rattle.std.specs.Prelude.{ℕ, ◌-◌, cond, List, [], ◌∷◌, ◌++◌, length, take, drop, Some, None, Ok, Err, codes, Option, Result, ◌==◌, nat_lt, slice_index_or}
use Rattle.ascon.specs.Aead.{ciphertext, opened, tag}
use Rattle.ascon.specs.Hash.{cxof128, hash256}
use Rattle.lines.specs.Hex.{encoded}
use Rattle.ascon_cli.specs.Commands.{command_of}
use Rattle.ascon_cli.specs.Errors.{and_then, message_of}
use Rattle.ascon_cli.specs.Fields.{argument, counted, output_length, short, sized}
use Rattle.ascon_cli.specs.Words.{words}
use Rattle.ascon_cli.specs.declared.fault.LineError.{LineError}
use Rattle.ascon_cli.specs.declared.fault.LineError.TheVariants.{UnknownCommand}
use Rattle.ascon_cli.specs.declared.request.Command.{Command}
use Rattle.ascon_cli.specs.declared.request.Command.TheVariants.{Seal, Open, Hash, Xof}

-- The four arguments of `seal` and `open`; of `open`, text is the sealed text and its tag.
pub record Parts : Type 0 where
  pub key : List ℕ
  pub nonce : List ℕ
  pub associated : List ℕ
  pub text : List ℕ

-- What a line asks for.
pub data Asked : Type 0 where
  sealing : Parts → Asked
  opening : Parts → Asked
  hashing : List ℕ → Asked
  squeezing : List ℕ → List ℕ → ℕ → Asked

-- Key, nonce, data and text, all in hexadecimal before the sizes count.
abbrev pub parts : List (List ℕ) → Result Parts LineError
parts ws =
    and_then (counted 4 ws) λ _.
    and_then (argument (slice_index_or ws 0 [])) λ k.
    and_then (argument (slice_index_or ws 1 [])) λ n.
    and_then (argument (slice_index_or ws 2 [])) λ a.
    and_then (argument (slice_index_or ws 3 [])) λ t.
    and_then (sized k) λ k'.
    and_then (sized n) λ n'.
    Ok (record { key = k'; nonce = n'; associated = a; text = t })

-- One text.
abbrev pub message : List (List ℕ) → Result (List ℕ) LineError
message ws = and_then (counted 1 ws) λ _. argument (slice_index_or ws 0 [])

-- String, text and length.
abbrev pub output : List (List ℕ) → Result Asked LineError
output ws =
    and_then (counted 3 ws) λ _.
    and_then (argument (slice_index_or ws 0 [])) λ z.
    and_then (argument (slice_index_or ws 1 [])) λ t.
    and_then (short z) λ z'.
    and_then (output_length (slice_index_or ws 2 [])) λ n.
    Ok (squeezing z' t n)

-- What a command asks for with these arguments.
abbrev pub called : Option Command → List (List ℕ) → Result Asked LineError
called None ws = Err UnknownCommand
called (Some Seal) ws = and_then (parts ws) λ p. Ok (sealing p)
called (Some Open) ws = and_then (parts ws) λ p. Ok (opening p)
called (Some Hash) ws = and_then (message ws) λ t. Ok (hashing t)
called (Some Xof) ws = output ws

-- A command and its arguments.
abbrev pub asks : List (List ℕ) → Result Asked LineError
asks [] = Err UnknownCommand
asks (w ∷ ws) = called (command_of w) ws

-- What a line asks for, or why it cannot be read.
abbrev pub request : List ℕ → Result Asked LineError
request line = asks (words line)

-- Bytes in small digits, or a dash for none.
abbrev pub shown : List ℕ → List ℕ
shown bs = cond (length bs == 0) (codes "-") (encoded bs)

-- The text that was sealed, if it was.
abbrev pub disclosed : Option (List ℕ) → List ℕ
disclosed None = codes "refused"
disclosed (Some t) = shown t

-- A sealed text is opened by the tag that its last 16 bytes are.
abbrev pub unsealed : Parts → Option (List ℕ)
unsealed p =
    cond (nat_lt (length p.text) 16) None
    (opened p.key p.nonce p.associated (take (length p.text - 16) p.text) (drop (length p.text - 16) p.text))

-- The result that is asked for.
abbrev pub result_of : Asked → List ℕ
result_of (sealing p) = encoded (ciphertext p.key p.nonce p.associated p.text) ++ encoded (tag p.key p.nonce p.associated p.text)
result_of (opening p) = disclosed (unsealed p)
result_of (hashing t) = encoded (hash256 t)
result_of (squeezing z t n) = shown (cxof128 z t n)

-- The result, or the error.
abbrev pub answered : Result Asked LineError → List ℕ
answered (Ok a) = result_of a
answered (Err e) = message_of e

-- The line that answers a line.
unfoldable pub reply : List ℕ → List ℕ
reply line = answered (request line)
