-- What functions report: why a line cannot be read, and what was written.
use Rattle.std.specs.Prelude.{◌≡◌, ℕ, List, ◌++◌, Ok, Err, codes, Result, OnOk}
use Rattle.ascon_cli.specs.declared.fault.LineError.{LineError}
use Rattle.ascon_cli.specs.declared.fault.LineError.TheVariants.{UnknownCommand, ArgumentCount, NotHexadecimal, KeyLength, StringLength, OutputLength}
use Rattle.ascon_cli.specs.declared.fault.Fault.{Fault}
use Rattle.ascon_cli.specs.declared.fault.Fault.TheVariants.{Line, Memory}
use Rattle.lines.specs.declared.hex.HexError.{HexError}
use Rattle.lines.specs.declared.hex.HexError.TheVariants.{NotHex}

-- The answer to a line that cannot be read.
abbrev pub message_of : LineError → List ℕ
message_of UnknownCommand = codes "error: unknown command"
message_of ArgumentCount = codes "error: wrong number of arguments"
message_of NotHexadecimal = codes "error: not hexadecimal"
message_of KeyLength = codes "error: key and nonce take 16 bytes"
message_of StringLength = codes "error: the string takes at most 256 bytes"
message_of OutputLength = codes "error: the length is a number from 0 to 65536"

-- What is read first, then what is read with it; the first error stands.
abbrev pub and_then : {X Y : Type 0} → Result X LineError → (X → Result Y LineError) → Result Y LineError
and_then (Ok x) f = f x
and_then (Err e) f = Err e

-- A function's result is what the definition says, seen through view, unless memory ran out.
abbrev pub Agrees : {X Y : Type 0} → (Y → X) → Result X LineError → Result Y Fault → Type 0
Agrees view s (Ok y) = s ≡ Ok (view y)
Agrees view s (Err (Line e)) = s ≡ Err e
Agrees view s (Err Memory) = Unit {0}

-- A function's result is just what the definition says, seen through view.
abbrev pub Gives : {X Y : Type 0} → (Y → X) → Result X LineError → Result Y LineError → Type 0
Gives view s (Ok y) = s ≡ Ok (view y)
Gives view s (Err e) = s ≡ Err e

-- What digits that cannot be read come to; the other case is want of memory.
abbrev pub fault_of : HexError → Fault
fault_of NotHex = Line NotHexadecimal
fault_of _ = Memory

-- On success a text has grown by more, and by nothing else.
abbrev pub Grew : {X Y : Type 0} → Result X Y → List ℕ → List ℕ → List ℕ → Type 0
Grew r before after more = OnOk r (after ≡ before ++ more)
