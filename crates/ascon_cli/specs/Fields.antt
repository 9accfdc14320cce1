-- The arguments of a line, one by one.
use Rattle.std.specs.Prelude.{ℕ, ◌+◌, ◌-◌, ◌*◌, cond, List, [], ◌∷◌, length, Some, None, Ok, Err, codes, Option, Result, ◌==◌, nat_le}
use Rattle.lines.specs.Hex.{between, decoded}
use Rattle.std.specs.Option.{ok_or}
use Rattle.std.specs.Str.{bytes_eq}
use Rattle.ascon_cli.specs.declared.fault.LineError.{LineError}
use Rattle.ascon_cli.specs.declared.fault.LineError.TheVariants.{ArgumentCount, NotHexadecimal, KeyLength, StringLength, OutputLength}

-- As many words as there are arguments.
abbrev pub counted : ℕ → List (List ℕ) → Result (Unit {0}) LineError
counted n ws = cond (length ws == n) (Ok tt) (Err ArgumentCount)

-- Bytes in hexadecimal; a dash stands for none, and so an empty word for nothing at all.
abbrev pub argument : List ℕ → Result (List ℕ) LineError
argument w =
    cond (bytes_eq w (codes "-")) (Ok [])
    (cond (length w == 0) (Err NotHexadecimal) (ok_or (decoded w) NotHexadecimal))

-- A key or a nonce has 16 bytes.
abbrev pub sized : List ℕ → Result (List ℕ) LineError
sized bs = cond (length bs == 16) (Ok bs) (Err KeyLength)

-- The string of an output of any length has at most 256 bytes.
abbrev pub short : List ℕ → Result (List ℕ) LineError
short bs = cond (nat_le (length bs) 256) (Ok bs) (Err StringLength)

-- The value of a decimal digit.
abbrev pub decimal_digit : ℕ → Option ℕ
decimal_digit b = cond (between 48 57 b) (Some (b - 48)) None

-- What comes of a value, if there is one.
abbrev pub by : Option ℕ → (ℕ → Option ℕ) → Option ℕ
by None f = None
by (Some v) f = f v

-- The number n, with further decimal digits behind it.
unfoldable pub decimal : ℕ → List ℕ → Option ℕ
decimal n [] = Some n
decimal n (d ∷ ds) = by (decimal_digit d) (λ v. decimal (n * 10 + v) ds)

-- A number that is not too large.
abbrev pub within : Option ℕ → Result ℕ LineError
within None = Err OutputLength
within (Some n) = cond (nat_le n 65536) (Ok n) (Err OutputLength)

-- A length: one to five decimal digits, at most 65536.
abbrev pub output_length : List ℕ → Result ℕ LineError
output_length w = cond (between 1 5 (length w)) (within (decimal 0 w)) (Err OutputLength)
