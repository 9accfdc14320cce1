-- What a secret holds once its bytes have been lent.
use Rattle.std.specs.Prelude.{ℕ, List, ◌++◌, drop, length, take}
use Rattle.std.specs.Borrow.{Lends, MutBor, Fml, Array, u8}
use Rattle.ascon_cli.specs.contracts.secret.Secret.{the_row}

-- Bytes that are written over from the first on, none added: all of them, where as many were written.
abbrev pub written : List ℕ → List ℕ → List ℕ
written bs w = take (length bs) (w ++ drop (length w) bs)

-- A secret ends with what was left behind r.
abbrev pub LendsBytes : MutBor (List ℕ) → MutBor (List ℕ) → Fml
LendsBytes s r = Lends the_row (Array u8 0) s r (written s.now)
