-- What the memory of a buffer holds.
use Rattle.std.specs.Prelude.{◌≡◌, ℕ, ◌≤◌, List, take}
use Rattle.keys.specs.Padded.{padded}
use Rattle.keybox.specs.declared.buffer.TheConstants.{BLOB_LIMIT}

-- the first n bytes are the buffer's, and noughts stand behind them
pub record Kept (n : ℕ) (bs : List ℕ) : Type 0 where
  pub fits : n ≤ BLOB_LIMIT
  pub clear : bs ≡ padded BLOB_LIMIT (take n bs)
