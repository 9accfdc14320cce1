-- Bytes as 64-bit words, lowest byte first, and messages cut into padded blocks.
use Rattle.std.specs.Prelude.{ℕ, zero, suc, ◌+◌, ◌-◌, ◌*◌, ◌/◌, ◌%◌, ◌<◌, List, [], ◌∷◌, ◌++◌, length, take, drop, replicate, slice_index}

-- every number of a list is below 256
abbrev pub Bytes : List ℕ → Type 0
Bytes xs = (i : ℕ) → slice_index xs i < 256

-- the word of a list's first eight bytes; bytes past its end count as 0
unfoldable pub word : List ℕ → ℕ
word b = slice_index b 0 + slice_index b 1 * 256 + slice_index b 2 * 65536 + slice_index b 3 * 16777216 + slice_index b 4 * 4294967296 + slice_index b 5 * 1099511627776 + slice_index b 6 * 281474976710656 + slice_index b 7 * 72057594037927936

-- the eight bytes of a word
unfoldable pub bytes : ℕ → List ℕ
bytes x = (x % 256) ∷ (x / 256 % 256) ∷ (x / 65536 % 256) ∷ (x / 16777216 % 256) ∷ (x / 4294967296 % 256) ∷ (x / 1099511627776 % 256) ∷ (x / 281474976710656 % 256) ∷ (x / 72057594037927936 % 256) ∷ []

-- fewer than r bytes, padded to r: a byte 01, then noughts
abbrev pub pad : ℕ → List ℕ → List ℕ
pad r m = m ++ 1 ∷ replicate (r - 1 - length m) 0

-- n whole blocks of r bytes, then what is left, padded
unfoldable pub blocks : ℕ → ℕ → List ℕ → List (List ℕ)
blocks r zero m = pad r m ∷ []
blocks r (suc n) m = take r m ∷ blocks r n (drop r m)

-- a message as padded blocks of r bytes: where its length is a multiple of r, the last is padding alone
unfoldable pub padded : ℕ → List ℕ → List (List ℕ)
padded r m = blocks r (length m / r) m
