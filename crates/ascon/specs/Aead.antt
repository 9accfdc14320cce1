-- Ascon-AEAD128: authenticated encryption with associated data.
use Rattle.std.specs.Prelude.{ℕ, zero, suc, ◌/◌, cond, List, [], ◌∷◌, ◌++◌, length, take, drop, Some, None, Option, bit_xor}
use Rattle.std.specs.Str.{bytes_eq}
use Rattle.ascon.specs.declared.state.State.{State}
use Rattle.ascon.specs.Permutation.{p12, p8}
use Rattle.ascon.specs.Blocks.{word, bytes, pad, padded}

-- the rate: the sixteen bytes of x0 and x1, through which data and text go
unfoldable pub rate : State → List ℕ
rate s = bytes s.x0 ++ bytes s.x1

-- a block added to the rate
unfoldable pub add : State → List ℕ → State
add s b = record { x0 = bit_xor s.x0 (word b); x1 = bit_xor s.x1 (word (drop 8 b)); x2 = s.x2; x3 = s.x3; x4 = s.x4 }

-- a block in place of the rate
unfoldable pub replace : State → List ℕ → State
replace s b = record { x0 = word b; x1 = word (drop 8 b); x2 = s.x2; x3 = s.x3; x4 = s.x4 }

-- the key added to x2 and x3
unfoldable pub add_key_high : List ℕ → State → State
add_key_high k s = record { x0 = s.x0; x1 = s.x1; x2 = bit_xor s.x2 (word k); x3 = bit_xor s.x3 (word (drop 8 k)); x4 = s.x4 }

-- the key added to x3 and x4
unfoldable pub add_key_low : List ℕ → State → State
add_key_low k s = record { x0 = s.x0; x1 = s.x1; x2 = s.x2; x3 = bit_xor s.x3 (word k); x4 = bit_xor s.x4 (word (drop 8 k)) }

-- initialization: the parameters' word, key and nonce, p[12], the key again
unfoldable pub initialized : List ℕ → List ℕ → State
initialized k n = add_key_low k (p12 (record { x0 = 0x00001000808c0001; x1 = word k; x2 = word (drop 8 k); x3 = word n; x4 = word (drop 8 n) }))

-- blocks added one after another, p[8] after each
unfoldable pub absorbed : State → List (List ℕ) → State
absorbed s [] = s
absorbed s (b ∷ bs) = absorbed (p8 (add s b)) bs

-- associated data, if there is any
unfoldable pub with_data : State → List ℕ → State
with_data s [] = s
with_data s (x ∷ a) = absorbed s (padded 16 (x ∷ a))

-- the bit that parts associated data from text
abbrev pub separated : State → State
separated s = record { x0 = s.x0; x1 = s.x1; x2 = s.x2; x3 = s.x3; x4 = bit_xor s.x4 0x8000000000000000 }

-- the state before the text
unfoldable pub begun : List ℕ → List ℕ → List ℕ → State
begun k n a = separated (with_data (initialized k n) a)

-- encryption of n whole blocks and what is left: each block added to the rate, which is then the ciphertext
unfoldable pub encrypted : ℕ → State → List ℕ → List ℕ
encrypted zero s t = take (length t) (rate (add s (pad 16 t)))
encrypted (suc n) s t = rate (add s (take 16 t)) ++ encrypted n (p8 (add s (take 16 t))) (drop 16 t)

-- the state after that
unfoldable pub after_text : ℕ → State → List ℕ → State
after_text zero s t = add s (pad 16 t)
after_text (suc n) s t = after_text n (p8 (add s (take 16 t))) (drop 16 t)

-- decryption of n whole blocks and what is left: each block with the rate, whose place it then takes
unfoldable pub decrypted : ℕ → State → List ℕ → List ℕ
decrypted zero s c = take (length c) (rate (add s c))
decrypted (suc n) s c = rate (add s (take 16 c)) ++ decrypted n (p8 (replace s (take 16 c))) (drop 16 c)

-- the state after that; of the last block the text is added, padded
unfoldable pub after_ciphertext : ℕ → State → List ℕ → State
after_ciphertext zero s c = add s (pad 16 (take (length c) (rate (add s c))))
after_ciphertext (suc n) s c = after_ciphertext n (p8 (replace s (take 16 c))) (drop 16 c)

-- finalization: the key, p[12], and the tag from x3, x4 and the key
unfoldable pub finalized : List ℕ → State → List ℕ
finalized k s = let f = add_key_low k (p12 (add_key_high k s)) in bytes f.x3 ++ bytes f.x4

-- the ciphertext of a text t under key k, nonce n and associated data a
unfoldable pub ciphertext : List ℕ → List ℕ → List ℕ → List ℕ → List ℕ
ciphertext k n a t = encrypted (length t / 16) (begun k n a) t

-- and its tag
unfoldable pub tag : List ℕ → List ℕ → List ℕ → List ℕ → List ℕ
tag k n a t = finalized k (after_text (length t / 16) (begun k n a) t)

-- the text of a ciphertext c, if its tag is g
unfoldable pub opened : List ℕ → List ℕ → List ℕ → List ℕ → List ℕ → Option (List ℕ)
opened k n a c g = cond (bytes_eq (finalized k (after_ciphertext (length c / 16) (begun k n a) c)) g) (Some (decrypted (length c / 16) (begun k n a) c)) None
