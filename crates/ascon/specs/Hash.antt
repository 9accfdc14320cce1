-- Ascon-Hash256 and Ascon-CXOF128.
use Rattle.std.specs.Prelude.{ℕ, zero, suc, ◌+◌, ◌*◌, ◌/◌, List, [], ◌∷◌, ◌++◌, map, length, take, bit_xor}
use Rattle.ascon.specs.declared.state.State.{State}
use Rattle.ascon.specs.Permutation.{p12}
use Rattle.ascon.specs.Blocks.{word, bytes, padded}

-- a word added to x0
unfoldable pub add_word : State → ℕ → State
add_word s w = record { x0 = bit_xor s.x0 w; x1 = s.x1; x2 = s.x2; x3 = s.x3; x4 = s.x4 }

-- words added one after another, p[12] after each
unfoldable pub absorbed_words : State → List ℕ → State
absorbed_words s [] = s
absorbed_words s (w ∷ ws) = absorbed_words (p12 (add_word s w)) ws

-- a message as the words of its padded blocks of eight bytes
unfoldable pub words : List ℕ → List ℕ
words m = map word (padded 8 m)

-- k words of output: x0, with p[12] between them
unfoldable pub stream : ℕ → State → List ℕ
stream zero s = []
stream (suc k) s = bytes s.x0 ++ stream k (p12 s)

-- n bytes of output
unfoldable pub output : ℕ → State → List ℕ
output n s = take n (stream (n / 8 + 1) s)

-- the first state: a word of parameters and noughts, p[12]
unfoldable pub initial : ℕ → State
initial iv = p12 (record { x0 = iv; x1 = 0; x2 = 0; x3 = 0; x4 = 0 })

-- Ascon-Hash256 of a message
unfoldable pub hash256 : List ℕ → List ℕ
hash256 m = output 32 (absorbed_words (initial 0x0000080100cc0002) (words m))

-- the words that Ascon-CXOF128 absorbs: the bits of the customization string, the string, the message
unfoldable pub cxof_words : List ℕ → List ℕ → List ℕ
cxof_words z m = 8 * length z ∷ (words z ++ words m)

-- n bytes of Ascon-CXOF128 with customization string z of a message m
unfoldable pub cxof128 : List ℕ → List ℕ → ℕ → List ℕ
cxof128 z m n = output n (absorbed_words (initial 0x0000080000cc0004) (cxof_words z m))

-- the state of Ascon-CXOF128 once the customization string is absorbed
unfoldable pub customized : List ℕ → State
customized z = absorbed_words (initial 0x0000080000cc0004) (8 * length z ∷ words z)
