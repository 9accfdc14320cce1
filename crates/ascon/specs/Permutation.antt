-- The permutations p[12] and p[8] of NIST SP 800-232, on five 64-bit words.
use Rattle.std.specs.Prelude.{ℕ, ◌-◌, ◌*◌, ◌/◌, ◌%◌, ◌^◌, List, [], ◌∷◌, drop, bit_and, bit_or, bit_xor}
use Rattle.ascon.specs.declared.state.State.{State}

-- a 64-bit word rotated right by k places, 0 < k < 64
unfoldable pub rotated : ℕ → ℕ → ℕ
rotated x k = bit_or (x / 2 ^ k) (x * 2 ^ (64 - k) % 2 ^ 64)

-- a 64-bit word with every bit turned
abbrev pub complement : ℕ → ℕ
complement x = 2 ^ 64 - 1 - x

-- the constant layer: the round's constant goes into x2
abbrev pub add_constant : ℕ → State → State
add_constant c s = record { x0 = s.x0; x1 = s.x1; x2 = bit_xor s.x2 c; x3 = s.x3; x4 = s.x4 }

-- the substitution layer, first part
abbrev pub mix_in : State → State
mix_in s = record { x0 = bit_xor s.x0 s.x4; x1 = s.x1; x2 = bit_xor s.x2 s.x1; x3 = s.x3; x4 = bit_xor s.x4 s.x3 }

-- one word of the nonlinear part: x with (not y) and z
abbrev pub chi_word : ℕ → ℕ → ℕ → ℕ
chi_word x y z = bit_xor x (bit_and (complement y) z)

-- the substitution layer, nonlinear part: all five words at once
abbrev pub chi : State → State
chi s = record { x0 = chi_word s.x0 s.x1 s.x2; x1 = chi_word s.x1 s.x2 s.x3; x2 = chi_word s.x2 s.x3 s.x4; x3 = chi_word s.x3 s.x4 s.x0; x4 = chi_word s.x4 s.x0 s.x1 }

-- the substitution layer, last part
abbrev pub mix_out : State → State
mix_out s = record { x0 = bit_xor s.x0 s.x4; x1 = bit_xor s.x1 s.x0; x2 = complement s.x2; x3 = bit_xor s.x3 s.x2; x4 = s.x4 }

-- one word of the linear layer: x with itself rotated by a and by b
unfoldable pub spread : ℕ → ℕ → ℕ → ℕ
spread x a b = bit_xor (bit_xor x (rotated x a)) (rotated x b)

-- the linear layer
abbrev pub diffuse : State → State
diffuse s = record { x0 = spread s.x0 19 28; x1 = spread s.x1 61 39; x2 = spread s.x2 1 6; x3 = spread s.x3 10 17; x4 = spread s.x4 7 41 }

-- one round with constant c
unfoldable pub round : ℕ → State → State
round c s = diffuse (mix_out (chi (mix_in (add_constant c s))))

-- the rounds with the constants of a list, the first one first
unfoldable pub rounds : List ℕ → State → State
rounds [] s = s
rounds (c ∷ cs) s = rounds cs (round c s)

-- the constants of the twelve rounds
abbrev pub constants : List ℕ
constants = 0xf0 ∷ 0xe1 ∷ 0xd2 ∷ 0xc3 ∷ 0xb4 ∷ 0xa5 ∷ 0x96 ∷ 0x87 ∷ 0x78 ∷ 0x69 ∷ 0x5a ∷ 0x4b ∷ []

-- p[12]: all twelve rounds
unfoldable pub p12 : State → State
p12 s = rounds constants s

-- p[8]: the last eight rounds
unfoldable pub p8 : State → State
p8 s = rounds (drop 4 constants) s
