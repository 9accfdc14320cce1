-- Every word of a state stays below 2^64.
use Rattle.std.proofs.Common.{ℕ, zero, suc, ◌-◌, ◌*◌, ◌/◌, ◌%◌, ◌^◌, ◌<◌, List, [], ◌∷◌, length, take, drop, arith, lit<}
use lib.Bits.{bit_and, bit_xor, xor_lt, and_lt, or_lt}
use Rattle.std.proofs.lemmas.Nat.{shr_le, mod_below}
use Rattle.ascon.specs.declared.state.State.{State}
use Rattle.ascon.specs.Permutation.{rotated, complement, add_constant, mix_in, chi_word, chi, mix_out, spread, diffuse, round, rounds, constants, p12, p8}
use Rattle.ascon.specs.Blocks.{Bytes, word, pad, blocks, padded}
use Rattle.ascon.specs.Aead.{add, add_key_low, initialized, absorbed, with_data, begun}
use Rattle.ascon.proofs.WordLaws.{word_lt, Bytes-take, Bytes-drop, Bytes-pad}

pub record Fits (s : State) : Type 0 where
  pub x0 : s.x0 < 2 ^ 64
  pub x1 : s.x1 < 2 ^ 64
  pub x2 : s.x2 < 2 ^ 64
  pub x3 : s.x3 < 2 ^ 64
  pub x4 : s.x4 < 2 ^ 64

complement-lt : (x : ℕ) → complement x < 2 ^ 64
complement-lt x = omega arith

rotated-lt : (x k : ℕ) → x < 2 ^ 64 → rotated x k < 2 ^ 64
unfolding rotated
rotated-lt x k h = or_lt 64 (x / 2 ^ k) (x * 2 ^ (64 - k) % 2 ^ 64) (let e = shr_le x k in omega arith) (mod_below (x * 2 ^ (64 - k)) (2 ^ 64) (omega arith))

spread-lt : (x a b : ℕ) → x < 2 ^ 64 → spread x a b < 2 ^ 64
unfolding spread
spread-lt x a b h = xor_lt 64 (bit_xor x (rotated x a)) (rotated x b) (xor_lt 64 x (rotated x a) h (rotated-lt x a h)) (rotated-lt x b h)

chi_word-lt : (x y z : ℕ) → x < 2 ^ 64 → z < 2 ^ 64 → chi_word x y z < 2 ^ 64
chi_word-lt x y z h k = xor_lt 64 x (bit_and (complement y) z) h (and_lt 64 (complement y) z (complement-lt y) k)

add_constant_fits : (c : ℕ) (s : State) → c < 2 ^ 64 → Fits s → Fits (add_constant c s)
add_constant_fits c s k h = record { x0 = h.x0; x1 = h.x1; x2 = xor_lt 64 s.x2 c h.x2 k; x3 = h.x3; x4 = h.x4 }

mix_in_fits : (s : State) → Fits s → Fits (mix_in s)
mix_in_fits s h = record { x0 = xor_lt 64 s.x0 s.x4 h.x0 h.x4; x1 = h.x1; x2 = xor_lt 64 s.x2 s.x1 h.x2 h.x1; x3 = h.x3; x4 = xor_lt 64 s.x4 s.x3 h.x4 h.x3 }

chi_fits : (s : State) → Fits s → Fits (chi s)
chi_fits s h = record { x0 = chi_word-lt s.x0 s.x1 s.x2 h.x0 h.x2; x1 = chi_word-lt s.x1 s.x2 s.x3 h.x1 h.x3; x2 = chi_word-lt s.x2 s.x3 s.x4 h.x2 h.x4; x3 = chi_word-lt s.x3 s.x4 s.x0 h.x3 h.x0; x4 = chi_word-lt s.x4 s.x0 s.x1 h.x4 h.x1 }

mix_out_fits : (s : State) → Fits s → Fits (mix_out s)
mix_out_fits s h = record { x0 = xor_lt 64 s.x0 s.x4 h.x0 h.x4; x1 = xor_lt 64 s.x1 s.x0 h.x1 h.x0; x2 = complement-lt s.x2; x3 = xor_lt 64 s.x3 s.x2 h.x3 h.x2; x4 = h.x4 }

diffuse_fits : (s : State) → Fits s → Fits (diffuse s)
diffuse_fits s h = record { x0 = spread-lt s.x0 19 28 h.x0; x1 = spread-lt s.x1 61 39 h.x1; x2 = spread-lt s.x2 1 6 h.x2; x3 = spread-lt s.x3 10 17 h.x3; x4 = spread-lt s.x4 7 41 h.x4 }

round_fits : (c : ℕ) (s : State) → c < 2 ^ 64 → Fits s → Fits (round c s)
unfolding round
round_fits c s k h = diffuse_fits _ (mix_out_fits _ (chi_fits _ (mix_in_fits _ (add_constant_fits c s k h))))

abbrev Small : List ℕ → Type 0
Small [] = Unit {0}
Small (c ∷ cs) = (c < 2 ^ 64) × Small cs

rounds_fits : (cs : List ℕ) (s : State) → Small cs → Fits s → Fits (rounds cs s)
unfolding rounds
rounds_fits [] s k h = h
rounds_fits (c ∷ cs) s k h = rounds_fits cs (round c s) k.1 (round_fits c s k.0 h)

last_eight : Small (drop 4 constants)
last_eight = (lit< tt, (lit< tt, (lit< tt, (lit< tt, (lit< tt, (lit< tt, (lit< tt, (lit< tt, tt))))))))

pub p8_fits : (s : State) → Fits s → Fits (p8 s)
unfolding p8
p8_fits s h = rounds_fits (drop 4 constants) s last_eight h

pub p12_fits : (s : State) → Fits s → Fits (p12 s)
unfolding p12
p12_fits s h = rounds_fits constants s (lit< tt, (lit< tt, (lit< tt, (lit< tt, last_eight)))) h

pub add_fits : (s : State) (b : List ℕ) → Bytes b → Fits s → Fits (add s b)
unfolding add
add_fits s b k h = record { x0 = xor_lt 64 s.x0 (word b) h.x0 (word_lt b k); x1 = xor_lt 64 s.x1 (word (drop 8 b)) h.x1 (word_lt (drop 8 b) (Bytes-drop 8 b k)); x2 = h.x2; x3 = h.x3; x4 = h.x4 }

add_key_low_fits : (k : List ℕ) (s : State) → Bytes k → Fits s → Fits (add_key_low k s)
unfolding add_key_low
add_key_low_fits k s b h = record { x0 = h.x0; x1 = h.x1; x2 = h.x2; x3 = xor_lt 64 s.x3 (word k) h.x3 (word_lt k b); x4 = xor_lt 64 s.x4 (word (drop 8 k)) h.x4 (word_lt (drop 8 k) (Bytes-drop 8 k b)) }

initialized_fits : (k n : List ℕ) → Bytes k → Bytes n → Fits (initialized k n)
unfolding initialized
initialized_fits k n b c = add_key_low_fits k _ b (p12_fits _ (record { x0 = lit< tt; x1 = word_lt k b; x2 = word_lt (drop 8 k) (Bytes-drop 8 k b); x3 = word_lt n c; x4 = word_lt (drop 8 n) (Bytes-drop 8 n c) }))

absorbed_fits : (n : ℕ) (s : State) (m : List ℕ) → Bytes m → Fits s → Fits (absorbed s (blocks 16 n m))
unfolding absorbed blocks
absorbed_fits zero s m b h = p8_fits _ (add_fits s (pad 16 m) (Bytes-pad 16 m b) h)
absorbed_fits (suc n) s m b h = absorbed_fits n (p8 (add s (take 16 m))) (drop 16 m) (Bytes-drop 16 m b) (p8_fits _ (add_fits s (take 16 m) (Bytes-take 16 m b) h))

with_data_fits : (s : State) (a : List ℕ) → Bytes a → Fits s → Fits (with_data s a)
unfolding with_data padded
with_data_fits s [] b h = h
with_data_fits s (x ∷ a) b h = absorbed_fits (length (x ∷ a) / 16) s (x ∷ a) b h

pub begun_fits : (k n a : List ℕ) → Bytes k → Bytes n → Bytes a → Fits (begun k n a)
unfolding begun
begun_fits k n a b c d =
    let h : Fits (with_data (initialized k n) a) = with_data_fits (initialized k n) a d (initialized_fits k n b c) in
    record { x0 = h.x0; x1 = h.x1; x2 = h.x2; x3 = h.x3; x4 = xor_lt 64 (with_data (initialized k n) a).x4 0x8000000000000000 h.x4 (lit< tt) }
