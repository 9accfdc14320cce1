-- Tags compared as two words.
use Rattle.std.proofs.Common.{◌≡◌, ℕ, ◌^◌, ◌<◌, true, eqb, List, ◌++◌, length, take, drop, sym, refl, ap, ◌∙◌, arith}
use lib.Bits.{bit_or, bit_xor, xor_self}
use Rattle.std.proofs.lemmas.List.{length-drop, take-append-drop, length-take-le, ext_get_or}
use Rattle.std.specs.Str.{bytes_eq}
use Rattle.std.proofs.lemmas.Slice.Eq.{bytes_eq-Decides}
use Rattle.std.proofs.lemmas.Bool.Decides.{same_from_decides}
use Rattle.std.proofs.lemmas.Bool.{eqb-true, eq-eqb}
use Rattle.ascon.specs.Blocks.{Bytes, word, bytes}
use Rattle.ascon.proofs.BlockLaws.{length-bytes, word-take}
use Rattle.ascon.proofs.AeadLaws.{or_nought, xor_nought}
use Rattle.ascon.proofs.WordLaws.{word_of, byte_word, Bytes-take, Bytes-drop}

-- the bytes of the word of eight bytes
bytes_word : (b : List ℕ) → Bytes b → length b ≡ 8 → bytes (word b) ≡ b
bytes_word b h l =
    ext_get_or 0 (bytes (word b)) b (length-bytes (word b) ∙ sym l)
    (λ (i : ℕ) (p : i < length (bytes (word b))). byte_word b h i (rw (length-bytes (word b)) at p))

bytes-words : (g : List ℕ) → Bytes g → length g ≡ 16 → bytes (word g) ++ bytes (word (drop 8 g)) ≡ g
bytes-words g h l =
    let low : bytes (word g) ≡ take 8 g = ap bytes (sym (word-take g)) ∙ bytes_word (take 8 g) (Bytes-take 8 g h) (length-take-le 8 g (omega arith)) in
    let high : bytes (word (drop 8 g)) ≡ drop 8 g = bytes_word (drop 8 g) (Bytes-drop 8 g h) (simp length-drop (omega arith)) in
    rw (low, high) (take-append-drop 8 g)

word_low : (x : ℕ) (ys : List ℕ) → x < 2 ^ 64 → word (bytes x ++ ys) ≡ x
unfolding word bytes
word_low x ys h = word_of x h

word_high : (x y : ℕ) → y < 2 ^ 64 → word (drop 8 (bytes x ++ bytes y)) ≡ y
unfolding word bytes
word_high x y h = word_of y h

pub tag_same : (x y : ℕ) (g : List ℕ) → x < 2 ^ 64 → y < 2 ^ 64 → Bytes g → length g ≡ 16 → eqb (bit_or (bit_xor x (word g)) (bit_xor y (word (drop 8 g)))) 0 ≡ bytes_eq (bytes x ++ bytes y) g
tag_same x y g p q h l = same_from_decides {P = bytes x ++ bytes y ≡ g} (eqb (bit_or (bit_xor x (word g)) (bit_xor y (word (drop 8 g)))) 0) (bytes_eq (bytes x ++ bytes y) g) (equal, nought) (bytes_eq-Decides (bytes x ++ bytes y) g) where
  equal : eqb (bit_or (bit_xor x (word g)) (bit_xor y (word (drop 8 g)))) 0 ≡ true → bytes x ++ bytes y ≡ g
  equal t =
      let parts = or_nought (bit_xor x (word g)) (bit_xor y (word (drop 8 g))) (eqb-true (bit_or (bit_xor x (word g)) (bit_xor y (word (drop 8 g)))) 0 t) in
      let low = xor_nought x (word g) parts.0 in
      let high = xor_nought y (word (drop 8 g)) parts.1 in
      let all = bytes-words g h l in
      cc

  nought : bytes x ++ bytes y ≡ g → eqb (bit_or (bit_xor x (word g)) (bit_xor y (word (drop 8 g)))) 0 ≡ true
  nought e =
      let low : word g ≡ x = ap word (sym e) ∙ word_low x (bytes y) p in
      let high : word (drop 8 g) ≡ y = ap (λ (xs : List ℕ). word (drop 8 xs)) (sym e) ∙ word_high x y q in
      let one : bit_xor x x ≡ 0 = xor_self x in
      let two : bit_xor y y ≡ 0 = xor_self y in
      let none : bit_or 0 0 ≡ 0 = refl in
      eq-eqb (bit_or (bit_xor x (word g)) (bit_xor y (word (drop 8 g)))) 0 (cc)
