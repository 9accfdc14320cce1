-- The steps of reading a decimal number.
use Rattle.std.proofs.Common.{◌≡◌, ℕ, ◌+◌, ◌*◌, ◌^◌, ◌<◌, ◌≤◌, false, eqb, List, length, get_or, drop, Some, None, Option, sym, ap, ◌∙◌, pow-suc, add-one, arith, rules, SomeIff}
use Rattle.std.proofs.lemmas.List.{at_drop_all, at_drop_more}
use Rattle.std.proofs.lemmas.Bool.{and_from, cond-true, eqb-false, le-leb}
use Rattle.std.specs.Char.{digit_value}
use Rattle.ascon_cli.specs.Fields.{by, decimal, decimal_digit, output_length, within}

decimal_digit_lem : (w : List ℕ) (i n : ℕ) (o : Option ℕ) → i < length w → o ≡ decimal_digit (get_or w i 0) → decimal n (drop i w) ≡ by o (λ v. decimal (n * 10 + v) (drop (i + 1) w))
unfolding decimal
decimal_digit_lem w i n o h e = at_drop_more (decimal n) w i 0 h ∙ ap (λ x. by x (λ v. decimal (n * 10 + v) (drop (i + 1) w))) (sym e)

pub decimal_more : (w : List ℕ) (i n v : ℕ) → i < length w → Some v ≡ decimal_digit (get_or w i 0) → decimal (n * 10 + v) (drop (i + 1) w) ≡ decimal n (drop i w)
decimal_more w i n v h e = sym (decimal_digit_lem w i n (Some v) h e)

decimal_bad : (w : List ℕ) (i n : ℕ) → i < length w → None ≡ decimal_digit (get_or w i 0) → decimal n (drop i w) ≡ None
decimal_bad w i n h e = decimal_digit_lem w i n None h e

decimal_all : (w : List ℕ) (i n : ℕ) → length w ≤ i → decimal n (drop i w) ≡ Some n
unfolding decimal
decimal_all w i n h = at_drop_all (decimal n) w i h

digit_is : (b : ℕ) (o : Option ℕ) → SomeIff o (digit_value b < 10) (digit_value b) → o ≡ decimal_digit b
digit_is b None h = search rules
digit_is b (Some v) h = search rules

-- The library's digit is the one that is meant.
pub to_decimal : (b x : ℕ) (o : Option ℕ) → x ≡ b → SomeIff o (digit_value x < 10) (digit_value x) → o ≡ decimal_digit b
to_decimal b x o e h = digit_is x o h ∙ ap decimal_digit e

pub decimal_below : (b v : ℕ) → Some v ≡ decimal_digit b → v < 10
decimal_below b v e = search rules

-- A number of few digits is small.
pub power_more : (i n v : ℕ) → n < 10 ^ i → v < 10 → n * 10 + v < 10 ^ (i + 1)
power_more i n v h k = rw (add-one, pow-suc) (omega arith)

length_is : (w : List ℕ) (o : Option ℕ) → false ≡ eqb (length w) 0 → length w ≤ 5 → decimal 0 w ≡ o → output_length w ≡ within o
length_is w o h k e =
    let n = eqb-false _ _ (sym h) in
    cond-true _ _ _ (and_from _ _ (le-leb 1 (length w) (omega arith)) (le-leb _ _ k)) ∙ ap within e

-- All digits have been read.
pub length_read : (w : List ℕ) (i n : ℕ) → false ≡ eqb (length w) 0 → length w ≤ 5 → length w ≤ i → decimal n (drop i w) ≡ decimal 0 w → output_length w ≡ within (Some n)
length_read w i n h k l e = length_is w (Some n) h k (sym e ∙ decimal_all w i n l)

-- A sign that is no digit has been met.
pub length_bad : (w : List ℕ) (i n : ℕ) → false ≡ eqb (length w) 0 → length w ≤ 5 → i < length w → None ≡ decimal_digit (get_or w i 0) → decimal n (drop i w) ≡ decimal 0 w → output_length w ≡ within None
length_bad w i n h k l b e = length_is w None h k (sym e ∙ decimal_bad w i n l b)
