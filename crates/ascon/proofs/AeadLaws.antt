-- One block of Ascon-AEAD128 at a time, for the loops over data and text.
use Rattle.std.proofs.Common.{◌≡◌, ℕ, suc, ◌+◌, ◌-◌, ◌/◌, ◌<◌, ◌≤◌, List, [], ◌∷◌, ◌++◌, length, fold, take, drop, replicate, sym, refl, ap, ◌∙◌, arith}
use native.Mathlib.Nat.{div-eq_of_lt}
use borrow.Rule.Slice.PartMut.{put_mid}
use lib.Bits.{bit_or, bit_xor, or_add_and, and_le_l, and_le_r, xor_assoc, xor_self, xor_zero_l, xor_zero_r}
use Rattle.std.proofs.lemmas.List.{take_rest, length-drop, drop_all, append-nil, nil_from_length}
use Rattle.std.specs.Array.{IsFirstChunk}
use Rattle.ascon.specs.declared.state.State.{State}
use Rattle.ascon.specs.Permutation.{p8}
use Rattle.ascon.specs.Blocks.{bytes, padded}
use Rattle.ascon.specs.Aead.{rate, add, replace, absorbed, with_data, encrypted, after_text, decrypted, after_ciphertext}
use Rattle.ascon.proofs.BlockLaws.{whole_more, length_written, behind_written, block_written, word_noughts}

pub length-rate : (s : State) → length (rate s) ≡ 16
unfolding rate bytes
length-rate s = refl

-- what a block of data does to the state
abbrev pub data_step : State → List ℕ → State
data_step s b = p8 (add s b)

pub absorbed-fold : (bs : List (List ℕ)) (s : State) → fold data_step s bs ≡ absorbed s bs
unfolding absorbed
absorbed-fold [] s = refl
absorbed-fold (b ∷ bs) s = absorbed-fold bs (data_step s b)

pub no_data : (s : State) (a : List ℕ) → length a ≡ 0 → with_data s a ≡ s
unfolding with_data
no_data s a h = rw (nil_from_length a h) refl

pub some_data : (s : State) (a : List ℕ) → (length a ≡ 0 → ⊥) → with_data s a ≡ absorbed s (padded 16 a)
unfolding with_data
some_data s [] h = absurd (h refl)
some_data s (x ∷ a) h = refl

module _ (s : State) (t : List ℕ) (h : 16 ≤ length t) where
  pub encrypted_more : encrypted (length t / 16) s t ≡ rate (add s (take 16 t)) ++ encrypted (length (drop 16 t) / 16) (p8 (add s (take 16 t))) (drop 16 t)
  unfolding encrypted
  encrypted_more = ap (λ n. encrypted n s t) (whole_more 16 t (omega arith) h)

  pub after_text_more : after_text (length t / 16) s t ≡ after_text (length (drop 16 t) / 16) (p8 (add s (take 16 t))) (drop 16 t)
  unfolding after_text
  after_text_more = ap (λ n. after_text n s t) (whole_more 16 t (omega arith) h)

  pub decrypted_more : decrypted (length t / 16) s t ≡ rate (add s (take 16 t)) ++ decrypted (length (drop 16 t) / 16) (p8 (replace s (take 16 t))) (drop 16 t)
  unfolding decrypted
  decrypted_more = ap (λ n. decrypted n s t) (whole_more 16 t (omega arith) h)

  pub after_ciphertext_more : after_ciphertext (length t / 16) s t ≡ after_ciphertext (length (drop 16 t) / 16) (p8 (replace s (take 16 t))) (drop 16 t)
  unfolding after_ciphertext
  after_ciphertext_more = ap (λ n. after_ciphertext n s t) (whole_more 16 t (omega arith) h)

-- nothing in either of two
pub or_nought : (a b : ℕ) → bit_or a b ≡ 0 → (a ≡ 0) × (b ≡ 0)
or_nought a b h =
    let sum = or_add_and a b in
    let l = and_le_l a b in
    let r = and_le_r a b in
    (omega arith, omega arith)

pub xor_nought : (a b : ℕ) → bit_xor a b ≡ 0 → a ≡ b
xor_nought a b h =
    let one : bit_xor (bit_xor a b) b ≡ bit_xor a (bit_xor b b) = xor_assoc a b b in
    let two : bit_xor b b ≡ 0 = xor_self b in
    let three : bit_xor a 0 ≡ a = xor_zero_r a in
    let four : bit_xor 0 b ≡ b = xor_zero_l b in
    cc

-- a last block of ciphertext, filled up with noughts
pub add_noughts : (s : State) (c : List ℕ) (k : ℕ) → add s (c ++ 0 ∷ replicate k 0) ≡ add s c
unfolding add
add_noughts s c k = let low = word_noughts c (suc k) 0 in let high = word_noughts c (suc k) 8 in cc

-- A loop over the blocks of a text in place, where `text` is what becomes of it and `state` the state
-- behind it: what is done and what is left give the whole.
pub record Left (text : ℕ → State → List ℕ → List ℕ) (state : ℕ → State → List ℕ → State) (s₀ : State) (t₀ : List ℕ) (s : State) (cur : List ℕ) (at : ℕ) : Type 0 where
  pub within : at ≤ length cur
  pub whole : length cur ≡ length t₀
  pub bytes : take at cur ++ text (length (drop at cur) / 16) s (drop at cur) ≡ text (length t₀ / 16) s₀ t₀
  pub after : state (length (drop at cur) / 16) s (drop at cur) ≡ state (length t₀ / 16) s₀ t₀

module _ (text : ℕ → State → List ℕ → List ℕ) (state : ℕ → State → List ℕ → State) (s₀ : State) (t₀ : List ℕ) (s : State) (cur : List ℕ) (at : ℕ) (left : Left text state s₀ t₀ s cur at) where
  pub left_more : (s' : State) (out : List ℕ) (k : ℕ) → k ≡ 16 → at + 16 ≤ length cur → length out ≡ 16 → text (length (drop at cur) / 16) s (drop at cur) ≡ out ++ text (length (drop 16 (drop at cur)) / 16) s' (drop 16 (drop at cur)) → state (length (drop at cur) / 16) s (drop at cur) ≡ state (length (drop 16 (drop at cur)) / 16) s' (drop 16 (drop at cur)) → Left text state s₀ t₀ s' (put_mid at k cur out) (at + 16)
  left_more s' out k size fits whole step step' =
      let longer = length_written cur out at k size fits whole in
      let behind = behind_written cur out at k size fits whole in
      record {
        within = rw longer fits;
        whole = longer ∙ left.whole;
        bytes = block_written cur out at k size fits whole (λ rest. text (length rest / 16) s' rest) ∙ (ap (λ (x : List ℕ). take at cur ++ x) (sym step) ∙ left.bytes);
        after = ap (λ (x : List ℕ). state (length x / 16) s' x) behind ∙ (sym step' ∙ left.after);
      }

  -- the last block, which is not whole
  pub left_last : (r : State) (out : List ℕ) → length (take (length cur - at) (drop at cur)) < 16 → out ≡ text 0 s (take (length cur - at) (drop at cur)) → r ≡ state 0 s (take (length cur - at) (drop at cur)) → (put_mid at (length cur - at) cur out ≡ text (length t₀ / 16) s₀ t₀) × (r ≡ state (length t₀ / 16) s₀ t₀)
  left_last r out short o e =
      let w : at ≤ length cur = left.within in
      let rest : take (length cur - at) (drop at cur) ≡ drop at cur = take_rest cur at in
      let none : length (drop at cur) / 16 ≡ 0 = div-eq_of_lt (rw rest at short) in
      let end : drop (length cur - at) (drop at cur) ≡ [] = drop_all (length cur - at) (drop at cur) (simp length-drop (omega arith)) in
      let nil : out ++ [] ≡ out = append-nil out in
      let all = left.bytes in
      let all' = left.after in
      (cc, cc)

-- the block that stands at a place of a text
module _ (cur block : List ℕ) (at : ℕ) (within : at ≤ length cur) (here : IsFirstChunk (take (length cur - at) (drop at cur)) block 16) where
  pub block_there : block ≡ take 16 (drop at cur)
  block_there = here.same ∙ ap (take 16) (take_rest cur at)

  pub block_fits : at + 16 ≤ length cur
  block_fits = let enough = here.enough in omega (arith, ap length (take_rest cur at), length-drop at cur)

-- one block of the loop that encrypts
pub encrypt_step : (s₀ : State) (t₀ : List ℕ) (s : State) (cur : List ℕ) (at : ℕ) (block : List ℕ) (a s' : State) (out : List ℕ) (k : ℕ) → Left encrypted after_text s₀ t₀ s cur at → IsFirstChunk (take (length cur - at) (drop at cur)) block 16 → k ≡ 16 → a ≡ add s block → out ≡ rate a → s' ≡ p8 a → Left encrypted after_text s₀ t₀ s' (put_mid at k cur out) (at + 16)
encrypt_step s₀ t₀ s cur at block a s' out k left here size e o p =
    let there = block_there cur block at left.within here in
    let fits = block_fits cur block at left.within here in
    let more : 16 ≤ length (drop at cur) = simp length-drop (omega arith) in
    let whole : length out ≡ 16 = ap length o ∙ length-rate a in
    let step = encrypted_more s (drop at cur) more in
    let step' = after_text_more s (drop at cur) more in
    left_more encrypted after_text s₀ t₀ s cur at left s' out k size fits whole (cc) (cc)

-- one block of the loop that decrypts
pub decrypt_step : (s₀ : State) (t₀ : List ℕ) (s : State) (cur : List ℕ) (at : ℕ) (block : List ℕ) (a r s' : State) (out : List ℕ) (k : ℕ) → Left decrypted after_ciphertext s₀ t₀ s cur at → IsFirstChunk (take (length cur - at) (drop at cur)) block 16 → k ≡ 16 → r ≡ replace s block → a ≡ add s block → out ≡ rate a → s' ≡ p8 r → Left decrypted after_ciphertext s₀ t₀ s' (put_mid at k cur out) (at + 16)
decrypt_step s₀ t₀ s cur at block a r s' out k left here size e f o p =
    let there = block_there cur block at left.within here in
    let fits = block_fits cur block at left.within here in
    let more : 16 ≤ length (drop at cur) = simp length-drop (omega arith) in
    let whole : length out ≡ 16 = ap length o ∙ length-rate a in
    let step = decrypted_more s (drop at cur) more in
    let step' = after_ciphertext_more s (drop at cur) more in
    left_more decrypted after_ciphertext s₀ t₀ s cur at left s' out k size fits whole (cc) (cc)
