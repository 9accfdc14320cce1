-- Blobs, read from their parts.
use Rattle.std.proofs.Common.{◌≡◌, ℕ, ◌+◌, ◌-◌, ◌<◌, ◌≤◌, true, cond, ◌&&◌, leb, List, length, take, drop, get_or, Some, None, sym, ap, ◌∙◌, arith}
use Rattle.std.specs.Bool.{Decides}
use Rattle.std.specs.Str.{bytes_eq}
use Rattle.std.proofs.lemmas.List.{drop-drop, get_or-drop, get_or-take, length-drop, length-take}
use Rattle.std.proofs.lemmas.Bool.Decides.{nat_tests}
use Rattle.std.proofs.lemmas.Slice.Eq.{bytes_eq-Decides}
use Rattle.plain.specs.Plain.{ends_in, read_tag, slot_of, unsealed, unwrapped}

-- whether a blob ends in key k, read from what stands behind its first m bytes
ends_in_rest : (k b : List ℕ) (m n : ℕ) → length b ≡ m + n + 16 → ends_in k b ≡ bytes_eq k (drop n (drop m b))
ends_in_rest k b m n e =
    let at : length b - 16 ≡ m + n = omega arith in
    ap (λ i. bytes_eq k (drop i b)) at ∙ ap (bytes_eq k) (sym (drop-drop n m b))

-- the text of a sealed blob, from what stands behind its stamp
pub read_sealed : (k b : List ℕ) → 28 ≤ length b → unsealed k b ≡
    (let rest : List ℕ = drop 12 b in
    let text : List ℕ = take (length rest - 16) rest in
    cond (bytes_eq k (drop (length rest - 16) rest) && leb (length text) 1024) (Some text) None)
read_sealed k b h =
    let rest : List ℕ = drop 12 b in
    let n : length rest ≡ length b - 12 = length-drop 12 b in
    let ends : ends_in k b ≡ bytes_eq k (drop (length rest - 16) rest) = ends_in_rest k b 12 (length rest - 16) (omega arith) in
    let size : length rest - 16 ≡ length b - 28 = omega arith in
    let text : length (take (length rest - 16) rest) ≡ length rest - 16 = simp length-take (omega arith) in
    let same : take (length rest - 16) rest ≡ take (length b - 28) rest = ap (λ m. take m rest) size in
    grind (arith, nat_tests)

-- the key of a wrapped blob with its tag, from what stands behind its stamp
pub read_wrapped : (u b : List ℕ) → length u ≡ 16 → 30 ≤ length b → unwrapped u b ≡
    (let rest : List ℕ = drop 12 b in
    let tag : List ℕ = take 2 rest in
    let more : List ℕ = drop 2 rest in
    cond (bytes_eq u (drop 16 more)) (slot_of (take 16 more) (read_tag (get_or tag 0 0) (get_or tag 1 0))) None)
read_wrapped u b l h =
    let rest : List ℕ = drop 12 b in
    let more : List ℕ = drop 2 rest in
    let end : List ℕ = drop 16 more in
    let behind : more ≡ drop 14 b = drop-drop 2 12 b in
    let at : (i : ℕ) → i < 2 → get_or (take 2 rest) i 0 ≡ get_or b (12 + i) 0 =
    λ i h. get_or-take 2 rest i 0 h ∙ get_or-drop 12 b i 0 in
    let role : get_or (take 2 rest) 0 0 ≡ get_or b 12 0 = at 0 (omega arith) in
    let stays : get_or (take 2 rest) 1 0 ≡ get_or b 13 0 = at 1 (omega arith) in
    let long : length b ≡ length end + 30 = simp length-drop (omega arith) in
    let is : Decides (bytes_eq u end) (u ≡ end) = bytes_eq-Decides u end in
    let size : bytes_eq u end ≡ true → length b ≡ 46 = λ h. omega (arith, long, ap length (is.0 h)) in
    let ends : length b ≡ 46 → ends_in u b ≡ bytes_eq u end =
    λ h. ends_in_rest u b 14 16 h ∙ ap (λ (bs : List ℕ). bytes_eq u (drop 16 bs)) (sym behind) in
    grind (arith, nat_tests)
