-- The steps of decoding and encoding, and that decoding reads back what was encoded.
use Rattle.std.proofs.Common.{◌≡◌, ℕ, zero, suc, ◌+◌, ◌*◌, ◌/◌, ◌%◌, ◌<◌, ◌≤◌, List, [], ◌∷◌, ◌++◌, map, length, get_or, drop, Some, None, Option, sym, refl, ap, ◌∙◌, append_assoc, arith, rules}
use Rattle.std.proofs.lemmas.List.{at_drop_all, at_drop_more}
use Rattle.std.proofs.lemmas.Option.{none-some}
use Rattle.std.specs.Simd.{first_chunks}
use Rattle.lines.specs.Hex.{byte, digit, decoded, encoded, following, onto, sign, small, ReadsBack, WritesBack}

-- What pairs of digits stand for, each pair for a byte.
unfoldable pub decoded_pairs : List (List ℕ) → Option (List ℕ)
decoded_pairs [] = Some []
decoded_pairs (p ∷ ps) = onto (byte (digit (get_or p 0 0)) (digit (get_or p 1 0))) (decoded_pairs ps)

decoded_even : (k : ℕ) (ds : List ℕ) → length ds ≡ 2 * k → decoded ds ≡ decoded_pairs (first_chunks 2 k ds)
unfolding decoded decoded_pairs
decoded_even zero [] h = refl
decoded_even zero (a ∷ ds) h = let z : ⊥ = omega arith in absurd z
decoded_even (suc k) [] h = let z : ⊥ = omega arith in absurd z
decoded_even (suc k) (a ∷ []) h = let z : ⊥ = omega arith in absurd z
decoded_even (suc k) (a ∷ b ∷ ds) h = ap (onto (byte (digit a) (digit b))) (decoded_even k ds (omega arith))

-- An even number of digits is read by the pair.
pub decoded-pairs : (ds : List ℕ) (ps : List (List ℕ)) → length ds % 2 < 1 → ps ≡ first_chunks 2 (length ds / 2) ds → decoded ds ≡ decoded_pairs ps
decoded-pairs ds ps h e = decoded_even (length ds / 2) ds (omega arith) ∙ sym (ap decoded_pairs e)

onto_none : (o : Option ℕ) → onto o None ≡ None
onto_none None = refl
onto_none (Some b) = refl

-- An odd number of digits stands for nothing.
pub decoded_odd : (ds : List ℕ) → 0 < length ds % 2 → decoded ds ≡ None
unfolding decoded
decoded_odd [] h = let z : ⊥ = omega arith in absurd z
decoded_odd (a ∷ []) h = refl
decoded_odd (a ∷ b ∷ ds) h = ap (onto (byte (digit a) (digit b))) (decoded_odd ds (omega arith)) ∙ onto_none _

-- One pair, and those after it.
decoded_pairs-at : (ps : List (List ℕ)) (i : ℕ) (o : Option ℕ) → i < length ps → o ≡ byte (digit (get_or (get_or ps i []) 0 0)) (digit (get_or (get_or ps i []) 1 0)) → decoded_pairs (drop i ps) ≡ onto o (decoded_pairs (drop (i + 1) ps))
unfolding decoded_pairs
decoded_pairs-at ps i o h e = at_drop_more decoded_pairs ps i [] h ∙ ap (λ b. onto b (decoded_pairs (drop (i + 1) ps))) (sym e)

following_push : (bs : List ℕ) (b : ℕ) (o : Option (List ℕ)) → following bs (following (b ∷ []) o) ≡ following (bs ++ b ∷ []) o
following_push bs b None = refl
following_push bs b (Some cs) = ap Some (sym (append_assoc bs (b ∷ []) cs))

-- A byte read moves from the pairs to the bytes.
pub decoded-step : (bs : List ℕ) (ps : List (List ℕ)) (i b : ℕ) → i < length ps → Some b ≡ byte (digit (get_or (get_or ps i []) 0 0)) (digit (get_or (get_or ps i []) 1 0)) → following (bs ++ b ∷ []) (decoded_pairs (drop (i + 1) ps)) ≡ following bs (decoded_pairs (drop i ps))
decoded-step bs ps i b h e = sym (ap (following bs) (decoded_pairs-at ps i (Some b) h e) ∙ following_push bs b (decoded_pairs (drop (i + 1) ps)))

pub decoded_bad : (ps : List (List ℕ)) (i : ℕ) → i < length ps → None ≡ byte (digit (get_or (get_or ps i []) 0 0)) (digit (get_or (get_or ps i []) 1 0)) → decoded_pairs (drop i ps) ≡ None
decoded_bad ps i h e = decoded_pairs-at ps i None h e

pub decoded_end : (ps : List (List ℕ)) (i : ℕ) → length ps ≤ i → decoded_pairs (drop i ps) ≡ Some []
unfolding decoded_pairs
decoded_end ps i h = at_drop_all decoded_pairs ps i h

pub following_none : (bs : List ℕ) (o : Option (List ℕ)) → following bs o ≡ None → o ≡ None
following_none bs None e = refl
following_none bs (Some cs) e = absurd (none-some _ (sym e))

-- One byte's digits.
pub encoded-step : (bs : List ℕ) (i : ℕ) → i < length bs → encoded (drop i bs) ≡ sign (get_or bs i 0 / 16) ∷ sign (get_or bs i 0 % 16) ∷ encoded (drop (i + 1) bs)
unfolding encoded
encoded-step bs i h = at_drop_more encoded bs i 0 h

-- Two digits pushed move a byte from what is to come to the text.
pub encoded_push : (ts us vs bs : List ℕ) (i h l : ℕ) → i < length bs → us ≡ ts ++ h ∷ [] → vs ≡ us ++ l ∷ [] → h ≡ sign (get_or bs i 0 / 16) → l ≡ sign (get_or bs i 0 % 16) → vs ++ encoded (drop (i + 1) bs) ≡ ts ++ encoded (drop i bs)
encoded_push ts us vs bs i h l lt u v eh el =
    let rest : List ℕ = encoded (drop (i + 1) bs) in
    let e = encoded-step bs i lt in
    let all : h ∷ l ∷ rest ≡ encoded (drop i bs) = cc in
    ap (λ x. x ++ rest) (v ∙ ap (λ y. y ++ l ∷ []) u)
    ∙ append_assoc (ts ++ h ∷ []) (l ∷ []) rest
    ∙ append_assoc ts (h ∷ []) (l ∷ rest)
    ∙ ap (λ x. ts ++ x) all

pub encoded_none : (bs : List ℕ) (i : ℕ) → length bs ≤ i → encoded (drop i bs) ≡ []
unfolding encoded
encoded_none bs i h = at_drop_all encoded bs i h

digit-sign : (d : ℕ) → d < 16 → digit (sign d) ≡ Some d
digit-sign d h = search rules

-- What was encoded is read back.
pub reads_back : ReadsBack
unfolding encoded decoded
reads_back [] h = refl
reads_back (b ∷ bs) h =
    let e : b / 16 * 16 + b % 16 ≡ b = omega arith in
    let p = digit-sign (b / 16) (omega arith) in
    let q = digit-sign (b % 16) (omega arith) in
    let r = reads_back bs h.1 in
    rw (p, q, r, e) refl

digit_below : (b v : ℕ) → digit b ≡ Some v → v < 16
digit_below b v e = search rules

sign-digit : (b v : ℕ) → digit b ≡ Some v → sign v ≡ small b
sign-digit b v e = search rules

write_pair : (h l : ℕ) (ds bs : List ℕ) (oh ol : Option ℕ) (od : Option (List ℕ)) → digit h ≡ oh → digit l ≡ ol → ((cs : List ℕ) → od ≡ Some cs → encoded cs ≡ map small ds) → onto (byte oh ol) od ≡ Some bs → encoded bs ≡ small h ∷ small l ∷ map small ds
unfolding encoded
write_pair h l ds bs None ol od eh el ih e = absurd (none-some bs e)
write_pair h l ds bs (Some v) None od eh el ih e = absurd (none-some bs e)
write_pair h l ds bs (Some v) (Some w) None eh el ih e = absurd (none-some bs e)
write_pair h l ds bs (Some v) (Some w) (Some cs) eh el ih e =
    let bv = digit_below h v eh in
    let bw = digit_below l w el in
    let q : bs ≡ (v * 16 + w) ∷ cs = cc in
    let d : (v * 16 + w) / 16 ≡ v = omega arith in
    let m : (v * 16 + w) % 16 ≡ w = omega arith in
    let sh : sign ((v * 16 + w) / 16) ≡ small h = ap sign d ∙ sign-digit h v eh in
    let sl : sign ((v * 16 + w) % 16) ≡ small l = ap sign m ∙ sign-digit l w el in
    let r = ih cs refl in
    ap encoded q ∙ cc (sh, sl, r)

-- What was decoded is written again, but for capitals.
pub writes_back : WritesBack
unfolding decoded encoded
writes_back [] bs e = let q : bs ≡ [] = cc in ap encoded q
writes_back (h ∷ []) bs e = absurd (none-some bs e)
writes_back (h ∷ l ∷ ds) bs e = write_pair h l ds bs (digit h) (digit l) (decoded ds) refl refl (λ cs f. writes_back ds cs f) e

-- Two digits for each byte.
pub length-encoded : (bs : List ℕ) → length (encoded bs) ≡ 2 * length bs
unfolding encoded
length-encoded [] = refl
length-encoded (b ∷ bs) = let e = length-encoded bs in omega arith

pub encoded-append : (bs cs : List ℕ) → encoded (bs ++ cs) ≡ encoded bs ++ encoded cs
unfolding encoded
encoded-append [] cs = refl
encoded-append (b ∷ bs) cs = ap (λ ds. sign (b / 16) ∷ sign (b % 16) ∷ ds) (encoded-append bs cs)

-- Both theorems, for the check to find.
pub ruleset theorems = (reads_back, writes_back)
