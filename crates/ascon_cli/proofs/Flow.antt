-- Lines in an input that comes in pieces.
use Rattle.std.proofs.Common.{◌≡◌, ℕ, zero, suc, ◌+◌, ◌<◌, ◌≤◌, Bool, true, false, cond, eqb, List, [], ◌∷◌, ◌++◌, length, get_or, take, sym, refl, ap, ◌∙◌, append_assoc, append-nil, arith}
use Rattle.std.proofs.lemmas.List.{take_more}
use Rattle.std.proofs.lemmas.Bool.{cond-false, cond-true, eq-eqb, ne_eqb}
use Rattle.ascon_cli.specs.Format.{reply}
use Rattle.ascon_cli.specs.Stream.{answers, ended as ended-lines, last_reply, pending, replies, CutsDoNotMatter, Line, LineByLine, Lines}

-- What comes first is answered first, and leaves its last line to what comes then.
pub cuts : CutsDoNotMatter
unfolding replies pending
cuts p [] b = (refl, refl)
cuts p (x ∷ a) b = go (eqb x 10) (cuts [] a b) (cuts (p ++ x ∷ []) a b)
  where
    go : (t : Bool)
        → (replies [] (a ++ b) ≡ replies [] a ++ replies (pending [] a) b) × (pending [] (a ++ b) ≡ pending (pending [] a) b)
        → (replies (p ++ x ∷ []) (a ++ b) ≡ replies (p ++ x ∷ []) a ++ replies (pending (p ++ x ∷ []) a) b) × (pending (p ++ x ∷ []) (a ++ b) ≡ pending (pending (p ++ x ∷ []) a) b)
        → (cond t (reply p ++ 10 ∷ replies [] (a ++ b)) (replies (p ++ x ∷ []) (a ++ b)) ≡ cond t (reply p ++ 10 ∷ replies [] a) (replies (p ++ x ∷ []) a) ++ replies (cond t (pending [] a) (pending (p ++ x ∷ []) a)) b)
        × (cond t (pending [] (a ++ b)) (pending (p ++ x ∷ []) (a ++ b)) ≡ pending (cond t (pending [] a) (pending (p ++ x ∷ []) a)) b)
    go true h i = (ap (λ z. reply p ++ 10 ∷ z) h.0 ∙ sym (append_assoc (reply p) (10 ∷ replies [] a) (replies (pending [] a) b)), h.1)
    go false h i = i

pub replies-append : (p a b : List ℕ) → replies p (a ++ b) ≡ replies p a ++ replies (pending p a) b
replies-append p a b = (cuts p a b).0

pub pending-append : (p a b : List ℕ) → pending p (a ++ b) ≡ pending (pending p a) b
pending-append p a b = (cuts p a b).1

-- Without a newline nothing is answered, and the line grows.
pub quiet : (p s : List ℕ) (e : ℕ) → e ≤ length s → ((k : ℕ) → k < e → get_or s k 0 ≡ 10 → ⊥) → (replies p (take e s) ≡ []) × (pending p (take e s) ≡ p ++ take e s)
unfolding replies pending
quiet p s zero h b = (refl, sym (append-nil p))
quiet p [] (suc e) h b = let z : ⊥ = omega arith in absurd z
quiet p (x ∷ s) (suc e) h b =
    let n = ne_eqb x 10 (b 0 (omega arith)) in
    let q = quiet (p ++ x ∷ []) s e (omega arith) (λ k l. b (suc k) (omega arith)) in (
      cond-false _ _ _ n ∙ q.0,
      cond-false _ _ _ n ∙ q.1 ∙ append_assoc p (x ∷ []) (take e s),
    )

newline : (p : List ℕ) (x : ℕ) → x ≡ 10 → (replies p (x ∷ []) ≡ reply p ++ 10 ∷ []) × (pending p (x ∷ []) ≡ [])
unfolding replies pending
newline p x e = (cond-true _ _ _ (eq-eqb x 10 e), cond-true _ _ _ (eq-eqb x 10 e))

-- The first newline ends the line, which is answered.
pub ended : (p s : List ℕ) (e : ℕ) → e < length s → ((k : ℕ) → k < e → get_or s k 0 ≡ 10 → ⊥) → get_or s e 0 ≡ 10 → (replies p (take (e + 1) s) ≡ reply (p ++ take e s) ++ 10 ∷ []) × (pending p (take (e + 1) s) ≡ [])
ended p s e h b f =
    let l : e ≤ length s = omega arith in
    let m = take_more s e 0 h in
    let q = quiet p s e l b in
    let c = cuts p (take e s) (get_or s e 0 ∷ []) in
    let n = newline (p ++ take e s) (get_or s e 0) f in
    let r : replies p (take (e + 1) s) ≡ replies (p ++ take e s) (get_or s e 0 ∷ []) =
    ap (replies p) m ∙ c.0 ∙ ap (λ z. z ++ replies (pending p (take e s)) (get_or s e 0 ∷ [])) q.0 ∙ ap (λ z. replies z (get_or s e 0 ∷ [])) q.1 in
    let t : pending p (take (e + 1) s) ≡ pending (p ++ take e s) (get_or s e 0 ∷ []) =
    ap (pending p) m ∙ c.1 ∙ ap (λ z. pending z (get_or s e 0 ∷ [])) q.1 in
    (r ∙ n.0, t ∙ n.1)

still : (p l : List ℕ) → Line l → (replies p l ≡ []) × (pending p l ≡ p ++ l)
unfolding replies pending
still p [] h = (refl, sym (append-nil p))
still p (x ∷ l) h =
    let n = ne_eqb x 10 h.0 in
    let q = still (p ++ x ∷ []) l h.1 in (
      cond-false _ _ _ n ∙ q.0,
      cond-false _ _ _ n ∙ q.1 ∙ append_assoc p (x ∷ []) l,
    )

line_first : (l r : List ℕ) → Line l → (replies [] (l ++ 10 ∷ r) ≡ reply l ++ 10 ∷ replies [] r) × (pending [] (l ++ 10 ∷ r) ≡ pending [] r)
unfolding replies pending
line_first l r h =
    let c = cuts [] l (10 ∷ r) in
    let q = still [] l h in (
      c.0 ∙ ap (λ z. z ++ replies (pending [] l) (10 ∷ r)) q.0 ∙ ap (λ z. replies z (10 ∷ r)) q.1,
      c.1 ∙ ap (λ z. pending z (10 ∷ r)) q.1,
    )

lines_first : (ls : List (List ℕ)) (t : List ℕ) → Lines ls → Line t → (replies [] (ended-lines ls ++ t) ≡ answers ls) × (pending [] (ended-lines ls ++ t) ≡ t)
lines_first [] t h k = still [] t k
lines_first (l ∷ ls) t h k =
    let a : (l ++ 10 ∷ ended-lines ls) ++ t ≡ l ++ 10 ∷ (ended-lines ls ++ t) = append_assoc l (10 ∷ ended-lines ls) t in
    let f = line_first l (ended-lines ls ++ t) h.0 in
    let i = lines_first ls t h.1 k in (
      ap (replies []) a ∙ f.0 ∙ ap (λ z. reply l ++ 10 ∷ z) i.0,
      ap (pending []) a ∙ f.1 ∙ i.1,
    )

-- Each line is answered by one line.
pub line_by_line : LineByLine
line_by_line ls t h k =
    let f = lines_first ls t h k in
    ap (λ z. z ++ last_reply (pending [] (ended-lines ls ++ t))) f.0 ∙ ap (λ z. answers ls ++ last_reply z) f.1

-- Both theorems, for the check to find.
pub ruleset theorems = (replies-append, pending-append, line_by_line)
