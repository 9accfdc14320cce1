-- Equality of what terms are made of, decided.
use Rattle.std.specs.Prelude.{ℕ, Bool, true, false, List, [], ◌∷◌, refl}
use Rattle.std.proofs.Math.Decide.{ℕ_discrete}
use Rattle.std.proofs.Math.Bool.{Bool-discrete}
use mathlib.Core.List.{cons≢nil, head-eq_of_cons-eq, tail-eq_of_cons-eq}
use Rattle.std.proofs.Common.{sym, ap, ◌∙◌}
use Rattle.keys.specs.declared.role.Role.{Role}
use Rattle.keys.specs.declared.tag.Tag.{Tag}
use Rattle.keys.specs.Algebra.{Stamp, role_number, role_of}
use Rattle.keys.proofs.RoleLaws.{role_number_lem}

-- a decision as a truth value
abbrev pub is_yes : {A : Type 0} → Dec A → Bool
is_yes (yes a) = true
is_yes (no n) = false

-- a decision of one thing as a decision of another
abbrev pub dec_map : {A B : Type 0} → (A → B) → (B → A) → Dec A → Dec B
dec_map f g (yes a) = yes (f a)
dec_map f g (no n) = no (λ b. n (g b))

-- two decisions as one
abbrev pub both_dec : {A B C : Type 0} → Dec A → Dec B → (A → B → C) → (C → A) → (C → B) → Dec C
both_dec (yes a) (yes b) f g h = yes (f a b)
both_dec (yes a) (no n) f g h = no (λ c. n (h c))
both_dec (no n) d f g h = no (λ c. n (g c))

-- of texts
unfoldable pub bytes_discrete : Discrete (List ℕ)
bytes_discrete [] [] = yes refl
bytes_discrete [] (y ∷ ys) = no (λ e. cons≢nil (sym e))
bytes_discrete (x ∷ xs) [] = no (λ e. cons≢nil e)
bytes_discrete (x ∷ xs) (y ∷ ys) = both_dec (ℕ_discrete x y) (bytes_discrete xs ys) (λ p q i. p i ∷ q i) head-eq_of_cons-eq tail-eq_of_cons-eq

-- of stamps
abbrev pub stamp_discrete : Discrete Stamp
stamp_discrete s t =
    both_dec (ℕ_discrete s.number t.number) (ℕ_discrete s.count t.count) (λ p q i. record { number = p i; count = q i }) (ap (λ (x : Stamp). x.number))
    (ap (λ (x : Stamp). x.count))

-- of roles, which have numbers
abbrev pub role_discrete : Discrete Role
role_discrete r q = dec_map (λ e. sym (role_number_lem r) ∙ ap role_of e ∙ role_number_lem q) (ap role_number) (ℕ_discrete (role_number r) (role_number q))

-- of tags
abbrev pub tag_discrete : Discrete Tag
tag_discrete s t = both_dec (role_discrete s.role t.role) (Bool-discrete s.stays t.stays) (λ p q i. record { role = p i; stays = q i }) (ap (λ (x : Tag). x.role)) (ap (λ (x : Tag). x.stays))
