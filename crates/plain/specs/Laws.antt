-- The theorems about the plain cipher's algebra.
use Rattle.std.specs.Prelude.{◌≡◌, ℕ, ◌≤◌, List, length, Some}
use Rattle.keys.specs.declared.tag.Tag.{Tag}
use Rattle.keys.specs.Algebra.{Stamp}
use Rattle.plain.specs.Plain.{plain}

-- a sealed text is unsealed by its key
abbrev pub Unseals : Type 0
Unseals = (k : List ℕ) (s : Stamp) (v : List ℕ) → length k ≡ 16 → length v ≤ 1024 → plain.unseal k (plain.seal k s v) ≡ Some v

-- a wrapped key is unwrapped by its wrapper, with its tag
abbrev pub Unwraps : Type 0
Unwraps =
    (u : List ℕ) (s : Stamp) (t : Tag) (k : List ℕ)
    → length u ≡ 16 → length k ≡ 16 → plain.unwrap u (plain.wrap u s t k) ≡ Some (record { key = k; tag = t })

-- both of them
pub record Laws : Type 0 where
  pub unseals : Unseals
  pub unwraps : Unwraps
