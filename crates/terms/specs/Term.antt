-- Terms: values on which ciphers do just what they should.
use Rattle.std.specs.Prelude.{ℕ, Bool, cond, List, Some, None, Option}
use Rattle.std.proofs.Math.Decide.{ℕ_discrete}
use Rattle.keys.specs.declared.role.Role.{Role}
use Rattle.keys.specs.declared.tag.Tag.{Tag}
use Rattle.keys.specs.Algebra.{Stamp, Slot, Algebra}
use Rattle.terms.specs.Equality.{bytes_discrete, stamp_discrete, tag_discrete, role_discrete, is_yes}

-- the house key; the n-th key of a box; what anyone can write; and what the ciphers make of terms
pub data Term : Type 0 where
  House : Term
  Drawn : (number n : ℕ) → Term
  Text : List ℕ → Term
  Wrapped : (under : Term) → Stamp → Tag → (key : Term) → Term
  Sealed : (key : Term) → Stamp → (content : Term) → Term
  Marked : (key content : Term) → Term
  Derived : (base : Term) → (label : ℕ) → Role → Term
  deriving Discrete as term-discrete

-- whether two terms are one
abbrev pub same : Term → Term → Bool
same t u = is_yes (term-discrete ℕ_discrete bytes_discrete stamp_discrete tag_discrete role_discrete t u)

-- a wrapped key opens under the term that it was wrapped under, and nothing else does
abbrev pub unwrapped : Term → Term → Option (Slot Term)
unwrapped w House = None
unwrapped w (Drawn b n) = None
unwrapped w (Text bs) = None
unwrapped w (Wrapped u s g k) = cond (same w u) (Some (record { key = k; tag = g })) None
unwrapped w (Sealed k s t) = None
unwrapped w (Marked k t) = None
unwrapped w (Derived k l r) = None

-- a sealed term opens under the term that it was sealed under, and nothing else does
abbrev pub unsealed : Term → Term → Option Term
unsealed w House = None
unsealed w (Drawn b n) = None
unsealed w (Text bs) = None
unsealed w (Wrapped u s g k) = None
unsealed w (Sealed k s t) = cond (same w k) (Some t) None
unsealed w (Marked k t) = None
unsealed w (Derived k l r) = None

-- the ciphers on terms
abbrev pub terms : Algebra Term
terms = record { house = House; draw = Drawn; wrap = Wrapped; unwrap = unwrapped; seal = Sealed; unseal = unsealed; mark = Marked; derive = Derived }
