-- What the machine asks of its ciphers. Bytes are one algebra, terms are another.
use Rattle.std.specs.Prelude.{ℕ, Bool, cond, Option, ◌==◌}
use Rattle.keys.specs.declared.role.Role.{Role}
use Rattle.keys.specs.declared.role.Role.TheVariants.{Wrapper, Sealer, Marker, Base}
use Rattle.keys.specs.declared.tag.Tag.{Tag}

-- the number by which commands and blobs name a role
abbrev pub role_number : Role → ℕ
role_number Wrapper = 1
role_number Sealer = 2
role_number Marker = 3
role_number Base = 4

-- the role of a number; other numbers than 1 to 4 are refused before
abbrev pub role_of : ℕ → Role
role_of n = cond (n == 1) Wrapper (cond (n == 2) Sealer (cond (n == 3) Marker Base))

-- whether two roles are one
abbrev pub same_role : Role → Role → Bool
same_role r q = role_number r == role_number q

-- the number of the box that made a blob, and how many blobs it had made before
pub record Stamp : Type 0 where
  pub number : ℕ
  pub count : ℕ

-- a key, its role and whether it stays
pub record Slot (V : Type 0) : Type 0 where
  pub key : V
  pub tag : Tag

-- draw b n is the n-th key that box b draws; unwrap and unseal take the key, then the blob
pub record Algebra (V : Type 0) : Type 0 where
  pub house : V
  pub draw : ℕ → ℕ → V
  pub wrap : V → Stamp → Tag → V → V
  pub unwrap : V → V → Option (Slot V)
  pub seal : V → Stamp → V → V
  pub unseal : V → V → Option V
  pub mark : V → V → V
  pub derive : V → ℕ → Role → V
