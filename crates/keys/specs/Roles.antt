-- Roles by their numbers.
use Rattle.std.specs.Prelude.{◌≡◌, ℕ, cond, ◌&&◌, Some, None, Option, Result, MatchResult, nat_le}
use Rattle.keys.specs.declared.role.Role.{Role}
use Rattle.keys.specs.declared.role.UnknownRole.{UnknownRole}
use Rattle.keys.specs.Algebra.{role_of}

-- the role of a number, if it is one
abbrev pub role_for : ℕ → Option Role
role_for n = cond (nat_le 1 n && nat_le n 4) (Some (role_of n)) None

-- the role that a number names, or that it names none
abbrev pub Names : ℕ → Result Role UnknownRole → Type 0
Names n r = MatchResult r (λ role. role_for n ≡ Some role) (λ unknown. (role_for n ≡ None) × (unknown.0 ≡ n))
