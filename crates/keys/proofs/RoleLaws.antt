-- Roles and their numbers.
use Rattle.std.proofs.Common.{◌≡◌, refl}
use Rattle.keys.specs.Algebra.{role_number, role_of}
use Rattle.keys.specs.declared.role.Role.{Role}
use Rattle.keys.specs.declared.role.Role.TheVariants.{Wrapper, Sealer, Marker, Base}

-- a role's number names it
pub role_number_lem : (r : Role) → role_of (role_number r) ≡ r
role_number_lem Wrapper = refl
role_number_lem Sealer = refl
role_number_lem Marker = refl
role_number_lem Base = refl
