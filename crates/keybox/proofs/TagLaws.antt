-- The tag that a cipher is given in two parts.
use Rattle.std.proofs.Common.{◌≡◌, ℕ, ap, ◌∙◌}
use Rattle.keys.specs.Algebra.{role_number, role_of}
use Rattle.keys.specs.declared.role.Role.{Role}
use Rattle.keys.specs.declared.tag.Tag.{Tag}
use Rattle.keys.proofs.RoleLaws.{role_number_lem}
use Rattle.keybox.specs.Lent.{tag_for}

-- a tag, read from the role's number and staying
pub tag_read : (g : Tag) (n : ℕ) → n ≡ role_number g.role → tag_for n g.stays ≡ g
tag_read g n e = ap (λ (r : Role). record { role = r; stays = g.stays }) (ap role_of e ∙ role_number_lem g.role)
