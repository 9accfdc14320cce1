-- What a cipher is given of a key's tag; and what it opened, read from its answer and the lent memory.
use Rattle.std.specs.Prelude.{ℕ, Bool, List, Some, None, Option, Ok, Err, Result}
use Rattle.keys.specs.Algebra.{role_of, Slot}
use Rattle.keys.specs.declared.refusal.NotOpened.{NotOpened}
use Rattle.keys.specs.declared.tag.Tag.{Tag}

-- the tag of a role's number and staying
abbrev pub tag_for : ℕ → Bool → Tag
tag_for r s = record { role = role_of r; stays = s }

-- the lent bytes, if the blob opened
abbrev pub opened : Result (Unit {0}) NotOpened → List ℕ → Option (List ℕ)
opened (Ok u) bs = Some bs
opened (Err e) bs = None

-- the lent bytes as a key with its tag, if the blob opened
abbrev pub unwrapped : Result Tag NotOpened → List ℕ → Option (Slot (List ℕ))
unwrapped (Ok t) bs = Some (record { key = bs; tag = t })
unwrapped (Err e) bs = None
