-- The box's uses of Ascon-CXOF128 with a key.
use Rattle.std.specs.Prelude.{ℕ, List, ◌++◌, codes}
use Rattle.ascon.specs.declared.purpose.Purpose.{Purpose}
use Rattle.ascon.specs.declared.purpose.Purpose.TheVariants.{Mark, Key}
use Rattle.ascon.specs.Hash.{cxof128}

-- the customization string of each
abbrev pub string_of : Purpose → List ℕ
string_of Mark = codes "box mark"
string_of Key = codes "box key"

-- the first sixteen bytes of Ascon-CXOF128 of key k, then text t
unfoldable pub keyed : Purpose → List ℕ → List ℕ → List ℕ
keyed p k t = cxof128 (string_of p) (k ++ t) 16
