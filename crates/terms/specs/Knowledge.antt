-- What the adversary can work out, having every cipher and all the time there is.
use Rattle.std.specs.Prelude.{ℕ, List}
use mathlib.Core.List.{Memᴰ as Mem}
use Rattle.keys.specs.declared.role.Role.{Role}
use Rattle.keys.specs.declared.tag.Tag.{Tag}
use Rattle.keys.specs.Algebra.{Stamp}
use Rattle.terms.specs.Term.{Term, Text, Wrapped, Sealed, Marked, Derived}

-- from a transcript: what stands in it, all texts, all that the ciphers make of known terms with any stamps, tags and labels, and what a known key opens
pub data Knows (transcript : List Term) : Term → Type 0 where
  heard : {t : Term} → Mem t transcript → Knows transcript t
  writes : (bs : List ℕ) → Knows transcript (Text bs)
  wraps : {u k : Term} (s : Stamp) (g : Tag) → Knows transcript u → Knows transcript k → Knows transcript (Wrapped u s g k)
  unwraps : {u k : Term} {s : Stamp} {g : Tag} → Knows transcript (Wrapped u s g k) → Knows transcript u → Knows transcript k
  seals : {k t : Term} (s : Stamp) → Knows transcript k → Knows transcript t → Knows transcript (Sealed k s t)
  unseals : {k t : Term} {s : Stamp} → Knows transcript (Sealed k s t) → Knows transcript k → Knows transcript t
  marks : {k t : Term} → Knows transcript k → Knows transcript t → Knows transcript (Marked k t)
  derives : {k : Term} (l : ℕ) (r : Role) → Knows transcript k → Knows transcript (Derived k l r)
