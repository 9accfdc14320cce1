-- The theorems about the definitions, for lists of bytes of any lengths.
use Rattle.std.specs.Prelude.{◌≡◌, ℕ, ◌≤◌, List, length, Some}
use Rattle.ascon.specs.Blocks.{Bytes}
use Rattle.ascon.specs.Aead.{ciphertext, tag, opened}
use Rattle.ascon.specs.Hash.{cxof_words}

-- what was sealed opens to the text
abbrev pub Opens : Type 0
Opens = (k n a t : List ℕ) → Bytes k → Bytes n → Bytes a → Bytes t → opened k n a (ciphertext k n a t) (tag k n a t) ≡ Some t

-- ciphertext c and tag g are the sealing of text t
pub record IsSealing (k n a t c g : List ℕ) : Type 0 where
  pub same_text : c ≡ ciphertext k n a t
  pub same_tag : g ≡ tag k n a t

-- whatever opens to a text is the sealing of that text
abbrev pub Only : Type 0
Only = (k n a c g t : List ℕ) → Bytes k → Bytes n → Bytes a → Bytes c → opened k n a c g ≡ Some t → IsSealing k n a t c g

-- the words that Ascon-CXOF128 absorbs determine customization string and message
abbrev pub Determines : Type 0
Determines = (z m z' m' : List ℕ) → Bytes z → Bytes m → Bytes z' → Bytes m' → length z ≤ 256 → length z' ≤ 256 → cxof_words z m ≡ cxof_words z' m' → (z ≡ z') × (m ≡ m')

-- all of them
pub record Laws : Type 0 where
  pub opens : Opens
  pub only : Only
  pub determines : Determines
