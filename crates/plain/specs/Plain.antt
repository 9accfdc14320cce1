-- The plain cipher: no secrecy, exact bookkeeping. Keys stand in blobs as they are, so that a run can be read by eye.
use Rattle.std.specs.Prelude.{ℕ, ◌-◌, ◌/◌, ◌%◌, Bool, cond, ◌&&◌, List, [], ◌∷◌, ◌++◌, length, take, drop, replicate, Some, None, Option, ◌==◌, nat_le, slice_index}
use Rattle.std.specs.Str.{bytes_eq}
use Rattle.keys.specs.declared.role.Role.{Role}
use Rattle.keys.specs.declared.tag.Tag.{Tag}
use Rattle.keys.specs.Algebra.{role_number, Stamp, Slot, Algebra}
use Rattle.keys.specs.Padded.{padded}
use Rattle.keybox.specs.Lent.{tag_for}

-- the four bytes of a number, lowest first
unfoldable pub four_bytes : ℕ → List ℕ
four_bytes x = (x % 256) ∷ (x / 256 % 256) ∷ (x / 65536 % 256) ∷ (x / 16777216 % 256) ∷ []

-- the eight bytes of a number, lowest first
unfoldable pub eight_bytes : ℕ → List ℕ
eight_bytes x =
    (x % 256) ∷ (x / 256 % 256) ∷ (x / 65536 % 256) ∷ (x / 16777216 % 256) ∷ (x / 4294967296 % 256)
    ∷ (x / 1099511627776 % 256) ∷ (x / 281474976710656 % 256) ∷ (x / 72057594037927936 % 256) ∷ []

-- the twelve bytes of a stamp: its number, then its count
abbrev pub stamp_bytes : Stamp → List ℕ
stamp_bytes s = four_bytes s.number ++ eight_bytes s.count

-- the two bytes of a tag: the role's number, then 1 if the key stays and 0 if not
abbrev pub tag_bytes : Tag → List ℕ
tag_bytes t = role_number t.role ∷ cond t.stays 1 0 ∷ []

-- the tag of two bytes
abbrev pub read_tag : ℕ → ℕ → Option Tag
read_tag r s = cond (nat_le 1 r && nat_le r 4 && nat_le s 1) (Some (tag_for r (s == 1))) None

-- whether a blob's last sixteen bytes are key k, which stands there as the blob's authentication tag
abbrev pub ends_in : List ℕ → List ℕ → Bool
ends_in k b = bytes_eq k (drop (length b - 16) b)

-- a text between its stamp and the sealing key
abbrev pub sealed : List ℕ → Stamp → List ℕ → List ℕ
sealed k s v = stamp_bytes s ++ v ++ k

-- the text of a sealed blob of 28 to 1052 bytes that ends in key k
abbrev pub unsealed : List ℕ → List ℕ → Option (List ℕ)
unsealed k b =
    cond (nat_le 28 (length b) && nat_le (length b) 1052 && ends_in k b) (Some (take (length b - 28) (drop 12 b))) None

-- a tag and a key between their stamp and the wrapping key
abbrev pub wrapped : List ℕ → Stamp → Tag → List ℕ → List ℕ
wrapped u s t k = stamp_bytes s ++ tag_bytes t ++ k ++ u

-- key k with the tag that was read
abbrev pub slot_of : List ℕ → Option Tag → Option (Slot (List ℕ))
slot_of k None = None
slot_of k (Some t) = Some (record { key = k; tag = t })

-- the key and the tag of a wrapped blob of 46 bytes that ends in key u
abbrev pub unwrapped : List ℕ → List ℕ → Option (Slot (List ℕ))
unwrapped u b =
    cond (length b == 46 && ends_in u b) (slot_of (take 16 (drop 14 b)) (read_tag (slice_index b 12) (slice_index b 13))) None

-- the first half of the key, then the text's first eight bytes, with noughts behind them if there are fewer
abbrev pub marked : List ℕ → List ℕ → List ℕ
marked k v = padded 16 (take 8 k ++ take 8 v)

-- the role's number, the label, then the base's first fourteen bytes
abbrev pub derived : List ℕ → ℕ → Role → List ℕ
derived k l r = role_number r ∷ l ∷ take 14 k

-- sixteen times the letter H
abbrev pub house_key : List ℕ
house_key = replicate 16 0x48

-- how many keys the box drew before, the box's number, then four times the letter D
abbrev pub drawn : ℕ → ℕ → List ℕ
drawn b n = eight_bytes n ++ four_bytes b ++ replicate 4 0x44

-- the plain cipher's algebra
abbrev pub plain : Algebra (List ℕ)
plain = record {
  house = house_key;
  draw = drawn;
  wrap = wrapped;
  unwrap = unwrapped;
  seal = sealed;
  unseal = unsealed;
  mark = marked;
  derive = derived;
}
