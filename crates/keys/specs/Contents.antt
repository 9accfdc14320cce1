-- What a place holds, as the machine sees it.
use Rattle.std.specs.Prelude.{ℕ, List, Some, None, Option, slice_index_or}
use Rattle.keys.specs.Machine as machine
use Rattle.keys.specs.declared.place.Place.{Place}
use Rattle.keys.specs.declared.tag.Tag.{Tag}
use Rattle.keys.specs.Padded.{blank_key}

-- the place of a machine that has these contents
abbrev pub holding : Option Tag → List ℕ → machine.Place (List ℕ)
holding None bs = machine.Empty
holding (Some t) bs = machine.Full (record { key = bs; tag = t })

-- the place of a machine that a place stands for
abbrev pub place_of : Place → machine.Place (List ℕ)
place_of p = holding p.tag p.key.bytes

-- the key's bytes in a place of a machine; of an empty one, noughts
abbrev pub key_in : machine.Place (List ℕ) → List ℕ
key_in machine.Empty = blank_key
key_in (machine.Full s) = s.key

-- the bytes in place i
abbrev pub key_at : ℕ → List (machine.Place (List ℕ)) → List ℕ
key_at i ps = key_in (slice_index_or ps i machine.Empty)
