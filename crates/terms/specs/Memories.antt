-- What the memories of a world mean.
use Rattle.std.specs.Prelude.{◌≡◌, ℕ, List, ◌∷◌, ◌≢◌}
use mathlib.Core.List.{Memᴰ as Mem}
use Rattle.keys.specs.declared.tag.Tag.{Tag}
use Rattle.keys.specs.Algebra.{Slot}
use Rattle.keys.specs.Machine.{Full, Box, Command, Make, Wrap, Seal, Placed, Gives, next_stamp, does}
use Rattle.terms.specs.Term.{Term, Drawn, Wrapped, Sealed, terms}
use Rattle.terms.specs.World.{World, Reachable, step}
use Rattle.terms.specs.At.{At}

-- what lies in a place of a box is in the memory of slots
abbrev pub LiesHeld : Type 0
LiesHeld =
    (numbers : List ℕ) (w : World) → Reachable numbers w → (i h : ℕ) (b : Box Term) (s : Slot Term) → At w.boxes i b → At b.places h (Full s) → Mem s w.held

-- what a Wrap or Seal makes of box b: the slot in the one place, or the text, under the key in the other place, with the box's stamp
pub data BlobOf (b : Box Term) : Command Term → Term → Type 0 where
  wrapping : (i u : ℕ) (s k : Slot Term) → At b.places i (Full s) → At b.places u (Full k) → BlobOf b (Wrap i u) (Wrapped k.key (next_stamp b) s.tag s.key)
  sealing : (i : ℕ) (k : Slot Term) (t : Term) → At b.places i (Full k) → BlobOf b (Seal i t) (Sealed k.key (next_stamp b) t)

-- the commands that make blobs
pub data MakesBlob : Command Term → Type 0 where
  wraps : (i u : ℕ) → MakesBlob (Wrap i u)
  seals : (i : ℕ) (t : Term) → MakesBlob (Seal i t)

-- how the memory of blobs grows by a command to box b
pub data Issues (b : Box Term) (c : Command Term) (before after : List Term) : Type 0 where
  blob : (v : Term) → (does terms c b).answer ≡ Gives v → BlobOf b c v → after ≡ v ∷ before → Issues b c before after
  none : ((v : Term) → (does terms c b).answer ≡ Gives v → MakesBlob c → ⊥) → after ≡ before → Issues b c before after

-- how the memory of drawn keys grows by a command to box b: by the next key of the box, with the tag that Make said, in the place that it answered
pub data Generates (b : Box Term) (c : Command Term) (before after : List (Slot Term)) : Type 0 where
  key : (t : Tag) (i : ℕ) (s : Slot Term) → c ≡ Make t → (does terms c b).answer ≡ Placed i → s ≡ record { key = Drawn b.number b.drawn; tag = t } →
      At (does terms c b).box.places i (Full s) → after ≡ s ∷ before → Generates b c before after
  none : ((t : Tag) (i : ℕ) → c ≡ Make t → (does terms c b).answer ≢ Placed i) → after ≡ before → Generates b c before after

-- how the transcript grows by a command to box b: by the value that it gives
pub data Hears (b : Box Term) (c : Command Term) (before after : List Term) : Type 0 where
  value : (v : Term) → (does terms c b).answer ≡ Gives v → after ≡ v ∷ before → Hears b c before after
  none : ((v : Term) → (does terms c b).answer ≢ Gives v) → after ≡ before → Hears b c before after

-- nothing is taken out of a memory
pub record Keeps (before after : World) : Type 0 where
  pub transcript : (t : Term) → Mem t before.transcript → Mem t after.transcript
  pub held : (s : Slot Term) → Mem s before.held → Mem s after.held
  pub generated : (s : Slot Term) → Mem s before.generated → Mem s after.generated
  pub issued : (t : Term) → Mem t before.issued → Mem t after.issued

-- the memories mean what they say
pub record Memories : Type 0 where
  pub lies_held : LiesHeld
  pub issues : (w : World) (i : ℕ) (b : Box Term) → At w.boxes i b → (c : Command Term) → Issues b c w.issued (step i c w).issued
  pub generates : (w : World) (i : ℕ) (b : Box Term) → At w.boxes i b → (c : Command Term) → Generates b c w.generated (step i c w).generated
  pub hears : (w : World) (i : ℕ) (b : Box Term) → At w.boxes i b → (c : Command Term) → Hears b c w.transcript (step i c w).transcript
  pub keeps : (w : World) (i : ℕ) (c : Command Term) → Keeps w (step i c w)
