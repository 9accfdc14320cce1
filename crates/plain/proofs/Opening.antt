-- What was sealed or wrapped opens.
use Rattle.std.proofs.Common.{◌≡◌, ℕ, ◌+◌, ◌-◌, Bool, true, false, cond, List, ◌++◌, length, take, drop, Some, refl, ap, ◌∙◌, arith}
use Rattle.std.specs.Str.{bytes_eq}
use Rattle.std.proofs.lemmas.Slice.Eq.{bytes_eq-Decides}
use Rattle.std.proofs.lemmas.List.{length-append, take_at, drop_at}
use Rattle.std.proofs.lemmas.Bool.Decides.{nat_tests}
use Rattle.keys.specs.declared.role.Role.{Role}
use Rattle.keys.specs.declared.role.Role.TheVariants.{Wrapper, Sealer, Marker, Base}
use Rattle.keys.specs.Algebra.{role_number}
use Rattle.plain.specs.Plain.{four_bytes, eight_bytes, stamp_bytes, tag_bytes, sealed, wrapped, read_tag, ends_in}
use Rattle.plain.specs.Laws.{Unseals, Unwraps}

-- a blob with key k at its end
ends_in_lem : (front k : List ℕ) → length k ≡ 16 → ends_in k (front ++ k) ≡ true
ends_in_lem front k l =
    let end : drop (length (front ++ k) - 16) (front ++ k) ≡ k = drop_at front k _ (simp length-append (omega arith)) in
    ap (bytes_eq k) end ∙ (bytes_eq-Decides k k).1 refl

-- the text stands between stamp and key
pub unseals : Unseals
unfolding four_bytes eight_bytes
unseals k s v lk lv =
    let b = sealed k s v in
    let size : length b ≡ length v + 28 = simp length-append (omega arith) in
    let ends = ends_in_lem (stamp_bytes s ++ v) k lk in
    let text : take (length b - 28) (drop 12 b) ≡ v = take_at v k (length b - 28) (omega arith) in
    grind (arith, nat_tests)

-- the bytes of a tag are read as that tag
reads_tag : (r : Role) (s : Bool) → read_tag (role_number r) (cond s 1 0) ≡ Some (record { role = r; stays = s })
reads_tag Wrapper true = refl
reads_tag Wrapper false = refl
reads_tag Sealer true = refl
reads_tag Sealer false = refl
reads_tag Marker true = refl
reads_tag Marker false = refl
reads_tag Base true = refl
reads_tag Base false = refl

-- the tag and the key stand between stamp and wrapper
pub unwraps : Unwraps
unfolding four_bytes eight_bytes
unwraps u s t k lu lk =
    let b = wrapped u s t k in
    let size : length b ≡ 46 = simp length-append (omega arith) in
    let ends = ends_in_lem (stamp_bytes s ++ tag_bytes t ++ k) u lu in
    let key : take 16 (drop 14 b) ≡ k = take_at k u 16 lk in
    let tag = reads_tag t.role t.stays in
    grind (arith, nat_tests)
