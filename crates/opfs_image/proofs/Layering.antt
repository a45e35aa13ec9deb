-- An image is what its records build.
use Rattle.std.proofs.Common.{◌≡◌, ℕ, ◌+◌, ◌<◌, ◌≤◌, Bool, true, false, List, refl, sym, ◌∙◌, ap, arith, subst}
use Rattle.std.specs.Prelude.{Some, Result, Ok, Err, slice_index, nat_lt, if◌then◌else◌, ◌==◌}
use Rattle.opfs_codec.specs.declared.change.Format.{Format}
use Rattle.opfs_codec.specs.declared.change.Format.TheVariants.{New}
use Rattle.opfs_outside.specs.Bytes.{window}
use Rattle.opfs_outside.specs.Windows.{slice_index-window}
use Rattle.opfs_journal.specs.Format.{Chain, chain, chosen_in, Stored, stored_in, stored_if_ok, read_areas, read_chosen, opened, records_of, format_of, begin_of, is_open, number_at}
use Rattle.opfs_journal.specs.declared.areas.Areas.{Areas}
use Rattle.opfs_journal.specs.declared.refusal.OpenRefusal.{OpenRefusal}
use Rattle.opfs_journal.proofs.Choices.{chosen_second, chosen_first, head_parts}
use Rattle.opfs_records.specs.Replay.Applying.{built_by_all}
use Rattle.opfs_records.specs.Replay.Built.{Built, nothing_built}
use Rattle.opfs_records.specs.Replay.Sums.{charge_of}
use Rattle.opfs_image.specs.Layers.{IsLayered}
use Rattle.opfs_image.specs.Reading.{Image, area_built, area_format, format_number, read_as, read_from, built_in_area, unless_overfull, image_of}
use Rattle.opfs_image.specs.Superblock.{geometry_of, areas_of, area_bytes}
use Rattle.opfs_image.specs.declared.geometry.Geometry.{Geometry}
use Rattle.opfs_image.specs.Answers.{not_of}
use Rattle.opfs_image.specs.declared.refusal.ImageRefusal.{ImageRefusal}
use Rattle.opfs_image.specs.declared.refusal.ImageRefusal.TheVariants as refusal
use Rattle.opfs_image.proofs.Chained.{cut, to_chain, from_chain, first_body}
use Rattle.opfs_image.proofs.Images.{image_read, same_number}

-- ---- the area that rules has an open gate and a first record

pub record IsHead (c : List ℕ) (a : Areas) (second : Bool) : Type 0 where
  pub opened : is_open c (begin_of a second) ≡ true
  pub some : number_at c (begin_of a second + 1) ≡ 0 → ⊥
  pub bytes : 0 < a.bytes

pub head_of : (c : List ℕ) (a : Areas) (second : Bool) → chosen_in a c ≡ Ok second → IsHead c a second
head_of c a true h =
    let is = chosen_second a (is_open c a.first) (number_at c (a.first + 1)) (slice_index c (a.first + 5)) (is_open c (a.first + a.bytes)) (number_at c (a.first + a.bytes + 1)) (slice_index c (a.first + a.bytes + 5)) h in
    let parts = head_parts a true (is_open c (a.first + a.bytes)) (number_at c (a.first + a.bytes + 1)) (slice_index c (a.first + a.bytes + 5)) (is_open c a.first) (number_at c (a.first + 1)) (slice_index c (a.first + 5)) c is (record { gate = refl; size = refl; byte = refl }) (record { gate = refl; size = refl; byte = refl }) in
    record { opened = is.opened; some = parts.0; bytes = omega (arith, parts.1) }
head_of c a false h =
    let is = chosen_first a (is_open c a.first) (number_at c (a.first + 1)) (slice_index c (a.first + 5)) (is_open c (a.first + a.bytes)) (number_at c (a.first + a.bytes + 1)) (slice_index c (a.first + a.bytes + 5)) h in
    let parts = head_parts a false (is_open c a.first) (number_at c (a.first + 1)) (slice_index c (a.first + 5)) (is_open c (a.first + a.bytes)) (number_at c (a.first + a.bytes + 1)) (slice_index c (a.first + a.bytes + 5)) c is (record { gate = refl; size = refl; byte = refl }) (record { gate = refl; size = refl; byte = refl }) in
    record { opened = is.opened; some = parts.0; bytes = omega (arith, parts.1) }

-- ---- what is stored in an area

module _ (c : List ℕ) (a : Areas) (second : Bool) (chosen : chosen_in a c ≡ Ok second) where
  head : IsHead c a second
  head = head_of c a second chosen

  abbrev begin : ℕ
  begin = begin_of a second

  pub stored_is : (found : Chain) → chain a.bytes c begin (begin + a.bytes) ≡ Ok found → records_of a c ≡ Some (stored_in found.bodies)
  stored_is found h = rw (chosen, h) refl

  -- its format is the area's, and its records are the bodies without the generation byte
  pub stored_parts : (found : Chain) → chain a.bytes c begin (begin + a.bytes) ≡ Ok found → ((stored_in found.bodies).format ≡ area_format c a second) × ((stored_in found.bodies).records ≡ cut 1 found.bodies)
  stored_parts found h =
      let first = first_body New 0 c (begin + a.bytes) a.bytes begin found h head.opened in
      let byte : slice_index (window c (begin + 5) (number_at c (begin + 1))) 0 ≡ slice_index c (begin + 5 + 0) = slice_index-window c (begin + 5) (number_at c (begin + 1)) 0 (omega (arith, head.some)) in
      let at : begin + 5 + 0 ≡ begin + 5 = omega arith in (
        ap (λ bodies. (stored_in bodies).format) first.1 ∙ ap format_of (byte ∙ ap (λ k. slice_index c k) at),
        ap (λ bodies. (stored_in bodies).records) first.1 ∙ sym (ap (λ bodies. cut 1 bodies) first.1),
      )

-- ---- from an image to its records

module _ (wanted counted : Format) (c : List ℕ) (image : Image) where
  pub record IsBuilt : Type 0 where
    pub geometry : geometry_of c ≡ Ok image.geometry
    pub second : Bool
    pub chosen : chosen_in (areas_of image.geometry) c ≡ Ok second
    pub format : area_format c (areas_of image.geometry) second ≡ format_number wanted
    pub built : area_built wanted image.geometry.blocks c (areas_of image.geometry) second ≡ Ok image.built
    pub fits : charge_of counted image.built + 7 ≤ area_bytes image.geometry

  -- what an area builds is what its records build
  pub layered_of : IsBuilt → IsLayered wanted counted c image
  layered_of is =
      let a = areas_of image.geometry in
      let r = to_chain wanted image.geometry.blocks c (begin_of a is.second + a.bytes) a.bytes 1 (begin_of a is.second) nothing_built image.built is.built in
      let parts = stored_parts c a is.second is.chosen r.found r.is in
      record {
        geometry = is.geometry;
        stored = stored_in r.found.bodies;
        records = stored_is c a is.second is.chosen r.found r.is;
        format = parts.0 ∙ is.format;
        built = subst (λ bodies. built_by_all wanted image.geometry.blocks bodies nothing_built ≡ Some image.built) (sym parts.1) r.built;
        fits = is.fits;
      }

abbrev read_in : Image → Result Image ImageRefusal → Image
read_in other (Ok x) = x
read_in other (Err refused) = other

ok_is : (x image : Image) (r : Result Image ImageRefusal) → r ≡ Ok x → r ≡ Ok image → x ≡ image
ok_is x image r first second = ap (read_in image) (sym first ∙ second)

module _ (wanted counted : Format) (c : List ℕ) (image : Image) (g : Geometry) (geometry : geometry_of c ≡ Ok g) where
  module _ (second : Bool) (chosen : chosen_in (areas_of g) c ≡ Ok second) (format : area_format c (areas_of g) second ≡ format_number wanted) where
    when_fits : (b : Built) (past : Bool) → area_built wanted g.blocks c (areas_of g) second ≡ Ok b → nat_lt (area_bytes g) (charge_of counted b + 7) ≡ past
        → image_of g (if past then Err (refusal.Overfull (charge_of counted b) (area_bytes g)) else Ok b) ≡ Ok image → IsBuilt wanted counted c image
    when_fits b true built e h = absurd (cc)
    when_fits b false built e h =
        subst (λ x. IsBuilt wanted counted c x) (ok_is (record { geometry = g; built = b }) image (Ok (record { geometry = g; built = b })) refl h)
        (record { geometry = geometry; second = second; chosen = chosen; format = format; built = built; fits = search (arith, e) })

    when_built : (x : Result Built ℕ) → area_built wanted g.blocks c (areas_of g) second ≡ x → image_of g (unless_overfull counted (area_bytes g) x) ≡ Ok image → IsBuilt wanted counted c image
    when_built (Err bad) e h = absurd (cc)
    when_built (Ok b) e h = when_fits b (nat_lt (area_bytes g) (charge_of counted b + 7)) e refl h

  when_format : (second : Bool) (is : Bool) → chosen_in (areas_of g) c ≡ Ok second → (area_format c (areas_of g) second == format_number wanted) ≡ is
      → image_of g (if is then unless_overfull counted (area_bytes g) (area_built wanted g.blocks c (areas_of g) second) else Err (not_of wanted)) ≡ Ok image → IsBuilt wanted counted c image
  when_format second false chosen e h = absurd (cc)
  when_format second true chosen e h = when_built second chosen (same_number _ _ e) (area_built wanted g.blocks c (areas_of g) second) refl h

  when_chosen : (x : Result Bool OpenRefusal) → chosen_in (areas_of g) c ≡ x → image_of g (built_in_area wanted counted g c x) ≡ Ok image → IsBuilt wanted counted c image
  when_chosen (Err first) e h = absurd (cc)
  when_chosen (Ok second) e h = when_format second (area_format c (areas_of g) second == format_number wanted) e refl h

when_read : (wanted counted : Format) (c : List ℕ) (image : Image) (x : Result Geometry ImageRefusal) → geometry_of c ≡ x → read_from wanted counted c x ≡ Ok image → IsBuilt wanted counted c image
when_read wanted counted c image (Err refused) e h = absurd (cc)
when_read wanted counted c image (Ok g) e h = when_chosen wanted counted c image g e (chosen_in (areas_of g) c) refl h

pub layered : (wanted counted : Format) (c : List ℕ) (image : Image) → read_as wanted counted c ≡ Ok image → IsLayered wanted counted c image
layered wanted counted c image h = layered_of wanted counted c image (when_read wanted counted c image (geometry_of c) refl h)

-- ---- and back

some_is : (x stored : Stored) → Some x ≡ Some stored → x ≡ stored
some_is x stored h = cc

module _ (wanted counted : Format) (c : List ℕ) (image : Image) (is : IsLayered wanted counted c image) where
  abbrev areas : Areas
  areas = areas_of image.geometry

  from_found : (second : Bool) (x : Result Chain ℕ) → chosen_in areas c ≡ Ok second → chain areas.bytes c (begin_of areas second) (begin_of areas second + areas.bytes) ≡ x
      → stored_if_ok (opened second x) ≡ Some is.stored → read_as wanted counted c ≡ Ok image
  from_found second (Err bad) chosen e h = absurd (cc)
  from_found second (Ok found) chosen e h =
      let stored = some_is (stored_in found.bodies) is.stored h in
      let parts = stored_parts c areas second chosen found e in
      let format : area_format c areas second ≡ format_number wanted = sym parts.0 ∙ ap (λ s. s.format) stored ∙ is.format in
      let built : built_by_all wanted image.geometry.blocks (cut 1 found.bodies) nothing_built ≡ Some image.built = ap (λ bodies. built_by_all wanted image.geometry.blocks bodies nothing_built) (sym parts.1 ∙ ap (λ s. s.records) stored) ∙ is.built in
      image_read wanted counted c image.geometry second (record { geometry = is.geometry; chosen = chosen; format = format }) image.built
      (from_chain wanted image.geometry.blocks c (begin_of areas second + areas.bytes) areas.bytes 1 (begin_of areas second) nothing_built image.built found e built) is.fits

  from_chosen : (x : Result Bool OpenRefusal) → chosen_in areas c ≡ x → stored_if_ok (read_chosen areas c x) ≡ Some is.stored → read_as wanted counted c ≡ Ok image
  from_chosen (Err first) e h = absurd (cc)
  from_chosen (Ok second) e h = from_found second (chain areas.bytes c (begin_of areas second) (begin_of areas second + areas.bytes)) e refl h

pub unlayered : (wanted counted : Format) (c : List ℕ) (image : Image) → IsLayered wanted counted c image → read_as wanted counted c ≡ Ok image
unlayered wanted counted c image is = from_chosen wanted counted c image is (chosen_in (areas_of image.geometry) c) refl is.records

-- an image that is read has areas that are read
pub no_refusal : (wanted counted : Format) (c : List ℕ) (image : Image) (a : Areas) (r : OpenRefusal) → read_as wanted counted c ≡ Ok image → a ≡ areas_of image.geometry → read_areas a c ≡ Err r → ⊥
no_refusal wanted counted c image a r h a_is bad =
    let is = layered wanted counted c image h in
    let some : Some is.stored ≡ stored_if_ok (Err r) = sym is.records ∙ ap stored_if_ok (sym (ap (λ x. read_areas x c) a_is) ∙ bad) in
    cc
