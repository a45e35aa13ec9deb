-- An image whose areas alone are written.
use Rattle.std.proofs.Common.{◌≡◌, ℕ, ◌+◌, ◌≤◌, List, length, inl, inr, refl, sym, ◌∙◌, ap, subst, arith}
use Rattle.std.specs.Prelude.{Some, Result, Ok, Err}
use Rattle.opfs_codec.specs.declared.change.Format.{Format}
use Rattle.opfs_codec.specs.declared.change.Format.TheVariants.{Old, New}
use Rattle.opfs_machine.specs.Openings.{Map}
use Rattle.opfs_outside.specs.Bytes.{Same}
use Rattle.opfs_journal.specs.Clauses.{Outside}
use Rattle.opfs_journal.specs.Format.{records_of}
use Rattle.opfs_journal.specs.Seen.{one_record}
use Rattle.opfs_records.specs.Replay.Applying.{rows_of}
use Rattle.opfs_records.specs.Replay.Built.{all_extents}
use Rattle.opfs_records.specs.Replay.Sums.{charge_of}
use Rattle.opfs_image.specs.Filling.{filled, map_of, Stands, StandsOld}
use Rattle.opfs_image.specs.Layers.{IsLayered}
use Rattle.opfs_image.specs.Reading.{Image, read_as}
use Rattle.opfs_image.specs.Superblock.{geometry_of, areas_of, area_bytes, data_base}
use Rattle.opfs_image.specs.declared.geometry.Geometry.{Geometry}
use Rattle.opfs_image.specs.declared.refusal.ImageRefusal.{ImageRefusal}
use Rattle.opfs_image.proofs.Layering.{layered, unlayered}
use Rattle.opfs_image.proofs.Beside.{same_geometry, in_data}
use Rattle.opfs_image.proofs.Named.{same_filled}
use Rattle.opfs_migrate.specs.Migrating.{file_count, IsPlanned}
use Rattle.opfs_migrate.proofs.Charges.{old_charge}
use Rattle.opfs_migrate.proofs.Counted.{same_count}

-- ---- what an image that stands is read as

pub some_is : {X : Type 0} {x y : X} → Some x ≡ Some y → x ≡ y
some_is e = cc

ok_is : {X E : Type 0} (x y : X) (r : Result X E) → r ≡ Ok x → r ≡ Ok y → x ≡ y
ok_is x y r a b = let both : Ok x ≡ Ok y = sym a ∙ b in cc

pub record IsRead (f : Format) (c : List ℕ) (m : Map) : Type 0 where
  pub image : Image
  pub reads : read_as f f c ≡ Ok image
  pub is : filled (data_base image.geometry) c image.built ≡ m

read_by : (f : Format) (c : List ℕ) (m : Map) (r : Result Image ImageRefusal) → read_as f f c ≡ r → map_of c r ≡ Some m → IsRead f c m
read_by f c m (Err refused) e h = absurd (cc)
read_by f c m (Ok image) e h = record { image = image; reads = e; is = some_is h }

-- two readings of one image build the same
same_image : (first_charge second_charge : Format) (c : List ℕ) (x y : Image) → IsLayered Old first_charge c x → IsLayered Old second_charge c y → x ≡ y
same_image first_charge second_charge c x y a b =
    let g : x.geometry ≡ y.geometry = ok_is x.geometry y.geometry (geometry_of c) a.geometry b.geometry in
    let stored : a.stored ≡ b.stored = some_is (sym a.records ∙ ap (λ k. records_of (areas_of k) c) g ∙ b.records) in
    let built : x.built ≡ y.built = some_is (sym a.built ∙ (λ i. rows_of Old ((g i).blocks) ((stored i).records)) ∙ b.built) in
    λ i. record { geometry = g i; built = built i }

-- what was planned for stands for a map
abbrev pub planned_map : (c0 : List ℕ) (g : Geometry) (files : ℕ) (body : List ℕ) → IsPlanned g files body c0 → Map
planned_map c0 g files body plan = filled (data_base g) c0 plan.built

pub planned_stands : (c0 : List ℕ) (g : Geometry) (files : ℕ) (body : List ℕ) (plan : IsPlanned g files body c0) → StandsOld c0 (planned_map c0 g files body plan)
planned_stands c0 g files body plan =
    let image : Image = record { geometry = g; built = plan.built } in
    let is = layered Old New c0 image plan.reads in
    ap (map_of c0) (unlayered Old Old c0 image (record {
      geometry = is.geometry;
      stored = is.stored;
      records = is.records;
      format = is.format;
      built = is.built;
      fits = omega (arith, old_charge plan.built, is.fits);
    }))

pub planned_files : (c0 : List ℕ) (g : Geometry) (files : ℕ) (body : List ℕ) (plan : IsPlanned g files body c0) → files ≡ file_count (planned_map c0 g files body plan)
planned_files c0 g files body plan = plan.counted ∙ sym (same_count (data_base g) c0 plan.built.rows)

module _ (c0 : List ℕ) (g : Geometry) (files : ℕ) (body : List ℕ) (plan : IsPlanned g files body c0) (m : Map) (stands : StandsOld c0 m) where
  abbrev image : Image
  image = record { geometry = g; built = plan.built }

  was : IsRead Old c0 m
  was = read_by Old c0 m (read_as Old Old c0) refl stands

  old : IsLayered Old Old c0 was.image
  old = layered Old Old c0 was.image was.reads

  now : IsLayered Old New c0 image
  now = layered Old New c0 image plan.reads

  same : was.image ≡ image
  same = same_image Old New c0 was.image image old now

  map_is : filled (data_base g) c0 plan.built ≡ m
  map_is = ap (λ x. filled (data_base x.geometry) c0 x.built) (sym same) ∙ was.is

  module _ (c : List ℕ) (len : length c ≡ length c0) (beside : Same (Outside (areas_of g)) c c0) where
    geometry_is : geometry_of c ≡ Ok g
    geometry_is = same_geometry c c0 len (λ i h. beside i (inl (omega (arith, h)))) ∙ now.geometry

    filled_is : filled (data_base g) c plan.built ≡ m
    filled_is = same_filled (data_base g) c c0 plan.built (λ i h. beside i (inr (omega (arith, in_data (data_base g) (all_extents plan.built.rows) i h)))) ∙ map_is

    -- with the old records it stands in format 1
    pub stands_old : records_of (areas_of g) c ≡ records_of (areas_of g) c0 → StandsOld c m
    stands_old e =
        let is : IsLayered Old Old c image = record {
          geometry = geometry_is;
          stored = now.stored;
          records = e ∙ now.records;
          format = now.format;
          built = now.built;
          fits = subst (λ x. charge_of Old x.built + 7 ≤ area_bytes x.geometry) same old.fits;
        } in
        ap (map_of c) (unlayered Old Old c image is) ∙ ap (λ x. Some x) filled_is

    -- with the one record it stands in format 2
    pub stands_new : records_of (areas_of g) c ≡ Some (one_record 2 body) → Stands c m
    stands_new e =
        let is : IsLayered New New c image = record {
          geometry = geometry_is;
          stored = one_record 2 body;
          records = e;
          format = refl;
          built = plan.builds;
          fits = now.fits;
        } in
        ap (map_of c) (unlayered New New c image is) ∙ ap (λ x. Some x) filled_is
