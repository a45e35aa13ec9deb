-- An image that was laid stands for its map.
use Rattle.std.proofs.Common.{◌≡◌, ℕ, ◌+◌, ◌*◌, ◌<◌, ◌≤◌, List, [], ◌∷◌, length, false, inl, inr, refl, sym, ap, ◌∙◌, arith}
use Rattle.std.specs.Prelude.{Some, Result, Ok, Err, OnOk}
use Rattle.opfs_base.specs.Places.{Place}
use Rattle.opfs_codec.specs.declared.change.Format.TheVariants.{New}
use Rattle.opfs_image.specs.Layers.{IsLayered}
use Rattle.opfs_image.specs.Reading.{Image, read_as}
use Rattle.opfs_image.specs.Superblock.{areas_of, area_bytes, data_base}
use Rattle.opfs_image.specs.declared.geometry.Geometry.{Geometry}
use Rattle.opfs_image.proofs.Beside.{same_geometry}
use Rattle.opfs_image.proofs.Layering.{layered, unlayered}
use Rattle.opfs_journal.specs.Clauses.{Outside}
use Rattle.opfs_journal.specs.Format.{Stored as Records, records_of}
use Rattle.opfs_journal.specs.Seen.{Seen, one_record}
use Rattle.opfs_journal.specs.declared.areas.Areas.{Areas}
use Rattle.opfs_machine.specs.Openings.{Map, Stored}
use Rattle.opfs_outside.specs.Bytes.{Same}
use Rattle.opfs_outside.specs.declared.disk.Disk.{Ghosts as DiskWords}
use Rattle.opfs_records.specs.Replay.Applying.{rows_of}
use Rattle.opfs_records.specs.Replay.Built.{nothing_built}
use Rattle.opfs_dump.specs.Text.Limits.{charge_of_map}
use Rattle.opfs_dump.specs.Loading.Laid.{IsWritten, StandsAs, StoresBehind, filled_rows, laid, laid_map}
use Rattle.opfs_dump.proofs.loading.Lying.{laid_charge, rows_same}

some_is : {X : Type 0} {x y : X} → Some x ≡ Some y → x ≡ y
some_is e = cc

abbrev with_rows : Map → List (Place × Stored) → Map
with_rows m rows = record { rows = rows; persistent = m.persistent }

pub lay_stands : (g : Geometry) (m : Map) (body c0 c : List ℕ) (was : Records) → read_as New New c0 ≡ Ok (record { geometry = g; built = nothing_built }) → records_of (areas_of g) c0 ≡ Some was
    → records_of (areas_of g) c ≡ Some (one_record was.format body) → rows_of New g.blocks (body ∷ []) ≡ Some (laid_map m) → charge_of_map m + 7 ≤ area_bytes g → length c ≡ length c0
    → IsWritten (data_base g) c0 c (areas_of g) m.rows → StandsAs g m c
lay_stands g m body c0 c was reads before now builds fits size written =
    let old : IsLayered New New c0 (record { geometry = g; built = nothing_built }) = layered New New c0 (record { geometry = g; built = nothing_built }) reads in
    let format : was.format ≡ 2 = ap (λ (x : Records). x.format) (some_is (sym before ∙ old.records)) ∙ old.format in
    let image : Image = record { geometry = g; built = laid_map m } in
    let is : IsLayered New New c image = record {
      geometry = same_geometry c c0 size (λ i h. written.before i (omega (arith, h), inl (omega (arith, h)))) ∙ old.geometry;
      stored = one_record 2 body;
      records = now ∙ ap (λ (n : ℕ). Some (one_record n body)) format;
      format = refl;
      built = builds;
      fits = omega (arith, laid_charge m, fits);
    } in
    record {
      built = laid_map m;
      reads = unlayered New New c image is;
      stands = ap (λ (rows : List (Place × Stored)). with_rows m rows) written.stored;
    }

-- written rows stay where the areas alone are written
pub written_all : (base : ℕ) (old mid new : List ℕ) (areas : Areas) (rows : List (Place × Stored)) → areas.first + 2 * areas.bytes ≤ base → filled_rows base mid (laid 0 rows) ≡ rows
    → Same (λ i. i < base) mid old → Same (Outside areas) new mid → IsWritten base old new areas rows
written_all base old mid new areas rows behind stored before outside = record {
  stored = rows_same base new mid rows (λ i h. outside i (inr (omega (arith, h, behind)))) ∙ stored;
  before = λ i h. outside i h.1 ∙ before i h.0;
}

pub on_ok_all : {A E : Type 0} (r : Result A E) (P Q R S : Type 0) → (P → Q → R → S) → OnOk r P → OnOk r Q → OnOk r R → OnOk r S
on_ok_all (Ok a) P Q R S all p q s = all p q s
on_ok_all (Err e) P Q R S all p q s = tt

module _ {D : Type 0} (w : DiskWords D) where
  pub stores_nothing : (base : ℕ) (j : Seen D) → j.in_doubt ≡ false → StoresBehind w base j j
  stores_nothing base j sure = record {
    stays = record { areas = refl; length = refl; spare = refl };
    format = refl;
    sure = sure;
    records = λ told. refl;
    before = λ told i h. refl;
    later = omega arith;
  }

  pub stores_more : (base n : ℕ) (j0 j1 j2 : Seen D) → StoresBehind w base j0 j1 → StoresBehind w (base + n) j1 j2 → StoresBehind w base j0 j2
  stores_more base n j0 j1 j2 a b = record {
    stays = record { areas = b.stays.areas ∙ a.stays.areas; length = b.stays.length ∙ a.stays.length; spare = b.stays.spare ∙ a.stays.spare };
    format = b.format ∙ a.format;
    sure = b.sure;
    records = λ told. b.records told ∙ a.records told;
    before = λ told i h. b.before told i (omega (arith, h)) ∙ a.before told i h;
    later = omega (arith, a.later, b.later);
  }
