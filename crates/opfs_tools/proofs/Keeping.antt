-- A recovered image whose disk was only read.
use Rattle.std.proofs.Common.{ℕ, ◌≤◌, List, Some, sym, ap, subst, ◌∙◌}
use Rattle.opfs_codec.specs.declared.change.Format.TheVariants.{New}
use Rattle.opfs_data.specs.Calls.{Reads}
use Rattle.opfs_data.proofs.CallLemmas.{kept_same}
use Rattle.opfs_image.specs.Agreeing.{IsJournalOf, IsImageOf}
use Rattle.opfs_image.specs.Reading.{read_as}
use Rattle.opfs_image.specs.Superblock.{areas_of, image_size}
use Rattle.opfs_image.specs.declared.geometry.Geometry.{Geometry}
use Rattle.opfs_journal.specs.Format.{records_of}
use Rattle.opfs_journal.specs.Seen.{Seen}
use Rattle.opfs_records.specs.Replay.Built.{Built}
use Rattle.opfs_outside.specs.declared.disk.Disk.{Ghosts as DiskWords}

module _ {D : Type 0} (w : DiskWords D) where
  pub journal_kept : (g : Geometry) (old new : Seen D) → Reads w old new → IsJournalOf w.size g old → IsJournalOf w.size g new
  journal_kept g old new reads was = record {
    areas = reads.stays.areas ∙ was.areas;
    length = subst (λ (n : ℕ). image_size g ≤ n) (sym reads.stays.length) was.length;
    settled = reads.in_doubt ∙ was.settled;
  }

  module _ (falls : w.tells → (d : D) (t u : ℕ) (c : List ℕ) → t ≤ u → w.since d u c → w.since d t c) where
    pub image_kept : (g : Geometry) (b : Built) (old new : Seen D) → w.tells → Reads w old new → IsImageOf w.content w.moment w.since g b old → IsImageOf w.content w.moment w.since g b new
    image_kept g b old new told reads was =
        let read = reads.told told in
        record {
          one_image = λ c is. was.one_image c (read.moments c (falls told new.disk (w.moment old.disk) (w.moment new.disk) c read.time.later is)) ∙ sym read.same;
          reads = ap (read_as New New) read.same ∙ was.reads;
          records = ap (records_of (areas_of g)) read.same ∙ (was.records ∙ ap Some (sym (kept_same old new reads.format read.records)));
        }
