-- How the books of a run begin. This project's own.
use Rattle.std.specs.Prelude.{◌≡◌}
use Rattle.opfs_books.specs.Laws.Books.{Fixed}
use Rattle.opfs_books.specs.Stored.Spelled.{stored_built}
use Rattle.opfs_codec.specs.declared.change.Format.TheVariants.{New}
use Rattle.opfs_image.specs.Agreeing.{IsJournalOf, IsImageOf}
use Rattle.opfs_image.specs.Filling.{filled}
use Rattle.opfs_image.specs.Superblock.{area_bytes, data_base, limits_by}
use Rattle.opfs_journal.specs.Seen.{Seen}
use Rattle.opfs_laws.specs.Whole.{IsWholeOpening}
use Rattle.opfs_laws.specs.Lengths.Outlines.{in_lengths_of}
use Rattle.opfs_machine.specs.Openings.{begun}
use Rattle.opfs_outside.specs.declared.disk.Disk.{Ghosts as DiskWords}
use Rattle.opfs_records.specs.Checkpoint.Written.{AreWritable}
use Rattle.opfs_records.specs.Replay.Built.{Built, IsSound}
use Rattle.opfs_records.specs.Replay.Sums.{charge_of}
use Rattle.opfs_state_rows.specs.Standing.Seen.{Machine}
use Rattle.opfs_tree.specs.Rows.{Rows}
use Rattle.std.specs.Prelude.{ℕ, ◌+◌, ◌≤◌}

-- A run begins over an image that was recovered: its opening is the machine's over what the journal's records build, with
-- the image's sizes and quota, and what stands ready is that.
pub record IsOpened {D : Type 0} (w : DiskWords D) (f : Fixed D) (recorded : Built) (m : Machine) (t : Rows) (room : ℕ) (j : Seen D) : Type 0 where
  pub whole : IsWholeOpening f.opening
  pub limits : f.opening.limits ≡ limits_by f.geometry
  pub machine : m ≡ in_lengths_of (begun f.opening)
  pub rows : stored_built t m.persistent ≡ recorded
  pub begun : f.begun ≡ j.disk
  pub journal : IsJournalOf w.size f.geometry j
  pub image : w.tells → IsImageOf w.content w.moment w.since f.geometry recorded j
  pub stored : f.opening.stored ≡ filled (data_base f.geometry) (w.content j.disk) recorded
  pub sound : IsSound f.geometry.blocks recorded.rows
  pub fits : charge_of New recorded + 7 ≤ area_bytes f.geometry
  pub writable : AreWritable t m.persistent
  pub range : area_bytes f.geometry ≤ 16777216
  pub asked : room ≡ area_bytes f.geometry
