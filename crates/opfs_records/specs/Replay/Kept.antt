-- What a replay keeps beside its rows and its persistent units, and what one change does to it. This project's own.
use Rattle.std.specs.Prelude.{◌≡◌, ℕ, ◌+◌, ◌-◌, ◌≤◌, Bool, true, false, ◌&&◌, List, [], ◌∷◌, length, sum_by, count_by, Option, Some, None, MatchOption, IsTrue, nat_eq, nat_lt, nat_le, slice_index_or, if◌then◌else◌}
use Rattle.std.specs.List.{AllByRecursion}
use Rattle.std.specs.FinMap.Entries.{is_sorted}
use Rattle.opfs_base.specs.Texts.{Text, same_text}
use Rattle.opfs_base.specs.declared.extents.Extent.{Extent}
use Rattle.opfs_codec.specs.declared.change.Format.{Format}
use Rattle.opfs_codec.specs.declared.change.Format.TheVariants.{New}
use Rattle.opfs_codec.specs.declared.change.Change.{Change}
use Rattle.opfs_shed.specs.declared.shed.Bucket.{Bucket}
use Rattle.opfs_shed.specs.Buckets.{Buckets, text_cmp}
use Rattle.opfs_tree.specs.Rows.{Rows, extents_of}
use Rattle.opfs_records.specs.Replay.Applying.{tried}
use Rattle.opfs_records.specs.Replay.Built.{IsSoundRow, named}
use Rattle.opfs_records.specs.Replay.Replaying.{Replayed}
use Rattle.opfs_records.specs.Replay.Sums.{key_bytes, persistent_in}
use Rattle.opfs_records.specs.Checkpoint.Written.{AreWritable}

-- How often a list names a block.
abbrev pub times : ℕ → List ℕ → ℕ
times block list = count_by (nat_eq block) list

abbrev pub flag : Bool → ℕ
flag true = 1
flag false = 0

-- A list names each used block once, and no other.
abbrev pub AreMarked : List Bool → List ℕ → Type 0
AreMarked used list = (block : ℕ) → times block list ≡ flag (slice_index_or used block false)

-- How many extents the files of rows have.
abbrev pub extent_count : Rows → ℕ
extent_count rows = sum_by (λ e. length (extents_of e.1)) rows

-- Whether each extent has a block, and all together so many.
abbrev pub has_blocks : List Extent → ℕ → Bool
has_blocks [] count = nat_eq count 0
has_blocks (e ∷ es) count = (nat_lt 0 e.count && nat_le e.count count) && has_blocks es (count - e.count)

-- What a row of one unit adds to the usage of another.
abbrev pub share : Text → Text → ℕ → ℕ
share unit other count = if same_text unit other then count else 0

-- A bucket that is persistent and uses nothing yet.
abbrev pub persistent_bucket : Bucket
persistent_bucket = record { persistent = true; usage = 0 }

-- The rows are sound, the used blocks are theirs, and the buckets are the persistent ones, with their charge. All have a
-- spelling in format 2.
pub record IsKept (rows : Rows) (used : List Bool) (buckets : Buckets) (most charge : ℕ) : Type 0 where
  pub files : AllByRecursion (λ e. IsSoundRow (length used) e.1) rows
  pub marked : AreMarked used (named rows)
  pub few : extent_count rows ≤ most
  pub modes : AllByRecursion (λ e. e.1 ≡ persistent_bucket) buckets
  pub ordered : IsTrue (is_sorted text_cmp buckets)
  pub writable : AreWritable rows (persistent_in buckets)
  pub sum : charge ≡ sum_by (λ unit. 3 + key_bytes New unit) (persistent_in buckets)

-- What a change makes of a replay: None where it can't be applied.
abbrev pub Applies : Format → Replayed → Change → Option Replayed → Type 0
Applies f old change found = MatchOption found (tried f old.size old.built change ≡ None)
    (λ next. (tried f old.size old.built change ≡ Some next.built) × (next.size ≡ old.size) × (next.quota ≡ old.quota))
