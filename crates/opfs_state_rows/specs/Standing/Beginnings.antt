-- How the shared store begins: over rows and buckets, with agents that have no row. This project's own.
use Rattle.std.specs.Prelude.{◌≡◌, ℕ, ◌+◌, ◌≤◌, Bool, true, false, not, ◌&&◌, [], is_some, sum_by}
use Rattle.opfs_base.specs.Places.{Place}
use Rattle.opfs_base.specs.Texts.{Text, same_text}
use Rattle.opfs_machine.specs.Contents.{in_lengths}
use Rattle.opfs_machine.specs.Sums.{all_own, durable_blocks}
use Rattle.opfs_machine.specs.Sums.{pool as pool_of}
use Rattle.opfs_machine.specs.Sums.{charge as charge_of}
use Rattle.opfs_pool.specs.Shares.{Blocks, has_share, share_at, held}
use Rattle.opfs_shed.specs.Buckets.{Storage, has_unit, bucket_at, usage_of}
use Rattle.opfs_tree.specs.Rows.{Rows, row_at, none_taken}
use Rattle.opfs_state_rows.specs.Standing.Seen.{Machine, lines_of, persistent_in}
use Rattle.opfs_state_rows.specs.Standing.Sums.{usage_where, where_unit, anywhere}

-- No agent has a row. The buckets have the quota and what the files of each unit use, the pool has the blocks of all
-- files, and the charge is told.
pub record IsBegun (m : Machine) (shed : Storage) (charge : ℕ) : Type 0 where
  pub own : all_own m ≡ []
  pub quota : shed.quota ≡ m.limits.quota
  pub usage : (unit : Text) → (bucket_at shed.buckets unit).usage ≡ usage_where (same_text unit) m
  pub room : pool_of in_lengths m ≤ m.limits.blocks
  pub charged : charge ≡ charge_of in_lengths m

-- The blocks of the files of rows, in the units that pass a test.
abbrev pub files_in : (Text → Bool) → Rows → ℕ
files_in p rows = sum_by (where_unit p (durable_blocks in_lengths)) (lines_of rows)

-- Whether a unit may be cleared, by the rows of the tree and the buckets.
abbrev pub may_clear : Rows → Storage → Text → Bool
may_clear rows shed unit = is_some (row_at (unit, []) rows) && not (bucket_at shed.buckets unit).persistent && none_taken unit rows

-- Of the rows all but the rest are counted in the shares, and the buckets have what they had.
pub record IsCounted (rows rest : Rows) (start shed : Storage) (pool : Blocks) : Type 0 where
  pub quota : shed.quota ≡ start.quota
  pub buckets : (unit : Text) → bucket_at shed.buckets unit ≡ bucket_at start.buckets unit
  pub usages : (origin : Text) → usage_of origin shed.buckets ≡ usage_of origin start.buckets
  pub modes : persistent_in shed.buckets ≡ persistent_in start.buckets
  pub shared : (unit : Text) → has_share pool.shares unit ≡ true → has_unit shed.buckets unit ≡ true
  pub known : (place : Place) → is_some (row_at place rows) ≡ true → is_some (row_at place rest) ≡ false → has_share pool.shares place.0 ≡ true
  pub blocks : (unit : Text) → (share_at pool.shares unit).blocks + files_in (same_text unit) rest ≡ files_in (same_text unit) rows
  pub held : held pool.shares + files_in anywhere rest ≡ files_in anywhere rows
  pub marks : (unit : Text) → has_share pool.shares unit ≡ true → (share_at pool.shares unit).candidate ≡ may_clear rows start unit
