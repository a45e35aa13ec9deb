-- What every reached state keeps, as the shared store knows it. This project's own.
use Rattle.std.specs.Prelude.{◌≡◌, ◌⊎◌, ℕ, ◌+◌, ◌*◌, ◌≤◌, Bool, true, cond, List, sum_by, Option, Some, None, IsTrue}
use Rattle.opfs_base.specs.Blocks.{blocks}
use Rattle.opfs_base.specs.Places.{Place}
use Rattle.opfs_base.specs.Texts.{Text, same_text}
use Rattle.opfs_base.specs.Units.{origin_of}
use Rattle.opfs_hist.specs.declared.entry.Entry.{Entry}
use Rattle.opfs_hist.specs.declared.op.Mode.TheVariants.{ReadOnly}
use Rattle.opfs_locks.specs.declared.Want.{Want}
use Rattle.opfs_locks.specs.declared.Want.TheVariants as want
use Rattle.opfs_machine.specs.declared.own.HandleOutline.{HandleOutline}
use Rattle.opfs_machine.specs.declared.own.Outline.{Outline}
use Rattle.opfs_machine.specs.declared.own.Outline.TheVariants as outline
use Rattle.opfs_machine.specs.declared.own.Own.{Own}
use Rattle.opfs_machine.specs.declared.state.FileRow.{FileRow}
use Rattle.opfs_machine.specs.declared.state.Row.{Row}
use Rattle.opfs_machine.specs.declared.state.State.{State}
use Rattle.opfs_machine.specs.Agents.{agent_of, own_of}
use Rattle.opfs_machine.specs.Contents.{in_lengths}
use Rattle.opfs_machine.specs.Histories.{Legal, state_after}
use Rattle.opfs_machine.specs.Openings.{Opening}
use Rattle.opfs_machine.specs.Rows.{file_at}
use Rattle.opfs_machine.specs.Rulings.{lock_in, want_of}
use Rattle.opfs_machine.specs.Sums.{all_own, reserve_of, present_blocks, durable_blocks, usage, pool, charge}
use Rattle.opfs_machine.specs.Victims.{none_taken}
use Rattle.opfs_laws.specs.Covered.{now_of, stored_of}
use Rattle.opfs_laws.specs.Holders.{counts, IsLockOf}
use Rattle.opfs_laws.specs.Whole.{IsInOrder, IsClosed, is_rising, IsWhole, IsWholeOpening}
use Rattle.opfs_laws.specs.Lengths.Outlines.{in_lengths_of}

-- A test of units: a unit, those of an origin, any.
abbrev pub of_origin : Text → Text → Bool
of_origin origin unit = same_text origin (origin_of unit)

abbrev pub anywhere : Text → Bool
anywhere unit = true

-- What a row counts, if its unit passes a test.
abbrev pub where_unit : (Text → Bool) → (Row ℕ → ℕ) → Place × Row ℕ → ℕ
where_unit test weight e = cond (test e.0.0) (weight e.1) 0

-- The blocks that a stream keeps on a file whose unit passes a test.
abbrev pub stream_where : (Text → Bool) → Outline → ℕ
stream_where test (outline.Stream w) = cond (test w.file.0) w.reserve 0
stream_where test r = 0

-- The blocks that an open row keeps on such a file.
abbrev pub reserve_where : (Text → Bool) → Outline → ℕ
reserve_where test (outline.Stream w) = cond (test w.file.0) w.reserve 0
reserve_where test (outline.Handle h) = cond (test h.file.0) h.reserve 0
reserve_where test r = 0

-- What is used, and what is kept of the pool, in the units that pass a test.
abbrev pub usage_where : (Text → Bool) → State ℕ Outline → ℕ
usage_where test m = sum_by (where_unit test (present_blocks in_lengths)) m.rows + sum_by (stream_where test) (all_own m)

abbrev pub blocks_where : (Text → Bool) → State ℕ Outline → ℕ
blocks_where test m = sum_by (where_unit test (durable_blocks in_lengths)) m.rows + sum_by (reserve_where test) (all_own m)

pub record UnitsAddUp : Type 0 where
  -- The usage of an origin is that of its units.
  pub usage : (m : State ℕ Outline) (origin : Text) → usage_where (of_origin origin) m ≡ usage in_lengths m origin
  -- The pool is that of all units.
  pub pool : (m : State ℕ Outline) → blocks_where anywhere m ≡ pool in_lengths m

-- The file of an open stream or access handle, and how it asked for its lock.
abbrev pub hold_in : Outline → Option (Place × Want)
hold_in (outline.Stream w) = Some (w.file, want.Shared)
hold_in (outline.Handle h) = Some (h.file, want_of h.mode)
hold_in r = None

-- How many open streams, or access handles of a mode, there are on a place.
abbrev pub holders_in : State ℕ Outline → Place → Want → ℕ
holders_in m place w = sum_by (λ r. counts place w (hold_in r)) (all_own m)

-- The blocks that the access handle keeps which may write the file at a place.
abbrev pub writer_kept : Place → Outline → ℕ
writer_kept place r = counts place want.Exclusive (hold_in r) * reserve_of r

abbrev pub kept_at : State ℕ Outline → Place → ℕ
kept_at m place = sum_by (writer_kept place) (all_own m)

-- The rows are a map in order and closed under parents. Each lock tells its holders, and the file of each open row is
-- there. An access handle that may not write keeps no block. A file's length and time stamp are stored for good, or an
-- access handle that may write it keeps blocks enough. Of a unit with no taken lock nothing is kept for open rows.
-- An origin uses no more than the pool. Persistent units are in order; the pool is within the data blocks, and the charge
-- with a record of no changes within the area.
pub record Kept (m : State ℕ Outline) : Type 0 where
  pub order : IsInOrder m.rows
  pub parents : IsClosed m.rows
  pub locks : (place : Place) → IsLockOf (lock_in (file_at m place)) (holders_in m place)
  pub files : (k n : ℕ) (r : Outline) (place : Place) (w : Want) → own_of (agent_of m k) n ≡ Some r → hold_in r ≡ Some (place, w)
      → (f : FileRow ℕ) × (file_at m place ≡ Some f)
  pub readers : (k n : ℕ) (h : HandleOutline) → own_of (agent_of m k) n ≡ Some (outline.Handle h) → h.mode ≡ ReadOnly → h.reserve ≡ 0
  pub covered : (place : Place) (f : FileRow ℕ) → file_at m place ≡ Some f
      → (now_of f ≡ stored_of f) ⊎ ((1 ≤ holders_in m place want.Exclusive) × (blocks f.present ≤ kept_at m place))
  pub untaken : (unit : Text) → IsTrue (none_taken m unit) → sum_by (reserve_where (same_text unit)) (all_own m) ≡ 0
  pub usage : (origin : Text) → usage in_lengths m origin ≤ pool in_lengths m
  pub modes : IsTrue (is_rising m.persistent)
  pub pool : pool in_lengths m ≤ m.limits.blocks
  pub area : charge in_lengths m + 7 ≤ m.limits.area

pub record LengthsAreKept : Type 0 where
  -- What a state in bytes keeps, the shared store knows.
  pub whole : (s : State Text Own) → IsWhole s → Kept (in_lengths_of s)
  -- So it knows it of every state that a legal history reaches.
  pub reached : (o : Opening) (h : List Entry) → IsWholeOpening o → Legal o h → Kept (in_lengths_of (state_after o h))
