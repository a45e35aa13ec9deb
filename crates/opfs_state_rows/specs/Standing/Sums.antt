-- The sums of the machine in lengths over any units. One test of units serves for a unit, an origin and all. This
-- project's own.
use Rattle.std.specs.Prelude.{ℕ, ◌+◌, Bool, true, not, ◌&&◌, cond, [], is_some, sum_by}
use Rattle.opfs_base.specs.Measures.{mode_charge}
use Rattle.opfs_base.specs.Places.{Place}
use Rattle.opfs_base.specs.Texts.{Text, same_text}
use Rattle.opfs_base.specs.Units.{origin_of}
use Rattle.opfs_machine.specs.declared.own.Outline.{Outline}
use Rattle.opfs_machine.specs.declared.own.Outline.TheVariants as outline
use Rattle.opfs_machine.specs.declared.state.Row.{Row as Line}
use Rattle.opfs_machine.specs.Contents.{in_lengths}
use Rattle.opfs_machine.specs.Rows.{row_at}
use Rattle.opfs_machine.specs.Sums.{all_own, durable_blocks, present_blocks, row_charge, is_persistent}
use Rattle.opfs_machine.specs.Victims.{none_taken}
use Rattle.opfs_state_rows.specs.Standing.Seen.{Machine}

abbrev pub where_unit : (Text → Bool) → (Line ℕ → ℕ) → Place × Line ℕ → ℕ
where_unit p w e = cond (p e.0.0) (w e.1) 0

-- What an own row keeps of the quota, and of the pool.
abbrev pub stream_where : (Text → Bool) → Outline → ℕ
stream_where p (outline.Stream w) = cond (p w.file.0) w.reserve 0
stream_where p r = 0

abbrev pub reserve_where : (Text → Bool) → Outline → ℕ
reserve_where p (outline.Stream w) = cond (p w.file.0) w.reserve 0
reserve_where p (outline.Handle h) = cond (p h.file.0) h.reserve 0
reserve_where p r = 0

abbrev pub usage_where : (Text → Bool) → Machine → ℕ
usage_where p m = sum_by (where_unit p (present_blocks in_lengths)) m.rows + sum_by (stream_where p) (all_own m)

abbrev pub blocks_where : (Text → Bool) → Machine → ℕ
blocks_where p m = sum_by (where_unit p (durable_blocks in_lengths)) m.rows + sum_by (reserve_where p) (all_own m)

abbrev pub anywhere : Text → Bool
anywhere unit = true

abbrev pub of_origin : Text → Text → Bool
of_origin origin unit = same_text origin (origin_of unit)

-- The charge of rows and modes, without that of blocks.
abbrev pub fixed_charge : Machine → ℕ
fixed_charge m = sum_by row_charge m.rows + sum_by mode_charge m.persistent

-- Whether a unit may be cleared for an agent of another origin.
abbrev pub clearable : Machine → Text → Bool
clearable m unit = is_some (row_at m (unit, [])) && not (is_persistent m unit) && none_taken m unit
