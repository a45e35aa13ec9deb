-- That the facts of a recovered image are propositions.
use Rattle.std.specs.Prelude.{ℕ}
use Rattle.std.proofs.Props.{props}
use Rattle.opfs_base.specs.Places.{Place}
use Rattle.opfs_records.specs.Replay.Built.{IsSoundRow}
use Rattle.opfs_records.specs.Checkpoint.Written.{IsWritableRow}
use Rattle.opfs_tree.specs.declared.row.Row.{Row}
use Rattle.opfs_tree.specs.declared.row.Row.TheVariants as row

pub sound_row-prop : (size : ℕ) (r : Row) → Prim.IsProp (IsSoundRow size r)
sound_row-prop size row.Dir = Prim.hlevel
sound_row-prop size (row.File f) = Prim.hlevel props

pub writable_row-prop : (place : Place) (r : Row) → Prim.IsProp (IsWritableRow place r)
writable_row-prop place row.Dir = Prim.hlevel props
writable_row-prop place (row.File f) = Prim.hlevel props

pub ruleset image_props = (props, sound_row-prop, writable_row-prop)
