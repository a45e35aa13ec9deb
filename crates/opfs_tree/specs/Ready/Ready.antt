-- Rows beside a place that stands ready for one more, so that this one comes without memory. This project's own.
use Rattle.std.specs.Prelude.{◌≡◌, ⊤, ℕ, Bool, false, [], Option, None, Some}
use Rattle.std.specs.FinMap.Entries.{put}
use Rattle.std.specs.Ordering.{eq_by_cmp}
use Rattle.opfs_base.specs.Places.{Place, place_cmp, is_within}
use Rattle.opfs_base.specs.declared.locator.Kind.{Kind}
use Rattle.opfs_base.specs.declared.locator.Kind.TheVariants as kind
use Rattle.opfs_locks.specs.Taking.{open_lock}
use Rattle.opfs_tree.specs.declared.row.Row.{Row}
use Rattle.opfs_tree.specs.declared.row.Row.TheVariants as row
use Rattle.opfs_tree.specs.Rows.{Rows, IsInOrder, without}

-- The place that stands ready, and the kind of the row that may come there.
abbrev pub Ready : Type 0
Ready = Option (Place × Kind)

pub record ReadyRows : Type 0 where
  pub rows : Rows
  pub ready : Ready

-- A row of a kind without bytes, whose lock nobody holds.
abbrev pub new_row : Kind → ℕ → Row
new_row kind.Directory stamp = row.Dir
new_row kind.File stamp = row.File (record { length = 0; stamp = stamp; present = 0; present_stamp = stamp; extents = []; lock = open_lock })

-- Whether a place is the one that stands ready.
abbrev pub is_ready : Place → Ready → Bool
is_ready place None = false
is_ready place (Some e) = eq_by_cmp place_cmp place e.0

-- Whether the place that stands ready is another or below it.
abbrev pub ready_within : Place → Ready → Bool
ready_within above None = false
ready_within above (Some e) = is_within above e.0

-- The rows of the tree but for the one at the place that stands ready.
abbrev pub shown : Ready → Rows → Rows
shown None rows = rows
shown (Some e) rows = without e.0 rows

-- The row at the place that stands ready is new, and nothing is below it.
pub record IsSpare (place : Place) (kind : Kind) (rows : Rows) : Type 0 where
  pub row : rows ≡ put place_cmp place (new_row kind 0) (without place rows)
  pub order : IsInOrder rows

abbrev pub IsKept : Ready → Rows → Type 0
IsKept None rows = ⊤
IsKept (Some e) rows = IsSpare e.0 e.1 rows
