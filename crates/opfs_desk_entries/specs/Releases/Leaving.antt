-- Calls that end an open row and store nothing: abort, discard, and the close of a read-only access handle. This project's own.
use Rattle.std.specs.Prelude.{ℕ, Bool, true, false, not, Option, Some, None}
use Rattle.opfs_state_rows.specs.Changes.Changed.{tree_by}
use Rattle.opfs_hist.specs.declared.op.Op.{Op}
use Rattle.opfs_hist.specs.declared.op.Op.TheVariants as op
use Rattle.opfs_machine.specs.declared.own.HandleOutline.{HandleOutline}
use Rattle.opfs_machine.specs.declared.state.Sizes.{Sizes}
use Rattle.opfs_machine.specs.Agents.{open_handle}
use Rattle.opfs_machine.specs.Contents.{in_lengths}
use Rattle.opfs_machine.specs.Rulings.{is_read_write}
use Rattle.opfs_state_rows.specs.Standing.Seen.{Machine}
use Rattle.opfs_tree.specs.Rows.{IsInOrder}
use Rattle.opfs_desk_steps.specs.Parts.Seen.{machine_in, tree_in}
use Rattle.opfs_desk_steps.specs.declared.parts.parts.Ledger.{Ledger}

abbrev pub is_reader : Option HandleOutline → Bool
is_reader None = false
is_reader (Some h) = not (is_read_write h.mode)

abbrev pub leaves_row : Machine → ℕ → Op → Bool
leaves_row m k (op.Abort n) = true
leaves_row m k (op.Discard n) = true
leaves_row m k (op.SyncClose n) = is_reader (open_handle in_lengths m k n)
leaves_row m k o = false

-- Their words.
abbrev pub is_leaving : Op → Bool
is_leaving (op.Abort n) = true
is_leaving (op.Discard n) = true
is_leaving (op.SyncClose n) = true
is_leaving o = false

-- The tree's rows are in order, before the call and after it.
pub record IsInOrderThrough {D : Type 0} (l : Ledger D) (k : ℕ) (o : Op) (z : Sizes) : Type 0 where
  pub before : IsInOrder (tree_in l)
  pub after : IsInOrder (tree_by (machine_in l) (tree_in l) k o z None)
