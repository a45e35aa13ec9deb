-- An access handle whose file takes more blocks than are kept for it. This project's own.
use Rattle.std.specs.Prelude.{◌≡◌, ℕ, ◌<◌, Some}
use Rattle.opfs_base.specs.Blocks.{blocks}
use Rattle.opfs_hist.specs.declared.op.Op.{Op}
use Rattle.opfs_machine.specs.declared.own.HandleOutline.{HandleOutline}
use Rattle.opfs_machine.specs.Agents.{open_handle}
use Rattle.opfs_machine.specs.Contents.{in_lengths}
use Rattle.opfs_machine.specs.Replies.{row_named}
use Rattle.opfs_machine.specs.Rows.{file_at}
use Rattle.opfs_machine.specs.Rulings.{size_in}
use Rattle.opfs_space.specs.Room.{Machine}

-- The row that a call names is an open access handle, and the present size of its file takes more blocks than it keeps.
pub record HasMoreThanReserve (m : Machine) (k : ℕ) (o : Op) : Type 0 where
  pub handle : HandleOutline
  pub there : open_handle in_lengths m k (row_named o) ≡ Some handle
  pub more : handle.reserve < blocks (size_in in_lengths (file_at m handle.file))
