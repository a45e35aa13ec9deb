-- The sizes of the row that a call names, by its working copy. This project's own.
use Rattle.std.specs.Prelude.{ℕ, zero, suc}
use Rattle.opfs_hist.specs.declared.op.Op.{Op}
use Rattle.opfs_machine.specs.declared.state.Sizes.{Sizes}
use Rattle.opfs_machine.specs.Replies.{row_named}
use Rattle.opfs_work.specs.Works.{WorkingCopy}

abbrev pub sizes_at : ℕ → WorkingCopy → Sizes
sizes_at zero work = record { size = 0; position = 0 }
sizes_at (suc n) work = record { size = work.length; position = work.position }

-- As the working copy has them; 0 where the call names no row.
abbrev pub sizes_by : Op → WorkingCopy → Sizes
sizes_by o work = sizes_at (row_named o) work
