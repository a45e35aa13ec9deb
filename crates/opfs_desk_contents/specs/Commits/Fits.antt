-- Whether a row's content may be stored page by page. This project's own.
use Rattle.std.specs.Prelude.{◌≤◌}
use Rattle.opfs_base.specs.Blocks.{blocks}
use Rattle.opfs_work.specs.Works.{WorkingCopy}

-- As many blocks as the row's bytes take are kept for it.
abbrev pub FitsReserve : WorkingCopy → Type 0
FitsReserve work = blocks work.length ≤ work.reserve
