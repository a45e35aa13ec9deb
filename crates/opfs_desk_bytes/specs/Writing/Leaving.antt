-- What a call puts into a row of a working copy. This project's own.
use Rattle.std.specs.Prelude.{◌≡◌, ℕ, ◌+◌, min, max}
use Rattle.opfs_work.specs.Works.{WorkingCopy}
use Rattle.opfs_desk_bytes.specs.declared.writing.target.Target.{Target}

-- So many bytes, written from a place on: the size has room for them, and the position is behind them.
pub record IsWritten (work : WorkingCopy) (target : Target) (len : ℕ) : Type 0 where
  pub size_is : target.size ≡ max work.length (target.at + len)
  pub position_is : target.position ≡ target.at + len

-- No bytes, and the position is within the size.
pub record IsCut (work : WorkingCopy) (target : Target) (len : ℕ) : Type 0 where
  pub at_is : target.at ≡ 0
  pub none : len ≡ 0
  pub position_is : target.position ≡ min work.position target.size
  pub beside_is : target.beside ≡ min work.position target.size
