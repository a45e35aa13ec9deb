-- The open row whose content a call stores, with its file and the blocks that are kept for it. This project's own.
use Rattle.std.specs.Prelude.{◌≡◌, ℕ, true, Some}
use Rattle.opfs_base.specs.Places.{Place}
use Rattle.opfs_hist.specs.declared.op.Op.{Op}
use Rattle.opfs_hist.specs.declared.op.Op.TheVariants as op
use Rattle.opfs_machine.specs.declared.own.HandleOutline.{HandleOutline}
use Rattle.opfs_machine.specs.declared.own.StreamOutline.{StreamOutline}
use Rattle.opfs_machine.specs.Agents.{open_handle, open_stream}
use Rattle.opfs_machine.specs.Contents.{in_lengths}
use Rattle.opfs_machine.specs.Rulings.{is_read_write}
use Rattle.opfs_space.specs.Room.{Machine}

-- A stream.
pub record IsStreamOf (m : Machine) (k n : ℕ) (place : Place) (reserve : ℕ) : Type 0 where
  pub row : StreamOutline
  pub there : open_stream in_lengths m k n ≡ Some row
  pub file : row.file ≡ place
  pub kept : row.reserve ≡ reserve

-- An access handle that may write.
pub record IsWriterOf (m : Machine) (k n : ℕ) (place : Place) (reserve : ℕ) : Type 0 where
  pub row : HandleOutline
  pub there : open_handle in_lengths m k n ≡ Some row
  pub writes : is_read_write row.mode ≡ true
  pub file : row.file ≡ place
  pub kept : row.reserve ≡ reserve

abbrev pub StoresFile : Machine → ℕ → Op → Place → ℕ → Type 0
StoresFile m k (op.Close n) place reserve = IsStreamOf m k n place reserve
StoresFile m k (op.SyncFlush n) place reserve = IsWriterOf m k n place reserve
StoresFile m k (op.SyncClose n) place reserve = IsWriterOf m k n place reserve
StoresFile m k o place reserve = ⊥
