-- What a working copy stands for. This project's own.
use Rattle.std.specs.Prelude.{◌≡◌, ℕ, ◌<◌, true, List, length, slice_index, Some}
use Rattle.opfs_base.specs.Blocks.{blocks}
use Rattle.opfs_base.specs.Texts.{Text}
use Rattle.opfs_hist.specs.declared.entry.Entry.{Entry}
use Rattle.opfs_machine.specs.declared.own.Own.{Own}
use Rattle.opfs_machine.specs.declared.state.State.{State}
use Rattle.opfs_machine.specs.Agents.{agent_of, own_of}
use Rattle.opfs_machine.specs.Contents.{outline_of}
use Rattle.opfs_machine.specs.Histories.{state_after}
use Rattle.opfs_machine.specs.Openings.{Opening}
use Rattle.opfs_machine.specs.Replies.{sizes_in}
use Rattle.opfs_machine.specs.Sums.{reserve_of}
use Rattle.opfs_laws.specs.Steady.Steady.{open_bytes, is_steady}
use Rattle.opfs_work.specs.Works.{WorkingCopy, contents, IsStored}

-- A working copy of an own row: as many bytes, the same position, and the same blocks kept. Where the disk tells, it has
-- the row's bytes, if its pages elsewhere have those of the row.
pub record IsCopyOf (tells : Type 0) (s : State Text Own) (r : Own) (work : WorkingCopy) : Type 0 where
  pub bytes : Text
  pub open_row : open_bytes s (Some r) ≡ Some bytes
  pub size : work.length ≡ length bytes
  pub same : tells → contents (slice_index bytes) work ≡ bytes
  pub position : work.position ≡ (sizes_in s (Some r)).position
  pub reserve : work.reserve ≡ reserve_of (outline_of r)

-- A working copy of an agent's own row of a number after a history. Each page that a store has, as the copy says it, is steady:
-- those that are elsewhere or unchanged, and all before and behind the changes.
pub record StandsFor (tells : Type 0) (o : Opening) (h : List Entry) (k n : ℕ) (work : WorkingCopy) : Type 0 where
  pub row : Own
  pub there : own_of (agent_of (state_after o h) k) n ≡ Some row
  pub copy : IsCopyOf tells (state_after o h) row work
  pub held : (i : ℕ) → i < length work.pages → IsStored work i → is_steady o h k n i ≡ true

-- As many pages as its bytes take.
abbrev pub IsPaged : WorkingCopy → Type 0
IsPaged work = length work.pages ≡ blocks work.length
