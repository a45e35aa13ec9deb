-- What an access handle that may write keeps, against what its file has not stored yet. This project's own.
use Rattle.std.specs.Prelude.{◌≡◌, ◌⊎◌, ℕ, ◌≤◌, true, List, fold, length, map, Some}
use Rattle.opfs_base.specs.Blocks.{blocks}
use Rattle.opfs_base.specs.Places.{Place}
use Rattle.opfs_base.specs.Texts.{Text}
use Rattle.opfs_hist.specs.declared.entry.Entry.{Entry}
use Rattle.opfs_laws.specs.Histories.Unread.{unread_entry}
use Rattle.opfs_locks.specs.declared.Want.TheVariants.{Exclusive}
use Rattle.opfs_machine.specs.declared.own.HandleRow.{HandleRow}
use Rattle.opfs_machine.specs.declared.own.Own.{Own}
use Rattle.opfs_machine.specs.declared.own.Own.TheVariants as own
use Rattle.opfs_machine.specs.declared.state.FileRow.{FileRow}
use Rattle.opfs_machine.specs.declared.state.State.{State}
use Rattle.opfs_machine.specs.Agents.{agent_of, own_of}
use Rattle.opfs_machine.specs.Histories.{IsCall, Legal, state_after}
use Rattle.opfs_machine.specs.Openings.{Opening}
use Rattle.opfs_machine.specs.Rows.{file_at}
use Rattle.opfs_machine.specs.Rulings.{is_read_write}
use Rattle.opfs_machine.specs.Steps.{evicted}
use Rattle.opfs_laws.specs.Covered.{now_of, stored_of}
use Rattle.opfs_laws.specs.Holders.{holders}

-- The handle keeps blocks enough for the file's present bytes; or it keeps none, and these and their time stamp are stored for good.
abbrev pub FitsOrIsStored : HandleRow → FileRow Text → Type 0
FitsOrIsStored h f = (blocks (length f.present) ≤ h.reserve) ⊎ ((h.reserve ≡ 0) × (now_of f ≡ stored_of f))

-- So it is of each open access handle that may write.
abbrev pub DoReservesFit : State Text Own → Type 0
DoReservesFit s =
    (k n : ℕ) (h : HandleRow) (f : FileRow Text) → own_of (agent_of s k) n ≡ Some (own.Handle h) → is_read_write h.mode ≡ true → file_at s h.file ≡ Some f
    → FitsOrIsStored h f

-- A file that no access handle may write is stored as it is.
abbrev pub AreOthersStored : State Text Own → Type 0
AreOthersStored s = (place : Place) (f : FileRow Text) → file_at s place ≡ Some f → holders s place Exclusive ≡ 0 → now_of f ≡ stored_of f

pub record ReservesFitOrNothingIsUnflushed : Type 0 where
  -- After a legal history.
  pub reached : (o : Opening) (h : List Entry) → Legal o h → DoReservesFit (state_after o h)
  -- While a call is made, after its evictions.
  pub cleared : (o : Opening) (h : List Entry) (gone : List Text) (e : Entry) → Legal o h → IsCall (state_after o h) gone e → DoReservesFit (fold evicted (state_after o h) gone)
  -- After a history that may stand without the bytes that reads gave.
  pub told : (o : Opening) (h real : List Entry) → map unread_entry h ≡ map unread_entry real → Legal o real → DoReservesFit (state_after o h)
  -- Files that no access handle may write.
  pub others : (o : Opening) (h : List Entry) → Legal o h → AreOthersStored (state_after o h)
