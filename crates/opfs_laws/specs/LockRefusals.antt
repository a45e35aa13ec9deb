-- Where a call is refused for a lock. This project's own, over File System's "take a lock".
use Rattle.std.specs.Prelude.{◌≡◌, ℕ, false, List, ◌∷◌, ◌++◌, Some, None, IsTrue}
use Rattle.opfs_base.specs.Places.{Place, place_of, child}
use Rattle.opfs_base.specs.Texts.{Text}
use Rattle.opfs_hist.specs.declared.entry.Entry.{Entry}
use Rattle.opfs_hist.specs.declared.op.Op.{Op}
use Rattle.opfs_hist.specs.declared.op.Op.TheVariants.{RemoveEntry, CreateWritable, CreateSyncAccessHandle, SyncWrite, SyncTruncate}
use Rattle.opfs_hist.specs.declared.reply.Refusal.TheVariants.{NoModificationAllowedError}
use Rattle.opfs_hist.specs.declared.reply.Reply.TheVariants.{No}
use Rattle.opfs_locks.specs.Taking.{Lock, taken, is_open}
use Rattle.opfs_locks.specs.declared.LockValue.{LockValue}
use Rattle.opfs_locks.specs.declared.Want.{Want}
use Rattle.opfs_locks.specs.declared.Want.TheVariants as want
use Rattle.opfs_machine.specs.declared.own.HandleOutline.{HandleOutline}
use Rattle.opfs_machine.specs.declared.own.Own.{Own}
use Rattle.opfs_machine.specs.declared.state.FileRow.{FileRow}
use Rattle.opfs_machine.specs.declared.state.Row.TheVariants as row
use Rattle.opfs_machine.specs.declared.state.State.{State}
use Rattle.opfs_machine.specs.Agents.{agent_of, open_handle}
use Rattle.opfs_machine.specs.Contents.{in_bytes}
use Rattle.opfs_machine.specs.Histories.{Legal, state_after}
use Rattle.opfs_machine.specs.Openings.{Opening}
use Rattle.opfs_machine.specs.Rows.{Rows, file_at, rows_within, first_locked}
use Rattle.opfs_machine.specs.Rulings.{want_of, is_read_write}
use Rattle.opfs_machine.specs.Victims.{is_callers}

-- The file stands at its place with this lock, and the lock is not given as asked.
pub record IsNotGiven (s : State Text Own) (at : Place) (asked : Want) (lock : Lock) (file : Place) : Type 0 where
  pub named : file ≡ at
  pub held : FileRow Text
  pub stands : file_at s file ≡ Some held
  pub found : held.lock ≡ lock
  pub refuses : taken asked lock ≡ None

-- The file is the first among the rows, in their order, whose lock is not open, and it has this lock.
pub record IsFirstLocked (rows : Rows Text) (lock : Lock) (file : Place) : Type 0 where
  pub before : Rows Text
  pub held : FileRow Text
  pub after : Rows Text
  pub split : rows ≡ before ++ (file, row.File held) ∷ after
  pub first : first_locked before ≡ None
  pub taken : is_open held.lock.0 ≡ false
  pub found : held.lock ≡ lock

-- The file is that of an open access handle which may not write, and has this lock.
pub record IsReadOnly (s : State Text Own) (k n : ℕ) (lock : Lock) (file : Place) : Type 0 where
  pub handle : HandleOutline
  pub stands : open_handle in_bytes s k n ≡ Some handle
  pub reads : is_read_write handle.mode ≡ false
  pub named : file ≡ handle.file
  pub held : FileRow Text
  pub stands_there : file_at s file ≡ Some held
  pub found : held.lock ≡ lock

-- What a lock refuses, by the call that is refused.
abbrev pub RefusedAt : State Text Own → ℕ → Op → Lock → Place → Type 0
RefusedAt s k (CreateWritable at keep) lock file = IsNotGiven s (place_of at) want.Shared lock file
RefusedAt s k (CreateSyncAccessHandle at m) lock file = IsNotGiven s (place_of at) (want_of m) lock file
RefusedAt s k (RemoveEntry dir name recursive) lock file = IsFirstLocked (rows_within s (child (place_of dir) name)) lock file
RefusedAt s k (SyncWrite n bytes at) lock file = IsReadOnly s k n lock file
RefusedAt s k (SyncTruncate n size) lock file = IsReadOnly s k n lock file
RefusedAt s k op lock file = ⊥

-- A file of the agent's own origin has the lock, which refuses the call.
pub record IsRefusedByLock (s : State Text Own) (k : ℕ) (op : Op) (lock : Lock) : Type 0 where
  pub file : Place
  pub own : IsTrue (is_callers (agent_of s k).key file.0)
  pub cause : RefusedAt s k op lock file

abbrev pub ALockRefusesWithItsCause : Type 0
ALockRefusesWithItsCause =
    (o : Opening) (front : List Entry) (e : Entry) (rest : List Entry) (value : LockValue) (count : ℕ)
    → Legal o (front ++ e ∷ rest) → e.reply ≡ No (NoModificationAllowedError value count)
    → IsRefusedByLock (state_after o front) e.agent e.op (value, count)
