-- What an agent has: what its handles say of its own rows (File System: FileSystemWritableFileStream,
-- FileSystemSyncAccessHandle, File). Snapshots and iterators are this project's own.
use Rattle.std.specs.Prelude.{◌≡◌, ℕ, true, List, length, Some}
use Rattle.opfs_base.specs.Places.{place_of}
use Rattle.opfs_base.specs.Texts.{Text}
use Rattle.opfs_base.specs.declared.locator.Locator.{Locator}
use Rattle.opfs_hist.specs.declared.op.Mode.{Mode}
use Rattle.opfs_machine.specs.declared.own.Own.{Own}
use Rattle.opfs_machine.specs.declared.own.Own.TheVariants as own
use Rattle.opfs_machine.specs.Histories.{is_own}
use Rattle.opfs_store.specs.Copies.Copies.{StandsFor}
use Rattle.opfs_turns.specs.Agents.{AgentSeen, known, state_of, own_row}
use Rattle.opfs_work.specs.Works.{WorkingCopy}

-- An open stream: the number of its row, its file, and its working copy.
pub record StreamSeen : Type 0 where
  pub row : ℕ
  pub file : Locator
  pub work : WorkingCopy

-- An open access handle, with its mode.
pub record HandleSeen : Type 0 where
  pub row : ℕ
  pub file : Locator
  pub mode : Mode
  pub work : WorkingCopy

-- A snapshot, with the time stamp that its file had.
pub record SnapshotSeen : Type 0 where
  pub row : ℕ
  pub bytes : Text
  pub stamp : ℕ

-- An iterator, with the names that it has given.
pub record IteratorSeen : Type 0 where
  pub row : ℕ
  pub dir : Locator
  pub given : List Text

-- A row is an open stream on the file of a locator.
abbrev pub IsStreamOn : Locator → Own → Type 0
IsStreamOn file (own.Stream w) = w.file ≡ place_of file
IsStreamOn file r = ⊥

-- A row is an open access handle of a mode on the file of a locator.
abbrev pub IsHandleOn : Locator → Mode → Own → Type 0
IsHandleOn file mode (own.Handle h) = (h.file ≡ place_of file) × (h.mode ≡ mode)
IsHandleOn file mode r = ⊥

-- The agent's own row of a stream is open on its file, and its working copy stands for it.
pub record HasStream {O : Type 0} (tells : Type 0) (a : AgentSeen O) (w : StreamSeen) : Type 0 where
  pub stands : StandsFor tells a.opening (known a) a.pass.agent w.row w.work
  pub is : IsStreamOn w.file stands.row

pub record HasHandle {O : Type 0} (tells : Type 0) (a : AgentSeen O) (h : HandleSeen) : Type 0 where
  pub stands : StandsFor tells a.opening (known a) a.pass.agent h.row h.work
  pub is : IsHandleOn h.file h.mode stands.row

-- The agent's own row is a snapshot of so many bytes, and of these where the store tells.
pub record HasSnapshot {O : Type 0} (tells : Type 0) (a : AgentSeen O) (s : SnapshotSeen) : Type 0 where
  pub bytes : Text
  pub there : own_row a s.row ≡ Some (own.Snapshot bytes)
  pub size : length s.bytes ≡ length bytes
  pub told : tells → s.bytes ≡ bytes

-- The agent's own row is an iterator over this directory, of its own origin, which has given these names.
pub record HasIterator {O : Type 0} (a : AgentSeen O) (i : IteratorSeen) : Type 0 where
  pub there : own_row a i.row ≡ Some (own.Iterator (record { dir = i.dir; given = i.given }))
  pub mine : is_own (state_of a) a.pass.agent i.dir ≡ true

abbrev pub HasClosedStream : {O : Type 0} → AgentSeen O → ℕ → Type 0
HasClosedStream a n = own_row a n ≡ Some own.ClosedStream

abbrev pub HasClosedHandle : {O : Type 0} → AgentSeen O → ℕ → Type 0
HasClosedHandle a n = own_row a n ≡ Some own.ClosedHandle
