-- Which calls are local, and which may need the disk, call by call. This project's own.
use Rattle.std.specs.Prelude.{◌≡◌, ℕ, ◌+◌, max, nat_le, Bool, true, false, List, length, Option, Some, unwrap_or}
use Rattle.opfs_base.specs.Blocks.{blocks}
use Rattle.opfs_base.specs.Texts.{Text}
use Rattle.opfs_base.specs.declared.locator.Locator.{Locator}
use Rattle.opfs_hist.specs.declared.op.Mode.{Mode}
use Rattle.opfs_hist.specs.declared.op.Mode.TheVariants as mode
use Rattle.opfs_hist.specs.declared.op.Op.{Op}
use Rattle.opfs_hist.specs.declared.op.Op.TheVariants as op
use Rattle.opfs_hist.specs.declared.op.Word.{Word}
use Rattle.opfs_machine.specs.Agents.{agent_of, own_of}
use Rattle.opfs_machine.specs.Histories.{is_disk_op}
use Rattle.opfs_machine.specs.OwnRows.{is_local}
use Rattle.opfs_machine.specs.declared.own.HandleRow.{HandleRow}
use Rattle.opfs_machine.specs.declared.own.Own.{Own}
use Rattle.opfs_machine.specs.declared.own.Own.TheVariants as own
use Rattle.opfs_machine.specs.declared.own.StreamRow.{StreamRow}
use Rattle.opfs_machine.specs.declared.state.State.{State}

-- The own row of a number is this one.
abbrev pub Holds : State Text Own → ℕ → ℕ → Own → Type 0
Holds s k n r = own_of (agent_of s k) n ≡ Some r

-- These are local whatever is there: values, resolve, isSameEntry, slice, seek, a read and the size of an access handle, the
-- moment, and an unbound variable.
pub record AreAlwaysLocal (s : State Text Own) (k : ℕ) : Type 0 where
  pub values : (dir : Locator) → is_local s k (op.Values dir) ≡ true
  pub resolve : (dir entry : Locator) → is_local s k (op.Resolve dir entry) ≡ true
  pub same_entry : (entry other : Locator) → is_local s k (op.IsSameEntry entry other) ≡ true
  pub slice : (n at len : ℕ) → is_local s k (op.Slice n at len) ≡ true
  pub seek : (n position : ℕ) → is_local s k (op.Seek n position) ≡ true
  pub sync_read : (n len : ℕ) (at : Option ℕ) → is_local s k (op.SyncRead n len at) ≡ true
  pub sync_size : (n : ℕ) → is_local s k (op.SyncGetSize n) ≡ true
  pub moment : (ms : ℕ) → is_local s k (op.Moment ms) ≡ true
  pub unbound : (word : Word) → is_local s k (op.Unbound word) ≡ true

-- These are never local: all that look up or change the rows, that open or end something, and that ask other agents.
pub record AreNeverLocal (s : State Text Own) (k : ℕ) : Type 0 where
  pub get_directory : (bucket : Text) → is_local s k (op.GetDirectory bucket) ≡ false
  pub get_directory_handle : (dir : Locator) (name : Text) (create : Bool) → is_local s k (op.GetDirectoryHandle dir name create) ≡ false
  pub get_file_handle : (dir : Locator) (name : Text) (create : Bool) → is_local s k (op.GetFileHandle dir name create) ≡ false
  pub remove_entry : (dir : Locator) (name : Text) (recursive : Bool) → is_local s k (op.RemoveEntry dir name recursive) ≡ false
  pub next : (n : ℕ) (dir : Locator) → is_local s k (op.Next n dir) ≡ false
  pub get_file : (at : Locator) → is_local s k (op.GetFile at) ≡ false
  pub create_writable : (at : Locator) (keep : Bool) → is_local s k (op.CreateWritable at keep) ≡ false
  pub create_sync : (at : Locator) (m : Mode) → is_local s k (op.CreateSyncAccessHandle at m) ≡ false
  pub persist : (bucket : Text) → is_local s k (op.Persist bucket) ≡ false
  pub persisted : (bucket : Text) → is_local s k (op.Persisted bucket) ≡ false
  pub estimate : is_local s k op.Estimate ≡ false
  pub post : (tag : Text) → is_local s k (op.Post tag) ≡ false
  pub await : (tag : Text) → is_local s k (op.Await tag) ≡ false
  pub wait : (tag : Text) → is_local s k (op.Wait tag) ≡ false
  pub discard : (n : ℕ) → is_local s k (op.Discard n) ≡ false
  pub end : is_local s k op.End ≡ false

-- On an open stream a write or truncate is local where the new length needs no more blocks than the reserve; its close and
-- abort are not.
pub record AreLocalOfStream (s : State Text Own) (k n : ℕ) (w : StreamRow) : Type 0 where
  pub write : (bytes : Text) (position : Option ℕ) → is_local s k (op.Write n bytes position) ≡ nat_le (blocks (max (length w.buffer) (unwrap_or position w.offset + length bytes))) w.reserve
  pub truncate : (size : ℕ) → is_local s k (op.Truncate n size) ≡ nat_le (blocks size) w.reserve
  pub close : is_local s k (op.Close n) ≡ false
  pub abort : is_local s k (op.Abort n) ≡ false

-- On a closed stream every call is local.
pub record AreLocalOfClosedStream (s : State Text Own) (k n : ℕ) : Type 0 where
  pub write : (bytes : Text) (position : Option ℕ) → is_local s k (op.Write n bytes position) ≡ true
  pub truncate : (size : ℕ) → is_local s k (op.Truncate n size) ≡ true
  pub close : is_local s k (op.Close n) ≡ true
  pub abort : is_local s k (op.Abort n) ≡ true

-- On an open access handle what may change the file is not local; on a closed one every call is.
pub record AreLocalOfHandle (s : State Text Own) (k n : ℕ) (local : Bool) : Type 0 where
  pub write : (bytes : Text) (at : Option ℕ) → is_local s k (op.SyncWrite n bytes at) ≡ local
  pub truncate : (size : ℕ) → is_local s k (op.SyncTruncate n size) ≡ local
  pub flush : is_local s k (op.SyncFlush n) ≡ local
  pub close : is_local s k (op.SyncClose n) ≡ local

pub record AreTheLocalCalls : Type 0 where
  pub always : (s : State Text Own) (k : ℕ) → AreAlwaysLocal s k
  pub never : (s : State Text Own) (k : ℕ) → AreNeverLocal s k
  pub stream : (s : State Text Own) (k n : ℕ) (w : StreamRow) → Holds s k n (own.Stream w) → AreLocalOfStream s k n w
  pub closed_stream : (s : State Text Own) (k n : ℕ) → Holds s k n own.ClosedStream → AreLocalOfClosedStream s k n
  pub handle : (s : State Text Own) (k n : ℕ) (h : HandleRow) → Holds s k n (own.Handle h) → AreLocalOfHandle s k n false
  pub closed_handle : (s : State Text Own) (k n : ℕ) → Holds s k n own.ClosedHandle → AreLocalOfHandle s k n true

-- These may need the disk: what makes, removes or reads rows, opens a stream or access handle, reads one, writes, cuts or
-- closes a stream, and persist.
pub record MayNeedTheDisk (s : State Text Own) (k : ℕ) : Type 0 where
  pub get_directory : (bucket : Text) → is_disk_op s k (op.GetDirectory bucket) ≡ true
  pub get_directory_handle : (dir : Locator) (name : Text) (create : Bool) → is_disk_op s k (op.GetDirectoryHandle dir name create) ≡ true
  pub get_file_handle : (dir : Locator) (name : Text) (create : Bool) → is_disk_op s k (op.GetFileHandle dir name create) ≡ true
  pub remove_entry : (dir : Locator) (name : Text) (recursive : Bool) → is_disk_op s k (op.RemoveEntry dir name recursive) ≡ true
  pub get_file : (at : Locator) → is_disk_op s k (op.GetFile at) ≡ true
  pub create_writable : (at : Locator) (keep : Bool) → is_disk_op s k (op.CreateWritable at keep) ≡ true
  pub write : (n : ℕ) (bytes : Text) (position : Option ℕ) → is_disk_op s k (op.Write n bytes position) ≡ true
  pub truncate : (n size : ℕ) → is_disk_op s k (op.Truncate n size) ≡ true
  pub close : (n : ℕ) → is_disk_op s k (op.Close n) ≡ true
  pub create_sync : (at : Locator) (m : Mode) → is_disk_op s k (op.CreateSyncAccessHandle at m) ≡ true
  pub sync_read : (n len : ℕ) (at : Option ℕ) → is_disk_op s k (op.SyncRead n len at) ≡ true
  pub persist : (bucket : Text) → is_disk_op s k (op.Persist bucket) ≡ true

-- And these never do.
pub record NeverNeedTheDisk (s : State Text Own) (k : ℕ) : Type 0 where
  pub values : (dir : Locator) → is_disk_op s k (op.Values dir) ≡ false
  pub next : (n : ℕ) (dir : Locator) → is_disk_op s k (op.Next n dir) ≡ false
  pub resolve : (dir entry : Locator) → is_disk_op s k (op.Resolve dir entry) ≡ false
  pub same_entry : (entry other : Locator) → is_disk_op s k (op.IsSameEntry entry other) ≡ false
  pub slice : (n at len : ℕ) → is_disk_op s k (op.Slice n at len) ≡ false
  pub seek : (n position : ℕ) → is_disk_op s k (op.Seek n position) ≡ false
  pub abort : (n : ℕ) → is_disk_op s k (op.Abort n) ≡ false
  pub sync_size : (n : ℕ) → is_disk_op s k (op.SyncGetSize n) ≡ false
  pub persisted : (bucket : Text) → is_disk_op s k (op.Persisted bucket) ≡ false
  pub estimate : is_disk_op s k op.Estimate ≡ false
  pub moment : (ms : ℕ) → is_disk_op s k (op.Moment ms) ≡ false
  pub post : (tag : Text) → is_disk_op s k (op.Post tag) ≡ false
  pub await : (tag : Text) → is_disk_op s k (op.Await tag) ≡ false
  pub wait : (tag : Text) → is_disk_op s k (op.Wait tag) ≡ false
  pub discard : (n : ℕ) → is_disk_op s k (op.Discard n) ≡ false
  pub end : is_disk_op s k op.End ≡ false
  pub unbound : (word : Word) → is_disk_op s k (op.Unbound word) ≡ false

-- What may change the file of an access handle needs the disk exactly where the handle is open and may write.
pub record DiskOfHandle (s : State Text Own) (k n : ℕ) (needs : Bool) : Type 0 where
  pub write : (bytes : Text) (at : Option ℕ) → is_disk_op s k (op.SyncWrite n bytes at) ≡ needs
  pub truncate : (size : ℕ) → is_disk_op s k (op.SyncTruncate n size) ≡ needs
  pub flush : is_disk_op s k (op.SyncFlush n) ≡ needs
  pub close : is_disk_op s k (op.SyncClose n) ≡ needs

abbrev pub writes : Mode → Bool
writes mode.ReadWrite = true
writes mode.ReadOnly = false

pub record AreTheDiskCalls : Type 0 where
  pub some : (s : State Text Own) (k : ℕ) → MayNeedTheDisk s k
  pub others : (s : State Text Own) (k : ℕ) → NeverNeedTheDisk s k
  pub handle : (s : State Text Own) (k n : ℕ) (h : HandleRow) → Holds s k n (own.Handle h) → DiskOfHandle s k n (writes h.mode)
  pub closed_handle : (s : State Text Own) (k n : ℕ) → Holds s k n own.ClosedHandle → DiskOfHandle s k n false
