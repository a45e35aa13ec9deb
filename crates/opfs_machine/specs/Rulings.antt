-- What each call refuses, in the order in which it is judged, and else what it asks for. It reads rows, locks,
-- reserves and sizes, and no content.
use Rattle.std.specs.Prelude.{ℕ, ◌+◌, ◌-◌, ◌*◌, max, Bool, true, false, not, ◌&&◌, ◌||◌, if◌then◌else◌, [], length, Option, Some, None, is_some, unwrap_or, Ok, Err}
use Rattle.opfs_base.specs.Blocks.{blocks}
use Rattle.opfs_base.specs.Names.{is_valid_name, fits_limits}
use Rattle.opfs_base.specs.Texts.{Text}
use Rattle.opfs_base.specs.Places.{Place, place_of, child}
use Rattle.opfs_base.specs.Units.{is_bucket_name, unit_of}
use Rattle.opfs_base.specs.declared.locator.Kind.{Kind}
use Rattle.opfs_base.specs.declared.locator.Kind.TheVariants as kind
use Rattle.opfs_base.specs.declared.locator.Locator.{Locator}
use Rattle.opfs_hist.specs.declared.op.Mode.{Mode}
use Rattle.opfs_hist.specs.declared.op.Mode.TheVariants as mode
use Rattle.opfs_hist.specs.declared.op.Op.{Op}
use Rattle.opfs_hist.specs.declared.op.Op.TheVariants.{GetDirectory, GetDirectoryHandle, GetFileHandle, RemoveEntry, Values, Next, Resolve, IsSameEntry, GetFile, Slice, CreateWritable, Write, Seek, Truncate, Close, Abort, CreateSyncAccessHandle, SyncRead, SyncWrite, SyncTruncate, SyncGetSize, SyncFlush, SyncClose, Persist, Persisted, Estimate, Moment, Post, Await, Wait, Discard, End, Unbound, Evict}
use Rattle.opfs_hist.specs.declared.reply.Refusal.{Refusal}
use Rattle.opfs_hist.specs.declared.reply.Refusal.TheVariants as refusal
use Rattle.opfs_locks.specs.Taking.{Lock, taken, open_lock}
use Rattle.opfs_locks.specs.declared.Want.{Want}
use Rattle.opfs_locks.specs.declared.Want.TheVariants as want
use Rattle.opfs_machine.specs.declared.state.FileRow.{FileRow}
use Rattle.opfs_machine.specs.declared.state.Row.{Row}
use Rattle.opfs_machine.specs.declared.state.Sizes.{Sizes}
use Rattle.opfs_machine.specs.declared.state.Need.{Need}
use Rattle.opfs_machine.specs.declared.state.State.{State}
use Rattle.opfs_machine.specs.Agents.{agent_of, open_stream, open_handle, party_of, is_posted}
use Rattle.opfs_machine.specs.Contents.{Contents}
use Rattle.opfs_machine.specs.Rows.{row_at, is_located, is_of_kind, rows_within, has_children, first_locked, file_at}
use Rattle.opfs_machine.specs.Ruled.{Ruled, ◌>>=◌, ◌>>◌, unless, some_or}
use Rattle.opfs_machine.specs.Sums.{no_need, keeps_blocks, charges, is_persistent}
use Rattle.opfs_base.specs.Measures.{block_charge, place_charge, mode_charge}

-- Where a write or read begins: at its position, or else where the last one ended.
abbrev pub start_of : Sizes → Option ℕ → ℕ
start_of z position = unwrap_or position z.position

-- The length in bytes after a write.
abbrev pub size_written : Sizes → Option ℕ → Text → ℕ
size_written z position bytes = max z.size (start_of z position + length bytes)

-- The blocks that are kept for a row once it has a size: never fewer than before.
abbrev pub reserve_for : ℕ → ℕ → ℕ
reserve_for reserve size = max reserve (blocks size)

-- The lock with which a refused call answers.
abbrev pub locked_by : Lock → Refusal
locked_by lock = refusal.NoModificationAllowedError lock.0 lock.1

-- How an access handle of a mode asks for its file's lock.
abbrev pub want_of : Mode → Want
want_of mode.ReadWrite = want.Exclusive
want_of mode.ReadOnly = want.ReadOnly

abbrev pub is_read_write : Mode → Bool
is_read_write mode.ReadWrite = true
is_read_write mode.ReadOnly = false

-- The lock of a file, open where there is no such file.
abbrev pub lock_in : {F : Type 0} → Option (FileRow F) → Lock
lock_in None = open_lock
lock_in (Some f) = f.lock

-- The charge of making a row where there is none.
abbrev pub making : {F : Type 0} → Kind → Place → Option (Row F) → Need
making k place None = charges (place_charge k place)
making k place (Some r) = no_need

-- getDirectory (Storage: obtain a local storage bottle map; File System: getDirectory).
unfoldable pub get_directory_ruling : {F R : Type 0} → State F R → ℕ → Text → Ruled Need
get_directory_ruling s k bucket = do
  origin ← some_or (agent_of s k).key refusal.SecurityError
  unless (is_bucket_name bucket) refusal.TypeError
  Ok (making kind.Directory (unit_of origin bucket, []) (row_at s (unit_of origin bucket, [])))

-- What is judged of a child that is there, or is to be made.
abbrev pub child_ruling : {F : Type 0} → Kind → Place → Text → Bool → Option (Row F) → Ruled Need
child_ruling k place name create (Some r) = do
  unless (is_of_kind k r) refusal.TypeMismatchError
  Ok no_need
child_ruling k place name create None = do
  unless create refusal.NotFoundError
  unless (fits_limits name place.1) refusal.NameLimit
  Ok (charges (place_charge k place))

-- getFileHandle and getDirectoryHandle (File System: the methods of these names).
unfoldable pub get_handle_ruling : {F R : Type 0} → State F R → Kind → Locator → Text → Bool → Ruled Need
get_handle_ruling s k dir name create = do
  unless (is_valid_name name) refusal.TypeError
  unless (is_located s kind.Directory dir) refusal.NotFoundError
  child_ruling k (child (place_of dir) name) name create (row_at s (child (place_of dir) name))

-- Refuses with the first lock that is not open.
abbrev pub none_locked : Option Lock → Ruled (Unit {0})
none_locked None = Ok tt
none_locked (Some lock) = Err (locked_by lock)

-- removeEntry (File System: removeEntry; the order in which it judges is this project's own).
unfoldable pub remove_entry_ruling : {F R : Type 0} → State F R → Locator → Text → Bool → Ruled Need
remove_entry_ruling s dir name recursive = do
  unless (is_valid_name name) refusal.TypeError
  unless (is_located s kind.Directory dir) refusal.NotFoundError
  unless (is_some (row_at s (child (place_of dir) name))) refusal.NotFoundError
  unless (recursive || not (has_children s (child (place_of dir) name))) refusal.InvalidModificationError
  none_locked (first_locked (rows_within s (child (place_of dir) name)))
  Ok no_need

-- A call that needs its directory or file to be there.
unfoldable pub located_ruling : {F R : Type 0} → State F R → Kind → Locator → Ruled Need
located_ruling s k at = do
  unless (is_located s k at) refusal.NotFoundError
  Ok no_need

-- Refuses where a lock is not given as asked.
abbrev pub takes_lock : Want → Lock → Ruled (Unit {0})
takes_lock w lock = unless (is_some (taken w lock)) (locked_by lock)

abbrev pub size_in : {F R : Type 0} → Contents F R → Option (FileRow F) → ℕ
size_in c None = 0
size_in c (Some f) = c.size f.present

-- The blocks that a new stream keeps: those of the bytes that it begins with.
abbrev pub first_reserve : {F R : Type 0} → Contents F R → State F R → Locator → Bool → ℕ
first_reserve c s at keep = if keep then blocks (size_in c (file_at s (place_of at))) else 0

-- createWritable (File System: createWritable).
unfoldable pub create_writable_ruling : {F R : Type 0} → Contents F R → State F R → Locator → Bool → Ruled Need
create_writable_ruling c s at keep = do
  unless (is_located s kind.File at) refusal.NotFoundError
  takes_lock want.Shared (lock_in (file_at s (place_of at)))
  Ok (keeps_blocks (first_reserve c s at keep))

-- write and truncate of a stream, to a length (File System: write a chunk).
unfoldable pub grow_stream_ruling : {F R : Type 0} → Contents F R → State F R → ℕ → ℕ → ℕ → Ruled Need
grow_stream_ruling c s k n size = do
  w ← some_or (open_stream c s k n) refusal.TypeError
  Ok (keeps_blocks (reserve_for w.reserve size - w.reserve))

-- A call on an open stream that asks for nothing.
unfoldable pub stream_ruling : {F R : Type 0} → Contents F R → State F R → ℕ → ℕ → Ruled Need
stream_ruling c s k n = do
  w ← some_or (open_stream c s k n) refusal.TypeError
  Ok no_need

-- createSyncAccessHandle (File System: createSyncAccessHandle; the read-only mode is this project's own).
unfoldable pub create_sync_ruling : {F R : Type 0} → State F R → Locator → Mode → Ruled Need
create_sync_ruling s at m = do
  unless (is_located s kind.File at) refusal.NotFoundError
  takes_lock (want_of m) (lock_in (file_at s (place_of at)))
  Ok no_need

-- write and truncate of an access handle, to a length (File System: write, truncate).
unfoldable pub grow_handle_ruling : {F R : Type 0} → Contents F R → State F R → Sizes → ℕ → ℕ → ℕ → Ruled Need
grow_handle_ruling c s z k n size = do
  h ← some_or (open_handle c s k n) refusal.InvalidStateError
  unless (is_read_write h.mode) (locked_by (lock_in (file_at s h.file)))
  Ok (record {
    quota = blocks size - blocks z.size;
    pool = reserve_for h.reserve size - h.reserve;
    charge = block_charge * (reserve_for h.reserve size - h.reserve);
  })

-- A call on an open access handle that asks for nothing.
unfoldable pub handle_ruling : {F R : Type 0} → Contents F R → State F R → ℕ → ℕ → Ruled Need
handle_ruling c s k n = do
  h ← some_or (open_handle c s k n) refusal.InvalidStateError
  Ok no_need

-- What persist asks for: nothing without the grant, and nothing where the unit is persistent already.
abbrev pub persisting : {F R : Type 0} → State F R → Bool → Text → Need
persisting s grant unit = if grant && not (is_persistent s unit) then charges (mode_charge unit) else no_need

-- persist (Storage: persist).
unfoldable pub persist_ruling : {F R : Type 0} → State F R → ℕ → Text → Ruled Need
persist_ruling s k bucket = do
  origin ← some_or (agent_of s k).key refusal.TypeError
  unless (is_bucket_name bucket) refusal.TypeError
  Ok (persisting s (agent_of s k).grant (unit_of origin bucket))

-- persisted (Storage: persisted).
unfoldable pub persisted_ruling : {F R : Type 0} → State F R → ℕ → Text → Ruled Need
persisted_ruling s k bucket = do
  origin ← some_or (agent_of s k).key refusal.TypeError
  unless (is_bucket_name bucket) refusal.TypeError
  Ok no_need

-- estimate (Storage: estimate).
unfoldable pub estimate_ruling : {F R : Type 0} → State F R → ℕ → Ruled Need
estimate_ruling s k = do
  origin ← some_or (agent_of s k).key refusal.TypeError
  Ok no_need

-- await answers Stuck where its tag is not posted. That nobody is left who could post it is asked of its entry.
unfoldable pub await_ruling : {F R : Type 0} → State F R → ℕ → Text → Ruled Need
await_ruling s k tag = do
  unless (is_posted s (party_of s k) tag) refusal.Stuck
  Ok no_need

-- What a call of an agent refuses, or asks for.
unfoldable pub ruling : {F R : Type 0} → Contents F R → State F R → Sizes → ℕ → Op → Ruled Need
ruling c s z k (GetDirectory bucket) = get_directory_ruling s k bucket
ruling c s z k (GetDirectoryHandle dir name create) = get_handle_ruling s kind.Directory dir name create
ruling c s z k (GetFileHandle dir name create) = get_handle_ruling s kind.File dir name create
ruling c s z k (RemoveEntry dir name recursive) = remove_entry_ruling s dir name recursive
ruling c s z k (Values dir) = Ok no_need
ruling c s z k (Next n dir) = located_ruling s kind.Directory dir
ruling c s z k (Resolve dir entry) = Ok no_need
ruling c s z k (IsSameEntry entry other) = Ok no_need
ruling c s z k (GetFile at) = located_ruling s kind.File at
ruling c s z k (Slice n at len) = Ok no_need
ruling c s z k (CreateWritable at keep) = create_writable_ruling c s at keep
ruling c s z k (Write n bytes position) = grow_stream_ruling c s k n (size_written z position bytes)
ruling c s z k (Seek n position) = stream_ruling c s k n
ruling c s z k (Truncate n size) = grow_stream_ruling c s k n size
ruling c s z k (Close n) = stream_ruling c s k n
ruling c s z k (Abort n) = stream_ruling c s k n
ruling c s z k (CreateSyncAccessHandle at m) = create_sync_ruling s at m
ruling c s z k (SyncRead n len at) = handle_ruling c s k n
ruling c s z k (SyncWrite n bytes at) = grow_handle_ruling c s z k n (size_written z at bytes)
ruling c s z k (SyncTruncate n size) = grow_handle_ruling c s z k n size
ruling c s z k (SyncGetSize n) = handle_ruling c s k n
ruling c s z k (SyncFlush n) = handle_ruling c s k n
ruling c s z k (SyncClose n) = Ok no_need
ruling c s z k (Persist bucket) = persist_ruling s k bucket
ruling c s z k (Persisted bucket) = persisted_ruling s k bucket
ruling c s z k Estimate = estimate_ruling s k
ruling c s z k (Moment ms) = Ok no_need
ruling c s z k (Post tag) = Ok no_need
ruling c s z k (Await tag) = await_ruling s k tag
ruling c s z k (Wait tag) = Ok no_need
ruling c s z k (Discard n) = Ok no_need
ruling c s z k End = Ok no_need
ruling c s z k (Unbound word) = Err refusal.Unbound
ruling c s z k (Evict unit) = Ok no_need
