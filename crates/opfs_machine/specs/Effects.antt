-- What each call changes where it is not refused. It asks nothing: the ruling went before.
use Rattle.std.specs.Prelude.{ℕ, ◌+◌, ◌-◌, min, Bool, false, if◌then◌else◌, [], ◌∷◌, ◌++◌, length, Option, Some, None, unwrap_or}
use Rattle.std.specs.Ordering.{nat_cmp}
use Rattle.std.specs.Cmp.Lexicographic.{slice_cmp}
use Rattle.opfs_base.specs.Texts.{Text}
use Rattle.opfs_base.specs.Places.{Place, place_of, child}
use Rattle.opfs_base.specs.Units.{unit_of}
use Rattle.opfs_base.specs.declared.locator.Kind.{Kind}
use Rattle.opfs_base.specs.declared.locator.Kind.TheVariants as kind
use Rattle.opfs_hist.specs.declared.op.Mode.{Mode}
use Rattle.opfs_hist.specs.declared.op.Op.{Op}
use Rattle.opfs_hist.specs.declared.op.Op.TheVariants.{GetDirectory, GetDirectoryHandle, GetFileHandle, RemoveEntry, Values, Next, Resolve, IsSameEntry, GetFile, Slice, CreateWritable, Write, Seek, Truncate, Close, Abort, CreateSyncAccessHandle, SyncRead, SyncWrite, SyncTruncate, SyncGetSize, SyncFlush, SyncClose, Persist, Persisted, Estimate, Moment, Post, Await, Wait, Discard, End, Unbound, Evict}
use Rattle.opfs_locks.specs.Taking.{taken, released}
use Rattle.opfs_locks.specs.declared.Want.{Want}
use Rattle.opfs_locks.specs.declared.Want.TheVariants as want
use Rattle.opfs_machine.specs.declared.own.StreamOutline.{StreamOutline}
use Rattle.opfs_machine.specs.declared.own.HandleOutline.{HandleOutline}
use Rattle.opfs_machine.specs.declared.state.FileRow.{FileRow}
use Rattle.opfs_machine.specs.declared.state.Row.{Row}
use Rattle.opfs_machine.specs.declared.state.Row.TheVariants as row
use Rattle.opfs_machine.specs.declared.state.Sizes.{Sizes}
use Rattle.opfs_machine.specs.declared.state.State.{State}
use Rattle.opfs_machine.specs.Agents.{agent_of, with_agent, own_of, with_own, adds_own, open_stream, open_handle, party_of}
use Rattle.opfs_machine.specs.Contents.{Contents}
use Rattle.opfs_machine.specs.Ordered.{insert_by}
use Rattle.opfs_machine.specs.Rows.{row_at, with_row, file_at, with_file, without, children_of, new_file}
use Rattle.opfs_machine.specs.Rulings.{start_of, size_written, reserve_for, want_of, is_read_write, first_reserve}
use Rattle.opfs_machine.specs.Sums.{reserve_of}

abbrev pub moment_of : {F R : Type 0} → State F R → ℕ → ℕ
moment_of s k = (agent_of s k).moment

-- The state with a row made, where none is there.
abbrev pub made : {F R : Type 0} → State F R → Place → Row F → State F R
made s place r = elim (row_at s place) [ Some old ↦ s | None ↦ with_row s place r ]

-- The row that a call makes.
abbrev pub new_row : {F R : Type 0} → Contents F R → Kind → ℕ → Row F
new_row c kind.File stamp = new_file c.empty stamp
new_row c kind.Directory stamp = row.Directory

-- A file's lock once it is taken as asked.
abbrev pub with_lock : {F : Type 0} → Want → FileRow F → FileRow F
with_lock w f = record f { lock = unwrap_or (taken w f.lock) f.lock }

-- A file whose lock one holder has released.
abbrev pub unlocked : {F : Type 0} → FileRow F → FileRow F
unlocked f = record f { lock = released f.lock }

-- A file whose present bytes are its durable ones.
abbrev pub flushed : {F : Type 0} → FileRow F → FileRow F
flushed f = record f { durable = f.present; durable_stamp = f.stamp }

-- A file with its durable bytes again.
abbrev pub undone : {F : Type 0} → FileRow F → FileRow F
undone f = record f { present = f.durable; stamp = f.durable_stamp }

-- A file that a stream's close has replaced.
abbrev pub replaced : {F : Type 0} → F → ℕ → FileRow F → FileRow F
replaced content stamp f = record f { present = content; stamp = stamp; durable = content; durable_stamp = stamp }

-- The state with a file changed by an access handle that may write; a read-only one changes nothing.
abbrev pub with_written : {F R : Type 0} → State F R → Mode → Place → (FileRow F → FileRow F) → State F R
with_written s m file change = if is_read_write m then with_file s file change else s

-- The state with a row of the agent changed by what it was.
unfoldable pub with_changed : {F R : Type 0} → State F R → ℕ → ℕ → (R → R) → State F R
with_changed s k n change = elim (own_of (agent_of s k) n) [ Some r ↦ with_own s k n (change r) | None ↦ s ]

-- getDirectory makes a missing root.
abbrev pub opens_bucket : {F R : Type 0} → State F R → Text → Option Text → State F R
opens_bucket s bucket None = s
opens_bucket s bucket (Some origin) = made s (unit_of origin bucket, []) row.Directory

-- createWritable.
abbrev pub opens_stream : {F R : Type 0} → Contents F R → State F R → ℕ → Place → ℕ → Bool → Option (FileRow F) → State F R
opens_stream c s k file reserve keep None = s
opens_stream c s k file reserve keep (Some f) =
    adds_own (with_file s file (with_lock want.Shared)) k
    (c.stream file (if keep then f.present else c.empty) reserve)

-- getFile.
abbrev pub takes_snapshot : {F R : Type 0} → Contents F R → State F R → ℕ → Option (FileRow F) → State F R
takes_snapshot c s k None = s
takes_snapshot c s k (Some f) = adds_own s k (c.snapshot f.present)

-- The content that an own row stores; nothing where there is no such row.
abbrev pub content_of : {F R : Type 0} → Contents F R → Option R → ℕ → F
content_of c None size = c.empty
content_of c (Some r) size = c.stored r size

-- close of a stream: the file has the buffer, for good.
abbrev pub closes_stream : {F R : Type 0} → Contents F R → State F R → Sizes → ℕ → ℕ → Option StreamOutline → State F R
closes_stream c s z k n None = s
closes_stream c s z k n (Some w) =
    with_own
    (with_file (with_file s w.file (replaced (content_of c (own_of (agent_of s k) n) z.size) (moment_of s k))) w.file unlocked)
    k n c.closed_stream

-- abort of a stream.
abbrev pub aborts_stream : {F R : Type 0} → Contents F R → State F R → ℕ → ℕ → Option StreamOutline → State F R
aborts_stream c s k n None = s
aborts_stream c s k n (Some w) = with_own (with_file s w.file unlocked) k n c.closed_stream

-- A write or truncate of an access handle: its file has the new content at once, and the handle this cursor.
unfoldable pub changes_file : {F R : Type 0} → Contents F R → State F R → ℕ → ℕ → (F → F) → ℕ → ℕ → Option HandleOutline → State F R
changes_file c s k n change cursor size None = s
changes_file c s k n change cursor size (Some h) =
    with_changed
    (with_file s h.file (λ f. record f { present = change f.present; stamp = moment_of s k }))
    k n (λ r. c.moved r cursor (reserve_for h.reserve size))

-- flush of an access handle; a read-only one changes nothing.
abbrev pub flushes : {F R : Type 0} → Contents F R → State F R → Sizes → ℕ → ℕ → Option HandleOutline → State F R
flushes c s z k n None = s
flushes c s z k n (Some h) = with_changed (with_written s h.mode h.file flushed) k n (λ r. c.moved r z.position 0)

-- close of an access handle; a closed one changes nothing.
abbrev pub closes_handle : {F R : Type 0} → Contents F R → State F R → ℕ → ℕ → Option HandleOutline → State F R
closes_handle c s k n None = s
closes_handle c s k n (Some h) = with_own (with_file (with_written s h.mode h.file flushed) h.file unlocked) k n c.closed_handle

-- What a script's end does to an open access handle.
abbrev pub discards : {F R : Type 0} → Contents F R → State F R → ℕ → ℕ → Option HandleOutline → State F R
discards c s k n None = s
discards c s k n (Some h) = with_own (with_file (with_written s h.mode h.file undone) h.file unlocked) k n c.closed_handle

-- Where a read of an access handle leaves the cursor.
abbrev pub cursor_after_read : Sizes → ℕ → Option ℕ → ℕ
cursor_after_read z len at = min z.size (start_of z at + min len (z.size - start_of z at))

-- persist: with the grant, the unit is persistent.
abbrev pub persists : {F R : Type 0} → State F R → Text → Bool → Option Text → State F R
persists s bucket grant None = s
persists s bucket grant (Some origin) =
    if grant then record s { persistent = insert_by (slice_cmp nat_cmp) (unit_of origin bucket) s.persistent } else s

-- The state once an agent waits for a tag, or for none.
abbrev pub with_waiting : {F R : Type 0} → State F R → ℕ → Option Text → State F R
with_waiting s k tag = with_agent s k (record (agent_of s k) { waits = tag })

-- The state after a call that is not refused, its own count aside.
unfoldable pub effect : {F R : Type 0} → Contents F R → State F R → Sizes → ℕ → Op → State F R
effect c s z k (GetDirectory bucket) = opens_bucket s bucket (agent_of s k).key
effect c s z k (GetDirectoryHandle dir name create) = made s (child (place_of dir) name) row.Directory
effect c s z k (GetFileHandle dir name create) = made s (child (place_of dir) name) (new_row c kind.File (moment_of s k))
effect c s z k (RemoveEntry dir name recursive) = without s (child (place_of dir) name)
effect c s z k (Values dir) = adds_own s k (c.iterator dir)
effect c s z k (Next n dir) = with_changed s k n (λ r. c.advanced r (children_of s (place_of dir)))
effect c s z k (Resolve dir entry) = s
effect c s z k (IsSameEntry entry other) = s
effect c s z k (GetFile at) = takes_snapshot c s k (file_at s (place_of at))
effect c s z k (Slice n at len) = s
effect c s z k (CreateWritable at keep) =
    opens_stream c s k (place_of at) (first_reserve c s at keep) keep (file_at s (place_of at))
effect c s z k (Write n bytes position) =
    with_changed s k n (λ r. c.written r (start_of z position) bytes (reserve_for (reserve_of (c.outline r)) (size_written z position bytes)))
effect c s z k (Seek n position) = with_changed s k n (λ r. c.sought r position)
effect c s z k (Truncate n size) =
    with_changed s k n (λ r. c.truncated r size (reserve_for (reserve_of (c.outline r)) size))
effect c s z k (Close n) = closes_stream c s z k n (open_stream c s k n)
effect c s z k (Abort n) = aborts_stream c s k n (open_stream c s k n)
effect c s z k (CreateSyncAccessHandle at m) =
    adds_own (with_file s (place_of at) (with_lock (want_of m))) k (c.handle (place_of at) m)
effect c s z k (SyncRead n len at) =
    with_changed s k n (λ r. c.moved r (cursor_after_read z len at) (reserve_of (c.outline r)))
effect c s z k (SyncWrite n bytes at) =
    changes_file c s k n (λ f. c.overwritten f (start_of z at) bytes) (start_of z at + length bytes) (size_written z at bytes) (open_handle c s k n)
effect c s z k (SyncTruncate n size) =
    changes_file c s k n (λ f. c.cut f size) (min z.position size) size (open_handle c s k n)
effect c s z k (SyncGetSize n) = s
effect c s z k (SyncFlush n) = flushes c s z k n (open_handle c s k n)
effect c s z k (SyncClose n) = closes_handle c s k n (open_handle c s k n)
effect c s z k (Persist bucket) = persists s bucket (agent_of s k).grant (agent_of s k).key
effect c s z k (Persisted bucket) = s
effect c s z k Estimate = s
effect c s z k (Moment ms) = with_agent s k (record (agent_of s k) { moment = ms })
effect c s z k (Post tag) = record s { posted = s.posted ++ record { party = party_of s k; tag = tag } ∷ [] }
effect c s z k (Await tag) = with_waiting s k None
effect c s z k (Wait tag) = with_waiting s k (Some tag)
effect c s z k (Discard n) = discards c s k n (open_handle c s k n)
effect c s z k End = with_agent s k (record (agent_of s k) { live = false; waits = None })
effect c s z k (Unbound word) = s
effect c s z k (Evict unit) = s

-- What a refused call changes: nothing, but that the answer Stuck ends the agent's waiting.
abbrev pub refused : {F R : Type 0} → State F R → ℕ → Op → State F R
refused s k (Await tag) = with_waiting s k None
refused s k op = s
