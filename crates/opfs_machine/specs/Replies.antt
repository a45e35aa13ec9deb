-- What each call answers where it is not refused.
use Rattle.std.specs.Prelude.{ℕ, ◌*◌, ◌||◌, List, [], length, Option, Some, None, unwrap_or}
use Rattle.opfs_base.specs.Texts.{Text}
use Rattle.opfs_base.specs.Places.{Place, place_of, child, resolved, same_locator}
use Rattle.opfs_base.specs.Units.{unit_of}
use Rattle.opfs_base.specs.declared.locator.Kind.{Kind}
use Rattle.opfs_base.specs.declared.locator.Kind.TheVariants as kind
use Rattle.opfs_hist.specs.declared.op.Op.{Op}
use Rattle.opfs_hist.specs.declared.op.Op.TheVariants.{Next, Resolve, IsSameEntry, GetFile, Slice, Write, Seek, Truncate, Close, Abort, SyncRead, SyncWrite, SyncTruncate, SyncGetSize, SyncFlush, SyncClose, Persist, Persisted, Estimate, Discard}
use Rattle.opfs_hist.specs.declared.reply.Reply.{Reply}
use Rattle.opfs_hist.specs.declared.reply.Reply.TheVariants as reply
use Rattle.opfs_machine.specs.declared.own.Own.{Own}
use Rattle.opfs_machine.specs.declared.own.Own.TheVariants as own
use Rattle.opfs_machine.specs.declared.own.HandleOutline.{HandleOutline}
use Rattle.opfs_machine.specs.declared.state.FileRow.{FileRow}
use Rattle.opfs_machine.specs.declared.state.Row.{Row}
use Rattle.opfs_machine.specs.declared.state.Sizes.{Sizes}
use Rattle.opfs_machine.specs.declared.state.State.{State}
use Rattle.opfs_machine.specs.Agents.{agent_of, own_of, open_handle}
use Rattle.opfs_machine.specs.Contents.{in_bytes, next_of}
use Rattle.opfs_machine.specs.Rows.{row_at, file_at, kind_of, children_of}
use Rattle.opfs_machine.specs.Rulings.{start_of}
use Rattle.opfs_machine.specs.Sums.{usage, is_persistent}
use Rattle.opfs_splice.specs.Splicing.{window}

-- The present bytes of a file; none where there is no such file.
abbrev pub bytes_in : Option (FileRow Text) → Text
bytes_in None = []
bytes_in (Some f) = f.present

abbrev pub bytes_at : State Text Own → Place → Text
bytes_at s place = bytes_in (file_at s place)

-- The sizes of the stream or access handle of a number.
abbrev pub sizes_in : State Text Own → Option Own → Sizes
sizes_in s (Some (own.Stream w)) = record { size = length w.buffer; position = w.offset }
sizes_in s (Some (own.Handle h)) = record { size = length (bytes_at s h.file); position = h.cursor }
sizes_in s r = record { size = 0; position = 0 }

-- The number of the stream or access handle that a call names; 0 where it names none.
abbrev pub row_named : Op → ℕ
row_named (Write n bytes position) = n
row_named (Seek n position) = n
row_named (Truncate n size) = n
row_named (Close n) = n
row_named (Abort n) = n
row_named (SyncRead n len at) = n
row_named (SyncWrite n bytes at) = n
row_named (SyncTruncate n size) = n
row_named (SyncGetSize n) = n
row_named (SyncFlush n) = n
row_named (SyncClose n) = n
row_named (Discard n) = n
row_named op = 0

-- The sizes of the stream or access handle that a call names.
abbrev pub sizes_of : State Text Own → ℕ → Op → Sizes
sizes_of s k op = sizes_in s (own_of (agent_of s k) (row_named op))

abbrev pub given_in : Option Own → List Text
given_in (Some (own.Iterator i)) = i.given
given_in r = []

abbrev pub snapshot_in : Option Own → Text
snapshot_in (Some (own.Snapshot bytes)) = bytes
snapshot_in r = []

abbrev pub kind_in : Option (Row Text) → Kind
kind_in None = kind.File
kind_in (Some r) = kind_of r

abbrev pub child_reply : State Text Own → Place → Option Text → Reply
child_reply s dir None = reply.Last
child_reply s dir (Some name) = reply.Child (kind_in (row_at s (child dir name))) name

abbrev pub path_reply : Option (List Text) → Reply
path_reply None = reply.NoPath
path_reply (Some names) = reply.Names names

abbrev pub file_reply : Option (FileRow Text) → Reply
file_reply None = reply.FileInfo 0 0
file_reply (Some f) = reply.FileInfo (length f.present) f.stamp

-- The present bytes of an access handle's file.
abbrev pub handle_bytes : State Text Own → Option HandleOutline → Text
handle_bytes s None = []
handle_bytes s (Some h) = bytes_at s h.file

-- The bytes of a block.
abbrev pub block_bytes : ℕ
block_bytes = 4096

abbrev pub origin_in : Option Text → Text
origin_in key = unwrap_or key []

unfoldable pub answer : State Text Own → Sizes → ℕ → Op → Reply
answer s z k (Next n dir) = child_reply s (place_of dir) (next_of (given_in (own_of (agent_of s k) n)) (children_of s (place_of dir)))
answer s z k (Resolve dir entry) = path_reply (resolved dir entry)
answer s z k (IsSameEntry entry other) = reply.Flag (same_locator entry other)
answer s z k (GetFile at) = file_reply (file_at s (place_of at))
answer s z k (Slice n at len) = reply.Read (window (snapshot_in (own_of (agent_of s k) n)) at len)
answer s z k (SyncRead n len at) = reply.Read (window (handle_bytes s (open_handle in_bytes s k n)) (start_of z at) len)
answer s z k (SyncWrite n bytes at) = reply.Length (length bytes)
answer s z k (SyncGetSize n) = reply.Length z.size
answer s z k (Persist bucket) =
    reply.Flag ((agent_of s k).grant || is_persistent s (unit_of (origin_in (agent_of s k).key) bucket))
answer s z k (Persisted bucket) = reply.Flag (is_persistent s (unit_of (origin_in (agent_of s k).key) bucket))
answer s z k Estimate =
    reply.Estimate (block_bytes * usage in_bytes s (origin_in (agent_of s k).key)) (block_bytes * s.limits.quota)
answer s z k op = reply.Done
