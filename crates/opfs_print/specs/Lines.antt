-- The transcript of a history: this project's own. A name, and a list of names, stand as the JSON text that the crate
-- `serde_json` writes, bytes as lower case hexadecimal.
use Rattle.std.specs.Prelude.{ℕ, true, false, List, [], ◌∷◌, ◌++◌, length, map, flat_map, codes, decimal}
use Rattle.hex.specs.Hex.{encode_lower}
use Rattle.serde_json.specs.Data.{string, array}
use Rattle.serde_json.specs.View.{items_of}
use Rattle.serde_json.specs.Written.{compact_text}
use Rattle.opfs_base.specs.Texts.{Text}
use Rattle.opfs_base.specs.declared.locator.Kind.{Kind}
use Rattle.opfs_base.specs.declared.locator.Kind.TheVariants as kind
use Rattle.opfs_locks.specs.declared.LockValue.{LockValue}
use Rattle.opfs_locks.specs.declared.LockValue.TheVariants as value
use Rattle.opfs_hist.specs.declared.op.Word.{Word}
use Rattle.opfs_hist.specs.declared.op.Word.TheVariants as word
use Rattle.opfs_hist.specs.declared.op.Op.{Op}
use Rattle.opfs_hist.specs.declared.op.Op.TheVariants as op
use Rattle.opfs_hist.specs.declared.reply.Reply.{Reply}
use Rattle.opfs_hist.specs.declared.reply.Reply.TheVariants as reply
use Rattle.opfs_hist.specs.declared.reply.Refusal.{Refusal}
use Rattle.opfs_hist.specs.declared.reply.Refusal.TheVariants as refusal
use Rattle.opfs_hist.specs.declared.entry.Entry.{Entry}

-- Pieces of text, one after another.
abbrev pub joined : List Text → Text
joined [] = []
joined (text ∷ []) = text
joined (text ∷ next ∷ texts) = text ++ joined (next ∷ texts)

-- A word of a script.
abbrev pub word_text : Word → Text
word_text word.GetDirectory = codes "getDirectory"
word_text word.GetDirectoryHandle = codes "getDirectoryHandle"
word_text word.GetFileHandle = codes "getFileHandle"
word_text word.RemoveEntry = codes "removeEntry"
word_text word.Values = codes "values"
word_text word.Next = codes "next"
word_text word.Resolve = codes "resolve"
word_text word.IsSameEntry = codes "isSameEntry"
word_text word.GetFile = codes "getFile"
word_text word.Slice = codes "slice"
word_text word.CreateWritable = codes "createWritable"
word_text word.Write = codes "write"
word_text word.Seek = codes "seek"
word_text word.Truncate = codes "truncate"
word_text word.Close = codes "close"
word_text word.Abort = codes "abort"
word_text word.CreateSyncAccessHandle = codes "createSyncAccessHandle"
word_text word.SyncRead = codes "syncRead"
word_text word.SyncWrite = codes "syncWrite"
word_text word.SyncTruncate = codes "syncTruncate"
word_text word.SyncGetSize = codes "syncGetSize"
word_text word.SyncFlush = codes "syncFlush"
word_text word.SyncClose = codes "syncClose"
word_text word.Persist = codes "persist"
word_text word.Persisted = codes "persisted"
word_text word.Estimate = codes "estimate"
word_text word.Moment = codes "moment"
word_text word.Post = codes "post"
word_text word.Await = codes "await"

-- The word of a call.
abbrev pub op_text : Op → Text
op_text (op.GetDirectory bucket) = word_text word.GetDirectory
op_text (op.GetDirectoryHandle dir name create) = word_text word.GetDirectoryHandle
op_text (op.GetFileHandle dir name create) = word_text word.GetFileHandle
op_text (op.RemoveEntry dir name recursive) = word_text word.RemoveEntry
op_text (op.Values dir) = word_text word.Values
op_text (op.Next row dir) = word_text word.Next
op_text (op.Resolve dir entry) = word_text word.Resolve
op_text (op.IsSameEntry entry other) = word_text word.IsSameEntry
op_text (op.GetFile file) = word_text word.GetFile
op_text (op.Slice row at len) = word_text word.Slice
op_text (op.CreateWritable file keep) = word_text word.CreateWritable
op_text (op.Write row bytes position) = word_text word.Write
op_text (op.Seek row position) = word_text word.Seek
op_text (op.Truncate row size) = word_text word.Truncate
op_text (op.Close row) = word_text word.Close
op_text (op.Abort row) = word_text word.Abort
op_text (op.CreateSyncAccessHandle file mode) = word_text word.CreateSyncAccessHandle
op_text (op.SyncRead row len at) = word_text word.SyncRead
op_text (op.SyncWrite row bytes at) = word_text word.SyncWrite
op_text (op.SyncTruncate row size) = word_text word.SyncTruncate
op_text (op.SyncGetSize row) = word_text word.SyncGetSize
op_text (op.SyncFlush row) = word_text word.SyncFlush
op_text (op.SyncClose row) = word_text word.SyncClose
op_text (op.Persist bucket) = word_text word.Persist
op_text (op.Persisted bucket) = word_text word.Persisted
op_text op.Estimate = word_text word.Estimate
op_text (op.Moment ms) = word_text word.Moment
op_text (op.Post tag) = word_text word.Post
op_text (op.Await tag) = word_text word.Await
op_text (op.Wait tag) = codes "wait"
op_text (op.Discard row) = codes "discard"
op_text op.End = codes "end"
op_text (op.Unbound word) = word_text word
op_text (op.Evict key) = codes "evict"

-- What a lock is.
abbrev pub lock_text : LockValue → Text
lock_text value.Free = codes "open"
lock_text value.Exclusive = codes "taken-exclusive"
lock_text value.Shared = codes "taken-shared"
lock_text value.ReadOnly = codes "taken-read-only"

-- What an entry is.
abbrev pub kind_text : Kind → Text
kind_text kind.File = codes "file"
kind_text kind.Directory = codes "directory"

-- A name as JSON.
abbrev pub name_text : Text → Text
name_text name = compact_text (string name)

-- A list of names as JSON.
abbrev pub names_text : List Text → Text
names_text names = compact_text (array (items_of (map string names)))

-- Two numbers behind a word.
abbrev pub two_text : Text → ℕ → ℕ → Text
two_text name a b = joined (name ∷ decimal a ∷ codes " " ∷ decimal b ∷ [])

-- Three numbers behind a word.
abbrev pub three_text : Text → ℕ → ℕ → ℕ → Text
three_text name a b c = joined (name ∷ decimal a ∷ codes " " ∷ decimal b ∷ codes " " ∷ decimal c ∷ [])

-- A refusal and what it carries.
abbrev pub refusal_text : Refusal → Text
refusal_text refusal.TypeError = codes "TypeError"
refusal_text refusal.NotFoundError = codes "NotFoundError"
refusal_text refusal.TypeMismatchError = codes "TypeMismatchError"
refusal_text refusal.InvalidModificationError = codes "InvalidModificationError"
refusal_text (refusal.NoModificationAllowedError v n) =
    joined (codes "NoModificationAllowedError " ∷ lock_text v ∷ codes " " ∷ decimal n ∷ [])
refusal_text refusal.InvalidStateError = codes "InvalidStateError"
refusal_text refusal.SecurityError = codes "SecurityError"
refusal_text (refusal.QuotaExceededError usage need quota) = three_text (codes "QuotaExceededError ") usage need quota
refusal_text refusal.NameLimit = codes "NameLimit"
refusal_text (refusal.MetaFull charge growth area) = three_text (codes "MetaFull ") charge growth area
refusal_text (refusal.DataFull pool need size) = three_text (codes "DataFull ") pool need size
refusal_text refusal.DiskFault = codes "DiskFault"
refusal_text refusal.Stuck = codes "Stuck"
refusal_text refusal.Unbound = codes "Unbound"

-- Bytes that were read: how many, and the bytes where there are any.
abbrev pub read_text : Text → Text
read_text [] = codes "ok 0"
read_text (byte ∷ bytes) =
    joined (codes "ok " ∷ decimal (length (byte ∷ bytes)) ∷ codes " " ∷ encode_lower (byte ∷ bytes) ∷ [])

-- A reply.
abbrev pub reply_text : Reply → Text
reply_text reply.Done = codes "ok"
reply_text (reply.Length n) = codes "ok " ++ decimal n
reply_text (reply.Flag true) = codes "ok true"
reply_text (reply.Flag false) = codes "ok false"
reply_text (reply.Child k name) = joined (codes "ok " ∷ kind_text k ∷ codes " " ∷ name_text name ∷ [])
reply_text reply.Last = codes "ok end"
reply_text reply.NoPath = codes "ok null"
reply_text (reply.Names path) = codes "ok " ++ names_text path
reply_text (reply.FileInfo size stamp) = two_text (codes "ok ") size stamp
reply_text (reply.Read bytes) = read_text bytes
reply_text (reply.Estimate usage quota) = two_text (codes "ok ") usage quota
reply_text (reply.Gone key) = key
reply_text (reply.No r) = refusal_text r

-- A call's line: the agent, the entry's number, the word and the reply.
abbrev pub call_text : Entry → Text
call_text entry =
    joined (decimal entry.agent ∷ codes "." ∷ decimal entry.number ∷ codes " " ∷ op_text entry.op ∷ codes " "
    ∷ reply_text entry.reply ∷ codes "\n" ∷ [])

-- An entry's line by its call: none where an agent begins to wait, and an eviction names the unit alone.
abbrev pub line_by : Op → Entry → Text
line_by (op.Wait tag) entry = []
line_by (op.Evict key) entry = joined (codes "evict " ∷ key ∷ codes "\n" ∷ [])
line_by _ entry = call_text entry

-- An entry's line.
abbrev pub line_of : Entry → Text
line_of entry = line_by entry.op entry

-- The transcript of a history.
abbrev pub text_of : List Entry → Text
text_of entries = flat_map line_of entries
