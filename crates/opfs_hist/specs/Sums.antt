-- What a list of entries adds up to: this project's own.
use Rattle.std.specs.Prelude.{ℕ, Bool, true, false, not, ◌&&◌, List, Option, Some, None, fold}
use Rattle.std.specs.Option.{option_or}
use Rattle.opfs_hist.specs.declared.entry.Entry.{Entry}
use Rattle.opfs_hist.specs.declared.op.Op.{Op}
use Rattle.opfs_hist.specs.declared.op.Op.TheVariants as op
use Rattle.opfs_hist.specs.declared.reply.Reply.{Reply}
use Rattle.opfs_hist.specs.declared.reply.Reply.TheVariants as reply

-- Whether a call makes a stream, an access handle, a snapshot or an iterator where it is not refused.
abbrev pub asks_for_row : Op → Bool
asks_for_row (op.Values dir) = true
asks_for_row (op.GetFile file) = true
asks_for_row (op.CreateWritable file keep) = true
asks_for_row (op.CreateSyncAccessHandle file mode) = true
asks_for_row _ = false

-- Whether a reply is a refusal.
abbrev pub is_refusal : Reply → Bool
is_refusal (reply.No refusal) = true
is_refusal _ = false

-- Whether an entry made a stream, an access handle, a snapshot or an iterator.
abbrev pub makes_row : Entry → Bool
makes_row entry = asks_for_row entry.op && not (is_refusal entry.reply)

-- The moment that a call sets.
abbrev pub set_moment : Op → Option ℕ
set_moment (op.Moment ms) = Some ms
set_moment _ = None

-- The last moment that is set, after one more entry.
abbrev pub later_moment : Option ℕ → Entry → Option ℕ
later_moment last entry = option_or (set_moment entry.op) last

-- The last moment that the entries set.
abbrev pub last_moment : List Entry → Option ℕ
last_moment entries = fold later_moment None entries
