-- Which calls of its agent a call on a key-value file makes. This project's own.
use Rattle.std.specs.Prelude.{◌≡◌, ◌⊎◌, ℕ, ◌≤◌, true, length, map, Option, Some, None}
use Rattle.opfs_base.specs.Texts.{Text}
use Rattle.opfs_hist.specs.declared.op.Op.{Op}
use Rattle.opfs_hist.specs.declared.op.Op.TheVariants as op
use Rattle.opfs_kv.specs.Records.Maps.{Map}
use Rattle.opfs_kv.specs.Records.Records.{log_of, put_of}
use Rattle.opfs_kv.specs.Seen.{IsTidiedNow, KvSeen}
use Rattle.opfs_kv.specs.declared.records.place.Place.{Place}

-- A pending tail is cut to the live bytes.
abbrev pub IsCut : KvSeen → Op → Type 0
IsCut kv called = (kv.tail ≡ true) × (called ≡ op.SyncTruncate kv.handle.row kv.live)

-- A pending tail is cut, or another call is made.
abbrev pub IsCutOr : KvSeen → (Op → Type 0) → Op → Type 0
IsCutOr kv Other called = IsCut kv called ⊎ Other called

-- A record is written behind the live bytes.
abbrev pub IsAppend : KvSeen → Text → Op → Type 0
IsAppend kv record_bytes called = called ≡ op.SyncWrite kv.handle.row record_bytes (Some kv.live)

-- The file is flushed, or closed.
abbrev pub IsFlush : KvSeen → Op → Type 0
IsFlush kv called = called ≡ op.SyncFlush kv.handle.row

abbrev pub IsClose : KvSeen → Op → Type 0
IsClose kv called = called ≡ op.SyncClose kv.handle.row

-- The value at a place is read; of a key that is not there nothing is.
abbrev pub IsGet : ℕ → Option Place → Op → Type 0
IsGet row None called = ⊥
IsGet row (Some place) called = called ≡ op.SyncRead row place.len (Some place.at)

-- The live bytes are read, the records of a map are written by key at the start, and what is behind them is cut.
abbrev pub IsReadAll : KvSeen → Op → Type 0
IsReadAll kv called = called ≡ op.SyncRead kv.handle.row kv.live (Some 0)

abbrev pub IsRewrite : Type 0 → ℕ → Map → Op → Type 0
IsRewrite tells row m called = (bytes : Text) × (tells → bytes ≡ log_of (map put_of m)) × (called ≡ op.SyncWrite row bytes (Some 0))

abbrev pub IsEndCut : Type 0 → ℕ → Map → Op → Type 0
IsEndCut tells row m called = (len : ℕ) × (tells → len ≡ length (log_of (map put_of m))) × (called ≡ op.SyncTruncate row len)

abbrev pub IsRepack : Type 0 → KvSeen → Map → Op → Type 0
IsRepack tells kv m called = IsReadAll kv called ⊎ (IsRewrite tells kv.handle.row m called ⊎ IsEndCut tells kv.handle.row m called)

-- The file is flushed; where it compacts by itself, that comes first.
abbrev pub IsTidyFlush : Type 0 → KvSeen → Map → Op → Type 0
IsTidyFlush tells kv m called = IsFlush kv called ⊎ (IsTidiedNow kv × IsRepack tells kv m called)

-- So many bytes are read at once.
abbrev pub piece_bytes : ℕ
piece_bytes = 65536

-- A file's length is asked for; a piece of it is read, where it is not too long.
abbrev pub IsPieceRead : ℕ → Op → Type 0
IsPieceRead row called = (at : ℕ) × (called ≡ op.SyncRead row piece_bytes (Some at))

abbrev pub IsOpening : Text → ℕ → Op → Type 0
IsOpening bytes row called = (called ≡ op.SyncGetSize row) ⊎ ((length bytes ≤ 16777216) × IsPieceRead row called)
