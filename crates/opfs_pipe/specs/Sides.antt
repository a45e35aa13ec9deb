-- What the two sides of a pipe do. This project's own.
use Rattle.std.specs.Prelude.{◌≡◌, ℕ, ◌+◌, ◌<◌, List, [], ◌∷◌, ◌++◌, length, map, None, Result, Ok, Err}
use Rattle.std.specs.List.{concat}
use Rattle.opfs_base.specs.Texts.{Text}
use Rattle.opfs_turns.specs.Asking.Rows.{HasClosedStream, HasSnapshot, HasStream, SnapshotSeen, StreamSeen}
use Rattle.opfs_turns.specs.declared.asking.stop.Stop.{Stop}
use Rattle.opfs_turns.specs.declared.asking.stop.Stop.TheVariants as stop
use Rattle.opfs_hist.specs.declared.op.Op.{Op}
use Rattle.opfs_hist.specs.declared.op.Op.TheVariants as op
use Rattle.opfs_hist.specs.declared.reply.Reply.{Reply}
use Rattle.opfs_hist.specs.declared.reply.Reply.TheVariants as reply
use Rattle.opfs_sync_files.specs.Entries.{GoesOn}
use Rattle.opfs_sync_files.specs.Resting.{LeavesRest}
use Rattle.opfs_turns.specs.Agents.{AgentSeen}
use Rattle.opfs_pipe.specs.Pieces.{IsCut, slices_of, write_of}
use Rattle.opfs_pipe.specs.Streams.{StoresLast, calls_of, stream_bytes, stream_offset}

-- ---- the reader's side

-- The agent has sliced these pieces out of its snapshot, from a place on, and made no other call.
pub record Sliced {O : Type 0} (tells : Type 0) (before after : AgentSeen O) (x : SnapshotSeen) (at : ℕ) (pieces : List Text) : Type 0 where
  pub has : HasSnapshot tells after x
  pub goes : GoesOn before after (length pieces)
  pub others : LeavesRest tells before after 0
  pub calls : calls_of after ≡ calls_of before ++ slices_of x.row at pieces

-- From a place on, up to the next one, the pieces were sliced and pushed. The bytes are cut from `at` to the end.
pub record Filled {O : Type 0} (tells : Type 0) (before after : AgentSeen O) (x : SnapshotSeen) (at place end : ℕ) (old new : List Text) (next : ℕ) : Type 0 where
  pub pieces : List Text
  pub grown : new ≡ old ++ pieces
  pub cut : IsCut x.bytes at next end new
  pub sliced : Sliced tells before after x place pieces

-- It gets on; or there was no memory.
abbrev pub HasFilled : {O : Type 0} → Type 0 → AgentSeen O → AgentSeen O → SnapshotSeen → ℕ → ℕ → ℕ → List Text → List Text → Result ℕ Stop → Type 0
HasFilled tells before after x at place end old new (Ok next) = (place < next) × Filled tells before after x at place end old new next
HasFilled tells before after x at place end old new (Err why) = (why ≡ stop.NoMemory) × ((next : ℕ) × Filled tells before after x at place end old new next)

-- ---- the writer's side

-- The agent has written these pieces at the end of its stream, each by one call, and made no other call.
pub record Written {O : Type 0} (tells : Type 0) (before after : AgentSeen O) (old new : StreamSeen) (pieces : List Text) : Type 0 where
  pub has : HasStream tells after new
  pub row : new.row ≡ old.row
  pub file : new.file ≡ old.file
  pub goes : GoesOn before after (length pieces)
  pub others : LeavesRest tells before after old.row
  pub bytes : stream_bytes after new ≡ stream_bytes before old ++ concat pieces
  pub offset : stream_offset after new ≡ stream_offset before old + length (concat pieces)
  pub calls : calls_of after ≡ calls_of before ++ map (write_of old.row) pieces

-- The call of a row that comes next: the write of a piece at no position; that of the first of these pieces; or the close, where no
-- piece is left, and no byte of the range behind them.
abbrev pub IsWrite : Text → ℕ → Op → Type 0
IsWrite piece row called = called ≡ op.Write row piece None

abbrev pub IsClose : ℕ → Op → Type 0
IsClose row called = called ≡ op.Close row

abbrev pub IsNextWrite : List Text → ℕ → Op → Type 0
IsNextWrite [] row called = ⊥
IsNextWrite (piece ∷ rest) row called = called ≡ op.Write row piece None

abbrev pub IsNext : List Text → Text → ℕ → Op → Type 0
IsNext [] left row called = (called ≡ op.Close row) × (left ≡ [])
IsNext (piece ∷ rest) left row called = called ≡ op.Write row piece None

-- The call that was refused, which is one of these; none for want of memory.
abbrev pub IsLast : (Op → Type 0) → Stop → List (Op × Reply) → Type 0
IsLast Next (stop.No r) last = (called : Op) × Next called × (last ≡ (called, reply.No r) ∷ [])
IsLast Next stop.NoMemory last = last ≡ []

-- It has written these pieces, and no more: the next call, which is one of these, was refused, or there was no memory. The stream is
-- open.
pub record Failed {O : Type 0} (tells : Type 0) (before after : AgentSeen O) (old new : StreamSeen) (pieces : List Text) (Next : ℕ → Op → Type 0) (why : Stop) : Type 0 where
  pub has : HasStream tells after new
  pub row : new.row ≡ old.row
  pub file : new.file ≡ old.file
  pub goes : GoesOn before after (length pieces + 1)
  pub others : LeavesRest tells before after old.row
  pub bytes : stream_bytes after new ≡ stream_bytes before old ++ concat pieces
  pub last : List (Op × Reply)
  pub is_last : IsLast (Next old.row) why last
  pub calls : calls_of after ≡ (calls_of before ++ map (write_of old.row) pieces) ++ last

-- One piece was written, or it was not.
abbrev pub HasWritten : {O : Type 0} → Type 0 → AgentSeen O → AgentSeen O → StreamSeen → StreamSeen → Text → Result (Unit {0}) Stop → Type 0
HasWritten tells before after old new piece (Ok done) = Written tells before after old new (piece ∷ [])
HasWritten tells before after old new piece (Err why) = Failed tells before after old new [] (IsWrite piece) why

-- All pieces that were popped were written.
pub record Drained {O : Type 0} (tells : Type 0) (before after : AgentSeen O) (old new : StreamSeen) (got gotten : List Text) : Type 0 where
  pub pieces : List Text
  pub grown : gotten ≡ got ++ pieces
  pub written : Written tells before after old new pieces

-- All but the last one were.
pub record Lost {O : Type 0} (tells : Type 0) (before after : AgentSeen O) (old new : StreamSeen) (got gotten : List Text) (why : Stop) : Type 0 where
  pub pieces : List Text
  pub lost : Text
  pub grown : gotten ≡ got ++ (pieces ++ lost ∷ [])
  pub failed : Failed tells before after old new pieces (IsWrite lost) why

abbrev pub HasDrained : {O : Type 0} → Type 0 → AgentSeen O → AgentSeen O → StreamSeen → StreamSeen → List Text → List Text → Result (Unit {0}) Stop → Type 0
HasDrained tells before after old new got gotten (Ok done) = Drained tells before after old new got gotten
HasDrained tells before after old new got gotten (Err why) = Lost tells before after old new got gotten why

-- The stream is closed, by the agent's one call, and its bytes are the content of its file for good.
pub record IsStored {O : Type 0} (tells : Type 0) (before after : AgentSeen O) (w : StreamSeen) (row : ℕ) (bytes : Text) : Type 0 where
  pub same : row ≡ w.row
  pub closed : HasClosedStream after row
  pub goes : GoesOn before after 1
  pub others : LeavesRest tells before after w.row
  pub calls : calls_of after ≡ calls_of before ++ (op.Close w.row, reply.Done) ∷ []
  pub content : StoresLast before after w bytes
