-- The rounds of a pipe. This project's own.
use Rattle.std.specs.Prelude.{◌≡◌, ℕ, ◌<◌, ◌≤◌, List, ◌++◌, length, Result, Ok, Err}
use Rattle.std.specs.List.{concat}
use Rattle.opfs_base.specs.Texts.{Text}
use Rattle.opfs_turns.specs.Asking.Rows.{SnapshotSeen, StreamSeen}
use Rattle.opfs_turns.specs.declared.asking.stop.Stop.{Stop}
use Rattle.opfs_turns.specs.Agents.{AgentSeen}
use Rattle.opfs_pipe.specs.Pieces.{ArePages, IsCut}
use Rattle.opfs_pipe.specs.Sides.{Failed, IsNextWrite, Sliced, Written}

-- Pieces went through the ring: what was sliced was written.
pub record Passed {O : Type 0} (tells : Type 0) (reader_old reader_new writer_old writer_new : AgentSeen O) (x : SnapshotSeen) (place : ℕ) (old new : StreamSeen) (was is : List Text) : Type 0 where
  pub pieces : List Text
  pub grown : is ≡ was ++ pieces
  pub sliced : Sliced tells reader_old reader_new x place pieces
  pub written : Written tells writer_old writer_new old new pieces

-- Of the pieces that were sliced a front was written.
pub record Halted {O : Type 0} (tells : Type 0) (reader_old reader_new writer_old writer_new : AgentSeen O) (x : SnapshotSeen) (place : ℕ) (old new : StreamSeen) (was is : List Text) (why : Stop) : Type 0 where
  pub pieces : List Text
  pub grown : is ≡ was ++ pieces
  pub sliced : Sliced tells reader_old reader_new x place pieces
  pub written : List Text
  pub rest : List Text
  pub front : written ++ rest ≡ pieces
  pub failed : Failed tells writer_old writer_new old new written (IsNextWrite rest) why

-- A round passes pieces on, and gets on; or it halts, at some place.
abbrev pub HasRound : {O : Type 0} → Type 0 → AgentSeen O → AgentSeen O → AgentSeen O → AgentSeen O → SnapshotSeen → ℕ → ℕ → ℕ → StreamSeen → StreamSeen → List Text → List Text → Result ℕ Stop → Type 0
HasRound tells rb ra wb wa x at place end old new was is (Ok next) = (place < next) × IsCut x.bytes at next end is × Passed tells rb ra wb wa x place old new was is
HasRound tells rb ra wb wa x at place end old new was is (Err why) = ((next : ℕ) × IsCut x.bytes at next end is) × Halted tells rb ra wb wa x place old new was is why

-- A range went through, in pieces.
pub record Moved {O : Type 0} (tells : Type 0) (reader_old reader_new writer_old writer_new : AgentSeen O) (x : SnapshotSeen) (at : ℕ) (old new : StreamSeen) (range : Text) : Type 0 where
  pub pieces : List Text
  pub few : length pieces ≤ 65536
  pub pages : ArePages pieces
  pub whole : concat pieces ≡ range
  pub sliced : Sliced tells reader_old reader_new x at pieces
  pub written : Written tells writer_old writer_new old new pieces

-- A front of it was sliced, in pieces, and a front of these pieces was written.
pub record MovedPart {O : Type 0} (tells : Type 0) (reader_old reader_new writer_old writer_new : AgentSeen O) (x : SnapshotSeen) (at : ℕ) (old new : StreamSeen) (range : Text) (why : Stop) : Type 0 where
  pub pieces : List Text
  pub few : length pieces ≤ 65536
  pub pages : ArePages pieces
  pub left : Text
  pub part : concat pieces ++ left ≡ range
  pub sliced : Sliced tells reader_old reader_new x at pieces
  pub written : List Text
  pub rest : List Text
  pub front : written ++ rest ≡ pieces
  pub failed : Failed tells writer_old writer_new old new written (IsNextWrite rest) why

abbrev pub HasMoved : {O : Type 0} → Type 0 → AgentSeen O → AgentSeen O → AgentSeen O → AgentSeen O → SnapshotSeen → ℕ → StreamSeen → StreamSeen → Text → Result (Unit {0}) Stop → Type 0
HasMoved tells rb ra wb wa x at old new range (Ok done) = Moved tells rb ra wb wa x at old new range
HasMoved tells rb ra wb wa x at old new range (Err why) = MovedPart tells rb ra wb wa x at old new range why
