-- How a key-value file is read when it is opened, piece by piece. This project's own.
use Rattle.std.specs.Prelude.{◌≡◌, ℕ, ◌≤◌}
use Rattle.opfs_base.specs.Texts.{Text}
use Rattle.opfs_turns.specs.Asking.Rows.{HandleSeen, HasHandle}
use Rattle.opfs_turns.specs.declared.asking.stop.Stop.TheVariants as stop
use Rattle.opfs_kv.specs.Records.Indexes.{IsFitting, Places}
use Rattle.opfs_kv.specs.Records.Scans.{HasFailed, HasRead, IsPiece}
use Rattle.opfs_kv.specs.declared.records.miss.Miss.{Miss}
use Rattle.opfs_kv.specs.declared.records.miss.Miss.TheVariants as miss
use Rattle.opfs_kv.specs.Asked.{IsPieceRead}
use Rattle.opfs_sync_files.specs.Entries.{GoesOn, IsCaused}
use Rattle.opfs_sync_files.specs.Files.{file_bytes, stored_of}
use Rattle.opfs_sync_files.specs.Resting.{LeavesRest}
use Rattle.opfs_turns.specs.Agents.{AgentSeen}
use Rattle.opfs_kv.specs.declared.stop.KvStop.{KvStop}
use Rattle.opfs_kv.specs.declared.stop.KvStop.TheVariants as kv_stop

-- Reads alone: the handle is open on the same file, whose bytes are as before, and nothing of it was stored. The agent's other own
-- rows are as they were.
pub record OnlyReads {O : Type 0} (tells : Type 0) (before after : AgentSeen O) (old new : HandleSeen) (count : ℕ) : Type 0 where
  pub has : HasHandle tells after new
  pub row : new.row ≡ old.row
  pub file : new.file ≡ old.file
  pub mode_is : new.mode ≡ old.mode
  pub goes : GoesOn before after count
  pub others : LeavesRest tells before after old.row
  pub bytes : file_bytes after new ≡ file_bytes before old
  pub stored : stored_of after new ≡ stored_of before old

-- From a place on the file was read up to another.
pub record IsScanned (tells : Type 0) (bytes : Text) (at : ℕ) (before : Places) (next size : ℕ) (index : Places) : Type 0 where
  pub on : at ≤ next
  pub inside : next ≤ size
  pub fitting : IsFitting next index
  pub read : tells → HasRead bytes at before next index

-- Why it was not.
abbrev pub HasScanCause : {O : Type 0} → Type 0 → AgentSeen O → AgentSeen O → ℕ → Text → ℕ → Places → KvStop → Type 0
HasScanCause tells before after row bytes at index (kv_stop.BadFile place) = tells → HasFailed bytes at index place
HasScanCause tells before after row bytes at index (kv_stop.Agent why) = IsCaused before after (IsPieceRead row) why
HasScanCause tells before after row bytes at index (kv_stop.Full long need) = ⊥

abbrev pub stop_of : Miss → KvStop
stop_of miss.Memory = kv_stop.Agent stop.NoMemory
stop_of (miss.Bad place) = kv_stop.BadFile place

-- What a piece's reading says where it ends early.
abbrev pub HasEnded : ℕ → ℕ → Text → Places → KvStop → Type 0
HasEnded size at piece before (kv_stop.BadFile place) = (whole : Text) → IsPiece whole size at piece → HasFailed whole at before place
HasEnded size at piece before (kv_stop.Agent why) = why ≡ stop.NoMemory
HasEnded size at piece before (kv_stop.Full long need) = ⊥
