-- What calls on a key-value file answer. This project's own.
use Rattle.std.specs.Prelude.{◌≡◌, ℕ, ◌+◌, ◌<◌, ◌≤◌, length, [], Option, Some, None, Result, Ok, Err}
use Rattle.opfs_base.specs.Texts.{Text}
use Rattle.opfs_turns.specs.declared.asking.stop.Stop.{Stop}
use Rattle.opfs_kv.specs.Records.Scans.{HasFailed}
use Rattle.opfs_kv.specs.declared.records.place.Place.{Place}
use Rattle.opfs_hist.specs.declared.op.Op.{Op}
use Rattle.opfs_kv.specs.Asked.{IsOpening}
use Rattle.opfs_sync_files.specs.Entries.{IsCaused}
use Rattle.opfs_sync_files.specs.Files.{ReadsOnce}
use Rattle.opfs_turns.specs.Agents.{AgentSeen}
use Rattle.opfs_kv.specs.declared.stop.KvStop.{KvStop}
use Rattle.opfs_kv.specs.declared.stop.KvStop.TheVariants as kv_stop

-- The bytes that a key-value file may have at most.
abbrev pub limit : ℕ
limit = 16777216

-- Why a call gave nothing: there is no room for so many bytes behind the live ones, or one of these calls of the agent gave nothing.
abbrev pub HasCause : {O : Type 0} → AgentSeen O → AgentSeen O → (Op → Type 0) → ℕ → ℕ → KvStop → Type 0
HasCause before after Asked live need (kv_stop.Full length more) = (length ≡ live) × (more ≡ need) × (16777216 < live + need)
HasCause before after Asked live need (kv_stop.Agent why) = IsCaused before after Asked why
HasCause before after Asked live need (kv_stop.BadFile place) = ⊥

-- The same of a call that needs no room.
abbrev pub HasPlainCause : {O : Type 0} → AgentSeen O → AgentSeen O → (Op → Type 0) → KvStop → Type 0
HasPlainCause before after Asked (kv_stop.Agent why) = IsCaused before after Asked why
HasPlainCause before after Asked why = ⊥

-- Why a file was not opened: it is too long, which is judged first; or from its start on records were read up to the first place
-- where none is spelled; or a call of the agent gave nothing. Of a file that is too long nothing is read.
abbrev pub HasOpenCause : {O : Type 0} → Type 0 → AgentSeen O → AgentSeen O → ℕ → Text → KvStop → Type 0
HasOpenCause tells before after row bytes (kv_stop.Full long need) = (long ≡ length bytes) × (need ≡ 0) × (16777216 < length bytes)
HasOpenCause tells before after row bytes (kv_stop.BadFile place) = (length bytes ≤ 16777216) × (tells → HasFailed bytes 0 [] place)
HasOpenCause tells before after row bytes (kv_stop.Agent why) = IsCaused before after (IsOpening bytes row) why

-- What a read of a value gives.
abbrev pub value_read : Result Text Stop → Result (Option Text) KvStop
value_read (Ok bytes) = Ok (Some bytes)
value_read (Err why) = Err (kv_stop.Agent why)

-- A key that is not there asks nothing of the agent, and the value of one that is there is read alone, by one call.
pub record IsRead {O : Type 0} (tells : Type 0) (before after : AgentSeen O) (row : ℕ) (place : Place) (result : Result (Option Text) KvStop) : Type 0 where
  pub read : Result Text Stop
  pub once : ReadsOnce tells before after row place.len place.at read
  pub gives : result ≡ value_read read

abbrev pub IsGotten : {O : Type 0} → Type 0 → AgentSeen O → AgentSeen O → ℕ → Option Place → Result (Option Text) KvStop → Type 0
IsGotten tells before after row None result = (result ≡ Ok None) × (after ≡ before)
IsGotten tells before after row (Some place) result = IsRead tells before after row place result
