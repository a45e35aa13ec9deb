-- A list of commands on a key-value file, and what a map answers to them. This project's own.
use Rattle.std.specs.Prelude.{◌≡◌, ◌≢◌, ℕ, ◌+◌, ◌<◌, ◌≤◌, Bool, true, false, List, [], ◌∷◌, ◌++◌, length, Some, None, is_some}
use Rattle.opfs_base.specs.Texts.{Text}
use Rattle.opfs_hist.specs.declared.op.Op.{Op}
use Rattle.opfs_kv.specs.Records.Maps.{Map, found, with_key, without_key}
use Rattle.opfs_kv.specs.Records.Records.{IsKey, IsValue, spelled_by}
use Rattle.opfs_sync_files.specs.Entries.{GoesOn, IsCaused}
use Rattle.opfs_sync_files.specs.Resting.{LeavesRest}
use Rattle.opfs_turns.specs.Agents.{AgentSeen}
use Rattle.opfs_kv.specs.Asked.{IsAppend, IsCutOr, IsFlush, IsGet, IsRepack}
use Rattle.opfs_kv.specs.Keeping.{Spells}
use Rattle.opfs_kv.specs.Seen.{DoubtsSpell, KvSeen, Stands, map_in, stored_in}
use Rattle.opfs_kv.specs.declared.commands.commands.KvOp.{KvOp}
use Rattle.opfs_kv.specs.declared.commands.commands.KvOp.TheVariants as op
use Rattle.opfs_kv.specs.declared.commands.commands.KvReply.{KvReply}
use Rattle.opfs_kv.specs.declared.commands.commands.KvReply.TheVariants as kv_reply
use Rattle.opfs_kv.specs.declared.stop.KvStop.TheVariants as kv_stop

-- Keys have 1 to 255 bytes, and values at most 65,536.
abbrev pub IsOp : KvOp → Type 0
IsOp (op.Put key value) = IsKey key × IsValue value
IsOp (op.Delete key) = IsKey key
IsOp called = Unit {0}

-- The map after a command that is not refused.
abbrev pub done : Map → KvOp → Map
done m (op.Put key value) = with_key m key value
done m (op.Delete key) = without_key m key
done m called = m

-- What a map answers.
abbrev pub reply_of : Map → KvOp → KvReply
reply_of m (op.Get key) = kv_reply.Value (found m key)
reply_of m (op.Delete key) = kv_reply.Was (is_some (found m key))
reply_of m called = kv_reply.Done

-- The map after a command with its reply: a refused one leaves it.
abbrev pub after_op : Map → KvOp → KvReply → Map
after_op m called (kv_reply.No why) = m
after_op m called answered = done m called

-- A reply is that of a map, or a refusal.
abbrev pub IsReply : Map → KvOp → KvReply → Type 0
IsReply m called (kv_reply.No why) = Unit {0}
IsReply m called answered = answered ≡ reply_of m called

abbrev pub AreReplies : Map → List KvOp → List KvReply → Type 0
AreReplies m [] [] = Unit {0}
AreReplies m (o ∷ ops) (r ∷ replies) = IsReply m o r × AreReplies (after_op m o r) ops replies
AreReplies m ops replies = ⊥

-- The map after commands with their replies.
abbrev pub map_after : Map → List KvOp → List KvReply → Map
map_after m (o ∷ ops) (r ∷ replies) = map_after (after_op m o r) ops replies
map_after m ops replies = m

-- Whether a command stored the file: a flush that is done.
abbrev pub stores : KvOp → KvReply → Bool
stores op.Flush kv_reply.Done = true
stores called answered = false

abbrev pub AreStoredBy : Bool → Map → List Text → (List Text → Type 0) → Type 0
AreStoredBy true m [] More = ⊥
AreStoredBy true m (text ∷ texts) More = Spells text m × More texts
AreStoredBy false m texts More = More texts

-- Each flush that was done stored one content, records that stand for the map after the commands up to it. Nothing else stored one.
abbrev pub AreStored : Map → List KvOp → List KvReply → List Text → Type 0
AreStored m (o ∷ ops) (r ∷ replies) texts = AreStoredBy (stores o r) (after_op m o r) texts (AreStored (after_op m o r) ops replies)
AreStored m ops replies texts = texts ≡ []

-- The bytes that a command's record takes.
abbrev pub need_of : KvOp → ℕ
need_of (op.Put key value) = 6 + length key + length value
need_of (op.Delete key) = 2 + length key
need_of called = 0

-- A command's record has no room behind the live bytes: that of a put, or of a delete of a key that is there.
abbrev pub LacksRoom : KvSeen → KvOp → Type 0
LacksRoom kv (op.Put key value) = 16777216 < kv.live + (6 + length key + length value)
LacksRoom kv (op.Delete key) = (found kv.index key ≢ None) × (16777216 < kv.live + (2 + length key))
LacksRoom kv called = ⊥

-- A put that is done, and a delete of a key that is there, make the live bytes longer by their record.
abbrev pub GrowsLive : KvSeen → KvSeen → KvOp → KvReply → Type 0
GrowsLive old new (op.Put key value) kv_reply.Done = new.live ≡ old.live + (6 + length key + length value)
GrowsLive old new (op.Delete key) (kv_reply.Was was) = found old.index key ≢ None → new.live ≡ old.live + (2 + length key)
GrowsLive old new called answered = Unit {0}

-- The calls of the agent that a command makes.
abbrev pub IsAsked : {O : Type 0} → Type 0 → AgentSeen O → KvSeen → KvOp → Op → Type 0
IsAsked tells before kv (op.Get key) = IsGet kv.handle.row (found kv.index key)
IsAsked tells before kv (op.Put key value) = IsCutOr kv (IsAppend kv (spelled_by key (Some value)))
IsAsked tells before kv (op.Delete key) = IsCutOr kv (IsAppend kv (spelled_by key None))
IsAsked tells before kv op.Flush = IsCutOr kv (IsFlush kv)
IsAsked tells before kv op.Compact = IsCutOr kv (IsRepack tells kv (map_in before kv))

-- Why a command was refused: its record has no room, or a call that it made was refused and has its entry. Want of memory is free.
abbrev pub IsCausedReply : {O : Type 0} → Type 0 → AgentSeen O → AgentSeen O → KvSeen → KvOp → KvReply → Type 0
IsCausedReply tells before after kv called (kv_reply.No (kv_stop.Agent why)) = IsCaused before after (IsAsked tells before kv called) why
IsCausedReply tells before after kv called (kv_reply.No (kv_stop.Full live need)) = (live ≡ kv.live) × (need ≡ need_of called) × LacksRoom kv called
IsCausedReply tells before after kv called (kv_reply.No (kv_stop.BadFile place)) = ⊥
IsCausedReply tells before after kv called answered = Unit {0}

-- The entries that a command adds at most: a get one.
abbrev pub entries_of : KvOp → ℕ
entries_of (op.Get key) = 1
entries_of op.Compact = 4
entries_of called = 2

-- The contents that commands stored.
pub record HasStored {O : Type 0} (tells : Type 0) (before after : AgentSeen O) (old new : KvSeen) (ops : List KvOp) (replies : List KvReply) : Type 0 where
  pub texts : List Text
  pub stored : stored_in after new ≡ stored_in before old ++ texts
  pub are : tells → AreStored (map_in before old) ops replies texts

-- One command with its reply, by what was before and after it. It is Full just where its record has no room. The agent's other own
-- rows are as they were.
pub record IsRun {O : Type 0} (tells : Type 0) (before after : AgentSeen O) (old new : KvSeen) (called : KvOp) (answered : KvReply) : Type 0 where
  pub stands : Stands tells after new
  pub row : new.handle.row ≡ old.handle.row
  pub file : new.handle.file ≡ old.handle.file
  pub setting : new.tidying ≡ old.tidying
  pub goes : GoesOn before after (entries_of called)
  pub others : LeavesRest tells before after old.handle.row
  pub told : tells → IsReply (map_in before old) called answered
  pub map : tells → map_in after new ≡ after_op (map_in before old) called answered
  pub texts : List Text
  pub stored : stored_in after new ≡ stored_in before old ++ texts
  pub are : tells → AreStoredBy (stores called answered) (after_op (map_in before old) called answered) texts (λ rest. rest ≡ [])
  pub live : GrowsLive old new called answered
  pub full : LacksRoom old called → answered ≡ kv_reply.No (kv_stop.Full old.live (need_of called))
  pub cause : IsCausedReply tells before after old called answered
  pub doubts : tells → DoubtsSpell before after old (map_in before old)

-- A command with its reply, and what is said of all that comes behind it: its moment, and the file as it stands there.
pub record RunsFirst {O : Type 0} (tells : Type 0) (before : AgentSeen O) (old : KvSeen) (called : KvOp) (answered : KvReply) (Rest : AgentSeen O → KvSeen → Type 0) : Type 0 where
  pub between : AgentSeen O
  pub kv : KvSeen
  pub first : IsRun tells before between old kv called answered
  pub rest : Rest between kv

-- Commands with their replies, one after another: each goes on from what the one before it left.
abbrev pub AreRun : {O : Type 0} → Type 0 → AgentSeen O → KvSeen → List KvOp → List KvReply → AgentSeen O → KvSeen → Type 0
AreRun tells before old [] [] after new = (after ≡ before) × (new ≡ old)
AreRun tells before old (o ∷ ops) (r ∷ replies) after new = RunsFirst tells before old o r (λ between kv. AreRun tells between kv ops replies after new)
AreRun tells before old ops replies after new = ⊥

-- An agent has places for the entries of a list of commands.
pub record HasRunRoom {O : Type 0} (a : AgentSeen O) : Type 0 where
  pub rows : a.rows ≤ 60000000
  pub entries : a.entries ≤ 58000000
