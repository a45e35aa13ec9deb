-- The bytes of an agent's open stream (File System: FileSystemWritableFileStream), and the calls that an agent has made. This
-- project's own.
use Rattle.std.specs.Prelude.{◌≡◌, ℕ, ◌==◌, List, [], ◌∷◌, ◌++◌, map, Option, Some}
use Rattle.std.specs.List.{filter}
use Rattle.opfs_base.specs.Places.{place_of}
use Rattle.opfs_base.specs.Texts.{Text}
use Rattle.opfs_turns.specs.Asking.Rows.{StreamSeen}
use Rattle.opfs_hist.specs.declared.entry.Entry.{Entry}
use Rattle.opfs_hist.specs.declared.op.Op.{Op}
use Rattle.opfs_hist.specs.declared.op.Op.TheVariants as op
use Rattle.opfs_hist.specs.declared.reply.Reply.{Reply}
use Rattle.opfs_hist.specs.declared.reply.Reply.TheVariants as reply
use Rattle.opfs_machine.specs.Changes.{content, entry_changes}
use Rattle.opfs_machine.specs.Histories.{state_after}
use Rattle.opfs_machine.specs.declared.own.Own.{Own}
use Rattle.opfs_machine.specs.declared.own.Own.TheVariants as own
use Rattle.opfs_turns.specs.Agents.{AgentSeen, known, own_row}

-- The buffer of an own row that is an open stream, and its offset.
abbrev pub buffer_in : Option Own → Text
buffer_in (Some (own.Stream w)) = w.buffer
buffer_in r = []

abbrev pub offset_in : Option Own → ℕ
offset_in (Some (own.Stream w)) = w.offset
offset_in r = 0

-- The bytes that a stream has so far, and where its next write begins.
abbrev pub stream_bytes : {O : Type 0} → AgentSeen O → StreamSeen → Text
stream_bytes a w = buffer_in (own_row a w.row)

abbrev pub stream_offset : {O : Type 0} → AgentSeen O → StreamSeen → ℕ
stream_offset a w = offset_in (own_row a w.row)

-- A call with its answer.
abbrev pub told_in : Entry → Op × Reply
told_in e = (e.op, e.reply)

-- The calls of an agent with their answers, in order: those that are entered, as far as it has seen, and those that will be.
abbrev pub calls_of : {O : Type 0} → AgentSeen O → List (Op × Reply)
calls_of a = map told_in (filter (λ e. e.agent == a.pass.agent) (known a))

-- The last entry that an agent has seen is its own close of a stream, which stored these bytes as the content of the stream's
-- file.
pub record StoresLast {O : Type 0} (before after : AgentSeen O) (w : StreamSeen) (bytes : Text) : Type 0 where
  pub front : List Entry
  pub entry : Entry
  pub grown : after.pass.base ≡ front ++ entry ∷ []
  pub mine : entry.agent ≡ before.pass.agent
  pub called : entry.op ≡ op.Close w.row
  pub done : entry.reply ≡ reply.Done
  pub stamp : ℕ
  pub stored : entry_changes (state_after before.opening front) entry ≡ content (place_of w.file) stamp bytes ∷ []
