-- The bytes of an access handle's file (File System: FileSystemSyncAccessHandle). What was stored of it is this project's own.
use Rattle.std.specs.Prelude.{◌≡◌, ◌⊎◌, ℕ, if◌then◌else◌, List, [], ◌∷◌, Some, Result, Ok, Err}
use Rattle.std.specs.List.{flat_map}
use Rattle.std.specs.Ordering.{eq_by_cmp}
use Rattle.opfs_base.specs.Places.{Place, place_cmp, place_of}
use Rattle.opfs_base.specs.Texts.{Text}
use Rattle.opfs_turns.specs.Asking.Answers.{Shared}
use Rattle.opfs_turns.specs.Asking.Locals.{Local}
use Rattle.opfs_turns.specs.Asking.Rows.{HandleSeen}
use Rattle.opfs_turns.specs.declared.asking.stop.Stop.{Stop}
use Rattle.opfs_hist.specs.declared.op.Mode.{Mode}
use Rattle.opfs_hist.specs.declared.op.Mode.TheVariants as mode
use Rattle.opfs_hist.specs.declared.op.Op.TheVariants as op
use Rattle.opfs_hist.specs.declared.reply.Reply.TheVariants as reply
use Rattle.opfs_machine.specs.Changes.{Change, content, changes}
use Rattle.opfs_machine.specs.Replies.{bytes_at}
use Rattle.opfs_turns.specs.Agents.{AgentSeen, state_of}

-- The present bytes of an access handle's file.
abbrev pub file_bytes : {O : Type 0} → AgentSeen O → HandleSeen → Text
file_bytes a h = bytes_at (state_of a) (place_of h.file)

-- The contents that changes store at a place, in their order.
abbrev pub content_in : Place → Change → List Text
content_in place (content at stamp bytes) = if eq_by_cmp place_cmp place at then bytes ∷ [] else []
content_in place change = []

abbrev pub contents_at : Place → List Change → List Text
contents_at place told = flat_map (content_in place) told

-- The contents of a handle's file that were stored for good, as far as its agent has seen.
abbrev pub stored_of : {O : Type 0} → AgentSeen O → HandleSeen → List Text
stored_of a h = contents_at (place_of h.file) (changes a.opening a.pass.base)

-- What a flush or a close stores: nothing where the handle may not write.
abbrev pub flushed_by : Mode → Text → List Text
flushed_by mode.ReadWrite bytes = bytes ∷ []
flushed_by mode.ReadOnly bytes = []

-- A read of so many bytes from a place on is one call: under the turn, or of what the agent has.
abbrev pub ReadsOnce : {O : Type 0} → Type 0 → AgentSeen O → AgentSeen O → ℕ → ℕ → ℕ → Result Text Stop → Type 0
ReadsOnce tells before after row len at result =
    Local tells before after (op.SyncRead row len (Some at)) 0 (λ bytes answered. answered ≡ reply.Read bytes) result
    ⊎ Shared tells before after (op.SyncRead row len (Some at)) (λ bytes answered given. answered ≡ reply.Read bytes) result

-- A write that was done, whatever number of bytes it tells.
abbrev pub written : Result ℕ Stop → Result (Unit {0}) Stop
written (Ok count) = Ok tt
written (Err why) = Err why
