-- A stream that was opened without the bytes of its file has none.
use Rattle.std.proofs.Common.{◌≡◌, ℕ, false, [], ◌∷◌, ◌++◌, Some, Result, Ok, Err, IfOk, ap, ◌∙◌}
use Rattle.opfs_store.specs.declared.acts.acted.Gift.{Gift}
use Rattle.opfs_base.specs.Places.{place_of}
use Rattle.opfs_base.specs.Texts.{Text}
use Rattle.opfs_base.specs.declared.locator.Locator.{Locator}
use Rattle.opfs_turns.specs.Asking.Answers.{HasAnswer, Shared}
use Rattle.opfs_turns.specs.Asking.Rows.{HasStream, StreamSeen}
use Rattle.opfs_turns.specs.declared.asking.stop.Stop.{Stop}
use Rattle.opfs_turns.proofs.asking.Entered.{t, number, allowed}
use Rattle.opfs_turns.proofs.asking.Rowed.{own_agent}
use Rattle.opfs_turns.proofs.asking.RowsAfter.{own-added, last-own}
use Rattle.opfs_hist.specs.declared.op.Op.TheVariants as op
use Rattle.opfs_hist.specs.declared.reply.Reply.{Reply}
use Rattle.opfs_hist.specs.declared.reply.Reply.TheVariants as reply
use Rattle.opfs_laws.proofs.Allowed.{IsLockGiven}
use Rattle.opfs_laws.proofs.Numbers.{IsNumber}
use Rattle.opfs_locks.specs.declared.Want.TheVariants as want
use Rattle.opfs_machine.specs.declared.own.Own.TheVariants as own
use Rattle.opfs_machine.specs.declared.own.Own.{Own}
use Rattle.opfs_machine.specs.declared.own.StreamRow.{StreamRow}
use Rattle.opfs_machine.specs.declared.state.Agent.{Agent}
use Rattle.opfs_machine.specs.declared.state.State.{State}
use Rattle.opfs_machine.specs.Agents.{agent_of, own_of}
use Rattle.opfs_machine.specs.Contents.{in_bytes}
use Rattle.opfs_machine.specs.Effects.{effect, opens_stream, with_lock}
use Rattle.opfs_machine.specs.Rows.{with_file}
use Rattle.opfs_machine.specs.Rulings.{first_reserve}
use Rattle.opfs_agent.proofs.stream_calls.Shared.{own-then}
use Rattle.opfs_turns.specs.Agents.{AgentSeen, IsAgent, own_row}
use Rattle.opfs_pipe.specs.Streams.{buffer_in, offset_in, stream_bytes, stream_offset}
use Rattle.opfs_pipe.proofs.Rows.{IsDone}

module _ {O : Type 0} (tells : Type 0) (before after : AgentSeen O) (kept : IsAgent tells before) (later : IsAgent tells after) (at : Locator)
    (h : HasAnswer tells before after (op.CreateWritable at false) IsDone tt) where
  abbrev made_in : State Text Own
  made_in = t tells before after kept (op.CreateWritable at false) h.answered h.given h.entered

  lock : IsLockGiven made_in (place_of at) want.Shared
  lock = allowed tells before after kept (op.CreateWritable at false) h.answered h.given h.entered h.accepted

  abbrev new_row : StreamRow
  new_row = record { file = place_of at; buffer = []; offset = 0; reserve = first_reserve in_bytes made_in at false }

  numbered : IsNumber made_in before.pass.agent → IsNumber (with_file made_in (place_of at) (with_lock want.Shared)) before.pass.agent
  numbered n = record { index = n.index; is = n.is; within = n.within }

  own-opened : (own_agent after).own ≡ (agent_of made_in before.pass.agent).own ++ own.Stream new_row ∷ []
  unfolding effect
  own-opened =
      ap (λ (a : Agent Own). a.own) (own-then tells before after kept (op.CreateWritable at false) h)
      ∙ ap (λ f. (agent_of (opens_stream in_bytes made_in before.pass.agent (place_of at) (first_reserve in_bytes made_in at false) false f) before.pass.agent).own) lock.stands
      ∙ own-added (with_file made_in (place_of at) (with_lock want.Shared)) before.pass.agent (numbered (number tells before after kept (op.CreateWritable at false) h.answered h.given h.entered)) (own.Stream new_row)

  last-row : (row : ℕ) → row ≡ after.rows → own_row after row ≡ Some (own.Stream new_row)
  last-row row is = ap (own_of (own_agent after)) (is ∙ later.made) ∙ last-own (own_agent after) (agent_of made_in before.pass.agent).own (own.Stream new_row) own-opened

  pub opened-empty : (x : StreamSeen) → x.row ≡ after.rows → (stream_bytes after x ≡ []) × (stream_offset after x ≡ 0)
  opened-empty x is = (ap buffer_in (last-row x.row is), ap offset_in (last-row x.row is))

-- What createWritable gives.
abbrev pub GivesStream : {O : Type 0} → Type 0 → AgentSeen O → Locator → StreamSeen → Reply → Gift → Type 0
GivesStream tells after at x answered given = (x.row ≡ after.rows) × (x.file ≡ at) × (answered ≡ reply.Done) × HasStream tells after x

pub target-empty : {O : Type 0} (tells : Type 0) (a b : AgentSeen O) (kept : IsAgent tells a) (later : IsAgent tells b) (at : Locator) (r : Result StreamSeen Stop)
    → Shared tells a b (op.CreateWritable at false) (GivesStream tells b at) r → IfOk r (λ x. (stream_bytes b x ≡ []) × (stream_offset b x ≡ 0))
target-empty tells a b kept later at (Ok x) h =
    let done : HasAnswer tells a b (op.CreateWritable at false) IsDone tt = record { answered = h.answered; given = h.given; entered = h.entered; accepted = h.accepted; gives = h.gives.2 } in
    opened-empty tells a b kept later at done x h.gives.0
target-empty tells a b kept later at (Err why) h = tt
