use Rattle.std.proofs.Common.{◌≡◌, ◌⊎◌, ℕ, [], append-nil, length, Ok, refl, sym, ap, ◌∙◌, subst, inl}
use Rattle.std.proofs.lemmas.List.Elements.{All-nil}
use Rattle.opfs_hall.specs.History.{Adds}
use Rattle.opfs_hall.specs.Seen.{at_rest}
use Rattle.opfs_machine.specs.Agents.{agent_of}
use Rattle.opfs_machine.specs.Histories.{state_after}
use Rattle.opfs_laws.specs.Histories.Unread.{IsTold}
use Rattle.opfs_store.specs.Acts.Acting.{IsActed, in_hand, awaited}
use Rattle.opfs_store.specs.Acts.Asking.{MayAct, IsThere}
use Rattle.opfs_turns.specs.Agents.{IsAgent, seen}
use Rattle.opfs_turns.specs.Calls.{HasLooked}
use Rattle.opfs_turns.specs.Waiting.{IsAwaitTurn, op_by, noted_by}
use Rattle.opfs_turns.proofs.Acted.{agent-there, pending-there, plan-acts, plan-left, goes-on-waiting, unacted, adds}
use Rattle.opfs_turns.proofs.Turning.{number-small-waiting}
use Rattle.opfs_turns.proofs.waiting.await_turn.Given.{Over}
use Rattle.opfs_turns.proofs.waiting.await_turn.Goals as goal
use Rattle.opfs_turns.proofs.waiting.await_turn.Goals.{After-leave, After-turn_of}

pub await_state-stands-requires : goal.await_state-stands-requires
await_state-stands-requires g c =
    subst (λ (k : ℕ). IsThere (state_after (g.S.Store.opened (g.S.Chronicle.opening c.enter-turn.result.value)) (g.S.Chronicle.entries c.enter-turn.result.value)) k) (sym c.agent-agent.ensures)
    (agent-there g.S.Store.tells g.S.Store.opened c.args.caller.now.pass c.args.caller.now.notes g.S.Chronicle.owner g.met.S.Store.owned c.requires.agent
    (g.S.Store.opened (g.S.Chronicle.opening c.enter-turn.result.value)) (ap g.S.Store.opened (c.enter-turn.ensures.opening ∙ ap (λ h. h.opening) (sym c.requires.own)))
    (g.S.Chronicle.entries c.enter-turn.result.value) c.enter-turn.ensures.grows c.know_legal.ensures)

pub leave-requires-clause-adds : goal.leave-requires-clause-adds
leave-requires-clause-adds g c = (
  [],
  ap (λ p. p.base) (sym c.enter-turn.ensures.pass) ∙ sym (append-nil c.enter-turn.new.pass.base),
  All-nil (λ e. (g.S.Chronicle.owner e ≡ c.enter-turn.new.pass.agent) ⊎ (g.S.Chronicle.owner e ≡ 0)),
)

-- A look leaves the agent as it was.
looks : (g : Over) (c : After-leave g)
    → IsAgent g.S.Store.tells (seen g.S.Store.opened c.leave.new.pass c.args.caller.now.notes)
    × HasLooked (seen g.S.Store.opened c.args.caller.now.pass c.args.caller.now.notes) (seen g.S.Store.opened c.leave.new.pass c.args.caller.now.notes)
looks g c =
    unacted g.S.Store.tells g.S.Store.opened c.args.caller.now.pass c.args.caller.now.notes g.S.Chronicle.owner g.met.S.Store.owned c.requires.agent
    (g.S.Store.opened (g.S.Chronicle.opening c.enter-turn.result.value)) (ap g.S.Store.opened (c.enter-turn.ensures.opening ∙ ap (λ h. h.opening) (sym c.requires.own)))
    (g.S.Chronicle.entries c.enter-turn.result.value) c.enter-turn.ensures.grows c.know_legal.ensures
    (g.S.Chronicle.entries c.enter-turn.result.value) refl
    c.leave.new.pass (c.leave.ensures ∙ ap (λ p. at_rest p (g.S.Chronicle.entries c.enter-turn.result.value)) c.enter-turn.ensures.pass)
    c.args.caller.now.notes.pending refl

pub returns-in-Look-clause-agent : goal.returns-in-Look-clause-agent
returns-in-Look-clause-agent g c = (looks g (goal.at.returns-in-Look-clause-agent g c).After-leave).0

pub returns-in-Look-clause-turned : goal.returns-in-Look-clause-turned
returns-in-Look-clause-turned g c =
    inl (goes-on-waiting g.S.Store.tells g.S.Store.opened c.args.caller.now.pass c.args.caller.now.notes g.S.Chronicle.owner g.met.S.Store.owned c.requires.agent
    (g.S.Store.opened (g.S.Chronicle.opening c.enter-turn.result.value)) (ap g.S.Store.opened (c.enter-turn.ensures.opening ∙ ap (λ h. h.opening) (sym c.requires.own)))
    (g.S.Chronicle.entries c.enter-turn.result.value) c.enter-turn.ensures.grows c.know_legal.ensures
    c.args.tag.now c.await_state-stands.result (c.await_state-stands.ensures ∙ (λ i. awaited (state_after (g.S.Store.opened (g.S.Chronicle.opening c.enter-turn.result.value)) (g.S.Chronicle.entries c.enter-turn.result.value)) (c.agent-agent.ensures i) (c.as_str.ensures i))) c.waits_for-begun.result c.waits_for-begun.ensures
    c.leave.new.pass (c.leave.ensures ∙ ap (λ p. at_rest p (g.S.Chronicle.entries c.enter-turn.result.value)) c.enter-turn.ensures.pass)
    (sym c.plan_for-plan.ensures ∙ c.in-Look.is)
    (looks g (goal.at.returns-in-Look-clause-turned g c).After-leave).1)

pub act-acted-requires : goal.act-acted-requires
act-acted-requires g c = record {
  may =
      subst (λ (k : ℕ). MayAct g.S.Store.tells (g.S.Store.opened (g.S.Chronicle.opening c.enter-turn.result.value)) (g.S.Chronicle.entries c.enter-turn.result.value) c.args.caller.now.notes.pending (record { agent = k; number = c.args.caller.now.notes.number; op = c.op_of-op.result }) c.fresh-work.result []) (sym c.agent-agent.ensures)
      (plan-acts g.S.Store.tells g.S.Store.opened c.args.caller.now.pass c.args.caller.now.notes g.S.Chronicle.owner g.met.S.Store.owned c.requires.agent
      (g.S.Store.opened (g.S.Chronicle.opening c.enter-turn.result.value)) (ap g.S.Store.opened (c.enter-turn.ensures.opening ∙ ap (λ h. h.opening) (sym c.requires.own)))
      (g.S.Chronicle.entries c.enter-turn.result.value) c.enter-turn.ensures.grows c.know_legal.ensures
      c.args.tag.now c.await_state-stands.result (c.await_state-stands.ensures ∙ (λ i. awaited (state_after (g.S.Store.opened (g.S.Chronicle.opening c.enter-turn.result.value)) (g.S.Chronicle.entries c.enter-turn.result.value)) (c.agent-agent.ensures i) (c.as_str.ensures i))) c.waits_for-begun.result c.waits_for-begun.ensures
      c.plan_for-plan.result c.op_of-op.result c.fresh-work.result (sym c.plan_for-plan.ensures) (ap (op_by c.plan_for-plan.result) (sym c.in_ok-room.ensures.0) ∙ c.op_of-op.ensures) c.fresh-work.ensures c.requires.room);
}

pub leave-requires-2-clause-adds : goal.leave-requires-2-clause-adds
leave-requires-2-clause-adds g c =
    subst (λ p. Adds g.S.Chronicle.owner p.agent p.base (g.S.Chronicle.entries c.act-acted.new.self)) (sym c.enter-turn.ensures.pass)
    (adds g.S.Chronicle.owner g.met.S.Store.owned c.args.caller.now.pass.agent g.S.Store.tells (g.S.Store.opened (g.S.Chronicle.opening c.enter-turn.result.value))
    (in_hand (g.S.Chronicle.entries c.enter-turn.result.value) (g.S.Store.faults c.enter-turn.result.value) c.args.caller.now.notes.pending c.fresh-work.result) (in_hand (g.S.Chronicle.entries c.act-acted.new.self) (g.S.Store.faults c.act-acted.new.self) c.act-acted.new.pending c.act-acted.new.work)
    (record { agent = c.agent-agent.result; number = c.args.caller.now.notes.number; op = c.op_of-op.result }) c.agent-agent.ensures c.act-acted.result
    (pending-there g.S.Store.tells g.S.Store.opened c.args.caller.now.pass c.args.caller.now.notes g.S.Chronicle.owner g.met.S.Store.owned c.requires.agent
    (g.S.Store.opened (g.S.Chronicle.opening c.enter-turn.result.value)) (ap g.S.Store.opened (c.enter-turn.ensures.opening ∙ ap (λ h. h.opening) (sym c.requires.own)))
    (g.S.Chronicle.entries c.enter-turn.result.value) c.enter-turn.ensures.grows c.know_legal.ensures)
    c.act-acted.ensures.served c.act-acted.ensures.unserved)

pub note-requires-clause-number : goal.note-requires-clause-number
note-requires-clause-number g c = number-small-waiting g.S.Store.tells (seen g.S.Store.opened c.args.caller.now.pass c.args.caller.now.notes) c.requires.agent c.requires.room

-- What was entered leaves the agent so.
left : (g : Over) (c : After-turn_of g)
    → IsAgent g.S.Store.tells (seen g.S.Store.opened c.leave-2.new.pass c.note.new.notes)
    × IsAwaitTurn {E = Unit {0}} g.S.Store.tells (seen g.S.Store.opened c.args.caller.now.pass c.args.caller.now.notes) (seen g.S.Store.opened c.leave-2.new.pass c.note.new.notes) c.args.tag.now (Ok c.turn_of.result)
left g c =
    plan-left g.S.Store.tells g.S.Store.opened c.args.caller.now.pass c.args.caller.now.notes g.S.Chronicle.owner g.met.S.Store.owned c.requires.agent
    (g.S.Store.opened (g.S.Chronicle.opening c.enter-turn.result.value)) (ap g.S.Store.opened (c.enter-turn.ensures.opening ∙ ap (λ h. h.opening) (sym c.requires.own)))
    (g.S.Chronicle.entries c.enter-turn.result.value) c.enter-turn.ensures.grows c.know_legal.ensures
    c.args.tag.now c.await_state-stands.result (c.await_state-stands.ensures ∙ (λ i. awaited (state_after (g.S.Store.opened (g.S.Chronicle.opening c.enter-turn.result.value)) (g.S.Chronicle.entries c.enter-turn.result.value)) (c.agent-agent.ensures i) (c.as_str.ensures i))) c.waits_for-begun.result c.waits_for-begun.ensures
    c.op_of-op.result c.in-Ok.acted.reply (g.S.Chronicle.entries c.act-acted.new.self)
    (subst (λ (k : ℕ). IsActed g.S.Store.tells (g.S.Store.opened (g.S.Chronicle.opening c.enter-turn.result.value)) (g.S.Chronicle.entries c.enter-turn.result.value) c.args.caller.now.notes.pending (record { agent = k; number = c.args.caller.now.notes.number; op = c.op_of-op.result }) c.in-Ok.acted.reply (g.S.Chronicle.entries c.act-acted.new.self)) c.agent-agent.ensures c.in-Ok.ensures.served.acted)
    (subst (λ o. IsTold g.S.Store.tells (g.S.Store.opened o) (g.S.Chronicle.entries c.act-acted.new.self)) c.act-acted.ensures.opening c.know_legal-2.ensures)
    c.leave-2.new.pass (c.leave-2.ensures ∙ ap (λ p. at_rest p (g.S.Chronicle.entries c.act-acted.new.self)) c.enter-turn.ensures.pass)
    c.act-acted.new.pending c.in-Ok.ensures.served.taken c.in-Ok.acted.rows
    (c.in-Ok.ensures.served.rows ∙ ap (λ (k : ℕ). length (agent_of (state_after (g.S.Store.opened (g.S.Chronicle.opening c.enter-turn.result.value)) (g.S.Chronicle.entries c.act-acted.new.self)) k).own) c.agent-agent.ensures)
    (Unit {0}) c.plan_for-plan.result c.heard-heard.result c.note.new.notes c.turn_of.result
    (sym c.plan_for-plan.ensures) (ap (op_by c.plan_for-plan.result) (sym c.in_ok-room.ensures.0) ∙ c.op_of-op.ensures)
    (c.note.ensures ∙ ap (noted_by c.plan_for-plan.result (record c.args.caller.now.notes { pending = c.act-acted.new.pending }) c.in-Ok.acted.rows) c.in_ok-room.ensures.1) c.turn_of.ensures

pub returns-in-Ok-clause-agent : goal.returns-in-Ok-clause-agent
returns-in-Ok-clause-agent g c = (left g (goal.at.returns-in-Ok-clause-agent g c).After-turn_of).0

pub returns-in-Ok-clause-turned : goal.returns-in-Ok-clause-turned
returns-in-Ok-clause-turned g c = (left g (goal.at.returns-in-Ok-clause-turned g c).After-turn_of).1

pub returns-in-Err-clause-agent : goal.returns-in-Err-clause-agent
returns-in-Err-clause-agent g c = (unacted g.S.Store.tells g.S.Store.opened c.args.caller.now.pass c.args.caller.now.notes g.S.Chronicle.owner g.met.S.Store.owned c.requires.agent
    (g.S.Store.opened (g.S.Chronicle.opening c.enter-turn.result.value)) (ap g.S.Store.opened (c.enter-turn.ensures.opening ∙ ap (λ h. h.opening) (sym c.requires.own)))
    (g.S.Chronicle.entries c.enter-turn.result.value) c.enter-turn.ensures.grows c.know_legal.ensures
    (g.S.Chronicle.entries c.act-acted.new.self) c.in-Err.ensures.unserved.entries
    c.leave-2.new.pass (c.leave-2.ensures ∙ ap (λ p. at_rest p (g.S.Chronicle.entries c.act-acted.new.self)) c.enter-turn.ensures.pass)
    c.act-acted.new.pending c.in-Err.ensures.unserved.pending).0

pub returns-in-Err-clause-turned : goal.returns-in-Err-clause-turned
returns-in-Err-clause-turned g c = (unacted g.S.Store.tells g.S.Store.opened c.args.caller.now.pass c.args.caller.now.notes g.S.Chronicle.owner g.met.S.Store.owned c.requires.agent
    (g.S.Store.opened (g.S.Chronicle.opening c.enter-turn.result.value)) (ap g.S.Store.opened (c.enter-turn.ensures.opening ∙ ap (λ h. h.opening) (sym c.requires.own)))
    (g.S.Chronicle.entries c.enter-turn.result.value) c.enter-turn.ensures.grows c.know_legal.ensures
    (g.S.Chronicle.entries c.act-acted.new.self) c.in-Err.ensures.unserved.entries
    c.leave-2.new.pass (c.leave-2.ensures ∙ ap (λ p. at_rest p (g.S.Chronicle.entries c.act-acted.new.self)) c.enter-turn.ensures.pass)
    c.act-acted.new.pending c.in-Err.ensures.unserved.pending).1
