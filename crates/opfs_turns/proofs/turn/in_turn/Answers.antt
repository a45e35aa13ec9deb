use Rattle.std.proofs.Common.{ℕ, length, sym, ap, ◌∙◌, subst, arith}
use Rattle.opfs_hall.specs.History.{Adds}
use Rattle.opfs_hall.specs.Seen.{at_rest}
use Rattle.opfs_machine.specs.Agents.{agent_of}
use Rattle.opfs_machine.specs.Histories.{state_after}
use Rattle.opfs_laws.specs.Histories.Unread.{IsTold}
use Rattle.opfs_store.specs.Acts.Acting.{IsActed, in_hand}
use Rattle.opfs_store.specs.Acts.Asking.{MayAct}
use Rattle.opfs_turns.proofs.Acted.{acts, pending-there, unacted, acted-agent, acted-entered, adds}
use Rattle.opfs_turns.specs.Agents.{seen}
use Rattle.opfs_turns.proofs.Turning.{number-small}
use Rattle.opfs_turns.proofs.turn.in_turn.Goals as goal

pub act-acted-requires : goal.act-acted-requires
act-acted-requires g c = record {
  may =
      subst (λ (k : ℕ). MayAct g.S.Store.tells (g.S.Store.opened (g.S.Chronicle.opening c.enter-turn.result.value)) (g.S.Chronicle.entries c.enter-turn.result.value) c.args.caller.now.notes.pending (record { agent = k; number = c.args.caller.now.notes.number; op = c.args.op }) c.args.work.now c.args.past.now)
      (sym c.agent-agent.ensures)
      (acts g.S.Store.tells g.S.Store.opened c.args.caller.now.pass c.args.caller.now.notes g.S.Chronicle.owner g.met.S.Store.owned c.requires.agent
      (g.S.Store.opened (g.S.Chronicle.opening c.enter-turn.result.value)) (ap g.S.Store.opened (c.enter-turn.ensures.opening ∙ ap (λ h. h.opening) (sym c.requires.own)))
      (g.S.Chronicle.entries c.enter-turn.result.value) c.enter-turn.ensures.grows c.know_legal.ensures
      c.args.op c.args.work.now c.args.past.now c.requires.room c.requires.may);
}

pub leave-requires-clause-adds : goal.leave-requires-clause-adds
leave-requires-clause-adds g c =
    subst (λ p. Adds g.S.Chronicle.owner p.agent p.base (g.S.Chronicle.entries c.act-acted.new.self)) (sym c.enter-turn.ensures.pass)
    (adds g.S.Chronicle.owner g.met.S.Store.owned c.args.caller.now.pass.agent g.S.Store.tells (g.S.Store.opened (g.S.Chronicle.opening c.enter-turn.result.value))
    (in_hand (g.S.Chronicle.entries c.enter-turn.result.value) (g.S.Store.faults c.enter-turn.result.value) c.args.caller.now.notes.pending c.args.work.now) (in_hand (g.S.Chronicle.entries c.act-acted.new.self) (g.S.Store.faults c.act-acted.new.self) c.act-acted.new.pending c.act-acted.new.work)
    (record { agent = c.agent-agent.result; number = c.args.caller.now.notes.number; op = c.args.op }) c.agent-agent.ensures c.act-acted.result
    (pending-there g.S.Store.tells g.S.Store.opened c.args.caller.now.pass c.args.caller.now.notes g.S.Chronicle.owner g.met.S.Store.owned c.requires.agent
    (g.S.Store.opened (g.S.Chronicle.opening c.enter-turn.result.value)) (ap g.S.Store.opened (c.enter-turn.ensures.opening ∙ ap (λ h. h.opening) (sym c.requires.own)))
    (g.S.Chronicle.entries c.enter-turn.result.value) c.enter-turn.ensures.grows c.know_legal.ensures)
    c.act-acted.ensures.served c.act-acted.ensures.unserved)

pub overflow_add-caller : goal.overflow_add-caller
overflow_add-caller g c = omega (arith, number-small g.S.Store.tells (seen g.S.Store.opened c.args.caller.now.pass c.args.caller.now.notes) c.requires.agent c.requires.room)

pub returns-in-Ok-clause-agent : goal.returns-in-Ok-clause-agent
returns-in-Ok-clause-agent g c = λ stays.
    acted-agent g.S.Store.tells g.S.Store.opened c.args.caller.now.pass c.args.caller.now.notes g.S.Chronicle.owner g.met.S.Store.owned c.requires.agent
    (g.S.Store.opened (g.S.Chronicle.opening c.enter-turn.result.value)) (ap g.S.Store.opened (c.enter-turn.ensures.opening ∙ ap (λ h. h.opening) (sym c.requires.own)))
    (g.S.Chronicle.entries c.enter-turn.result.value) c.enter-turn.ensures.grows c.know_legal.ensures
    c.args.op c.in-Ok.acted.reply (g.S.Chronicle.entries c.act-acted.new.self)
    (subst (λ (k : ℕ). IsActed g.S.Store.tells (g.S.Store.opened (g.S.Chronicle.opening c.enter-turn.result.value)) (g.S.Chronicle.entries c.enter-turn.result.value) c.args.caller.now.notes.pending (record { agent = k; number = c.args.caller.now.notes.number; op = c.args.op }) c.in-Ok.acted.reply (g.S.Chronicle.entries c.act-acted.new.self)) c.agent-agent.ensures c.in-Ok.ensures.served.acted)
    (subst (λ o. IsTold g.S.Store.tells (g.S.Store.opened o) (g.S.Chronicle.entries c.act-acted.new.self)) c.act-acted.ensures.opening c.know_legal-2.ensures)
    c.leave.new.pass (c.leave.ensures ∙ ap (λ p. at_rest p (g.S.Chronicle.entries c.act-acted.new.self)) c.enter-turn.ensures.pass)
    c.act-acted.new.pending c.in-Ok.ensures.served.taken c.in-Ok.acted.rows
    (c.in-Ok.ensures.served.rows ∙ ap (λ (k : ℕ). length (agent_of (state_after (g.S.Store.opened (g.S.Chronicle.opening c.enter-turn.result.value)) (g.S.Chronicle.entries c.act-acted.new.self)) k).own) c.agent-agent.ensures)
    c.requires.may.nobody stays

pub returns-in-Ok-clause-entered : goal.returns-in-Ok-clause-entered
returns-in-Ok-clause-entered g c =
    acted-entered g.S.Store.tells g.S.Store.opened c.args.caller.now.pass c.args.caller.now.notes g.S.Chronicle.owner g.met.S.Store.owned c.requires.agent
    (g.S.Store.opened (g.S.Chronicle.opening c.enter-turn.result.value)) (ap g.S.Store.opened (c.enter-turn.ensures.opening ∙ ap (λ h. h.opening) (sym c.requires.own)))
    (g.S.Chronicle.entries c.enter-turn.result.value) c.enter-turn.ensures.grows c.know_legal.ensures
    c.args.op c.in-Ok.acted.reply (g.S.Chronicle.entries c.act-acted.new.self)
    (subst (λ (k : ℕ). IsActed g.S.Store.tells (g.S.Store.opened (g.S.Chronicle.opening c.enter-turn.result.value)) (g.S.Chronicle.entries c.enter-turn.result.value) c.args.caller.now.notes.pending (record { agent = k; number = c.args.caller.now.notes.number; op = c.args.op }) c.in-Ok.acted.reply (g.S.Chronicle.entries c.act-acted.new.self)) c.agent-agent.ensures c.in-Ok.ensures.served.acted)
    (subst (λ o. IsTold g.S.Store.tells (g.S.Store.opened o) (g.S.Chronicle.entries c.act-acted.new.self)) c.act-acted.ensures.opening c.know_legal-2.ensures)
    c.leave.new.pass (c.leave.ensures ∙ ap (λ p. at_rest p (g.S.Chronicle.entries c.act-acted.new.self)) c.enter-turn.ensures.pass)
    c.act-acted.new.pending c.in-Ok.ensures.served.taken c.in-Ok.acted.rows c.in-Ok.acted.gift c.in-Ok.ensures.served.gift

pub returns-in-Err-clause-agent_err : goal.returns-in-Err-clause-agent_err
returns-in-Err-clause-agent_err g c =
    (unacted g.S.Store.tells g.S.Store.opened c.args.caller.now.pass c.args.caller.now.notes g.S.Chronicle.owner g.met.S.Store.owned c.requires.agent
    (g.S.Store.opened (g.S.Chronicle.opening c.enter-turn.result.value)) (ap g.S.Store.opened (c.enter-turn.ensures.opening ∙ ap (λ h. h.opening) (sym c.requires.own)))
    (g.S.Chronicle.entries c.enter-turn.result.value) c.enter-turn.ensures.grows c.know_legal.ensures
    (g.S.Chronicle.entries c.act-acted.new.self) c.in-Err.ensures.unserved.entries
    c.leave.new.pass (c.leave.ensures ∙ ap (λ p. at_rest p (g.S.Chronicle.entries c.act-acted.new.self)) c.enter-turn.ensures.pass)
    c.act-acted.new.pending c.in-Err.ensures.unserved.pending).0

pub returns-in-Err-clause-looked : goal.returns-in-Err-clause-looked
returns-in-Err-clause-looked g c =
    (unacted g.S.Store.tells g.S.Store.opened c.args.caller.now.pass c.args.caller.now.notes g.S.Chronicle.owner g.met.S.Store.owned c.requires.agent
    (g.S.Store.opened (g.S.Chronicle.opening c.enter-turn.result.value)) (ap g.S.Store.opened (c.enter-turn.ensures.opening ∙ ap (λ h. h.opening) (sym c.requires.own)))
    (g.S.Chronicle.entries c.enter-turn.result.value) c.enter-turn.ensures.grows c.know_legal.ensures
    (g.S.Chronicle.entries c.act-acted.new.self) c.in-Err.ensures.unserved.entries
    c.leave.new.pass (c.leave.ensures ∙ ap (λ p. at_rest p (g.S.Chronicle.entries c.act-acted.new.self)) c.enter-turn.ensures.pass)
    c.act-acted.new.pending c.in-Err.ensures.unserved.pending).1
