use Rattle.std.proofs.Common.{ℕ, sym, ap, ◌∙◌, subst}
use Rattle.opfs_hall.specs.History.{Adds}
use Rattle.opfs_hall.specs.Seen.{at_rest}
use Rattle.opfs_laws.specs.Histories.Unread.{IsTold}
use Rattle.opfs_store.specs.Acts.Asking.{MayTakePending}
use Rattle.opfs_turns.proofs.Acted.{takes-in, told-agent, told-all, adds-pending}
use Rattle.opfs_turns.proofs.entering.enter_pending.Goals as goal

pub take_in-requires : goal.take_in-requires
take_in-requires g c = record {
  may =
      subst (λ (k : ℕ). MayTakePending g.S.Store.tells (g.S.Store.opened (g.S.Chronicle.opening c.enter-turn.result.value)) (g.S.Chronicle.entries c.enter-turn.result.value) c.args.caller.now.notes.pending k)
      (sym c.agent-agent.ensures)
      (takes-in g.S.Store.tells g.S.Store.opened c.args.caller.now.pass c.args.caller.now.notes g.S.Chronicle.owner g.met.S.Store.owned c.requires.agent
      (g.S.Store.opened (g.S.Chronicle.opening c.enter-turn.result.value)) (ap g.S.Store.opened (c.enter-turn.ensures.opening ∙ ap (λ h. h.opening) (sym c.requires.own)))
      (g.S.Chronicle.entries c.enter-turn.result.value) c.enter-turn.ensures.grows c.know_legal.ensures c.requires.room);
}

pub leave-requires-clause-adds : goal.leave-requires-clause-adds
leave-requires-clause-adds g c =
    subst (λ p. Adds g.S.Chronicle.owner p.agent p.base (g.S.Chronicle.entries c.take_in.new.self)) (sym c.enter-turn.ensures.pass)
    (adds-pending g.S.Chronicle.owner g.met.S.Store.owned c.args.caller.now.pass.agent g.S.Store.tells (g.S.Store.opened (g.S.Chronicle.opening c.enter-turn.result.value))
    (g.S.Chronicle.entries c.enter-turn.result.value) c.args.caller.now.notes.pending (g.S.Chronicle.entries c.take_in.new.self) c.take_in.ensures.entries
    (takes-in g.S.Store.tells g.S.Store.opened c.args.caller.now.pass c.args.caller.now.notes g.S.Chronicle.owner g.met.S.Store.owned c.requires.agent
    (g.S.Store.opened (g.S.Chronicle.opening c.enter-turn.result.value)) (ap g.S.Store.opened (c.enter-turn.ensures.opening ∙ ap (λ h. h.opening) (sym c.requires.own)))
    (g.S.Chronicle.entries c.enter-turn.result.value) c.enter-turn.ensures.grows c.know_legal.ensures c.requires.room).pending)

pub returns-clause-agent : goal.returns-clause-agent
returns-clause-agent g c =
    told-agent g.S.Store.tells g.S.Store.opened c.args.caller.now.pass c.args.caller.now.notes g.S.Chronicle.owner g.met.S.Store.owned c.requires.agent
    (g.S.Store.opened (g.S.Chronicle.opening c.enter-turn.result.value)) (ap g.S.Store.opened (c.enter-turn.ensures.opening ∙ ap (λ h. h.opening) (sym c.requires.own)))
    (g.S.Chronicle.entries c.enter-turn.result.value) c.enter-turn.ensures.grows c.know_legal.ensures
    (g.S.Chronicle.entries c.take_in.new.self) c.take_in.ensures.entries
    (subst (λ o. IsTold g.S.Store.tells (g.S.Store.opened o) (g.S.Chronicle.entries c.take_in.new.self)) c.take_in.ensures.opening c.know_legal-2.ensures)
    c.leave.new.pass (c.leave.ensures ∙ ap (λ p. at_rest p (g.S.Chronicle.entries c.take_in.new.self)) c.enter-turn.ensures.pass)
    c.take_in.new.pending c.take_in.ensures.taken

pub returns-clause-entered : goal.returns-clause-entered
returns-clause-entered g c =
    told-all g.S.Store.tells g.S.Store.opened c.args.caller.now.pass c.args.caller.now.notes g.S.Chronicle.owner g.met.S.Store.owned c.requires.agent
    (g.S.Store.opened (g.S.Chronicle.opening c.enter-turn.result.value)) (ap g.S.Store.opened (c.enter-turn.ensures.opening ∙ ap (λ h. h.opening) (sym c.requires.own)))
    (g.S.Chronicle.entries c.enter-turn.result.value) c.enter-turn.ensures.grows c.know_legal.ensures
    (g.S.Chronicle.entries c.take_in.new.self) c.take_in.ensures.entries
    (subst (λ o. IsTold g.S.Store.tells (g.S.Store.opened o) (g.S.Chronicle.entries c.take_in.new.self)) c.take_in.ensures.opening c.know_legal-2.ensures)
    c.leave.new.pass (c.leave.ensures ∙ ap (λ p. at_rest p (g.S.Chronicle.entries c.take_in.new.self)) c.enter-turn.ensures.pass)
    c.take_in.new.pending c.take_in.ensures.taken
