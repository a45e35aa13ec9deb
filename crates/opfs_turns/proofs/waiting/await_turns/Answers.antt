use Rattle.std.proofs.Common.{Ok, refl, ap, ◌∙◌, subst, inl}
use Rattle.opfs_turns.proofs.Waited.{waited-room, waited-done, waited-looked, waited-step, looked-self}
use Rattle.opfs_turns.specs.Agents.{seen}
use Rattle.opfs_turns.specs.Waiting.{IsAwaitTurn, await_reply}
use Rattle.opfs_turns.specs.declared.waiting.AwaitTurn.{AwaitTurn}
use Rattle.opfs_turns.proofs.waiting.await_turns.Goals as goal

pub loop-init : goal.loop-init
loop-init g c = (c.requires.agent, (refl, inl (looked-self (seen g.S.Store.opened c.args.caller.now.pass c.args.caller.now.notes))))

pub await_turn-requires-clause-own : goal.await_turn-requires-clause-own
await_turn-requires-clause-own g c = ap (λ p. p.hall) c.loop.invariant.1.0 ∙ c.requires.own

pub await_turn-requires-clause-agent : goal.await_turn-requires-clause-agent
await_turn-requires-clause-agent g c = c.loop.invariant.0

pub await_turn-requires-clause-room : goal.await_turn-requires-clause-room
await_turn-requires-clause-room g c = waited-room g.S.Store.tells c.args.tag.now (seen g.S.Store.opened c.args.caller.now.pass c.args.caller.now.notes) (seen g.S.Store.opened c.loop.caller.pass c.loop.caller.notes) c.requires.room c.loop.invariant.1.1

pub returns-in-Ok-Answered-clause-idle : goal.returns-in-Ok-Answered-clause-idle
returns-in-Ok-Answered-clause-idle g c = c.in-Ok-Answered.ensures.idle ∙ (λ i. record (c.loop.invariant.1.0 i) { base = c.await_turn.new.caller.pass.base })

pub returns-in-Ok-Answered-clause-awaited : goal.returns-in-Ok-Answered-clause-awaited
returns-in-Ok-Answered-clause-awaited g c =
    waited-done g.S.Store.tells c.args.tag.now (seen g.S.Store.opened c.args.caller.now.pass c.args.caller.now.notes) (seen g.S.Store.opened c.loop.caller.pass c.loop.caller.notes) (seen g.S.Store.opened c.await_turn.new.caller.pass c.await_turn.new.caller.notes) (await_reply c.in-Ok-Answered.posted) c.loop.invariant.1.1 (subst (λ (r : AwaitTurn). IsAwaitTurn {E = Unit {0}} g.S.Store.tells (seen g.S.Store.opened c.loop.caller.pass c.loop.caller.notes) (seen g.S.Store.opened c.await_turn.new.caller.pass c.await_turn.new.caller.notes) c.args.tag.now (Ok r)) c.in-Ok-Answered.field-0-is c.in-Ok-Answered.ensures.turned)

pub loop-preserved : goal.loop-preserved
loop-preserved g c = (
  c.await_turn.ensures.agent,
  (
    c.in-Ok-Waits.ensures.idle ∙ (λ i. record (c.loop.invariant.1.0 i) { base = c.await_turn.new.caller.pass.base }),
    waited-step g.S.Store.tells c.args.tag.now (seen g.S.Store.opened c.args.caller.now.pass c.args.caller.now.notes) (seen g.S.Store.opened c.loop.caller.pass c.loop.caller.notes) (seen g.S.Store.opened c.await_turn.new.caller.pass c.await_turn.new.caller.notes) c.loop.invariant.1.1 (subst (λ (r : AwaitTurn). IsAwaitTurn {E = Unit {0}} g.S.Store.tells (seen g.S.Store.opened c.loop.caller.pass c.loop.caller.notes) (seen g.S.Store.opened c.await_turn.new.caller.pass c.await_turn.new.caller.notes) c.args.tag.now (Ok r)) c.in-Ok-Waits.field-0-is c.in-Ok-Waits.ensures.turned),
  ),
)

pub returns-in-Err-clause-idle : goal.returns-in-Err-clause-idle
returns-in-Err-clause-idle g c = c.in-Err.ensures.idle ∙ (λ i. record (c.loop.invariant.1.0 i) { base = c.await_turn.new.caller.pass.base })

pub returns-in-Err-clause-waited : goal.returns-in-Err-clause-waited
returns-in-Err-clause-waited g c =
    waited-looked g.S.Store.tells c.args.tag.now (seen g.S.Store.opened c.args.caller.now.pass c.args.caller.now.notes) (seen g.S.Store.opened c.loop.caller.pass c.loop.caller.notes) (seen g.S.Store.opened c.await_turn.new.caller.pass c.await_turn.new.caller.notes) c.loop.invariant.1.1 c.in-Err.ensures.turned
