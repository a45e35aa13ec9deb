use Rattle.std.proofs.Common.{subst}
use Rattle.opfs_runner.specs.Stepping.{IsStepped}
use Rattle.opfs_serving.proofs.Midway.{midway-more, midway-stops, passed-room}
use Rattle.opfs_serving.proofs.asking.make_call.Goals as goal

pub returns-then-not-make_step-clause-stops : goal.returns-then-not-make_step-clause-stops
returns-then-not-make_step-clause-stops g c = λ is k asked m.
    midway-stops g.S.Store.tells c.args.hall.now k asked c.args.agent.now c.make_step.new.agent c.args.rows.now.items c.make_step.new.agent_rows.items c.args.hand.now c.make_step.new.hand c.args.step.now
    m c.requires.bounds c.requires.room
    (subst (IsStepped g.S.Store.tells c.args.agent.now c.make_step.new.agent c.args.rows.now.items c.make_step.new.agent_rows.items c.args.hand.now c.make_step.new.hand c.args.step.now) c.if-not-make_step.true c.make_step.ensures)
    c.know_kept.ensures

pub enter_pending-requires-clause-room : goal.enter_pending-requires-clause-room
enter_pending-requires-clause-room g c =
    let m = c.requires.midway in
    passed-room g.S.Store.tells c.args.hall.now m.0 m.1 c.args.agent.now c.make_step.new.agent c.args.rows.now.items c.make_step.new.agent_rows.items c.args.hand.now c.make_step.new.hand c.args.step.now
    m.2 c.requires.bounds c.requires.room
    (subst (IsStepped g.S.Store.tells c.args.agent.now c.make_step.new.agent c.args.rows.now.items c.make_step.new.agent_rows.items c.args.hand.now c.make_step.new.hand c.args.step.now) c.if-not-make_step.false c.make_step.ensures)

pub returns-clause-goes : goal.returns-clause-goes
returns-clause-goes g c = λ is k asked m.
    midway-more g.S.Store.tells c.args.hall.now k asked c.args.agent.now c.make_step.new.agent c.args.rows.now.items c.make_step.new.agent_rows.items c.args.hand.now c.make_step.new.hand c.args.step.now
    m c.requires.bounds c.requires.room
    (subst (IsStepped g.S.Store.tells c.args.agent.now c.make_step.new.agent c.args.rows.now.items c.make_step.new.agent_rows.items c.args.hand.now c.make_step.new.hand c.args.step.now) c.if-not-make_step.false c.make_step.ensures)
    c.know_kept-2.ensures c.enter_pending.new.self c.know_kept-3.ensures c.enter_pending.ensures
