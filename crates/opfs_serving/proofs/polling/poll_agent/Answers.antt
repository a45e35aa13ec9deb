use Rattle.std.specs.declared.alloc.AllocError.{AllocError}
use Rattle.opfs_serving.proofs.Awaiting.{is-answered, is-waiting, still-midway}
use Rattle.opfs_serving.proofs.polling.poll_agent.Goals as goal

pub returns-in-Ok-clause-answered : goal.returns-in-Ok-clause-answered
returns-in-Ok-clause-answered g c = λ is k asked rows hand m.
    is-answered g.S.Store.tells c.args.hall.now k asked c.args.agent.now c.await_once-turn.new.self rows hand c.args.tag.now m c.know_kept.ensures AllocError _ (c.is_answered.ensures.answered is) c.in-Ok.ensures

pub returns-in-Ok-clause-waits : goal.returns-in-Ok-clause-waits
returns-in-Ok-clause-waits g c = λ is k asked rows hand m.
    is-waiting g.S.Store.tells c.args.hall.now k asked c.args.agent.now c.await_once-turn.new.self rows hand c.args.tag.now m c.know_kept.ensures AllocError _ (c.is_answered.ensures.waits is) c.in-Ok.ensures

pub returns-in-Err-clause-err : goal.returns-in-Err-clause-err
returns-in-Err-clause-err g c = λ k asked rows hand m.
    still-midway g.S.Store.tells c.args.hall.now k asked c.args.agent.now c.await_once-turn.new.self rows hand c.args.tag.now m c.know_kept.ensures c.in-Err.ensures
