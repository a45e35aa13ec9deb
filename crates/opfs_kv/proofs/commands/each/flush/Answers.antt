use Rattle.opfs_kv.proofs.commands.Ones.{was-flushed, not-flushed}
use Rattle.opfs_kv.proofs.commands.each.flush.Goals as goal

pub returns-in-Ok : goal.returns-in-Ok
returns-in-Ok g c = was-flushed g.S.Store.tells c.args.agent.now c.store.new.agent c.args.kv.now c.store.new.self c.in-Ok.ensures.flushed

pub returns-in-Err : goal.returns-in-Err
returns-in-Err g c = not-flushed g.S.Store.tells c.args.agent.now c.store.new.agent c.args.kv.now c.store.new.self c.in-Err.stop c.in-Err.ensures.left c.in-Err.ensures.cause
