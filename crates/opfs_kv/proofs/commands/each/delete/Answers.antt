use Rattle.opfs_kv.proofs.commands.Ones.{was-deleted, not-deleted}
use Rattle.opfs_kv.proofs.commands.each.delete.Goals as goal

pub returns-in-Ok : goal.returns-in-Ok
returns-in-Ok g c = was-deleted g.S.Store.tells c.args.agent.now c.delete.new.agent c.args.kv.now c.delete.new.self c.args.key.now c.in-Ok.was c.in-Ok.ensures.gone c.in-Ok.ensures.was c.in-Ok.ensures.live c.in-Ok.ensures.full

pub returns-in-Err : goal.returns-in-Err
returns-in-Err g c = not-deleted g.S.Store.tells c.args.agent.now c.delete.new.agent c.args.kv.now c.delete.new.self c.args.key.now c.in-Err.stop c.in-Err.ensures.left c.in-Err.ensures.full c.in-Err.ensures.none c.in-Err.ensures.cause
