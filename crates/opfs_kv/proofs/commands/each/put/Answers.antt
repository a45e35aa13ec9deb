use Rattle.opfs_kv.proofs.commands.Ones.{was-put, not-put}
use Rattle.opfs_kv.proofs.commands.each.put.Goals as goal

pub returns-in-Ok : goal.returns-in-Ok
returns-in-Ok g c = was-put g.S.Store.tells c.args.agent.now c.put.new.agent c.args.kv.now c.put.new.self c.args.key.now c.args.value.now c.in-Ok.ensures.put c.in-Ok.ensures.live c.in-Ok.ensures.full

pub returns-in-Err : goal.returns-in-Err
returns-in-Err g c = not-put g.S.Store.tells c.args.agent.now c.put.new.agent c.args.kv.now c.put.new.self c.args.key.now c.args.value.now c.in-Err.stop c.in-Err.ensures.left c.in-Err.ensures.full c.in-Err.ensures.cause
