use Rattle.opfs_kv.proofs.commands.Ones.{got, not-got}
use Rattle.opfs_kv.proofs.commands.each.get.Goals as goal

pub returns-in-Ok : goal.returns-in-Ok
returns-in-Ok g c = got g.S.Store.tells c.args.agent.now c.get.new.agent c.args.kv.now c.get.new.self c.args.key.now c.in-Ok.value c.in-Ok.ensures.serves c.in-Ok.ensures.value

pub returns-in-Err : goal.returns-in-Err
returns-in-Err g c = not-got g.S.Store.tells c.args.agent.now c.get.new.agent c.args.kv.now c.get.new.self c.args.key.now c.in-Err.stop c.in-Err.ensures.serves c.in-Err.ensures.cause
