use Rattle.opfs_kv.proofs.commands.Ones.{was-compacted, not-compacted}
use Rattle.opfs_kv.proofs.commands.each.compact.Goals as goal

pub returns-in-Ok : goal.returns-in-Ok
returns-in-Ok g c = was-compacted g.S.Store.tells c.args.agent.now c.compact.new.agent c.args.kv.now c.compact.new.self c.in-Ok.ensures.serves

pub returns-in-Err : goal.returns-in-Err
returns-in-Err g c = not-compacted g.S.Store.tells c.args.agent.now c.compact.new.agent c.args.kv.now c.compact.new.self c.in-Err.stop c.in-Err.ensures.serves c.in-Err.ensures.cause
