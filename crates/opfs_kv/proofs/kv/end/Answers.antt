use Rattle.opfs_kv.specs.Seen.{seen}
use Rattle.opfs_kv.proofs.Flushing.{closes-one, left-one}
use Rattle.opfs_kv.proofs.kv.end.Goals as goal

pub returns-in-Ok-clause-closed : goal.returns-in-Ok-clause-closed
returns-in-Ok-clause-closed g c = closes-one g.S.Store.tells c.args.agent.now c.close.new.agent (seen c.args.handle c.args.notes) c.requires.stands c.requires.none c.in-Ok.closed.row c.in-Ok.ensures.closed c.in-Ok.ensures.goes c.in-Ok.ensures.others c.in-Ok.ensures.stored c.in-Ok.ensures.doubts

pub returns-in-Err-clause-back : goal.returns-in-Err-clause-back
returns-in-Err-clause-back g c = left-one g.S.Store.tells c.args.agent.now c.close.new.agent (seen c.args.handle c.args.notes) c.requires.stands c.requires.none c.in-Err.handle c.in-Err.ensures.still c.in-Err.ensures.same c.in-Err.ensures.unstored
