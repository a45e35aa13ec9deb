use Rattle.std.proofs.Common.{subst}
use Rattle.opfs_sync_files.specs.Resting.{LeavesRest}
use Rattle.opfs_kv.specs.Seen.{KvSeen}
use Rattle.opfs_kv.proofs.Flushing.{closed-rest}
use Rattle.opfs_kv.proofs.kv.Kv.close.Goals as goal

pub returns-clause-others : goal.returns-clause-others
returns-clause-others g c = subst (λ (x : KvSeen). LeavesRest g.S.Store.tells c.args.agent.now c.cut_and_end.new.agent x.handle.row) c.self.view_is
    (closed-rest g.S.Store.tells c.args.agent.now c.cut_and_end.new.agent _ 2 _ c.cut_and_end.result c.cut_and_end.ensures.closed c.cut_and_end.ensures.back)
