use Rattle.std.proofs.Common.{subst}
use Rattle.opfs_sync_files.specs.Resting.{LeavesRest}
use Rattle.opfs_kv.specs.Seen.{KvSeen}
use Rattle.opfs_kv.proofs.kv.Kv.get.Goals as goal

pub returns-clause-others : goal.returns-clause-others
returns-clause-others g c = subst (λ (x : KvSeen). LeavesRest g.S.Store.tells c.args.agent.now c.get.new.agent x.handle.row) c.self.view_is
    (c.get.ensures.serves.others)
