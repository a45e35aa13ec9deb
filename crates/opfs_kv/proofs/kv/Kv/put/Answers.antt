use Rattle.std.proofs.Common.{OnErr, OnOk, subst}
use Rattle.opfs_kv.specs.Records.Maps.{with_key}
use Rattle.opfs_kv.specs.Seen.{KvSeen, Serves, map_in, seen}
use Rattle.opfs_sync_files.specs.Resting.{LeavesRest}
use Rattle.opfs_kv.proofs.Flushing.{served-rest}
use Rattle.opfs_kv.proofs.kv.Kv.put.Goals as goal

pub returns-clause-put : goal.returns-clause-put
returns-clause-put g c =
    subst (λ (x : KvSeen). OnOk c.put.result (Serves g.S.Store.tells c.args.agent.now c.put.new.agent x (seen c.put.new.handle c.put.new.notes) 2 (with_key (map_in c.args.agent.now x) c.args.key.now c.args.value.now))) c.self.view_is c.put.ensures.put

pub returns-clause-left : goal.returns-clause-left
returns-clause-left g c =
    subst (λ (x : KvSeen). OnErr c.put.result (Serves g.S.Store.tells c.args.agent.now c.put.new.agent x (seen c.put.new.handle c.put.new.notes) 2 (map_in c.args.agent.now x))) c.self.view_is c.put.ensures.left

pub returns-clause-others : goal.returns-clause-others
returns-clause-others g c = subst (λ (x : KvSeen). LeavesRest g.S.Store.tells c.args.agent.now c.put.new.agent x.handle.row) c.self.view_is
    (served-rest g.S.Store.tells c.args.agent.now c.put.new.agent _ (seen c.put.new.handle c.put.new.notes) 2 _ _ c.put.result c.put.ensures.put c.put.ensures.left)
