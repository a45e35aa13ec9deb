use Rattle.std.proofs.Common.{◌≡◌, Bool, IfOk, OnErr, OnOk, subst}
use Rattle.std.specs.Prelude.{is_some}
use Rattle.opfs_kv.specs.Records.Maps.{found, without_key}
use Rattle.opfs_kv.specs.Seen.{KvSeen, Serves, map_in, seen}
use Rattle.opfs_sync_files.specs.Resting.{LeavesRest}
use Rattle.opfs_kv.proofs.Flushing.{served-rest}
use Rattle.opfs_kv.proofs.kv.Kv.delete.Goals as goal

pub returns-clause-was : goal.returns-clause-was
returns-clause-was g c = subst (λ (x : KvSeen). IfOk c.delete.result (λ (w : Bool). w ≡ is_some (found (map_in c.args.agent.now x) c.args.key.now))) c.self.view_is c.delete.ensures.was

pub returns-clause-gone : goal.returns-clause-gone
returns-clause-gone g c =
    subst (λ (x : KvSeen). OnOk c.delete.result (Serves g.S.Store.tells c.args.agent.now c.delete.new.agent x (seen c.delete.new.handle c.delete.new.notes) 2 (without_key (map_in c.args.agent.now x) c.args.key.now))) c.self.view_is c.delete.ensures.gone

pub returns-clause-left : goal.returns-clause-left
returns-clause-left g c =
    subst (λ (x : KvSeen). OnErr c.delete.result (Serves g.S.Store.tells c.args.agent.now c.delete.new.agent x (seen c.delete.new.handle c.delete.new.notes) 2 (map_in c.args.agent.now x))) c.self.view_is c.delete.ensures.left

pub returns-clause-others : goal.returns-clause-others
returns-clause-others g c = subst (λ (x : KvSeen). LeavesRest g.S.Store.tells c.args.agent.now c.delete.new.agent x.handle.row) c.self.view_is
    (served-rest g.S.Store.tells c.args.agent.now c.delete.new.agent _ (seen c.delete.new.handle c.delete.new.notes) 2 _ _ c.delete.result c.delete.ensures.gone c.delete.ensures.left)
