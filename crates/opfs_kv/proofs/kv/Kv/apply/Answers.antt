use Rattle.std.proofs.Common.{◌≡◌, ◌++◌, false, OnErr, OnOk, subst}
use Rattle.opfs_kv.specs.Records.Records.{after_all, log_of}
use Rattle.opfs_kv.specs.Seen.{KvSeen, Serves, live_bytes, map_in, seen}
use Rattle.opfs_sync_files.specs.Entries.{GoesOn}
use Rattle.opfs_sync_files.specs.Resting.{LeavesRest}
use Rattle.opfs_kv.proofs.Flushing.{served-rest}
use Rattle.opfs_kv.proofs.kv.Kv.apply.Goals as goal

pub returns-clause-applied : goal.returns-clause-applied
returns-clause-applied g c =
    subst (λ (x : KvSeen). OnOk c.apply.result (Serves g.S.Store.tells c.args.agent.now c.apply.new.agent x (seen c.apply.new.handle c.apply.new.notes) 2 (after_all (map_in c.args.agent.now x) c.args.batch.now))) c.self.view_is c.apply.ensures.applied

pub returns-clause-written : goal.returns-clause-written
returns-clause-written g c =
    subst (λ (x : KvSeen). OnOk c.apply.result (live_bytes c.apply.new.agent (seen c.apply.new.handle c.apply.new.notes) ≡ live_bytes c.args.agent.now x ++ log_of c.args.batch.now)) c.self.view_is c.apply.ensures.written

pub returns-clause-left : goal.returns-clause-left
returns-clause-left g c =
    subst (λ (x : KvSeen). OnErr c.apply.result (Serves g.S.Store.tells c.args.agent.now c.apply.new.agent x (seen c.apply.new.handle c.apply.new.notes) 2 (map_in c.args.agent.now x))) c.self.view_is c.apply.ensures.left

pub returns-clause-others : goal.returns-clause-others
returns-clause-others g c = subst (λ (x : KvSeen). LeavesRest g.S.Store.tells c.args.agent.now c.apply.new.agent x.handle.row) c.self.view_is
    (served-rest g.S.Store.tells c.args.agent.now c.apply.new.agent _ (seen c.apply.new.handle c.apply.new.notes) 2 _ _ c.apply.result c.apply.ensures.applied c.apply.ensures.left)

pub returns-clause-once : goal.returns-clause-once
returns-clause-once g c = subst (λ (x : KvSeen). x.tail ≡ false → GoesOn c.args.agent.now c.apply.new.agent 1) c.self.view_is c.apply.ensures.once
