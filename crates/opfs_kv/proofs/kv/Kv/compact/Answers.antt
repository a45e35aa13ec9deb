use Rattle.std.proofs.Common.{IfErr, subst}
use Rattle.opfs_sync_files.specs.Resting.{LeavesRest}
use Rattle.opfs_kv.specs.Asked.{IsCutOr, IsRepack}
use Rattle.opfs_kv.specs.Calls.{HasPlainCause}
use Rattle.opfs_kv.specs.Seen.{KvSeen, map_in}
use Rattle.opfs_kv.proofs.kv.Kv.compact.Goals as goal

pub returns-clause-others : goal.returns-clause-others
returns-clause-others g c = subst (λ (x : KvSeen). LeavesRest g.S.Store.tells c.args.agent.now c.compact_file.new.agent x.handle.row) c.self.view_is c.compact_file.ensures.serves.others

pub returns-clause-cause : goal.returns-clause-cause
returns-clause-cause g c =
    subst (λ (x : KvSeen). IfErr c.compact_file.result (HasPlainCause c.args.agent.now c.compact_file.new.agent (IsCutOr x (IsRepack g.S.Store.tells x (map_in c.args.agent.now x))))) c.self.view_is c.compact_file.ensures.cause
