use Rattle.std.proofs.Common.{IfErr, subst}
use Rattle.opfs_kv.specs.Asked.{IsCutOr, IsRepack}
use Rattle.opfs_kv.specs.Calls.{HasPlainCause}
use Rattle.opfs_kv.specs.Seen.{KvSeen, map_in}
use Rattle.opfs_kv.proofs.kv.Kv.tidy.Goals as goal

pub returns-clause-cause : goal.returns-clause-cause
returns-clause-cause g c =
    subst (λ (x : KvSeen). IfErr c.tidy.result (HasPlainCause c.args.agent.now c.tidy.new.agent (IsCutOr x (IsRepack g.S.Store.tells x (map_in c.args.agent.now x))))) c.self.view_is c.tidy.ensures.cause
