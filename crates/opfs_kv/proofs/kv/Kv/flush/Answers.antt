use Rattle.std.proofs.Common.{◌≡◌, map, IfErr, OnErr, OnOk, subst}
use Rattle.opfs_kv.specs.Asked.{IsCutOr, IsTidyFlush}
use Rattle.opfs_kv.specs.Calls.{HasPlainCause}
use Rattle.opfs_kv.specs.Records.Records.{log_of, put_of}
use Rattle.opfs_kv.specs.Seen.{Flushes, IsTidiedNow, KvSeen, Serves, map_in, seen}
use Rattle.opfs_sync_files.specs.Entries.{GoesOn}
use Rattle.opfs_sync_files.specs.Files.{file_bytes}
use Rattle.opfs_sync_files.specs.Resting.{LeavesRest}
use Rattle.opfs_kv.proofs.Flushing.{flushed-rest}
use Rattle.opfs_kv.proofs.kv.Kv.flush.Goals as goal

pub returns-clause-flushed : goal.returns-clause-flushed
returns-clause-flushed g c =
    subst (λ (x : KvSeen). OnOk c.flush.result (Flushes g.S.Store.tells c.args.agent.now c.flush.new.agent x (seen c.flush.new.handle c.flush.new.notes) 6 (map_in c.args.agent.now x))) c.self.view_is c.flush.ensures.flushed

pub returns-clause-packed : goal.returns-clause-packed
returns-clause-packed g c =
    subst (λ (x : KvSeen). OnOk c.flush.result (IsTidiedNow x → g.S.Store.tells → file_bytes c.flush.new.agent c.flush.new.handle ≡ log_of (map put_of (map_in c.args.agent.now x)))) c.self.view_is c.flush.ensures.packed

pub returns-clause-plain : goal.returns-clause-plain
returns-clause-plain g c =
    subst (λ (x : KvSeen). (IsTidiedNow x → ⊥) → GoesOn c.args.agent.now c.flush.new.agent 2) c.self.view_is c.flush.ensures.plain

pub returns-clause-left : goal.returns-clause-left
returns-clause-left g c =
    subst (λ (x : KvSeen). OnErr c.flush.result (Serves g.S.Store.tells c.args.agent.now c.flush.new.agent x (seen c.flush.new.handle c.flush.new.notes) 6 (map_in c.args.agent.now x))) c.self.view_is c.flush.ensures.left

pub returns-clause-others : goal.returns-clause-others
returns-clause-others g c = subst (λ (x : KvSeen). LeavesRest g.S.Store.tells c.args.agent.now c.flush.new.agent x.handle.row) c.self.view_is
    (flushed-rest g.S.Store.tells c.args.agent.now c.flush.new.agent _ (seen c.flush.new.handle c.flush.new.notes) 6 _ _ c.flush.result c.flush.ensures.flushed c.flush.ensures.left)

pub returns-clause-cause : goal.returns-clause-cause
returns-clause-cause g c =
    subst (λ (x : KvSeen). IfErr c.flush.result (HasPlainCause c.args.agent.now c.flush.new.agent (IsCutOr x (IsTidyFlush g.S.Store.tells x (map_in c.args.agent.now x))))) c.self.view_is c.flush.ensures.cause
