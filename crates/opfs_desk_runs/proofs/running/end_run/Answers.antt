use Rattle.opfs_desk_runs.proofs.Runs.{end-counted}
use Rattle.opfs_desk_runs.proofs.running.end_run.Goals as goal

pub returns-clause-failed : goal.returns-clause-failed
returns-clause-failed g c =
    end-counted c.finish-disk.result.2 _ _ _ _ c.counts.ensures.faults c.finish-disk.ensures.later (g.met.D.Disk.counted _) c.finish-disk.ensures.cause
