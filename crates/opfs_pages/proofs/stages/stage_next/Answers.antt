use Rattle.opfs_pages.proofs.Steps.{stages_any}
use Rattle.opfs_pages.proofs.stages.stage_next.Goals as goal

pub returns-then-most-gt0-clause-staged : goal.returns-then-most-gt0-clause-staged
returns-then-most-gt0-clause-staged g c =
    stages_any g.D.Disk.tells _ c.args.page c.in_ok-next.next c.args.writes.now c.stage_run.new.writes (c.in_ok-next.ensures.staged (g.D.Disk.content c.args.journal.now.disk))
