use Rattle.opfs_pages.proofs.Steps.{all_staged}
use Rattle.opfs_pages.proofs.calls.stage_changes.Goals as goal

pub returns-clause-staged : goal.returns-clause-staged
returns-clause-staged g c =
    all_staged g.D.Disk.tells _ c.make-writes.result c.walk_changes.new.writes c.make-writes.ensures.runs c.make-writes.ensures.moves (c.make-writes.ensures.bytes c.args.put.now.given.now) c.in_ok-walk_changes.ensures.staged
