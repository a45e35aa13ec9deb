use Rattle.opfs_data.specs.Rows.{pages_at}
use Rattle.opfs_pages.specs.Stages.{Stage, stage_of}
use Rattle.opfs_pages.proofs.Steps.{stages_added, one_next, held_page}
use Rattle.opfs_pages.proofs.stages.stage_one.Goals as goal

pub returns-clause-staged : goal.returns-clause-staged
returns-clause-staged g c =
    let s : Stage = stage_of c.args.source.now c.args.put.now (g.D.Disk.content c.args.journal.now.disk) in
    stages_added s _ c.args.page _ c.args.writes.now c.stage_page.new.writes g.D.Disk.tells c.own_block-block.result c.in_ok-stage_page.ensures.added
    (one_next s c.own_block-block.result c.args.page c.stage_page.new.buffer c.own_block-block.ensures)
    (λ told bytes copy held. c.in_ok-stage_page.ensures.right told bytes copy (held_page bytes s.work s.content s.base (pages_at s.agent s.row s.swap) c.args.page held))
    c.in_ok-stage_page.ensures.bytes
