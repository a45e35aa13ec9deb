use Rattle.std.proofs.Common.{◌+◌}
use Rattle.opfs_pages.specs.Stages.{Stage, stage_of}
use Rattle.opfs_pages.proofs.Steps.{stages_added, run_next}
use Rattle.opfs_pages.proofs.stages.stage_run.Goals as goal

pub returns-clause-staged : goal.returns-clause-staged
returns-clause-staged c = λ content.
    let s : Stage = stage_of c.args.source.now c.args.put.now content in
    rw c.from.ensures
    (stages_added s _ c.args.page (c.args.page + c.alike-count.result) c.args.writes.now c.stage_whole.new.writes (Unit {0}) c.own_block-block.result c.in_ok-stage_whole.ensures.added
    (run_next s c.own_block-block.result c.args.page _ c.alike-count.result c.own_block-block.ensures c.alike-count.ensures.alike)
    (λ told bytes copy held. c.in_ok-stage_whole.ensures.right bytes)
    c.in_ok-stage_whole.ensures.bytes)
