use Rattle.std.proofs.Common.{refl}
use Rattle.opfs_pages.proofs.Steps.{one_rest}
use Rattle.opfs_pages.proofs.stages.stage_spared.Goals as goal

pub returns-then-not-needs-clause-staged : goal.returns-then-not-needs-clause-staged
returns-then-not-needs-clause-staged g c =
    one_rest g.D.Disk.tells _ c.args.page c.args.writes.now (record { stored = c.if-not-needs.ensures.rest refl; spared = c.requires.spared; block = c.if-not-needs.ensures.block refl })
