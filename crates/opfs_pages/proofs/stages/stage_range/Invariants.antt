use Rattle.std.proofs.Common.{◌≡◌, ◌≤◌, ◌-◌, length}
use Rattle.opfs_data.specs.Calls.{Reads}
use Rattle.opfs_pages.specs.Stages.{Stages, stage_of}
use Rattle.opfs_pages.proofs.stages.stage_range.Given as goal

abbrev pub invariant-loop-page : goal.invariant-loop-page
invariant-loop-page g l = record {
  begins : l.from ≤ l.page;
  ends : l.page ≤ l.to;
  buffer : length l.buffer ≡ 4096;
  reads : Reads g.D.Disk l.fn.journal l.journal;
  staged : Stages g.D.Disk.tells (stage_of l.source l.put (g.D.Disk.content l.fn.journal.disk)) l.from l.page l.fn.writes l.writes;
}

abbrev pub decreases-loop-page : goal.decreases-loop-page
decreases-loop-page g l = l.to - l.page
