use Rattle.std.proofs.Common.{◌-◌, ◌<◌, ◌≤◌}
use Rattle.opfs_journal.specs.Walking.{OnlyRead, Leads}
use Rattle.opfs_journal.proofs.reader.walk.Given as goal

abbrev pub invariant-gates : goal.invariant-gates
invariant-gates g l = record {
  above : l.fn.from ≤ l.gate;
  inside : l.gate < l.stop;
  lies : l.stop ≤ g.D.Disk.size l.disk;
  only : OnlyRead g.D.Disk l.fn.disk l.disk;
  leads : g.D.Disk.tells → Leads (g.D.Disk.content l.fn.disk) l.fn.from l.gate;
}

abbrev pub decreases-gates : goal.decreases-gates
decreases-gates g l = l.stop - l.gate
