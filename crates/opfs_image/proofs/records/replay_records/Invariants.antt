use Rattle.std.proofs.Common.{◌≡◌, ◌-◌, ◌<◌, ◌≤◌, ℕ}
use Rattle.std.specs.Prelude.{Result}
use Rattle.opfs_journal.specs.Walking.{OnlyRead}
use Rattle.opfs_records.specs.Replay.Built.{Built}
use Rattle.opfs_image.specs.Walking.{Yields}
use Rattle.opfs_image.proofs.records.replay_records.Given as goal

abbrev pub invariant-gates : goal.invariant-gates
invariant-gates g l = record {
  inside : l.gate < l.stop;
  lies : l.stop ≤ g.D.Disk.size l.disk;
  only : OnlyRead g.D.Disk l.fn.disk l.disk;
  size : l.replay.size ≡ l.fn.replay.size;
  quota : l.replay.quota ≡ l.fn.replay.quota;
  on : g.D.Disk.tells → (r : Result Built ℕ) → Yields l.format l.fn.replay.size (g.D.Disk.content l.fn.disk) l.stop l.skip l.gate l.replay.built r
      → Yields l.format l.fn.replay.size (g.D.Disk.content l.fn.disk) l.stop 1 l.fn.begin l.fn.replay.built r;
}

abbrev pub decreases-gates : goal.decreases-gates
decreases-gates g l = l.stop - l.gate
