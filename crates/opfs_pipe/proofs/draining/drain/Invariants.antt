use Rattle.std.proofs.Common.{◌≡◌, ◌+◌, ◌-◌, ◌≤◌, length}
use Rattle.rtrb.specs.Ring.{received, SameConsumer}
use Rattle.opfs_pipe.specs.Sides.{Drained}
use Rattle.opfs_pipe.proofs.draining.drain.Given as goal

abbrev pub invariant-loop-count : goal.invariant-loop-count
invariant-loop-count g l = record {
  drained : Drained g.S.Store.tells l.fn.writer l.writer l.fn.to l.to (received l.fn.target) (received l.target);
  many : length (received l.target) ≡ length (received l.fn.target) + l.count;
  within : l.count ≤ 65536;
  ring : SameConsumer l.fn.target l.target;
}

abbrev pub decreases-loop-count : goal.decreases-loop-count
decreases-loop-count g l = 65536 - l.count
