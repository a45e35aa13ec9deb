use Rattle.std.proofs.Common.{◌≡◌, ◌++◌, length}
use Rattle.rtrb.specs.Ring.{received, known_items, SameConsumer}
use Rattle.opfs_pipe.specs.Sides.{Drained}
use Rattle.opfs_pipe.proofs.draining.drain_known.Given as goal

abbrev pub invariant-loop-left : goal.invariant-loop-left
invariant-loop-left g l = record {
  drained : Drained g.S.Store.tells l.fn.writer l.writer l.fn.to l.to (received l.fn.target) (received l.target);
  known : received l.target ++ known_items l.target ≡ received l.fn.target ++ known_items l.fn.target;
  many : l.left ≡ length (known_items l.target);
  ring : SameConsumer l.fn.target l.target;
}

abbrev pub decreases-loop-left : goal.decreases-loop-left
decreases-loop-left g l = l.left
