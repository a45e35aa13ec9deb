use Rattle.std.proofs.Common.{◌-◌, ◌<◌, ◌≤◌}
use Rattle.rtrb.specs.Ring.{sent, known_free, SameProducer}
use Rattle.opfs_pipe.specs.Sides.{Filled}
use Rattle.opfs_pipe.proofs.filling.fill.Given as goal

abbrev pub invariant-loop-place : goal.invariant-loop-place
invariant-loop-place g l = record {
  filled : Filled g.S.Store.tells l.fn.reader l.reader l.from l.at l.next l.end (sent l.fn.source) (sent l.source) l.place;
  ring : SameProducer l.fn.source l.source;
  on : l.next ≤ l.place;
  free : 0 < known_free l.source;
}

abbrev pub decreases-loop-place : goal.decreases-loop-place
decreases-loop-place g l = l.end - l.place
