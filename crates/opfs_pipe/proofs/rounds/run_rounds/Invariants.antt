use Rattle.std.proofs.Common.{◌≡◌, ◌-◌, ◌<◌}
use Rattle.rtrb.specs.Ring.{sent, known_free, producer_capacity, received, IsPair}
use Rattle.opfs_pipe.proofs.Passes.{Going}
use Rattle.opfs_pipe.proofs.rounds.run_rounds.Given as goal

abbrev pub invariant-loop-next : goal.invariant-loop-next
invariant-loop-next g l = record {
  going : Going g.S.Store.tells l.fn.reader l.reader l.fn.writer l.writer l.span.from.now l.span.at l.next l.span.end l.fn.to l.to (sent l.ring.source);
  pair : IsPair l.ring.source l.ring.target;
  ring : producer_capacity l.ring.source ≡ 64;
  none : received l.ring.target ≡ sent l.ring.source;
  free : 0 < known_free l.ring.source;
}

abbrev pub decreases-loop-next : goal.decreases-loop-next
decreases-loop-next g l = l.span.end - l.next
