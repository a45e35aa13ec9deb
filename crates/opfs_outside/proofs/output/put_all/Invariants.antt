use Rattle.std.proofs.Common.{◌≤◌, length}
use Rattle.opfs_outside.specs.Turns.{of_sink, TookFront}
use Rattle.opfs_outside.proofs.output.put_all.Given as goal

abbrev pub invariant-loop-rest : goal.invariant-loop-rest
invariant-loop-rest g l = record {
  so_far : TookFront (of_sink g.K.Sink l.initial.sink l.sink) l.bytes l.rest;
  later : g.K.Sink.faults l.initial.sink ≤ g.K.Sink.faults l.sink;
}

abbrev pub decreases-loop-rest : goal.decreases-loop-rest
decreases-loop-rest g l = length l.rest
