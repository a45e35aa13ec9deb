use Rattle.opfs_telling.proofs.Fronts.{HasSaid}
use Rattle.opfs_telling.proofs.telling.tell_entries.Given as goal

abbrev pub invariant-loop-entry : goal.invariant-loop-entry
invariant-loop-entry g l = HasSaid g.K.Sink l.initial.sink l.sink l.initial.progress l.progress l.entries l.entry-iterator
