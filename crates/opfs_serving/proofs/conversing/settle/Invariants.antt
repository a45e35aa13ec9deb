use Rattle.opfs_serving.specs.Served.{words}
use Rattle.opfs_serving.proofs.Polls.{GoesServing}
use Rattle.opfs_serving.proofs.conversing.settle.Given as goal

abbrev pub invariant-loop : goal.invariant-loop
invariant-loop g l =
    GoesServing (words g.S.Chronicle.opening g.S.Store.opened g.S.Chronicle.entries g.S.Store.keeps g.S.Chronicle.goes_on g.S.Store.tells g.P.Port.tells g.P.Port.said g.P.Port.faults) l.fn.hall l.fn.port l.port l.fn.watch l.watch
    l.fn.table.seats.items l.table.seats.items l.fn.table.progress l.table.progress
