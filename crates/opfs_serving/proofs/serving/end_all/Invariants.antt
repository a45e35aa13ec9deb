use Rattle.std.proofs.Common.{ℕ, Some, None, length, ◌≡◌, ◌<◌, slice_get}
use Rattle.opfs_serving.specs.Seats.{SeatSeen}
use Rattle.opfs_serving.specs.Served.{words}
use Rattle.opfs_serving.specs.declared.progress.State.TheVariants as state
use Rattle.opfs_serving.proofs.Polls.{GoesServing}
use Rattle.opfs_serving.proofs.serving.end_all.Given as goal

abbrev pub invariant-loop-place : goal.invariant-loop-place
invariant-loop-place g l =
    GoesServing (words g.S.Chronicle.opening g.S.Store.opened g.S.Chronicle.entries g.S.Store.keeps g.S.Chronicle.goes_on g.S.Store.tells g.P.Port.tells g.P.Port.said g.P.Port.faults) l.fn.hall l.fn.port l.port l.fn.watch l.watch
    l.fn.table.seats.items l.table.seats.items l.fn.table.progress l.table.progress
    × (length l.table.seats.items ≡ l.count)
    × (g.P.Port.tells → g.P.Port.rest l.port ≡ g.P.Port.rest l.fn.port)
    × (l.table.progress.state ≡ state.On → l.fn.table.progress.state ≡ state.On)
    × ((i : ℕ) (x : SeatSeen g.row.S-Opening.Denot) → i < l.place → slice_get l.table.seats.items i ≡ Some x → x.agent ≡ None)
