use Rattle.std.proofs.Common.{◌≤◌, vec_capacity}
use Rattle.opfs_hall.specs.Seen.{AreNew}
use Rattle.opfs_hall.specs.Turns.{IsFresh}
use Rattle.opfs_hall.proofs.hall.number_all.Given as goal

-- the passes below `next` are made, and the seat is that of the next one
abbrev pub invariant-loop-next : goal.invariant-loop-next
invariant-loop-next g l = IsFresh l.seat l.hall l.next × AreNew l.hall l.next l.passes.items × (l.fn.count ≤ vec_capacity l.passes)
