use Rattle.std.proofs.Common.{◌≤◌, ◌+◌, ◌-◌, max, vec_len}
use Rattle.std.specs.Vec.{vec_capacity}
use Rattle.opfs_work.proofs.spares.fill_spare.Given as goal

abbrev pub invariant-loop-alloc : goal.invariant-loop-alloc
invariant-loop-alloc l = (vec_len l.initial.spare ≤ vec_len l.spare) × (vec_len l.spare ≤ max (vec_len l.initial.spare) l.count) × (vec_len l.initial.spare + (l.count + l.places) ≤ vec_capacity l.spare)

abbrev pub decreases-loop-alloc : goal.decreases-loop-alloc
decreases-loop-alloc l = l.count - vec_len l.spare
