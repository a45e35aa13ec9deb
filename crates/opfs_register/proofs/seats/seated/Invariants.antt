use Rattle.std.proofs.Common.{◌≡◌, ◌+◌, ◌≤◌, ◌++◌, length, map}
use Rattle.std.specs.Vec.{vec_len, vec_capacity}
use Rattle.opfs_register.specs.Seating.{agent_begun, agents_seen}
use Rattle.opfs_register.proofs.seats.seated.Given as goal

abbrev pub invariant-loop-alloc : goal.invariant-loop-alloc
invariant-loop-alloc l =
    record {
      same : agents_seen l.seats.items ++ map agent_begun l.agents.items ≡ map agent_begun l.fn.agents.items;
      room : vec_len l.seats + vec_len l.agents ≤ vec_capacity l.seats;
    }

abbrev pub decreases-loop-alloc : goal.decreases-loop-alloc
decreases-loop-alloc l = length l.agents.items
