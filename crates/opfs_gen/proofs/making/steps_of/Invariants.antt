use Rattle.std.proofs.Common.{◌≡◌, ◌++◌, ◌-◌}
use Rattle.opfs_gen.specs.Rounds.{gen_steps, rounds_steps}
use Rattle.opfs_gen.proofs.making.steps_of.Given as goal

abbrev pub invariant-loop : goal.invariant-loop
invariant-loop l = l.steps.items ++ rounds_steps l.x (l.rounds - l.counter) ≡ gen_steps l.start l.rounds
