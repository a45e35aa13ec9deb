use Rattle.std.proofs.Common.{◌≡◌, ◌++◌, ◌+◌, ◌-◌}
use Rattle.opfs_gen.specs.Making.{agents_from, gen_script}
use Rattle.opfs_gen.proofs.making.scripts_of.Given as goal

abbrev pub invariant-loop-index : goal.invariant-loop-index
invariant-loop-index l = l.scripts.items ++ agents_from l.seed l.rounds (l.index + 1) (l.agents - l.index) ≡ gen_script l.seed l.agents l.rounds
