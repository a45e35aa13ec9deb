use Rattle.std.proofs.Common.{◌≡◌, ◌++◌, option_map}
use Rattle.opfs_pool.specs.Victims.{shortest_front}
use Rattle.opfs_pool.proofs.victims.shortest_front.Given as goal

abbrev pub invariant-loop-candidate : goal.invariant-loop-candidate
invariant-loop-candidate l = shortest_front l.fn.lacking l.sorted.entries ≡ option_map (λ more. l.items.items ++ more) (shortest_front l.lacking l.candidate-iterator)
