use Rattle.std.proofs.Common.{◌≡◌}
use Rattle.std.specs.List.{AllByRecursion}
use Rattle.opfs_rulings.proofs.tally.no_uses.Given as goal

abbrev pub invariant-loop-agent : goal.invariant-loop-agent
invariant-loop-agent l = AllByRecursion (λ e. e.1 ≡ 0) l.uses.items
