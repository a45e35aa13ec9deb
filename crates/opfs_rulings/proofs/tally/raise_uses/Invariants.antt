use Rattle.std.proofs.Common.{◌≡◌, ◌+◌, ◌++◌, if◌then◌else◌, map, take, drop}
use Rattle.opfs_base.specs.Texts.{same_text}
use Rattle.opfs_rulings.proofs.tally.raise_uses.Given as goal

abbrev pub invariant-loop-at : goal.invariant-loop-at
invariant-loop-at l = l.uses ≡ map (λ e. (e.0, e.1 + (if same_text e.0 l.origin then l.more else 0))) (take l.at l.initial.uses) ++ drop l.at l.initial.uses
