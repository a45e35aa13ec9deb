use Rattle.std.proofs.Common.{◌≡◌, ◌++◌, fold, map, length}
use Rattle.std.proofs.Common.{option_map}
use Rattle.opfs_machine.specs.Contents.{in_bytes}
use Rattle.opfs_machine.specs.Sums.{pool}
use Rattle.opfs_machine.specs.Victims.{cleared, shortest_front}
use Rattle.opfs_rulings.proofs.room.shortest_front.Given as goal

abbrev pub invariant-loop-unit : goal.invariant-loop-unit
invariant-loop-unit l =
    (shortest_front in_bytes l.state l.need (map (λ e. e.1) l.fn.units.keys)
    ≡ option_map (λ more. l.gone.items ++ more) (shortest_front in_bytes (fold cleared l.state l.gone.items) l.need (map (λ e. e.1) l.left.keys)))
    × (l.held ≡ pool in_bytes (fold cleared l.state l.gone.items))

abbrev pub decreases-loop-unit : goal.decreases-loop-unit
decreases-loop-unit l = length l.left.keys
