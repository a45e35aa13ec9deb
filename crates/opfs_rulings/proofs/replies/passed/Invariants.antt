use Rattle.std.proofs.Common.{◌≡◌, drop}
use Rattle.std.specs.List.{filter_map}
use Rattle.opfs_base.specs.Places.{child_name}
use Rattle.opfs_machine.specs.Contents.{next_of}
use Rattle.opfs_rulings.proofs.replies.passed.Given as goal

abbrev pub invariant-loop-at : goal.invariant-loop-at
invariant-loop-at l =
    next_of l.given (filter_map (λ e. child_name l.dir e.0) l.rows) ≡ next_of l.given (filter_map (λ e. child_name l.dir e.0) (drop l.at l.rows))
