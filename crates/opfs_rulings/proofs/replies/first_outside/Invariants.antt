use Rattle.std.proofs.Common.{◌≡◌, drop, not, find}
use Rattle.std.specs.List.{filter_map}
use Rattle.std.specs.BTreeSet.{contains}
use Rattle.std.specs.Cmp.Lexicographic.{slice_cmp}
use Rattle.std.specs.Ordering.{nat_cmp}
use Rattle.opfs_base.specs.Places.{child_name}
use Rattle.opfs_rulings.proofs.replies.first_outside.Given as goal

abbrev pub invariant-loop-entry : goal.invariant-loop-entry
invariant-loop-entry l =
    find (λ name. not (contains (slice_cmp nat_cmp) l.names name)) (filter_map (λ e. child_name l.dir e.0) l.rows)
    ≡ find (λ name. not (contains (slice_cmp nat_cmp) l.names name)) (filter_map (λ e. child_name l.dir e.0) (drop l.entry-index l.rows))
