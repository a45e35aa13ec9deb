use Rattle.std.proofs.Common.{◌≡◌}
use Rattle.opfs_image_tests.proofs.commits.works.keep_back.Given as goal

abbrev pub invariant-loop-bytes : goal.invariant-loop-bytes
invariant-loop-bytes l =
    (goal.iterator-loop-bytes).can_next l.bytes-iterator ×
    (goal.iterator-loop-bytes).is_finite l.bytes-iterator ×
    (l.commits.room ≡ l.initial.commits.room)
