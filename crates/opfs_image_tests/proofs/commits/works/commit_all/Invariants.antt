use Rattle.std.proofs.Common.{◌≤◌}
use Rattle.opfs_image_tests.proofs.commits.works.commit_all.Given as goal

abbrev pub invariant-loop-way : goal.invariant-loop-way
invariant-loop-way l = l.commits.room ≤ l.journal.spare
