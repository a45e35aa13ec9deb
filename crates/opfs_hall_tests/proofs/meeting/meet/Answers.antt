use Rattle.std.proofs.Common.{rules}
use Rattle.opfs_hall_tests.proofs.RunLemmas.{has_all_two}
use Rattle.opfs_hall_tests.proofs.meeting.meet.Goals as goal

pub close-requires-clause-all : goal.close-requires-clause-all
close-requires-clause-all g c = has_all_two c.join-2.new.into (search rules) (search rules) (search rules)
