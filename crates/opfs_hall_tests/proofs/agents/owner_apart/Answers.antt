use Rattle.opfs_hall_tests.proofs.RunLemmas.{new-named}
use Rattle.opfs_hall_tests.proofs.agents.owner_apart.Goals as goal

pub returns-clause-named : goal.returns-clause-named
returns-clause-named c = rw c.remove-owner.ensures.items (new-named c.args.hall.now c.args.agents c.args.passes.items c.requires)
