use Rattle.std.proofs.Common.{refl, []}
use Rattle.opfs_machine.specs.Openings.{begun}
use Rattle.opfs_examples.specs.Trying.{try_opening}
use Rattle.opfs_examples.proofs.Agentless.{nothing_entered}
use Rattle.opfs_examples.proofs.nobody.without_agents_nothing_is_entered.Goals as goal

pub returns : goal.returns
returns c es h = (nothing_entered (begun (try_opening [])) [] es refl h).1
