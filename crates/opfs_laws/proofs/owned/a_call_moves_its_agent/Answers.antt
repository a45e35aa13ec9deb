use Rattle.opfs_laws.proofs.Moved.{call-moves}
use Rattle.opfs_laws.proofs.owned.a_call_moves_its_agent.Goals as goal

pub returns : goal.returns
returns c = call-moves
