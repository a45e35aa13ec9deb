use Rattle.opfs_laws.proofs.lengths.LocalCalls.{local-known}
use Rattle.opfs_laws.proofs.lengths.bridge.local_calls_are_known_by_their_word.Goals as goal

pub returns : goal.returns
returns c = local-known
