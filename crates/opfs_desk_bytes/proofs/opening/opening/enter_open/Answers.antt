use Rattle.opfs_desk_bytes.proofs.opening.Words.{silent}
use Rattle.opfs_desk_bytes.proofs.opening.opening.enter_open.Goals as goal

pub tell_last-requires-clause-silent : goal.tell_last-requires-clause-silent
tell_last-requires-clause-silent g c = silent _ _ _ _ _ c.requires.word
