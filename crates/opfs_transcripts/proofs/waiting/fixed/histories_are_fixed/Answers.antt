use Rattle.opfs_transcripts.proofs.waiting.Cleared.{histories-are-fixed}
use Rattle.opfs_transcripts.proofs.waiting.fixed.histories_are_fixed.Goals as goal

pub returns : goal.returns
returns c = histories-are-fixed
