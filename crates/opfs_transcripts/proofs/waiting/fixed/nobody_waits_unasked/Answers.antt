use Rattle.opfs_transcripts.proofs.waiting.Cleared.{nobody-waits-unasked}
use Rattle.opfs_transcripts.proofs.waiting.fixed.nobody_waits_unasked.Goals as goal

pub returns : goal.returns
returns c = nobody-waits-unasked
