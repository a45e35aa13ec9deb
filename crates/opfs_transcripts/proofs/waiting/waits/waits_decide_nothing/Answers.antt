use Rattle.opfs_transcripts.proofs.waiting.Deciding.{waits-decide-nothing}
use Rattle.opfs_transcripts.proofs.waiting.waits.waits_decide_nothing.Goals as goal

pub returns : goal.returns
returns c = waits-decide-nothing
