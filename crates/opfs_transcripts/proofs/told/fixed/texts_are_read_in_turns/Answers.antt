use Rattle.opfs_transcripts.proofs.told.Turning.{in-turns}
use Rattle.opfs_transcripts.proofs.told.fixed.texts_are_read_in_turns.Goals as goal

pub returns : goal.returns
returns c = in-turns
