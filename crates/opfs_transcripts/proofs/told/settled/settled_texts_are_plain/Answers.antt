use Rattle.opfs_transcripts.proofs.told.PlainTexts.{settled-plain}
use Rattle.opfs_transcripts.proofs.told.settled.settled_texts_are_plain.Goals as goal

pub returns : goal.returns
returns c = settled-plain
