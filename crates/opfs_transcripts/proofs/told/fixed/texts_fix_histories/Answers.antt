use Rattle.opfs_transcripts.proofs.told.Fixing.{texts-fix}
use Rattle.opfs_transcripts.proofs.told.fixed.texts_fix_histories.Goals as goal

pub returns : goal.returns
returns c = texts-fix
