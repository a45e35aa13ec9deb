use Rattle.opfs_transcripts.proofs.lone.Owning.{lone-runs-are-their-own}
use Rattle.opfs_transcripts.proofs.lone.lone.lone_runs_are_their_own.Goals as goal

pub returns : goal.returns
returns c = lone-runs-are-their-own
