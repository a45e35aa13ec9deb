use Rattle.opfs_codec.proofs.ChangeLemmas.{one_change}
use Rattle.opfs_codec.proofs.reading.one_spelling.Goals as goal

pub returns : goal.returns
returns c = one_change c.args._format
