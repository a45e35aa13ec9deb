use Rattle.opfs_judge.proofs.Texts.{bytes-begin}
use Rattle.opfs_judge.proofs.turn.starts.Goals as goal

pub returns : goal.returns
returns c = bytes-begin c.starts_with.result c.args.front.now c.args.text.now c.starts_with.ensures.value
