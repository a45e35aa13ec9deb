use Rattle.opfs_gen.proofs.Drawn.{drawn-is}
use Rattle.opfs_gen.proofs.drawing.next.Goals as goal

pub returns : goal.returns
returns c = drawn-is c.args.x
