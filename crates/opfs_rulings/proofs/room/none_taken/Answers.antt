use Rattle.std.proofs.Common.{not, ap, ◌∙◌}
use Rattle.opfs_rulings.proofs.room.none_taken.Goals as goal

pub returns : goal.returns
returns c = ap not c.contains.ensures ∙ c.requires c.args.unit.now
