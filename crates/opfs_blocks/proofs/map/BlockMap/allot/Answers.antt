use Rattle.std.proofs.Common.{true, length, ap, ◌∙◌}
use Rattle.opfs_blocks.specs.Sets.{blocks_of}
use Rattle.opfs_blocks.proofs.SetLemmas.{length-marked}
use Rattle.opfs_blocks.proofs.map.BlockMap.allot.Goals as goal

pub returns-clause-size : goal.returns-clause-size
returns-clause-size c =
    ap length c.take_clear-self-inside.ensures.used ∙ length-marked true (blocks_of c.take_clear-self-inside.new.into.items) c.self.inside.bits ∙ ap length c.self.view_is
