use Rattle.std.proofs.Common.{false, length, ap, ◌∙◌, arith}
use Rattle.opfs_blocks.specs.Sets.{blocks_of}
use Rattle.opfs_blocks.proofs.SetLemmas.{full_lower, length-marked}
use Rattle.opfs_blocks.proofs.map.BlockMap.give_back.Goals as goal

pub invariant_of-self : goal.invariant_of-self
invariant_of-self c =
    full_lower c.self.inside.place c.mark_all-lowest.result _ c.self.inside.bits c.mark_all-lowest.new.bits c.self.invariant (ap length c.mark_all-lowest.ensures.marked ∙ length-marked false (blocks_of c.args.extents.now) c.self.inside.bits) c.mark_all-lowest.ensures.below (omega arith) (omega arith)

pub returns-clause-size : goal.returns-clause-size
returns-clause-size c =
    ap length c.mark_all-lowest.ensures.marked ∙ length-marked false (blocks_of c.args.extents.now) c.self.inside.bits ∙ ap length c.self.view_is
