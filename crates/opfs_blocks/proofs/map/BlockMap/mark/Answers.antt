use Rattle.std.proofs.Common.{true, length, subst, sym, ap, ◌∙◌}
use Rattle.opfs_blocks.specs.Sets.{blocks_of}
use Rattle.opfs_blocks.specs.Steps.{IsFull}
use Rattle.opfs_blocks.proofs.SetLemmas.{full_marked, length-marked}
use Rattle.opfs_blocks.proofs.map.BlockMap.mark.Goals as goal

pub invariant_of-self : goal.invariant_of-self
invariant_of-self c =
    subst (IsFull c.self.inside.place) (sym c.mark_all-lowest.ensures.marked) (full_marked c.self.inside.place c.self.inside.bits (blocks_of c.args.extents.now) c.self.invariant)

pub returns-clause-size : goal.returns-clause-size
returns-clause-size c =
    ap length c.mark_all-lowest.ensures.marked ∙ length-marked true (blocks_of c.args.extents.now) c.self.inside.bits ∙ ap length c.self.view_is
