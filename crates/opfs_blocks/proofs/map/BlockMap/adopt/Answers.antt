use Rattle.std.proofs.Common.{length, ap, ◌∙◌}
use Rattle.opfs_blocks.specs.Sets.{blocks_of}
use Rattle.opfs_blocks.proofs.SetLemmas.{kept_full, adopt_iff, size_kept}
use Rattle.opfs_blocks.proofs.map.BlockMap.adopt.Goals as goal

pub invariant_of-self : goal.invariant_of-self
invariant_of-self c =
    kept_full c.self.inside.place c.adopt_all.result c.self.inside.bits c.adopt_all.new.bits (blocks_of c.args.extents.now) c.self.invariant c.adopt_all.ensures.taken c.adopt_all.ensures.refused

pub returns-clause-exact : goal.returns-clause-exact
returns-clause-exact c =
    adopt_iff c.self.inside.bits c.args.self.now (blocks_of c.args.extents.now) c.adopt_all.result c.self.view_is c.adopt_all.ensures.exact

pub returns-clause-size : goal.returns-clause-size
returns-clause-size c =
    size_kept c.adopt_all.result c.self.inside.bits c.adopt_all.new.bits (blocks_of c.args.extents.now) c.adopt_all.ensures.taken c.adopt_all.ensures.refused ∙ ap length c.self.view_is
