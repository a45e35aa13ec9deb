use Rattle.std.proofs.Common.{arith}
use Rattle.opfs_blocks.specs.Sets.{blocks_of}
use Rattle.opfs_tree.specs.Rows.{extents_within, without}
use Rattle.opfs_records.specs.Replay.Built.{named}
use Rattle.opfs_records.proofs.replay.Counts.{marked_below, marked_back}
use Rattle.opfs_records.proofs.replay.Rows.{within_few, without_times}
use Rattle.opfs_records.proofs.replay.stores.remove.Goals as goal

pub extents_below-count-requires : goal.extents_below-count-requires
extents_below-count-requires c = omega (arith, within_few (c.args.unit.now, c.args.path.now) c.args.tree.now)

pub give_back-requires : goal.give_back-requires
give_back-requires c =
    rw (c.as_slice.ensures.value, c.remove.ensures.freed, c.in_ok-freed.ensures.items)
    (marked_below c.args.map.now (named c.args.tree.now) (blocks_of (extents_within (c.args.unit.now, c.args.path.now) c.args.tree.now)) c.requires.marked
    (λ k. omega (arith, without_times k (c.args.unit.now, c.args.path.now) c.args.tree.now)))

pub returns-clause-marked : goal.returns-clause-marked
returns-clause-marked c k =
    rw (c.give_back.ensures.free, c.as_slice.ensures.value, c.remove.ensures.freed, c.in_ok-freed.ensures.items, c.remove.ensures.rows)
    (marked_back c.args.map.now (named c.args.tree.now) (blocks_of (extents_within (c.args.unit.now, c.args.path.now) c.args.tree.now)) (named (without (c.args.unit.now, c.args.path.now) c.args.tree.now)) c.requires.marked
    (λ k. without_times k (c.args.unit.now, c.args.path.now) c.args.tree.now) k)
