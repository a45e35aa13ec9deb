use Rattle.std.proofs.Common.{refl, sym, ◌∙◌, arith}
use Rattle.opfs_blocks.specs.Sets.{blocks_of}
use Rattle.opfs_records.specs.Replay.Built.{named, named_beside}
use Rattle.opfs_records.proofs.replay.Counts.{marked_below, marked_back}
use Rattle.opfs_records.proofs.replay.Rows.{old_times}
use Rattle.opfs_records.proofs.replay.stores.release.Goals as goal

pub give_back-requires : goal.give_back-requires
give_back-requires c =
    rw c.as_slice.ensures (marked_below c.args.map.now (named c.args.tree.now) (blocks_of c.in-Some.file.now.extents) c.requires
    (λ k. omega (arith, old_times (c.args.unit.now, c.args.path.now) c.args.tree.now c.in-Some.file.now c.kind-kind.ensures.order (sym c.in-Some.ensures) k)))

pub returns-in-Some-clause-marked : goal.returns-in-Some-clause-marked
returns-in-Some-clause-marked c k =
    marked_back c.args.map.now (named c.args.tree.now) (blocks_of c.in-Some.file.now.extents) (named_beside (c.args.unit.now, c.args.path.now) c.args.tree.now) c.requires
    (old_times (c.args.unit.now, c.args.path.now) c.args.tree.now c.in-Some.file.now c.kind-kind.ensures.order (sym c.in-Some.ensures)) k
    ∙ rw (c.give_back.ensures.free, c.as_slice.ensures) refl
