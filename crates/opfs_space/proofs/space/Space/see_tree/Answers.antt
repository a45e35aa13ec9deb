use Rattle.std.proofs.Common.{length}
use Rattle.opfs_blocks.specs.Sets.{blocks_of}
use Rattle.opfs_tree.specs.Rows.{extents_of, rows_above}
use Rattle.opfs_records.specs.Replay.Built.{named}
use Rattle.opfs_space.proofs.Rest.{named_next, file_below, rest_files_below, marked_next}
use Rattle.opfs_space.proofs.space.Space.see_tree.Goals as goal

pub see_file-requires : goal.see_file-requires
see_file-requires c =
    rw c.extents.ensures
    (file_below (length c.loop-row.self.used) _ _ _ (named_next c.loop-row.walk c.step.new.walk c.args.tree.now.rows c.in-Some.row.now c.in-Some.ensures.next) c.loop-row.invariant.below)

pub loop-row-preserved : goal.loop-row-preserved
loop-row-preserved c =
    let next = named_next c.loop-row.walk c.step.new.walk c.args.tree.now.rows c.in-Some.row.now c.in-Some.ensures.next in
    rw (c.see_file.ensures, c.extents.ensures) (record {
      seen = marked_next _ (blocks_of (extents_of c.in-Some.row.now)) (named (rows_above c.step.new.walk c.args.tree.now.rows)) c.loop-row.self.seen _ next c.loop-row.invariant.seen;
      used = c.loop-row.invariant.used;
      own = c.loop-row.invariant.own;
      below = rest_files_below (length c.loop-row.self.used) _ (blocks_of (extents_of c.in-Some.row.now)) (named (rows_above c.step.new.walk c.args.tree.now.rows)) next c.loop-row.invariant.below;
    })
