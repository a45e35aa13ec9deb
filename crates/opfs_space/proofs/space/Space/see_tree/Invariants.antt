use Rattle.std.proofs.Common.{◌≡◌, length, true}
use Rattle.opfs_blocks.specs.Sets.{marked, AreBelow}
use Rattle.opfs_tree.specs.Rows.{rows_above}
use Rattle.opfs_records.specs.Replay.Built.{named}
use Rattle.opfs_space.proofs.space.Space.see_tree.Given as goal

abbrev pub invariant-loop-row : goal.invariant-loop-row
invariant-loop-row l = record {
  seen : marked true (named (rows_above l.walk l.tree.rows)) l.self.seen ≡ marked true (named l.tree.rows) l.fn.self.seen;
  used : l.self.used ≡ l.fn.self.used;
  own : l.self.own ≡ l.fn.self.own;
  below : AreBelow (length l.self.used) (named (rows_above l.walk l.tree.rows));
}

abbrev pub decreases-loop-row : goal.decreases-loop-row
decreases-loop-row l = length (rows_above l.walk l.tree.rows)
