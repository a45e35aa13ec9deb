use Rattle.std.proofs.Common.{◌≡◌, ◌+◌, true, take, drop}
use Rattle.std.specs.Prelude.{map}
use Rattle.opfs_dump.specs.Text.Limits.{blocks_needed, may_all_follow}
use Rattle.opfs_dump.specs.Text.Seen.{row_of}
use Rattle.opfs_dump.specs.Loading.Laid.{laid}
use Rattle.opfs_dump.proofs.loading.planning.laid_tree.Given as goal

abbrev pub invariant-loop-row : goal.invariant-loop-row
invariant-loop-row l = record {
  tree : l.tree ≡ laid 0 (map row_of (take l.row-index l.rows));
  at : l.at ≡ blocks_needed (map row_of (take l.row-index l.rows));
  sum : l.at + blocks_needed (map row_of (drop l.row-index l.rows)) ≡ blocks_needed (map row_of l.rows);
  order : may_all_follow (map row_of (take l.row-index l.rows)) (map row_of (drop l.row-index l.rows)) ≡ true;
}
