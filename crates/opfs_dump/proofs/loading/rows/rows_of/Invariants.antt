use Rattle.std.proofs.Common.{◌≡◌, ◌+◌, true, [], drop}
use Rattle.std.specs.Prelude.{map}
use Rattle.serde_json.specs.View.{view}
use Rattle.opfs_dump.specs.Text.Limits.{bare_rows, may_all_follow}
use Rattle.opfs_dump.specs.Text.Reading.{rows_from}
use Rattle.opfs_dump.specs.Text.Seen.{row_of}
use Rattle.opfs_dump.proofs.loading.rows.rows_of.Given as goal

abbrev pub invariant-loop-at : goal.invariant-loop-at
invariant-loop-at l = record {
  tree : l.tree ≡ bare_rows (map row_of l.rows.items);
  order : may_all_follow [] (map row_of l.rows.items) ≡ true;
  so_far : rows_from (l.at + 1) (map row_of l.rows.items) (map view (drop l.at l.values)) ≡ rows_from 1 [] (map view l.values);
}
