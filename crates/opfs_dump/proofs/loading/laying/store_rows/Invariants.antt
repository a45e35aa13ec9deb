use Rattle.std.proofs.Common.{◌≡◌, ◌+◌, take, drop}
use Rattle.std.specs.Prelude.{map}
use Rattle.opfs_dump.specs.Text.Limits.{blocks_needed}
use Rattle.opfs_dump.specs.Text.Seen.{row_of}
use Rattle.opfs_dump.specs.Loading.Laid.{StoresBehind, filled_rows, laid}
use Rattle.opfs_dump.proofs.loading.laying.store_rows.Given as goal

abbrev pub invariant-loop-row : goal.invariant-loop-row
invariant-loop-row g l = record {
  at : l.at ≡ blocks_needed (map row_of (take l.row-index l.rows));
  sum : l.at + blocks_needed (map row_of (drop l.row-index l.rows)) ≡ blocks_needed (map row_of l.rows);
  stores : StoresBehind g.D.Disk l.base l.fn.journal l.journal;
  stored : g.D.Disk.tells → filled_rows l.base (g.D.Disk.content l.journal.disk) (laid 0 (map row_of (take l.row-index l.rows))) ≡ map row_of (take l.row-index l.rows);
}
