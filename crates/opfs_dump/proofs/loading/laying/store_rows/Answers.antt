use Rattle.std.proofs.Common.{◌≡◌, ℕ, ◌+◌, ◌*◌, ◌<◌, length, List, take, drop, refl, sym, ap, subst, ◌∙◌, arith}
use Rattle.std.specs.Prelude.{map}
use Rattle.opfs_base.specs.Places.{Place}
use Rattle.opfs_machine.specs.Openings.{Stored}
use Rattle.opfs_dump.specs.Text.Limits.{blocks_needed, stored_blocks}
use Rattle.opfs_dump.specs.Text.Seen.{row_of, stored_of}
use Rattle.opfs_dump.specs.declared.text.dumped.DumpedRow.{DumpedRow}
use Rattle.opfs_dump.specs.Loading.Laid.{filled_rows, laid}
use Rattle.opfs_dump.proofs.loading.Lying.{laid_none, needed_first, needed_more, rows_more}
use Rattle.opfs_dump.proofs.loading.Orders.{drop_next, rows_next}
use Rattle.opfs_dump.proofs.loading.StandsFor.{stores_nothing, stores_more}
use Rattle.opfs_dump.proofs.loading.laying.store_rows.Goals as goal

pub loop-row-init : goal.loop-row-init
loop-row-init g c = record {
  at = refl;
  sum = omega arith;
  stores = stores_nothing g.D.Disk c.args.base c.args.journal.now c.requires.settled;
  stored = λ told. ap (filled_rows c.args.base (g.D.Disk.content c.args.journal.now.disk)) (laid_none 0);
}

pub loop-row-preserved : goal.loop-row-preserved
loop-row-preserved g c =
    let rows : List DumpedRow = c.args.rows.now in
    let i : ℕ = c.loop-row.row-index in
    let r : DumpedRow = c.row-item.result in
    let at = c.loop-row.invariant in
    let f = c.in-Ok.ensures in
    let lt : i < length rows = omega (arith, c.loop-row-test.true, c.loop-row.auto) in
    let next = rows_next rows i r c.row-item.is lt in
    let rest = ap (map row_of) (drop_next rows i r c.row-item.is lt) in
    let first = ap blocks_needed rest ∙ needed_first (row_of r) (map row_of (drop (i + 1) rows)) in
    let more = ap blocks_needed next ∙ needed_more (map row_of (take i rows)) (row_of r) in
    let step : c.in-Ok.next ≡ c.loop-row.at + stored_blocks (stored_of r.file) = f.next in
    record {
      at = omega (arith, step, more, at.at);
      sum = omega (arith, step, first, at.sum);
      stores = stores_more g.D.Disk c.args.base (4096 * c.loop-row.at) c.args.journal.now c.loop-row.journal c.store_row.new.journal at.stores f.stores;
      stored = λ told.
          subst (λ (xs : List (Place × Stored)). filled_rows c.args.base (g.D.Disk.content c.store_row.new.journal.disk) (laid 0 xs) ≡ xs) (sym next)
          (rows_more c.args.base (g.D.Disk.content c.loop-row.journal.disk) (g.D.Disk.content c.store_row.new.journal.disk) (map row_of (take i rows)) (row_of r) c.loop-row.at at.at (f.stores.before told) (at.stored told) (f.stored told));
    }
