use Rattle.std.proofs.Common.{ℕ, ◌+◌, List, drop, ap, inl, arith}
use Rattle.std.specs.Prelude.{map}
use Rattle.std.proofs.lemmas.List.{drop_all}
use Rattle.serde_json.specs.View.{view}
use Rattle.serde_json.specs.declared.value.Value.{Value}
use Rattle.opfs_dump.specs.Text.Seen.{row_of}
use Rattle.opfs_dump.proofs.loading.ListsRead.{rows_next, rows_bad, rows_done}
use Rattle.opfs_dump.proofs.loading.InTurn.{follows_more}
use Rattle.opfs_dump.proofs.loading.Orders.{drop_next}
use Rattle.opfs_dump.proofs.loading.rows.rows_of.Goals as goal

pub returns-in-Err-Form-clause-refused : goal.returns-in-Err-Form-clause-refused
returns-in-Err-Form-clause-refused c =
    let at : ℕ = c.loop-at.at in
    let vs : List Value = c.args.values.now in
    let next = ap (map view) (drop_next vs at c.index-values-at.result c.index-values-at.is (omega (arith, c.loop-at-test.true, c.loop-at.auto))) in
    inl (rows_bad (at + 1) (map view (drop at vs)) (map view (drop (at + 1) vs)) (view c.index-values-at.result) (map row_of c.loop-at.rows.items) _ next (c.in-Err-Form.ensures.fault c.in-Err-Form.field-0-is) c.loop-at.invariant.so_far)

pub loop-at-preserved : goal.loop-at-preserved
loop-at-preserved c =
    let at : ℕ = c.loop-at.at in
    let vs : List Value = c.args.values.now in
    let next = ap (map view) (drop_next vs at c.index-values-at.result c.index-values-at.is (omega (arith, c.loop-at-test.true, c.loop-at.auto))) in
    record {
      tree = c.in-Ok.ensures.tree;
      order = follows_more (map row_of c.loop-at.rows.items) (map row_of c.add_row.new.rows.items) _ c.in-Ok.ensures.added c.loop-at.invariant.order;
      so_far = rows_next (at + 1) (map view (drop at vs)) (map view (drop (at + 1) vs)) (view c.index-values-at.result) (map row_of c.loop-at.rows.items) (map row_of c.add_row.new.rows.items) _ next c.in-Ok.ensures.added c.loop-at.invariant.so_far;
    }

pub returns-clause-rows : goal.returns-clause-rows
returns-clause-rows c =
    let at : ℕ = c.loop-at.at in
    let vs : List Value = c.args.values.now in
    rows_done (at + 1) (map view (drop at vs)) (map row_of c.loop-at.rows.items) _ (ap (map view) (drop_all at vs (omega (arith, c.loop-at-test.false, c.loop-at.auto)))) c.loop-at.invariant.so_far
