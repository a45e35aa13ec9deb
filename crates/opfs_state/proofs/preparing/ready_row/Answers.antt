use Rattle.std.proofs.Common.{ap, ◌∙◌}
use Rattle.opfs_state_rows.specs.Standing.Seen.{Seen}
use Rattle.opfs_state.proofs.Readied.{free-line, free-row}
use Rattle.opfs_tree.specs.Rows.{row_at}
use Rattle.opfs_state.proofs.preparing.ready_row.Goals as goal

pub prepare_row-requires-clause-free : goal.prepare_row-requires-clause-free
prepare_row-requires-clause-free c =
    let s = c.args.store.now in
    ap (λ (x : Seen). row_at c.args.place x.tree) c.prepare_unit.ensures.rest
    ∙ free-row s.machine s.tree c.args.place c.know_rows_match_tree.ensures (free-line s.machine c.args.place c.kind.result c.is_some.result c.kind.ensures c.is_some.ensures c.if-is_some.false)
