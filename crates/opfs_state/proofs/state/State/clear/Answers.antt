use Rattle.std.proofs.Common.{[], sym, ap, ◌∙◌}
use Rattle.std.specs.Prelude.{is_some}
use Rattle.opfs_machine.specs.Rows.{row_at}
use Rattle.opfs_state_rows.proofs.standing.Lines.{there-at}
use Rattle.opfs_state.proofs.state.State.clear.Goals as goal

pub clear-requires-clause-root : goal.clear-requires-clause-root
clear-requires-clause-root c =
    let m = c.self.inside.store.machine in
    sym (there-at (c.args.key.now, []) c.self.inside.store.tree) ∙ ap (λ rows. is_some (row_at (record m { rows = rows }) (c.args.key.now, []))) (sym c.know_rows_match_tree.ensures) ∙ (rw (← c.self.view_is) at c.requires.root)
