use Rattle.std.proofs.Common.{◌≡◌, Some, sym, ap, ◌∙◌}
use Rattle.opfs_state_rows.proofs.standing.Flushed.{flushed-machine}
use Rattle.opfs_state_rows.proofs.standing.Lines.{file_line, file-at}
use Rattle.opfs_state_rows.proofs.changes.Twice.{flushed-rows, machine-file}
use Rattle.opfs_state_rows.proofs.changes.storing.flush_as.Goals as goal

pub returns-clause-machine : goal.returns-clause-machine
returns-clause-machine c =
    c.store_as.ensures.machine
    ∙ flushed-machine c.args.store.now.machine c.args.place.now (file_line c.in-Some.file.now) (machine-file c.args.store.now.machine c.args.store.now.tree c.args.place.now c.in-Some.file.now c.know_rows_match_tree.ensures (sym c.in-Some.ensures))

pub returns-clause-tree : goal.returns-clause-tree
returns-clause-tree c = c.store_as.ensures.tree ∙ flushed-rows c.args.store.now.tree c.args.place.now c.in-Some.file.now c.args.extents (sym c.in-Some.ensures)
