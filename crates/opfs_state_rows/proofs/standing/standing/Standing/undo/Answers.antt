use Rattle.std.proofs.Common.{◌≡◌, Some, option_map, sym, ap, ◌∙◌}
use Rattle.opfs_machine.specs.Rows as machine
use Rattle.opfs_tree.specs.Rows.{file_at}
use Rattle.opfs_state_rows.specs.Standing.Seen.{Seen, machine_of}
use Rattle.opfs_state_rows.proofs.standing.Flushed.{undone-machine, undone-tree}
use Rattle.opfs_state_rows.proofs.standing.Lines.{file_line, file-at}
use Rattle.opfs_state_rows.proofs.standing.standing.Standing.undo.Goals as goal

pub returns-clause-machine : goal.returns-clause-machine
returns-clause-machine c =
    let f = c.in-Some.file.now in
    let found : machine.file_at (machine_of c.self.inside.tree.rows c.self.inside.shed.buckets c.self.inside.register) (c.args.unit.now, c.args.path.now) ≡ Some (file_line f) = file-at (c.args.unit.now, c.args.path.now) c.self.inside.tree.rows ∙ ap (option_map file_line) (sym c.in-Some.ensures) in
    c.set_present.ensures.machine ∙ undone-machine c.args.self.now.machine (c.args.unit.now, c.args.path.now) (file_line f) (ap (λ (s : Seen). machine.file_at s.machine (c.args.unit.now, c.args.path.now)) (sym c.self.view_is) ∙ found)

pub returns-clause-tree : goal.returns-clause-tree
returns-clause-tree c =
    c.set_present.ensures.tree ∙ undone-tree c.args.self.now.tree (c.args.unit.now, c.args.path.now) c.in-Some.file.now (ap (λ (s : Seen). file_at (c.args.unit.now, c.args.path.now) s.tree) (sym c.self.view_is) ∙ sym c.in-Some.ensures)
