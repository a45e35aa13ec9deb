use Rattle.std.proofs.Common.{ℕ, option_map, ap, ◌∙◌}
use Rattle.opfs_machine.specs.declared.state.FileRow.{FileRow as File}
use Rattle.opfs_machine.specs.Rows.{file_at}
use Rattle.opfs_tree.specs.declared.row.FileRow.{FileRow}
use Rattle.opfs_state_rows.specs.Standing.Seen.{Seen}
use Rattle.opfs_state_rows.proofs.standing.ReadLines.{size-read}
use Rattle.opfs_state_rows.proofs.standing.standing.Standing.size.Goals as goal

pub returns-in-Some : goal.returns-in-Some
returns-in-Some c =
    ap (option_map (λ (f : FileRow). f.present)) c.in-Some.ensures
    ∙ (size-read c.self.inside.tree.rows c.self.inside.shed.buckets c.self.inside.register (c.args.unit.now, c.args.path.now) ∙ ap (λ (s : Seen). option_map (λ (f : File ℕ). f.present) (file_at s.machine (c.args.unit.now, c.args.path.now))) c.self.view_is)

pub returns-in-None : goal.returns-in-None
returns-in-None c =
    ap (option_map (λ (f : FileRow). f.present)) c.in-None.ensures
    ∙ (size-read c.self.inside.tree.rows c.self.inside.shed.buckets c.self.inside.register (c.args.unit.now, c.args.path.now) ∙ ap (λ (s : Seen). option_map (λ (f : File ℕ). f.present) (file_at s.machine (c.args.unit.now, c.args.path.now))) c.self.view_is)
