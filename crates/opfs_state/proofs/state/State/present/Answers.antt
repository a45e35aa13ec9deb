use Rattle.std.proofs.Common.{ℕ, Some, None, option_map, ap, ◌∙◌}
use Rattle.opfs_machine.specs.declared.state.FileRow.{FileRow as File}
use Rattle.opfs_machine.specs.Rows.{file_at}
use Rattle.opfs_state.proofs.Shown.{present-of}
use Rattle.opfs_state.specs.Applied.{StateSeen}
use Rattle.opfs_state.proofs.state.State.present.Goals as goal

pub returns-in-Some : goal.returns-in-Some
returns-in-Some c =
    present-of c.self.inside.store.machine c.self.inside.store.tree (c.args.key.now, c.args.path.now) (Some c.in-Some.file.now) c.know_rows_match_tree.ensures c.in-Some.ensures
    ∙ ap (λ (s : StateSeen). option_map {U = ℕ × ℕ} (λ (f : File ℕ). (f.present, f.stamp)) (file_at s.store.machine (c.args.key.now, c.args.path.now))) c.self.view_is

pub returns-in-None : goal.returns-in-None
returns-in-None c =
    present-of c.self.inside.store.machine c.self.inside.store.tree (c.args.key.now, c.args.path.now) None c.know_rows_match_tree.ensures c.in-None.ensures
    ∙ ap (λ (s : StateSeen). option_map {U = ℕ × ℕ} (λ (f : File ℕ). (f.present, f.stamp)) (file_at s.store.machine (c.args.key.now, c.args.path.now))) c.self.view_is
