use Rattle.std.proofs.Common.{◌≡◌, true, is_some, Option, IfSome, ap, subst, ◌∙◌}
use Rattle.opfs_tree.specs.declared.row.FileRow.{FileRow}
use Rattle.opfs_tree.specs.Rows.{file_at, change_at, stored}
use Rattle.opfs_tree.specs.Ready.Ready.{ReadyRows, shown}
use Rattle.opfs_tree.proofs.ready.Kept.{file-there, changed-kept}
use Rattle.opfs_tree.proofs.ready.ready.ReadyTree.set_file.Goals as goal

pub set_file-requires : goal.set_file-requires
set_file-requires c =
    let there : is_some (file_at (c.args.key.now, c.args.path.now) (shown c.self.inside.ready c.self.inside.tree)) ≡ true = ap (λ (s : ReadyRows). is_some (file_at (c.args.key.now, c.args.path.now) s.rows)) c.self.view_is ∙ c.requires in
    let same : file_at (c.args.key.now, c.args.path.now) c.self.inside.tree ≡ file_at (c.args.key.now, c.args.path.now) c.args.self.now.rows = file-there c.self.inside.ready c.self.inside.tree (c.args.key.now, c.args.path.now) c.self.invariant there ∙ ap (λ (s : ReadyRows). file_at (c.args.key.now, c.args.path.now) s.rows) c.self.view_is in
    ap is_some same ∙ c.requires

pub invariant_of-self : goal.invariant_of-self
invariant_of-self c =
    let there : is_some (file_at (c.args.key.now, c.args.path.now) (shown c.self.inside.ready c.self.inside.tree)) ≡ true = ap (λ (s : ReadyRows). is_some (file_at (c.args.key.now, c.args.path.now) s.rows)) c.self.view_is ∙ c.requires in
    (changed-kept c.self.inside.ready c.self.inside.tree c.set_file.new.self (c.args.key.now, c.args.path.now) (stored c.args.length c.args.stamp c.args.extents) c.self.invariant there c.set_file.ensures.rows).0

pub returns-clause-rows : goal.returns-clause-rows
returns-clause-rows c =
    let there : is_some (file_at (c.args.key.now, c.args.path.now) (shown c.self.inside.ready c.self.inside.tree)) ≡ true = ap (λ (s : ReadyRows). is_some (file_at (c.args.key.now, c.args.path.now) s.rows)) c.self.view_is ∙ c.requires in
    (changed-kept c.self.inside.ready c.self.inside.tree c.set_file.new.self (c.args.key.now, c.args.path.now) (stored c.args.length c.args.stamp c.args.extents) c.self.invariant there c.set_file.ensures.rows).1 ∙ ap (λ (s : ReadyRows). change_at (c.args.key.now, c.args.path.now) (stored c.args.length c.args.stamp c.args.extents) s.rows) c.self.view_is

pub returns-clause-old : goal.returns-clause-old
returns-clause-old c =
    let there : is_some (file_at (c.args.key.now, c.args.path.now) (shown c.self.inside.ready c.self.inside.tree)) ≡ true = ap (λ (s : ReadyRows). is_some (file_at (c.args.key.now, c.args.path.now) s.rows)) c.self.view_is ∙ c.requires in
    let same : file_at (c.args.key.now, c.args.path.now) c.self.inside.tree ≡ file_at (c.args.key.now, c.args.path.now) c.args.self.now.rows = file-there c.self.inside.ready c.self.inside.tree (c.args.key.now, c.args.path.now) c.self.invariant there ∙ ap (λ (s : ReadyRows). file_at (c.args.key.now, c.args.path.now) s.rows) c.self.view_is in
    subst (λ (o : Option FileRow). IfSome o (λ f. c.set_file.result ≡ f.extents)) same c.set_file.ensures.old
