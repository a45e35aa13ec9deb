use Rattle.std.proofs.Common.{◌≡◌, true, is_some, ap, ◌∙◌}
use Rattle.opfs_tree.specs.Rows.{file_at, change_at, written}
use Rattle.opfs_tree.specs.Ready.Ready.{ReadyRows, shown}
use Rattle.opfs_tree.proofs.ready.Kept.{changed-kept}
use Rattle.opfs_tree.proofs.ready.ready.ReadyTree.set_present.Goals as goal

pub invariant_of-self : goal.invariant_of-self
invariant_of-self c =
    let there : is_some (file_at (c.args.key.now, c.args.path.now) (shown c.self.inside.ready c.self.inside.tree)) ≡ true = ap (λ (s : ReadyRows). is_some (file_at (c.args.key.now, c.args.path.now) s.rows)) c.self.view_is ∙ c.requires in
    (changed-kept c.self.inside.ready c.self.inside.tree c.set_present.new.self (c.args.key.now, c.args.path.now) (written c.args.length c.args.stamp) c.self.invariant there c.set_present.ensures).0

pub returns-clause-rows : goal.returns-clause-rows
returns-clause-rows c =
    let there : is_some (file_at (c.args.key.now, c.args.path.now) (shown c.self.inside.ready c.self.inside.tree)) ≡ true = ap (λ (s : ReadyRows). is_some (file_at (c.args.key.now, c.args.path.now) s.rows)) c.self.view_is ∙ c.requires in
    (changed-kept c.self.inside.ready c.self.inside.tree c.set_present.new.self (c.args.key.now, c.args.path.now) (written c.args.length c.args.stamp) c.self.invariant there c.set_present.ensures).1 ∙ ap (λ (s : ReadyRows). change_at (c.args.key.now, c.args.path.now) (written c.args.length c.args.stamp) s.rows) c.self.view_is
