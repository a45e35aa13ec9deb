use Rattle.std.proofs.Common.{None, cond, option_map, sym, ap, ◌∙◌}
use Rattle.opfs_tree.specs.Rows.{kind_of, row_at}
use Rattle.opfs_tree.specs.Ready.Ready.{ReadyRows}
use Rattle.opfs_tree.proofs.ready.Kept.{row-shown}
use Rattle.opfs_tree.proofs.ready.ready.ReadyTree.kind.Goals as goal

pub returns-then-is_ready : goal.returns-then-is_ready
returns-then-is_ready c =
    let hidden = row-shown c.self.inside.ready c.self.inside.tree (c.args.key.now, c.args.path.now) c.self.invariant ∙ ap (λ b. cond b None (row_at (c.args.key.now, c.args.path.now) c.self.inside.tree)) (sym c.is_ready.ensures ∙ c.if-is_ready.true) in
    sym (ap (λ (s : ReadyRows). option_map kind_of (row_at (c.args.key.now, c.args.path.now) s.rows)) (sym c.self.view_is) ∙ ap (option_map kind_of) hidden)

pub returns : goal.returns
returns c =
    let seen = row-shown c.self.inside.ready c.self.inside.tree (c.args.key.now, c.args.path.now) c.self.invariant ∙ ap (λ b. cond b None (row_at (c.args.key.now, c.args.path.now) c.self.inside.tree)) (sym c.is_ready.ensures ∙ c.if-is_ready.false) in
    c.kind.ensures.kind ∙ (ap (option_map kind_of) (sym seen) ∙ ap (λ (s : ReadyRows). option_map kind_of (row_at (c.args.key.now, c.args.path.now) s.rows)) c.self.view_is)
