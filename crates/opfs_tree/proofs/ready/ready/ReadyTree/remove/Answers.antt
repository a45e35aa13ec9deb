use Rattle.std.proofs.Common.{◌++◌, length, ap, ◌∙◌, arith}
use Rattle.opfs_tree.specs.Rows.{extents_within, without}
use Rattle.opfs_tree.specs.Ready.Ready.{ReadyRows, ready_within}
use Rattle.opfs_tree.proofs.ready.Kept.{extents-shown, removed-kept}
use Rattle.opfs_tree.proofs.ready.ready.ReadyTree.remove.Goals as goal

pub remove-requires : goal.remove-requires
remove-requires c =
    let same = ap (λ xs. length (c.args.freed.now.items ++ xs)) (extents-shown (c.args.key.now, c.args.path.now) c.self.inside.ready c.self.inside.tree c.self.invariant ∙ ap (λ (s : ReadyRows). extents_within (c.args.key.now, c.args.path.now) s.rows) c.self.view_is) in
    omega (arith, c.requires.room, same)

pub invariant_of-self : goal.invariant_of-self
invariant_of-self c = (removed-kept c.self.inside.ready c.self.inside.tree c.remove.new.self (c.args.key.now, c.args.path.now) c.self.invariant (ap (λ (s : ReadyRows). ready_within (c.args.key.now, c.args.path.now) s.ready) c.self.view_is ∙ c.requires.ready) c.remove.ensures.rows).0

pub returns-clause-rows : goal.returns-clause-rows
returns-clause-rows c =
    (removed-kept c.self.inside.ready c.self.inside.tree c.remove.new.self (c.args.key.now, c.args.path.now) c.self.invariant (ap (λ (s : ReadyRows). ready_within (c.args.key.now, c.args.path.now) s.ready) c.self.view_is ∙ c.requires.ready) c.remove.ensures.rows).1
    ∙ ap (λ (s : ReadyRows). without (c.args.key.now, c.args.path.now) s.rows) c.self.view_is

pub returns-clause-freed : goal.returns-clause-freed
returns-clause-freed c =
    c.remove.ensures.freed ∙ ap (λ xs. c.args.freed.now.items ++ xs) (extents-shown (c.args.key.now, c.args.path.now) c.self.inside.ready c.self.inside.tree c.self.invariant ∙ ap (λ (s : ReadyRows). extents_within (c.args.key.now, c.args.path.now) s.rows) c.self.view_is)
