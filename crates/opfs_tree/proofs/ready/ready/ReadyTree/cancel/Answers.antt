use Rattle.std.proofs.Common.{◌≡◌, ◌++◌, length, ap, sym, ◌∙◌, arith}
use Rattle.opfs_tree.specs.Rows.{extents_within}
use Rattle.opfs_tree.proofs.ready.Kept.{kept-at, spare-extents}
use Rattle.opfs_tree.proofs.ready.ready.ReadyTree.cancel.Goals as goal

pub remove-requires : goal.remove-requires
remove-requires c =
    let none = spare-extents c.in-Some.place c.in-Some.field-0-1 c.self.inside.tree (kept-at c.in-Some.place c.in-Some.field-0-1 c.self.inside.ready c.self.inside.tree (sym c.in-Some.ensures.value) c.self.invariant) in
    let size : length (c.new-freed.result.items ++ extents_within c.in-Some.place c.self.inside.tree) ≡ 0 =
    ap (λ xs. length (xs ++ extents_within c.in-Some.place c.self.inside.tree)) c.new-freed.ensures.items ∙ ap length none in
    omega (arith, size)
