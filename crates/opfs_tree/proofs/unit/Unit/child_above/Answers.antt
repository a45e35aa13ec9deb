use Rattle.std.proofs.Common.{ap, ◌∙◌}
use Rattle.opfs_tree.specs.Rows.{least_above}
use Rattle.opfs_tree.specs.Units.{children_in, front, from}
use Rattle.opfs_tree.proofs.Above.{above_here}
use Rattle.opfs_tree.proofs.unit.Unit.child_above.Goals as goal

pub loop-path-init : goal.loop-path-init
loop-path-init c =
    let dir = c.args.dir.now in
    let name = c.args.name.now in
    ap (λ es. least_above name (children_in dir (front dir es))) (c.into_iter-path-iterator.ensures.into_iter_gives ∙ (c.from-path-items.ensures.rows ∙ ap (λ path. from path c.args.self.now) c.requires))
    ∙ above_here dir name c.args.self.now c.from-path-items.ensures.order
