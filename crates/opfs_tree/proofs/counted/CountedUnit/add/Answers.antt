use Rattle.std.proofs.Common.{refl, ap, ◌∙◌, arith}
use Rattle.std.specs.FinMap.Entries.{find}
use Rattle.opfs_tree.specs.Units.{path_cmp}
use Rattle.opfs_tree.proofs.Counts.{counted_put}
use Rattle.opfs_tree.proofs.counted.CountedUnit.add.Goals as goal

pub overflow_add-self : goal.overflow_add-self
overflow_add-self c =
    let free = ap (find path_cmp c.args.path) c.self.view_is ∙ c.requires in
    let sum = counted_put c.self.inside.taken c.self.inside.unit c.self.invariant c.args.path c.holds-more.result c.args.row c.self.inside.unit c.add.new.self refl free c.holds-more.ensures c.in_ok-add.ensures.ok in
    omega (arith, sum, c.len-size.ensures.taken)

pub invariant_of-self-2 : goal.invariant_of-self-2
invariant_of-self-2 c =
    let free = ap (find path_cmp c.args.path) c.self.view_is ∙ c.requires in
    counted_put c.self.inside.taken c.self.inside.unit c.self.invariant c.args.path c.holds-more.result c.args.row c.self.inside.unit c.add.new.self refl free c.holds-more.ensures c.in_ok-add.ensures.ok
