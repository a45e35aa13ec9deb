use Rattle.std.proofs.Common.{◌+◌, ◌≤◌, length, sym, subst}
use Rattle.opfs_tree.specs.Rows.{Rows, extents_of, extents_within}
use Rattle.opfs_storage_tests.proofs.tree.Extents.{extents_put}
use Rattle.opfs_storage_tests.proofs.tree.growing.add_child.Goals as goal

pub returns-in_ok-add-in-None-Some-Directory : goal.returns-in_ok-add-in-None-Some-Directory
returns-in_ok-add-in-None-Some-Directory c at =
    let P = λ (rows : Rows). length (extents_within at rows) ≤ length (extents_within at c.args.tree.now) + length (extents_of c.args.row) in
    subst P (sym c.in_ok-add-in-None-Some-Directory.ensures.ok) (extents_put at _ c.args.row c.args.tree.now)
