use Rattle.std.proofs.Common.{◌≤◌, length, sym, subst, arith}
use Rattle.opfs_tree.specs.Rows.{Rows, extents_within}
use Rattle.opfs_tree.specs.declared.row.Row.TheVariants as row
use Rattle.opfs_storage_tests.proofs.tree.Extents.{extents_put}
use Rattle.opfs_storage_tests.proofs.tree.growing.add_root.Goals as goal

pub returns-in_ok-add-in-None : goal.returns-in_ok-add-in-None
returns-in_ok-add-in-None c at =
    let P = λ (rows : Rows). length (extents_within at rows) ≤ length (extents_within at c.args.tree.now) in
    subst P (sym c.in_ok-add-in-None.ensures.ok) (let more = extents_put at (c.args.key.now, c.root-root.result) row.Dir c.args.tree.now in omega (arith, more))
