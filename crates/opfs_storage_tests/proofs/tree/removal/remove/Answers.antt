use Rattle.std.proofs.Common.{arith}
use Rattle.opfs_storage_tests.proofs.tree.removal.remove.Goals as goal

pub extents_below-none-requires : goal.extents_below-none-requires
extents_below-none-requires c = let none = c.requires (c.args.key.now, c.args.path.now) in omega (arith, none)

pub remove-requires : goal.remove-requires
remove-requires c = let none = c.requires (c.args.key.now, c.args.path.now) in rw c.new-freed.ensures.items (omega (arith, none))
