use Rattle.std.proofs.Common.{arith}
use Rattle.opfs_storage_tests.proofs.tree.removal.add.Goals as goal

pub returns-in-Directory : goal.returns-in-Directory
returns-in-Directory c bare at = let none = bare at in let more = c.add_child.ensures at in omega (arith, none, more)

pub returns-in-File : goal.returns-in-File
returns-in-File c bare at = let none = bare at in let more = c.add_child-in-File.ensures at in omega (arith, none, more)
