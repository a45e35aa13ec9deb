use Rattle.std.proofs.Common.{◌≡◌, ◌++◌}
use Rattle.opfs_register.specs.LastUses.{used_in}
use Rattle.opfs_register.proofs.uses.list_uses.Given as goal

abbrev pub invariant-loop-origin : goal.invariant-loop-origin
invariant-loop-origin l = l.listed.items ++ used_in l.origin-iterator ≡ used_in l.items.entries
