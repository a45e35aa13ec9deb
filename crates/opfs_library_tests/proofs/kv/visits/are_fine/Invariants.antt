use Rattle.std.proofs.Common.{All, take}
use Rattle.opfs_kv.specs.Commands.Runs.{IsOp}
use Rattle.opfs_library_tests.proofs.kv.visits.are_fine.Given as goal

abbrev pub invariant-loop-op : goal.invariant-loop-op
invariant-loop-op l = All IsOp (take l.op-index l.ops)
