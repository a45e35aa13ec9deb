use Rattle.std.proofs.Common.{All, rules, subst, arith}
use Rattle.std.proofs.lemmas.List.{take_all}
use Rattle.opfs_kv.specs.Commands.Runs.{IsOp}
use Rattle.opfs_library_tests.proofs.kv.Held.{one-more}
use Rattle.opfs_library_tests.proofs.kv.visits.are_fine.Goals as goal

pub loop-op-preserved : goal.loop-op-preserved
loop-op-preserved c = one-more IsOp c.args.ops.now c.loop-op.op-index c.op-item.result c.loop-op-test.true c.op-item.is c.loop-op.invariant (c.is_fine.ensures (search rules))

pub returns : goal.returns
returns c = λ told. subst (All IsOp) (take_all c.loop-op.op-index c.args.ops.now (omega (arith, c.loop-op-test.false))) c.loop-op.invariant
