use Rattle.std.proofs.Common.{arith}
use Rattle.opfs_library_tests.proofs.kv.Held.{ran-more, ran-notes, run-room-of}
use Rattle.opfs_library_tests.proofs.kv.visits.run_ops.Goals as goal

pub kv_run-ran-requires-clause-few : goal.kv_run-ran-requires-clause-few
kv_run-ran-requires-clause-few g c = run-room-of c.args.agent.now 50000000 (omega arith) c.requires.few

pub returns-in-Ok-clause-holds : goal.returns-in-Ok-clause-holds
returns-in-Ok-clause-holds g c = ran-notes g.S.Store.tells c.args.court.now c.args.agent.now c.kv_run-ran.new.agent c.know_kept.ensures c.know_kept-2.ensures c.args.kv.now c.kv_run-ran.new.kv c.args.ops.now c.kv_run-ran.ensures.others c.in-Ok.ensures.entries c.kv_run-ran.ensures.stands c.in-Ok.ensures.same c.requires.holds

pub returns-in-Ok-clause-goes : goal.returns-in-Ok-clause-goes
returns-in-Ok-clause-goes g c = ran-more g.S.Store.tells c.args.court.now c.args.agent.now c.kv_run-ran.new.agent c.know_kept.ensures c.know_kept-2.ensures c.args.kv.now c.kv_run-ran.new.kv c.args.ops.now c.kv_run-ran.ensures.others c.in-Ok.ensures.entries c.requires.many
