use Rattle.std.proofs.Common.{arith}
use Rattle.opfs_notebook.proofs.Going.{ended-more, ended-notes, places-of}
use Rattle.opfs_library_tests.proofs.kv.kvs.put.Goals as goal

pub put-done-requires-clause-few : goal.put-done-requires-clause-few
put-done-requires-clause-few g c = places-of c.args.agent.now 50000000 (omega arith) c.requires.few

pub put-done-requires-clause-own : goal.put-done-requires-clause-own
put-done-requires-clause-own g c = c.requires.holds.ready.own

pub put-done-requires-clause-stands : goal.put-done-requires-clause-stands
put-done-requires-clause-stands g c = c.requires.holds.stands

pub returns-clause-holds : goal.returns-clause-holds
returns-clause-holds g c = ended-notes g.S.Store.tells c.args.court.now c.args.agent.now c.put-done.new.agent c.know_kept.ensures c.know_kept-2.ensures c.args.kv.now c.put-done.new.self 2 _ _ c.put-done.result c.put-done.ensures.put c.put-done.ensures.left c.requires.holds

pub returns-clause-goes : goal.returns-clause-goes
returns-clause-goes g c = ended-more g.S.Store.tells c.args.court.now c.args.agent.now c.put-done.new.agent c.know_kept.ensures c.know_kept-2.ensures c.args.kv.now c.put-done.new.self 2 _ _ c.put-done.result c.put-done.ensures.put c.put-done.ensures.left
