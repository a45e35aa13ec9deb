use Rattle.std.proofs.Common.{arith}
use Rattle.opfs_notebook.proofs.Going.{ended-more, ended-notes, places-of}
use Rattle.opfs_library_tests.proofs.kv.kvs.delete.Goals as goal

pub delete-done-requires-clause-few : goal.delete-done-requires-clause-few
delete-done-requires-clause-few g c = places-of c.args.agent.now 50000000 (omega arith) c.requires.few

pub delete-done-requires-clause-own : goal.delete-done-requires-clause-own
delete-done-requires-clause-own g c = c.requires.holds.ready.own

pub delete-done-requires-clause-stands : goal.delete-done-requires-clause-stands
delete-done-requires-clause-stands g c = c.requires.holds.stands

pub returns-clause-holds : goal.returns-clause-holds
returns-clause-holds g c = ended-notes g.S.Store.tells c.args.court.now c.args.agent.now c.delete-done.new.agent c.know_kept.ensures c.know_kept-2.ensures c.args.kv.now c.delete-done.new.self 2 _ _ c.delete-done.result c.delete-done.ensures.gone c.delete-done.ensures.left c.requires.holds

pub returns-clause-goes : goal.returns-clause-goes
returns-clause-goes g c = ended-more g.S.Store.tells c.args.court.now c.args.agent.now c.delete-done.new.agent c.know_kept.ensures c.know_kept-2.ensures c.args.kv.now c.delete-done.new.self 2 _ _ c.delete-done.result c.delete-done.ensures.gone c.delete-done.ensures.left
