use Rattle.std.proofs.Common.{arith}
use Rattle.opfs_notebook.proofs.Going.{places-of, served-more, served-notes}
use Rattle.opfs_library_tests.proofs.kv.kvs.tidy.Goals as goal

pub tidy-done-requires-clause-few : goal.tidy-done-requires-clause-few
tidy-done-requires-clause-few g c = places-of c.args.agent.now 50000000 (omega arith) c.requires.few

pub tidy-done-requires-clause-own : goal.tidy-done-requires-clause-own
tidy-done-requires-clause-own g c = c.requires.holds.ready.own

pub tidy-done-requires-clause-stands : goal.tidy-done-requires-clause-stands
tidy-done-requires-clause-stands g c = c.requires.holds.stands

pub returns-clause-holds : goal.returns-clause-holds
returns-clause-holds g c = served-notes g.S.Store.tells c.args.court.now c.args.agent.now c.tidy-done.new.agent c.know_kept.ensures c.know_kept-2.ensures c.args.kv.now c.tidy-done.new.self 4 _ c.tidy-done.ensures.serves c.requires.holds

pub returns-clause-goes : goal.returns-clause-goes
returns-clause-goes g c = served-more g.S.Store.tells c.args.court.now c.args.agent.now c.tidy-done.new.agent c.know_kept.ensures c.know_kept-2.ensures c.args.kv.now c.tidy-done.new.self 4 _ c.tidy-done.ensures.serves
