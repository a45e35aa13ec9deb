use Rattle.std.proofs.Common.{arith}
use Rattle.opfs_notebook.proofs.Going.{flushed-more, flushed-notes, places-of}
use Rattle.opfs_notebook.proofs.notes.store.Goals as goal

pub flush-done-requires-clause-few : goal.flush-done-requires-clause-few
flush-done-requires-clause-few g c = places-of c.args.agent.now 50000000 (omega arith) c.requires.few

pub flush-done-requires-clause-own : goal.flush-done-requires-clause-own
flush-done-requires-clause-own g c = c.requires.holds.ready.own

pub flush-done-requires-clause-stands : goal.flush-done-requires-clause-stands
flush-done-requires-clause-stands g c = c.requires.holds.stands

pub returns-clause-holds : goal.returns-clause-holds
returns-clause-holds g c = flushed-notes g.S.Store.tells c.args.court.now c.args.agent.now c.flush-done.new.agent c.know_kept.ensures c.know_kept-2.ensures c.args.kv.now c.flush-done.new.self 6 _ _ c.flush-done.result c.flush-done.ensures.flushed c.flush-done.ensures.left c.requires.holds

pub returns-clause-goes : goal.returns-clause-goes
returns-clause-goes g c = flushed-more g.S.Store.tells c.args.court.now c.args.agent.now c.flush-done.new.agent c.know_kept.ensures c.know_kept-2.ensures c.args.kv.now c.flush-done.new.self 6 _ _ c.flush-done.result c.flush-done.ensures.flushed c.flush-done.ensures.left
