use Rattle.std.proofs.Common.{arith}
use Rattle.opfs_notebook.proofs.Going.{places-of, served-more, served-notes}
use Rattle.opfs_notebook.proofs.notes.note.Goals as goal

pub get-found-requires-clause-few : goal.get-found-requires-clause-few
get-found-requires-clause-few g c = places-of c.args.agent.now 50000000 (omega arith) c.requires.few

pub get-found-requires-clause-own : goal.get-found-requires-clause-own
get-found-requires-clause-own g c = c.requires.holds.ready.own

pub get-found-requires-clause-stands : goal.get-found-requires-clause-stands
get-found-requires-clause-stands g c = c.requires.holds.stands

pub returns-clause-holds : goal.returns-clause-holds
returns-clause-holds g c = served-notes g.S.Store.tells c.args.court.now c.args.agent.now c.get-found.new.agent c.know_kept.ensures c.know_kept-2.ensures c.args.kv.now c.get-found.new.self 1 _ c.get-found.ensures.serves c.requires.holds

pub returns-clause-goes : goal.returns-clause-goes
returns-clause-goes g c = served-more g.S.Store.tells c.args.court.now c.args.agent.now c.get-found.new.agent c.know_kept.ensures c.know_kept-2.ensures c.args.kv.now c.get-found.new.self 1 _ c.get-found.ensures.serves
