use Rattle.std.proofs.Common.{arith}
use Rattle.opfs_notebook.proofs.Going.{closed-more, closed-notes, goes-most, goes-then, made-then, places-of, served-more, served-notes}
use Rattle.opfs_notebook.proofs.notes.close.Goals as goal

pub close-done-requires-clause-few : goal.close-done-requires-clause-few
close-done-requires-clause-few g c = places-of c.args.agent.now 50000000 (omega arith) c.requires.few

pub close-done-requires-clause-own : goal.close-done-requires-clause-own
close-done-requires-clause-own g c = c.requires.holds.ready.own

pub close-done-requires-clause-stands : goal.close-done-requires-clause-stands
close-done-requires-clause-stands g c = c.requires.holds.stands

pub returns-in-Ok-clause-ready : goal.returns-in-Ok-clause-ready
returns-in-Ok-clause-ready g c = closed-notes g.S.Store.tells c.args.court.now c.args.agent.now c.close-done.new.agent c.know_kept.ensures c.know_kept-2.ensures _ 2 c.args.kv _ c.in-Ok.ensures.closed c.requires.holds

pub returns-in-Ok-clause-goes : goal.returns-in-Ok-clause-goes
returns-in-Ok-clause-goes g c = goes-most c.args.agent.now c.close-done.new.agent 2 3 (omega arith) (closed-more g.S.Store.tells c.args.court.now c.args.agent.now c.close-done.new.agent c.know_kept.ensures c.know_kept-2.ensures _ 2 c.args.kv _ c.in-Ok.ensures.closed)

pub give_up-requires-clause-holds : goal.give_up-requires-clause-holds
give_up-requires-clause-holds g c = served-notes g.S.Store.tells c.args.court.now c.args.agent.now c.close-done.new.agent c.know_kept.ensures c.know_kept-2.ensures c.args.kv c.in-Err.kv 2 _ c.in-Err.ensures.back c.requires.holds

pub give_up-requires-clause-few : goal.give_up-requires-clause-few
give_up-requires-clause-few g c = made-then c.args.agent.now c.close-done.new.agent 50000000 2 50001000 (omega arith) c.requires.few (served-more g.S.Store.tells c.args.court.now c.args.agent.now c.close-done.new.agent c.know_kept.ensures c.know_kept-2.ensures c.args.kv c.in-Err.kv 2 _ c.in-Err.ensures.back)

pub returns-in-Err-clause-goes : goal.returns-in-Err-clause-goes
returns-in-Err-clause-goes g c = goes-then c.args.agent.now c.close-done.new.agent c.give_up.new.agent 2 1 3 (omega arith) (served-more g.S.Store.tells c.args.court.now c.args.agent.now c.close-done.new.agent c.know_kept.ensures c.know_kept-2.ensures c.args.kv c.in-Err.kv 2 _ c.in-Err.ensures.back) c.give_up.ensures.goes
