use Rattle.std.proofs.Common.{arith}
use Rattle.opfs_kv.proofs.Results.{on-err, on-ok}
use Rattle.opfs_notebook.proofs.Going.{ended-more, ended-notes, places-of}
use Rattle.opfs_notebook.proofs.notes.write.Goals as goal

pub apply-done-requires-clause-few : goal.apply-done-requires-clause-few
apply-done-requires-clause-few g c = places-of c.args.agent.now 50000000 (omega arith) c.requires.few

pub apply-done-requires-clause-own : goal.apply-done-requires-clause-own
apply-done-requires-clause-own g c = c.requires.holds.ready.own

pub apply-done-requires-clause-stands : goal.apply-done-requires-clause-stands
apply-done-requires-clause-stands g c = c.requires.holds.stands

pub returns-clause-holds : goal.returns-clause-holds
returns-clause-holds g c = ended-notes g.S.Store.tells c.args.court.now c.args.agent.now c.apply-done.new.agent c.know_kept.ensures c.know_kept-2.ensures c.args.kv.now c.apply-done.new.self 2 _ _ c.apply-done.result c.apply-done.ensures.applied c.apply-done.ensures.left c.requires.holds

pub returns-clause-goes : goal.returns-clause-goes
returns-clause-goes g c = ended-more g.S.Store.tells c.args.court.now c.args.agent.now c.apply-done.new.agent c.know_kept.ensures c.know_kept-2.ensures c.args.kv.now c.apply-done.new.self 2 _ _ c.apply-done.result c.apply-done.ensures.applied c.apply-done.ensures.left

pub returns-clause-written : goal.returns-clause-written
returns-clause-written g c = on-ok c.apply-done.result _ _ (λ s. s.map) c.apply-done.ensures.applied

pub returns-clause-left : goal.returns-clause-left
returns-clause-left g c = on-err c.apply-done.result _ _ (λ s. s.map) c.apply-done.ensures.left
