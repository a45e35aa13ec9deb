use Rattle.opfs_turns.specs.Calls.{call_of}
use Rattle.opfs_turns.proofs.asking.Shares.{looked_none, shared-by, same-by, left-by}
use Rattle.opfs_turns.proofs.asking.asking.ask_work.Goals as goal

pub returns-in_default-clause-shared : goal.returns-in_default-clause-shared
returns-in_default-clause-shared g c = looked_none c.args.turns.now

pub returns-clause-shared : goal.returns-clause-shared
returns-clause-shared g c =
    shared-by g.S.Store.tells c.args.turns.now c.call-acted.new.self c.args.op c.call-acted.result c.answer.result c.call-acted.ensures.entered c.call-acted.ensures.looked c.answer.ensures

pub returns-clause-left : goal.returns-clause-left
returns-clause-left g c =
    left-by g.S.Store.tells c.args.turns.now c.call-acted.new.self c.args.op c.call-acted.result c.answer.result c.args.work.now c.call-acted.new.work c.know_kept.ensures
    c.call-acted.ensures.entered c.call-acted.ensures.left c.answer.ensures

pub returns-clause-same : goal.returns-clause-same
returns-clause-same g c =
    same-by g.S.Store.tells c.args.turns.now.opening c.call-acted.new.self.pass.base (call_of c.args.turns.now c.args.op) c.call-acted.result c.answer.result c.args.work.now c.call-acted.new.work
    c.call-acted.ensures.left c.call-acted.ensures.same c.answer.ensures
