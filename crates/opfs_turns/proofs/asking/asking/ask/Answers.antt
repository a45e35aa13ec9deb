use Rattle.opfs_turns.proofs.asking.Shares.{looked_none, shared-by}
use Rattle.opfs_turns.proofs.asking.asking.ask.Goals as goal

pub returns-in_default : goal.returns-in_default
returns-in_default g c = looked_none c.args.turns.now

pub returns : goal.returns
returns g c =
    shared-by g.S.Store.tells c.args.turns.now c.call-acted.new.self c.args.op c.call-acted.result c.answer.result c.call-acted.ensures.entered c.call-acted.ensures.looked c.answer.ensures
