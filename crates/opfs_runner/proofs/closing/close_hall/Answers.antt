use Rattle.std.proofs.Common.{sym, subst}
use Rattle.opfs_hall.specs.Seen.{HasAll}
use Rattle.opfs_runner.proofs.Joining.{has-all, closed-cut, closed-run}
use Rattle.opfs_runner.proofs.closing.close_hall.Goals as goal

pub close-requires-clause-all : goal.close-requires-clause-all
close-requires-clause-all g c =
    subst HasAll (sym c.join.ensures) (has-all c.args.court c.args.scripts.now c.args.owner c.args.ended.pass c.args.ended.whole c.requires.owner c.requires.agents c.requires.ran)

pub returns-clause-cut : goal.returns-clause-cut
returns-clause-cut g c =
    closed-cut c.args.court c.args.scripts.now c.args.owner c.args.ended.pass c.join.new.into c.args.ended.whole c.requires.owner c.requires.ran c.join.ensures g.S.Chronicle.owner g.met.S.Store.owned
    (g.S.Chronicle.entries c.close.result) c.close.ensures.ended

pub returns-clause-run : goal.returns-clause-run
returns-clause-run g c =
    closed-run c.args.court c.args.scripts.now c.args.owner c.args.ended.pass c.join.new.into c.args.ended.whole c.requires.owner c.requires.ran c.join.ensures g.S.Chronicle.owner g.met.S.Store.owned
    (g.S.Chronicle.entries c.close.result) c.close.ensures.ended
