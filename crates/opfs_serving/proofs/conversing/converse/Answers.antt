use Rattle.std.proofs.Common.{rules}
use Rattle.opfs_serving.specs.Served.{words}
use Rattle.opfs_serving.proofs.Polls.{GoesServing, going-more}
use Rattle.opfs_serving.proofs.conversing.converse.Given.{Over}
use Rattle.opfs_serving.proofs.conversing.converse.Goals as goal
use Rattle.opfs_serving.proofs.conversing.converse.Goals.{After-hear_line-now, After-settle-watch}

-- It stands before a line is heard,
settled : (g : Over) (c : After-settle-watch g)
    → GoesServing (words g.S.Chronicle.opening g.S.Store.opened g.S.Chronicle.entries g.S.Store.keeps g.S.Chronicle.goes_on g.S.Store.tells g.P.Port.tells g.P.Port.said g.P.Port.faults) c.args.hall.now c.args.port.now c.settle-watch.new.port c.args.watch c.settle-watch.result
    c.args.table.now.seats.items c.settle-watch.new.table.seats.items c.args.table.now.progress c.settle-watch.new.table.progress
settled g c =
    let w = words g.S.Chronicle.opening g.S.Store.opened g.S.Chronicle.entries g.S.Store.keeps g.S.Chronicle.goes_on g.S.Store.tells g.P.Port.tells g.P.Port.said g.P.Port.faults in
    going-more w c.args.hall.now c.args.port.now c.loop.port c.settle-watch.new.port c.args.watch c.loop.watch c.settle-watch.result
    c.args.table.now.seats.items c.loop.table.seats.items c.settle-watch.new.table.seats.items c.args.table.now.progress c.loop.table.progress c.settle-watch.new.table.progress
    c.loop.invariant c.settle-watch.ensures.on_with

-- and behind it.
heard : (g : Over) (c : After-hear_line-now g)
    → GoesServing (words g.S.Chronicle.opening g.S.Store.opened g.S.Chronicle.entries g.S.Store.keeps g.S.Chronicle.goes_on g.S.Store.tells g.P.Port.tells g.P.Port.said g.P.Port.faults) c.args.hall.now c.args.port.now c.settle-watch.new.port c.args.watch c.settle-watch.result
    c.args.table.now.seats.items c.settle-watch.new.table.seats.items c.args.table.now.progress c.settle-watch.new.table.progress
    → GoesServing (words g.S.Chronicle.opening g.S.Store.opened g.S.Chronicle.entries g.S.Store.keeps g.S.Chronicle.goes_on g.S.Store.tells g.P.Port.tells g.P.Port.said g.P.Port.faults) c.args.hall.now c.args.port.now c.hear_line-now.new.port c.args.watch c.hear_line-now.result.0
    c.args.table.now.seats.items c.hear_line-now.new.table.seats.items c.args.table.now.progress c.hear_line-now.new.table.progress
heard g c before =
    let w = words g.S.Chronicle.opening g.S.Store.opened g.S.Chronicle.entries g.S.Store.keeps g.S.Chronicle.goes_on g.S.Store.tells g.P.Port.tells g.P.Port.said g.P.Port.faults in
    going-more w c.args.hall.now c.args.port.now c.settle-watch.new.port c.hear_line-now.new.port c.args.watch c.settle-watch.result c.hear_line-now.result.0
    c.args.table.now.seats.items c.settle-watch.new.table.seats.items c.hear_line-now.new.table.seats.items c.args.table.now.progress c.settle-watch.new.table.progress c.hear_line-now.new.table.progress
    before c.hear_line-now.ensures.on_with

pub hear_line-now-requires-clause-serves : goal.hear_line-now-requires-clause-serves
hear_line-now-requires-clause-serves g c = (settled g (goal.at.hear_line-now-requires-clause-serves g c).After-settle-watch).serves

pub loop-preserved : goal.loop-preserved
loop-preserved g c = heard g (goal.at.loop-preserved g c).After-hear_line-now (settled g (goal.at.loop-preserved g c).After-settle-watch)

pub returns-then-not-more-clause-on_with : goal.returns-then-not-more-clause-on_with
returns-then-not-more-clause-on_with g c =
    (heard g (goal.at.returns-then-not-more-clause-on_with g c).After-hear_line-now (settled g (goal.at.returns-then-not-more-clause-on_with g c).After-settle-watch)).on_with

pub hear_line-now-requires-clause-quiet : goal.hear_line-now-requires-clause-quiet
hear_line-now-requires-clause-quiet g c = c.settle-watch.ensures.quiet (search rules)
