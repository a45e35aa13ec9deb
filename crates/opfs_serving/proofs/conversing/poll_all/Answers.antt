use Rattle.std.proofs.Common.{◌∙◌, arith, refl, rules}
use Rattle.opfs_serving.specs.Served.{words}
use Rattle.opfs_serving.proofs.Polls.{going-more, going-none}
use Rattle.opfs_serving.proofs.Quiet.{begun-all, begun-more}
use Rattle.opfs_serving.proofs.conversing.poll_all.Goals as goal

pub loop-place-preserved : goal.loop-place-preserved
loop-place-preserved g c = (
  going-more (words g.S.Chronicle.opening g.S.Store.opened g.S.Chronicle.entries g.S.Store.keeps g.S.Chronicle.goes_on g.S.Store.tells g.P.Port.tells g.P.Port.said g.P.Port.faults) c.args.hall.now c.args.port.now c.loop-place.port c.poll_on-watch.new.port
      c.args.watch c.loop-place.watch c.poll_on-watch.result c.args.table.now.seats.items c.loop-place.table.seats.items c.poll_on-watch.new.table.seats.items
      c.args.table.now.progress c.loop-place.table.progress c.poll_on-watch.new.table.progress c.loop-place.invariant.0 c.poll_on-watch.ensures.on_with,
  c.poll_on-watch.ensures.count ∙ c.loop-place.invariant.1,
  λ b. c.poll_on-watch.ensures.rest b ∙ c.loop-place.invariant.2 b,
  λ on. c.loop-place.invariant.3 (c.poll_on-watch.ensures.still on),
  λ on.
      begun-more c.loop-place.table.seats.items c.poll_on-watch.new.table.seats.items c.loop-place.place (c.loop-place.invariant.4 (c.poll_on-watch.ensures.still on)) (c.poll_on-watch.ensures.begun on) c.poll_on-watch.ensures.others,
)

pub loop-place-init : goal.loop-place-init
loop-place-init g c = (
  going-none (words g.S.Chronicle.opening g.S.Store.opened g.S.Chronicle.entries g.S.Store.keeps g.S.Chronicle.goes_on g.S.Store.tells g.P.Port.tells g.P.Port.said g.P.Port.faults) c.args.hall.now c.args.port.now c.args.watch c.args.table.now.seats.items c.args.table.now.progress c.requires.serves,
  search rules,
  λ b. refl,
  λ on. on,
  λ on i x less is. absurd (omega (arith, less)),
)

pub returns-clause-begun : goal.returns-clause-begun
returns-clause-begun g c = λ on. begun-all c.loop-place.table.seats.items c.loop-place.place (search rules) (c.loop-place.invariant.4 on)
