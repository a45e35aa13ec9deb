use Rattle.std.proofs.Common.{◌∙◌}
use Rattle.opfs_serving.specs.Served.{words}
use Rattle.opfs_serving.proofs.Polls.{going-more}
use Rattle.opfs_serving.proofs.serving.end_idle.Goals as goal

pub loop-place-preserved : goal.loop-place-preserved
loop-place-preserved g c = (
  going-more (words g.S.Chronicle.opening g.S.Store.opened g.S.Chronicle.entries g.S.Store.keeps g.S.Chronicle.goes_on g.S.Store.tells g.P.Port.tells g.P.Port.said g.P.Port.faults) c.args.hall.now c.args.port.now c.loop-place.port c.end_free-watch.new.port
      c.args.watch c.loop-place.watch c.end_free-watch.result c.args.table.now.seats.items c.loop-place.table.seats.items c.end_free-watch.new.table.seats.items
      c.args.table.now.progress c.loop-place.table.progress c.end_free-watch.new.table.progress c.loop-place.invariant.0 c.end_free-watch.ensures.on_with,
  c.end_free-watch.ensures.count ∙ c.loop-place.invariant.1,
  λ b. c.end_free-watch.ensures.rest b ∙ c.loop-place.invariant.2 b,
  λ on. c.loop-place.invariant.3 (c.end_free-watch.ensures.still on),
)
