use Rattle.std.proofs.Common.{◌∙◌, arith, refl, rules}
use Rattle.opfs_serving.specs.Served.{words}
use Rattle.opfs_serving.proofs.Leaves.{all-gone, gone-more}
use Rattle.opfs_serving.proofs.Polls.{going-more, going-none}
use Rattle.opfs_serving.proofs.serving.end_all.Goals as goal

pub loop-place-init : goal.loop-place-init
loop-place-init g c = (
  going-none (words g.S.Chronicle.opening g.S.Store.opened g.S.Chronicle.entries g.S.Store.keeps g.S.Chronicle.goes_on g.S.Store.tells g.P.Port.tells g.P.Port.said g.P.Port.faults) c.args.hall.now c.args.port.now c.args.watch c.args.table.now.seats.items
      c.args.table.now.progress c.requires.serves,
  search rules,
  λ b. refl,
  λ on. on,
  λ i x less is. absurd (omega (arith, less)),
)

pub loop-place-preserved : goal.loop-place-preserved
loop-place-preserved g c = (
  going-more (words g.S.Chronicle.opening g.S.Store.opened g.S.Chronicle.entries g.S.Store.keeps g.S.Chronicle.goes_on g.S.Store.tells g.P.Port.tells g.P.Port.said g.P.Port.faults) c.args.hall.now c.args.port.now c.loop-place.port c.end_one-watch.new.port
      c.args.watch c.loop-place.watch c.end_one-watch.result c.args.table.now.seats.items c.loop-place.table.seats.items c.end_one-watch.new.table.seats.items
      c.args.table.now.progress c.loop-place.table.progress c.end_one-watch.new.table.progress c.loop-place.invariant.0 c.end_one-watch.ensures.on_with,
  c.end_one-watch.ensures.count ∙ c.loop-place.invariant.1,
  λ b. c.end_one-watch.ensures.rest b ∙ c.loop-place.invariant.2 b,
  λ on. c.loop-place.invariant.3 (c.end_one-watch.ensures.still on),
  gone-more c.loop-place.table.seats.items c.end_one-watch.new.table.seats.items c.loop-place.place c.loop-place.invariant.4 c.end_one-watch.ensures.ended c.end_one-watch.ensures.others,
)

pub returns-clause-all : goal.returns-clause-all
returns-clause-all g c = all-gone c.loop-place.table.seats.items c.loop-place.place (search rules) c.loop-place.invariant.4
