use Rattle.opfs_serving.proofs.Steps.{at-seat, midway-at, step-turned}
use Rattle.opfs_serving.specs.Served.{words}
use Rattle.opfs_script.specs.declared.lines.Asking.TheVariants as asking
use Rattle.opfs_serving.proofs.answering.step_at.Goals as goal

pub step_turn-now-requires-clause-free : goal.step_turn-now-requires-clause-free
step_turn-now-requires-clause-free g c =
    let r = c.requires.asked in
    (at-seat r.0 c.args.table.now.seats.items c.args.place (asking.Step c.args.step.now) c.index_mut.result.now r.1 c.index_mut.ensures.value).1

pub step_turn-now-requires-clause-midway : goal.step_turn-now-requires-clause-midway
step_turn-now-requires-clause-midway g c = λ a there.
    let r = c.requires.asked in
    let s = c.requires.serves in
    midway-at (words g.S.Chronicle.opening g.S.Store.opened g.S.Chronicle.entries g.S.Store.keeps g.S.Chronicle.goes_on g.S.Store.tells g.P.Port.tells g.P.Port.said g.P.Port.faults)
    c.args.hall.now s.1.agents s.1.begun s.0 c.args.watch c.args.table.now.seats.items c.args.table.now.progress s.1.is c.requires.on c.args.place c.index_mut.result.now a
    (at-seat r.0 c.args.table.now.seats.items c.args.place (asking.Step c.args.step.now) c.index_mut.result.now r.1 c.index_mut.ensures.value).0 there

pub returns : goal.returns
returns g c = λ line before request came agents begun v.
    let seat = at-seat line c.args.table.now.seats.items c.args.place (asking.Step c.args.step.now) c.index_mut.result.now request c.index_mut.ensures.value in
    step-turned (words g.S.Chronicle.opening g.S.Store.opened g.S.Chronicle.entries g.S.Store.keeps g.S.Chronicle.goes_on g.S.Store.tells g.P.Port.tells g.P.Port.said g.P.Port.faults) g.S.Chronicle.lasts g.S.Chronicle.stays
    c.args.hall.now agents begun before c.args.port.now c.args.watch c.args.table.now.seats.items c.args.table.now.progress v c.requires.on line came c.requires.quiet
    c.args.place c.args.step.now request c.index_mut.result.now c.step_turn-now.new.seat seat.0
    c.step_turn-now.new.port c.step_turn-now.result.0 c.step_turn-now.new.progress c.step_turn-now.result.1 c.step_turn-now.ensures.made c.step_turn-now.ensures.missed
