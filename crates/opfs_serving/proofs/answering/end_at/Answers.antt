use Rattle.opfs_script.specs.declared.lines.Asking.TheVariants as asking
use Rattle.opfs_serving.proofs.Replies.{agent-ended, left-hall, may-end}
use Rattle.opfs_serving.proofs.Steps.{at-seat}
use Rattle.opfs_serving.specs.Served.{words}
use Rattle.opfs_serving.proofs.answering.end_at.Goals as goal

pub end_seat-watch-requires-clause-may : goal.end_seat-watch-requires-clause-may
end_seat-watch-requires-clause-may g c = λ a there.
    let r = c.requires.asked in
    let s = c.requires.serves in
    let seat = at-seat r.0 c.args.table.now.seats.items c.args.place asking.End c.index_mut.result.now r.1 c.index_mut.ensures.value in
    may-end (words g.S.Chronicle.opening g.S.Store.opened g.S.Chronicle.entries g.S.Store.keeps g.S.Chronicle.goes_on g.S.Store.tells g.P.Port.tells g.P.Port.said g.P.Port.faults)
    c.args.hall.now s.1.agents s.1.begun s.0 c.args.watch c.args.table.now.seats.items c.args.table.now.progress s.1.is c.requires.on c.args.place c.index_mut.result.now a seat.0 there seat.1.free

pub tell_turn-requires-clause-own : goal.tell_turn-requires-clause-own
tell_turn-requires-clause-own g c =
    let r = c.requires.asked in
    let s = c.requires.serves in
    let seat = at-seat r.0 c.args.table.now.seats.items c.args.place asking.End c.index_mut.result.now r.1 c.index_mut.ensures.value in
    left-hall g.S.Chronicle.entries g.S.Store.tells c.args.hall.now c.index_mut.result.now seat.1.agent c.args.watch c.end_seat-watch.result (c.end_seat-watch.ensures.left seat.1.agent seat.1.there) s.1.is.stands.hall

pub returns : goal.returns
returns g c = λ line before request came agents begun v.
    let seat = at-seat line c.args.table.now.seats.items c.args.place asking.End c.index_mut.result.now request c.index_mut.ensures.value in
    agent-ended (words g.S.Chronicle.opening g.S.Store.opened g.S.Chronicle.entries g.S.Store.keeps g.S.Chronicle.goes_on g.S.Store.tells g.P.Port.tells g.P.Port.said g.P.Port.faults) g.S.Chronicle.lasts g.S.Chronicle.stays
    c.args.hall.now agents begun before c.args.port.now c.args.watch c.args.table.now.seats.items c.args.table.now.progress v c.requires.on line came c.requires.quiet
    c.args.place request c.index_mut.result.now c.end_seat-watch.new.seat seat.0 seat.1
    c.end_seat-watch.result c.tell_turn.result c.tell_turn.new.port c.tell_turn.new.progress
    (c.end_seat-watch.ensures.left seat.1.agent seat.1.there) c.end_seat-watch.ensures.gone (c.end_seat-watch.ensures.rows seat.1.agent seat.1.there) c.tell_turn.ensures.turned c.tell_turn.ensures.told
