use Rattle.std.proofs.Common.{length, sym, ◌∙◌, ap}
use Rattle.std.proofs.lemmas.Option.{slice_get_read}
use Rattle.opfs_serving.specs.Seats.{SeatSeen}
use Rattle.opfs_serving.specs.Served.{words}
use Rattle.opfs_serving.proofs.Leaves.{left-hall, serving-left_told}
use Rattle.opfs_serving.proofs.Polls.{serving-ends}
use Rattle.opfs_serving.proofs.Seating.{get-set, get-set_other}
use Rattle.opfs_serving.proofs.serving.end_one.Goals as goal

pub end_seat-watch-requires-clause-own : goal.end_seat-watch-requires-clause-own
end_seat-watch-requires-clause-own g c = let s = c.requires.serves in (c.poll_on-watch.ensures.on_with s.agents s.begun s.is).stands.hall

pub end_seat-watch-requires-clause-may : goal.end_seat-watch-requires-clause-may
end_seat-watch-requires-clause-may g c =
    let w = words g.S.Chronicle.opening g.S.Store.opened g.S.Chronicle.entries g.S.Store.keeps g.S.Chronicle.goes_on g.S.Store.tells g.P.Port.tells g.P.Port.said g.P.Port.faults in
    let s = c.requires.serves in
    let seats = c.poll_on-watch.new.table.seats.items in
    let within = c.requires.within in
    let count = c.poll_on-watch.ensures.count in
    serving-ends w g.S.Chronicle.lasts g.S.Chronicle.stays c.args.hall.now s.agents s.begun c.poll_on-watch.new.port c.poll_on-watch.result seats c.poll_on-watch.new.table.progress
    (c.poll_on-watch.ensures.on_with s.agents s.begun s.is) c.args.place c.index_mut.result.now
    (slice_get_read seats (length c.args.table.now.seats.items) c.args.place c.index_mut.result.now (sym count) within c.index_mut.ensures.value)

pub tell_turn-requires-clause-own : goal.tell_turn-requires-clause-own
tell_turn-requires-clause-own g c =
    let w = words g.S.Chronicle.opening g.S.Store.opened g.S.Chronicle.entries g.S.Store.keeps g.S.Chronicle.goes_on g.S.Store.tells g.P.Port.tells g.P.Port.said g.P.Port.faults in
    let s = c.requires.serves in
    let seats = c.poll_on-watch.new.table.seats.items in
    (left-hall w g.S.Chronicle.lasts g.S.Chronicle.stays c.args.hall.now s.agents s.begun c.poll_on-watch.new.port c.poll_on-watch.result seats c.poll_on-watch.new.table.progress
    (c.poll_on-watch.ensures.on_with s.agents s.begun s.is) c.args.place c.index_mut.result.now
    (slice_get_read seats (length c.args.table.now.seats.items) c.args.place c.index_mut.result.now (sym c.poll_on-watch.ensures.count) c.requires.within c.index_mut.ensures.value)
    c.end_seat-watch.new.seat c.end_seat-watch.result c.end_seat-watch.ensures.none c.end_seat-watch.ensures.left).0

pub returns-clause-on_with : goal.returns-clause-on_with
returns-clause-on_with g c = λ agents begun v.
    let w = words g.S.Chronicle.opening g.S.Store.opened g.S.Chronicle.entries g.S.Store.keeps g.S.Chronicle.goes_on g.S.Store.tells g.P.Port.tells g.P.Port.said g.P.Port.faults in
    let seats = c.poll_on-watch.new.table.seats.items in
    serving-left_told w g.S.Chronicle.lasts g.S.Chronicle.stays c.args.hall.now agents begun c.poll_on-watch.new.port c.poll_on-watch.result seats c.poll_on-watch.new.table.progress
    (c.poll_on-watch.ensures.on_with agents begun v) c.args.place c.index_mut.result.now
    (slice_get_read seats (length c.args.table.now.seats.items) c.args.place c.index_mut.result.now (sym c.poll_on-watch.ensures.count) c.requires.within c.index_mut.ensures.value)
    c.index.result.now c.end_seat-watch.new.seat
    (slice_get_read seats (length c.args.table.now.seats.items) c.args.place c.index.result.now (sym c.poll_on-watch.ensures.count) c.requires.within c.index.ensures)
    c.end_seat-watch.ensures.gone c.stays_whole-table.result c.stays_whole-table.ensures c.end_seat-watch.result c.end_seat-watch.ensures.rows c.end_seat-watch.ensures.none c.end_seat-watch.ensures.left
    c.tell_turn.new.port c.tell_turn.result c.tell_turn.new.progress c.tell_turn.ensures.turned c.tell_turn.ensures.told

pub returns-clause-ended : goal.returns-clause-ended
returns-clause-ended g c = λ x is.
    let seats = c.poll_on-watch.new.table.seats.items in
    ap (λ (y : SeatSeen g.row.S-Opening.Denot). y.agent)
    (get-set seats c.args.place c.index_mut.result.now c.end_seat-watch.new.seat x
    (slice_get_read seats (length c.args.table.now.seats.items) c.args.place c.index_mut.result.now (sym c.poll_on-watch.ensures.count) c.requires.within c.index_mut.ensures.value) is)
    ∙ c.end_seat-watch.ensures.gone

pub returns-clause-others : goal.returns-clause-others
returns-clause-others g c = λ i other.
    get-set_other c.poll_on-watch.new.table.seats.items c.args.place i c.end_seat-watch.new.seat other ∙ c.poll_on-watch.ensures.others i other
