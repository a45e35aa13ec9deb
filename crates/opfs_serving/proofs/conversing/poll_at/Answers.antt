use Rattle.std.proofs.Common.{◌≡◌, length, slice_get, refl, sym, ap, ◌∙◌, subst, slice_set}
use Rattle.std.proofs.lemmas.Option.{slice_get_read}
use Rattle.opfs_serving.specs.Seats.{HasBegunToWait, SeatSeen}
use Rattle.opfs_serving.specs.Served.{IsServing, words}
use Rattle.opfs_serving.proofs.Polls.{set-again, polled-at, polled-pass, serving-answered, serving-midway, serving-polled, serving-unpolled}
use Rattle.opfs_serving.proofs.Seating.{get-set, get-set_other}
use Rattle.opfs_serving.proofs.conversing.poll_at.Given.{Over}
use Rattle.opfs_serving.proofs.conversing.poll_at.Goals as goal
use Rattle.opfs_serving.proofs.conversing.poll_at.Goals.{After-show}

pub poll-requires : goal.poll-requires
poll-requires g c =
    let w = words g.S.Chronicle.opening g.S.Store.opened g.S.Chronicle.entries g.S.Store.keeps g.S.Chronicle.goes_on g.S.Store.tells g.P.Port.tells g.P.Port.said g.P.Port.faults in
    let seats = c.args.table.now.seats.items in
    let s = c.requires.serves in
    record {
      midway = serving-midway w g.S.Chronicle.lasts g.S.Chronicle.stays c.args.hall.now s.agents s.begun c.args.port.now c.args.watch seats c.args.table.now.progress s.is c.args.place c.index_mut.result.now
          (slice_get_read seats (length seats) c.args.place c.index_mut.result.now refl c.requires.within c.index_mut.ensures.value) c.requires.on;
    }

pub show-requires-clause-there : goal.show-requires-clause-there
show-requires-clause-there g c =
    let w = words g.S.Chronicle.opening g.S.Store.opened g.S.Chronicle.entries g.S.Store.keeps g.S.Chronicle.goes_on g.S.Store.tells g.P.Port.tells g.P.Port.said g.P.Port.faults in
    let seats = c.args.table.now.seats.items in
    let there = slice_get_read seats (length seats) c.args.place c.index_mut.result.now refl c.requires.within c.index_mut.ensures.value in
    let again = set-again seats c.args.place c.index_mut.result.now c.poll.new.seat c.index_mut-in-Ok-true.result.now c.index_mut-in-Ok-true.result.now there c.index_mut-in-Ok-true.ensures.value refl in
    let s = c.requires.serves in
    let at = polled-at w g.S.Chronicle.lasts g.S.Chronicle.stays c.args.hall.now s.agents s.begun c.args.port.now c.args.watch c.args.watch seats c.args.table.now.progress s.is c.args.place c.index_mut.result.now there c.requires.on
    c.poll.new.seat c.in-Ok-true.ensures.goes (c.in-Ok-true.ensures.there c.in-Ok-true.field-0-test) in
    (at.1, ap (λ x. x.agent) again.0 ∙ at.2, at.3.hall)

-- The owner's pass, as it took note, is of the hall, and the owner's.
noted : (g : Over) (c : After-show g) → (c.show.new.watch.pass.hall ≡ c.args.hall.now) × (c.show.new.watch.pass.agent ≡ 0)
noted g c =
    let w = words g.S.Chronicle.opening g.S.Store.opened g.S.Chronicle.entries g.S.Store.keeps g.S.Chronicle.goes_on g.S.Store.tells g.P.Port.tells g.P.Port.said g.P.Port.faults in
    let seats = c.args.table.now.seats.items in
    let there = slice_get_read seats (length seats) c.args.place c.index_mut.result.now refl c.requires.within c.index_mut.ensures.value in
    let again = set-again seats c.args.place c.index_mut.result.now c.poll.new.seat c.index_mut-in-Ok-true.result.now c.show.new.seat there c.index_mut-in-Ok-true.ensures.value c.show.ensures.same in
    let s = c.requires.serves in
    polled-pass w g.S.Chronicle.lasts g.S.Chronicle.stays c.args.hall.now s.agents s.begun c.args.port.now c.args.watch c.show.new.watch seats c.args.table.now.progress s.is c.args.place c.index_mut.result.now there c.requires.on
    c.poll.new.seat c.in-Ok-true.ensures.goes (c.in-Ok-true.ensures.there c.in-Ok-true.field-0-test)
    (λ b is. c.show.ensures.noted b (ap (λ x. x.agent) again.0 ∙ is)) c.show.ensures.last

pub tell_turn-requires-clause-own : goal.tell_turn-requires-clause-own
tell_turn-requires-clause-own g c = (noted g (goal.at.tell_turn-requires-clause-own g c).After-show).0

pub tell_turn-requires-clause-owner : goal.tell_turn-requires-clause-owner
tell_turn-requires-clause-owner g c = (noted g (goal.at.tell_turn-requires-clause-owner g c).After-show).1

pub returns-in-Ok-true-clause-on_with : goal.returns-in-Ok-true-clause-on_with
returns-in-Ok-true-clause-on_with g c = λ agents begun v.
    let w = words g.S.Chronicle.opening g.S.Store.opened g.S.Chronicle.entries g.S.Store.keeps g.S.Chronicle.goes_on g.S.Store.tells g.P.Port.tells g.P.Port.said g.P.Port.faults in
    let seats = c.args.table.now.seats.items in
    let there = slice_get_read seats (length seats) c.args.place c.index_mut.result.now refl c.requires.within c.index_mut.ensures.value in
    let again = set-again seats c.args.place c.index_mut.result.now c.poll.new.seat c.index_mut-in-Ok-true.result.now c.show.new.seat there c.index_mut-in-Ok-true.ensures.value c.show.ensures.same in
    subst (λ xs. IsServing w c.args.hall.now agents begun c.tell_turn.new.port c.tell_turn.result xs c.tell_turn.new.progress) (sym again.1)
    (serving-answered w g.S.Chronicle.lasts g.S.Chronicle.stays c.args.hall.now agents begun c.args.port.now c.args.watch c.show.new.watch seats c.args.table.now.progress v c.args.place c.index_mut.result.now there c.requires.on
    c.poll.new.seat c.in-Ok-true.ensures.goes (c.in-Ok-true.ensures.there c.in-Ok-true.field-0-test)
    (λ b is. c.show.ensures.noted b (ap (λ x. x.agent) again.0 ∙ is)) c.show.ensures.last c.tell_turn.new.port c.tell_turn.result c.tell_turn.new.progress c.tell_turn.ensures.turned c.tell_turn.ensures.told)

pub returns-in-Ok-true-clause-others : goal.returns-in-Ok-true-clause-others
returns-in-Ok-true-clause-others g c = λ i other.
    let seats = c.args.table.now.seats.items in
    get-set_other (slice_set seats c.args.place c.poll.new.seat) c.args.place i c.show.new.seat other ∙ get-set_other seats c.args.place i c.poll.new.seat other

pub returns-in-Ok-false-clause-on_with : goal.returns-in-Ok-false-clause-on_with
returns-in-Ok-false-clause-on_with g c = λ agents begun v.
    let w = words g.S.Chronicle.opening g.S.Store.opened g.S.Chronicle.entries g.S.Store.keeps g.S.Chronicle.goes_on g.S.Store.tells g.P.Port.tells g.P.Port.said g.P.Port.faults in
    let seats = c.args.table.now.seats.items in
    serving-polled w g.S.Chronicle.lasts g.S.Chronicle.stays c.args.hall.now agents begun c.args.port.now c.args.watch seats c.args.table.now.progress v c.args.place c.index_mut.result.now
    (slice_get_read seats (length seats) c.args.place c.index_mut.result.now refl c.requires.within c.index_mut.ensures.value) c.requires.on
    c.poll.new.seat c.in-Ok-false.ensures.goes c.in-Ok-false.ensures.gone (c.in-Ok-false.ensures.free c.in-Ok-false.field-0-test)

pub returns-in-Ok-false-clause-others : goal.returns-in-Ok-false-clause-others
returns-in-Ok-false-clause-others g c = λ i other. get-set_other c.args.table.now.seats.items c.args.place i c.poll.new.seat other

pub returns-in-Err-clause-on_with : goal.returns-in-Err-clause-on_with
returns-in-Err-clause-on_with g c = λ agents begun v.
    let w = words g.S.Chronicle.opening g.S.Store.opened g.S.Chronicle.entries g.S.Store.keeps g.S.Chronicle.goes_on g.S.Store.tells g.P.Port.tells g.P.Port.said g.P.Port.faults in
    let seats = c.args.table.now.seats.items in
    serving-unpolled w g.S.Chronicle.lasts g.S.Chronicle.stays c.args.hall.now agents begun c.args.port.now c.args.watch seats c.args.table.now.progress v c.args.place c.index_mut.result.now
    (slice_get_read seats (length seats) c.args.place c.index_mut.result.now refl c.requires.within c.index_mut.ensures.value) c.requires.on
    c.poll.new.seat c.in-Err.ensures.goes c.in-Err.ensures.gone _ refl

pub returns-in-Err-clause-others : goal.returns-in-Err-clause-others
returns-in-Err-clause-others g c = λ i other. get-set_other c.args.table.now.seats.items c.args.place i c.poll.new.seat other

pub returns-in-Ok-true-clause-begun : goal.returns-in-Ok-true-clause-begun
returns-in-Ok-true-clause-begun g c = λ on x is.
    let seats = c.args.table.now.seats.items in
    let there = slice_get_read seats (length seats) c.args.place c.index_mut.result.now refl c.requires.within c.index_mut.ensures.value in
    let again = set-again seats c.args.place c.index_mut.result.now c.poll.new.seat c.index_mut-in-Ok-true.result.now c.show.new.seat there c.index_mut-in-Ok-true.ensures.value c.show.ensures.same in
    subst (λ (y : SeatSeen g.row.S-Opening.Denot). HasBegunToWait y)
    (sym (get-set seats c.args.place c.index_mut.result.now c.poll.new.seat x there (ap (λ xs. slice_get xs c.args.place) (sym again.1) ∙ is))) c.in-Ok-true.ensures.begun

pub returns-in-Ok-false-clause-begun : goal.returns-in-Ok-false-clause-begun
returns-in-Ok-false-clause-begun g c = λ on x is.
    let seats = c.args.table.now.seats.items in
    subst (λ (y : SeatSeen g.row.S-Opening.Denot). HasBegunToWait y)
    (sym (get-set seats c.args.place c.index_mut.result.now c.poll.new.seat x (slice_get_read seats (length seats) c.args.place c.index_mut.result.now refl c.requires.within c.index_mut.ensures.value) is)) c.in-Ok-false.ensures.begun
