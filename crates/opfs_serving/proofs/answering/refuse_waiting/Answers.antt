use Rattle.std.proofs.Common.{sym, subst, slice_set}
use Rattle.opfs_hall.specs.Seen.{WatchSeen}
use Rattle.opfs_hist.specs.declared.entry.Entry.{Entry}
use Rattle.opfs_serving.proofs.Replies.{HasSeen, awaits-there, of-seat, quiet-looked, refused-looked, serving-looked}
use Rattle.opfs_serving.specs.Requests.{IsRefusedAt}
use Rattle.opfs_serving.specs.Served.{IsQuiet, IsServing, words}
use Rattle.opfs_serving.specs.declared.refusal.LineRefusal.TheVariants as refusal
use Rattle.opfs_serving.proofs.answering.refuse_waiting.Goals as goal

pub look-requires-clause-own : goal.look-requires-clause-own
look-requires-clause-own g c = let s = c.requires.serves in s.1.is.stands.hall

pub look-requires-clause-there : goal.look-requires-clause-there
look-requires-clause-there g c =
    let w = words g.S.Chronicle.opening g.S.Store.opened g.S.Chronicle.entries g.S.Store.keeps g.S.Chronicle.goes_on g.S.Store.tells g.P.Port.tells g.P.Port.said g.P.Port.faults in
    let s = c.requires.serves in
    let r = c.requires.awaits in
    awaits-there w g.S.Chronicle.lasts g.S.Chronicle.stays c.args.hall.now s.1.agents s.1.begun s.0 c.args.watch c.args.table.now.seats.items c.args.table.now.progress s.1.is c.requires.on r.0
    c.args.place r.1 r.1 r.2 r.3 r.4 c.index_mut.result.now (of-seat r.0 c.args.table.now.seats.items c.args.place r.1 c.index_mut.result.now r.2 r.3 c.index_mut.ensures.value)

pub refuse-requires-clause-serves : goal.refuse-requires-clause-serves
refuse-requires-clause-serves g c =
    let w = words g.S.Chronicle.opening g.S.Store.opened g.S.Chronicle.entries g.S.Store.keeps g.S.Chronicle.goes_on g.S.Store.tells g.P.Port.tells g.P.Port.said g.P.Port.faults in
    let s = c.requires.serves in
    let r = c.requires.awaits in
    let same = of-seat r.0 c.args.table.now.seats.items c.args.place r.1 c.index_mut.result.now r.2 r.3 c.index_mut.ensures.value in (
      s.0,
      record {
        agents = s.1.agents;
        begun = s.1.begun;
        is = subst (λ t. IsServing w c.args.hall.now s.1.agents s.1.begun s.0 t (slice_set c.args.table.now.seats.items c.args.place c.look.new.seat) c.args.table.now.progress) (sym c.look.ensures.same)
            (serving-looked w g.S.Chronicle.lasts g.S.Chronicle.stays c.args.hall.now s.1.agents s.1.begun s.0 c.args.watch c.args.table.now.seats.items c.args.table.now.progress s.1.is c.requires.on r.0
            c.args.place r.1 c.look.new.seat r.2 r.3 r.4 (subst (λ y. HasSeen w c.args.watch y c.look.new.seat) (sym same) c.look.ensures.looked));
      },
    )

pub refuse-requires-clause-quiet : goal.refuse-requires-clause-quiet
refuse-requires-clause-quiet g c =
    let w = words g.S.Chronicle.opening g.S.Store.opened g.S.Chronicle.entries g.S.Store.keeps g.S.Chronicle.goes_on g.S.Store.tells g.P.Port.tells g.P.Port.said g.P.Port.faults in
    let s = c.requires.serves in
    let r = c.requires.awaits in
    let same = of-seat r.0 c.args.table.now.seats.items c.args.place r.1 c.index_mut.result.now r.2 r.3 c.index_mut.ensures.value in
    subst (λ t. IsQuiet w t (slice_set c.args.table.now.seats.items c.args.place c.look.new.seat)) (sym c.look.ensures.same)
    (quiet-looked w g.S.Chronicle.lasts g.S.Chronicle.stays c.args.hall.now s.1.agents s.1.begun s.0 c.args.watch c.args.table.now.seats.items c.args.table.now.progress s.1.is c.requires.on r.0
    c.args.place r.1 c.look.new.seat r.2 r.3 r.4 (subst (λ y. HasSeen w c.args.watch y c.look.new.seat) (sym same) c.look.ensures.looked) c.requires.quiet)

pub returns : goal.returns
returns g c = λ line before x rest of_line awaits came agents begun v.
    let w = words g.S.Chronicle.opening g.S.Store.opened g.S.Chronicle.entries g.S.Store.keeps g.S.Chronicle.goes_on g.S.Store.tells g.P.Port.tells g.P.Port.said g.P.Port.faults in
    let seats = c.args.table.now.seats.items in
    let same = of-seat line seats c.args.place x c.index_mut.result.now rest of_line c.index_mut.ensures.value in
    let seen = subst (λ y. HasSeen w c.args.watch y c.look.new.seat) (sym same) c.look.ensures.looked in
    c.refuse.ensures line before
    (subst (λ (t : WatchSeen g.row.S-Opening.Denot Entry g.row.S.Denot). IsRefusedAt (g.S.Chronicle.entries t.last) line (slice_set seats c.args.place c.look.new.seat) refusal.Waiting) (sym c.look.ensures.same)
    (refused-looked w g.S.Chronicle.lasts g.S.Chronicle.stays c.args.hall.now agents begun before c.args.watch seats c.args.table.now.progress v c.requires.on line c.args.place x c.look.new.seat rest of_line awaits seen))
    came agents begun
    (subst (λ t. IsServing w c.args.hall.now agents begun before t (slice_set seats c.args.place c.look.new.seat) c.args.table.now.progress) (sym c.look.ensures.same)
    (serving-looked w g.S.Chronicle.lasts g.S.Chronicle.stays c.args.hall.now agents begun before c.args.watch seats c.args.table.now.progress v c.requires.on line c.args.place x c.look.new.seat rest of_line awaits seen))
