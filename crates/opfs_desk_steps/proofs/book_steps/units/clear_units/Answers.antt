use Rattle.std.proofs.Common.{List, refl, sym, subst, ◌∙◌}
use Rattle.std.specs.Vec.Iter.{into_iter_items}
use Rattle.opfs_desk_steps.specs.Parts.Seen.{units_in}
use Rattle.opfs_desk_steps.specs.declared.parts.call.Eviction.{Eviction}
use Rattle.opfs_hist.specs.declared.entry.Entry.{Entry}
use Rattle.opfs_machine.specs.Histories.{state_after}
use Rattle.opfs_desk_steps.specs.BookSteps.Clearing.{IsOnWay, IsTurn, IsStillReady, MayEvict, IsEnteredFailed}
use Rattle.opfs_desk_steps.proofs.book_steps.Loop.{way-begins, next-may, way-goes-on, way-fails, ready-for, room-for, all-cleared}
use Rattle.opfs_desk_steps.proofs.book_steps.Turns.{turn}
use Rattle.opfs_desk_steps.proofs.book_steps.Leaves.{leaves-here, leaves-both}
use Rattle.opfs_desk_steps.proofs.book_steps.units.clear_units.Goals as goal

pub loop-next-init : goal.loop-next-init
loop-next-init g c =
    let may = c.requires.may.way in
    let l = c.args.ledger.now in
    let ready = ready-for g.D.Disk may.fixed may.recorded l may.pages may.are c.args.call.entry (units_in c.args.clearing.items) may.judged may.prepared may.placed c.state_laws.ensures.counts c.reads_leave_the_state.ensures c.calls_are_about_own_units.ensures in
    record {
      next = tt;
      finite = tt;
      entry = refl;
      leaves = leaves-here g.D.Disk l.journal;
      way =
          subst (λ (rest : List Eviction). IsOnWay g.D.Disk l l c.args.call.entry c.args.clearing.items rest) (sym c.into_iter-next-iterator.ensures.into_iter_gives.0)
          (way-begins g.D.Disk l c.args.call.entry c.args.clearing.items c.the_books_show_their_images.ensures ready c.requires.may.settled may.evictions);
    }

pub evict_one-requires : goal.evict_one-requires
evict_one-requires g c = record {
  may =
      let may = c.requires.may.way in
      let l = c.args.ledger.now in
      let all = c.args.clearing.items in
      let e = c.args.call.entry in
      let inv = c.loop-next.invariant in
      let room = room-for g.D.Disk may.fixed may.recorded l may.pages may.are e (units_in all) may.judged c.state_laws.ensures.counts c.reads_leave_the_state.ensures c.evictions_make_room.ensures c.lengths_decide_each_ruling.ensures in
      let on = subst (λ (rest : List Eviction). IsOnWay g.D.Disk l c.loop-next.ledger e all rest) c.in-Some.ensures.steps.0 inv.way in
      subst (λ (x : Entry). MayEvict g.D.Disk c.loop-next.ledger x c.in-Some.next) (sym inv.entry)
      (next-may g.D.Disk l e all c.loop-next.ledger c.in-Some.next (into_iter_items c.next.new.self) on c.lengths_follow_each_call.ensures may.fixed may.recorded may.pages may.are may.judged room);
}

pub loop-next-preserved : goal.loop-next-preserved
loop-next-preserved g c =
    let laws = g.met.D.Disk in
    let l = c.args.ledger.now in
    let all = c.args.clearing.items in
    let e = c.args.call.entry in
    let inv = c.loop-next.invariant in
    let on = subst (λ (rest : List Eviction). IsOnWay g.D.Disk l c.loop-next.ledger e all rest) c.in-Some.ensures.steps.0 inv.way in
    let done = c.in-Ok.ensures in
    let ready = subst (λ (x : Entry). IsStillReady c.evict_one.new.ledger x) inv.entry done.ready in
    record { next = tt; finite = tt; entry = done.last ∙ inv.entry; leaves = leaves-both g.D.Disk laws.falls l.journal c.loop-next.ledger.journal c.evict_one.new.ledger.journal inv.leaves done.leaves; way = way-goes-on g.D.Disk l e all c.loop-next.ledger c.in-Some.next (into_iter_items c.next.new.self) on laws.falls c.evict_one.new.ledger done.entries done.machine done.tree ready done.sure done.held done.leaves done.shown }

pub returns-in-Err-clause-failed : goal.returns-in-Err-clause-failed
returns-in-Err-clause-failed g c f recorded p are judged =
    let laws = g.met.D.Disk in
    let l = c.args.ledger.now in
    let all = c.args.clearing.items in
    let e = c.args.call.entry in
    let inv = c.loop-next.invariant in
    let on = subst (λ (rest : List Eviction). IsOnWay g.D.Disk l c.loop-next.ledger e all rest) c.in-Some.ensures.steps.0 inv.way in
    let done = c.in-Err.ensures in
    let new = c.evict_one.new.ledger in
    let room = room-for g.D.Disk f recorded l p are e (units_in all) judged c.state_laws.ensures.counts c.reads_leave_the_state.ensures c.evictions_make_room.ensures c.lengths_decide_each_ruling.ensures in
    let was = on.cleared f recorded p are in
    let its = turn c.lengths_follow_each_call.ensures (state_after f.opening l.books.history) e (units_in all) judged room c.loop-next.ledger on.done c.in-Some.next.unit (units_in (into_iter_items c.next.new.self)) on.split was.are.books.machine in
    way-fails g.D.Disk l e all c.loop-next.ledger c.in-Some.next (into_iter_items c.next.new.self) on laws.falls c.calls_may_fail.ensures new done.leaves done.cause done.idle f recorded p are its
    (λ r base gone held turned. subst (λ (x : Entry). IsEnteredFailed g.D.Disk f r x c.loop-next.ledger new p) inv.entry (done.failed f r base gone p held (subst (λ (x : Entry). IsTurn base gone c.loop-next.ledger x c.in-Some.next.unit) (sym inv.entry) turned)))
    (λ r base gone held. done.shown f r base gone p held)

pub returns-clause-cleared : goal.returns-clause-cleared
returns-clause-cleared g c f recorded p are =
    all-cleared g.D.Disk c.args.ledger.now c.loop-next.ledger c.args.call.entry c.args.clearing.items (into_iter_items c.loop-next.next-iterator) c.loop-next.invariant.way (sym c.loop-next.next-iterator.rest.ok.0 ∙ c.in-None.ensures.steps.0) f recorded p are
