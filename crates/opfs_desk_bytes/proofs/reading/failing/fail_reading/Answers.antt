use Rattle.std.proofs.Common.{[], arith}
use Rattle.opfs_machine.specs.Histories.{state_after}
use Rattle.opfs_desk_steps.specs.Acting.{HasTaken}
use Rattle.opfs_desk_bytes.proofs.reading.Faulted.{asked-now, agent-mid, may-refuse, is-refused, has-failed}
use Rattle.opfs_desk_bytes.proofs.reading.failing.fail_reading.Goals as goal

pub take_in-requires : goal.take_in-requires
take_in-requires g c = record {
  may =
      let may = c.requires.may in
      let is = may.failed in
      c.asked_calls_are_ready.ensures.taken may.fixed may.recorded c.args.parts.now.ledger c.args.parts.now.pages c.args.pending.now c.args.call may.work may.past is.are
      (asked-now g.D.Disk c.asked_calls_are_ready.ensures may.fixed may.recorded may.start c.args.parts.now.ledger c.args.parts.now.ledger may.before c.args.parts.now.pages c.args.pending.now c.args.call may.work may.past is);
}

pub rows-rows-requires : goal.rows-rows-requires
rows-rows-requires g c =
    let may = c.requires.may in
    let fail = may.failed in
    let p = c.args.parts.now.pages in
    let l = c.args.parts.now.ledger in
    let mid = c.take_in.new.ledger in
    let is = c.take_in.ensures in
    let asks = c.asked_calls_are_ready.ensures in
    let asked = asked-now g.D.Disk asks may.fixed may.recorded may.start l mid may.before p c.args.pending.now c.args.call may.work may.past fail in
    agent-mid g.D.Disk asks may.fixed may.recorded may.start l mid may.before p c.args.pending.now c.args.call may.work may.past fail
    (record { entries = is.entries; journal = is.journal; place = is.place }) (is.held may.fixed may.recorded p fail.are asked.may.pending) (is.prepared c.args.call.op asked.prepared)

pub fail_call-requires : goal.fail_call-requires
fail_call-requires g c = record {
  may =
      let may = c.requires.may in
      let fail = may.failed in
      let p = c.args.parts.now.pages in
      let l = c.args.parts.now.ledger in
      let mid = c.take_in.new.ledger in
      let is = c.take_in.ensures in
      let asks = c.asked_calls_are_ready.ensures in
      let asked = asked-now g.D.Disk asks may.fixed may.recorded may.start l mid may.before p c.args.pending.now c.args.call may.work may.past fail in
      rw c.call_parts-last.ensures.entry
      (may-refuse g.D.Disk asks may.fixed may.recorded may.start l mid may.before p c.args.pending.now c.args.call may.work may.past fail
      (record { entries = is.entries; journal = is.journal; place = is.place }) (is.held may.fixed may.recorded p fail.are asked.may.pending) (is.prepared c.args.call.op asked.prepared));
}

pub returns-clause-acted : goal.returns-clause-acted
returns-clause-acted g c f recorded start before first work after past fail copy =
    let laws = g.met.D.Disk in
    let p = c.args.parts.now.pages in
    let l = c.args.parts.now.ledger in
    let mid = c.take_in.new.ledger in
    let new = c.fail_call.new.ledger in
    let is = c.take_in.ensures in
    let asks = c.asked_calls_are_ready.ensures in
    let asked = asked-now g.D.Disk asks f recorded start l mid before p c.args.pending.now c.args.call work past fail in
    let held = is.held f recorded p fail.are asked.may.pending in
    let taken : HasTaken l mid c.args.pending.now = record { entries = is.entries; journal = is.journal; place = is.place } in
    let prepared = is.prepared c.args.call.op asked.prepared in
    let refused = is-refused g.D.Disk asks f recorded start l mid before p c.args.pending.now c.args.call work past fail taken held prepared c.a_fault_is_counted.ensures in
    let entered = (rw c.call_parts-last.ensures.entry at c.fail_call.ensures.entries) in
    has-failed g.D.Disk asks f recorded start l mid before p c.args.pending.now c.args.call work past fail taken held prepared
    c.calls_are_acted.ensures c.a_fault_is_counted.ensures c.the_books_show_their_images.ensures c.reads_leave_the_books.ensures laws.falls
    (record { ledger = new; pages = p }) entered c.fail_call.ensures.journal c.fail_call.ensures.idle
    ((rw c.call_parts-last.ensures.entry at c.fail_call.ensures.held) f recorded (state_after f.opening mid.books.history) [] p held refused)
    first after _ copy (omega (arith, c.rows-rows.ensures.count, c.rows-rows.ensures.few))
