use Rattle.std.proofs.Common.{refl, ◌∙◌}
use Rattle.std.specs.Option.{option_copied}
use Rattle.opfs_data.proofs.SwapLemmas.{on_err}
use Rattle.opfs_machine.specs.Runs.{Call}
use Rattle.opfs_books.specs.Openings.Openings.{fixed_by}
use Rattle.opfs_desk.proofs.Called.{is-called, is-told, rests-acted, rests-alone, stays-alone}
use Rattle.opfs_desk.proofs.Iterated.{reached-on, still-reached, up-to}
use Rattle.opfs_desk.proofs.Passed.{settled-acted, stays-acted}
use Rattle.opfs_desk.proofs.desk.Desk.act.Goals as goal

pub act_call-requires-clause-may : goal.act_call-requires-clause-may
act_call-requires-clause-may g c =
    let f = fixed_by g.D.Disk c.self.inside.from.value c.self.inside.agents.value.items in
    let call : Call = record { agent = c.args.agent; number = c.args.number; op = c.args.op } in
    let old = c.self.inside.parts in
    let may = rw (← c.self.view_is) at c.requires.may in
    record { fixed = f; called = is-called g.D.Disk f old c.args.pending.now call c.args.work.now c.args.past.now c.self.invariant.rest may }

pub act_call-requires-clause-given : goal.act_call-requires-clause-given
act_call-requires-clause-given g c =
    let f = fixed_by g.D.Disk c.self.inside.from.value c.self.inside.agents.value.items in
    let call : Call = record { agent = c.args.agent; number = c.args.number; op = c.args.op } in
    let old = c.self.inside.parts in
    let may = rw (← c.self.view_is) at c.requires.may in
    record {
      may = record { fixed = f; called = is-called g.D.Disk f old c.args.pending.now call c.args.work.now c.args.past.now c.self.invariant.rest may };
      reached =
          up-to g.D.Disk.tells c.iterators_go_on.ensures f.opening old.ledger.books.history c.args.pending.now call c.args.work.now c.args.past.now may c.self.inside.iterators c.take-last.new.self c.self.invariant.reached c.asked_row-row.result c.asked_row-row.ensures
          c.take-last.ensures.others (option_copied c.as_ref.result) (c.as_ref.ensures.value ∙ c.take-last.ensures.name);
    }

pub invariant_of-self : goal.invariant_of-self
invariant_of-self g c =
    let f = fixed_by g.D.Disk c.self.inside.from.value c.self.inside.agents.value.items in
    let call : Call = record { agent = c.args.agent; number = c.args.number; op = c.args.op } in
    let old = c.self.inside.parts in
    let may = rw (← c.self.view_is) at c.requires.may in
    let alone = c.in_err-acted.ensures.alone f (is-called g.D.Disk f old c.args.pending.now call c.args.work.now c.args.past.now c.self.invariant.rest may) in
    record {
      rest = rests-alone g.D.Disk (λ t. g.met.D.Disk.falls t) c.the_books_show_their_images.ensures f old c.act_call.new.parts c.args.pending.now call c.args.work.now c.args.past.now c.self.invariant.rest may alone;
      reached =
          still-reached g.D.Disk.tells c.iterators_go_on.ensures f.opening old.ledger.books.history c.args.pending.now call c.args.work.now c.args.past.now may c.self.inside.iterators c.take-last.new.self c.self.invariant.reached c.asked_row-row.result
          c.asked_row-row.ensures c.take-last.ensures.others c.act_call.new.parts.ledger.books.history alone.entries;
    }

pub invariant_of-self-2 : goal.invariant_of-self-2
invariant_of-self-2 g c =
    let f = fixed_by g.D.Disk c.self.inside.from.value c.self.inside.agents.value.items in
    let call : Call = record { agent = c.args.agent; number = c.args.number; op = c.args.op } in
    let old = c.self.inside.parts in
    let may = rw (← c.self.view_is) at c.requires.may in
    let has = c.in_ok-acted.ensures.acted f (is-called g.D.Disk f old c.args.pending.now call c.args.work.now c.args.past.now c.self.invariant.rest may) in
    record {
      rest =
          rests-acted g.D.Disk (λ t. g.met.D.Disk.falls t) c.the_books_show_their_images.ensures f old c.act_call.new.parts c.args.pending.now call c.args.work.now c.args.past.now c.self.invariant.rest may c.handles_go_on.ensures c.a_last_content_stands.ensures g.met.D.Disk.reads c.act_call.new.work c.in_ok-acted.acted has;
      reached =
          reached-on g.D.Disk.tells c.iterators_go_on.ensures f.opening old.ledger.books.history c.args.pending.now call c.args.work.now c.args.past.now may c.self.inside.iterators c.take-last.new.self c.self.invariant.reached c.asked_row-row.result
          c.asked_row-row.ensures c.take-last.ensures.others c.self.invariant.rest.held.are.books.whole (is-told g.D.Disk f old c.self.invariant.rest) c.act_call.new.parts.ledger.books.history c.in_ok-acted.acted.reply c.in_ok-acted.acted.gift has.acted has.gift
          (record { agent = c.args.agent; row = c.asked_row-row.result; makes = c.may_make-makes.result }) refl refl c.may_make-makes.ensures c.take-last.result c.take-last.ensures.name c.follow.new.self c.follow.ensures;
    }

pub returns-clause-later : goal.returns-clause-later
returns-clause-later g c =
    let f = fixed_by g.D.Disk c.self.inside.from.value c.self.inside.agents.value.items in
    let call : Call = record { agent = c.args.agent; number = c.args.number; op = c.args.op } in
    let old = c.self.inside.parts in
    let may = rw (← c.self.view_is) at c.requires.may in
    rw (← c.self.view_is) ((c.in_ok-acted.ensures.acted f (is-called g.D.Disk f old c.args.pending.now call c.args.work.now c.args.past.now c.self.invariant.rest may)).way.later)

pub returns-in_err-acted-clause-later : goal.returns-in_err-acted-clause-later
returns-in_err-acted-clause-later g c =
    let f = fixed_by g.D.Disk c.self.inside.from.value c.self.inside.agents.value.items in
    let call : Call = record { agent = c.args.agent; number = c.args.number; op = c.args.op } in
    let old = c.self.inside.parts in
    let may = rw (← c.self.view_is) at c.requires.may in
    rw (← c.self.view_is) ((c.in_err-acted.ensures.alone f (is-called g.D.Disk f old c.args.pending.now call c.args.work.now c.args.past.now c.self.invariant.rest may)).reads.later)

pub returns-clause-served : goal.returns-clause-served
returns-clause-served g c =
    let f = fixed_by g.D.Disk c.self.inside.from.value c.self.inside.agents.value.items in
    let call : Call = record { agent = c.args.agent; number = c.args.number; op = c.args.op } in
    let old = c.self.inside.parts in
    let may = rw (← c.self.view_is) at c.requires.may in
    let has = c.in_ok-acted.ensures.acted f (is-called g.D.Disk f old c.args.pending.now call c.args.work.now c.args.past.now c.self.invariant.rest may) in
    rw (← c.self.view_is)
    (record {
      served = record { acted = has.acted; taken = c.in_ok-acted.ensures.taken; left = has.left; gift = has.gift; rows = has.rows; fault = has.fault };
      passes = has.way;
      settled = settled-acted g.D.Disk f old c.act_call.new.parts c.args.pending.now call c.args.work.now c.act_call.new.work c.in_ok-acted.acted c.self.invariant.rest may.pending has;
    })

pub returns-in_err-acted-clause-unserved : goal.returns-in_err-acted-clause-unserved
returns-in_err-acted-clause-unserved g c =
    let f = fixed_by g.D.Disk c.self.inside.from.value c.self.inside.agents.value.items in
    let call : Call = record { agent = c.args.agent; number = c.args.number; op = c.args.op } in
    let old = c.self.inside.parts in
    let may = rw (← c.self.view_is) at c.requires.may in
    let alone = c.in_err-acted.ensures.alone f (is-called g.D.Disk f old c.args.pending.now call c.args.work.now c.args.past.now c.self.invariant.rest may) in
    let same = c.in_err-acted.ensures.unacted in
    on_err c.from_residual.result _ (rw (← c.self.view_is) (record { unserved = record { entries = alone.entries; pending = same.0; work = same.1 }; reads = alone.reads }))

pub returns-clause-stays : goal.returns-clause-stays
returns-clause-stays g c =
    let f = fixed_by g.D.Disk c.self.inside.from.value c.self.inside.agents.value.items in
    let call : Call = record { agent = c.args.agent; number = c.args.number; op = c.args.op } in
    let old = c.self.inside.parts in
    let may = rw (← c.self.view_is) at c.requires.may in
    let has = c.in_ok-acted.ensures.acted f (is-called g.D.Disk f old c.args.pending.now call c.args.work.now c.args.past.now c.self.invariant.rest may) in
    rw (← c.self.view_is) (stays-acted g.D.Disk f old c.act_call.new.parts c.args.pending.now call c.args.work.now c.act_call.new.work c.in_ok-acted.acted c.self.invariant.rest may.pending has)

pub returns-in_err-acted-clause-stays : goal.returns-in_err-acted-clause-stays
returns-in_err-acted-clause-stays g c =
    let f = fixed_by g.D.Disk c.self.inside.from.value c.self.inside.agents.value.items in
    let call : Call = record { agent = c.args.agent; number = c.args.number; op = c.args.op } in
    let old = c.self.inside.parts in
    let may = rw (← c.self.view_is) at c.requires.may in
    let alone = c.in_err-acted.ensures.alone f (is-called g.D.Disk f old c.args.pending.now call c.args.work.now c.args.past.now c.self.invariant.rest may) in
    rw (← c.self.view_is) (stays-alone g.D.Disk (λ t. g.met.D.Disk.falls t) c.the_books_show_their_images.ensures f old c.act_call.new.parts c.args.pending.now call c.args.work.now c.args.past.now c.self.invariant.rest may alone)
