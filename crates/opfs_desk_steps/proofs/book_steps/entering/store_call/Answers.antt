use Rattle.std.proofs.Common.{rules, ◌++◌, ◌∙◌, length, refl, ap, arith}
use Rattle.opfs_books.specs.Laws.Laws.{failed}
use Rattle.opfs_state_rows.specs.Changes.Changed.{freed_in}
use Rattle.opfs_desk_steps.specs.Parts.Seen.{machine_in, tree_in, book_in}
use Rattle.opfs_desk_steps.specs.declared.parts.parts.Ledger.{Ledger}
use Rattle.opfs_desk_steps.proofs.book_steps.Books.{room-freed, may-apply, may-refuse}
use Rattle.opfs_desk_steps.proofs.book_steps.Held.{tied-moved, failed-held}
use Rattle.opfs_desk_steps.proofs.book_steps.entering.store_call.Goals as goal

pub store-requires : goal.store-requires
store-requires g c =
    let may = c.requires.may.answer in
    let l = c.args.ledger.now in
    let e = c.args.entering in
    let short = c.the_state_is_kept.ensures.short may.fixed may.recorded may.base may.gone (book_in l) l.journal may.are.books in
    record {
      come = record {
        come = record { known = record { fixed = may.fixed; recorded = may.recorded; base = may.base; gone = may.gone; are = may.are.books }; next = may.answered.next; sizes = may.answered.sizes };
        stores = c.requires.may.stores;
      };
      answers = search rules;
      answered = c.requires.answered;
      settled = c.requires.settled;
      spelled = c.requires.spelled;
      fits = c.requires.fits;
      may = may-apply g.D.Disk may.fixed may.recorded may.base may.gone l may.pages may.are short e.last.entry e.sizes may.answered.change;
      may_refuse = may-refuse g.D.Disk may.fixed may.recorded may.base may.gone l may.pages may.are short e.last.entry.agent may.answered.change.agent;
      room =
          let room = room-freed g.D.Disk may.fixed may.recorded may.base may.gone l may.pages may.are e.last.entry.agent e.last.entry.op e.extents in
          let none = ap (λ xs. length (xs ++ freed_in (machine_in l) (tree_in l) e.last.entry.agent e.last.entry.op e.extents)) c.clear.ensures.items in
          omega (arith, room, none, c.clear.ensures.capacity);
    }

pub returns-in-Ok-clause-committed : goal.returns-in-Ok-clause-committed
returns-in-Ok-clause-committed g c =
    let done = c.in-Ok.ensures.stored in
    record {
      entries = done.entries;
      machine = done.machine;
      tree = done.tree;
      idle = done.idle;
      none = done.none;
      sure = done.sure;
      freed = done.freed ∙ ap (λ xs. xs ++ freed_in (machine_in c.args.ledger.now) (tree_in c.args.ledger.now) c.args.entering.last.entry.agent c.args.entering.last.entry.op c.args.entering.extents) c.clear.ensures.items;
      books = λ f recorded base gone p over. done.books f recorded base gone over.are.books over.answered.next over.answered.sizes over.stores over.bytes;
    }

pub returns-in-Ok-clause-shown : goal.returns-in-Ok-clause-shown
returns-in-Ok-clause-shown g c f recorded base gone p over = c.in-Ok.ensures.shown f recorded base gone over.are.books over.answered.next over.answered.sizes over.stores over.bytes

pub returns-in-Ok-clause-tied : goal.returns-in-Ok-clause-tied
returns-in-Ok-clause-tied g c f p tied =
    let laws = g.met.D.Disk in
    let l = c.args.ledger.now in
    let new : Ledger g.row.D.Denot = record { journal = c.store.new.journal; books = c.store.new.self; freed = c.store.new.freed; alloc = l.alloc } in
    tied-moved g.D.Disk f laws.counted l new p tied c.in-Ok.ensures.leaves (omega (arith, c.clear.ensures.capacity, c.in-Ok.ensures.capacity))

pub returns-in-Err-clause-failed : goal.returns-in-Err-clause-failed
returns-in-Err-clause-failed g c =
    let laws = g.met.D.Disk in
    let l = c.args.ledger.now in
    let new : Ledger g.row.D.Denot = record { journal = c.store.new.journal; books = c.store.new.self; freed = c.store.new.freed; alloc = l.alloc } in
    let done = c.in-Err.ensures in
    let fails = done.failed in
    record {
      entries = fails.entries;
      idle = fails.idle;
      held = λ f recorded base gone p over.
          failed-held g.D.Disk f c.what_is_laid_goes_on.ensures.beside c.blocks_go_on.ensures c.only_its_own_calls_settle_a_row.ensures laws.counted recorded base gone l new p (failed c.args.entering.last.entry) over.are refl over.answered.change.agent
          (done.failed_books f recorded base gone over.are.books over.answered.next over.answered.sizes over.stores over.bytes) done.leaves fails.entries fails.machine fails.tree (omega (arith, c.clear.ensures.capacity, done.capacity)) fails.commits;
      cause = fails.cause;
    }

pub returns-in-Err-clause-shown : goal.returns-in-Err-clause-shown
returns-in-Err-clause-shown g c f recorded base gone p over = c.in-Err.ensures.shown f recorded base gone over.are.books over.answered.next over.answered.sizes over.stores over.bytes

pub returns-in-Err-clause-tied : goal.returns-in-Err-clause-tied
returns-in-Err-clause-tied g c f p tied =
    let laws = g.met.D.Disk in
    let l = c.args.ledger.now in
    let new : Ledger g.row.D.Denot = record { journal = c.store.new.journal; books = c.store.new.self; freed = c.store.new.freed; alloc = l.alloc } in
    tied-moved g.D.Disk f laws.counted l new p tied c.in-Err.ensures.leaves (omega (arith, c.clear.ensures.capacity, c.in-Err.ensures.capacity))
