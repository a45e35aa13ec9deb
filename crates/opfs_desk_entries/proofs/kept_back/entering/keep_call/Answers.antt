use Rattle.std.proofs.Common.{rules, ◌++◌, length, refl, ap, arith}
use Rattle.opfs_state_rows.specs.Changes.Changed.{freed_in}
use Rattle.opfs_desk_steps.specs.Parts.Seen.{machine_in, tree_in, book_in}
use Rattle.opfs_desk_steps.specs.declared.parts.parts.Ledger.{Ledger}
use Rattle.opfs_desk_steps.proofs.book_steps.Books.{room-freed, may-apply}
use Rattle.opfs_desk_steps.proofs.book_steps.Held.{tied-same}
use Rattle.opfs_desk_entries.proofs.kept_back.entering.keep_call.Goals as goal

pub keep-requires : goal.keep-requires
keep-requires g c =
    let may = c.requires.may.answer in
    let l = c.args.ledger.now in
    let e = c.args.entering in
    let short = c.the_state_is_kept.ensures.short may.fixed may.recorded may.base may.gone (book_in l) l.journal may.are.books in
    record {
      come = record {
        come = record { known = record { fixed = may.fixed; recorded = may.recorded; base = may.base; gone = may.gone; are = may.are.books }; next = may.answered.next; sizes = may.answered.sizes };
        stores = c.requires.may.stores;
      };
      answers = search rules;
      answered = c.requires.answered;
      settled = c.requires.settled;
      few = c.requires.few;
      quiet = c.requires.quiet;
      spelled = c.requires.spelled;
      fits = c.requires.fits;
      may = may-apply g.D.Disk may.fixed may.recorded may.base may.gone l may.pages may.are short e.last.entry e.sizes may.answered.change;
      room =
          let room = room-freed g.D.Disk may.fixed may.recorded may.base may.gone l may.pages may.are e.last.entry.agent e.last.entry.op e.extents in
          let none = ap (λ xs. length (xs ++ freed_in (machine_in l) (tree_in l) e.last.entry.agent e.last.entry.op e.extents)) c.clear.ensures.items in
          omega (arith, room, none, c.clear.ensures.capacity);
    }

pub returns-clause-books : goal.returns-clause-books
returns-clause-books g c f recorded base gone p are answered stores = c.keep.ensures.kept.books f recorded base gone are.books answered.next answered.sizes stores

pub returns-clause-tied : goal.returns-clause-tied
returns-clause-tied g c f p tied =
    let l = c.args.ledger.now in
    let new : Ledger g.row.D.Denot = record { journal = l.journal; books = c.keep.new.self; freed = c.keep.new.freed; alloc = l.alloc } in
    tied-same g.D.Disk f l new p tied refl (omega (arith, c.clear.ensures.capacity, c.keep.ensures.capacity))
