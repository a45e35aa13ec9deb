use Rattle.std.proofs.Common.{rules, ◌++◌, length, None, refl, sym, ap, arith}
use Rattle.opfs_state_rows.specs.Changes.Changed.{freed_in}
use Rattle.opfs_commit.specs.Seen.{KeptBack}
use Rattle.opfs_desk_steps.specs.Parts.Seen.{machine_in, tree_in, book_in}
use Rattle.opfs_desk_steps.specs.declared.parts.parts.Ledger.{Ledger}
use Rattle.opfs_desk_steps.proofs.book_steps.Books.{room-freed, may-apply}
use Rattle.opfs_desk_steps.proofs.book_steps.Held.{tied-same}
use Rattle.opfs_desk_steps.proofs.book_steps.Fresh.{told-fresh}
use Rattle.opfs_desk_steps.proofs.telling.tell_last.Goals as goal

pub tell-requires : goal.tell-requires
tell-requires g c =
    let may = c.requires.may in
    let l = c.args.ledger.now in
    let e = c.args.last.entry in
    let short = c.the_state_is_kept.ensures.short may.fixed may.recorded may.base may.gone (book_in l) l.journal may.are.books in
    record {
      come = record { known = record { fixed = may.fixed; recorded = may.recorded; base = may.base; gone = may.gone; are = may.are.books }; next = may.answered.next; sizes = may.answered.sizes };
      answers = search rules;
      answered = c.requires.answered;
      silent = c.requires.silent;
      may = may-apply g.D.Disk may.fixed may.recorded may.base may.gone l may.pages may.are short e c.args.sizes may.answered.change;
      room =
          let room = room-freed g.D.Disk may.fixed may.recorded may.base may.gone l may.pages may.are e.agent e.op None in
          let none = ap (λ xs. length (xs ++ freed_in (machine_in l) (tree_in l) e.agent e.op None)) c.clear.ensures.items in
          omega (arith, room, none, c.clear.ensures.capacity);
    }

pub returns-clause-told : goal.returns-clause-told
returns-clause-told g c f recorded base gone p are answered =
    let w = g.D.Disk in
    let l = c.args.ledger.now in
    let is = c.tell.ensures.told in
    let may = c.requires.may.answered.change in
    let new : Ledger g.row.D.Denot = record { journal = l.journal; books = c.tell.new.self; freed = c.tell.new.freed; alloc = l.alloc } in
    record {
      journal = refl;
      entries = is.entries;
      machine = is.machine;
      tree = is.tree;
      idle = is.idle;
      books = is.books f recorded base gone are.books answered.next answered.sizes;
      tied = tied-same w f l new p are.tied refl (omega (arith, c.clear.ensures.capacity, c.tell.ensures.capacity));
      fresh = told-fresh w f recorded base gone l new p c.args.last.entry c.args.sizes None c.calls_are_spelled.ensures are (sym c.know_rows_match_tree.ensures) may.kept may.may c.requires.silent is.machine is.tree (ap (λ (k : KeptBack). k.count) is.commits);
    }
