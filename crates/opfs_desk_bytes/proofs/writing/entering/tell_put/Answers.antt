use Rattle.std.proofs.Common.{rules, ◌++◌, length, None, refl, ap, arith}
use Rattle.opfs_state_rows.specs.Changes.Changed.{freed_in}
use Rattle.opfs_desk_steps.specs.Parts.Seen.{machine_in, tree_in, book_in}
use Rattle.opfs_desk_bytes.proofs.writing.Entered.{may-apply}
use Rattle.opfs_desk_bytes.proofs.writing.Words.{frees-none, silent}
use Rattle.opfs_desk_bytes.proofs.writing.entering.tell_put.Goals as goal

pub tell-requires : goal.tell-requires
tell-requires g c =
    let may = c.requires.may in
    let l = c.args.ledger.now in
    let e = c.args.last.entry in
    record {
      come = record { known = record { fixed = may.fixed; recorded = may.recorded; base = may.base; gone = may.gone; are = may.books }; next = may.answered.next; sizes = may.answered.sizes };
      answers = search rules;
      answered = c.requires.answered;
      silent = silent _ _ _ _ _ c.requires.word;
      may = may-apply g.D.Disk may.fixed may.recorded may.base may.gone l e c.args.sizes may.books (c.the_state_is_kept.ensures.short may.fixed may.recorded may.base may.gone (book_in l) l.journal may.books) may.answered.change;
      room =
          let empty = ap (λ xs. length (xs ++ freed_in (machine_in l) (tree_in l) e.agent e.op None)) c.clear.ensures.items in
          let none = ap length (frees-none (machine_in l) (tree_in l) e.agent e.op c.requires.word) in
          omega (arith, empty, none);
    }

pub returns : goal.returns
returns g c = record {
  told = λ f recorded base gone books answered.
      let is = c.tell.ensures.told in
      record {
        journal = refl;
        entries = is.entries;
        machine = is.machine;
        tree = is.tree;
        idle = is.idle;
        commits = is.commits;
        freed = omega (arith, c.clear.ensures.capacity, c.tell.ensures.capacity);
        books = is.books f recorded base gone books answered.next answered.sizes;
        order = c.know_order.ensures;
        order_after = c.know_order-2.ensures;
      };
}
