use Rattle.std.proofs.Common.{[], ◌++◌, length, refl, ap, arith}
use Rattle.opfs_books.specs.Laws.Laws.{failed}
use Rattle.opfs_desk_steps.specs.Parts.Seen.{machine_in, tree_in, book_in}
use Rattle.opfs_desk_steps.specs.declared.parts.parts.Ledger.{Ledger}
use Rattle.opfs_books.specs.Sharing.Standing.{Standby}
use Rattle.opfs_tree.specs.Rows.{extents_within}
use Rattle.opfs_desk_steps.proofs.book_steps.Books.{room-within, may-refuse, one-more-entry}
use Rattle.opfs_desk_steps.proofs.book_steps.Held.{evicted-held, failed-held}
use Rattle.opfs_desk_steps.proofs.book_steps.Ready.{may-spell, still-ready}
use Rattle.opfs_desk_steps.proofs.book_steps.evicting.evict_one.Goals as goal

pub evict-requires : goal.evict-requires
evict-requires g c =
    let may = c.requires.may in
    let l = c.args.ledger.now in
    let e = c.args.last.entry in
    let unit = c.args.clearing.unit in
    let short = c.the_state_is_kept.ensures.short may.fixed may.recorded may.base may.gone (book_in l) l.journal may.are.books in
    record {
      known = record { fixed = may.fixed; recorded = may.recorded; base = may.base; gone = may.gone; are = may.are.books };
      placed = may.ready.placed;
      settled = may.settled;
      told = may.told;
      root = may.turn.root;
      mode = may.turn.mode;
      again = may-spell unit (machine_in l) (tree_in l) may.are.books.stored.writable.0 c.know_rows_match_tree.ensures may.turn.root;
      may = record {
        root = may.turn.root;
        ready = c.what_is_ready_is_apart.ensures l.books.state.store l.books.state.target l.books.state.growth e.agent e.op unit may.ready.own may.turn.other may.ready.prepared;
        entries = one-more-entry g.D.Disk may.fixed may.recorded may.base may.gone l may.pages may.are short;
      };
      may_refuse = may-refuse g.D.Disk may.fixed may.recorded may.base may.gone l may.pages may.are short e.agent may.ready.agent;
      room =
          let room = room-within g.D.Disk may.fixed may.recorded may.base may.gone l may.pages may.are (unit, []) in
          let none = ap (λ xs. length (xs ++ extents_within (unit, []) (tree_in l))) c.clear.ensures.items in
          omega (arith, room, none, c.clear.ensures.capacity);
    }

pub returns-in-Ok-clause-ready : goal.returns-in-Ok-clause-ready
returns-in-Ok-clause-ready g c =
    let may = c.requires.may in
    let l = c.args.ledger.now in
    let done = c.in-Ok.ensures.evicted in
    let new : Ledger g.row.D.Denot = record { journal = c.evict.new.journal; books = c.evict.new.self; freed = c.evict.new.freed; alloc = l.alloc } in
    still-ready c.what_is_ready_stays_as_units_are_cleared.ensures l new c.args.last.entry c.args.clearing.unit may.ready may.turn.other done.machine
    (ap (λ (x : Standby). x.prepared) done.standby) (ap (λ (x : Standby). x.target) done.standby) (ap (λ (x : Standby). x.growth) done.standby) done.entries

pub returns-in-Ok-clause-held : goal.returns-in-Ok-clause-held
returns-in-Ok-clause-held g c f recorded base gone p are =
    let laws = g.met.D.Disk in
    let may = c.requires.may in
    let l = c.args.ledger.now in
    let done = c.in-Ok.ensures in
    let new : Ledger g.row.D.Denot = record { journal = c.evict.new.journal; books = c.evict.new.self; freed = c.evict.new.freed; alloc = l.alloc } in
    evicted-held g.D.Disk f c.what_is_laid_goes_on.ensures.beside c.blocks_go_on.ensures c.only_its_own_calls_settle_a_row.ensures laws.counted recorded base gone l new p c.args.clearing.unit are may.turn.after c.know_order.ensures
    (done.evicted.books f recorded base gone are.books) done.leaves done.evicted.entries done.evicted.machine done.evicted.tree (omega (arith, c.clear.ensures.capacity, done.capacity))

pub returns-in-Ok-clause-shown : goal.returns-in-Ok-clause-shown
returns-in-Ok-clause-shown g c f recorded base gone p are = c.in-Ok.ensures.shown f recorded base gone are.books

pub returns-clause-failed : goal.returns-clause-failed
returns-clause-failed g c f recorded base gone p are turn =
    let laws = g.met.D.Disk in
    let may = c.requires.may in
    let l = c.args.ledger.now in
    let done = c.in-Err.ensures in
    let new : Ledger g.row.D.Denot = record { journal = c.evict.new.journal; books = c.evict.new.self; freed = c.evict.new.freed; alloc = l.alloc } in
    record {
      grown = done.failed.entries;
      are =
          failed-held g.D.Disk f c.what_is_laid_goes_on.ensures.beside c.blocks_go_on.ensures c.only_its_own_calls_settle_a_row.ensures laws.counted recorded base gone l new p (failed c.args.last.entry) are refl may.ready.agent
          (done.failed_books f recorded base gone are.books (record { fault = turn.fault; rest = turn.rest; victims = turn.victims })) done.leaves done.failed.entries done.failed.machine done.failed.tree (omega (arith, c.clear.ensures.capacity, done.capacity)) done.failed.commits;
    }

pub returns-clause-shown : goal.returns-clause-shown
returns-clause-shown g c f recorded base gone p are = c.in-Err.ensures.shown f recorded base gone are.books
