use Rattle.std.proofs.Common.{refl, arith}
use Rattle.opfs_desk_steps.specs.Parts.Seen.{book_in}
use Rattle.opfs_desk_steps.specs.declared.parts.parts.Ledger.{Ledger}
use Rattle.opfs_desk_steps.proofs.book_steps.Books.{may-refuse}
use Rattle.opfs_desk_steps.proofs.book_steps.Held.{refused-held}
use Rattle.opfs_desk_steps.proofs.book_steps.refusing.refuse_call.Goals as goal

pub refuse-requires-clause-may : goal.refuse-requires-clause-may
refuse-requires-clause-may g c =
    let may = c.requires.may in
    let l = c.args.ledger.now in
    may-refuse g.D.Disk may.fixed may.recorded may.base may.gone l may.pages may.are (c.the_state_is_kept.ensures.short may.fixed may.recorded may.base may.gone (book_in l) l.journal may.are.books) c.args.last.entry.agent may.agent

pub returns-clause-held : goal.returns-clause-held
returns-clause-held g c f recorded base gone p are is =
    let may = c.requires.may in
    let l = c.args.ledger.now in
    let new : Ledger g.row.D.Denot = record { journal = l.journal; books = c.refuse.new.self; freed = l.freed; alloc = l.alloc } in
    let done = c.refuse.ensures in
    refused-held g.D.Disk f c.what_is_laid_goes_on.ensures.beside c.blocks_go_on.ensures c.only_its_own_calls_settle_a_row.ensures recorded base gone l new p c.args.last.entry are
    may.refuses may.agent (done.books f recorded base gone are.books is.next is.risen) refl done.entries done.machine done.tree (omega arith) done.commits
