use Rattle.std.proofs.Common.{[], refl, ap, arith}
use Rattle.opfs_machine.specs.Histories.{state_after}
use Rattle.opfs_books.proofs.Following.{pending-notes}
use Rattle.opfs_desk_steps.specs.Parts.Seen.{machine_in, book_in}
use Rattle.opfs_desk_steps.specs.declared.parts.parts.Ledger.{Ledger}
use Rattle.opfs_books.specs.Sharing.Standing.{Standby}
use Rattle.opfs_desk_steps.proofs.book_steps.Entries.{entries-are}
use Rattle.opfs_desk_steps.proofs.book_steps.Held.{pending-held}
use Rattle.opfs_desk_steps.proofs.book_steps.Taken.{prepared-noted, may-note, pending-told}
use Rattle.opfs_desk_steps.proofs.book_steps.Ways.{way-here}
use Rattle.opfs_desk_steps.proofs.book_steps.taking.take_in.Goals as goal

pub take_in-requires-clause-may : goal.take_in-requires-clause-may
take_in-requires-clause-may g c sum is =
    let may = c.requires.may in
    let l = c.args.ledger.now in
    let o = may.fixed.opening in
    let base = state_after o l.books.history in
    may-note l.books.state c.args.agent c.args.pending.now sum is may.agent may.rows _
    (entries-are g.D.Disk.tells o l.books.history base [] (machine_in l) may.are.books.told may.are.books.machine)
    (c.the_state_is_kept.ensures.short may.fixed may.recorded base [] (book_in l) l.journal may.are.books)
    (omega (arith, may.entries))

pub returns-clause-prepared : goal.returns-clause-prepared
returns-clause-prepared g c op was =
    let may = c.requires.may in
    let l = c.args.ledger.now in
    let notes = pending-notes c.lengths_follow_each_call.ensures c.local_calls_are_known_by_their_word.ensures g.D.Disk.tells c.args.agent (state_after may.fixed.opening l.books.history) c.args.pending.now may.pending in
    prepared-noted c.what_is_ready_stays_as_calls_are_noted.ensures l.books.state c.take_in.new.self.state c.args.agent c.args.pending.now op may.agent notes
    c.take_in.ensures.machine c.take_in.ensures.tree (ap (λ (x : Standby). x.prepared) c.take_in.ensures.standby) (ap (λ (x : Standby). x.target) c.take_in.ensures.standby) (ap (λ (x : Standby). x.growth) c.take_in.ensures.standby) was

pub returns-clause-held : goal.returns-clause-held
returns-clause-held g c f recorded p are pending =
    let l = c.args.ledger.now in
    pending-held g.D.Disk f c.what_is_laid_goes_on.ensures.beside c.blocks_go_on.ensures recorded l (record { journal = l.journal; books = c.take_in.new.self; freed = l.freed; alloc = l.alloc }) p c.args.agent c.args.pending.now are pending
    c.requires.may.agent (c.take_in.ensures.books f recorded are.books pending) refl c.take_in.ensures.entries c.take_in.ensures.machine c.take_in.ensures.tree (omega arith) c.take_in.ensures.commits

pub returns-clause-way : goal.returns-clause-way
returns-clause-way g c f recorded p are pending =
    let l = c.args.ledger.now in
    let new : Ledger g.row.D.Denot = record { journal = l.journal; books = c.take_in.new.self; freed = l.freed; alloc = l.alloc } in
    let told = pending-told g.D.Disk.tells f.opening c.args.agent l.books.history c.args.pending.now c.take_in.new.self.history pending c.take_in.ensures.entries in
    (way-here g.D.Disk f recorded (state_after f.opening l.books.history) [] l new _ c.the_books_show_their_images.ensures are.books refl, told)
