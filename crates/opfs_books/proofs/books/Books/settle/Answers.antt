use Rattle.std.proofs.Common.{inl, inr, refl}
use Rattle.opfs_books.specs.Seen.{book_of}
use Rattle.opfs_books.proofs.Alone.{settled-leaves, unsettled-leaves}
use Rattle.opfs_books.proofs.books.Books.settle.Goals as goal

pub returns-in-Ok-clause-books : goal.returns-in-Ok-clause-books
returns-in-Ok-clause-books g c f recorded base gone are =
    c.settling_keeps_the_books.ensures.settled f recorded base gone (book_of g.S.Shared c.args.self.now) _ c.args.journal.now c.settle.new.self are c.in-Ok.ensures.settled refl

pub returns-in-Ok-clause-shown : goal.returns-in-Ok-clause-shown
returns-in-Ok-clause-shown g c f recorded base gone are =
    c.settling_keeps_the_books.ensures.shown f recorded base gone (book_of g.S.Shared c.args.self.now) c.args.journal.now c.settle.new.self are (inl c.in-Ok.ensures.settled)

pub returns-in-Err-clause-books : goal.returns-in-Err-clause-books
returns-in-Err-clause-books g c f recorded base gone are =
    c.settling_keeps_the_books.ensures.unsettled f recorded base gone (book_of g.S.Shared c.args.self.now) c.args.journal.now c.settle.new.self are c.in-Err.ensures.unsettled

pub returns-in-Err-clause-shown : goal.returns-in-Err-clause-shown
returns-in-Err-clause-shown g c f recorded base gone are =
    c.settling_keeps_the_books.ensures.shown f recorded base gone (book_of g.S.Shared c.args.self.now) c.args.journal.now c.settle.new.self are (inr c.in-Err.ensures.unsettled)

pub returns-in-Ok-clause-leaves : goal.returns-in-Ok-clause-leaves
returns-in-Ok-clause-leaves g c = settled-leaves g.D.Disk c.args.journal.now c.settle.new.self c.in-Ok.ensures.settled

pub returns-in-Err-clause-leaves : goal.returns-in-Err-clause-leaves
returns-in-Err-clause-leaves g c = unsettled-leaves g.D.Disk c.args.journal.now c.settle.new.self c.in-Err.ensures.unsettled
