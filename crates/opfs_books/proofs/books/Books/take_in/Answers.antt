use Rattle.std.proofs.Common.{[], ap, ◌∙◌, arith}
use Rattle.opfs_machine.specs.Histories.{state_after}
use Rattle.opfs_books.proofs.Following.{pending-notes}
use Rattle.opfs_books.specs.Seen.{book_of}
use Rattle.opfs_books.proofs.Evictions.{note-done, notes-modes}
use Rattle.opfs_books.proofs.books.Books.take_in.Goals as goal

pub take_in-requires : goal.take_in-requires
take_in-requires g c =
    let known = c.requires.pending in
    let short = c.the_state_is_kept.ensures.short known.fixed known.recorded (state_after known.fixed.opening c.args.self.now.history) [] (book_of g.S.Shared c.args.self.now) c.args.journal.now known.are in
    omega (arith, short, c.requires.few)

pub returns-clause-machine : goal.returns-clause-machine
returns-clause-machine g c =
    let may = c.requires.pending in
    c.note.ensures.machine c.args.pending.now (record { entries = c.sum-sum.ensures.entries; rows = c.sum-sum.ensures.rows; moment = c.sum-sum.ensures.moment })
    (pending-notes c.lengths_follow_each_call.ensures c.local_calls_are_known_by_their_word.ensures g.D.Disk.tells c.args.agent (state_after may.fixed.opening c.args.self.now.history) c.args.pending.now may.pending)

pub returns-clause-books : goal.returns-clause-books
returns-clause-books g c f recorded are pending =
    let b = c.args.self.now in
    let m = g.S.Shared.machine b.state in
    let t = g.S.Shared.tree b.state in
    let noted = c.note.ensures.machine c.args.pending.now (record { entries = c.sum-sum.ensures.entries; rows = c.sum-sum.ensures.rows; moment = c.sum-sum.ensures.moment })
    (pending-notes c.lengths_follow_each_call.ensures c.local_calls_are_known_by_their_word.ensures g.D.Disk.tells c.args.agent (state_after f.opening b.history) c.args.pending.now pending) in
    note-done c.lengths_follow_each_call.ensures c.local_calls_are_known_by_their_word.ensures g.D.Disk c.telling_keeps_the_books.ensures.pending f recorded b.history m t b.commits b.place c.args.journal.now are
    c.args.agent c.args.pending.now pending c.requires.first c.requires.last c.requires.few
    c.take_in.new.self (g.S.Shared.machine c.note.new.self) (g.S.Shared.tree c.note.new.self) c.take_in.ensures.appended noted c.note.ensures.tree
    (ap (λ x. x.persistent) noted ∙ notes-modes m c.args.agent c.args.pending.now)
