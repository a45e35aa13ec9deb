use Rattle.std.proofs.Common.{inl, inr, refl}
use Rattle.opfs_books.specs.Seen.{book_of}
use Rattle.opfs_books.proofs.Alone.{any-lent, none-lent, rest-shown}
use Rattle.opfs_books.proofs.Evictions.{may-alone}
use Rattle.opfs_books.proofs.books.Books.commit_kept.Goals as goal

pub returns-then-nothing-clause-shown : goal.returns-then-nothing-clause-shown
returns-then-nothing-clause-shown g c f recorded base gone are =
    rest-shown g.D.Disk c.the_books_show_their_images.ensures f recorded base gone (book_of g.S.Shared c.args.self.now) c.args.journal.now are c.requires.settled

pub commit_alone-requires-clause-may : goal.commit_alone-requires-clause-may
commit_alone-requires-clause-may g c =
    let known = c.requires.known in
    let b = c.args.self.now in
    may-alone c.lengths_follow_each_call.ensures c.calls_are_spelled.ensures g.D.Disk known.fixed known.recorded known.base known.gone b.history (g.S.Shared.machine b.state) (g.S.Shared.tree b.state) b.commits b.place c.args.journal.now known.are
    c.rows.result.now.rows c.shed.result.now c.rows.ensures.rows c.shed.ensures

pub returns-in-Ok-clause-committed : goal.returns-in-Ok-clause-committed
returns-in-Ok-clause-committed g c yes_is f recorded base gone are =
    let b = c.args.self.now in
    c.commits_alone_keep_the_books.ensures.committed f recorded base gone (book_of g.S.Shared b) _ c.args.journal.now c.commit_alone.new.journal are c.requires.settled refl
    (any-lent g.D.Disk (g.S.Shared.machine b.state) (g.S.Shared.tree b.state) c.rows.result.now.rows c.shed.result.now c.rows.ensures.rows c.shed.ensures c.args.journal.now c.commit_alone.new.journal b.commits c.commit_alone.new.commits c.in-Ok.ensures.committed)

pub returns-in-Ok-clause-shown : goal.returns-in-Ok-clause-shown
returns-in-Ok-clause-shown g c f recorded base gone are =
    let b = c.args.self.now in
    c.commits_alone_keep_the_books.ensures.shown f recorded base gone (book_of g.S.Shared b) c.args.journal.now c.commit_alone.new.journal c.commit_alone.new.commits are c.requires.settled
    (inl (any-lent g.D.Disk (g.S.Shared.machine b.state) (g.S.Shared.tree b.state) c.rows.result.now.rows c.shed.result.now c.rows.ensures.rows c.shed.ensures c.args.journal.now c.commit_alone.new.journal b.commits c.commit_alone.new.commits c.in-Ok.ensures.committed))

pub returns-in-Err-clause-failed : goal.returns-in-Err-clause-failed
returns-in-Err-clause-failed g c f recorded base gone are =
    let b = c.args.self.now in
    c.commits_alone_keep_the_books.ensures.failed f recorded base gone (book_of g.S.Shared b) _ c.args.journal.now c.commit_alone.new.journal are c.requires.settled refl
    (none-lent g.D.Disk (g.S.Shared.machine b.state) (g.S.Shared.tree b.state) c.rows.result.now.rows c.shed.result.now c.rows.ensures.rows c.shed.ensures c.args.journal.now c.commit_alone.new.journal b.commits c.commit_alone.new.commits c.in-Err.ensures.halted)
    c.in-Err.ensures.cause

pub returns-in-Err-clause-shown : goal.returns-in-Err-clause-shown
returns-in-Err-clause-shown g c f recorded base gone are =
    let b = c.args.self.now in
    c.commits_alone_keep_the_books.ensures.shown f recorded base gone (book_of g.S.Shared b) c.args.journal.now c.commit_alone.new.journal c.commit_alone.new.commits are c.requires.settled
    (inr (none-lent g.D.Disk (g.S.Shared.machine b.state) (g.S.Shared.tree b.state) c.rows.result.now.rows c.shed.result.now c.rows.ensures.rows c.shed.ensures c.args.journal.now c.commit_alone.new.journal b.commits c.commit_alone.new.commits c.in-Err.ensures.halted))

pub returns-in-Err-clause-failed_commits : goal.returns-in-Err-clause-failed_commits
returns-in-Err-clause-failed_commits g c = c.in-Err.ensures.halted.halted.same
