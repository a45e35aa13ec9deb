use Rattle.std.proofs.Common.{◌≡◌, ◌==◌, not, refl, sym, ap, ◌∙◌}
use Rattle.std.proofs.lemmas.Bool.{true≢false}
use Rattle.opfs_commit.specs.Seen.{KeptBack}
use Rattle.opfs_books.specs.Laws.Laws.{doubt}
use Rattle.opfs_books.specs.Seen.{book_of}
use Rattle.opfs_books.proofs.Alone.{both-leave, both-shown, either-books}
use Rattle.opfs_books.proofs.books.Books.finish.Goals as goal

pub commit_kept-requires-clause-known : goal.commit_kept-requires-clause-known
commit_kept-requires-clause-known g c =
    let k = c.requires.known in
    record { fixed = k.fixed; recorded = k.recorded; base = k.base; gone = k.gone; are = c.settle.ensures.books k.fixed k.recorded k.base k.gone k.are }

pub returns-in-Ok-commit_kept-clause-leaves : goal.returns-in-Ok-commit_kept-clause-leaves
returns-in-Ok-commit_kept-clause-leaves g c =
    let laws = g.met.D.Disk in
    both-leave g.D.Disk (λ t. laws.falls t) c.args.journal.now c.settle.new.journal c.commit_kept.new.journal c.settle.ensures.leaves c.commit_kept.ensures.leaves

pub returns-in-Ok-commit_kept-clause-books : goal.returns-in-Ok-commit_kept-clause-books
returns-in-Ok-commit_kept-clause-books g c f recorded base gone are =
    let laws = g.met.D.Disk in
    let b = book_of g.S.Shared c.args.self.now in
    let mid = book_of g.S.Shared c.settle.new.self in
    let sure = c.settle.ensures.books f recorded base gone are in
    let done = either-books g.D.Disk f recorded base gone mid (book_of g.S.Shared c.commit_kept.new.self) c.settle.new.journal c.commit_kept.new.journal c.in-Ok-commit_kept.written sure
    (λ is. c.in-Ok-commit_kept.ensures.committed is f recorded base gone sure) (λ is. let still = c.in-Ok-commit_kept.ensures.untouched is in (ap (λ x. book_of g.S.Shared x) still.0, still.1)) in
    record {
      after = done.0;
      are = done.1;
      shown = both-shown g.D.Disk (λ t. laws.falls t) f b mid c.args.journal.now c.settle.new.journal c.commit_kept.new.journal (doubt f b c.args.journal.now) c.settle.ensures.leaves c.commit_kept.ensures.leaves
          c.settle.ensures.history (c.settle.ensures.shown f recorded base gone are) (c.commit_kept.ensures.shown f recorded base gone sure);
    }

pub returns-in-Ok-commit_kept-clause-whole : goal.returns-in-Ok-commit_kept-clause-whole
returns-in-Ok-commit_kept-clause-whole g c f recorded base gone are =
    let mid = book_of g.S.Shared c.settle.new.self in
    let sure = c.settle.ensures.books f recorded base gone are in
    let done = either-books g.D.Disk f recorded base gone mid (book_of g.S.Shared c.commit_kept.new.self) c.settle.new.journal c.commit_kept.new.journal c.in-Ok-commit_kept.written sure
    (λ is. c.in-Ok-commit_kept.ensures.committed is f recorded base gone sure) (λ is. let still = c.in-Ok-commit_kept.ensures.untouched is in (ap (λ x. book_of g.S.Shared x) still.0, still.1)) in
    c.the_books_stand_at_rest.ensures f done.0 base gone (book_of g.S.Shared c.commit_kept.new.self) c.commit_kept.new.journal done.1 c.in-Ok-commit_kept.ensures.none c.in-Ok-commit_kept.ensures.sure

pub returns-in-Ok-commit_kept-clause-written : goal.returns-in-Ok-commit_kept-clause-written
returns-in-Ok-commit_kept-clause-written g c = c.in-Ok-commit_kept.ensures.written ∙ ap (λ (k : KeptBack). not (k.count == 0)) c.settle.ensures.commits

pub returns-in-Ok-commit_kept-clause-idle : goal.returns-in-Ok-commit_kept-clause-idle
returns-in-Ok-commit_kept-clause-idle g c none sure =
    let nothing : c.settle.new.self.commits.count ≡ 0 = ap (λ (k : KeptBack). k.count) c.settle.ensures.commits ∙ none in
    let still = c.in-Ok-commit_kept.ensures.untouched (c.in-Ok-commit_kept.ensures.written ∙ ap (λ n. not (n == 0)) nothing) in
    (refl, still.1 ∙ c.in-Ok.ensures.settled.none sure)

pub returns-in-Err-commit_kept-clause-idle : goal.returns-in-Err-commit_kept-clause-idle
returns-in-Err-commit_kept-clause-idle g c none sure =
    absurd (true≢false (ap (λ n. n == 0) (sym none ∙ ap (λ (k : KeptBack). k.count) (sym c.settle.ensures.commits)) ∙ c.in-Err-commit_kept.ensures.kept_back))

pub returns-in-Err-clause-idle : goal.returns-in-Err-clause-idle
returns-in-Err-clause-idle g c none sure = absurd (true≢false (sym c.in-Err.ensures.unsettled.was ∙ sure))

pub returns-in-Err-commit_kept-clause-leaves : goal.returns-in-Err-commit_kept-clause-leaves
returns-in-Err-commit_kept-clause-leaves g c =
    let laws = g.met.D.Disk in
    both-leave g.D.Disk (λ t. laws.falls t) c.args.journal.now c.settle.new.journal c.commit_kept.new.journal c.settle.ensures.leaves c.commit_kept.ensures.leaves

pub returns-in-Err-commit_kept-clause-books : goal.returns-in-Err-commit_kept-clause-books
returns-in-Err-commit_kept-clause-books g c f recorded base gone are =
    let laws = g.met.D.Disk in
    let b = book_of g.S.Shared c.args.self.now in
    let mid = book_of g.S.Shared c.settle.new.self in
    let sure = c.settle.ensures.books f recorded base gone are in
    record {
      after = recorded;
      are = c.in-Err-commit_kept.ensures.failed f recorded base gone sure;
      shown = both-shown g.D.Disk (λ t. laws.falls t) f b mid c.args.journal.now c.settle.new.journal c.commit_kept.new.journal (doubt f b c.args.journal.now) c.settle.ensures.leaves c.commit_kept.ensures.leaves
          c.settle.ensures.history (c.settle.ensures.shown f recorded base gone are) (c.commit_kept.ensures.shown f recorded base gone sure);
    }

pub returns-in-Err-clause-books : goal.returns-in-Err-clause-books
returns-in-Err-clause-books g c f recorded base gone are =
    record { after = recorded; are = c.settle.ensures.books f recorded base gone are; shown = c.settle.ensures.shown f recorded base gone are }
