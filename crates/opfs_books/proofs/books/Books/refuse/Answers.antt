use Rattle.std.proofs.Common.{refl}
use Rattle.opfs_books.specs.Seen.{book_of}
use Rattle.opfs_books.proofs.Calls.{refuse-done}
use Rattle.opfs_books.proofs.books.Books.refuse.Goals as goal

pub enter-requires : goal.enter-requires
enter-requires g c =
    let known = c.requires.known in
    c.the_state_is_kept.ensures.short known.fixed known.recorded known.base known.gone (book_of g.S.Shared c.args.self.now) c.args.journal.now known.are

pub returns : goal.returns
returns g c =
    record {
      entries = c.enter.ensures;
      machine = c.refuse.ensures.machine;
      tree = c.refuse.ensures.tree;
      idle = c.refuse.ensures.idle;
      commits = refl;
      place = refl;
      books = λ f recorded base gone are next risen.
          let b = c.args.self.now in
          refuse-done c.lengths_follow_each_call.ensures c.calls_are_spelled.ensures g.D.Disk f recorded base gone b.history (g.S.Shared.machine b.state) (g.S.Shared.tree b.state) b.commits b.place c.args.journal.now are
          c.telling_keeps_the_books.ensures.entry c.args.last.entry next c.requires.refuses c.requires.placed risen
          c.enter.new.history (g.S.Shared.machine c.refuse.new.self) (g.S.Shared.tree c.refuse.new.self) c.enter.ensures c.refuse.ensures.machine c.refuse.ensures.tree;
    }
