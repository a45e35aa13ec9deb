use Rattle.std.proofs.Common.{refl}
use Rattle.opfs_books.specs.Seen.{book_of}
use Rattle.opfs_books.proofs.Calls.{tell-done}
use Rattle.opfs_books.proofs.books.Books.tell.Goals as goal

pub enter-requires : goal.enter-requires
enter-requires g c =
    let known = c.requires.come.known in
    c.the_state_is_kept.ensures.short known.fixed known.recorded known.base known.gone (book_of g.S.Shared c.args.self.now) c.args.journal.now known.are

pub returns-clause-told : goal.returns-clause-told
returns-clause-told g c =
    record {
      entries = c.enter.ensures;
      machine = c.apply.ensures.machine;
      tree = c.apply.ensures.tree;
      idle = c.apply.ensures.idle;
      commits = refl;
      place = refl;
      freed = c.apply.ensures.freed;
      books = λ f recorded base gone are next sizes.
          let b = c.args.self.now in
          let e = c.args.entering in
          tell-done c.lengths_follow_each_call.ensures c.calls_are_spelled.ensures g.D.Disk f recorded base gone b.history (g.S.Shared.machine b.state) (g.S.Shared.tree b.state) b.commits b.place c.args.journal.now are
          e.last.entry e.sizes e.extents next sizes c.requires.answers c.requires.answered c.rows.ensures.lines
          c.enter.new.history (g.S.Shared.machine c.apply.new.self) (g.S.Shared.tree c.apply.new.self) c.enter.ensures c.apply.ensures.machine c.apply.ensures.tree
          c.telling_keeps_the_books.ensures.entry c.requires.silent;
    }
