use Rattle.std.proofs.Common.{None, refl, sym, subst}
use Rattle.opfs_codec.specs.Fields.{plain}
use Rattle.opfs_tree.specs.Rows.{Rows, IsInOrder}
use Rattle.opfs_books.specs.Laws.Books.{AreBooks}
use Rattle.opfs_commit.specs.Seen.{KeptBack}
use Rattle.opfs_books.specs.Seen.{book, book_of}
use Rattle.opfs_books.proofs.Calls.{keep-done, quiet-told}
use Rattle.opfs_books.proofs.books.Books.keep.Goals as goal

pub enter-requires : goal.enter-requires
enter-requires g c =
    let known = c.requires.come.come.known in
    c.the_state_is_kept.ensures.short known.fixed known.recorded known.base known.gone (book_of g.S.Shared c.args.self.now) c.args.journal.now known.are

pub returns-clause-kept : goal.returns-clause-kept
returns-clause-kept g c =
    record {
      entries = c.enter.ensures;
      machine = c.apply.ensures.machine;
      tree = c.apply.ensures.tree;
      idle = c.apply.ensures.idle;
      commits = c.keep.ensures;
      place = refl;
      freed = c.apply.ensures.freed;
      books = λ f recorded base gone are next sizes stores.
          let b = c.args.self.now in
          let e = c.args.entering in
          let m = g.S.Shared.machine b.state in
          let t = g.S.Shared.tree b.state in
          let own = plain c.args.own.now in
          let order = subst (λ (xs : Rows). IsInOrder xs) c.rows.ensures.rows c.know_order.ensures.order in
          subst (λ (k : KeptBack). AreBooks g.D.Disk f recorded (book c.enter.new.history (g.S.Shared.machine c.apply.new.self) (g.S.Shared.tree c.apply.new.self) k None) c.args.journal.now) (sym c.keep.ensures)
          (keep-done c.lengths_follow_each_call.ensures c.calls_are_spelled.ensures g.D.Disk f recorded base gone b.history m t b.commits b.place c.args.journal.now are
          e.last.entry e.sizes e.extents next sizes c.requires.answers c.requires.answered c.rows.ensures.lines
          c.enter.new.history (g.S.Shared.machine c.apply.new.self) (g.S.Shared.tree c.apply.new.self) c.enter.ensures c.apply.ensures.machine c.apply.ensures.tree
          own c.requires.spelled stores.holds stores.again order
          c.keeping_back_keeps_the_books.ensures c.requires.settled c.requires.quiet c.requires.few (quiet-told _ own c.requires.quiet));
    }
