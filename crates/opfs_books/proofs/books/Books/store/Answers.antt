use Rattle.std.proofs.Common.{[], ◌∷◌, ◌++◌, inl, inr, ℕ, Some, refl, ap, subst, ◌∙◌}
use Rattle.opfs_commit.specs.Seen.{KeptBack}
use Rattle.opfs_hist.specs.declared.entry.Entry.{Entry}
use Rattle.opfs_codec.specs.Fields.{plain}
use Rattle.opfs_tree.specs.Rows.{Rows, IsInOrder}
use Rattle.opfs_books.specs.Seen.{book_of}
use Rattle.opfs_books.proofs.Alone.{any-own-lent, none-own-lent, none-leaves}
use Rattle.opfs_books.proofs.Calls.{may-commit, store-done, store-failed, store-shown}
use Rattle.opfs_books.proofs.books.Books.store.Goals as goal

pub commit_own-requires-clause-may : goal.commit_own-requires-clause-may
commit_own-requires-clause-may g c =
    let known = c.requires.come.come.known in
    let next = c.requires.come.come.next in
    let sizes = c.requires.come.come.sizes in
    let b = c.args.self.now in
    let e = c.args.entering in
    let m = g.S.Shared.machine b.state in
    let t = g.S.Shared.tree b.state in
    let own = plain c.args.own.now in
    let order = subst (λ (xs : Rows). IsInOrder xs) c.rows-tree.ensures.rows c.know_order.ensures.order in
    may-commit c.lengths_follow_each_call.ensures c.calls_are_spelled.ensures g.D.Disk known.fixed known.recorded known.base known.gone b.history m t b.commits b.place c.args.journal.now known.are
    e.last.entry e.sizes e.extents next sizes c.requires.answers c.requires.answered c.rows-tree.ensures.lines
    own c.requires.spelled c.requires.come.stores.holds c.requires.come.stores.again order c.state_laws.ensures
    c.rows-tree.result.now.rows c.shed.result.now c.rows-tree.ensures.rows c.shed.ensures

pub enter-requires : goal.enter-requires
enter-requires g c =
    let known = c.requires.come.come.known in
    c.the_state_is_kept.ensures.short known.fixed known.recorded known.base known.gone (book_of g.S.Shared c.args.self.now) c.args.journal.now known.are

pub enter-requires-in-Err : goal.enter-requires-in-Err
enter-requires-in-Err g c =
    let known = c.requires.come.come.known in
    c.the_state_is_kept.ensures.short known.fixed known.recorded known.base known.gone (book_of g.S.Shared c.args.self.now) c.args.journal.now known.are

pub returns-in-Ok-clause-stored : goal.returns-in-Ok-clause-stored
returns-in-Ok-clause-stored g c =
    let committed = c.in-Ok.ensures.committed.committed in
    record {
      entries = c.enter.ensures;
      machine = c.apply.ensures.machine;
      tree = c.apply.ensures.tree;
      idle = c.apply.ensures.idle;
      none = ap (λ (k : KeptBack). k.count) committed.none;
      place = refl;
      sure = committed.journal.sure;
      freed = c.apply.ensures.freed;
      books = λ f recorded base gone are next sizes stores bytes.
          let b = c.args.self.now in
          let e = c.args.entering in
          let m = g.S.Shared.machine b.state in
          let t = g.S.Shared.tree b.state in
          let own = plain c.args.own.now in
          let order = subst (λ (xs : Rows). IsInOrder xs) c.rows-tree.ensures.rows c.know_order.ensures.order in
          store-done c.lengths_follow_each_call.ensures c.calls_are_spelled.ensures g.D.Disk f recorded base gone b.history m t b.commits b.place c.args.journal.now are
          e.last.entry e.sizes e.extents next sizes c.requires.answers c.requires.answered c.rows-tree.ensures.lines
          c.enter.new.history (g.S.Shared.machine c.apply.new.self) (g.S.Shared.tree c.apply.new.self) c.enter.ensures c.apply.ensures.machine c.apply.ensures.tree
          own c.requires.spelled stores.holds stores.again order
          c.commits_keep_the_books.ensures.call c.requires.settled bytes c.commit_own.new.journal c.commit_own.new.commits (any-own-lent g.D.Disk m t c.rows-tree.result.now.rows c.shed.result.now c.rows-tree.ensures.rows c.shed.ensures c.args.journal.now c.commit_own.new.journal b.commits c.commit_own.new.commits own c.in-Ok.ensures.committed);
    }

pub returns-in-Ok-clause-shown : goal.returns-in-Ok-clause-shown
returns-in-Ok-clause-shown g c f recorded base gone are next sizes stores bytes =
    let b = c.args.self.now in
    let e = c.args.entering in
    let m = g.S.Shared.machine b.state in
    let t = g.S.Shared.tree b.state in
    let own = plain c.args.own.now in
    let order = subst (λ (xs : Rows). IsInOrder xs) c.rows-tree.ensures.rows c.know_order.ensures.order in
    store-shown c.lengths_follow_each_call.ensures c.calls_are_spelled.ensures g.D.Disk f recorded base gone b.history m t b.commits b.place c.args.journal.now are
    e.last.entry e.sizes e.extents next sizes c.requires.answers c.requires.answered c.rows-tree.ensures.lines
    own c.requires.spelled stores.holds stores.again order c.state_laws.ensures
    c.commits_keep_the_books.ensures.shown c.requires.settled bytes c.commit_own.new.journal c.commit_own.new.commits (inl (any-own-lent g.D.Disk m t c.rows-tree.result.now.rows c.shed.result.now c.rows-tree.ensures.rows c.shed.ensures c.args.journal.now c.commit_own.new.journal b.commits c.commit_own.new.commits own c.in-Ok.ensures.committed))

pub returns-in-Err-clause-leaves : goal.returns-in-Err-clause-leaves
returns-in-Err-clause-leaves g c = none-leaves g.D.Disk _ _ _ c.in-Err.ensures.halted

pub returns-in-Err-clause-failed_books : goal.returns-in-Err-clause-failed_books
returns-in-Err-clause-failed_books g c f recorded base gone are next sizes stores bytes =
    let b = c.args.self.now in
    let e = c.args.entering in
    let m = g.S.Shared.machine b.state in
    let t = g.S.Shared.tree b.state in
    let own = plain c.args.own.now in
    let order = subst (λ (xs : Rows). IsInOrder xs) c.rows-tree.ensures.rows c.know_order.ensures.order in
    store-failed c.lengths_follow_each_call.ensures c.calls_are_spelled.ensures g.D.Disk f recorded base gone b.history m t b.commits b.place c.args.journal.now are
    e.last.entry e.sizes e.extents next sizes c.requires.answers c.requires.answered c.rows-tree.ensures.lines
    own c.requires.spelled stores.holds stores.again order c.state_laws.ensures
    c.commits_keep_the_books.ensures.failed c.calls_may_fail.ensures c.requires.settled bytes
    c.enter-in-Err.new.history (g.S.Shared.machine c.refuse.new.self) (g.S.Shared.tree c.refuse.new.self) (c.enter-in-Err.ensures ∙ ap (λ (x : Entry). b.history ++ x ∷ []) c.with_fault.ensures) c.refuse.ensures.machine c.refuse.ensures.tree
    c.commit_own.new.journal c.commit_own.new.commits (none-own-lent g.D.Disk m t c.rows-tree.result.now.rows c.shed.result.now c.rows-tree.ensures.rows c.shed.ensures c.args.journal.now c.commit_own.new.journal b.commits c.commit_own.new.commits own c.in-Err.ensures.halted) c.in-Err.ensures.cause c.len-place.result c.len-place.ensures

pub returns-in-Err-clause-shown : goal.returns-in-Err-clause-shown
returns-in-Err-clause-shown g c f recorded base gone are next sizes stores bytes =
    let b = c.args.self.now in
    let e = c.args.entering in
    let m = g.S.Shared.machine b.state in
    let t = g.S.Shared.tree b.state in
    let own = plain c.args.own.now in
    let order = subst (λ (xs : Rows). IsInOrder xs) c.rows-tree.ensures.rows c.know_order.ensures.order in
    store-shown c.lengths_follow_each_call.ensures c.calls_are_spelled.ensures g.D.Disk f recorded base gone b.history m t b.commits b.place c.args.journal.now are
    e.last.entry e.sizes e.extents next sizes c.requires.answers c.requires.answered c.rows-tree.ensures.lines
    own c.requires.spelled stores.holds stores.again order c.state_laws.ensures
    c.commits_keep_the_books.ensures.shown c.requires.settled bytes c.commit_own.new.journal c.commit_own.new.commits (inr (none-own-lent g.D.Disk m t c.rows-tree.result.now.rows c.shed.result.now c.rows-tree.ensures.rows c.shed.ensures c.args.journal.now c.commit_own.new.journal b.commits c.commit_own.new.commits own c.in-Err.ensures.halted))

pub returns-in-Err-clause-failed : goal.returns-in-Err-clause-failed
returns-in-Err-clause-failed g c =
    record {
      entries = c.enter-in-Err.ensures ∙ ap (λ (x : Entry). c.args.self.now.history ++ x ∷ []) c.with_fault.ensures;
      machine = c.refuse.ensures.machine;
      tree = c.refuse.ensures.tree;
      idle = c.refuse.ensures.idle;
      commits = c.in-Err.ensures.halted.halted.same;
      place = ap (λ (n : ℕ). Some n) c.len-place.ensures;
      freed = refl;
      cause = c.in-Err.ensures.cause;
    }
