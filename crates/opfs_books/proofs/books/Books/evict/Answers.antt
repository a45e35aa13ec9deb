use Rattle.std.proofs.Common.{[], ◌∷◌, ◌++◌, inl, inr, ℕ, Some, refl, sym, ap, subst, ◌∙◌}
use Rattle.opfs_codec.specs.declared.change.Change.{Change as Spelled}
use Rattle.opfs_codec.specs.declared.change.Change.TheVariants.{Evict}
use Rattle.opfs_commit.specs.Calls.{IsAnyOf, IsNoneOf, IsNext, stored_in}
use Rattle.opfs_commit.specs.Seen.{KeptBack, committing}
use Rattle.opfs_hist.specs.declared.entry.Entry.{Entry}
use Rattle.opfs_tree.specs.Rows.{Rows, IsInOrder}
use Rattle.opfs_books.specs.Committing.{MayCommit}
use Rattle.opfs_books.specs.Seen.{book_of}
use Rattle.opfs_books.proofs.Alone.{any-own-lent, none-own-lent, any-leaves, none-leaves}
use Rattle.opfs_books.proofs.Evictions.{may-evict, evict-done, evict-failed, evict-shown}
use Rattle.opfs_books.proofs.books.Books.evict.Goals as goal

pub commit_own-requires-clause-may : goal.commit_own-requires-clause-may
commit_own-requires-clause-may g c =
    let known = c.requires.known in
    let b = c.args.self.now in
    let m = g.S.Shared.machine b.state in
    let t = g.S.Shared.tree b.state in
    let order = subst (λ (xs : Rows). IsInOrder xs) c.rows-tree.ensures.rows c.know_order.ensures.order in
    subst (λ (x : Spelled). MayCommit c.rows-tree.result.now.rows c.shed.result.now x b.commits.room c.args.journal.now.areas.bytes) (sym c.clearing_of-own.ensures.plain)
    (may-evict c.lengths_follow_each_call.ensures c.calls_are_spelled.ensures g.D.Disk known.fixed known.recorded known.base known.gone b.history m t b.commits b.place c.args.journal.now known.are
    c.args.unit.now c.rows-tree.ensures.lines c.requires.root c.requires.mode c.requires.again order c.rows-tree.result.now.rows c.shed.result.now c.rows-tree.ensures.rows c.shed.ensures)

pub enter-requires : goal.enter-requires
enter-requires g c =
    let known = c.requires.known in
    c.the_state_is_kept.ensures.short known.fixed known.recorded known.base known.gone (book_of g.S.Shared c.args.self.now) c.args.journal.now known.are

pub enter-requires-in-Err : goal.enter-requires-in-Err
enter-requires-in-Err g c =
    let known = c.requires.known in
    c.the_state_is_kept.ensures.short known.fixed known.recorded known.base known.gone (book_of g.S.Shared c.args.self.now) c.args.journal.now known.are

pub returns-in-Ok-clause-leaves : goal.returns-in-Ok-clause-leaves
returns-in-Ok-clause-leaves g c = any-leaves g.D.Disk _ _ _ c.in-Ok.ensures.committed

pub returns-in-Ok-clause-evicted : goal.returns-in-Ok-clause-evicted
returns-in-Ok-clause-evicted g c =
    let committed = c.in-Ok.ensures.committed.committed in
    record {
      entries = c.enter.ensures ∙ ap (λ (x : Entry). c.args.self.now.history ++ x ∷ []) c.requires.told;
      machine = c.clear.ensures.machine;
      tree = c.clear.ensures.tree;
      standby = c.clear.ensures.standby;
      none = ap (λ (k : KeptBack). k.count) committed.none;
      place = refl;
      sure = committed.journal.sure;
      freed = c.clear.ensures.freed;
      books = λ f recorded base others are.
          let b = c.args.self.now in
          let m = g.S.Shared.machine b.state in
          let t = g.S.Shared.tree b.state in
          let order = subst (λ (xs : Rows). IsInOrder xs) c.rows-tree.ensures.rows c.know_order.ensures.order in
          evict-done c.lengths_follow_each_call.ensures c.calls_are_spelled.ensures g.D.Disk f recorded base others b.history m t b.commits b.place c.args.journal.now are
          c.args.unit.now c.rows-tree.ensures.lines c.requires.root c.requires.mode c.requires.again order
          c.commits_keep_the_books.ensures.eviction c.requires.settled c.enter.new.history (g.S.Shared.machine c.clear.new.self) (g.S.Shared.tree c.clear.new.self)
          (c.enter.ensures ∙ ap (λ (x : Entry). b.history ++ x ∷ []) c.requires.told) c.clear.ensures.machine c.clear.ensures.tree
          c.commit_own.new.journal c.commit_own.new.commits (any-own-lent g.D.Disk m t c.rows-tree.result.now.rows c.shed.result.now c.rows-tree.ensures.rows c.shed.ensures c.args.journal.now c.commit_own.new.journal b.commits c.commit_own.new.commits (Evict c.args.unit.now) (subst (λ (x : Spelled). IsAnyOf g.D.Disk (IsNext (stored_in c.rows-tree.result.now.rows c.shed.result.now) x (committing c.args.journal.now b.commits)) (committing c.args.journal.now b.commits) (committing c.commit_own.new.journal c.commit_own.new.commits)) c.clearing_of-own.ensures.plain c.in-Ok.ensures.committed));
    }

pub returns-in-Ok-clause-shown : goal.returns-in-Ok-clause-shown
returns-in-Ok-clause-shown g c f recorded base others are =
    let b = c.args.self.now in
    let m = g.S.Shared.machine b.state in
    let t = g.S.Shared.tree b.state in
    let order = subst (λ (xs : Rows). IsInOrder xs) c.rows-tree.ensures.rows c.know_order.ensures.order in
    evict-shown c.lengths_follow_each_call.ensures c.calls_are_spelled.ensures g.D.Disk f recorded base others b.history m t b.commits b.place c.args.journal.now are
    c.args.unit.now c.rows-tree.ensures.lines c.requires.root c.requires.mode c.requires.again order
    c.commits_keep_the_books.ensures.shown c.requires.settled c.commit_own.new.journal c.commit_own.new.commits (inl (any-own-lent g.D.Disk m t c.rows-tree.result.now.rows c.shed.result.now c.rows-tree.ensures.rows c.shed.ensures c.args.journal.now c.commit_own.new.journal b.commits c.commit_own.new.commits (Evict c.args.unit.now) (subst (λ (x : Spelled). IsAnyOf g.D.Disk (IsNext (stored_in c.rows-tree.result.now.rows c.shed.result.now) x (committing c.args.journal.now b.commits)) (committing c.args.journal.now b.commits) (committing c.commit_own.new.journal c.commit_own.new.commits)) c.clearing_of-own.ensures.plain c.in-Ok.ensures.committed)))

pub returns-in-Err-clause-leaves : goal.returns-in-Err-clause-leaves
returns-in-Err-clause-leaves g c = none-leaves g.D.Disk _ _ _ c.in-Err.ensures.halted

pub returns-in-Err-clause-failed_books : goal.returns-in-Err-clause-failed_books
returns-in-Err-clause-failed_books g c f recorded base others are victim =
    let b = c.args.self.now in
    let m = g.S.Shared.machine b.state in
    let t = g.S.Shared.tree b.state in
    let order = subst (λ (xs : Rows). IsInOrder xs) c.rows-tree.ensures.rows c.know_order.ensures.order in
    evict-failed c.lengths_follow_each_call.ensures c.calls_are_spelled.ensures g.D.Disk f recorded base others b.history m t b.commits b.place c.args.journal.now are
    c.args.unit.now c.rows-tree.ensures.lines c.requires.root c.requires.mode c.requires.again order
    c.commits_keep_the_books.ensures.failed c.calls_may_fail.ensures c.requires.settled c.args.last.entry victim c.requires.placed
    c.enter-in-Err.new.history (g.S.Shared.machine c.refuse.new.self) (g.S.Shared.tree c.refuse.new.self) (c.enter-in-Err.ensures ∙ ap (λ (x : Entry). b.history ++ x ∷ []) c.with_fault.ensures) c.refuse.ensures.machine c.refuse.ensures.tree
    c.commit_own.new.journal c.commit_own.new.commits (none-own-lent g.D.Disk m t c.rows-tree.result.now.rows c.shed.result.now c.rows-tree.ensures.rows c.shed.ensures c.args.journal.now c.commit_own.new.journal b.commits c.commit_own.new.commits (Evict c.args.unit.now) (subst (λ (x : Spelled). IsNoneOf g.D.Disk (IsNext (stored_in c.rows-tree.result.now.rows c.shed.result.now) x (committing c.args.journal.now b.commits)) (committing c.args.journal.now b.commits) (committing c.commit_own.new.journal c.commit_own.new.commits)) c.clearing_of-own.ensures.plain c.in-Err.ensures.halted)) c.in-Err.ensures.cause c.len-place.result c.len-place.ensures

pub returns-in-Err-clause-shown : goal.returns-in-Err-clause-shown
returns-in-Err-clause-shown g c f recorded base others are =
    let b = c.args.self.now in
    let m = g.S.Shared.machine b.state in
    let t = g.S.Shared.tree b.state in
    let order = subst (λ (xs : Rows). IsInOrder xs) c.rows-tree.ensures.rows c.know_order.ensures.order in
    evict-shown c.lengths_follow_each_call.ensures c.calls_are_spelled.ensures g.D.Disk f recorded base others b.history m t b.commits b.place c.args.journal.now are
    c.args.unit.now c.rows-tree.ensures.lines c.requires.root c.requires.mode c.requires.again order
    c.commits_keep_the_books.ensures.shown c.requires.settled c.commit_own.new.journal c.commit_own.new.commits (inr (none-own-lent g.D.Disk m t c.rows-tree.result.now.rows c.shed.result.now c.rows-tree.ensures.rows c.shed.ensures c.args.journal.now c.commit_own.new.journal b.commits c.commit_own.new.commits (Evict c.args.unit.now) (subst (λ (x : Spelled). IsNoneOf g.D.Disk (IsNext (stored_in c.rows-tree.result.now.rows c.shed.result.now) x (committing c.args.journal.now b.commits)) (committing c.args.journal.now b.commits) (committing c.commit_own.new.journal c.commit_own.new.commits)) c.clearing_of-own.ensures.plain c.in-Err.ensures.halted)))

pub returns-in-Err-clause-failed : goal.returns-in-Err-clause-failed
returns-in-Err-clause-failed g c =
    record {
      entries = c.enter-in-Err.ensures ∙ ap (λ (x : Entry). c.args.self.now.history ++ x ∷ []) c.with_fault.ensures;
      machine = c.refuse.ensures.machine;
      tree = c.refuse.ensures.tree;
      idle = c.refuse.ensures.idle;
      commits = c.in-Err.ensures.halted.halted.same;
      place = ap (λ (n : ℕ). Some n) c.len-place.ensures;
      freed = refl;
      cause = c.in-Err.ensures.cause;
    }
