use Rattle.std.proofs.Common.{◌≡◌, ℕ, List, [], length, None, Some, refl, sym, ap, subst, ◌∙◌, append-nil, arith}
use Rattle.opfs_base.specs.Blocks.{blocks}
use Rattle.opfs_base.specs.declared.extents.Extent.{Extent}
use Rattle.opfs_books.specs.Laws.Books.{IsPlaced}
use Rattle.opfs_pages.specs.HistoryLaws.Open.{open_at, file_in}
use Rattle.opfs_desk_steps.specs.Parts.Seen.{machine_in, tree_in}
use Rattle.opfs_hist.specs.declared.entry.Entry.{Entry}
use Rattle.opfs_machine.specs.Histories.{state_after}
use Rattle.opfs_machine.specs.Steps.{is_refusal}
use Rattle.opfs_state.specs.Applied.{StateSeen}
use Rattle.opfs_tree.specs.Rows.{IsInOrder, file_at as file_in_tree}
use Rattle.opfs_state.specs.Verdicts.Callers.{IsAgent}
use Rattle.opfs_desk_contents.proofs.Failing.{may-fail-now, failed-now}
use Rattle.opfs_desk_contents.proofs.Found.{enough-now}
use Rattle.opfs_desk_contents.proofs.Going.{whole-now}
use Rattle.opfs_desk_contents.proofs.Storable.{answered-on, file-on, may-store-content, no-eviction, not-alike}
use Rattle.opfs_desk_entries.proofs.kept_back.Shown.{has-failed}
use Rattle.opfs_state_rows.specs.Standing.Seen.{lines_of}
use Rattle.opfs_desk_contents.specs.Storing.{AreRunsOf, HasStored, content_now}
use Rattle.opfs_desk_contents.specs.Words.{size_stored, stamp_stored}
use Rattle.opfs_desk_contents.proofs.Stowed.{bytes-stand, can-be-held, small-blocks, spelled-runs}
use Rattle.opfs_desk_contents.proofs.pages.store_pages.Goals as goal

pub put_content-requires : goal.put_content-requires
put_content-requires g c = record { may = let may = c.requires.may in record { fixed = may.fixed; recorded = may.recorded; are = may.are; ready = may.ready; enough = may.enough } }

pub collect-requires-clause-there : goal.collect-requires-clause-there
collect-requires-clause-there g c =
    let may = c.requires.may in
    let content = c.in-Ok.ensures.content may.fixed may.recorded c.args.work.now may.bytes may.are may.stores.of_row in
    omega (arith, content.plain.count)

pub collect-requires-clause-small : goal.collect-requires-clause-small
collect-requires-clause-small g c =
    let w = g.D.Disk in
    let may = c.requires.may in
    let l = c.args.parts.now.ledger in
    let back = c.put_content.new.parts.ledger in
    let q = c.put_content.new.parts.pages in
    let is = c.put_content.ensures in
    let cleared = is.cleared may.fixed may.recorded c.args.work.now may.bytes may.are may.stores.of_row in
    small-blocks w c.storing_laws.ensures.states may.fixed cleared.recorded back q (whole-now w may.fixed l back q is.entries cleared) c.args.agent c.args.row c.args.plan.place
    (subst (λ (s : StateSeen). file_in (open_at s.store.machine c.args.agent c.args.row) ≡ Some c.args.plan.place) (sym is.state) may.opened) (subst (λ (s : StateSeen). IsInOrder s.store.tree) (sym is.state) c.know_order.ensures)

pub fail_call-requires : goal.fail_call-requires
fail_call-requires g c = record {
  may =
      let may = c.requires.may in
      let l = c.args.parts.now.ledger in
      let is = c.put_content.ensures in
      let cleared = is.cleared may.fixed may.recorded c.args.work.now may.bytes may.are may.stores.of_row in
      record {
        fixed = may.fixed;
        recorded = cleared.recorded;
        base = state_after may.fixed.opening l.books.history;
        gone = [];
        pages = c.put_content.new.parts.pages;
        are = cleared.are;
        refuses = refl;
        placed = subst (λ (es : List Entry). IsPlaced es c.args.last.entry.agent) (sym is.entries) may.stores.answered.change.placed;
        agent = subst (λ (s : StateSeen). IsAgent s.store.machine c.args.last.entry.agent) (sym is.state) may.stores.answered.change.agent;
      };
}

pub returns-clause-failed : goal.returns-clause-failed
returns-clause-failed g c f recorded bytes are stores =
    let w = g.D.Disk in
    let l = c.args.parts.now.ledger in
    let p = c.args.parts.now.pages in
    let back = c.put_content.new.parts.ledger in
    let q = c.put_content.new.parts.pages in
    let is = c.put_content.ensures in
    let e = c.args.last.entry in
    let new = c.fail_call.new.ledger in
    let counted = c.storing_laws.ensures.counted in
    let cleared = is.cleared f recorded c.args.work.now bytes are stores.of_row in
    let refused = may-fail-now w f counted recorded l back new p q e are cleared is.entries stores.fault c.in-Err.ensures.cause in
    failed-now w f counted recorded l back new p q e are cleared is.entries stores.fault c.in-Err.ensures.cause c.fail_call.ensures.entries c.fail_call.ensures.journal c.fail_call.ensures.idle
    (c.fail_call.ensures.held f cleared.recorded (state_after f.opening l.books.history) [] q cleared.are refused)

pub enter_content-requires-clause-may : goal.enter_content-requires-clause-may
enter_content-requires-clause-may g c =
    let w = g.D.Disk in
    let may = c.requires.may in
    let l = c.args.parts.now.ledger in
    let back = c.put_content.new.parts.ledger in
    let q = c.put_content.new.parts.pages in
    let is = c.put_content.ensures in
    let e = c.args.last.entry in
    let place = c.args.plan.place in
    let pages = c.args.plan.put.pages in
    let laws = c.storing_laws.ensures in
    let base = state_after may.fixed.opening l.books.history in
    let runs = c.from_vec-runs.result in
    let cleared = is.cleared may.fixed may.recorded c.args.work.now may.bytes may.are may.stores.of_row in
    let content = c.in-Ok.ensures.content may.fixed may.recorded c.args.work.now may.bytes may.are may.stores.of_row in
    may-store-content w laws.states laws.kept may.fixed cleared.recorded base back q cleared.are (whole-now w may.fixed l back q is.entries cleared) e c.args.sizes c.args.agent c.args.row place may.reserve
    (file-on l back e place may.reserve is.state may.file)
    (subst (λ (s : StateSeen). file_in (open_at s.store.machine c.args.agent c.args.row) ≡ Some place) (sym is.state) may.opened)
    (subst (λ (s : StateSeen). IsInOrder s.store.tree) (sym is.state) c.know_order.ensures) may.row_of
    (subst (λ (s : StateSeen). file_in_tree place s.store.tree ≡ Some may.row_of) (sym is.state) may.there)
    (answered-on w base l back e c.args.sizes is.state is.entries may.stores.answered) pages (enough-now l back c.args.agent c.args.row pages is.state may.enough)
    runs c.from_vec.result (c.from_vec.ensures ∙ c.collect.ensures.same ∙ sym c.from_vec-runs.ensures)
    (subst (λ (xs : List Extent). AreRunsOf q.swap c.args.agent c.args.row pages xs) (sym c.from_vec-runs.ensures) c.collect.ensures.runs) content.plain
    c.size-size.result (may.stores.of_row.count ∙ ap blocks (sym c.size-size.ensures)) (c.size-size.ensures ∙ may.stores.size may.row_of may.there)

pub returns-in-Ok-enter_content-clause-stored : goal.returns-in-Ok-enter_content-clause-stored
returns-in-Ok-enter_content-clause-stored g c f recorded bytes are stores =
    let w = g.D.Disk in
    let may = c.requires.may in
    let l = c.args.parts.now.ledger in
    let back = c.put_content.new.parts.ledger in
    let q = c.put_content.new.parts.pages in
    let is = c.put_content.ensures in
    let e = c.args.last.entry in
    let place = c.args.plan.place in
    let pages = c.args.plan.put.pages in
    let laws = c.storing_laws.ensures in
    let base = state_after f.opening l.books.history in
    let runs = c.from_vec-runs.result in
    let size = c.size-size.result in
    let new = c.enter_content.new.ledger in
    let cleared = is.cleared f recorded c.args.work.now bytes are stores.of_row in
    let whole = whole-now w f l back q is.entries cleared in
    let content = c.in-Ok.ensures.content f recorded c.args.work.now bytes are stores.of_row in
    let opened = subst (λ (s : StateSeen). file_in (open_at s.store.machine c.args.agent c.args.row) ≡ Some place) (sym is.state) may.opened in
    let order = subst (λ (s : StateSeen). IsInOrder s.store.tree) (sym is.state) c.know_order.ensures in
    let there = subst (λ (s : StateSeen). file_in_tree place s.store.tree ≡ Some may.row_of) (sym is.state) may.there in
    let same = c.from_vec.ensures ∙ c.collect.ensures.same ∙ sym c.from_vec-runs.ensures in
    let runs_are = subst (λ (xs : List Extent). AreRunsOf q.swap c.args.agent c.args.row pages xs) (sym c.from_vec-runs.ensures) c.collect.ensures.runs in
    let many : pages ≡ blocks size = stores.of_row.count ∙ ap blocks (sym c.size-size.ensures) in
    let stamp = stamp_stored (machine_in back) e.agent e.op may.row_of in
    let long : size ≡ length bytes = c.size-size.ensures ∙ stores.of_row.size in
    let stands = bytes-stand w laws.states f cleared.recorded back q whole c.args.agent c.args.row place opened order pages runs runs_are content.plain e base stamp size bytes content long many stores.stored in
    let holds = can-be-held w laws.states f cleared.recorded back q whole c.args.agent c.args.row place opened order pages runs runs_are content.plain stamp size many in
    let stored = c.in-Ok-enter_content.ensures.stored.over f cleared.recorded base [] q may.row_of (record { are = cleared.are; answered = answered-on w base l back e c.args.sizes is.state is.entries stores.answered; there = there; holds = holds; stands = stands }) in
    record {
      back = back;
      cleared = cleared;
      entries = is.entries;
      state = is.state;
      content = content;
      runs_are = runs_are;
      file = may.row_of;
      there = there;
      stored =
          subst (λ (xs : List Extent). HasStored w f base [] back new q e c.args.sizes (Some xs) (content_now back e place may.row_of (length bytes) runs)) same
          (subst (λ (n : ℕ). HasStored w f base [] back new q e c.args.sizes (Some c.from_vec.result) (content_now back e place may.row_of n runs)) long stored);
      order = order;
      order_now = c.in-Ok-enter_content.ensures.stored.order;
    }

pub returns-in-Ok-clause-failed : goal.returns-in-Ok-clause-failed
returns-in-Ok-clause-failed g c f recorded bytes are stores =
    let w = g.D.Disk in
    let laws_of = g.met.D.Disk in
    let may = c.requires.may in
    let l = c.args.parts.now.ledger in
    let back = c.put_content.new.parts.ledger in
    let q = c.put_content.new.parts.pages in
    let is = c.put_content.ensures in
    let e = c.args.last.entry in
    let place = c.args.plan.place in
    let pages = c.args.plan.put.pages in
    let laws = c.storing_laws.ensures in
    let base = state_after f.opening l.books.history in
    let runs = c.from_vec-runs.result in
    let size = c.size-size.result in
    let new = c.enter_content.new.ledger in
    let cleared = is.cleared f recorded c.args.work.now bytes are stores.of_row in
    let whole = whole-now w f l back q is.entries cleared in
    let content = c.in-Ok.ensures.content f recorded c.args.work.now bytes are stores.of_row in
    let opened = subst (λ (s : StateSeen). file_in (open_at s.store.machine c.args.agent c.args.row) ≡ Some place) (sym is.state) may.opened in
    let order = subst (λ (s : StateSeen). IsInOrder s.store.tree) (sym is.state) c.know_order.ensures in
    let there = subst (λ (s : StateSeen). file_in_tree place s.store.tree ≡ Some may.row_of) (sym is.state) may.there in
    let runs_are = subst (λ (xs : List Extent). AreRunsOf q.swap c.args.agent c.args.row pages xs) (sym c.from_vec-runs.ensures) c.collect.ensures.runs in
    let many : pages ≡ blocks size = stores.of_row.count ∙ ap blocks (sym c.size-size.ensures) in
    let stamp = stamp_stored (machine_in back) e.agent e.op may.row_of in
    let long : size ≡ length bytes = c.size-size.ensures ∙ stores.of_row.size in
    let stands = bytes-stand w laws.states f cleared.recorded back q whole c.args.agent c.args.row place opened order pages runs runs_are content.plain e base stamp size bytes content long many stores.stored in
    let holds = can-be-held w laws.states f cleared.recorded back q whole c.args.agent c.args.row place opened order pages runs runs_are content.plain stamp size many in
    let answered = answered-on w base l back e c.args.sizes is.state is.entries stores.answered in
    let not = c.in-Err-enter_content.ensures.failed.over f cleared.recorded base [] q may.row_of (record { are = cleared.are; answered = answered; there = there; holds = holds; stands = stands }) in
    let now = size_stored c.args.sizes e.op may.row_of in
    has-failed w f laws.kept laws.spelled laws.fails laws_of.falls l back new q [] e c.args.sizes (content_now back e place may.row_of now may.row_of.extents) (is.entries ∙ sym (append-nil l.books.history)) cleared answered (ap is_refusal c.requires.done)
    (record { lines = subst (λ (s : StateSeen). s.store.machine.rows ≡ lines_of s.store.tree) (sym is.state) c.know_rows_match_tree.ensures; order = order })
    (spelled-runs (machine_in back) (tree_in back) e.agent e.op c.args.sizes place may.reserve may.row_of None (file-on l back e place may.reserve is.state may.file) there) (no-eviction e.op c.requires.word)
    (not-alike w f cleared.recorded base back new q e place stamp size now runs may.row_of.extents not)
