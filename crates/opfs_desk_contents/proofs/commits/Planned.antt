-- A row's content is planned, over parts whose disk was read.
use Rattle.std.specs.Vec.{vec_capacity}
use Rattle.std.proofs.Common.{◌≡◌, ℕ, ◌-◌, ◌^◌, ◌≤◌, ◌<◌, slice_index_or, true, is_some, List, [], ◌++◌, length, Option, Some, refl, sym, ap, subst, ◌∙◌, inl, inr, append-nil, arith}
use Rattle.opfs_base.specs.Blocks.{blocks}
use Rattle.opfs_base.specs.Texts.{Text}
use Rattle.opfs_books.specs.Laws.Books.{Fixed}
use Rattle.opfs_books.specs.Laws.Laws.{ReadsKeepTheBooks}
use Rattle.opfs_books.specs.declared.books.Books.{Books}
use Rattle.opfs_store.specs.Copies.Copies.{IsPaged}
use Rattle.opfs_data.specs.Calls.{Reads}
use Rattle.opfs_data.specs.declared.page.Page.{Page}
use Rattle.opfs_data.specs.Pages.{blank, page_of}
use Rattle.opfs_data.specs.Rows.{pages_at, row_of}
use Rattle.opfs_data.specs.Writes.{HasBytes, WriteList}
use Rattle.opfs_pages.specs.HistoryLaws.Laid.{AreLaid}
use Rattle.opfs_pages.specs.HistoryLaws.Spaced.{AreSpaced}
use Rattle.opfs_pages.proofs.history_laws.Begun.{other-or}
use Rattle.opfs_hist.specs.declared.entry.Entry.{Entry}
use Rattle.opfs_machine.specs.declared.own.Own.{Own}
use Rattle.opfs_machine.specs.declared.state.State.{State}
use Rattle.opfs_machine.specs.Histories.{state_after}
use Rattle.opfs_machine.specs.Replies.{row_named}
use Rattle.opfs_outside.specs.declared.disk.Disk.{Ghosts as DiskWords}
use Rattle.opfs_pages.specs.Copies.{AreHeld}
use Rattle.opfs_pages.specs.Stages.{changed}
use Rattle.opfs_pages.proofs.Rest.{stored_is}
use Rattle.opfs_laws.specs.Lengths.Bridge.{LengthsFollowEachCall, LocalCallsAreKnownByTheirWord}
use Rattle.opfs_pages.specs.Writing.Puts.{HasSamePages, IsReady as IsPutReady}
use Rattle.opfs_records.specs.Replay.Built.{Built}
use Rattle.opfs_pages.specs.RowCalls.Plans.{shelf, AreGotten}
use Rattle.opfs_pages.proofs.row_calls.Getting.{pages-same}
use Rattle.opfs_pages.specs.RowCalls.Rows.{IsPutOf}
use Rattle.opfs_space.specs.Room.{Machine}
use Rattle.opfs_state.specs.Applied.{StateSeen}
use Rattle.opfs_state.specs.Reading.{row_file}
use Rattle.opfs_laws.specs.Steady.Steady.{row_bytes}
use Rattle.opfs_tree.specs.Rows.{Rows as Tree}
use Rattle.opfs_work.specs.Works.{WorkingCopy}
use Rattle.opfs_desk_contents.specs.Putting.{IsStagedWhole, all_of}
use Rattle.opfs_desk_contents.specs.Words.{stores_row}
use Rattle.opfs_desk_contents.specs.declared.planning.Plan.{Plan}
use Rattle.opfs_desk_contents.proofs.Found.{gotten-any}
use Rattle.opfs_desk_steps.specs.Parts.Asked.{IsAsked}
use Rattle.opfs_desk_steps.specs.Parts.Held.{AreHeldAt, AreHeldWhole}
use Rattle.opfs_desk_steps.specs.Parts.Seen.{machine_in, tree_in}
use Rattle.opfs_desk_steps.specs.declared.parts.call.ReadyCall.{ReadyCall}
use Rattle.opfs_desk_steps.specs.declared.parts.parts.Ledger.{Ledger}
use Rattle.opfs_desk_steps.specs.declared.parts.parts.OpenPages.{OpenPages}
use Rattle.opfs_desk_bytes.proofs.reading.Readied.{read-held}
use Rattle.opfs_desk_entries.specs.Answers.Silent.{BeginsCall}
use Rattle.opfs_desk_steps.specs.RowLaws.Copied.{CopiesAreStored, IsStoredCopy}
use Rattle.opfs_desk_steps.specs.Ready.{AskedCallsAreReady}
use Rattle.opfs_desk_contents.specs.Commits.Steps.{IsContentFor, IsContentPlanned}
use Rattle.opfs_desk_contents.proofs.commits.Asked.{bytes-are, stood, stored-copy}
use Rattle.opfs_desk_steps.proofs.book_steps.LaidStays.{LaidBeside}

-- ---- pages that are the same

module _ {D : Type 0} (w : DiskWords D) (beside : LaidBeside w.tells) (f : Fixed D) (recorded : Built) (base : State Text Own) (gone : List Text) (l : Ledger D) (p q : OpenPages) (agent row : ℕ)
    (same : HasSamePages agent row p.swap q.swap) (base_is : q.base ≡ p.base) (there : is_some (row_of agent row p.swap) ≡ true)
    (spaced : AreSpaced (machine_in l) (shelf recorded.rows (tree_in l) p.swap) p.space → AreSpaced (machine_in l) (shelf recorded.rows (tree_in l) q.swap) q.space) where
  rows-same : (k n : ℕ) → is_some (row_of k n q.swap) ≡ is_some (row_of k n p.swap)
  rows-same k n = elim (other-or agent row k n) [
    | inl apart ↦ ap (λ o. is_some o) (same.others k n apart)
    | inr here ↦
        subst (λ (x : ℕ). is_some (row_of k x q.swap) ≡ is_some (row_of k x p.swap)) (sym here.1)
        (subst (λ (x : ℕ). is_some (row_of x row q.swap) ≡ is_some (row_of x row p.swap)) (sym here.0) (same.there ∙ sym there))
  ]

  planned-laid : AreLaid w.tells f.opening l.books.history p.base (w.content l.journal.disk) (machine_in l) (shelf recorded.rows (tree_in l) p.swap) p.space
      → AreLaid w.tells f.opening l.books.history q.base (w.content l.journal.disk) (machine_in l) (shelf recorded.rows (tree_in l) q.swap) q.space
  planned-laid laid =
      let c = w.content l.journal.disk in
      subst (λ (b : ℕ). AreLaid w.tells f.opening l.books.history b c (machine_in l) (shelf recorded.rows (tree_in l) q.swap) q.space) (sym base_is)
      (subst (λ (es : List Entry). AreLaid w.tells f.opening es p.base c (machine_in l) (shelf recorded.rows (tree_in l) q.swap) q.space) (append-nil l.books.history)
      (beside f.opening l.books.history [] p.base c c (machine_in l) (machine_in l) (shelf recorded.rows (tree_in l) p.swap) (shelf recorded.rows (tree_in l) q.swap) p.space q.space
      (record {
        go_on = record { none = λ k n. tt; stay = λ k n i within. subst (λ (ps : List Page). i < length ps) (sym (pages-same agent row p.swap q.swap same k n)) within };
        alike = λ t k n i within. ap (λ (ps : List Page). page_of c p.base (slice_index_or ps i blank)) (pages-same agent row p.swap q.swap same k n);
        swap_rows = rows-same;
        open_rows = λ k n. refl;
      })
      (spaced laid.spaced) laid))

  pub planned-held : AreHeldAt w f recorded base gone l p → AreHeldAt w f recorded base gone l q
  planned-held held = record {
    books = held.books;
    laid = planned-laid held.laid;
    tied = record {
      range = held.tied.range;
      base = base_is ∙ held.tied.base;
      size = held.tied.size;
      freed = held.tied.freed;
      agents = held.tied.agents;
      keys = held.tied.keys;
      quota = held.tied.quota;
      few = λ none. same.kept ∙ held.tied.few none;
    };
    fresh = held.fresh;
  }

-- ---- the parts are kept

module _ {D : Type 0} (w : DiskWords D) (beside : LaidBeside w.tells) (keep : ReadsKeepTheBooks w) (most : (d : D) → w.faults d ≤ 2 ^ 64 - 1) (f : Fixed D) (recorded : Built) (l now : Ledger D) (p q : OpenPages) (agent row : ℕ)
    (held : AreHeldWhole w f recorded l p) (books : now.books ≡ l.books) (freed : vec_capacity l.freed ≤ vec_capacity now.freed) (reads : Reads w l.journal now.journal) (there : is_some (row_of agent row p.swap) ≡ true) (same : HasSamePages agent row p.swap q.swap)
    (base_is : q.base ≡ p.base) (spaced : (m : Machine) (other : Tree) → AreSpaced m (shelf other (tree_in l) p.swap) p.space → AreSpaced m (shelf other (tree_in l) q.swap) q.space) where
  read-first : AreHeldAt w f recorded (state_after f.opening l.books.history) [] now p
  read-first = read-held w f l now books reads keep most recorded (state_after f.opening l.books.history) [] p freed held

  spaced-then : AreSpaced (machine_in now) (shelf recorded.rows (tree_in now) p.swap) p.space → AreSpaced (machine_in now) (shelf recorded.rows (tree_in now) q.swap) q.space
  spaced-then =
      subst (λ (b : Books StateSeen). AreSpaced b.state.store.machine (shelf recorded.rows b.state.store.tree p.swap) p.space → AreSpaced b.state.store.machine (shelf recorded.rows b.state.store.tree q.swap) q.space) (sym books)
      (spaced (machine_in l) recorded.rows)

  pub read-parts : AreHeldWhole w f recorded now q
  read-parts =
      subst (λ (b : Books StateSeen). AreHeldAt w f recorded (state_after f.opening b.history) [] now q) (sym books)
      (planned-held w beside f recorded (state_after f.opening l.books.history) [] now p q agent row same base_is there spaced-then read-first)

-- ---- and the pages are of the row

module _ {D : Type 0} (w : DiskWords D) (l now : Ledger D) (p q : OpenPages) (calls : List Entry) (c : ReadyCall) (work : WorkingCopy) (n : ℕ) (number : n ≡ row_named c.op)
    (same : HasSamePages c.agent n p.swap q.swap) (base_is : q.base ≡ p.base) (read : w.tells → w.content now.journal.disk ≡ w.content l.journal.disk) (paged : IsPaged work)
    (writes : WriteList) (staged : IsStagedWhole w (record { ledger = l; pages = p }) c.agent n work writes) where
  abbrev row : ℕ
  row = row_named c.op

  same-row : pages_at c.agent row q.swap ≡ pages_at c.agent row p.swap
  same-row = subst (λ (i : ℕ). pages_at c.agent i q.swap ≡ pages_at c.agent i p.swap) number same.same

  staged-row : IsStagedWhole w (record { ledger = l; pages = p }) c.agent row work writes
  staged-row = subst (λ (i : ℕ). IsStagedWhole w (record { ledger = l; pages = p }) c.agent i work writes) number staged

  pub content-of : (f : Fixed D) → IsStoredCopy w f now q calls c.agent row work → (text : Text) → row_bytes (state_after f.opening (now.books.history ++ calls)) c.agent row ≡ Some text → work.length ≡ length text
      → IsPutOf w.tells work (w.content now.journal.disk) q.base q.swap c.agent row (all_of work.length) writes text text
  content-of f stored text is size = record {
    was = p.swap;
    content = w.content l.journal.disk;
    staged = subst (λ (b : ℕ). IsStagedWhole w (record { ledger = l; pages = record p { base = b } }) c.agent row work writes) (sym base_is) staged-row;
    same = same-row;
    alike = λ t i. (λ j. page_of (read t j) q.base (slice_index_or (same-row j) i blank));
    paged = paged;
    copy = λ t. stored.copy t text is;
    held = λ t.
        subst (λ (ps : List Page). AreHeld text work (w.content l.journal.disk) q.base ps) same-row
        (subst (λ (x : List ℕ). AreHeld text work x q.base (pages_at c.agent row q.swap)) (read t) (stored.held t text is));
    after_is = ap (λ (k : ℕ). changed text 0 [] k) size ∙ stored_is text;
  }

-- ---- all of it, over the parts as they are now

module _ {D : Type 0} (w : DiskWords D) (l now : Ledger D) (p q : OpenPages) (c : ReadyCall) (work : WorkingCopy) (n : ℕ) (number : n ≡ row_named c.op) (books : now.books ≡ l.books) where
  abbrev row-now : ℕ
  row-now = row_named c.op

  pub asked-now : (f : Fixed D) (calls : List Entry) → IsAsked w.tells f.opening l.books.history calls l.books.state c work [] → IsAsked w.tells f.opening now.books.history calls now.books.state c work []
  asked-now f calls asked = subst (λ (b : Books StateSeen). IsAsked w.tells f.opening b.history calls b.state c work []) (sym books) asked

  pub planned-is : (plan : Plan) (recorded : Tree) → AreSpaced (machine_in l) (shelf recorded (tree_in l) p.swap) p.space → w.size now.journal.disk ≡ w.size l.journal.disk → plan.put.pages ≡ blocks work.length
      → IsPutReady w.tells (w.content now.journal.disk) q.base q.swap c.agent n (blocks work.length) plan.put.writes plan.put.moves (vec_capacity plan.put.extents) → HasBytes plan.put.writes []
      → ((m : Machine) (other : Tree) → AreSpaced m (shelf other (tree_in l) p.swap) p.space
      → AreGotten plan.put.taken m (shelf other (tree_in l) q.swap) q.space q.base (w.size l.journal.disk) c.agent n (blocks work.length) plan.put.writes [] plan.put.extents.items)
      → row_file (machine_in l) c.agent n ≡ Some plan.place → plan.runs.items ≡ [] → plan.copy.items ≡ [] → blocks work.length ≤ vec_capacity plan.runs → blocks work.length ≤ vec_capacity plan.copy
      → IsContentPlanned w (record { ledger = now; pages = q }) c.agent row-now work.length plan
  planned-is plan recorded spaced size count ready has_bytes gotten file empty none room space = record {
    count = count;
    ready =
        subst (λ (i : ℕ). IsPutReady w.tells (w.content now.journal.disk) q.base q.swap c.agent i plan.put.pages plan.put.writes plan.put.moves (vec_capacity plan.put.extents)) number
        (subst (λ (i : ℕ). IsPutReady w.tells (w.content now.journal.disk) q.base q.swap c.agent n i plan.put.writes plan.put.moves (vec_capacity plan.put.extents)) (sym count) ready);
    bytes = has_bytes;
    gotten =
        subst (λ (b : Books StateSeen). AreGotten plan.put.taken b.state.store.machine (shelf [] b.state.store.tree q.swap) q.space q.base (w.size now.journal.disk) c.agent row-now plan.put.pages plan.put.writes [] plan.put.extents.items) (sym books)
        (subst (λ (i : ℕ). AreGotten plan.put.taken (machine_in l) (shelf [] (tree_in l) q.swap) q.space q.base i c.agent row-now plan.put.pages plan.put.writes [] plan.put.extents.items) (sym size)
        (subst (λ (i : ℕ). AreGotten plan.put.taken (machine_in l) (shelf [] (tree_in l) q.swap) q.space q.base (w.size l.journal.disk) c.agent i plan.put.pages plan.put.writes [] plan.put.extents.items) number
        (subst (λ (i : ℕ). AreGotten plan.put.taken (machine_in l) (shelf [] (tree_in l) q.swap) q.space q.base (w.size l.journal.disk) c.agent n i plan.put.writes [] plan.put.extents.items) (sym count)
        (gotten-any plan.put.taken (machine_in l) (machine_in l) recorded [] (tree_in l) q.swap q.space q.base (w.size l.journal.disk) c.agent n (blocks work.length) plan.put.writes [] plan.put.extents.items (gotten (machine_in l) recorded spaced)))));
    file =
        subst (λ (b : Books StateSeen). row_file b.state.store.machine c.agent row-now ≡ Some plan.place) (sym books)
        (subst (λ (i : ℕ). row_file (machine_in l) c.agent i ≡ Some plan.place) number file);
    empty = empty;
    none = none;
    room = omega (arith, room, count);
    space = omega (arith, space, count);
  }

  module _ (asks : AskedCallsAreReady w) (follow : LengthsFollowEachCall) (local : LocalCallsAreKnownByTheirWord) (copies : CopiesAreStored w) (calls : List Entry) (word : stores_row (machine_in l) c.agent c.op ≡ true)
      (same : HasSamePages c.agent n p.swap q.swap) (base_is : q.base ≡ p.base) (read : w.tells → w.content now.journal.disk ≡ w.content l.journal.disk) (paged : IsPaged work)
      (writes : WriteList) (staged : IsStagedWhole w (record { ledger = l; pages = p }) c.agent n work writes) where
    one-text : (a b : Text) → ◌≡◌ {A = Option Text} (Some a) (Some b) → a ≡ b
    one-text a b is = cc

    pub content-for : IsContentFor w (record { ledger = now; pages = q }) calls c work writes
    content-for f recorded held asked text is =
        let begins : BeginsCall w f recorded now q calls c work [] = record { held = held; asked = asked } in
        let agent = (asks.taken f recorded now q calls c work [] held asked).agent in
        let word_now : stores_row (machine_in now) c.agent c.op ≡ true = subst (λ (b : Books StateSeen). stores_row b.state.store.machine c.agent c.op ≡ true) (sym books) word in
        let it = stood w follow local f recorded now q calls c work begins agent word_now in
        let text_is : it.copy.bytes ≡ text = one-text it.copy.bytes text (sym (bytes-are w follow local f recorded now q calls c work begins agent word_now) ∙ is) in
        content-of w l now p q calls c work n number same base_is read paged writes staged f (stored-copy w follow local f recorded now q calls c work begins agent word_now copies) text is (it.copy.size ∙ ap length text_is)
