-- A row's content was stored with its call, and its row is left: all is kept.
use Rattle.std.proofs.Common.{◌≡◌, ◌≢◌, ◌⊎◌, ℕ, ◌+◌, ◌*◌, ◌<◌, zero, suc, slice_index, slice_index_or, Bool, true, false, is_some, List, [], ◌∷◌, ◌++◌, length, unwrap_or, option_map, Option, Some, None, refl, sym, ap, subst, ◌∙◌, inl, inr, append-nil, arith}
use Rattle.std.proofs.lemmas.Bool.{cases_Bool, false≢true}
use Rattle.std.specs.Prelude.{IsTrue}
use Rattle.opfs_store.specs.Acts.Acting.{row_left, told_entry, unread_gift, StandsForLeft}
use Rattle.opfs_store.specs.declared.acts.acted.Gift.TheVariants as gift
use Rattle.opfs_base.specs.Blocks.{blocks}
use Rattle.opfs_base.specs.Places.{Place}
use Rattle.opfs_base.specs.Texts.{Text}
use Rattle.opfs_base.specs.declared.extents.Extent.{Extent}
use Rattle.opfs_blocks.specs.Sets.{blocks_of, AreBelow}
use Rattle.opfs_books.specs.Stored.Laws.{CallsAreSpelled, CallsMayFail}
use Rattle.opfs_books.specs.Stored.Spelled.{bytes_stored}
use Rattle.opfs_books.specs.Laws.Books.{Fixed}
use Rattle.opfs_books.specs.Laws.Laws.{told, BooksKeepTheState, ShowsTold}
use Rattle.opfs_books.proofs.laws.Told.{next-reply, next-state}
use Rattle.opfs_codec.specs.declared.change.Change.{Change as Spelled}
use Rattle.opfs_codec.specs.declared.change.Change.TheVariants.{Content}
use Rattle.opfs_store.specs.Copies.Copies.{IsCopyOf, StandsFor}
use Rattle.opfs_data.specs.Pages.{blank, page_of}
use Rattle.opfs_data.specs.Rows.{no_row, page_at, pages_at, row_of}
use Rattle.opfs_pages.specs.HistoryLaws.Laid.{AreLaid}
use Rattle.opfs_pages.specs.HistoryLaws.Laws.{CallsLeaveOtherRows, TreesKeepBlocks}
use Rattle.opfs_pages.specs.HistoryLaws.Open.{file_in, if_open, is_stream, open_at, OthersStayOpen}
use Rattle.opfs_pages.specs.HistoryLaws.Hands.{row_in_hand}
use Rattle.opfs_pages.specs.HistoryLaws.Putting.{AllReadAlike}
use Rattle.opfs_pages.specs.HistoryLaws.RowsAfter.{CallsChangeTheirRow, IsDone}
use Rattle.opfs_pages.specs.HistoryLaws.Spaced.{AreSpaced, Shelf}
use Rattle.opfs_pages.specs.HistoryLaws.Told.{OthersReadAlike}
use Rattle.opfs_pages.proofs.history_laws.Copied.{left-stands}
use Rattle.opfs_pages.proofs.history_laws.Holding.{spaced-blocks}
use Rattle.opfs_pages.proofs.history_laws.Leaving.{open-is}
use Rattle.opfs_hist.specs.Sums.{asks_for_row}
use Rattle.opfs_hist.specs.declared.entry.Entry.{Entry}
use Rattle.opfs_hist.specs.declared.reply.Reply.TheVariants as reply
use Rattle.opfs_laws.specs.Histories.Unread.{ArePendingFor}
use Rattle.opfs_image.specs.Superblock.{areas_of}
use Rattle.opfs_laws.specs.Leaving.{ACallMovesItsAgent, IsMoved}
use Rattle.opfs_laws.specs.Lengths.Kept.{Kept}
use Rattle.opfs_laws.specs.Lengths.Outlines.{in_lengths_of}
use Rattle.opfs_machine.specs.declared.own.Outline.{Outline}
use Rattle.opfs_machine.specs.declared.own.Own.{Own}
use Rattle.opfs_machine.specs.declared.own.Own.TheVariants as own
use Rattle.opfs_machine.specs.declared.state.State.{State}
use Rattle.opfs_machine.specs.Agents.{agent_of, own_of}
use Rattle.opfs_machine.specs.Changes.{Change}
use Rattle.opfs_machine.specs.Contents.{outline_of}
use Rattle.opfs_machine.specs.Histories.{state_after}
use Rattle.opfs_machine.specs.Replies.{bytes_at, row_named, sizes_in, sizes_of}
use Rattle.opfs_machine.specs.Steps.{after_reply}
use Rattle.opfs_outside.specs.declared.disk.Disk.{Ghosts as DiskWords}
use Rattle.opfs_pages.specs.Copies.{IsBegun}
use Rattle.opfs_records.specs.Replay.Built.{Built}
use Rattle.opfs_pages.specs.RowCalls.Plans.{shelf}
use Rattle.opfs_records.specs.Checkpoint.Written.{stored_rows}
use Rattle.opfs_space.specs.Files.{IsChangedAt}
use Rattle.opfs_space.specs.Room.{Machine}
use Rattle.opfs_space.specs.Spaces.{SpaceSeen}
use Rattle.opfs_state.specs.Applied.{StateSeen}
use Rattle.opfs_laws.specs.Steady.Steady.{open_bytes, row_bytes}
use Rattle.opfs_tree.specs.Rows.{Rows as Tree, file_at as file_in_tree}
use Rattle.opfs_tree.specs.declared.row.FileRow.{FileRow}
use Rattle.opfs_work.specs.Works.{contents, WorkingCopy}
use Rattle.opfs_desk_contents.specs.Blocks.{AreGone, ContentsKeepBlocks, IsContentIn, StaysWithFile}
use Rattle.opfs_desk_contents.specs.Rows.{StoresFile}
use Rattle.opfs_desk_contents.specs.Storing.{AreRunsOf, HasStoredPages}
use Rattle.opfs_desk_contents.specs.Words.{ends_row, is_storing, size_stored, stamp_stored}
use Rattle.opfs_desk_contents.proofs.Storable.{answered-on, file-on, no-eviction, told-alike}
use Rattle.opfs_desk_contents.proofs.Stowed.{spelled-runs}
use Rattle.opfs_desk_entries.specs.KeptBack.Changing.{IsChangeShown}
use Rattle.opfs_desk_entries.proofs.kept_back.Shown.{way-ended}
use Rattle.opfs_desk_steps.specs.Parts.Acted.{HasActed, IsWayEnded}
use Rattle.opfs_desk_steps.specs.Parts.Answered.{IsAnswered}
use Rattle.opfs_desk_steps.specs.Parts.Held.{AreHeldAt, AreHeldWhole}
use Rattle.opfs_desk_steps.specs.Parts.Seen.{book_in, call_in, machine_in, tree_in}
use Rattle.opfs_desk_steps.specs.declared.parts.call.ReadyCall.{ReadyCall}
use Rattle.opfs_desk_steps.specs.declared.parts.parts.Ledger.{Ledger}
use Rattle.opfs_desk_steps.specs.declared.parts.parts.OpenPages.{OpenPages}
use Rattle.opfs_desk_steps.specs.declared.parts.parts.DeskParts.{DeskParts}
use Rattle.opfs_desk_steps.specs.RowLaws.InHand.{HasInHand, HasNoPages, HasPages, RowsInHandAreLaid}
use Rattle.opfs_desk_steps.specs.Acting.{HasTaken, CallsAreActed}
use Rattle.opfs_desk_steps.proofs.book_steps.Alike.{leaves-alike}
use Rattle.opfs_desk_steps.proofs.book_steps.Held.{behind}
use Rattle.opfs_desk_steps.proofs.book_steps.Loop.{Falls}
use Rattle.opfs_state_rows.specs.Standing.Seen.{lines_of}
use Rattle.opfs_desk_contents.specs.Commits.Steps.{IsFlushed, LeavesRow}
use Rattle.opfs_desk_contents.proofs.commits.Alone.{streams-beside}
use Rattle.opfs_desk_contents.proofs.commits.Changes.{lets-go, limits-stay, tree-changed}
use Rattle.opfs_desk_contents.proofs.commits.Gone.{all-below, are-gone}
use Rattle.opfs_desk_contents.proofs.commits.StoredRows.{IsClosedRow, IsFlushedRow, StoresRow, row-closed, row-flushed}
use Rattle.opfs_desk_contents.proofs.commits.Words.{in-hand, leaves-named, leaves-none, makes-none, no-gift, not-near}

some-file : (o : Option Outline) (place : Place) → file_in o ≡ Some place → is_some o ≡ true
some-file None place is = cc
some-file (Some r) place is = refl

no-owner : (n : ℕ) → suc n ≡ 0 → ⊥
no-owner n is = omega (arith, is)

-- The blocks of a row's pages are blocks of the space.
pub runs-below : {D : Type 0} (w : DiskWords D) (f : Fixed D) (recorded : Built) (base : State Text Own) (l : Ledger D) (p : OpenPages) (agent row pages : ℕ) (runs : List Extent) → AreHeldAt w f recorded base [] l p → AreRunsOf p.swap agent row pages runs → AreBelow (length p.space.used) (blocks_of runs)
runs-below w f recorded base l p agent row pages runs are is =
    let blocks_are = spaced-blocks (machine_in l) (shelf recorded.rows (tree_in l) p.swap) p.space are.laid.spaced in
    all-below (blocks_of runs) (length p.space.used) (λ b has. let page = is.of_row b has in (blocks_are.pages agent row page.0 b page.1).0)

-- A call that stores a row's content, and may come now: what it stores, and the working copy that it hands in.
pub record StoresCall {D : Type 0} (w : DiskWords D) (f : Fixed D) (mid : Ledger D) (c : ReadyCall) (work : WorkingCopy) (place : Place) (text : Text) (reserve : ℕ) : Type 0 where
  pub storing : is_storing c.op ≡ true
  pub live : IsTrue (agent_of (state_after f.opening mid.books.history) c.agent).live
  pub sizes : c.sizes ≡ sizes_of (state_after f.opening mid.books.history) c.agent c.op
  pub answered : IsAnswered w (state_after f.opening mid.books.history) [] mid (told_entry (call_in c) reply.Done) c.sizes
  pub stores : StoresRow (state_after f.opening mid.books.history) c.agent c.op place text reserve
  pub file : StoresFile (machine_in mid) c.agent c.op place reserve
  pub opened : file_in (open_at (machine_in mid) c.agent (row_named c.op)) ≡ Some place
  pub some : row_named c.op ≢ 0
  pub row : Own
  pub there : own_of (agent_of (state_after f.opening mid.books.history) c.agent) (row_named c.op) ≡ Some row
  pub size : work.length ≡ length text
  pub same : w.tells → contents (slice_index text) work ≡ text
  pub position : work.position ≡ (sizes_in (state_after f.opening mid.books.history) (Some row)).position

module _ {D : Type 0} (w : DiskWords D) (f : Fixed D) (mid : Ledger D) (p : OpenPages) (c : ReadyCall) (work : WorkingCopy) (place : Place) (text : Text) (reserve : ℕ) (call : StoresCall w f mid c work place text reserve)
    (pages : ℕ) (many : pages ≡ blocks work.length) (new : DeskParts D) (runs : List Extent) (done : HasStoredPages w f (record { ledger = mid; pages = p }) new (told_entry (call_in c) reply.Done) c.sizes c.agent (row_named c.op) pages place runs text)
    (q : OpenPages) (made : WorkingCopy) (alone : Bool) (gone : List Extent) (left : LeavesRow new.pages q c.agent (row_named c.op) alone gone runs (ends_row c.op) work made)
    (freed : gone ≡ new.ledger.freed.items) (lone : alone ≡ true → (x : FileRow) → file_in_tree place (tree_in mid) ≡ Some x → x.lock.1 < 2) (lines : (machine_in mid).rows ≡ lines_of (tree_in mid)) where
  abbrev base : State Text Own
  base = state_after f.opening mid.books.history

  abbrev e : Entry
  e = told_entry (call_in c) reply.Done

  abbrev n : ℕ
  n = row_named c.op

  abbrev back : Ledger D
  back = done.back

  abbrev are : AreHeldAt w f done.cleared.recorded base [] back new.pages
  are = done.cleared.are

  abbrev d : List ℕ
  d = w.content new.ledger.journal.disk

  abbrev after : State Text Own
  after = after_reply base c.agent c.op reply.Done

  answered-back : IsAnswered w base [] back e c.sizes
  answered-back = answered-on w base mid back e c.sizes done.state done.entries call.answered

  state-is : state_after f.opening new.ledger.books.history ≡ after
  state-is =
      ap (λ (es : List Entry). state_after f.opening es) done.stored.entries
      ∙ (next-state w.tells f.opening back.books.history base [] are.books.told e answered-back.next
      ∙ next-reply w.tells f.opening back.books.history base [] are.books.told e answered-back.next)

  pub machine-is : machine_in new.ledger ≡ in_lengths_of after
  machine-is = done.stored.books.machine ∙ ap in_lengths_of state-is

  machine-back : machine_in back ≡ in_lengths_of base
  machine-back = are.books.machine

  kept-back : Kept (machine_in back)
  kept-back = answered-back.change.kept

  file-back : StoresFile (machine_in back) c.agent c.op place reserve
  file-back = file-on mid back e place reserve done.state call.file

  opened-back : file_in (open_at (machine_in back) c.agent n) ≡ Some place
  opened-back = subst (λ (s : StateSeen). file_in (open_at s.store.machine c.agent n) ≡ Some place) (sym done.state) call.opened

  is-done : IsDone base c.agent reply.Done
  is-done = record { live = call.live; done = refl }

  length-is : length text ≡ work.length
  length-is = sym call.size

  -- ---- pages read as before

  alike : w.tells → AllReadAlike new.pages.base (w.content back.journal.disk) d new.pages.swap new.pages.swap
  alike t =
      let areas : back.journal.areas ≡ areas_of f.geometry = are.books.areas in
      let first : back.journal.areas.first ≡ (areas_of f.geometry).first = ap (λ a. a.first) areas in
      let size : back.journal.areas.bytes ≡ (areas_of f.geometry).bytes = ap (λ a. a.bytes) areas in
      leaves-alike w back.journal new.ledger.journal new.pages.base new.pages.swap (omega (arith, first, size, are.tied.base, behind w f f.geometry)) done.stored.leaves t

  read : w.tells → OthersReadAlike new.pages.base (w.content back.journal.disk) d new.pages.swap q.swap c.agent n
  read t k i j apart within = ap (λ x. page_of d new.pages.base (slice_index_or (unwrap_or x no_row).pages j blank)) (left.others k i apart) ∙ alike t k i j within

  -- ---- the row that is left

  closed : CallsChangeTheirRow → ends_row c.op ≡ true → IsClosedRow after c.agent n
  closed changes ends = row-closed changes base c.agent reply.Done is-done place text reserve c.op call.stores ends

  flushed : CallsChangeTheirRow → ends_row c.op ≡ false → IsFlushedRow after c.agent n place text (sizes_of base c.agent c.op).position
  flushed changes ends = row-flushed changes base c.agent reply.Done is-done place text reserve c.op call.stores ends

  open-after : (changes : CallsChangeTheirRow) (ends : ends_row c.op ≡ false) → open_at (in_lengths_of after) c.agent n ≡ if_open (Some (outline_of (own.Handle (flushed changes ends).row)))
  open-after changes ends = open-is after c.agent n ∙ ap (λ (o : Option Own). if_open (option_map outline_of o)) (flushed changes ends).there

  stays-with : (changes : CallsChangeTheirRow) → ends_row c.op ≡ false → StaysWithFile (in_lengths_of after) new.pages.swap q.swap c.agent n place
  stays-with changes ends = record {
    same = left.same ends;
    file = ap (λ (o : Option Outline). file_in o) (open-after changes ends) ∙ ap Some (flushed changes ends).file;
    handle = ap (λ (o : Option Outline). is_stream o) (open-after changes ends);
  }

  gone-or : CallsChangeTheirRow → (row_of c.agent n q.swap ≡ None) ⊎ StaysWithFile (in_lengths_of after) new.pages.swap q.swap c.agent n place
  gone-or changes = elim (cases_Bool (ends_row c.op)) [ inl ends ↦ inl (left.gone ends) | inr stays ↦ inr (stays-with changes stays) ]

  -- ---- blocks

  others-open : CallsLeaveOtherRows → OthersStayOpen (machine_in back) (in_lengths_of after) c.agent n
  others-open leave =
      subst (λ (i : ℕ). OthersStayOpen (machine_in back) (in_lengths_of after) c.agent i) (in-hand base c.agent c.op call.storing)
      (subst (λ (m : Machine). OthersStayOpen m (in_lengths_of after) c.agent (row_in_hand base c.agent c.op)) (sym machine-back) (leave.called base c.agent c.op reply.Done call.live))

  limits : (in_lengths_of after).limits ≡ (machine_in back).limits
  limits = ap (λ (m : Machine). m.limits) (sym machine-is ∙ done.stored.machine) ∙ limits-stay (machine_in back) c.sizes c.agent c.op call.storing

  module _ (contents : ContentsKeepBlocks) (trees : TreesKeepBlocks) (leave : CallsLeaveOtherRows) (changes : CallsChangeTheirRow) where
    in-content : IsContentIn (machine_in back) (in_lengths_of after) done.cleared.recorded.rows (tree_in back) (tree_in new.ledger) new.pages.swap q.swap new.pages.space c.agent n pages place runs
    in-content = record {
      spaced = are.laid.spaced;
      file = opened-back;
      others = others-open leave;
      limits = limits;
      order = done.order;
      order_now = done.order_now;
      changed =
          subst (λ (t : Tree). IsChangedAt place (blocks_of runs) (tree_in back) t) (sym done.stored.tree)
          (tree-changed trees (tree_in back) place runs done.file done.there (machine_in back) c.agent c.op c.sizes reserve file-back);
      runs_are = done.runs_are;
      plain = done.content.plain;
      stay = left.others;
      left = gone-or changes;
      streams = λ k i is apart. streams-beside (machine_in back) kept-back c.agent c.op place reserve file-back k i is apart;
    }

    gone-is : gone ≡ done.file.extents
    gone-is = freed ∙ done.stored.freed ∙ lets-go trees (tree_in back) place runs done.file done.there (machine_in back) c.agent c.op reserve file-back

    freed-blocks : AreGone (machine_in back) (tree_in back) c.agent n place alone gone
    freed-blocks =
        are-gone (machine_in back) (tree_in back) c.agent n place done.file alone gone kept-back (subst (λ (s : StateSeen). s.store.machine.rows ≡ lines_of s.store.tree) (sym done.state) lines) done.there gone-is opened-back
        (subst (λ (s : StateSeen). alone ≡ true → (x : FileRow) → file_in_tree place s.store.tree ≡ Some x → x.lock.1 < 2) (sym done.state) lone)

    spaced-now : AreSpaced (in_lengths_of after) (shelf (stored_rows (tree_in new.ledger)) (tree_in new.ledger) q.swap) q.space
    spaced-now =
        subst (λ (x : SpaceSeen). AreSpaced (in_lengths_of after) (shelf (stored_rows (tree_in new.ledger)) (tree_in new.ledger) q.swap) x) (sym left.space)
        (contents (machine_in back) (in_lengths_of after) done.cleared.recorded.rows (tree_in back) (tree_in new.ledger) new.pages.swap q.swap new.pages.space c.agent n pages place runs in-content alone gone freed-blocks)

    -- ---- pages

    has-in-hand : HasInHand base e n
    has-in-hand = record { plain = no-eviction c.op call.storing; live = call.live; in_hand = in-hand base c.agent c.op call.storing }

    no-pages : ends_row c.op ≡ true → HasNoPages w.tells new.pages.base (w.content back.journal.disk) d new.pages.swap q.swap c.agent n
    no-pages ends = record { others = left.others; read = read; gone = left.gone ends }

    within : (i : ℕ) → 4096 * i < length text → i < pages
    within i less = omega (arith, less, many, length-is)

    count-now : ends_row c.op ≡ false → length (pages_at c.agent n q.swap) ≡ pages
    count-now stays = ap (λ x. length (unwrap_or x no_row).pages) (left.same stays) ∙ done.content.plain.count

    told-page : ends_row c.op ≡ false → (t : w.tells) (i : ℕ) → 4096 * i < length text → IsBegun text i (page_of d new.pages.base (page_at c.agent n i q.swap))
    told-page stays t i less =
        let inside : i < length (pages_at c.agent n new.pages.swap) = let count = done.content.plain.count in let is = within i less in omega (arith, count, is) in
        subst (λ (xs : List ℕ). IsBegun text i xs)
        (sym (ap (λ x. page_of d new.pages.base (slice_index_or (unwrap_or x no_row).pages i blank)) (left.same stays) ∙ alike t c.agent n i inside)) (done.content.told t i (within i less))

    has-pages : ends_row c.op ≡ false → HasPages w.tells new.pages.base (w.content back.journal.disk) d new.pages.swap q.swap c.agent n text
    has-pages stays = record {
      others = left.others;
      read = read;
      here = ap (λ x. is_some x) (left.same stays) ∙ are.laid.rows c.agent n ∙ some-file (open_at (machine_in back) c.agent n) place opened-back;
      there = λ i less. let count = count-now stays in let is = within i less in omega (arith, count, is);
      told = told-page stays;
    }

    bytes-after : ends_row c.op ≡ false → row_bytes after c.agent n ≡ Some text
    bytes-after stays =
        let row = flushed changes stays in
        ap (open_bytes after) row.there ∙ ap (λ (x : Place). Some (bytes_at after x)) row.file ∙ ap Some row.text

    module _ (laying : RowsInHandAreLaid w) where
      abbrev shelf-now : Shelf
      shelf-now = shelf (stored_rows (tree_in new.ledger)) (tree_in new.ledger) q.swap

      laid : AreLaid w.tells f.opening (back.books.history ++ e ∷ []) new.pages.base d (in_lengths_of after) shelf-now q.space
      laid = elim (cases_Bool (ends_row c.op)) [
        | inl ends ↦
            let row = closed changes ends in
            laying.closed_row f done.cleared.recorded base [] back new.pages d e n shelf-now q.space are has-in-hand row.none (ap (λ x. is_some x) row.shut) (no-pages ends) spaced-now
        | inr stays ↦ laying.open_row f done.cleared.recorded base [] back new.pages d e n text shelf-now q.space are has-in-hand (bytes-after stays) (has-pages stays) spaced-now
      ]

      pub held-now : AreHeldWhole w f (book_in new.ledger).rows new.ledger q
      held-now = record {
        books = done.stored.books;
        laid =
            subst (λ (b : ℕ). AreLaid w.tells f.opening new.ledger.books.history b d (machine_in new.ledger) shelf-now q.space) (sym left.base)
            (subst (λ (es : List Entry). AreLaid w.tells f.opening es new.pages.base d (machine_in new.ledger) shelf-now q.space) (sym done.stored.entries)
            (subst (λ (m : Machine). AreLaid w.tells f.opening (back.books.history ++ e ∷ []) new.pages.base d m shelf-now q.space) (sym machine-is) laid));
        tied = record {
          range = done.stored.tied.range;
          base = left.base ∙ done.stored.tied.base;
          size = done.stored.tied.size;
          freed = done.stored.tied.freed;
          agents = done.stored.tied.agents;
          keys = done.stored.tied.keys;
          quota = done.stored.tied.quota;
          few = λ none. omega (arith, left.kept, done.stored.tied.few none);
        };
        fresh = λ none. refl;
      }

    -- ---- the working copy

    left-handle : (stays : ends_row c.op ≡ false) → IsFlushed work made → IsCopyOf w.tells after (own.Handle (flushed changes stays).row) made
    left-handle stays is =
        let row = flushed changes stays in
        record {
          bytes = text;
          open_row = ap (λ (x : Place). Some (bytes_at after x)) row.file ∙ ap Some row.text;
          size = is.size ∙ sym length-is;
          same = λ t. (is.copy text (record { same = call.same t })).same;
          position = is.position ∙ call.position ∙ sym (row.cursor ∙ ap (λ (o : Option Own). (sizes_in base o).position) call.there);
          reserve = is.reserve ∙ sym row.kept;
        }

    stands : ends_row c.op ≡ false → StandsFor w.tells f.opening new.ledger.books.history c.agent n made
    stands stays =
        let is = left.flushed stays in
        let row = flushed changes stays in
        let same : state_after f.opening (back.books.history ++ e ∷ []) ≡ after = ap (state_after f.opening) (sym done.stored.entries) ∙ state-is in
        subst (λ (es : List Entry). StandsFor w.tells f.opening es c.agent n made) (sym done.stored.entries)
        (left-stands w.tells f.opening back.books.history e n (own.Handle row.row) made refl refl call.some (inl refl) is.paged
        (ap (λ (x : State Text Own). own_of (agent_of x c.agent) n) same ∙ row.there)
        (subst (λ (x : State Text Own). IsCopyOf w.tells x (own.Handle row.row) made) (sym same) (left-handle stays is)))

    left-row : (rows i : ℕ) → row_left rows c.op ≡ i → StandsForLeft w.tells f.opening new.ledger.books.history c.agent i made
    left-row rows zero is = tt
    left-row rows (suc i) is = elim (cases_Bool (ends_row c.op)) [
      | inl ends ↦ absurd (no-owner i (sym is ∙ leaves-none rows c.op call.storing ends))
      | inr stays ↦ subst (λ (j : ℕ). StandsFor w.tells f.opening new.ledger.books.history c.agent j made) (sym (leaves-named rows c.op call.storing stays) ∙ is) (stands stays)
    ]

  -- ---- what the images show

  abbrev change : Spelled
  change = Content place.0 place.1 (stamp_stored (machine_in back) c.agent c.op done.file) (size_stored c.sizes c.op done.file) done.file.extents

  shown-is : IsChangeShown w f base [] back new.ledger e change
  shown-is =
      let is = done.stored.shown in
      let stamp = stamp_stored (machine_in back) c.agent c.op done.file in
      record {
        later = is.later;
        time = is.time;
        shown = subst (λ (x : Change). ShowsTold w f (book_in back) (told f (book_in back) ++ x ∷ []) back.journal new.ledger.journal)
            (told-alike (bytes_stored base c.agent c.op) place stamp (length text) (size_stored c.sizes c.op done.file) runs done.file.extents) is.shown;
      }

  grown : back.books.history ≡ mid.books.history ++ []
  grown = done.entries ∙ sym (append-nil mid.books.history)

  pub way : BooksKeepTheState w → CallsAreSpelled → CallsMayFail w.tells → Falls w → IsWayEnded w f mid new.ledger
  way states spells fails falls =
      way-ended w f states spells fails falls mid back new.ledger new.pages [] e c.sizes change grown done.cleared answered-back refl
      (record { lines = subst (λ (s : StateSeen). s.store.machine.rows ≡ lines_of s.store.tree) (sym done.state) lines; order = done.order })
      (spelled-runs (machine_in back) (tree_in back) c.agent c.op c.sizes place reserve done.file None file-back done.there) (no-eviction c.op call.storing) done.stored.entries shown-is

  -- ---- its agent has as many rows

  more-own : (a b : ℕ) (asked : Bool) → asked ≡ false → (b ≡ a) ⊎ ((b ≡ a + 1) × IsTrue asked) → b ≡ a
  more-own a b asked none (inl same) = same
  more-own a b asked none (inr more) = absurd (false≢true (sym none ∙ more.1))

  pub rows-now : ACallMovesItsAgent → length (agent_of base c.agent).own ≡ length (agent_of (state_after f.opening new.ledger.books.history) c.agent).own
  rows-now moves =
      let moved : IsMoved (agent_of base c.agent) c.op (agent_of after c.agent) = moves base [] c.agent c.op reply.Done call.live in
      sym (ap (λ (s : State Text Own). length (agent_of s c.agent).own) state-is ∙ more-own _ _ (asks_for_row c.op) (makes-none c.op call.storing) moved.more)

  -- ---- all of it

  pub has-acted : ContentsKeepBlocks → TreesKeepBlocks → CallsLeaveOtherRows → CallsChangeTheirRow → RowsInHandAreLaid w → ACallMovesItsAgent → BooksKeepTheState w → CallsAreSpelled → CallsMayFail w.tells → Falls w → CallsAreActed w
      → (recorded : Built) (l : Ledger D) (first : OpenPages) (calls : List Entry) → AreHeldWhole w f recorded l first → ArePendingFor w.tells (state_after f.opening l.books.history) c.agent calls → HasTaken l mid calls
      → (rows : ℕ) → rows ≡ length (agent_of base c.agent).own
      → HasActed w f (record { ledger = l; pages = first }) (record { ledger = new.ledger; pages = q }) calls (call_in c) work made (record { reply = reply.Done; gift = gift.Nothing; rows = rows })
  has-acted contents trees leave changes laying moves states spells fails falls acts recorded l first calls held pending taken rows count = record {
    held = record { recorded = (book_in new.ledger).rows; are = held-now contents trees leave changes laying; idle = done.stored.idle };
    acted = acts.acted f l mid back new.ledger calls [] c reply.Done taken (record { cleared = grown; added = done.stored.entries }) call.answered.next;
    left = record {
      refused = λ refuses. absurd (false≢true refuses);
      stands = λ yes_done. left-row contents trees leave changes (length (agent_of (state_after f.opening new.ledger.books.history) c.agent).own) (row_left (length (agent_of (state_after f.opening new.ledger.books.history) c.agent).own) c.op) refl;
      near = λ yes_done brings. absurd (false≢true (sym (not-near c.op call.storing) ∙ brings));
    };
    gift =
        let nothing = no-gift (state_after f.opening (l.books.history ++ calls)) c.op call.storing in
        record { alike = ap unread_gift (sym nothing); told = λ t. sym nothing };
    rows = count ∙ rows-now moves;
    fault = λ never. absurd (false≢true never);
    way = acts.before f recorded l mid new.ledger first c.agent calls _ held pending taken (way states spells fails falls);
  }
