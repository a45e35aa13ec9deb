-- A content that is stored again, put together from its steps.
use Rattle.std.proofs.Common.{◌≡◌, ℕ, zero, suc, true, false, List, [], ◌++◌, map, fold, length, Option, Some, None, option_map, refl, sym, ap, ◌∙◌, subst, append-nil, inr}
use Rattle.std.proofs.lemmas.Bool.{false≢true}
use Rattle.std.specs.Prelude.{IsTrue}
use Rattle.opfs_store.specs.Acts.Acting.{told_entry, row_left, IsActed, StandsForLeft, unread_gift}
use Rattle.opfs_store.specs.declared.acts.acted.Gift.TheVariants as gift
use Rattle.opfs_base.specs.Places.{Place}
use Rattle.opfs_base.specs.Texts.{Text}
use Rattle.opfs_base.specs.declared.extents.Extent.{Extent}
use Rattle.opfs_books.specs.Stored.Laws.{CallsAreSpelled, CallsMayFail}
use Rattle.opfs_books.specs.Stored.Spelled.{bytes_stored, spelled_by, CanHold}
use Rattle.opfs_books.specs.Laws.Books.{Fixed}
use Rattle.opfs_books.specs.Laws.Commits.{StateLaws}
use Rattle.opfs_books.proofs.laws.Told.{told-whole}
use Rattle.opfs_books.specs.Seen.{BytesStand}
use Rattle.opfs_codec.specs.Spelling.{AreExtents}
use Rattle.opfs_codec.specs.declared.change.Change.TheVariants.{Content}
use Rattle.opfs_commit.specs.Making.{new_bytes, told_as}
use Rattle.opfs_store.specs.Copies.Copies.{StandsFor, IsPaged}
use Rattle.opfs_data.specs.Places.{bytes_of}
use Rattle.opfs_pages.specs.HistoryLaws.Handles.{AreHandlesWhole, HandlesStayWhole}
use Rattle.opfs_hist.specs.declared.entry.Entry.{Entry}
use Rattle.opfs_hist.specs.declared.reply.Reply.TheVariants as reply
use Rattle.opfs_laws.specs.Histories.Unread.{unread}
use Rattle.opfs_laws.specs.Covered.{now_of, stored_of}
use Rattle.opfs_laws.specs.Leaving.{ACallMovesItsAgent}
use Rattle.opfs_laws.specs.Whole.{IsWhole}
use Rattle.opfs_laws.specs.Lengths.Outlines.{in_lengths_of, on_file}
use Rattle.opfs_laws.proofs.lengths.Readers.{file-on}
use Rattle.opfs_machine.specs.declared.own.HandleOutline.{HandleOutline}
use Rattle.opfs_machine.specs.declared.own.HandleRow.{HandleRow}
use Rattle.opfs_machine.specs.declared.own.Outline.TheVariants as outline
use Rattle.opfs_machine.specs.declared.own.Own.{Own}
use Rattle.opfs_machine.specs.declared.own.Own.TheVariants as own
use Rattle.opfs_machine.specs.declared.state.FileRow.{FileRow as File}
use Rattle.opfs_machine.specs.declared.state.State.{State}
use Rattle.opfs_machine.specs.Agents.{agent_of, open_handle, own_of}
use Rattle.opfs_machine.specs.Contents.{in_lengths, outline_of}
use Rattle.opfs_machine.specs.Histories.{is_disk_op, state_after}
use Rattle.opfs_machine.specs.Replies.{bytes_at, bytes_in, row_named}
use Rattle.opfs_machine.specs.Rows.{file_at}
use Rattle.opfs_machine.specs.Rulings.{is_read_write, size_in, want_of}
use Rattle.opfs_machine.specs.Runs.{eviction}
use Rattle.opfs_machine.specs.Steps.{after_reply, evicted}
use Rattle.opfs_outside.specs.declared.disk.Disk.{Ghosts as DiskWords}
use Rattle.opfs_records.specs.Replay.Applying.{can_hold}
use Rattle.opfs_records.specs.Replay.Built.{Built, named_beside}
use Rattle.opfs_laws.specs.Reserves.Reserves.{FitsOrIsStored, ReservesFitOrNothingIsUnflushed}
use Rattle.opfs_records.specs.Checkpoint.Written.{stored_file, stored_rows}
use Rattle.opfs_state_rows.specs.Standing.Seen.{Machine, lines_of}
use Rattle.opfs_state.specs.Reading.{row_file}
use Rattle.opfs_tree.specs.Rows.{Rows as Tree, IsInOrder, file_at as file_in_tree, row_at}
use Rattle.opfs_tree.specs.declared.row.FileRow.{FileRow}
use Rattle.opfs_tree.specs.declared.row.Row.TheVariants as tree_row
use Rattle.opfs_state.specs.Verdicts.Callers.{IsAgent}
use Rattle.opfs_work.specs.Works.{WorkingCopy}
use Rattle.opfs_desk_contents.specs.Rows.{IsWriterOf}
use Rattle.opfs_desk_contents.specs.Storing.{HasStored, MayStoreContent, content_now}
use Rattle.opfs_desk_contents.specs.Words.{ends_row, stamp_stored, stores_row}
use Rattle.opfs_desk_contents.proofs.Stowed.{spelled-runs, written-there}
use Rattle.opfs_desk_entries.specs.KeptBack.Changing.{HasNotChanged}
use Rattle.opfs_desk_entries.proofs.kept_back.Shown.{has-failed, way-ended}
use Rattle.opfs_desk_steps.specs.Parts.Acted.{HasActed, HasFailed, IsWayEnded}
use Rattle.opfs_desk_steps.specs.Parts.Answered.{IsAnswered}
use Rattle.opfs_desk_steps.specs.Parts.Held.{AreHeldAt, AreHeldWhole}
use Rattle.opfs_desk_steps.specs.Parts.Seen.{machine_in, tree_in, book_in, call_in, units_in}
use Rattle.opfs_desk_steps.specs.declared.parts.call.ReadyCall.{ReadyCall}
use Rattle.opfs_desk_steps.specs.declared.parts.parts.Ledger.{Ledger}
use Rattle.opfs_desk_steps.specs.declared.parts.parts.OpenPages.{OpenPages}
use Rattle.opfs_desk_entries.specs.Answers.Silent.{BeginsCall, told_act}
use Rattle.opfs_desk_entries.proofs.answers.Noted.{mid-noted}
use Rattle.opfs_desk_entries.proofs.answers.Silent.{ready}
use Rattle.opfs_desk_bytes.proofs.reading.Synced.{HandlesStand, handed}
use Rattle.opfs_desk_bytes.proofs.reading.Wholes.{pending-whole}
use Rattle.opfs_desk_steps.specs.RowLaws.Inside.{PartsLieInside}
use Rattle.opfs_desk_steps.specs.RowLaws.Stored.{FilesAreStored, HistoriesAreCleared, IsStoredAt}
use Rattle.opfs_desk_steps.specs.Acting.{CallsAreActed}
use Rattle.opfs_desk_steps.specs.Answering.{IsReply}
use Rattle.opfs_desk_steps.specs.Going.{HasTakenIn, HasMadeWay}
use Rattle.opfs_desk_steps.specs.Ready.{IsReadyCall}
use Rattle.opfs_desk_steps.proofs.Counts.{own-length}
use Rattle.opfs_desk_steps.specs.BookSteps.Clearing.{MayMakeWay, cleared_from}
use Rattle.opfs_desk_steps.proofs.book_steps.Alike.{leaves-alike}
use Rattle.opfs_desk_steps.proofs.book_steps.Loop.{Falls}
use Rattle.opfs_desk_contents.specs.Unchanged.More.{HasMoreThanReserve}
use Rattle.opfs_desk_contents.specs.Unchanged.Saving.{saves_handle}
use Rattle.opfs_desk_contents.proofs.unchanged.Entered.{HasDropped, HasEntered, SavingLaws, bytes-now, held-closed, held-left, left-after, state-is}
use Rattle.opfs_desk_contents.proofs.unchanged.Reader.{CallingLaws}
use Rattle.opfs_desk_contents.proofs.unchanged.Found.{handle-bytes-are, handle-file, not-fits, one-handle, one-outline, one-place, size-saved, stores-file}
use Rattle.opfs_desk_contents.proofs.unchanged.Own.{can-hold-own, extents-there, row-of, stored-at}
use Rattle.opfs_desk_contents.proofs.unchanged.Saved.{handle-named, row-some, rows-same, stands-left}
use Rattle.opfs_desk_contents.proofs.unchanged.Wordings.{answers-done, handle-in-bytes, leaves-named, leaves-none, no-gift, no-units, not-near, on-disk, plain, saves-word, sized, stores-writer}

-- The laws of a content that is stored again.
pub record ContentLaws {D : Type 0} (w : DiskWords D) : Type 0 where
  pub states : StateLaws
  pub spelled : CallsAreSpelled
  pub fails : CallsMayFail w.tells
  pub fits : ReservesFitOrNothingIsUnflushed
  pub inside : PartsLieInside w
  pub files : FilesAreStored w
  pub between : HistoriesAreCleared w
  pub falls : Falls w

module _ {D : Type 0} (w : DiskWords D) (laws : CallingLaws w) (content : ContentLaws w) (f : Fixed D) (recorded : Built) (l mid : Ledger D) (p : OpenPages) (calls : List Entry) (c : ReadyCall) (work : WorkingCopy)
    (begins : BeginsCall w f recorded l p calls c work []) (word : stores_row (machine_in l) c.agent c.op ≡ true) (more : HasMoreThanReserve (machine_in l) c.agent c.op) (took : HasTakenIn w f recorded l mid p calls c) where
  abbrev pub base : State Text Own
  base = state_after f.opening mid.books.history

  abbrev row : ℕ
  row = row_named c.op

  abbrev pub units : List Text
  units = units_in c.clearing.items

  abbrev pub entry : Entry
  entry = told_entry (call_in c) reply.Done

  agent-was : IsAgent (machine_in l) c.agent
  agent-was = (laws.asks.taken f recorded l p calls c work [] begins.held begins.asked).agent

  pub ready-now : IsReadyCall base mid c
  ready-now = ready w laws.asks laws.answers f recorded l mid p calls c work [] begins took

  -- Its row, through the pending calls.
  named-mid : open_handle in_lengths (machine_in mid) c.agent row ≡ Some more.handle
  named-mid = handle-named w laws.follow laws.local f recorded l mid p calls c work [] begins agent-was took row ∙ more.there

  pub handle : (x : HandleRow) × (own_of (agent_of base c.agent) row ≡ Some (own.Handle x)) × (outline_of (own.Handle x) ≡ outline.Handle more.handle)
  handle = handle-in-bytes base c.agent row more.handle (ap (λ (m : Machine). open_handle in_lengths m c.agent row) (sym took.held.books.machine) ∙ named-mid)

  abbrev pub x : HandleRow
  x = handle.0

  same-outline : record { file = x.file; mode = x.mode; reserve = x.reserve } ≡ more.handle
  same-outline = one-outline _ more.handle handle.2

  pub saves : saves_handle c.op ≡ true
  saves = saves-word (machine_in l) base c.agent c.op x word ready-now.fitting handle.1

  writer : (h : HandleOutline) × (open_handle in_lengths (machine_in l) c.agent row ≡ Some h) × (is_read_write h.mode ≡ true)
  writer = stores-writer (machine_in l) c.agent c.op saves word

  more-writes : is_read_write more.handle.mode ≡ true
  more-writes = ap (λ (h : HandleOutline). is_read_write h.mode) (one-handle more.handle writer.0 (sym more.there ∙ writer.1)) ∙ writer.2

  writes : is_read_write x.mode ≡ true
  writes = ap (λ (h : HandleOutline). is_read_write h.mode) same-outline ∙ more-writes

  -- Its units may be cleared: there are none.
  pub may-clear : MayMakeWay w mid entry c.clearing.items
  may-clear = laws.answers.clearing f recorded mid p c reply.Done took.held ready-now (on-disk base c.agent c.op x saves handle.1 writes)

  pub disk : IsTrue (is_disk_op base c.agent c.op)
  disk = on-disk base c.agent c.op x saves handle.1 writes

  none : units ≡ []
  none = no-units laws.decide base c.agent c.op units saves ready-now.judged

  -- ---- its file, all of which is stored

  whole : IsWhole base
  whole = laws.known.whole f recorded base (book_in mid) mid.journal took.held.books

  pub file : (g : File Text) × (file_at base x.file ≡ Some g)
  file = whole.files c.agent row (own.Handle x) x.file (want_of x.mode) handle.1 refl

  abbrev pub g : File Text
  g = file.0

  same-rows : (machine_in mid).rows ≡ (machine_in l).rows
  same-rows = ap (λ (m : Machine). m.rows) (mid-noted w laws.follow laws.local f recorded l p calls c work [] begins agent-was mid took)

  size-is : size_in in_lengths (file_at (machine_in l) more.handle.file) ≡ length g.present
  size-is =
      (λ i. size_in in_lengths (file_at (record (machine_in l) { rows = sym same-rows i }) (sym same-outline i).file))
      ∙ ap (λ (m : Machine). size_in in_lengths (file_at m x.file)) took.held.books.machine
      ∙ ap (λ (o : Option (File ℕ)). size_in in_lengths o) (file-on length outline_of base x.file ∙ ap (option_map (on_file length)) file.1)

  fitting : FitsOrIsStored x g
  fitting =
      let told = told-whole w.tells f.opening mid.books.history base took.held.books.told in
      content.fits.told f.opening mid.books.history told.real told.alike told.legal c.agent row x g handle.1 writes file.1

  stored : (x.reserve ≡ 0) × (now_of g ≡ stored_of g)
  stored = not-fits more.handle.reserve _ x g (ap (λ (h : HandleOutline). h.reserve) same-outline) size-is more.more fitting

  pub idle : x.reserve ≡ 0
  idle = stored.0

  even : g.present ≡ g.durable
  even = ap (λ (y : Text × ℕ). y.0) stored.1

  its : IsReply w.tells base c reply.Done
  its =
      let done = answers-done base c.sizes c.agent c.op saves in
      record { alike = ap unread (sym done); told = λ t. sym done }

  stood : StandsFor w.tells f.opening mid.books.history c.agent row work
  stood =
      subst (λ (es : List Entry). StandsFor w.tells f.opening es c.agent row work) (sym took.taken.entries)
      (handed w.tells f.opening (l.books.history ++ calls) c.agent row work (row-some base c.agent row x handle.1) begins.asked.may.copy)

  -- ---- once the doubt is ended

  module _ (back : Ledger D) (way : HasMadeWay w f mid back p c) (lines : (machine_in back).rows ≡ lines_of (tree_in back)) where
    pub answered : IsAnswered w base units back entry c.sizes
    answered =
        laws.answers.answered f recorded way.cleared.recorded mid back p p c reply.Done took.held ready-now (record { entries = way.entries; prepared = way.prepared }) way.cleared.are its
        (sized (machine_in back) c.sizes c.agent c.op saves)

    history-is : back.books.history ≡ mid.books.history
    history-is = way.entries ∙ ap (λ (us : List Text). mid.books.history ++ map eviction us) none ∙ append-nil mid.books.history

    state-back : state_after f.opening back.books.history ≡ base
    state-back = ap (state_after f.opening) history-is

    held-back : AreHeldWhole w f way.cleared.recorded back p
    held-back =
        subst (λ (s : State Text Own). AreHeldAt w f way.cleared.recorded s [] back p) (sym state-back)
        (subst (λ (us : List Text). AreHeldAt w f way.cleared.recorded base us back p) none way.cleared.are)

    tree-is : tree_in back ≡ tree_in l
    tree-is = way.tree ∙ ap (λ (us : List Text). fold cleared_from (tree_in mid) us) none ∙ took.tree

    named-back : open_handle in_lengths (machine_in back) c.agent row ≡ Some more.handle
    named-back =
        ap (λ (m : Machine). open_handle in_lengths m c.agent row) (way.cleared.are.books.machine ∙ ap (λ (us : List Text). in_lengths_of (fold evicted base us)) none ∙ sym took.held.books.machine)
        ∙ named-mid

    file-back : file_at (state_after f.opening back.books.history) x.file ≡ Some g
    file-back = ap (λ (s : State Text Own). file_at s x.file) state-back ∙ file.1

    at-back : own_of (agent_of (state_after f.opening back.books.history) c.agent) row ≡ Some (own.Handle x)
    at-back = ap (λ (s : State Text Own). own_of (agent_of s c.agent) row) state-back ∙ handle.1

    live-back : IsTrue (agent_of (state_after f.opening back.books.history) c.agent).live
    live-back = ap (λ (s : State Text Own). (agent_of s c.agent).live) state-back ∙ ready-now.live

    pub in-tree : IsStoredAt w f back p x.file g
    in-tree = content.files f way.cleared.recorded (state_after f.opening back.books.history) [] back p held-back (content.between f way.cleared.recorded back p held-back) (sym lines) x.file g file-back

    abbrev pub found : FileRow
    found = in-tree.row

    row-there : row_at x.file (tree_in back) ≡ Some (tree_row.File found)
    row-there = row-of (row_at x.file (tree_in back)) found in-tree.there

    -- As many bytes are stored as a read gives.
    lengths-same : found.present ≡ found.length
    lengths-same = in-tree.present ∙ ap length even ∙ sym in-tree.size

    module _ (place : Place) (size : ℕ) (runs : List Extent) (of_row : row_file (machine_in l) c.agent row ≡ Some place)
        (sizes_are : (r : FileRow) → file_in_tree place (tree_in l) ≡ Some r → size ≡ r.present) (runs_are : (r : FileRow) → file_in_tree place (tree_in l) ≡ Some r → runs ≡ r.extents) where
      place-is : place ≡ x.file
      place-is = one-place place more.handle.file (sym of_row ∙ handle-file (machine_in l) c.agent row more.handle more.there) ∙ sym (ap (λ (h : HandleOutline). h.file) same-outline)

      pub there : file_in_tree place (tree_in back) ≡ Some found
      there = ap (λ (q : Place). file_in_tree q (tree_in back)) place-is ∙ in-tree.there

      there-before : file_in_tree place (tree_in l) ≡ Some found
      there-before = ap (λ (t : Tree). file_in_tree place t) (sym tree-is) ∙ there

      size-now : size ≡ found.present
      size-now = sizes_are found there-before

      runs-now : runs ≡ found.extents
      runs-now = runs_are found there-before

      abbrev stamp : ℕ
      stamp = stamp_stored (machine_in back) c.agent c.op found

      writer-back : IsWriterOf (machine_in back) c.agent row place more.handle.reserve
      writer-back = record {
        row = more.handle;
        there = named-back;
        writes = more-writes;
        file = ap (λ (h : HandleOutline). h.file) (sym same-outline) ∙ sym place-is;
        kept = refl;
      }

      pub spelled : spelled_by (machine_in back) (tree_in back) c.agent c.op c.sizes None ≡ Some (content_now back entry place found size runs)
      spelled =
          spelled-runs (machine_in back) (tree_in back) c.agent c.op c.sizes place more.handle.reserve found None (stores-file (machine_in back) c.agent c.op place more.handle.reserve saves writer-back) there
          ∙ (λ i. Some (Content place.0 place.1 stamp ((size-saved c.sizes c.op found saves ∙ sym size-now) i) (sym runs-now i)))

      pub holds : CanHold f.geometry.blocks (content_now back entry place found size runs) (book_in back).rows
      holds =
          let own_blocks : can_hold f.geometry.blocks (named_beside x.file (stored_rows (tree_in back))) found.length found.extents ≡ true =
          can-hold-own f.geometry.blocks x.file (stored_rows (tree_in back)) (stored_file found) held-back.books.stored.sound.once (stored-at x.file (tree_in back) found row-there) in-tree.sound in
          (λ i. can_hold f.geometry.blocks (named_beside (place-is i) (stored_rows (tree_in back))) ((size-now ∙ lengths-same) i) (runs-now i)) ∙ own_blocks

      pub stands : BytesStand w f base units back.journal entry (content_now back entry place found size runs)
      unfolding new_bytes
      stands t =
          let content_is : bytes_stored (fold evicted base units) c.agent c.op ≡ g.present =
          ap (λ (us : List Text). bytes_stored (fold evicted base us) c.agent c.op) none ∙ handle-bytes-are base c.agent c.op x saves handle.1 ∙ ap bytes_in file.1 in
          ap (λ (b : Text). told_as b (content_now back entry place found size runs))
          ((λ i. bytes_of (w.content back.journal.disk) (sym held-back.tied.base i) (runs-now i) ((size-now ∙ lengths-same) i)) ∙ in-tree.bytes t ∙ sym even ∙ sym content_is)

      pub may-store : MayStoreContent w back entry c.sizes place size runs None
      may-store = record {
        answer = record { fixed = f; recorded = way.cleared.recorded; base = base; gone = units; pages = p; are = way.cleared.are; answered = answered };
        row = found;
        there = there;
        spelled = spelled;
        written = written-there place (tree_in back) found held-back.books.stored.writable.0 there;
        runs_are =
            subst AreExtents (sym runs-now) (extents-there x.file (tree_in back) found held-back.books.stored.writable.0 row-there);
        holds = holds;
      }

      -- ---- the disk failed in the commit

      pub failed-then : (new : Ledger D) → IsInOrder (tree_in back) → HasNotChanged w f way.cleared.recorded base units back new p entry (content_now back entry place found size runs) → HasFailed w f entry mid new p
      failed-then new order not =
          has-failed w f laws.known content.spelled content.fails content.falls mid back new p units entry c.sizes (content_now back entry place found size runs) way.entries way.cleared answered refl
          (record { lines = lines; order = order }) spelled (plain c.op saves) not

      -- ---- it was stored

      module _ (saving : SavingLaws w) (new : Ledger D) (done : HasStored w f base units back new p entry c.sizes None (content_now back entry place found size runs)) (order : IsInOrder (tree_in back)) (order_now : IsInOrder (tree_in new)) where
        came : HasEntered w f way.cleared.recorded (book_in new).rows back new p entry c.sizes
        came = record {
          either = inr refl;
          entries = done.entries;
          machine = done.machine;
          tree = done.tree;
          books = done.books;
          tied = done.tied;
          fresh = λ count. refl;
          alike = leaves-alike w back.journal new.journal p.base p.swap (content.inside f way.cleared.recorded back p held-back).part.behind done.leaves;
          order = order;
          order_now = order_now;
        }

        state-now : state_after f.opening new.books.history ≡ after_reply (state_after f.opening back.books.history) c.agent c.op reply.Done
        state-now = state-is w saving f way.cleared.recorded (book_in new).rows back new p entry c.sizes x held-back live-back saves refl at-back came

        rows-now : ACallMovesItsAgent → length (agent_of (machine_in mid) c.agent).own ≡ length (agent_of (state_after f.opening new.books.history) c.agent).own
        rows-now moves =
            ap (λ (m : Machine). length (agent_of m c.agent).own) took.held.books.machine ∙ own-length base c.agent
            ∙ sym (ap (λ (s : State Text Own). length (agent_of s c.agent).own) state-now ∙ rows-same moves (state_after f.opening back.books.history) c.agent c.op reply.Done live-back saves
            ∙ ap (λ (s : State Text Own). length (agent_of s c.agent).own) state-back)

        way-now : CallsAreActed w → IsWayEnded w f l new
        way-now acts =
            acts.before f recorded l mid new p c.agent calls _ begins.held begins.asked.may.pending took.taken
            (way-ended w f laws.known content.spelled content.fails content.falls mid back new p units entry c.sizes (content_now back entry place found size runs) way.entries way.cleared answered refl
            (record { lines = lines; order = order }) spelled (plain c.op saves) done.entries done.shown)

        grown : CallsAreActed w → IsActed w.tells f.opening l.books.history calls (call_in c) reply.Done new.books.history
        grown acts = acts.acted f l mid back new calls units c reply.Done took.taken (record { cleared = way.entries; added = done.entries }) answered.next

        -- The handle is closed.
        pub close-acted : ACallMovesItsAgent → CallsAreActed w → (q : OpenPages) → HasDropped p q c.agent row → ends_row c.op ≡ true → (rows : ℕ) → rows ≡ length (agent_of (machine_in mid) c.agent).own
            → HasActed w f (record { ledger = l; pages = p }) (record { ledger = new; pages = q }) calls (call_in c) work work (told_act reply.Done gift.Nothing rows)
        close-acted moves acts q dropped last rows count = record {
          held = record {
            recorded = (book_in new).rows;
            are = held-closed w saving f way.cleared.recorded (book_in new).rows back new p entry c.sizes x held-back live-back saves refl at-back came q dropped last;
            idle = done.idle;
          };
          acted = grown acts;
          left = record {
            refused = λ refuses. absurd (false≢true refuses);
            stands = λ yes_done. none-left (row_left (length (agent_of (state_after f.opening new.books.history) c.agent).own) c.op) (leaves-none _ c.op saves last);
            near = λ yes_done brings. absurd (false≢true (sym (not-near c.op saves) ∙ brings));
          };
          gift =
              let nothing = no-gift (state_after f.opening (l.books.history ++ calls)) c.op saves in
              record { alike = ap unread_gift (sym nothing); told = λ t. sym nothing };
          rows = count ∙ rows-now moves;
          fault = λ never. absurd (false≢true never);
          way = way-now acts;
        }
          where
            none-left : (n : ℕ) → n ≡ 0 → StandsForLeft w.tells f.opening new.books.history c.agent n work
            none-left n is = subst (λ (m : ℕ). StandsForLeft w.tells f.opening new.books.history c.agent m work) (sym is) tt

        -- The handle stays open.
        module _ (handles : HandlesStayWhole) (before : AreHandlesWhole f.opening l.books.history) (stand : HandlesStand w.tells) (paged : IsPaged work) (last : ends_row c.op ≡ false) where
          whole-back : AreHandlesWhole f.opening back.books.history
          whole-back =
              subst (AreHandlesWhole f.opening) (sym (history-is ∙ took.taken.entries)) (pending-whole handles w.tells f.opening l.books.history calls c.agent begins.asked.may.pending before)

          stood-back : StandsFor w.tells f.opening back.books.history c.agent row work
          stood-back = subst (λ (es : List Entry). StandsFor w.tells f.opening es c.agent row work) (sym history-is) stood

          row-stands : StandsFor w.tells f.opening new.books.history c.agent row work
          row-stands =
              stands-left w.tells stand f.opening back.books.history new.books.history entry row x work done.entries refl refl refl stood-back at-back
              (ap (λ (s : State Text Own). own_of (agent_of s c.agent) row) state-now ∙ left-after w saving f way.cleared.recorded (book_in new).rows back new p entry c.sizes x held-back live-back saves refl at-back came whole-back last idle)
              (ap (λ (s : State Text Own). bytes_at s x.file) state-now ∙ bytes-now w saving f way.cleared.recorded (book_in new).rows back new p entry c.sizes x held-back live-back saves refl at-back came whole-back last idle)
              paged

          left : (n : ℕ) → n ≡ row → StandsForLeft w.tells f.opening new.books.history c.agent n work
          left zero is = absurd (row-some base c.agent row x handle.1 (sym is))
          left (suc n) is = subst (λ (m : ℕ). StandsFor w.tells f.opening new.books.history c.agent m work) (sym is) row-stands

          pub flush-acted : ACallMovesItsAgent → CallsAreActed w → (rows : ℕ) → rows ≡ length (agent_of (machine_in mid) c.agent).own
              → HasActed w f (record { ledger = l; pages = p }) (record { ledger = new; pages = p }) calls (call_in c) work work (told_act reply.Done gift.Nothing rows)
          flush-acted moves acts rows count = record {
            held = record {
              recorded = (book_in new).rows;
              are = held-left w saving f way.cleared.recorded (book_in new).rows back new p entry c.sizes x held-back live-back saves refl at-back came whole-back last idle;
              idle = done.idle;
            };
            acted = grown acts;
            left = record {
              refused = λ refuses. absurd (false≢true refuses);
              stands = λ yes_done. left (row_left (length (agent_of (state_after f.opening new.books.history) c.agent).own) c.op) (leaves-named _ c.op saves last);
              near = λ yes_done brings. absurd (false≢true (sym (not-near c.op saves) ∙ brings));
            };
            gift =
                let nothing = no-gift (state_after f.opening (l.books.history ++ calls)) c.op saves in
                record { alike = ap unread_gift (sym nothing); told = λ t. sym nothing };
            rows = count ∙ rows-now moves;
            fault = λ never. absurd (false≢true never);
            way = way-now acts;
          }

        -- Either of both.
        pub again-acted : ACallMovesItsAgent → CallsAreActed w → HandlesStayWhole → AreHandlesWhole f.opening l.books.history → HandlesStand w.tells → IsPaged work → (q : OpenPages) → (ends_row c.op ≡ false → q ≡ p) → (ends_row c.op ≡ true → HasDropped p q c.agent row)
            → (rows : ℕ) → rows ≡ length (agent_of (machine_in mid) c.agent).own
            → HasActed w f (record { ledger = l; pages = p }) (record { ledger = new; pages = q }) calls (call_in c) work work (told_act reply.Done gift.Nothing rows)
        again-acted moves acts handles before stand paged q stays dropped rows count =
            elim (ends_row c.op) as (λ b. ends_row c.op ≡ b → HasActed w f (record { ledger = l; pages = p }) (record { ledger = new; pages = q }) calls (call_in c) work work (told_act reply.Done gift.Nothing rows)) [
              | true ↦ λ last. close-acted moves acts q (dropped last) last rows count
              | false ↦ λ last.
                  subst (λ (y : OpenPages). HasActed w f (record { ledger = l; pages = p }) (record { ledger = new; pages = y }) calls (call_in c) work work (told_act reply.Done gift.Nothing rows)) (sym (stays last))
                  (flush-acted handles before stand paged last moves acts rows count)
            ] refl
