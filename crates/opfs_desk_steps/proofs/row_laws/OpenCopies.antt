-- The working copy of a row that a call opens.
use Rattle.std.proofs.Common.{◌≡◌, ◌≢◌, ℕ, ◌+◌, ◌/◌, ◌%◌, ◌<◌, Bool, true, false, if◌then◌else◌, map, List, [], ◌∷◌, ◌++◌, fold, length, Some, None, inr, refl, sym, ap, ◌∙◌, arith}
use Rattle.std.specs.List.{range_with_len}
use Rattle.std.specs.Prelude.{slice_index}
use Rattle.std.proofs.lemmas.Bool.{false≢true}
use Rattle.std.proofs.lemmas.Grind.{same_number_lists}
use Rattle.std.proofs.lemmas.List.FromFn.{length-map-range_with_len, get_or-map-range_with_len}
use Rattle.opfs_base.specs.Blocks.{blocks}
use Rattle.opfs_base.specs.Places.{place_of}
use Rattle.opfs_base.specs.Texts.{Text}
use Rattle.opfs_base.specs.declared.locator.Locator.{Locator}
use Rattle.opfs_books.specs.Laws.Books.{Fixed}
use Rattle.opfs_books.specs.Laws.Commits.{StateLaws}
use Rattle.opfs_books.specs.Laws.Laws.{BooksKeepTheState}
use Rattle.opfs_store.specs.Copies.Copies.{StandsFor, IsPaged}
use Rattle.opfs_pages.specs.HistoryLaws.Copies.{HasLeftRow, IsStreamCopy, IsHandleCopy}
use Rattle.opfs_pages.specs.HistoryLaws.Laws.{TreesKeepBlocks}
use Rattle.opfs_pages.specs.HistoryLaws.RowsAfter.{CallsChangeTheirRow}
use Rattle.opfs_hist.specs.declared.entry.Entry.{Entry}
use Rattle.opfs_hist.specs.Sums.{asks_for_row}
use Rattle.opfs_hist.specs.declared.op.Mode.{Mode}
use Rattle.opfs_hist.specs.declared.op.Op.{Op}
use Rattle.opfs_hist.specs.declared.op.Op.TheVariants as op
use Rattle.opfs_hist.specs.declared.reply.Reply.{Reply}
use Rattle.opfs_machine.specs.declared.own.HandleRow.{HandleRow}
use Rattle.opfs_machine.specs.declared.own.StreamRow.{StreamRow}
use Rattle.opfs_machine.specs.declared.own.Own.{Own}
use Rattle.opfs_machine.specs.declared.own.Own.TheVariants as own
use Rattle.opfs_machine.specs.declared.state.Sizes.{Sizes}
use Rattle.opfs_machine.specs.declared.state.State.{State}
use Rattle.opfs_machine.specs.Agents.{agent_of, own_of}
use Rattle.opfs_machine.specs.Contents.{in_bytes}
use Rattle.opfs_machine.specs.Histories.{evicted_by, state_after}
use Rattle.opfs_machine.specs.Openings.{Opening}
use Rattle.opfs_machine.specs.Replies.{bytes_at}
use Rattle.opfs_machine.specs.Rulings.{first_reserve}
use Rattle.opfs_machine.specs.Steps.{evicted, after_reply}
use Rattle.opfs_outside.specs.declared.disk.Disk.{Ghosts as DiskWords}
use Rattle.opfs_records.specs.Replay.Built.{Built}
use Rattle.opfs_work.specs.declared.pages.Page.{Page}
use Rattle.opfs_work.specs.declared.pages.Page.TheVariants.{Zero, Near, Clean, Far}
use Rattle.opfs_work.specs.Pages.{page_at, page_byte, byte_at, bytes_of, is_far}
use Rattle.opfs_work.specs.Works.{WorkingCopy, contents}
use Rattle.opfs_desk_steps.specs.Parts.Seen.{book_in}
use Rattle.opfs_desk_steps.specs.declared.parts.parts.Ledger.{Ledger}
use Rattle.opfs_desk_steps.specs.declared.parts.parts.OpenPages.{OpenPages}
use Rattle.opfs_desk_steps.specs.RowLaws.OpenCopies.{IsOpenedCopy, OpenedCopiesStand}
use Rattle.opfs_desk_steps.specs.RowLaws.Opens.{MayOpen, next_row, opens_row}
use Rattle.opfs_desk_steps.specs.RowLaws.Stored.{FilesAreStored}
use Rattle.opfs_desk_steps.proofs.row_laws.InHand.{entered}
use Rattle.opfs_desk_steps.proofs.row_laws.Opens.{made, sync-made, given, buffer-is, number-of, sync-bytes, done-effect}

page-far : (b : ℕ) (p : Page) (j : ℕ) → is_far p ≡ true → page_byte b p j ≡ b
page-far b Zero j is = absurd (false≢true is)
page-far b (Near bytes) j is = absurd (false≢true is)
page-far b (Clean bytes) j is = absurd (false≢true is)
page-far b Far j is = refl

-- A copy whose pages are all elsewhere has the row's bytes, where these have them.
pub all-far : (work : WorkingCopy) (bytes : Text) → work.length ≡ length bytes → ((k : ℕ) → k < blocks work.length → is_far (page_at work.pages k) ≡ true) → contents (slice_index bytes) work ≡ bytes
unfolding bytes_of byte_at
all-far work bytes size far =
    let g = byte_at (slice_index bytes) work.pages in
    same_number_lists (map g (range_with_len 0 work.length)) bytes (length-map-range_with_len g 0 work.length ∙ size)
    (λ i within.
    let below : i < work.length = omega (arith, length-map-range_with_len g 0 work.length, within) in
    let page : i / 4096 < blocks work.length = omega (arith, below) in
    get_or-map-range_with_len g 0 work.length i i 0 below (omega arith) ∙ page-far (slice_index bytes i) (page_at work.pages (i / 4096)) (i % 4096) (far (i / 4096) page))

-- What the laws of working copies say.
abbrev pub StreamsStand : Type 0 → Type 0
StreamsStand tells =
    (o : Opening) (h : List Entry) (e : Entry) (n : ℕ) (w : StreamRow) (work : WorkingCopy) → HasLeftRow o h e n (own.Stream w) → IsPaged work → IsStreamCopy tells w work → StandsFor tells o (h ++ e ∷ []) e.agent n work

abbrev pub HandlesStand : Type 0 → Type 0
HandlesStand tells =
    (o : Opening) (h : List Entry) (e : Entry) (n : ℕ) (r : HandleRow) (work : WorkingCopy) → HasLeftRow o h e n (own.Handle r) → IsPaged work → IsHandleCopy tells (state_after o (h ++ e ∷ [])) r work
    → StandsFor tells o (h ++ e ∷ []) e.agent n work

module _ (states : StateLaws) (rows : CallsChangeTheirRow) (keep_blocks : TreesKeepBlocks) {D : Type 0} (w : DiskWords D) (stored : FilesAreStored w) (known : BooksKeepTheState w) (streams : StreamsStand w.tells) (handles : HandlesStand w.tells)
    (f : Fixed D) (recorded : Built) (base : State Text Own) (gone : List Text) (l : Ledger D) (p new : OpenPages) (k number : ℕ) (answered : Reply) (turn : Bool) (z : Sizes) (work : WorkingCopy) where
  abbrev s : State Text Own
  s = fold evicted base gone

  abbrev entry : Op → Entry
  entry o = record { agent = k; number = number; op = o; reply = answered; turn = turn }

  abbrev h : List Entry
  h = l.books.history

  abbrev Stands : Op → Type 0
  Stands o = MayOpen w f recorded base gone l p new (entry o) z → IsOpenedCopy s o work → StandsFor w.tells f.opening (h ++ entry o ∷ []) k (next_row s k) work

  state-is : (o : Op) → MayOpen w f recorded base gone l p new (entry o) z → state_after f.opening h ≡ s
  state-is o may = known.known f recorded base gone (book_in l) l.journal may.held.books

  some-row : next_row s k ≢ 0
  some-row is = absurd (omega (arith, is))

  left : (o : Op) (r : Own) (may : MayOpen w f recorded base gone l p new (entry o) z) → evicted_by o ≡ None → asks_for_row o ≡ true → own_of (agent_of (after_reply s k o answered) k) (next_row s k) ≡ Some r
      → HasLeftRow f.opening h (entry o) (next_row s k) r
  left o r may plain asks there = record {
    turn = may.answered.turn;
    done = may.done;
    some = some-row;
    named = inr (asks, ap (λ (x : State Text Own). length (agent_of x k).own + 1) (state-is o may) ∙ number-of (length (agent_of s k).own));
    there = ap (λ (x : State Text Own). own_of (agent_of x k) (next_row s k)) (entered f.opening h (entry o) s (state-is o may) plain) ∙ there;
  }

  writable : (at : Locator) (keep : Bool) → Stands (op.CreateWritable at keep)
  writable at keep may copy =
      let o = op.CreateWritable at keep in
      let file = given states rows keep_blocks w stored f recorded base gone l p new k number answered turn z at keep may in
      let row = made states rows keep_blocks w stored f recorded base gone l p new k number answered turn z at keep may in
      let r : StreamRow = record { file = place_of at; buffer = if keep then file.file.present else []; offset = 0; reserve = first_reserve in_bytes s at keep } in
      let same = buffer-is states rows keep_blocks w stored f recorded base gone l p new k number answered turn z at keep may keep in
      let size : work.length ≡ length r.buffer = copy.size ∙ ap length (sym same) in
      streams f.opening h (entry o) (next_row s k) r work (left o (own.Stream r) may refl refl row) copy.paged (record {
        size = size;
        same = λ t. record { same = all-far work r.buffer size copy.far };
        position = copy.position;
        reserve = copy.reserve;
      })

  sync : (at : Locator) (mode : Mode) → Stands (op.CreateSyncAccessHandle at mode)
  sync at mode may copy =
      let o = op.CreateSyncAccessHandle at mode in
      let row = sync-made states rows keep_blocks w stored f recorded base gone l p new k number answered turn z at mode may in
      let r : HandleRow = record { file = place_of at; mode = mode; cursor = 0; reserve = 0 } in
      let end = state_after f.opening (h ++ entry o ∷ []) in
      let bytes : bytes_at end (place_of at) ≡ bytes_at s (place_of at) =
      ap (λ (x : State Text Own). bytes_at x (place_of at)) (entered f.opening h (entry o) s (state-is o may) refl ∙ done-effect s k o answered may.done) ∙ sync-bytes s k at mode in
      let size : work.length ≡ length (bytes_at end (place_of at)) = copy.size ∙ ap length (sym bytes) in
      handles f.opening h (entry o) (next_row s k) r work (left o (own.Handle r) may refl refl row) copy.paged (record {
        size = size;
        same = λ t. record { same = all-far work (bytes_at end (place_of at)) size copy.far };
        position = copy.position;
        reserve = copy.reserve;
      })

  none : (o : Op) → opens_row o ≡ false → Stands o
  none o other may copy = absurd (false≢true (sym other ∙ may.opens))

  pub by-op : (o : Op) → Stands o
  by-op (op.CreateWritable at keep) may copy = writable at keep may copy
  by-op (op.CreateSyncAccessHandle at mode) may copy = sync at mode may copy
  by-op (op.GetDirectory bucket) may copy = none (op.GetDirectory bucket) refl may copy
  by-op (op.GetDirectoryHandle dir name create) may copy = none (op.GetDirectoryHandle dir name create) refl may copy
  by-op (op.GetFileHandle dir name create) may copy = none (op.GetFileHandle dir name create) refl may copy
  by-op (op.RemoveEntry dir name recursive) may copy = none (op.RemoveEntry dir name recursive) refl may copy
  by-op (op.Values dir) may copy = none (op.Values dir) refl may copy
  by-op (op.Next n dir) may copy = none (op.Next n dir) refl may copy
  by-op (op.Resolve dir to) may copy = none (op.Resolve dir to) refl may copy
  by-op (op.IsSameEntry to other) may copy = none (op.IsSameEntry to other) refl may copy
  by-op (op.GetFile at) may copy = none (op.GetFile at) refl may copy
  by-op (op.Slice n at len) may copy = none (op.Slice n at len) refl may copy
  by-op (op.Write n bytes position) may copy = none (op.Write n bytes position) refl may copy
  by-op (op.Seek n position) may copy = none (op.Seek n position) refl may copy
  by-op (op.Truncate n size) may copy = none (op.Truncate n size) refl may copy
  by-op (op.Close n) may copy = none (op.Close n) refl may copy
  by-op (op.Abort n) may copy = none (op.Abort n) refl may copy
  by-op (op.SyncRead n len at) may copy = none (op.SyncRead n len at) refl may copy
  by-op (op.SyncWrite n bytes at) may copy = none (op.SyncWrite n bytes at) refl may copy
  by-op (op.SyncTruncate n size) may copy = none (op.SyncTruncate n size) refl may copy
  by-op (op.SyncGetSize n) may copy = none (op.SyncGetSize n) refl may copy
  by-op (op.SyncFlush n) may copy = none (op.SyncFlush n) refl may copy
  by-op (op.SyncClose n) may copy = none (op.SyncClose n) refl may copy
  by-op (op.Persist bucket) may copy = none (op.Persist bucket) refl may copy
  by-op (op.Persisted bucket) may copy = none (op.Persisted bucket) refl may copy
  by-op op.Estimate may copy = none op.Estimate refl may copy
  by-op (op.Moment ms) may copy = none (op.Moment ms) refl may copy
  by-op (op.Post tag) may copy = none (op.Post tag) refl may copy
  by-op (op.Await tag) may copy = none (op.Await tag) refl may copy
  by-op (op.Wait tag) may copy = none (op.Wait tag) refl may copy
  by-op (op.Discard n) may copy = none (op.Discard n) refl may copy
  by-op op.End may copy = none op.End refl may copy
  by-op (op.Unbound word) may copy = none (op.Unbound word) refl may copy
  by-op (op.Evict unit) may copy = none (op.Evict unit) refl may copy

pub copies-stand : (states : StateLaws) → CallsChangeTheirRow → TreesKeepBlocks → {D : Type 0} (w : DiskWords D) → FilesAreStored w → BooksKeepTheState w → StreamsStand w.tells → HandlesStand w.tells → OpenedCopiesStand w
copies-stand states rows keep_blocks w stored known streams handles f recorded base gone l p new e z work may copy =
    by-op states rows keep_blocks w stored known streams handles f recorded base gone l p new e.agent e.number e.reply e.turn z work e.op may copy
