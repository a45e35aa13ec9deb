-- A read of an access handle, put together from its steps.
use Rattle.std.proofs.Common.{◌≡◌, ◌≢◌, ℕ, ◌-◌, ◌*◌, ◌<◌, min, zero, suc, is_some, true, List, [], ◌∷◌, ◌++◌, fold, length, map, replicate, drop, slice_index, option_map, Option, Some, refl, sym, ap, ◌∙◌, subst, append-nil, inl, arith}
use Rattle.std.proofs.lemmas.Bool.{false≢true, lt-ltb}
use Rattle.std.proofs.lemmas.List.{length-take, length-drop}
use Rattle.std.specs.Prelude.{IsTrue}
use Rattle.opfs_store.specs.Acts.Acting.{told_entry, row_left, IsActed, StandsForLeft, unread_gift}
use Rattle.opfs_store.specs.Acts.Asking.{IsHandedIn}
use Rattle.opfs_store.specs.declared.acts.acted.Acted.{Acted}
use Rattle.opfs_store.specs.declared.acts.acted.Gift.TheVariants as gift
use Rattle.opfs_base.specs.Texts.{Text}
use Rattle.opfs_books.specs.Laws.Books.{Fixed}
use Rattle.opfs_books.proofs.laws.Told.{next-state, next-reply}
use Rattle.opfs_data.specs.Rows.{IsOther, pages_at}
use Rattle.opfs_store.specs.Copies.Copies.{StandsFor, IsPaged}
use Rattle.opfs_pages.specs.HistoryLaws.Copies.{HasLeftRow, IsHandleCopy}
use Rattle.opfs_pages.specs.HistoryLaws.Handles.{AreHandlesWhole, HandlesStayWhole, handle_on}
use Rattle.opfs_pages.specs.HistoryLaws.Laid.{AreLaid}
use Rattle.opfs_pages.specs.HistoryLaws.Laws.{BlocksGoOn, CallsLeaveOtherRows}
use Rattle.opfs_pages.specs.HistoryLaws.Open.{open_at, if_open, StaysOpen}
use Rattle.opfs_pages.specs.HistoryLaws.RowsAfter.{IsDone}
use Rattle.opfs_pages.specs.HistoryLaws.Shelves.{HasSameBlocks, KeepsOpen}
use Rattle.opfs_pages.specs.HistoryLaws.Spaced.{AreSpaced}
use Rattle.opfs_pages.proofs.history_laws.Leaving.{open-is}
use Rattle.opfs_hist.specs.declared.entry.Entry.{Entry}
use Rattle.opfs_hist.specs.declared.reply.Reply.TheVariants as reply
use Rattle.opfs_laws.specs.Histories.Unread.{unread}
use Rattle.opfs_journal.specs.Seen.{Seen}
use Rattle.opfs_laws.specs.GoingOn.{LegalHistoriesGoOn}
use Rattle.opfs_laws.specs.Lengths.Outlines.{in_lengths_of}
use Rattle.opfs_machine.specs.declared.own.HandleRow.{HandleRow}
use Rattle.opfs_machine.specs.declared.own.Outline.{Outline}
use Rattle.opfs_machine.specs.declared.own.Own.{Own}
use Rattle.opfs_machine.specs.declared.own.Own.TheVariants as own
use Rattle.opfs_machine.specs.declared.state.Sizes.{Sizes}
use Rattle.opfs_machine.specs.declared.state.State.{State}
use Rattle.opfs_machine.specs.Agents.{agent_of, own_of}
use Rattle.opfs_machine.specs.Contents.{outline_of}
use Rattle.opfs_machine.specs.Histories.{may_enter, state_after}
use Rattle.opfs_machine.specs.Openings.{Opening}
use Rattle.opfs_machine.specs.Replies.{answer, bytes_at, row_named, sizes_of, sizes_in}
use Rattle.opfs_machine.specs.Runs.{eviction}
use Rattle.opfs_machine.specs.Steps.{evicted, after_reply}
use Rattle.opfs_machine.specs.Sums.{reserve_of}
use Rattle.opfs_outside.specs.declared.disk.Disk.{Ghosts as DiskWords}
use Rattle.opfs_pages.specs.Copies.{AreHeld, IsCopy, IsPageOf}
use Rattle.opfs_records.specs.Replay.Built.{Built}
use Rattle.opfs_pages.specs.RowCalls.Plans.{shelf}
use Rattle.opfs_space.specs.Room.{Machine}
use Rattle.opfs_splice.specs.Splicing.{window}
use Rattle.opfs_laws.specs.Steady.Steady.{is_steady, has_page, row_bytes, open_bytes}
use Rattle.opfs_tree.specs.Rows.{Rows as Tree}
use Rattle.opfs_work.specs.Works.{WorkingCopy, contents}
use Rattle.opfs_desk_steps.specs.Parts.Acted.{HasActed, IsWayEnded}
use Rattle.opfs_desk_steps.specs.Parts.Answered.{IsAnswered}
use Rattle.opfs_desk_steps.specs.Parts.Asked.{IsAsked}
use Rattle.opfs_desk_steps.specs.Parts.Held.{AreHeldWhole}
use Rattle.opfs_desk_steps.specs.Parts.Seen.{machine_in, tree_in, call_in, units_in}
use Rattle.opfs_desk_steps.specs.declared.parts.call.ReadyCall.{ReadyCall}
use Rattle.opfs_desk_steps.specs.declared.parts.parts.Ledger.{Ledger}
use Rattle.opfs_desk_steps.specs.declared.parts.parts.OpenPages.{OpenPages}
use Rattle.opfs_desk_steps.specs.declared.parts.parts.DeskParts.{DeskParts}
use Rattle.opfs_desk_steps.specs.Going.{HasTakenIn, HasMadeWay, HasTold}
use Rattle.opfs_desk_bytes.specs.Reading.Reading.{BeginsRead, IsReadOf}
use Rattle.opfs_desk_bytes.specs.Reading.Words.{reads_row, read_start, read_len, end_of_read, cursor_read}
use Rattle.opfs_desk_bytes.proofs.reading.Wholes.{pending-whole}
use Rattle.opfs_desk_bytes.proofs.reading.Words.{answers-read, as-bytes, bytes-read, handle-there, in-hand, leaves-named, limits-read, no-gift, no-units, not-near, own-read, plain, row-some, rows-read, same-tree, sized}
use Rattle.opfs_desk_steps.specs.RowLaws.Copied.{CopiesAreStored, IsStoredCopy}
use Rattle.opfs_desk_steps.specs.RowLaws.InHand.{HasInHand, HasPages, RowsInHandAreLaid}
use Rattle.opfs_desk_steps.proofs.row_laws.Staying.{open-with-bytes}
use Rattle.opfs_desk_steps.specs.Acting.{CallsAreActed}
use Rattle.opfs_desk_steps.specs.Answering.{ReadyCallsAreAnswered, IsReply}
use Rattle.opfs_desk_steps.specs.Ready.{IsReadyCall, AskedCallsAreReady}
use Rattle.opfs_desk_steps.proofs.Counts.{own-length}

abbrev pub HandlesStand : Type 0 → Type 0
HandlesStand tells =
    (o : Opening) (h : List Entry) (e : Entry) (n : ℕ) (r : HandleRow) (work : WorkingCopy) → HasLeftRow o h e n (own.Handle r) → IsPaged work → IsHandleCopy tells (state_after o (h ++ e ∷ [])) r work
    → StandsFor tells o (h ++ e ∷ []) e.agent n work

window-length : (bytes : Text) (at len : ℕ) → length (window bytes at len) ≡ min len (length bytes - at)
window-length bytes at len = length-take len (drop at bytes) ∙ ap (min len) (length-drop at bytes)

below-page : (bytes : Text) (i : ℕ) → 4096 * i < length bytes → has_page (Some bytes) i ≡ true
below-page bytes i below = lt-ltb (4096 * i) (length bytes) below

pub handed : (tells : Type 0) (o : Opening) (known : List Entry) (k n : ℕ) (work : WorkingCopy) → n ≢ 0 → IsHandedIn tells o known k n work → StandsFor tells o known k n work
handed tells o known k zero work some is = absurd (some refl)
handed tells o known k (suc n) work some is = is

-- A working copy has as many bytes as its row.
size-in : (s : State Text Own) (r : Own) (bytes : Text) → open_bytes s (Some r) ≡ Some bytes → (sizes_in s (Some r)).size ≡ length bytes
size-in s (own.Stream w) bytes is = ap length (one w.buffer bytes is)
  where
    one : (a b : Text) → ◌≡◌ {A = Option Text} (Some a) (Some b) → a ≡ b
    one a b e = cc
size-in s (own.Handle h) bytes is = ap length (one (bytes_at s h.file) bytes is)
  where
    one : (a b : Text) → ◌≡◌ {A = Option Text} (Some a) (Some b) → a ≡ b
    one a b e = cc
size-in s r bytes is = absurd cc

-- ---- what is read

module _ {D : Type 0} (w : DiskWords D) (copies : CopiesAreStored w) (f : Fixed D) (recorded : Built) (l : Ledger D) (p : OpenPages) (calls : List Entry) (c : ReadyCall) (work : WorkingCopy)
    (held : AreHeldWhole w f recorded l p) (asked : IsAsked w.tells f.opening l.books.history calls l.books.state c work []) (reads : reads_row c.op ≡ true) where
  copied-row : StandsFor w.tells f.opening (l.books.history ++ calls) c.agent (row_named c.op) work
  copied-row =
      handed w.tells f.opening (l.books.history ++ calls) c.agent (row_named c.op) work
      (row-some (state_after f.opening (l.books.history ++ calls)) c.agent c.op reads asked.may.fitting) asked.may.copy

  -- The store has what its working copy says.
  pub stored : IsStoredCopy w f l p calls c.agent (row_named c.op) work
  stored =
      copies f recorded l p calls c.agent (row_named c.op) work held asked.may.pending
      (row-some (state_after f.opening (l.books.history ++ calls)) c.agent c.op reads asked.may.fitting) copied-row

  size-is : c.sizes.size ≡ work.length
  size-is =
      ap (λ (z : Sizes). z.size) (asked.sizes ∙ ap (sizes_in (state_after f.opening (l.books.history ++ calls))) copied-row.there)
      ∙ size-in (state_after f.opening (l.books.history ++ calls)) copied-row.row copied-row.copy.bytes copied-row.copy.open_row ∙ sym copied-row.copy.size

  pub is-read : (before : List ℕ) (n start len : ℕ) → (w.tells → w.content l.journal.disk ≡ before) → n ≡ row_named c.op → start ≡ read_start c.sizes c.op → len ≡ read_len c.op
      → (bytes copied : Text) (cursor beside : ℕ) (page : List ℕ) → length bytes ≡ min len (work.length - start)
      → (w.tells → (b : List ℕ) → IsCopy b work → AreHeld b work before p.base (pages_at c.agent n p.swap) → bytes ≡ window b start len) → copied ≡ bytes → cursor ≡ end_of_read work.length start len
      → (w.tells → (b : List ℕ) → IsCopy b work → AreHeld b work before p.base (pages_at c.agent n p.swap) → IsPageOf b beside page)
      → (row : Text) → row_bytes (state_after f.opening (l.books.history ++ calls)) c.agent (row_named c.op) ≡ Some row → IsReadOf w.tells row c.sizes c.op bytes copied cursor beside page
  is-read before n start len content number starts lens bytes copied cursor beside page size read same behind page_is row is =
      let kept : w.tells → AreHeld row work before p.base (pages_at c.agent n p.swap) = λ t.
      subst (λ (x : List ℕ). AreHeld row work x p.base (pages_at c.agent n p.swap)) (content t)
      (subst (λ (m : ℕ). AreHeld row work (w.content l.journal.disk) p.base (pages_at c.agent m p.swap)) (sym number) (stored.held t row is)) in
      record {
        size = size ∙ (λ i. min (lens i) (sym size-is i - starts i));
        told = λ t. read t row (stored.copy t row is) (kept t) ∙ (λ i. window row (starts i) (lens i));
        same = same;
        cursor_is = behind ∙ (λ i. end_of_read (sym size-is i) (starts i) (lens i));
        page_is = λ t. page_is t row (stored.copy t row is) (kept t);
      }

all-blocks : (t : Tree) → HasSameBlocks t t
all-blocks t = record { named = λ b. refl; has = λ f b. refl }

-- What the reply and the gift of a read are.
abbrev pub read_act : Text → ℕ → Acted
read_act bytes rows = record { reply = reply.Read bytes; gift = gift.Nothing; rows = rows }

module _ {D : Type 0} (w : DiskWords D) (asks : AskedCallsAreReady w) (answers : ReadyCallsAreAnswered w) (goes : LegalHistoriesGoOn)
    (f : Fixed D) (recorded : Built) (l mid back : Ledger D) (p : OpenPages) (calls : List Entry) (c : ReadyCall) (work : WorkingCopy)
    (begins : BeginsRead w f recorded l p calls c work) (reads : reads_row c.op ≡ true) (took : HasTakenIn w f recorded l mid p calls c) where
  abbrev pub base : State Text Own
  base = state_after f.opening mid.books.history

  abbrev pub units : List Text
  units = units_in c.clearing.items

  abbrev pub row : ℕ
  row = row_named c.op

  abbrev pub s : State Text Own
  s = fold evicted base units

  -- The state before the pending calls are taken in is told by the same history.
  same-base : base ≡ state_after f.opening (l.books.history ++ calls)
  same-base = ap (state_after f.opening) took.taken.entries

  pub ready : IsReadyCall base mid c
  ready = asks.ready f recorded l mid p calls c work [] begins.held begins.asked took.taken.entries took.held took.prepared

  none : units ≡ []
  none = no-units goes base c.agent c.op units reads ready.live ready.fitting ready.judged

  same : s ≡ base
  same = ap (fold evicted base) none

  some : row ≢ 0
  some = row-some base c.agent c.op reads ready.fitting

  pub stood : StandsFor w.tells f.opening (l.books.history ++ calls) c.agent row work
  stood = handed w.tells f.opening (l.books.history ++ calls) c.agent row work some begins.asked.may.copy

  pub handle : (x : HandleRow) × (stood.row ≡ own.Handle x)
  handle =
      handle-there w.tells (state_after f.opening (l.books.history ++ calls)) c.agent c.op stood.row work reads
      (subst (λ (t : State Text Own). IsTrue (may_enter t c.agent c.op)) same-base ready.fitting) stood.there stood.copy

  abbrev pub x : HandleRow
  x = handle.0

  at-base : own_of (agent_of base c.agent) row ≡ Some (own.Handle x)
  at-base = ap (λ (t : State Text Own). own_of (agent_of t c.agent) row) same-base ∙ stood.there ∙ ap Some handle.1

  at-s : own_of (agent_of s c.agent) row ≡ Some (own.Handle x)
  at-s = ap (λ (t : State Text Own). own_of (agent_of t c.agent) row) same ∙ at-base

  abbrev pub held-bytes : Text
  held-bytes = bytes_at s x.file

  pub bytes-before : row_bytes (state_after f.opening (l.books.history ++ calls)) c.agent row ≡ Some held-bytes
  bytes-before =
      ap (λ (t : State Text Own). row_bytes t c.agent row) (sym same-base ∙ sym same) ∙ ap (open_bytes s) at-s

  sizes-are : c.sizes ≡ record { size = length held-bytes; position = x.cursor }
  sizes-are = ready.sizes ∙ ap (λ (t : State Text Own). sizes_of t c.agent c.op) (sym same) ∙ ap (sizes_in s) at-s

  module _ (bytes copied : Text) (cursor beside : ℕ) (page : List ℕ) (read : IsReadOf w.tells held-bytes c.sizes c.op bytes copied cursor beside page) where
    abbrev pub entry : Entry
    entry = told_entry (call_in c) (reply.Read copied)

    answer-is : answer base c.sizes c.agent c.op ≡ reply.Read (window held-bytes (read_start c.sizes c.op) (read_len c.op))
    answer-is =
        answers-read base c.sizes c.agent c.op x reads at-base
        ∙ ap (λ (t : State Text Own). reply.Read (window (bytes_at t x.file) (read_start c.sizes c.op) (read_len c.op))) (sym same)

    long : length copied ≡ length (window held-bytes (read_start c.sizes c.op) (read_len c.op))
    long =
        ap length read.same ∙ read.size ∙ ap (λ (z : Sizes). min (read_len c.op) (z.size - read_start c.sizes c.op)) sizes-are
        ∙ sym (window-length held-bytes (read_start c.sizes c.op) (read_len c.op))

    pub its-reply : IsReply w.tells base c (reply.Read copied)
    its-reply = record {
      alike = ap (λ (n : ℕ). reply.Read (replicate n 0)) long ∙ ap unread (sym answer-is);
      told = λ t. ap reply.Read (read.same ∙ read.told t) ∙ sym answer-is;
    }

    module _ (way : HasMadeWay w f mid back p c) where
      pub answered : IsAnswered w base units back entry c.sizes
      answered =
          answers.answered f recorded way.cleared.recorded mid back p p c (reply.Read copied) took.held ready (record { entries = way.entries; prepared = way.prepared }) way.cleared.are its-reply
          (sized (machine_in back) c.sizes c.agent c.op reads)

      live-s : IsTrue (agent_of s c.agent).live
      live-s = subst (λ (t : State Text Own). IsTrue (agent_of t c.agent).live) (sym same) ready.live

      done : IsDone s c.agent (reply.Read copied)
      done = record { live = live-s; done = refl }

      abbrev pub after : State Text Own
      after = after_reply s c.agent c.op (reply.Read copied)

      abbrev pub left-row : HandleRow
      left-row = record x { cursor = cursor_read c.sizes c.op }

      sizes-s : sizes_of s c.agent c.op ≡ c.sizes
      sizes-s = ap (sizes_in s) at-s ∙ sym sizes-are

      at-after : own_of (agent_of after c.agent) row ≡ Some (own.Handle left-row)
      at-after =
          own-read s c.agent (reply.Read copied) done c.op x reads at-s
          ∙ ap (λ (z : Sizes). Some (own.Handle (record x { cursor = cursor_read z c.op }))) sizes-s

      bytes-after : bytes_at after x.file ≡ held-bytes
      bytes-after = bytes-read s c.agent (reply.Read copied) done c.op x.file reads

      row-after : row_bytes after c.agent row ≡ Some held-bytes
      row-after = ap (open_bytes after) at-after ∙ ap Some bytes-after

      -- ---- its pages

      history-is : back.books.history ≡ mid.books.history
      history-is = way.entries ∙ ap (λ (us : List Text). mid.books.history ++ map eviction us) none ∙ append-nil mid.books.history

      state-back : state_after f.opening back.books.history ≡ s
      state-back = ap (state_after f.opening) history-is ∙ sym same

      module _ (handles : HandlesStayWhole) (before : AreHandlesWhole f.opening l.books.history) where
        whole : AreHandlesWhole f.opening back.books.history
        whole =
            subst (AreHandlesWhole f.opening) (sym (history-is ∙ took.taken.entries))
            (pending-whole handles w.tells f.opening l.books.history calls c.agent begins.asked.may.pending before)

        steady : (i : ℕ) → 4096 * i < length held-bytes → is_steady f.opening back.books.history c.agent row i ≡ true
        steady i below =
            whole c.agent row x.file (ap (λ (t : State Text Own). handle_on (own_of (agent_of t c.agent) row)) state-back ∙ ap handle_on at-s) i
            ∙ ap (λ (t : State Text Own). has_page (Some (bytes_at t x.file)) i) state-back ∙ below-page held-bytes i below

        back-bytes : row_bytes (state_after f.opening back.books.history) c.agent row ≡ Some held-bytes
        back-bytes = ap (λ (t : State Text Own). row_bytes t c.agent row) state-back ∙ ap (open_bytes s) at-s

        has-pages : HasPages w.tells p.base (w.content back.journal.disk) (w.content back.journal.disk) p.swap p.swap c.agent row held-bytes
        has-pages = record {
          others = λ k n apart. refl;
          read = λ t k n i apart within. refl;
          here =
              way.cleared.are.laid.rows c.agent row
              ∙ ap (λ (m : Machine). is_some (open_at m c.agent row)) way.cleared.are.books.machine
              ∙ open-with-bytes s c.agent row held-bytes (ap (open_bytes s) at-s);
          there = λ i below. way.cleared.are.laid.there c.agent row i (steady i below);
          told = λ t i below. (way.cleared.are.laid.told t).begins c.agent row i (steady i below) held-bytes back-bytes;
        }

        -- ---- its row stays open

        opened-s : open_at (in_lengths_of s) c.agent row ≡ if_open (Some (outline_of (own.Handle x)))
        opened-s = open-is s c.agent row ∙ ap (λ (o : Option Own). if_open (option_map outline_of o)) at-s

        opened-after : open_at (in_lengths_of after) c.agent row ≡ if_open (Some (outline_of (own.Handle left-row)))
        opened-after = open-is after c.agent row ∙ ap (λ (o : Option Own). if_open (option_map outline_of o)) at-after

        same-open : open_at (in_lengths_of after) c.agent row ≡ open_at (in_lengths_of s) c.agent row
        same-open = opened-after ∙ sym opened-s

        stays : StaysOpen (open_at (in_lengths_of s) c.agent row) (open_at (in_lengths_of after) c.agent row)
        stays = subst (λ (o : Option Outline). StaysOpen (open_at (in_lengths_of s) c.agent row) o) (sym same-open) (record { file = refl; reserve = omega arith; stream = refl })

        keeps : CallsLeaveOtherRows → KeepsOpen (machine_in back) (in_lengths_of after) c.agent row
        keeps leave =
            subst (λ (m : Machine). KeepsOpen m (in_lengths_of after) c.agent row) (sym way.cleared.are.books.machine)
            (record {
              others = λ k n apart. leave.called s c.agent c.op (reply.Read copied) live-s k n (subst (λ (i : ℕ). IsOther c.agent i k n) (sym (in-hand s c.agent c.op reads)) apart);
              here = stays;
              limits = limits-read s c.agent (reply.Read copied) done c.op reads;
            })

        spaced : BlocksGoOn → CallsLeaveOtherRows → AreSpaced (in_lengths_of after) (shelf way.cleared.recorded.rows (tree_in back) p.swap) p.space
        spaced blocks leave =
            blocks.stays (machine_in back) (in_lengths_of after) (shelf way.cleared.recorded.rows (tree_in back) p.swap) (shelf way.cleared.recorded.rows (tree_in back) p.swap) p.space c.agent row way.cleared.are.laid.spaced (keeps leave)
            (record { recorded = all-blocks way.cleared.recorded.rows; tree = all-blocks (tree_in back) }) (λ k n i b has. has)

        has-in-hand : HasInHand s entry row
        has-in-hand = record { plain = plain c.op reads; live = live-s; in_hand = in-hand s c.agent c.op reads }

        -- ---- once it is entered

        module _ (laying : RowsInHandAreLaid w) (blocks : BlocksGoOn) (leave : CallsLeaveOtherRows) (new : Ledger D) (told : HasTold w f way.cleared.recorded back new p entry c.sizes) where
          laid : AreLaid w.tells f.opening (back.books.history ++ entry ∷ []) p.base (w.content back.journal.disk) (in_lengths_of after) (shelf way.cleared.recorded.rows (tree_in back) p.swap) p.space
          laid =
              laying.open_row f way.cleared.recorded base units back p (w.content back.journal.disk) entry row held-bytes (shelf way.cleared.recorded.rows (tree_in back) p.swap) p.space
              way.cleared.are has-in-hand row-after has-pages (spaced blocks leave)

          pub state-is : state_after f.opening new.books.history ≡ after
          state-is =
              ap (λ (es : List Entry). state_after f.opening es) told.entries
              ∙ (next-state w.tells f.opening back.books.history base units way.cleared.are.books.told entry answered.next
              ∙ next-reply w.tells f.opening back.books.history base units way.cleared.are.books.told entry answered.next)

          machine-is : machine_in new ≡ in_lengths_of after
          machine-is = told.books.machine ∙ ap in_lengths_of state-is

          pub held-now : AreHeldWhole w f way.cleared.recorded new p
          held-now = record {
            books = told.books;
            laid =
                subst (λ (j : Seen D). AreLaid w.tells f.opening new.books.history p.base (w.content j.disk) (machine_in new) (shelf way.cleared.recorded.rows (tree_in new) p.swap) p.space) (sym told.journal)
                (subst (λ (es : List Entry). AreLaid w.tells f.opening es p.base (w.content back.journal.disk) (machine_in new) (shelf way.cleared.recorded.rows (tree_in new) p.swap) p.space) (sym told.entries)
                (subst (λ (t : Tree). AreLaid w.tells f.opening (back.books.history ++ entry ∷ []) p.base (w.content back.journal.disk) (machine_in new) (shelf way.cleared.recorded.rows t p.swap) p.space) (sym (told.tree ∙ same-tree (machine_in back) (tree_in back) c.agent c.op c.sizes (as-bytes c.op reads)))
                (subst (λ (m : Machine). AreLaid w.tells f.opening (back.books.history ++ entry ∷ []) p.base (w.content back.journal.disk) m (shelf way.cleared.recorded.rows (tree_in back) p.swap) p.space) (sym machine-is) laid)));
            tied = told.tied;
            fresh = told.fresh;
          }

          rows-now : length (agent_of (state_after f.opening new.books.history) c.agent).own ≡ length (agent_of base c.agent).own
          rows-now =
              ap (λ (t : State Text Own). length (agent_of t c.agent).own) state-is
              ∙ rows-read s c.agent (reply.Read copied) done c.op reads ∙ ap (λ (t : State Text Own). length (agent_of t c.agent).own) same

          -- ---- all of it

          module _ (stand : HandlesStand w.tells) (acts : CallsAreActed w) (made : WorkingCopy) (rest : made ≡ record work { pages = made.pages; position = cursor }) (paged : IsPaged made)
              (copy : w.tells → (row_bytes : Text) → IsCopy row_bytes work → IsPageOf row_bytes beside page → IsCopy row_bytes made) where
            before-is : stood.copy.bytes ≡ held-bytes
            before-is = some-text stood.copy.bytes held-bytes (sym stood.copy.open_row ∙ ap (open_bytes (state_after f.opening (l.books.history ++ calls))) (sym stood.there) ∙ bytes-before)
              where
                some-text : (a b : Text) → ◌≡◌ {A = Option Text} (Some a) (Some b) → a ≡ b
                some-text a b is = cc

            end-bytes : bytes_at (state_after f.opening (back.books.history ++ entry ∷ [])) x.file ≡ held-bytes
            end-bytes = ap (λ (t : State Text Own). bytes_at t x.file) (ap (state_after f.opening) (sym told.entries) ∙ state-is) ∙ bytes-after

            is-copy : IsHandleCopy w.tells (state_after f.opening (back.books.history ++ entry ∷ [])) left-row made
            is-copy = record {
              size = ap (λ (v : WorkingCopy). v.length) rest ∙ stood.copy.size ∙ ap length (before-is ∙ sym end-bytes);
              same = λ t.
                  subst (λ (b : Text). IsCopy b made) (sym end-bytes)
                  (copy t held-bytes (record { same = subst (λ (b : Text). contents (slice_index b) work ≡ b) before-is (stood.copy.same t) }) (read.page_is t));
              position = ap (λ (v : WorkingCopy). v.position) rest ∙ read.cursor_is;
              reserve = ap (λ (v : WorkingCopy). v.reserve) rest ∙ stood.copy.reserve ∙ ap (λ (r : Own). reserve_of (outline_of r)) handle.1;
            }

            stands : StandsFor w.tells f.opening new.books.history c.agent row made
            stands =
                subst (λ (es : List Entry). StandsFor w.tells f.opening es c.agent row made) (sym told.entries)
                (stand f.opening back.books.history entry row left-row made
                (record {
                  turn = refl;
                  done = refl;
                  some = some;
                  named = inl refl;
                  there = ap (λ (t : State Text Own). own_of (agent_of t c.agent) row) (ap (state_after f.opening) (sym told.entries) ∙ state-is) ∙ at-after;
                })
                paged is-copy)

            left : (n : ℕ) → n ≡ row → StandsForLeft w.tells f.opening new.books.history c.agent n made
            left zero is = absurd (some (sym is))
            left (suc n) is = subst (λ (m : ℕ). StandsFor w.tells f.opening new.books.history c.agent m made) (sym is) stands

            pub has-acted : (old now : DeskParts D) (rows : ℕ) → old.ledger ≡ l → now.ledger ≡ new → now.pages ≡ p → rows ≡ length (agent_of (machine_in mid) c.agent).own
                → HasActed w f old now calls (call_in c) work made (read_act bytes rows)
            has-acted old now rows was is are count = subst (λ (b : Text). HasActed w f old now calls (call_in c) work made (read_act b rows)) read.same (record {
              held = record {
                recorded = way.cleared.recorded;
                are =
                    subst (λ (v : Ledger D). AreHeldWhole w f way.cleared.recorded v now.pages) (sym is)
                    (subst (λ (v : OpenPages). AreHeldWhole w f way.cleared.recorded new v) (sym are) held-now);
                idle = ap (λ (v : Ledger D). v.books.state.store.prepared.place) is ∙ told.idle;
              };
              acted =
                  subst (λ (v : Ledger D). IsActed w.tells f.opening v.books.history calls (call_in c) (reply.Read copied) now.ledger.books.history) (sym was)
                  (subst (λ (v : Ledger D). IsActed w.tells f.opening l.books.history calls (call_in c) (reply.Read copied) v.books.history) (sym is)
                  (acts.acted f l mid back new calls units c (reply.Read copied) took.taken (record { cleared = way.entries; added = told.entries }) answered.next));
              left = record {
                refused = λ refusal. absurd (false≢true refusal);
                stands = λ plain_done.
                    subst (λ (v : Ledger D). StandsForLeft w.tells f.opening v.books.history c.agent (row_left (length (agent_of (state_after f.opening v.books.history) c.agent).own) c.op) made) (sym is)
                    (left (row_left (length (agent_of (state_after f.opening new.books.history) c.agent).own) c.op) (leaves-named _ c.op reads));
                near = λ plain_done brings. absurd (false≢true (sym (not-near c.op reads) ∙ brings));
              };
              gift =
                  let nothing = no-gift (state_after f.opening (old.ledger.books.history ++ calls)) c.op copied reads in
                  record { alike = ap unread_gift (sym nothing); told = λ t. sym nothing };
              rows = count ∙ ap (λ (m : Machine). length (agent_of m c.agent).own) took.held.books.machine ∙ own-length base c.agent ∙ sym (ap (λ (v : Ledger D). length (agent_of (state_after f.opening v.books.history) c.agent).own) is ∙ rows-now);
              fault = λ never. absurd (false≢true never);
              way =
                  subst (λ (v : Ledger D). IsWayEnded w f v now.ledger) (sym was)
                  (subst (λ (v : Ledger D). IsWayEnded w f l v) (sym is)
                  (acts.before f recorded l mid new p c.agent calls _ begins.held begins.asked.may.pending took.taken
                  (acts.silent f mid back new units c (reply.Read copied) (record { cleared = way.entries; added = told.entries }) told.journal way.cleared.way)));
            })
