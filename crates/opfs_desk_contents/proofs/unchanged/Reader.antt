-- The flush of a read-only access handle, put together from its steps.
use Rattle.std.proofs.Common.{◌≡◌, ℕ, zero, suc, true, false, List, [], ◌++◌, length, Some, option_map, refl, sym, ap, ◌∙◌, subst, append-nil, inl}
use Rattle.std.proofs.lemmas.Bool.{false≢true}
use Rattle.opfs_store.specs.Acts.Acting.{told_entry, row_left, StandsForLeft, unread_gift}
use Rattle.opfs_store.specs.declared.acts.acted.Gift.TheVariants as gift
use Rattle.opfs_base.specs.Texts.{Text}
use Rattle.opfs_books.specs.Laws.Books.{Fixed}
use Rattle.opfs_books.specs.Laws.Laws.{BooksKeepTheState, BooksShowTheirImages}
use Rattle.opfs_store.specs.Copies.Copies.{StandsFor, IsPaged}
use Rattle.opfs_pages.specs.HistoryLaws.Handles.{AreHandlesWhole, HandlesStayWhole}
use Rattle.opfs_pages.specs.HistoryLaws.Putting.{AllReadAlike}
use Rattle.opfs_hist.specs.declared.entry.Entry.{Entry}
use Rattle.opfs_hist.specs.declared.op.Mode.{Mode}
use Rattle.opfs_hist.specs.declared.op.Mode.TheVariants as mode
use Rattle.opfs_hist.specs.declared.reply.Reply.TheVariants as reply
use Rattle.opfs_laws.specs.Histories.Unread.{unread}
use Rattle.opfs_journal.specs.Seen.{Seen}
use Rattle.opfs_laws.specs.Leaving.{ACallMovesItsAgent}
use Rattle.opfs_laws.specs.Lengths.Bridge.{LengthsDecideEachRuling, LengthsFollowEachCall, LocalCallsAreKnownByTheirWord}
use Rattle.opfs_laws.specs.Lengths.Kept.{Kept}
use Rattle.opfs_laws.proofs.lengths.Readers.{row-at-on}
use Rattle.opfs_machine.specs.declared.own.HandleOutline.{HandleOutline}
use Rattle.opfs_machine.specs.declared.own.HandleRow.{HandleRow}
use Rattle.opfs_machine.specs.declared.own.Outline.TheVariants as outline
use Rattle.opfs_machine.specs.declared.own.Own.{Own}
use Rattle.opfs_machine.specs.declared.own.Own.TheVariants as own
use Rattle.opfs_machine.specs.declared.state.State.{State}
use Rattle.opfs_machine.specs.Agents.{agent_of, open_handle, own_of}
use Rattle.opfs_machine.specs.Contents.{in_lengths, outline_of}
use Rattle.opfs_machine.specs.Histories.{state_after}
use Rattle.opfs_machine.specs.Replies.{bytes_at, row_named}
use Rattle.opfs_machine.specs.Rulings.{is_read_write}
use Rattle.opfs_machine.specs.Steps.{after_reply}
use Rattle.opfs_outside.specs.declared.disk.Disk.{Ghosts as DiskWords}
use Rattle.opfs_records.specs.Replay.Built.{Built}
use Rattle.opfs_state_rows.specs.Standing.Seen.{Machine}
use Rattle.opfs_tree.specs.Rows.{IsInOrder}
use Rattle.opfs_state.specs.Verdicts.Callers.{IsAgent}
use Rattle.opfs_work.specs.Works.{WorkingCopy}
use Rattle.opfs_desk_contents.specs.Words.{flushes_nothing, ends_row}
use Rattle.opfs_desk_entries.specs.Releases.Leaving.{IsInOrderThrough}
use Rattle.opfs_desk_steps.specs.Parts.Acted.{HasActed}
use Rattle.opfs_desk_steps.specs.Parts.Answered.{IsAnswered}
use Rattle.opfs_desk_steps.specs.Parts.Held.{AreHeldWhole}
use Rattle.opfs_desk_steps.specs.Parts.Seen.{machine_in, book_in, call_in, units_in}
use Rattle.opfs_desk_steps.specs.declared.parts.call.ReadyCall.{ReadyCall}
use Rattle.opfs_desk_steps.specs.declared.parts.parts.Ledger.{Ledger}
use Rattle.opfs_desk_steps.specs.declared.parts.parts.OpenPages.{OpenPages}
use Rattle.opfs_desk_entries.specs.Answers.Silent.{BeginsCall, told_act}
use Rattle.opfs_desk_entries.proofs.answers.Silent.{ready, answered}
use Rattle.opfs_desk_bytes.proofs.reading.Synced.{HandlesStand, handed}
use Rattle.opfs_desk_bytes.proofs.reading.Wholes.{pending-whole}
use Rattle.opfs_desk_steps.specs.Acting.{CallsAreActed}
use Rattle.opfs_desk_steps.specs.Answering.{ReadyCallsAreAnswered, IsReply}
use Rattle.opfs_desk_steps.specs.Ready.{AskedCallsAreReady, IsReadyCall}
use Rattle.opfs_desk_steps.specs.Going.{HasTakenIn, HasTold}
use Rattle.opfs_desk_steps.proofs.Counts.{own-length}
use Rattle.opfs_desk_steps.proofs.book_steps.Ways.{way-here}
use Rattle.opfs_desk_contents.specs.Unchanged.Saving.{saves_handle}
use Rattle.opfs_desk_contents.proofs.unchanged.Entered.{HasEntered, SavingLaws, held-left, left-after, bytes-now, state-is}
use Rattle.opfs_desk_contents.proofs.unchanged.Saved.{idle-named, row-some, rows-same, stands-left}
use Rattle.opfs_desk_contents.proofs.unchanged.Wordings.{answers-done, handle-in-bytes, idle-reader, idle-stays, idle-word, leaves-named, no-gift, no-units, not-near, sized}

-- The laws of the steps of a call.
pub record CallingLaws {D : Type 0} (w : DiskWords D) : Type 0 where
  pub asks : AskedCallsAreReady w
  pub answers : ReadyCallsAreAnswered w
  pub decide : LengthsDecideEachRuling
  pub follow : LengthsFollowEachCall
  pub local : LocalCallsAreKnownByTheirWord
  pub known : BooksKeepTheState w

reads-only : (m : Mode) → is_read_write m ≡ false → m ≡ mode.ReadOnly
reads-only mode.ReadOnly is = refl
reads-only mode.ReadWrite is = absurd (false≢true (sym is))

module _ {D : Type 0} (w : DiskWords D) (laws : CallingLaws w) (f : Fixed D) (recorded : Built) (l mid : Ledger D) (p : OpenPages) (calls : List Entry) (c : ReadyCall) (work : WorkingCopy)
    (begins : BeginsCall w f recorded l p calls c work []) (word : flushes_nothing (machine_in l) c.agent c.op ≡ true) (took : HasTakenIn w f recorded l mid p calls c) where
  abbrev base : State Text Own
  base = state_after f.opening mid.books.history

  abbrev row : ℕ
  row = row_named c.op

  abbrev pub entry : Entry
  entry = told_entry (call_in c) reply.Done

  saves : saves_handle c.op ≡ true
  saves = idle-word (machine_in l) c.agent c.op word

  stays : ends_row c.op ≡ false
  stays = idle-stays (machine_in l) c.agent c.op word

  agent-was : IsAgent (machine_in l) c.agent
  agent-was = (laws.asks.taken f recorded l p calls c work [] begins.held begins.asked).agent

  ready-now : IsReadyCall base mid c
  ready-now = ready w laws.asks laws.answers f recorded l mid p calls c work [] begins took

  pub agent-is : IsAgent (machine_in mid) c.agent
  agent-is = ready-now.agent

  pub word-mid : flushes_nothing (machine_in mid) c.agent c.op ≡ true
  word-mid = idle-named w laws.follow laws.local f recorded l mid p calls c work [] begins agent-was took ∙ word

  -- Its row is an access handle that may not write, and keeps no blocks.
  reader : (h : HandleOutline) × (open_handle in_lengths (machine_in mid) c.agent row ≡ Some h) × (is_read_write h.mode ≡ false)
  reader = idle-reader (machine_in mid) c.agent c.op word-mid

  handle : (x : HandleRow) × (own_of (agent_of base c.agent) row ≡ Some (own.Handle x)) × (outline_of (own.Handle x) ≡ outline.Handle reader.0)
  handle = handle-in-bytes base c.agent row reader.0 (ap (λ (m : Machine). open_handle in_lengths m c.agent row) (sym took.held.books.machine) ∙ reader.1)

  abbrev x : HandleRow
  x = handle.0

  one-outline : (a b : HandleOutline) → outline.Handle a ≡ outline.Handle b → a ≡ b
  one-outline a b e = cc

  same-outline : record { file = x.file; mode = x.mode; reserve = x.reserve } ≡ reader.0
  same-outline = one-outline _ reader.0 handle.2

  kept : Kept (machine_in mid)
  kept = laws.known.kept f recorded base (book_in mid) mid.journal took.held.books

  idle : x.reserve ≡ 0
  idle =
      ap (λ (h : HandleOutline). h.reserve) same-outline
      ∙ kept.readers c.agent row reader.0
      (ap (λ (m : Machine). own_of (agent_of m c.agent) row) took.held.books.machine ∙ row-at-on length outline_of base c.agent row ∙ (λ i. option_map outline_of (handle.1 i)) ∙ ap Some handle.2)
      (reads-only reader.0.mode reader.2)

  none : units_in c.clearing.items ≡ []
  none = no-units laws.decide base c.agent c.op (units_in c.clearing.items) saves ready-now.judged

  its : IsReply w.tells base c reply.Done
  its =
      let done = answers-done base c.sizes c.agent c.op saves in
      record { alike = ap unread (sym done); told = λ t. sym done }

  pub may-come : IsAnswered w base [] mid entry c.sizes
  may-come = answered w laws.asks laws.answers f recorded l mid p calls c work [] begins took none reply.Done its (sized (machine_in mid) c.sizes c.agent c.op saves)

  stood : StandsFor w.tells f.opening mid.books.history c.agent row work
  stood =
      subst (λ (es : List Entry). StandsFor w.tells f.opening es c.agent row work) (sym took.taken.entries)
      (handed w.tells f.opening (l.books.history ++ calls) c.agent row work (row-some base c.agent row x handle.1) begins.asked.may.copy)

  module _ (saving : SavingLaws w) (new : Ledger D) (told : HasTold w f recorded mid new p entry c.sizes) (order : IsInOrderThrough mid c.agent c.op c.sizes) where
    same-alike : w.tells → AllReadAlike p.base (w.content mid.journal.disk) (w.content new.journal.disk) p.swap p.swap
    same-alike t = subst (λ (j : Seen D). AllReadAlike p.base (w.content mid.journal.disk) (w.content j.disk) p.swap p.swap) (sym told.journal) (λ k n i within. refl)

    came : HasEntered w f recorded recorded mid new p entry c.sizes
    came = record {
      either = inl refl;
      entries = told.entries;
      machine = told.machine;
      tree = told.tree;
      books = told.books;
      tied = told.tied;
      fresh = told.fresh;
      alike = same-alike;
      order = order.before;
      order_now = subst IsInOrder (sym told.tree) order.after;
    }

    module _ (handles : HandlesStayWhole) (whole : AreHandlesWhole f.opening l.books.history) (stand : HandlesStand w.tells) (paged : IsPaged work) where
      whole-mid : AreHandlesWhole f.opening mid.books.history
      whole-mid = subst (AreHandlesWhole f.opening) (sym took.taken.entries) (pending-whole handles w.tells f.opening l.books.history calls c.agent begins.asked.may.pending whole)

      held-now : AreHeldWhole w f recorded new p
      held-now = held-left w saving f recorded recorded mid new p entry c.sizes x took.held ready-now.live saves refl handle.1 came whole-mid stays idle

      state-now : state_after f.opening new.books.history ≡ after_reply base c.agent c.op reply.Done
      state-now = state-is w saving f recorded recorded mid new p entry c.sizes x took.held ready-now.live saves refl handle.1 came

      stands : StandsFor w.tells f.opening new.books.history c.agent row work
      stands =
          stands-left w.tells stand f.opening mid.books.history new.books.history entry row x work told.entries refl refl refl stood handle.1
          (ap (λ (s : State Text Own). own_of (agent_of s c.agent) row) state-now ∙ left-after w saving f recorded recorded mid new p entry c.sizes x took.held ready-now.live saves refl handle.1 came whole-mid stays idle)
          (ap (λ (s : State Text Own). bytes_at s x.file) state-now ∙ bytes-now w saving f recorded recorded mid new p entry c.sizes x took.held ready-now.live saves refl handle.1 came whole-mid stays idle)
          paged

      left : (n : ℕ) → n ≡ row → StandsForLeft w.tells f.opening new.books.history c.agent n work
      left zero is = absurd (row-some base c.agent row x handle.1 (sym is))
      left (suc n) is = subst (λ (m : ℕ). StandsFor w.tells f.opening new.books.history c.agent m work) (sym is) stands

      rows-now : ACallMovesItsAgent → length (agent_of (machine_in mid) c.agent).own ≡ length (agent_of (state_after f.opening new.books.history) c.agent).own
      rows-now moves =
          ap (λ (m : Machine). length (agent_of m c.agent).own) took.held.books.machine ∙ own-length base c.agent
          ∙ sym (ap (λ (s : State Text Own). length (agent_of s c.agent).own) state-now ∙ rows-same moves base c.agent c.op reply.Done ready-now.live saves)

      pub idle-acted : ACallMovesItsAgent → CallsAreActed w → BooksShowTheirImages w → (rows : ℕ) → rows ≡ length (agent_of (machine_in mid) c.agent).own
          → HasActed w f (record { ledger = l; pages = p }) (record { ledger = new; pages = p }) calls (call_in c) work work (told_act reply.Done gift.Nothing rows)
      idle-acted moves acts shows rows count = record {
        held = record { recorded = recorded; are = held-now; idle = told.idle };
        acted = acts.acted f l mid mid new calls [] c reply.Done took.taken (record { cleared = sym (append-nil mid.books.history); added = told.entries }) may-come.next;
        left = record {
          refused = λ refuses. absurd (false≢true refuses);
          stands = λ yes_done. left (row_left (length (agent_of (state_after f.opening new.books.history) c.agent).own) c.op) (leaves-named _ c.op saves stays);
          near = λ yes_done brings. absurd (false≢true (sym (not-near c.op saves) ∙ brings));
        };
        gift =
            let nothing = no-gift (state_after f.opening (l.books.history ++ calls)) c.op saves in
            record { alike = ap unread_gift (sym nothing); told = λ t. sym nothing };
        rows = count ∙ rows-now moves;
        fault = λ never. absurd (false≢true never);
        way =
            acts.before f recorded l mid new p c.agent calls _ begins.held begins.asked.may.pending took.taken
            (acts.silent f mid mid new [] c reply.Done (record { cleared = sym (append-nil mid.books.history); added = told.entries }) told.journal
            (way-here w f recorded base [] mid mid _ shows took.held.books refl));
      }
