-- A call that stores nothing, clears no unit and leaves no row open, put together from its steps.
use Rattle.std.proofs.Common.{◌≡◌, ℕ, false, is_some, slice_index_or, List, [], ◌∷◌, ◌++◌, map, length, unwrap_or, None, refl, sym, ap, ◌∙◌, subst, append-nil, arith}
use Rattle.std.proofs.lemmas.Bool.{false≢true, true≢false}
use Rattle.opfs_store.specs.Acts.Acting.{told_entry, row_left, IsActed, IsGift, StandsForLeft}
use Rattle.opfs_store.specs.declared.acts.acted.Gift.{Gift}
use Rattle.opfs_base.specs.Texts.{Text}
use Rattle.opfs_books.specs.Laws.Books.{Fixed}
use Rattle.opfs_books.specs.Laws.Laws.{BooksShowTheirImages}
use Rattle.opfs_books.proofs.laws.Told.{next-state, next-reply}
use Rattle.opfs_state_rows.specs.Changes.Allowed.{IsSized}
use Rattle.opfs_data.specs.Pages.{page_of, blank}
use Rattle.opfs_data.specs.Rows.{no_row}
use Rattle.opfs_pages.specs.HistoryLaws.Laid.{AreLaid}
use Rattle.opfs_pages.specs.HistoryLaws.Open.{open_at}
use Rattle.opfs_pages.specs.HistoryLaws.Spaced.{AreSpaced}
use Rattle.opfs_hist.specs.Faults.{is_disk_fault}
use Rattle.opfs_hist.specs.declared.entry.Entry.{Entry}
use Rattle.opfs_hist.specs.declared.reply.Reply.{Reply}
use Rattle.opfs_hist.specs.declared.reply.Reply.TheVariants as reply
use Rattle.opfs_journal.specs.Seen.{Seen}
use Rattle.opfs_laws.specs.Lengths.Outlines.{in_lengths_of}
use Rattle.opfs_machine.specs.declared.own.Own.{Own}
use Rattle.opfs_machine.specs.declared.state.State.{State}
use Rattle.opfs_machine.specs.Agents.{agent_of}
use Rattle.opfs_machine.specs.Histories.{state_after}
use Rattle.opfs_machine.specs.Runs.{eviction}
use Rattle.opfs_machine.specs.Steps.{after_reply, is_refusal}
use Rattle.opfs_outside.specs.declared.disk.Disk.{Ghosts as DiskWords}
use Rattle.opfs_records.specs.Replay.Built.{Built}
use Rattle.opfs_pages.specs.RowCalls.Plans.{shelf}
use Rattle.opfs_space.specs.Room.{Machine}
use Rattle.opfs_space.specs.Spaces.{SpaceSeen}
use Rattle.opfs_work.specs.Works.{WorkingCopy}
use Rattle.opfs_desk_steps.specs.Parts.Acted.{HasActed, IsWayEnded}
use Rattle.opfs_desk_steps.specs.Parts.Answered.{IsAnswered}
use Rattle.opfs_desk_steps.specs.Parts.Held.{AreHeldAt, AreHeldWhole}
use Rattle.opfs_desk_steps.specs.Parts.Seen.{machine_in, tree_in, call_in, units_in}
use Rattle.opfs_desk_steps.specs.declared.parts.call.ReadyCall.{ReadyCall}
use Rattle.opfs_desk_steps.specs.declared.parts.parts.Ledger.{Ledger}
use Rattle.opfs_desk_steps.specs.declared.parts.parts.OpenPages.{OpenPages}
use Rattle.opfs_desk_steps.specs.declared.parts.parts.DeskParts.{DeskParts}
use Rattle.opfs_desk_steps.specs.RowLaws.InHand.{RowsInHandAreLaid}
use Rattle.opfs_desk_steps.specs.Acting.{CallsAreActed}
use Rattle.opfs_desk_steps.specs.Answering.{ReadyCallsAreAnswered, IsReply}
use Rattle.opfs_desk_steps.specs.Ready.{IsReadyCall, AskedCallsAreReady}
use Rattle.opfs_desk_steps.proofs.Counts.{own-length}
use Rattle.opfs_desk_steps.proofs.book_steps.Ways.{way-here}
use Rattle.opfs_desk_steps.specs.Going.{HasTakenIn, HasTold}
use Rattle.opfs_desk_entries.specs.Answers.Silent.{BeginsCall, LeavesClosed, told_act}
use Rattle.opfs_desk_entries.proofs.answers.Closed.{shut-none}

no-fault : (r : Reply) → is_refusal r ≡ false → is_disk_fault r ≡ false
no-fault (reply.No x) done = absurd (true≢false done)
no-fault r done = refl

module _ {D : Type 0} (w : DiskWords D) (asks : AskedCallsAreReady w) (answers : ReadyCallsAreAnswered w)
    (f : Fixed D) (recorded : Built) (l mid : Ledger D) (p : OpenPages) (calls : List Entry) (c : ReadyCall) (work : WorkingCopy) (past : List Text)
    (begins : BeginsCall w f recorded l p calls c work past) (took : HasTakenIn w f recorded l mid p calls c) where
  abbrev pub base : State Text Own
  base = state_after f.opening mid.books.history

  abbrev pub entry : Reply → Entry
  entry r = told_entry (call_in c) r

  pub ready : IsReadyCall base mid c
  ready = asks.ready f recorded l mid p calls c work past begins.held begins.asked took.taken.entries took.held took.prepared

  module _ (none : units_in c.clearing.items ≡ []) (r : Reply) (its : IsReply w.tells base c r) (sized : IsSized (machine_in mid) c.sizes c.agent c.op) where
    whole : AreHeldAt w f recorded base (units_in c.clearing.items) mid p
    whole = subst (λ (units : List Text). AreHeldAt w f recorded base units mid p) (sym none) took.held

    pub answered : IsAnswered w base [] mid (entry r) c.sizes
    answered =
        subst (λ (units : List Text). IsAnswered w base units mid (entry r) c.sizes) none
        (answers.answered f recorded recorded mid mid p p c r took.held ready
        (record { entries = sym (ap (λ (units : List Text). mid.books.history ++ map eviction units) none ∙ append-nil mid.books.history); prepared = took.prepared }) whole its sized)

    module _ (done : is_refusal r ≡ false) (new : Ledger D) (told : HasTold w f recorded mid new p (entry r) c.sizes) (q : OpenPages) (row : ℕ) (closed : LeavesClosed p q base c row) where
      abbrev after : State Text Own
      after = after_reply base c.agent c.op r

      pub state-is : state_after f.opening new.books.history ≡ after
      state-is =
          ap (λ (es : List Entry). state_after f.opening es) told.entries
          ∙ (next-state w.tells f.opening mid.books.history base [] took.held.books.told (entry r) answered.next
          ∙ next-reply w.tells f.opening mid.books.history base [] took.held.books.told (entry r) answered.next)

      pub machine-is : machine_in new ≡ in_lengths_of after
      machine-is = told.books.machine ∙ ap in_lengths_of state-is

      module _ (rows : RowsInHandAreLaid w) (shut : open_at (machine_in new) c.agent row ≡ None) (spaced : AreSpaced (machine_in new) (shelf recorded.rows (tree_in new) q.swap) p.space) where
        shut-after : open_at (in_lengths_of after) c.agent row ≡ None
        shut-after = ap (λ (m : Machine). open_at m c.agent row) (sym machine-is) ∙ shut

        laid : AreLaid w.tells f.opening (mid.books.history ++ entry r ∷ []) p.base (w.content mid.journal.disk) (in_lengths_of after) (shelf recorded.rows (tree_in new) q.swap) p.space
        laid =
            rows.closed_row f recorded base [] mid p (w.content mid.journal.disk) (entry r) row (shelf recorded.rows (tree_in new) q.swap) p.space took.held
            (record { plain = closed.plain; live = ready.live; in_hand = closed.in_hand }) (shut-none after c.agent row shut-after) (ap (λ x. is_some x) shut-after)
            (record {
              others = closed.others;
              read = λ t k n i apart within. ap (λ x. page_of (w.content mid.journal.disk) p.base (slice_index_or (unwrap_or x no_row).pages i blank)) (closed.others k n apart);
              gone = closed.gone;
            })
            (subst (λ (m : Machine). AreSpaced m (shelf recorded.rows (tree_in new) q.swap) p.space) machine-is spaced)

        pub held-now : AreHeldWhole w f recorded new q
        held-now = record {
          books = told.books;
          laid =
              subst (λ (b : ℕ). AreLaid w.tells f.opening new.books.history b (w.content new.journal.disk) (machine_in new) (shelf recorded.rows (tree_in new) q.swap) q.space) (sym closed.base)
              (subst (λ (x : SpaceSeen). AreLaid w.tells f.opening new.books.history p.base (w.content new.journal.disk) (machine_in new) (shelf recorded.rows (tree_in new) q.swap) x) (sym closed.space)
              (subst (λ (j : Seen D). AreLaid w.tells f.opening new.books.history p.base (w.content j.disk) (machine_in new) (shelf recorded.rows (tree_in new) q.swap) p.space) (sym told.journal)
              (subst (λ (es : List Entry). AreLaid w.tells f.opening es p.base (w.content mid.journal.disk) (machine_in new) (shelf recorded.rows (tree_in new) q.swap) p.space) (sym told.entries)
              (subst (λ (m : Machine). AreLaid w.tells f.opening (mid.books.history ++ entry r ∷ []) p.base (w.content mid.journal.disk) m (shelf recorded.rows (tree_in new) q.swap) p.space) (sym machine-is) laid))));
          tied = record {
            range = told.tied.range;
            base = closed.base ∙ told.tied.base;
            size = told.tied.size;
            freed = told.tied.freed;
            agents = told.tied.agents;
            keys = told.tied.keys;
            quota = told.tied.quota;
            few = λ none. omega (arith, closed.kept, told.tied.few none);
          };
          fresh = told.fresh;
        }

        rows-now : (n : ℕ) → n ≡ length (agent_of (machine_in new) c.agent).own → n ≡ length (agent_of (state_after f.opening new.books.history) c.agent).own
        rows-now n is = is ∙ (ap (λ (m : Machine). length (agent_of m c.agent).own) told.books.machine ∙ own-length (state_after f.opening new.books.history) c.agent)

        left : (n : ℕ) → n ≡ 0 → (made : WorkingCopy) → StandsForLeft w.tells f.opening new.books.history c.agent n made
        left n is made = subst (λ (x : ℕ). StandsForLeft w.tells f.opening new.books.history c.agent x made) (sym is) tt

        -- The call was acted, whatever it gives and whatever working copy it leaves.
        pub has-acted : CallsAreActed w → BooksShowTheirImages w → (gift : Gift) → IsGift w.tells (state_after f.opening (l.books.history ++ calls)) c.op r gift
            → (n : ℕ) → n ≡ length (agent_of (machine_in new) c.agent).own → (made : WorkingCopy) (old now : DeskParts D) → old.ledger ≡ l → now.ledger ≡ new → now.pages ≡ q
            → HasActed w f old now calls (call_in c) work made (told_act r gift n)
        has-acted acts shows gift given n count made old now was is are = record {
          held = record {
            recorded = recorded;
            are =
                subst (λ (x : Ledger D). AreHeldWhole w f recorded x now.pages) (sym is)
                (subst (λ (x : OpenPages). AreHeldWhole w f recorded new x) (sym are) held-now);
            idle = ap (λ (x : Ledger D). x.books.state.store.prepared.place) is ∙ told.idle;
          };
          acted =
              subst (λ (x : Ledger D). IsActed w.tells f.opening x.books.history calls (call_in c) r now.ledger.books.history) (sym was)
              (subst (λ (x : Ledger D). IsActed w.tells f.opening l.books.history calls (call_in c) r x.books.history) (sym is)
              (acts.acted f l mid mid new calls [] c r took.taken (record { cleared = sym (append-nil mid.books.history); added = told.entries }) answered.next));
          left = record {
            refused = λ refuses. absurd (false≢true (sym done ∙ refuses));
            stands = λ yes_done.
                subst (λ (x : Ledger D). StandsForLeft w.tells f.opening x.books.history c.agent (row_left (length (agent_of (state_after f.opening x.books.history) c.agent).own) c.op) made) (sym is)
                (left (row_left (length (agent_of (state_after f.opening new.books.history) c.agent).own) c.op) (closed.left _) made);
            near = λ yes_done brings. absurd (false≢true (sym closed.near ∙ brings));
          };
          gift = subst (λ (x : Ledger D). IsGift w.tells (state_after f.opening (x.books.history ++ calls)) c.op r gift) (sym was) given;
          rows =
              subst (λ (x : Ledger D). n ≡ length (agent_of (state_after f.opening x.books.history) c.agent).own) (sym is) (rows-now n count);
          fault = λ fault. absurd (false≢true (sym (no-fault r done) ∙ fault));
          way =
              subst (λ (x : Ledger D). IsWayEnded w f x now.ledger) (sym was)
              (subst (λ (x : Ledger D). IsWayEnded w f l x) (sym is)
              (acts.before f recorded l mid new p c.agent calls _ begins.held begins.asked.may.pending took.taken
              (acts.silent f mid mid new [] c r (record { cleared = sym (append-nil mid.books.history); added = told.entries }) told.journal
              (way-here w f recorded base [] mid mid _ shows took.held.books refl))));
        }
