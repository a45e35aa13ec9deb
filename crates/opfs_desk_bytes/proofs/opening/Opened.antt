-- A call that opens a row, put together from its steps.
use Rattle.std.proofs.Common.{◌≡◌, ℕ, zero, suc, Bool, true, List, [], ◌∷◌, ◌++◌, fold, length, Some, None, refl, sym, ap, ◌∙◌, subst, arith}
use Rattle.std.proofs.lemmas.Bool.{false≢true}
use Rattle.std.specs.Prelude.{IsTrue}
use Rattle.opfs_store.specs.Acts.Acting.{told_entry, row_left, IsActed, StandsForLeft, unread_gift}
use Rattle.opfs_base.specs.Places.{place_of}
use Rattle.opfs_base.specs.Texts.{Text}
use Rattle.opfs_base.specs.declared.extents.Extent.{Extent}
use Rattle.opfs_base.specs.declared.locator.Locator.{Locator}
use Rattle.opfs_books.specs.Laws.Books.{Fixed}
use Rattle.opfs_books.specs.Laws.Commits.{StateLaws}
use Rattle.opfs_books.proofs.laws.Told.{next-state, next-reply, told-whole}
use Rattle.opfs_state_rows.specs.Changes.Changed.{tree_by}
use Rattle.opfs_store.specs.Copies.Copies.{StandsFor}
use Rattle.opfs_pages.specs.HistoryLaws.Laid.{AreLaid}
use Rattle.opfs_pages.specs.HistoryLaws.Laws.{TreesKeepBlocks}
use Rattle.opfs_pages.specs.HistoryLaws.RowsAfter.{CallsChangeTheirRow}
use Rattle.opfs_hist.specs.declared.entry.Entry.{Entry}
use Rattle.opfs_hist.specs.declared.op.Op.{Op}
use Rattle.opfs_hist.specs.declared.op.Op.TheVariants as op
use Rattle.opfs_hist.specs.declared.reply.Reply.TheVariants as reply
use Rattle.opfs_laws.specs.Histories.Unread.{unread}
use Rattle.opfs_laws.proofs.LocksEffect.{number-after}
use Rattle.opfs_laws.specs.Lengths.Outlines.{in_lengths_of}
use Rattle.opfs_machine.specs.declared.own.Own.{Own}
use Rattle.opfs_machine.specs.declared.state.FileRow.{FileRow as File}
use Rattle.opfs_machine.specs.declared.state.State.{State}
use Rattle.opfs_machine.specs.Replies.{sizes_of}
use Rattle.opfs_machine.specs.Rows.{file_at}
use Rattle.opfs_machine.specs.Agents.{agent_of}
use Rattle.opfs_machine.specs.Histories.{state_after}
use Rattle.opfs_machine.specs.Steps.{evicted, after_reply}
use Rattle.opfs_outside.specs.declared.disk.Disk.{Ghosts as DiskWords}
use Rattle.opfs_records.specs.Replay.Built.{Built}
use Rattle.opfs_pages.specs.RowCalls.Plans.{shelf}
use Rattle.opfs_space.specs.Room.{Machine}
use Rattle.opfs_space.specs.Spaces.{SpaceSeen}
use Rattle.opfs_journal.specs.Seen.{Seen}
use Rattle.opfs_tree.specs.Rows.{Rows as Tree, IsInOrder, row_at}
use Rattle.opfs_work.specs.Works.{WorkingCopy}
use Rattle.opfs_desk_steps.specs.Parts.Acted.{HasActed, IsWayEnded}
use Rattle.opfs_desk_steps.specs.Parts.Answered.{IsAnswered}
use Rattle.opfs_desk_steps.specs.Parts.Held.{AreHeldWhole}
use Rattle.opfs_desk_steps.specs.Parts.Seen.{machine_in, tree_in, call_in, units_in}
use Rattle.opfs_desk_steps.specs.declared.parts.call.ReadyCall.{ReadyCall}
use Rattle.opfs_desk_steps.specs.declared.parts.parts.Ledger.{Ledger}
use Rattle.opfs_desk_steps.specs.declared.parts.parts.OpenPages.{OpenPages}
use Rattle.opfs_desk_steps.specs.declared.parts.parts.DeskParts.{DeskParts}
use Rattle.opfs_desk_steps.specs.RowLaws.OpenCopies.{OpenedCopiesStand}
use Rattle.opfs_desk_steps.specs.RowLaws.Opening.{OpenedRowsAreLaid}
use Rattle.opfs_desk_steps.specs.RowLaws.Opens.{CallsOpenRows, HasRow, HasOpened, MayOpen, next_row, opens_row, opened_extents}
use Rattle.opfs_desk_steps.specs.RowLaws.Stored.{FilesAreStored, HasCleared}
use Rattle.opfs_desk_steps.proofs.row_laws.Opens.{given}
use Rattle.opfs_desk_steps.specs.Acting.{CallsAreActed}
use Rattle.opfs_desk_steps.specs.Answering.{ReadyCallsAreAnswered, IsReply}
use Rattle.opfs_desk_steps.specs.Ready.{IsReadyCall, AskedCallsAreReady}
use Rattle.opfs_desk_steps.proofs.Numbers.{agent-stays}
use Rattle.opfs_desk_steps.specs.Going.{HasTakenIn, HasMadeWay, HasTold, IsTidy}
use Rattle.opfs_desk_bytes.specs.Opening.Opening.{BeginsOpening, HasPages, opened_act}
use Rattle.opfs_desk_bytes.proofs.opening.Grown.{writable-grown, sync-grown}
use Rattle.opfs_desk_bytes.proofs.opening.Rows.{next-stays}
use Rattle.opfs_desk_bytes.proofs.opening.Sizes.{size-is, reserve-is, same-size, same-kept}
use Rattle.opfs_desk_bytes.specs.Opening.Sizes.{IsFar, opened_size, kept_blocks}
use Rattle.opfs_desk_bytes.proofs.opening.Trees.{file-stays}
use Rattle.opfs_desk_bytes.proofs.opening.Words.{answers-done, sized, no-gift, leaves-last, not-near, file_place, own-file, same-extents}

module _ {D : Type 0} (w : DiskWords D) (asks : AskedCallsAreReady w) (answers : ReadyCallsAreAnswered w)
    (f : Fixed D) (recorded : Built) (l mid back : Ledger D) (p : OpenPages) (calls : List Entry) (c : ReadyCall) (work : WorkingCopy) (past : List Text)
    (begins : BeginsOpening w f recorded l p calls c work past) (took : HasTakenIn w f recorded l mid p calls c) where
  abbrev pub base : State Text Own
  base = state_after f.opening mid.books.history

  abbrev pub units : List Text
  units = units_in c.clearing.items

  abbrev pub s : State Text Own
  s = fold evicted base units

  abbrev pub entry : Entry
  entry = told_entry (call_in c) reply.Done

  pub ready : IsReadyCall base mid c
  ready = asks.ready f recorded l mid p calls c work past begins.held begins.asked took.taken.entries took.held took.prepared

  pub its-reply : IsReply w.tells base c reply.Done
  its-reply =
      let is = answers-done base c.sizes c.agent c.op begins.opens in
      record { alike = ap unread (sym is); told = λ t. sym is }

  module _ (way : HasMadeWay w f mid back p c) where
    pub answered : IsAnswered w base units back entry c.sizes
    answered =
        answers.answered f recorded way.cleared.recorded mid back p p c reply.Done took.held ready (record { entries = way.entries; prepared = way.prepared }) way.cleared.are its-reply
        (sized (machine_in back) c.sizes c.agent c.op begins.opens)

    -- The call's file is as it was.
    file-row : row_at (file_place c.op) (tree_in back) ≡ row_at (file_place c.op) (tree_in l)
    file-row =
        ap (λ (t : Tree). row_at (file_place c.op) t) way.tree
        ∙ (file-stays (agent_of base c.agent).key (file_place c.op) (own-file base c.agent c.op begins.opens ready.fitting) units
        (λ front unit rest split. answers.others f recorded mid p c front unit rest took.held ready split) (tree_in mid)
        ∙ ap (λ (t : Tree). row_at (file_place c.op) t) took.tree)

    pub extents-stay : opened_extents (tree_in back) c.op ≡ opened_extents (tree_in l) c.op
    extents-stay = same-extents (tree_in l) (tree_in back) c.op begins.opens file-row

    pub live-now : IsTrue (agent_of s c.agent).live
    live-now = ap (λ a. a.live) (agent-stays base units c.agent) ∙ ready.live

    pub has-cleared : HasCleared w.tells f.opening back.books.history base units
    has-cleared = record { front = mid.books.history; told = told-whole w.tells f.opening mid.books.history base took.held.books.told; state = refl; grown = way.entries }

    module _ (tidy : IsTidy back) (q : OpenPages) (pages : HasPages l p q c (next_row base c.agent)) (order_after : IsInOrder (tree_by (machine_in back) (tree_in back) c.agent c.op c.sizes None)) where
      has-row : HasRow p q c.agent (next_row s c.agent) (opened_extents (tree_in back) c.op)
      has-row =
          subst (λ (n : ℕ). HasRow p q c.agent n (opened_extents (tree_in back) c.op)) (sym (next-stays base units c.agent))
          (subst (λ (es : List Extent). HasRow p q c.agent (next_row base c.agent) es) (sym extents-stay) pages.opened)

      pub may-open : MayOpen w f way.cleared.recorded base units back p q entry c.sizes
      may-open = record {
        held = way.cleared.are;
        cleared = has-cleared;
        lines = sym tidy.lines;
        order = tidy.order;
        order_after = order_after;
        answered = answered;
        live = live-now;
        done = refl;
        opens = begins.opens;
        row = has-row;
      }

      -- ---- what is held once it is entered

      module _ (opening : CallsOpenRows w) (laying : OpenedRowsAreLaid w) (new : Ledger D) (told : HasTold w f way.cleared.recorded back new p entry c.sizes) where
        opened : HasOpened w way.cleared.recorded s back p q entry c.sizes
        opened = opening f way.cleared.recorded base units back p q entry c.sizes may-open

        laid : AreLaid w.tells f.opening (back.books.history ++ entry ∷ []) p.base (w.content back.journal.disk) (in_lengths_of (after_reply s c.agent c.op reply.Done))
            (shelf way.cleared.recorded.rows (tree_by (machine_in back) (tree_in back) c.agent c.op c.sizes None) q.swap) p.space
        laid =
            laying f way.cleared.recorded base units back p q entry (next_row s c.agent) (opened_extents (tree_in back) c.op) _ (tree_by (machine_in back) (tree_in back) c.agent c.op c.sizes None)
            way.cleared.are opened.opens opened.over

        pub state-is : state_after f.opening new.books.history ≡ after_reply s c.agent c.op reply.Done
        state-is =
            ap (λ (es : List Entry). state_after f.opening es) told.entries
            ∙ (next-state w.tells f.opening back.books.history base units way.cleared.are.books.told entry answered.next
            ∙ next-reply w.tells f.opening back.books.history base units way.cleared.are.books.told entry answered.next)

        machine-is : machine_in new ≡ in_lengths_of (after_reply s c.agent c.op reply.Done)
        machine-is = told.books.machine ∙ ap in_lengths_of state-is

        pub held-now : AreHeldWhole w f way.cleared.recorded new q
        held-now = record {
          books = told.books;
          laid =
              subst (λ (b : ℕ). AreLaid w.tells f.opening new.books.history b (w.content new.journal.disk) (machine_in new) (shelf way.cleared.recorded.rows (tree_in new) q.swap) q.space) (sym pages.base)
              (subst (λ (x : SpaceSeen). AreLaid w.tells f.opening new.books.history p.base (w.content new.journal.disk) (machine_in new) (shelf way.cleared.recorded.rows (tree_in new) q.swap) x) (sym pages.space)
              (subst (λ (j : Seen D). AreLaid w.tells f.opening new.books.history p.base (w.content j.disk) (machine_in new) (shelf way.cleared.recorded.rows (tree_in new) q.swap) p.space) (sym told.journal)
              (subst (λ (es : List Entry). AreLaid w.tells f.opening es p.base (w.content back.journal.disk) (machine_in new) (shelf way.cleared.recorded.rows (tree_in new) q.swap) p.space) (sym told.entries)
              (subst (λ (t : Tree). AreLaid w.tells f.opening (back.books.history ++ entry ∷ []) p.base (w.content back.journal.disk) (machine_in new) (shelf way.cleared.recorded.rows t q.swap) p.space) (sym told.tree)
              (subst (λ (m : Machine). AreLaid w.tells f.opening (back.books.history ++ entry ∷ []) p.base (w.content back.journal.disk) m
              (shelf way.cleared.recorded.rows (tree_by (machine_in back) (tree_in back) c.agent c.op c.sizes None) q.swap) p.space) (sym machine-is) laid)))));
          tied = record {
            range = told.tied.range;
            base = pages.base ∙ told.tied.base;
            size = told.tied.size;
            freed = told.tied.freed;
            agents = told.tied.agents;
            keys = told.tied.keys;
            quota = told.tied.quota;
            few = λ none. omega (arith, pages.kept, told.tied.few none);
          };
          fresh = told.fresh;
        }

        -- ---- the row's number

        own-grown : (o : Op) → opens_row o ≡ true → ((at : Locator) (keep : Bool) → o ≡ op.CreateWritable at keep → (x : File Text) × (file_at s (place_of at) ≡ Some x))
            → length (agent_of (after_reply s c.agent o reply.Done) c.agent).own ≡ next_row s c.agent
        own-grown (op.CreateWritable at keep) h there =
            let x = there at keep refl in
            writable-grown s (sizes_of s c.agent (op.CreateWritable at keep)) c.agent at keep x.0 (number-after base units c.agent ready.live) x.1
        own-grown (op.CreateSyncAccessHandle at mode) h there = sync-grown s (sizes_of s c.agent (op.CreateSyncAccessHandle at mode)) c.agent at mode (number-after base units c.agent ready.live)
        own-grown o h there = cc

        module _ (states : StateLaws) (changes : CallsChangeTheirRow) (keep_blocks : TreesKeepBlocks) (stored : FilesAreStored w) where
          file-there : (at : Locator) (keep : Bool) → c.op ≡ op.CreateWritable at keep → (x : File Text) × (file_at s (place_of at) ≡ Some x)
          file-there at keep is =
              let may = subst (λ (o : Op). MayOpen w f way.cleared.recorded base units back p q (record { agent = c.agent; number = c.number; op = o; reply = reply.Done; turn = true }) c.sizes) is may-open in
              let it = given states changes keep_blocks w stored f way.cleared.recorded base units back p q c.agent c.number reply.Done true c.sizes at keep may in
              (it.file, it.there)

          pub rows-now : length (agent_of (state_after f.opening new.books.history) c.agent).own ≡ next_row base c.agent
          rows-now = ap (λ (x : State Text Own). length (agent_of x c.agent).own) state-is ∙ (own-grown c.op begins.opens file-there ∙ next-stays base units c.agent)

          -- ---- all of it

          module _ (copies : OpenedCopiesStand w) (acts : CallsAreActed w) (made : WorkingCopy) (copy : IsFar (opened_size (tree_in l) c.op) (kept_blocks (tree_in l) c.op) made) where
            stands : StandsFor w.tells f.opening new.books.history c.agent (next_row base c.agent) made
            stands =
                subst (λ (n : ℕ). StandsFor w.tells f.opening new.books.history c.agent n made) (next-stays base units c.agent)
                (subst (λ (es : List Entry). StandsFor w.tells f.opening es c.agent (next_row s c.agent) made) (sym told.entries)
                (copies f way.cleared.recorded base units back p q entry c.sizes made may-open (record {
                  size =
                      copy.size_is
                      ∙ (sym (same-size (tree_in l) (tree_in back) c.op begins.opens file-row)
                      ∙ size-is s (machine_in back) (tree_in back) way.cleared.are.books.machine (sym tidy.lines) c.op begins.opens);
                  position = copy.position;
                  reserve =
                      copy.reserve
                      ∙ (sym (same-kept (tree_in l) (tree_in back) c.op begins.opens file-row)
                      ∙ reserve-is s (machine_in back) (tree_in back) way.cleared.are.books.machine (sym tidy.lines) c.op begins.opens);
                  far = copy.far;
                  paged = copy.paged;
                })))

            left : (n : ℕ) → n ≡ next_row base c.agent → StandsForLeft w.tells f.opening new.books.history c.agent n made
            left zero is = absurd (omega (arith, is))
            left (suc n) is = subst (λ (x : ℕ). StandsFor w.tells f.opening new.books.history c.agent x made) (sym is) stands

            pub has-acted : (old now : DeskParts D) → old.ledger ≡ l → now.ledger ≡ new → now.pages ≡ q → HasActed w f old now calls (call_in c) work made (opened_act (next_row base c.agent))
            has-acted old now was is are = record {
              held = record {
                recorded = way.cleared.recorded;
                are =
                    subst (λ (x : Ledger D). AreHeldWhole w f way.cleared.recorded x now.pages) (sym is)
                    (subst (λ (x : OpenPages). AreHeldWhole w f way.cleared.recorded new x) (sym are) held-now);
                idle = ap (λ (x : Ledger D). x.books.state.store.prepared.place) is ∙ told.idle;
              };
              acted =
                  subst (λ (x : Ledger D). IsActed w.tells f.opening x.books.history calls (call_in c) reply.Done now.ledger.books.history) (sym was)
                  (subst (λ (x : Ledger D). IsActed w.tells f.opening l.books.history calls (call_in c) reply.Done x.books.history) (sym is)
                  (acts.acted f l mid back new calls units c reply.Done took.taken (record { cleared = way.entries; added = told.entries }) (answered).next));
              left = record {
                refused = λ no_refusal. absurd (false≢true no_refusal);
                stands = λ yes_done.
                    subst (λ (x : Ledger D). StandsForLeft w.tells f.opening x.books.history c.agent (row_left (length (agent_of (state_after f.opening x.books.history) c.agent).own) c.op) made) (sym is)
                    (left (row_left (length (agent_of (state_after f.opening new.books.history) c.agent).own) c.op) (leaves-last _ c.op begins.opens ∙ rows-now));
                near = λ yes_done brings. absurd (false≢true (sym (not-near c.op begins.opens) ∙ brings));
              };
              gift =
                  let none = no-gift (state_after f.opening (old.ledger.books.history ++ calls)) c.op begins.opens in
                  record { alike = ap unread_gift (sym none); told = λ t. sym none };
              rows = sym (ap (λ (x : Ledger D). length (agent_of (state_after f.opening x.books.history) c.agent).own) is ∙ rows-now);
              fault = λ never. absurd (false≢true never);
              way =
                  subst (λ (x : Ledger D). IsWayEnded w f x now.ledger) (sym was)
                  (subst (λ (x : Ledger D). IsWayEnded w f l x) (sym is)
                  (acts.before f recorded l mid new p c.agent calls _ begins.held begins.asked.may.pending took.taken
                  (acts.silent f mid back new units c reply.Done (record { cleared = way.entries; added = told.entries }) told.journal way.cleared.way)));
            }
