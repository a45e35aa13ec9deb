-- getFile, put together from its steps.
use Rattle.std.proofs.Common.{◌≡◌, ℕ, suc, zero, is_some, true, false, List, [], ◌∷◌, ◌++◌, fold, length, replicate, option_map, Option, Some, None, refl, sym, ap, ◌∙◌, subst, arith}
use Rattle.std.proofs.lemmas.Bool.{false≢true}
use Rattle.std.specs.Prelude.{IsTrue, slice_get}
use Rattle.opfs_store.specs.Acts.Acting.{told_entry, row_left, IsActed, StandsForLeft, unread_gift}
use Rattle.opfs_store.specs.declared.acts.acted.Acted.{Acted}
use Rattle.opfs_store.specs.declared.acts.acted.Gift.TheVariants as gift
use Rattle.opfs_base.specs.Places.{Place}
use Rattle.opfs_base.specs.Texts.{Text}
use Rattle.opfs_books.specs.Laws.Books.{Fixed}
use Rattle.opfs_books.proofs.laws.Told.{next-state, next-reply}
use Rattle.opfs_data.specs.Rows.{IsOther, row_of}
use Rattle.opfs_pages.specs.HistoryLaws.Handles.{AreHandlesWhole}
use Rattle.opfs_pages.specs.HistoryLaws.Laid.{AreLaid}
use Rattle.opfs_pages.specs.HistoryLaws.Laws.{BlocksGoOn, CallsLeaveOtherRows}
use Rattle.opfs_pages.specs.HistoryLaws.Open.{open_at, if_open, StaysOpen}
use Rattle.opfs_pages.specs.HistoryLaws.RowsAfter.{IsDone}
use Rattle.opfs_pages.specs.HistoryLaws.Shelves.{HasSameBlocks, KeepsOpen}
use Rattle.opfs_pages.specs.HistoryLaws.Spaced.{AreSpaced}
use Rattle.opfs_pages.proofs.history_laws.Leaving.{open-is}
use Rattle.opfs_hist.specs.declared.entry.Entry.{Entry}
use Rattle.opfs_hist.specs.declared.reply.Reply.{Reply}
use Rattle.opfs_hist.specs.declared.reply.Reply.TheVariants as reply
use Rattle.opfs_laws.specs.Histories.Unread.{unread}
use Rattle.opfs_journal.specs.Seen.{Seen}
use Rattle.opfs_laws.specs.Lengths.Outlines.{in_lengths_of}
use Rattle.opfs_machine.specs.declared.own.Outline.{Outline}
use Rattle.opfs_machine.specs.declared.own.Own.{Own}
use Rattle.opfs_machine.specs.declared.own.Own.TheVariants as own
use Rattle.opfs_machine.specs.declared.state.FileRow.{FileRow as File}
use Rattle.opfs_machine.specs.declared.state.State.{State}
use Rattle.opfs_machine.specs.Agents.{agent_of, own_of}
use Rattle.opfs_machine.specs.Contents.{outline_of}
use Rattle.opfs_machine.specs.Histories.{state_after}
use Rattle.opfs_machine.specs.Replies.{answer, bytes_at, file_reply}
use Rattle.opfs_machine.specs.Rows.{file_at}
use Rattle.opfs_machine.specs.Steps.{evicted, after_reply}
use Rattle.opfs_outside.specs.declared.disk.Disk.{Ghosts as DiskWords}
use Rattle.opfs_records.specs.Replay.Built.{Built}
use Rattle.opfs_pages.specs.RowCalls.Plans.{shelf}
use Rattle.opfs_space.specs.Room.{Machine}
use Rattle.opfs_laws.specs.Steady.Steady.{row_bytes, open_bytes}
use Rattle.opfs_tree.specs.Rows.{Rows as Tree}
use Rattle.opfs_work.specs.Works.{WorkingCopy}
use Rattle.opfs_desk_steps.specs.Parts.Acted.{HasActed, IsWayEnded}
use Rattle.opfs_desk_steps.specs.Parts.Answered.{IsAnswered}
use Rattle.opfs_desk_steps.specs.Parts.Held.{AreHeldWhole}
use Rattle.opfs_desk_steps.specs.Parts.Seen.{machine_in, tree_in, call_in, units_in}
use Rattle.opfs_desk_steps.specs.declared.parts.call.ReadyCall.{ReadyCall}
use Rattle.opfs_desk_steps.specs.declared.parts.parts.Ledger.{Ledger}
use Rattle.opfs_desk_steps.specs.declared.parts.parts.OpenPages.{OpenPages}
use Rattle.opfs_desk_steps.specs.declared.parts.parts.DeskParts.{DeskParts}
use Rattle.opfs_desk_steps.specs.Going.{HasTakenIn, HasMadeWay, HasTold}
use Rattle.opfs_desk_bytes.specs.Reading.Reading.{BeginsRead, IsFileRead}
use Rattle.opfs_desk_bytes.specs.Reading.Words.{file_read, gets_file}
use Rattle.opfs_desk_bytes.proofs.reading.FileWords.{answers-file, as-bytes, gift-is, in-hand, leaves-none, limits-file, not-near, own-file, plain, rows-file, ruled, sized}
use Rattle.opfs_desk_bytes.proofs.reading.Words.{same-tree}
use Rattle.opfs_desk_steps.specs.RowLaws.InHand.{HasInHand, HasNoPages, RowsInHandAreLaid}
use Rattle.opfs_desk_steps.specs.RowLaws.Opens.{next_row}
use Rattle.opfs_desk_steps.specs.Acting.{CallsAreActed}
use Rattle.opfs_desk_steps.specs.Answering.{ReadyCallsAreAnswered, IsReply}
use Rattle.opfs_desk_steps.specs.Ready.{IsReadyCall, AskedCallsAreReady}
use Rattle.opfs_desk_steps.proofs.Counts.{own-length}

all-blocks : (t : Tree) → HasSameBlocks t t
all-blocks t = record { named = λ b. refl; has = λ f b. refl }

behind : {X : Type 0} (xs : List X) → slice_get xs (length xs) ≡ None
behind [] = refl
behind (x ∷ xs) = behind xs

none-there : {X : Type 0} (o : Option X) → is_some o ≡ false → o ≡ None
none-there None is = refl
none-there (Some x) is = cc

-- The row that an agent makes next is not open.
not-open : (s : State Text Own) (k : ℕ) → open_at (in_lengths_of s) k (next_row s k) ≡ None
not-open s k = open-is s k (next_row s k) ∙ ap (λ (o : Option Own). if_open (option_map outline_of o)) (behind (agent_of s k).own)

-- What the reply and the gift of a getFile are.
abbrev pub file_act : Text → ℕ → ℕ → ℕ → Acted
file_act bytes size stamp rows = record { reply = reply.FileInfo size stamp; gift = gift.Bytes bytes; rows = rows }

module _ {D : Type 0} (w : DiskWords D) (asks : AskedCallsAreReady w) (answers : ReadyCallsAreAnswered w)
    (f : Fixed D) (recorded : Built) (l mid back : Ledger D) (p : OpenPages) (calls : List Entry) (c : ReadyCall) (work : WorkingCopy)
    (begins : BeginsRead w f recorded l p calls c work) (gets : gets_file c.op ≡ true) (took : HasTakenIn w f recorded l mid p calls c) where
  abbrev pub base : State Text Own
  base = state_after f.opening mid.books.history

  abbrev pub units : List Text
  units = units_in c.clearing.items

  abbrev pub place : Place
  place = file_read c.op

  abbrev pub s : State Text Own
  s = fold evicted base units

  same-base : base ≡ state_after f.opening (l.books.history ++ calls)
  same-base = ap (state_after f.opening) took.taken.entries

  pub ready : IsReadyCall base mid c
  ready = asks.ready f recorded l mid p calls c work [] begins.held begins.asked took.taken.entries took.held took.prepared

  its : (units ≡ []) × ((x : File Text) × (file_at base place ≡ Some x))
  its = ruled base c.agent c.op units gets ready.judged

  -- The file is there.
  pub file-there : (y : File Text) × (file_at base place ≡ Some y)
  file-there = its.1

  same : s ≡ base
  same = ap (fold evicted base) its.0

  abbrev x : File Text
  x = its.1.0

  at-s : file_at s place ≡ Some x
  at-s = ap (λ (t : State Text Own). file_at t place) same ∙ its.1.1

  module _ (bytes : Text) (size stamp : ℕ) (read : IsFileRead w.tells (AreHandlesWhole f.opening l.books.history) (state_after f.opening (l.books.history ++ calls)) place bytes size stamp) where
    abbrev pub told_reply : Reply
    told_reply = reply.FileInfo size stamp

    abbrev pub entry : Entry
    entry = told_entry (call_in c) told_reply

    answer-is : answer base c.sizes c.agent c.op ≡ told_reply
    answer-is = answers-file base c.sizes c.agent c.op gets ∙ ap (λ (t : State Text Own). file_reply (file_at t place)) same-base ∙ read.info

    its-reply : IsReply w.tells base c told_reply
    its-reply = record { alike = ap unread (sym answer-is); told = λ t. sym answer-is }

    module _ (way : HasMadeWay w f mid back p c) where
      pub answered : IsAnswered w base units back entry c.sizes
      answered =
          answers.answered f recorded way.cleared.recorded mid back p p c told_reply took.held ready (record { entries = way.entries; prepared = way.prepared }) way.cleared.are its-reply
          (sized (machine_in back) c.sizes c.agent c.op gets)

      live-s : IsTrue (agent_of s c.agent).live
      live-s = subst (λ (t : State Text Own). IsTrue (agent_of t c.agent).live) (sym same) ready.live

      done : IsDone s c.agent told_reply
      done = record { live = live-s; done = refl }

      abbrev pub after : State Text Own
      after = after_reply s c.agent c.op told_reply

      abbrev pub made_row : ℕ
      made_row = next_row s c.agent

      at-after : own_of (agent_of after c.agent) made_row ≡ Some (own.Snapshot x.present)
      at-after = own-file s c.agent told_reply done c.op x gets at-s

      row-after : row_bytes after c.agent made_row ≡ None
      row-after = ap (open_bytes after) at-after

      opened-after : open_at (in_lengths_of after) c.agent made_row ≡ None
      opened-after = open-is after c.agent made_row ∙ ap (λ (o : Option Own). if_open (option_map outline_of o)) at-after

      -- ---- its row has no pages

      has-no-pages : HasNoPages w.tells p.base (w.content back.journal.disk) (w.content back.journal.disk) p.swap p.swap c.agent made_row
      has-no-pages = record {
        others = λ k n apart. refl;
        read = λ t k n i apart within. refl;
        gone =
            none-there (row_of c.agent made_row p.swap)
            (way.cleared.are.laid.rows c.agent made_row ∙ ap (λ (m : Machine). is_some (open_at m c.agent made_row)) way.cleared.are.books.machine ∙ ap (λ (o : Option Outline). is_some o) (not-open s c.agent));
      }

      stays : StaysOpen (open_at (in_lengths_of s) c.agent made_row) (open_at (in_lengths_of after) c.agent made_row)
      stays =
          subst (λ (o : Option Outline). StaysOpen (open_at (in_lengths_of s) c.agent made_row) o) (sym opened-after)
          (subst (λ (o : Option Outline). StaysOpen o None) (sym (not-open s c.agent)) (record { file = refl; reserve = omega arith; stream = refl }))

      keeps : CallsLeaveOtherRows → KeepsOpen (machine_in back) (in_lengths_of after) c.agent made_row
      keeps leave =
          subst (λ (m : Machine). KeepsOpen m (in_lengths_of after) c.agent made_row) (sym way.cleared.are.books.machine)
          (record {
            others = λ k n apart. leave.called s c.agent c.op told_reply live-s k n (subst (λ (i : ℕ). IsOther c.agent i k n) (sym (in-hand s c.agent c.op gets)) apart);
            here = stays;
            limits = limits-file s c.agent told_reply done c.op x gets at-s;
          })

      spaced : BlocksGoOn → CallsLeaveOtherRows → AreSpaced (in_lengths_of after) (shelf way.cleared.recorded.rows (tree_in back) p.swap) p.space
      spaced blocks leave =
          blocks.stays (machine_in back) (in_lengths_of after) (shelf way.cleared.recorded.rows (tree_in back) p.swap) (shelf way.cleared.recorded.rows (tree_in back) p.swap) p.space c.agent made_row way.cleared.are.laid.spaced (keeps leave)
          (record { recorded = all-blocks way.cleared.recorded.rows; tree = all-blocks (tree_in back) }) (λ k n i b has. has)

      has-in-hand : HasInHand s entry made_row
      has-in-hand = record { plain = plain c.op gets; live = live-s; in_hand = in-hand s c.agent c.op gets }

      -- ---- once it is entered

      module _ (laying : RowsInHandAreLaid w) (blocks : BlocksGoOn) (leave : CallsLeaveOtherRows) (new : Ledger D) (told : HasTold w f way.cleared.recorded back new p entry c.sizes) where
        laid : AreLaid w.tells f.opening (back.books.history ++ entry ∷ []) p.base (w.content back.journal.disk) (in_lengths_of after) (shelf way.cleared.recorded.rows (tree_in back) p.swap) p.space
        laid =
            laying.closed_row f way.cleared.recorded base units back p (w.content back.journal.disk) entry made_row (shelf way.cleared.recorded.rows (tree_in back) p.swap) p.space
            way.cleared.are has-in-hand row-after (ap (λ (o : Option Outline). is_some o) opened-after) has-no-pages (spaced blocks leave)

        pub state-is : state_after f.opening new.books.history ≡ after
        state-is =
            ap (λ (es : List Entry). state_after f.opening es) told.entries
            ∙ (next-state w.tells f.opening back.books.history base units way.cleared.are.books.told entry answered.next
            ∙ next-reply w.tells f.opening back.books.history base units way.cleared.are.books.told entry answered.next)

        machine-is : machine_in new ≡ in_lengths_of after
        machine-is = told.books.machine ∙ ap in_lengths_of state-is

        pub held-now : AreHeldWhole w f way.cleared.recorded new p
        held-now = record {
          books = told.books;
          laid =
              subst (λ (j : Seen D). AreLaid w.tells f.opening new.books.history p.base (w.content j.disk) (machine_in new) (shelf way.cleared.recorded.rows (tree_in new) p.swap) p.space) (sym told.journal)
              (subst (λ (es : List Entry). AreLaid w.tells f.opening es p.base (w.content back.journal.disk) (machine_in new) (shelf way.cleared.recorded.rows (tree_in new) p.swap) p.space) (sym told.entries)
              (subst (λ (t : Tree). AreLaid w.tells f.opening (back.books.history ++ entry ∷ []) p.base (w.content back.journal.disk) (machine_in new) (shelf way.cleared.recorded.rows t p.swap) p.space) (sym (told.tree ∙ same-tree (machine_in back) (tree_in back) c.agent c.op c.sizes (as-bytes c.op gets)))
              (subst (λ (m : Machine). AreLaid w.tells f.opening (back.books.history ++ entry ∷ []) p.base (w.content back.journal.disk) m (shelf way.cleared.recorded.rows (tree_in back) p.swap) p.space) (sym machine-is) laid)));
          tied = told.tied;
          fresh = told.fresh;
        }

        rows-now : length (agent_of (state_after f.opening new.books.history) c.agent).own ≡ suc (length (agent_of base c.agent).own)
        rows-now =
            ap (λ (t : State Text Own). length (agent_of t c.agent).own) state-is
            ∙ rows-file s c.agent told_reply done c.op x gets at-s ∙ ap (λ (t : State Text Own). suc (length (agent_of t c.agent).own)) same

        -- ---- all of it

        module _ (acts : CallsAreActed w) (before : AreHandlesWhole f.opening l.books.history) where
          nothing-left : (n : ℕ) → n ≡ 0 → StandsForLeft w.tells f.opening new.books.history c.agent n work
          nothing-left zero is = tt
          nothing-left (suc n) is = absurd cc

          pub has-acted : (old now : DeskParts D) (rows : ℕ) → old.ledger ≡ l → now.ledger ≡ new → now.pages ≡ p → rows ≡ suc (length (agent_of (machine_in mid) c.agent).own)
              → HasActed w f old now calls (call_in c) work work (file_act bytes size stamp rows)
          has-acted old now rows was is are count = record {
            held = record {
              recorded = way.cleared.recorded;
              are =
                  subst (λ (v : Ledger D). AreHeldWhole w f way.cleared.recorded v now.pages) (sym is)
                  (subst (λ (v : OpenPages). AreHeldWhole w f way.cleared.recorded new v) (sym are) held-now);
              idle = ap (λ (v : Ledger D). v.books.state.store.prepared.place) is ∙ told.idle;
            };
            acted =
                subst (λ (v : Ledger D). IsActed w.tells f.opening v.books.history calls (call_in c) told_reply now.ledger.books.history) (sym was)
                (subst (λ (v : Ledger D). IsActed w.tells f.opening l.books.history calls (call_in c) told_reply v.books.history) (sym is)
                (acts.acted f l mid back new calls units c told_reply took.taken (record { cleared = way.entries; added = told.entries }) answered.next));
            left = record {
              refused = λ refusal. absurd (false≢true refusal);
              stands = λ plain_done.
                  subst (λ (v : Ledger D). StandsForLeft w.tells f.opening v.books.history c.agent (row_left (length (agent_of (state_after f.opening v.books.history) c.agent).own) c.op) work) (sym is)
                  (nothing-left (row_left (length (agent_of (state_after f.opening new.books.history) c.agent).own) c.op) (leaves-none _ c.op gets));
              near = λ plain_done brings. absurd (false≢true (sym (not-near c.op gets) ∙ brings));
            };
            gift =
                let given = ap (λ (v : Ledger D). state_after f.opening (v.books.history ++ calls)) was in
                let here = gift-is (state_after f.opening (old.ledger.books.history ++ calls)) c.op size stamp gets ∙ ap (λ (t : State Text Own). gift.Bytes (bytes_at t place)) given in
                record {
                  alike = ap (λ (n : ℕ). gift.Bytes (replicate n 0)) read.long ∙ sym (ap unread_gift here);
                  told = λ t. ap gift.Bytes (read.told t before) ∙ sym here;
                };
            rows =
                count ∙ ap (λ (m : Machine). suc (length (agent_of m c.agent).own)) took.held.books.machine ∙ ap suc (own-length base c.agent)
                ∙ sym (ap (λ (v : Ledger D). length (agent_of (state_after f.opening v.books.history) c.agent).own) is ∙ rows-now);
            fault = λ never. absurd (false≢true never);
            way =
                subst (λ (v : Ledger D). IsWayEnded w f v now.ledger) (sym was)
                (subst (λ (v : Ledger D). IsWayEnded w f l v) (sym is)
                (acts.before f recorded l mid new p c.agent calls _ begins.held begins.asked.may.pending took.taken
                (acts.silent f mid back new units c told_reply (record { cleared = way.entries; added = told.entries }) told.journal way.cleared.way)));
          }
