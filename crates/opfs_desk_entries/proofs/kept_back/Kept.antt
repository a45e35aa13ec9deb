-- A call that makes or removes an entry, put together from its steps.
use Rattle.std.proofs.Common.{◌≡◌, ℕ, true, List, [], fold, length, Some, None, refl, sym, ap, ◌∙◌, subst}
use Rattle.opfs_store.specs.Acts.Acting.{told_entry}
use Rattle.opfs_base.specs.Texts.{Text}
use Rattle.opfs_books.specs.Stored.Laws.{CallsAreSpelled, CallsMayFail}
use Rattle.opfs_books.specs.Stored.Spelled.{spelled_by}
use Rattle.opfs_books.specs.Laws.Books.{Fixed}
use Rattle.opfs_books.specs.Laws.Laws.{BooksKeepTheState, BooksShowTheirImages}
use Rattle.opfs_state_rows.specs.Changes.Changed.{tree_by}
use Rattle.opfs_pages.specs.HistoryLaws.Laws.{BlocksGoOn}
use Rattle.opfs_hist.specs.declared.entry.Entry.{Entry}
use Rattle.opfs_hist.specs.declared.reply.Reply.TheVariants as reply
use Rattle.opfs_laws.specs.Histories.Unread.{unread}
use Rattle.opfs_laws.specs.Counting.{key_of}
use Rattle.opfs_laws.specs.Lengths.Kept.{Kept}
use Rattle.opfs_machine.specs.declared.own.Own.{Own}
use Rattle.opfs_machine.specs.declared.state.State.{State}
use Rattle.opfs_machine.specs.Agents.{agent_of}
use Rattle.opfs_machine.specs.Histories.{state_after}
use Rattle.opfs_outside.specs.declared.disk.Disk.{Ghosts as DiskWords}
use Rattle.opfs_records.specs.Replay.Built.{Built}
use Rattle.opfs_state_rows.specs.Standing.Seen.{lines_of}
use Rattle.opfs_tree.specs.Rows.{Rows as Tree, IsInOrder}
use Rattle.opfs_work.specs.Works.{WorkingCopy}
use Rattle.opfs_desk_steps.specs.Parts.Acted.{HasActed, HasFailed, IsUnacted}
use Rattle.opfs_desk_steps.specs.Parts.Answered.{IsAnswered}
use Rattle.opfs_desk_steps.specs.Parts.Held.{AreHeldWhole}
use Rattle.opfs_desk_steps.specs.Parts.Seen.{machine_in, tree_in, book_in, call_in, units_in}
use Rattle.opfs_desk_steps.specs.declared.parts.call.ReadyCall.{ReadyCall}
use Rattle.opfs_desk_steps.specs.declared.parts.parts.Ledger.{Ledger}
use Rattle.opfs_desk_steps.specs.declared.parts.parts.OpenPages.{OpenPages}
use Rattle.opfs_desk_steps.specs.declared.parts.parts.DeskParts.{DeskParts}
use Rattle.opfs_desk_steps.specs.BookSteps.Clearing.{cleared_from}
use Rattle.opfs_desk_steps.proofs.book_steps.LaidStays.{LaidBeside}
use Rattle.opfs_desk_steps.proofs.book_steps.Loop.{Falls}
use Rattle.opfs_desk_steps.proofs.book_steps.Ways.{way-here}
use Rattle.opfs_desk_steps.specs.Acting.{CallsAreActed}
use Rattle.opfs_desk_steps.specs.Answering.{ReadyCallsAreAnswered, IsReply}
use Rattle.opfs_desk_steps.specs.Ready.{IsReadyCall, AskedCallsAreReady}
use Rattle.opfs_desk_entries.specs.KeptBack.Changing.{HasChanged, HasNotChanged}
use Rattle.opfs_desk_entries.specs.KeptBack.Keeping.{keeps_back}
use Rattle.opfs_desk_steps.specs.Going.{HasTakenIn, HasMadeWay, IsTidy}
use Rattle.opfs_desk_entries.specs.KeptBack.Steps.{BeginsKeeping, change_now, kept_act}
use Rattle.opfs_desk_entries.specs.KeptBack.Words.{IsQuietCall}
use Rattle.opfs_desk_entries.proofs.kept_back.Fewer.{HasNoMore, fewer-by}
use Rattle.opfs_desk_entries.proofs.kept_back.Free.{keeps-still}
use Rattle.opfs_desk_entries.proofs.kept_back.Spelled.{spelled-is}
use Rattle.opfs_desk_entries.proofs.kept_back.Through.{ready as ready-through, answered as answered-through, rows-failed as rows-failed-through, failed-then as failed-through, has-acted as acted-through}
use Rattle.opfs_desk_entries.proofs.kept_back.Words.{kept-word, answers-done, quiet-call}

module _ {D : Type 0} (w : DiskWords D) (asks : AskedCallsAreReady w) (answers : ReadyCallsAreAnswered w)
    (f : Fixed D) (recorded : Built) (l mid back : Ledger D) (p : OpenPages) (calls : List Entry) (c : ReadyCall) (work : WorkingCopy)
    (begins : BeginsKeeping w f recorded l p calls c work) (took : HasTakenIn w f recorded l mid p calls c) where
  abbrev pub base : State Text Own
  base = state_after f.opening mid.books.history

  abbrev pub units : List Text
  units = units_in c.clearing.items

  abbrev pub entry : Entry
  entry = told_entry (call_in c) reply.Done

  words : IsQuietCall c.agent c.op reply.Done
  words = quiet-call c.agent c.op (kept-word (machine_in l) c.agent c.op begins.keeps)

  pub ready : IsReadyCall base mid c
  ready = ready-through w asks answers f recorded l mid back p calls c work reply.Done begins.held begins.asked took words

  its-reply : IsReply w.tells base c reply.Done
  its-reply =
      let is = answers-done base c.sizes c.agent c.op (kept-word (machine_in l) c.agent c.op begins.keeps) in
      record { alike = ap unread (sym is); told = λ t. sym is }

  pub rows-failed : (new : Ledger D) (q : OpenPages) → HasFailed w f entry mid new q → length (agent_of (machine_in mid) c.agent).own ≡ length (agent_of (state_after f.opening new.books.history) c.agent).own
  rows-failed = rows-failed-through w asks answers f recorded l mid back p calls c work reply.Done begins.held begins.asked took words

  module _ (way : HasMadeWay w f mid back p c) (keyed : (agent_of (machine_in back) c.agent).key ≡ key_of f.opening c.agent) where
    pub answered : IsAnswered w base units back entry c.sizes
    answered = answered-through w asks answers f recorded l mid back p calls c work reply.Done begins.held begins.asked took words its-reply way

    -- The call still changes something.
    pub keeps-now : (machine_in back).rows ≡ lines_of (tree_in back) → keeps_back (machine_in back) c.agent c.op ≡ true
    keeps-now lines =
        keeps-still (machine_in l) (machine_in back) (tree_in l) units c.agent c.op begins.lines
        (lines ∙ ap lines_of (way.tree ∙ ap (λ (t : Tree). fold cleared_from t units) took.tree)) (begins.keyed ∙ sym keyed) begins.keeps

    module _ (tidy : IsTidy back) (states : BooksKeepTheState w) (spells : CallsAreSpelled) (fails : CallsMayFail w.tells) (falls : Falls w) (acts : CallsAreActed w) (new : Ledger D) where
      spelled : spelled_by (machine_in back) (tree_in back) c.agent c.op c.sizes None ≡ Some (change_now back entry)
      spelled = spelled-is (machine_in back) (tree_in back) c.agent c.op c.sizes (keeps-now tidy.lines)

      pub failed-then : HasNotChanged w f way.cleared.recorded base units back new p entry (change_now back entry) → HasFailed w f entry mid new p
      failed-then =
          failed-through w asks answers f recorded l mid back p calls c work reply.Done begins.held begins.asked took words its-reply way
          tidy (change_now back entry) spelled states spells fails falls new

      module _ (changed : HasChanged w f way.cleared.recorded base units back new p entry c.sizes (change_now back entry)) (after : IsInOrder (tree_in new)) (beside : LaidBeside w.tells) (blocks : BlocksGoOn) where
        kept-new : Kept (machine_in new)
        kept-new = states.kept f changed.next (state_after f.opening new.books.history) (book_in new) new.journal changed.books

        less : HasNoMore (machine_in back) (tree_in back) (tree_by (machine_in back) (tree_in back) c.agent c.op c.sizes None)
        less = fewer-by (machine_in back) (machine_in new) (tree_in back) c.agent c.sizes c.op (keeps-now tidy.lines) tidy.lines tidy.order (subst IsInOrder changed.tree after) kept-new changed.machine

        pub has-acted : (rows : ℕ) → rows ≡ length (agent_of (machine_in mid) c.agent).own
            → HasActed w f (record { ledger = l; pages = p }) (record { ledger = new; pages = p }) calls (call_in c) work work (kept_act rows)
        has-acted =
            acted-through w asks answers f recorded l mid back p calls c work reply.Done begins.held begins.asked took words its-reply way
            tidy (change_now back entry) spelled states spells fails falls new changed less beside blocks acts
