-- A call that puts bytes into a row, up to where its pages may be put.
use Rattle.std.specs.Vec.{vec_capacity}
use Rattle.std.proofs.Common.{◌≡◌, ◌≢◌, ℕ, ◌<◌, ◌^◌, Bool, true, false, List, [], ◌++◌, fold, Option, Some, None, refl, sym, ap, subst, ◌∙◌, arith}
use Rattle.std.proofs.lemmas.Bool.{false≢true}
use Rattle.std.specs.Prelude.{IsTrue}
use Rattle.opfs_store.specs.Acts.Acting.{told_entry}
use Rattle.opfs_base.specs.Texts.{Text}
use Rattle.opfs_base.specs.declared.extents.Extent.{Extent}
use Rattle.opfs_books.specs.Laws.Books.{Fixed}
use Rattle.opfs_books.specs.Laws.Laws.{LeavesPages}
use Rattle.opfs_store.specs.Copies.Copies.{StandsFor}
use Rattle.opfs_data.specs.declared.page.Page.{Page}
use Rattle.opfs_data.specs.Pages.{page_of}
use Rattle.opfs_pages.specs.HistoryLaws.Laws.{CallsLeaveOtherRows}
use Rattle.opfs_pages.specs.HistoryLaws.Open.{open_at}
use Rattle.opfs_pages.specs.HistoryLaws.RowsAfter.{IsDone}
use Rattle.opfs_hist.specs.declared.entry.Entry.{Entry}
use Rattle.opfs_hist.specs.declared.op.Op.{Op}
use Rattle.opfs_hist.specs.declared.op.Op.TheVariants as op
use Rattle.opfs_laws.specs.Histories.Unread.{unread}
use Rattle.opfs_journal.specs.Seen.{Seen}
use Rattle.opfs_laws.specs.Lengths.Kept.{Kept}
use Rattle.opfs_laws.specs.Lengths.Outlines.{in_lengths_of}
use Rattle.opfs_machine.specs.declared.own.HandleRow.{HandleRow}
use Rattle.opfs_machine.specs.declared.own.Own.{Own}
use Rattle.opfs_machine.specs.declared.own.Own.TheVariants as own
use Rattle.opfs_machine.specs.declared.state.FileRow.{FileRow}
use Rattle.opfs_machine.specs.declared.state.Agent.{Agent}
use Rattle.opfs_machine.specs.declared.state.State.{State}
use Rattle.opfs_machine.specs.Agents.{agent_of, own_of}
use Rattle.opfs_machine.specs.Histories.{may_enter, state_after, is_handle, is_stream as is_stream_row}
use Rattle.opfs_machine.specs.Replies.{bytes_in, row_named}
use Rattle.opfs_machine.specs.Rows.{file_at}
use Rattle.opfs_machine.specs.Steps.{evicted}
use Rattle.opfs_outside.specs.declared.disk.Disk.{Ghosts as DiskWords}
use Rattle.opfs_pages.specs.declared.writing.put.Put.{Put}
use Rattle.opfs_records.specs.Replay.Built.{Built}
use Rattle.opfs_pages.specs.RowCalls.Plans.{shelf, AreGotten, HaveBlocks, KnowsOwn}
use Rattle.opfs_space.specs.Room.{Machine}
use Rattle.opfs_space.specs.Spaces.{SpaceSeen}
use Rattle.opfs_data.specs.Rows.{Rows}
use Rattle.opfs_data.specs.Writes.{WriteList}
use Rattle.opfs_state_rows.specs.Standing.Seen.{lines_of}
use Rattle.opfs_laws.specs.Steady.Steady.{open_bytes, row_bytes}
use Rattle.opfs_tree.specs.Rows.{Rows as Tree}
use Rattle.opfs_work.specs.Works.{WorkingCopy}
use Rattle.opfs_desk_steps.specs.Parts.Answered.{IsAnswered}
use Rattle.opfs_desk_steps.specs.Parts.Seen.{machine_in, tree_in, call_in, units_in}
use Rattle.opfs_desk_steps.specs.declared.parts.call.ReadyCall.{ReadyCall}
use Rattle.opfs_desk_steps.specs.declared.parts.parts.Ledger.{Ledger}
use Rattle.opfs_desk_steps.specs.declared.parts.parts.OpenPages.{OpenPages}
use Rattle.opfs_desk_steps.specs.declared.parts.parts.DeskParts.{DeskParts}
use Rattle.opfs_desk_bytes.specs.Reading.Reading.{BeginsRead}
use Rattle.opfs_desk_bytes.proofs.reading.Synced.{handed}
use Rattle.opfs_desk_steps.specs.RowLaws.Inside.{PartsLieInside}
use Rattle.opfs_desk_steps.specs.RowLaws.Puts.{PutsHaveRoom, puts_row, size_put}
use Rattle.opfs_desk_steps.specs.Answering.{ReadyCallsAreAnswered, IsReply}
use Rattle.opfs_desk_steps.specs.Ready.{AskedCallsAreReady, IsReadyCall}
use Rattle.opfs_desk_steps.proofs.Numbers.{agent-stays}
use Rattle.opfs_desk_bytes.specs.Writing.Plans.{HasClearedWay, HasTakenIn, IsPlan}
use Rattle.opfs_desk_bytes.specs.Writing.Putting.{AreGottenIn, IsToPut}
use Rattle.opfs_desk_bytes.specs.Writing.Words.{bytes_put, reply_put}
use Rattle.opfs_desk_bytes.specs.declared.writing.target.Target.{Target}
use Rattle.opfs_desk_bytes.proofs.writing.Found.{knows-same}
use Rattle.opfs_desk_bytes.proofs.writing.Stays.{file-before, handle-file, knows-after}
use Rattle.opfs_desk_bytes.proofs.writing.Used.{page-alike, ready-alike}
use Rattle.opfs_desk_bytes.proofs.writing.Words.{answers-put, done-put, row-some, sized}

-- ---- through evictions

may-still : (s b : State Text Own) (k : ℕ) (o : Op) → puts_row o ≡ true → agent_of s k ≡ agent_of b k → IsTrue (may_enter b k o) → IsTrue (may_enter s k o)
unfolding may_enter
may-still s b k (op.Write n bytes position) h same may = ap (λ (a : Agent Own). is_stream_row (own_of a n)) same ∙ may
may-still s b k (op.Truncate n size) h same may = ap (λ (a : Agent Own). is_stream_row (own_of a n)) same ∙ may
may-still s b k (op.SyncWrite n bytes at) h same may = ap (λ (a : Agent Own). is_handle (own_of a n)) same ∙ may
may-still s b k (op.SyncTruncate n size) h same may = ap (λ (a : Agent Own). is_handle (own_of a n)) same ∙ may
may-still s b k o h same may = absurd (false≢true h)

no-text : (before : Text) → ◌≡◌ {A = Option Text} None (Some before) → ⊥
no-text before is = cc

opened-still : (units : List Text) (b : State Text Own) (r : Own) (before : Text) → ((h : HandleRow) → r ≡ own.Handle h → (f : FileRow Text) × (file_at (fold evicted b units) h.file ≡ Some f))
    → open_bytes b (Some r) ≡ Some before → open_bytes (fold evicted b units) (Some r) ≡ Some before
opened-still units b (own.Stream w) before files is = is
opened-still units b (own.Handle h) before files is =
    let x = files h refl in
    ap (λ (o : Option (FileRow Text)). Some (bytes_in o)) (x.1 ∙ sym (file-before units b h.file x.0 x.1)) ∙ is
opened-still units b r before files is = absurd (no-text before is)

-- What is gotten is gotten still, where the disk has its size and the row's blocks are known.
gotten-after : (taken : Bool) (m t : Machine) (recorded later : Tree) (tree next : Tree) (swap : Rows) (space : SpaceSeen) (base end size agent row pages : ℕ) (w : WriteList) (given : List ℕ) (extents : List Extent)
    → size ≡ end → (KnowsOwn m (shelf recorded tree swap) space.own agent row → KnowsOwn t (shelf later next swap) space.own agent row)
    → AreGotten taken m (shelf recorded tree swap) space base end agent row pages w given extents → AreGotten taken t (shelf later next swap) space base size agent row pages w given extents
gotten-after true m t recorded later tree next swap space base end size agent row pages w given extents same knows is =
    subst (λ (n : ℕ). HaveBlocks base n swap space agent row pages w given extents) (sym same) is
gotten-after false m t recorded later tree next swap space base end size agent row pages w given extents same knows is = record { none = is.none; planned = is.planned; exact = knows is.exact }

module _ {D : Type 0} (w : DiskWords D) (asks : AskedCallsAreReady w) (answers : ReadyCallsAreAnswered w)
    (f : Fixed D) (recorded : Built) (l mid : Ledger D) (p : OpenPages) (calls : List Entry) (c : ReadyCall) (work : WorkingCopy)
    (begins : BeginsRead w f recorded l p calls c work) (puts : puts_row c.op ≡ true) (took : HasTakenIn w f recorded l mid p calls c) where
  abbrev pub base : State Text Own
  base = state_after f.opening mid.books.history

  abbrev pub units : List Text
  units = units_in c.clearing.items

  abbrev pub row : ℕ
  row = row_named c.op

  abbrev pub s : State Text Own
  s = fold evicted base units

  abbrev pub entry : Entry
  entry = told_entry (call_in c) (reply_put c.op)

  -- The state before the pending calls are taken in is told by the same history.
  pub same-base : base ≡ state_after f.opening (l.books.history ++ calls)
  same-base = ap (state_after f.opening) took.taken.entries

  pub ready : IsReadyCall base mid c
  ready = asks.ready f recorded l mid p calls c work [] begins.held begins.asked took.taken.entries took.held took.prepared

  pub some : row ≢ 0
  some = row-some base c.agent c.op puts ready.fitting

  pub stood : StandsFor w.tells f.opening (l.books.history ++ calls) c.agent row work
  stood = handed w.tells f.opening (l.books.history ++ calls) c.agent row work some begins.asked.may.copy

  abbrev pub before : Text
  before = stood.copy.bytes

  pub before-is : row_bytes (state_after f.opening (l.books.history ++ calls)) c.agent row ≡ Some before
  before-is = ap (open_bytes (state_after f.opening (l.books.history ++ calls))) stood.there ∙ stood.copy.open_row

  pub its-reply : IsReply w.tells base c (reply_put c.op)
  its-reply =
      let is = answers-put base c.sizes c.agent c.op puts in
      record { alike = ap unread (sym is); told = λ t. sym is }

  module _ (small : size_put c.sizes c.op < 2 ^ 63) (back : Ledger D) (way : HasClearedWay w f mid back p c) where
    pub answered : IsAnswered w base units back entry c.sizes
    answered =
        answers.answered f recorded way.cleared.recorded mid back p p c (reply_put c.op) took.held ready (record { entries = way.entries; prepared = way.prepared }) way.cleared.are its-reply
        (sized (machine_in back) c.sizes c.agent c.op puts small)

    same-agent : agent_of s c.agent ≡ agent_of base c.agent
    same-agent = agent-stays base units c.agent

    pub live-s : IsTrue (agent_of s c.agent).live
    live-s = ap (λ (a : Agent Own). a.live) same-agent ∙ ready.live

    pub done : IsDone s c.agent (reply_put c.op)
    done = record { live = live-s; done = done-put c.op puts }

    pub may-s : IsTrue (may_enter s c.agent c.op)
    may-s = may-still s base c.agent c.op puts same-agent ready.fitting

    pub machine-back : machine_in back ≡ in_lengths_of s
    machine-back = way.cleared.are.books.machine

    kept-s : Kept (in_lengths_of s)
    kept-s = subst Kept machine-back answered.change.kept

    pub at-s : own_of (agent_of s c.agent) row ≡ Some stood.row
    at-s = ap (λ (a : Agent Own). own_of a row) same-agent ∙ (ap (λ (t : State Text Own). own_of (agent_of t c.agent) row) same-base ∙ stood.there)

    pub files : (h : HandleRow) → stood.row ≡ own.Handle h → (x : FileRow Text) × (file_at s h.file ≡ Some x)
    files h is = handle-file s kept-s c.agent row stood.row at-s h is

    pub opened-s : open_bytes s (Some stood.row) ≡ Some before
    opened-s = opened-still units base stood.row before files (ap (λ (t : State Text Own). open_bytes t (Some stood.row)) same-base ∙ stood.copy.open_row)

    -- ---- its pages may be put

    abbrev pub start : DeskParts D
    start = record { ledger = back; pages = p }

    leaves-l : LeavesPages w l.journal back.journal
    leaves-l = subst (λ (j : Seen D). LeavesPages w j back.journal) took.taken.journal way.leaves

    open-same : CallsLeaveOtherRows → open_at (machine_in back) c.agent row ≡ open_at (machine_in mid) c.agent row
    open-same leave =
        ap (λ (m : Machine). open_at m c.agent row) machine-back
        ∙ leave.cleared units base c.agent row
        ∙ sym (ap (λ (m : Machine). open_at m c.agent row) took.held.books.machine)

    module _ (inside : PartsLieInside w) (room : PutsHaveRoom) (leave : CallsLeaveOtherRows) (t : Target) (put : Put) (page : List ℕ) (plan : IsPlan w (record { ledger = l; pages = p }) c work t put page) where
      pub read-alike : w.tells → (x : Page) → page_of (w.content back.journal.disk) p.base x ≡ page_of (w.content l.journal.disk) p.base x
      read-alike told x = page-alike p.base (w.content l.journal.disk) (w.content back.journal.disk) l.journal.areas (inside f recorded l p begins.held).part.behind (leaves-l.outside told) x

      pub to-put : IsToPut w f way.cleared.recorded base units start c.agent row put (bytes_put c.op)
      to-put =
          let in-l = inside f recorded l p begins.held in
          let its = room (machine_in back) c.sizes c.agent c.op answered.change.kept answered.change.may puts in
          record {
            are = way.cleared.are;
            settled = way.sure;
            lies = record {
              start = in-l.part.small;
              end = let end = in-l.end in let size = leaves-l.stays.length in omega (arith, end, size);
              few = in-l.few;
            };
            lines = way.lines;
            ready =
                ready-alike w.tells p.base (w.content l.journal.disk) (w.content back.journal.disk) p.swap c.agent row put.pages put.writes put.moves (vec_capacity put.extents) (vec_capacity put.extents) read-alike (omega arith)
                plan.planned.ready;
            bytes = plan.planned.bytes;
            room = record { reserve = its.reserve; need = its.need; room = its.room; within = let within = its.within in let pages = plan.pages in omega (arith, within, pages) };
          }

      exact-after : KnowsOwn (machine_in l) (shelf [] (tree_in l) p.swap) p.space.own c.agent row → KnowsOwn (machine_in back) (shelf way.cleared.recorded.rows (tree_in back) p.swap) p.space.own c.agent row
      exact-after known =
          let then : KnowsOwn (machine_in mid) (shelf [] (tree_in mid) p.swap) p.space.own c.agent row =
          subst (λ (x : Tree). KnowsOwn (machine_in mid) (shelf [] x p.swap) p.space.own c.agent row) (sym took.tree)
          (knows-same (machine_in l) (machine_in mid) [] [] (tree_in l) p.swap p.space.own c.agent row known) in
          subst (λ (x : Tree). KnowsOwn (machine_in back) (shelf way.cleared.recorded.rows x p.swap) p.space.own c.agent row) (sym way.tree)
          (knows-after (machine_in mid) (machine_in back) recorded.rows way.cleared.recorded.rows (tree_in mid) units p.swap p.space c.agent row took.held.laid.spaced (open-same leave) answered.change.kept
          (sym (ap lines_of way.tree) ∙ way.lines) then)

      pub gotten : AreGottenIn w way.cleared.recorded start c.agent row put (bytes_put c.op)
      gotten =
          gotten-after put.taken (machine_in l) (machine_in back) [] way.cleared.recorded.rows (tree_in l) (tree_in back) p.swap p.space p.base (w.size l.journal.disk) (w.size back.journal.disk) c.agent row put.pages put.writes (bytes_put c.op) put.extents.items
          leaves-l.stays.length exact-after plan.planned.gotten
