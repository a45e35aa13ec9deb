-- A call that stores a row's content, once its agent's pending calls are taken in: its entry may come, and its pages may be put.
use Rattle.std.specs.Vec.{vec_capacity}
use Rattle.std.proofs.Common.{◌≡◌, ℕ, ◌≤◌, true, List, [], ◌++◌, Option, Some, refl, sym, ap, subst, ◌∙◌, arith}
use Rattle.opfs_store.specs.Acts.Acting.{told_entry}
use Rattle.opfs_base.specs.Blocks.{blocks}
use Rattle.opfs_base.specs.Places.{Place}
use Rattle.opfs_base.specs.Texts.{Text}
use Rattle.opfs_books.specs.Laws.Books.{Fixed}
use Rattle.opfs_books.specs.Laws.Laws.{failed}
use Rattle.opfs_state_rows.specs.Changes.Allowed.{IsSized}
use Rattle.opfs_pages.specs.HistoryLaws.Open.{file_in, open_at}
use Rattle.opfs_hist.specs.declared.entry.Entry.{Entry}
use Rattle.opfs_hist.specs.declared.reply.Reply.TheVariants as reply
use Rattle.opfs_laws.specs.Histories.Unread.{unread}
use Rattle.opfs_journal.specs.Seen.{Seen}
use Rattle.opfs_laws.specs.Lengths.Bridge.{LengthsDecideEachRuling, LengthsFollowEachCall, LocalCallsAreKnownByTheirWord}
use Rattle.opfs_laws.specs.Lengths.Kept.{Kept}
use Rattle.opfs_laws.specs.Lengths.Outlines.{in_lengths_of}
use Rattle.opfs_machine.specs.declared.own.Outline.{Outline}
use Rattle.opfs_machine.specs.declared.own.Outline.TheVariants as outline
use Rattle.opfs_machine.specs.declared.own.Own.{Own}
use Rattle.opfs_machine.specs.declared.own.StreamOutline.{StreamOutline}
use Rattle.opfs_machine.specs.declared.state.FileRow.{FileRow as File}
use Rattle.opfs_machine.specs.declared.state.State.{State}
use Rattle.opfs_machine.specs.Agents.{agent_of, of_row, open_stream, own_of, stream_in}
use Rattle.opfs_machine.specs.Contents.{in_lengths, outline_of}
use Rattle.opfs_machine.specs.Histories.{IsCall, state_after}
use Rattle.opfs_machine.specs.Replies.{row_named, sizes_in}
use Rattle.opfs_machine.specs.Rows.{file_at}
use Rattle.opfs_machine.specs.Sums.{reserve_of}
use Rattle.opfs_outside.specs.declared.disk.Disk.{Ghosts as DiskWords}
use Rattle.opfs_pages.specs.Writing.Puts.{IsReady as IsPutReady}
use Rattle.opfs_records.specs.Replay.Built.{Built}
use Rattle.opfs_pages.specs.RowCalls.Plans.{shelf, AreGotten}
use Rattle.opfs_pages.specs.RowCalls.Rows.{IsPutOf}
use Rattle.opfs_space.specs.Room.{Machine}
use Rattle.opfs_state_rows.specs.Standing.Seen.{lines_of}
use Rattle.opfs_laws.specs.Steady.Steady.{row_bytes}
use Rattle.opfs_tree.specs.Rows.{Rows as Tree, file_at as file_in_tree}
use Rattle.opfs_tree.specs.declared.row.FileRow.{FileRow}
use Rattle.opfs_state.specs.Verdicts.Callers.{IsAgent}
use Rattle.opfs_work.specs.Works.{WorkingCopy}
use Rattle.opfs_desk_contents.specs.Putting.{IsReadyToPut, KeepsEnough, all_of}
use Rattle.opfs_desk_contents.specs.Rows.{StoresFile}
use Rattle.opfs_desk_contents.specs.Storing.{MayStorePages, StoresContent}
use Rattle.opfs_desk_contents.specs.Words.{is_storing, size_stored, stores_row}
use Rattle.opfs_desk_contents.specs.declared.planning.Plan.{Plan}
use Rattle.opfs_desk_contents.proofs.Found.{gotten-any}
use Rattle.opfs_desk_steps.specs.Parts.Answered.{IsAnswered}
use Rattle.opfs_desk_steps.specs.Parts.Seen.{machine_in, tree_in, call_in, units_in}
use Rattle.opfs_desk_steps.specs.declared.parts.call.ReadyCall.{ReadyCall}
use Rattle.opfs_desk_steps.specs.declared.parts.parts.Ledger.{Ledger}
use Rattle.opfs_desk_steps.specs.declared.parts.parts.OpenPages.{OpenPages}
use Rattle.opfs_desk_entries.specs.Answers.Silent.{BeginsCall}
use Rattle.opfs_desk_entries.proofs.answers.Silent.{ready, answered}
use Rattle.opfs_desk_steps.specs.RowLaws.Stored.{FilesAreStored, HistoriesAreCleared, IsStoredAt}
use Rattle.opfs_desk_steps.specs.Answering.{ReadyCallsAreAnswered, IsReply}
use Rattle.opfs_desk_steps.specs.Going.{HasTakenIn}
use Rattle.opfs_desk_steps.specs.Ready.{AskedCallsAreReady, IsReadyCall}
use Rattle.opfs_desk_steps.proofs.book_steps.Turns.{may-fail}
use Rattle.opfs_desk_contents.specs.Commits.Fits.{FitsReserve}
use Rattle.opfs_desk_contents.specs.Commits.Steps.{IsContentFor, IsContentPlanned}
use Rattle.opfs_desk_contents.proofs.commits.Asked.{bytes, bytes-are, file-before, its-row, place, reserve-is, size-is, some, storing, stood}
use Rattle.opfs_desk_contents.proofs.commits.Entered.{StoresCall}
use Rattle.opfs_desk_contents.proofs.commits.StoredRows.{IsOpenOutline, StoresRow, its-file, open-outline, size-stored-is, stored-bytes, stores-file}
use Rattle.opfs_desk_contents.proofs.commits.Words.{answers-done, is-word, no-units, on-disk, sized}

-- A stream's reserve.
stream-reserve : (o : Option Outline) (r : Outline) (w : StreamOutline) → o ≡ Some r → of_row (λ (x : Outline). stream_in x) o ≡ Some w → w.reserve ≡ reserve_of r
stream-reserve o r w is there = by-row r (sym (ap (λ (x : Option Outline). of_row (λ (y : Outline). stream_in y) x) is) ∙ there)
  where
    one-stream : (a b : StreamOutline) → ◌≡◌ {A = Option StreamOutline} (Some a) (Some b) → b ≡ a
    one-stream a b e = cc

    by-row : (x : Outline) → stream_in x ≡ Some w → w.reserve ≡ reserve_of x
    by-row (outline.Stream y) e = ap (λ (z : StreamOutline). z.reserve) (one-stream y w e)
    by-row x e = absurd cc

one-place : (a b : Place) → ◌≡◌ {A = Option Place} (Some a) (Some b) → a ≡ b
one-place a b is = cc

one-file : (a b : FileRow) → ◌≡◌ {A = Option FileRow} (Some a) (Some b) → a ≡ b
one-file a b is = cc

module _ {D : Type 0} (w : DiskWords D) (asks : AskedCallsAreReady w) (answers : ReadyCallsAreAnswered w) (decide : LengthsDecideEachRuling) (follow : LengthsFollowEachCall) (local : LocalCallsAreKnownByTheirWord)
    (f : Fixed D) (recorded : Built) (l : Ledger D) (p : OpenPages) (calls : List Entry) (c : ReadyCall) (work : WorkingCopy)
    (begins : BeginsCall w f recorded l p calls c work []) (word : stores_row (machine_in l) c.agent c.op ≡ true) (fits : FitsReserve work) (mid : Ledger D) (took : HasTakenIn w f recorded l mid p calls c) where
  abbrev pub base : State Text Own
  base = state_after f.opening mid.books.history

  abbrev pub e : Entry
  e = told_entry (call_in c) reply.Done

  pub agent : IsAgent (machine_in l) c.agent
  agent = (asks.taken f recorded l p calls c work [] begins.held begins.asked).agent

  abbrev pub n : ℕ
  n = row_named c.op

  pub storing-now : is_storing c.op ≡ true
  storing-now = storing w follow local f recorded l p calls c work begins agent word

  pub its-ready : IsReadyCall base mid c
  its-ready = ready w asks answers f recorded l mid p calls c work [] begins took

  same-base : state_after f.opening (l.books.history ++ calls) ≡ base
  same-base = ap (state_after f.opening) (sym took.taken.entries)

  pub none : units_in c.clearing.items ≡ []
  none = no-units decide base c.agent c.op (units_in c.clearing.items) storing-now its-ready.judged

  abbrev pub text : Text
  text = bytes w follow local f recorded l p calls c work begins agent word

  abbrev pub at : Place
  at = place w follow local f recorded l p calls c work begins agent word

  abbrev pub reserve : ℕ
  reserve = (its-row w follow local f recorded l p calls c work begins agent word).reserve

  pub stores : StoresRow base c.agent c.op at text reserve
  stores = subst (λ (x : State Text Own). StoresRow x c.agent c.op at text reserve) same-base (its-row w follow local f recorded l p calls c work begins agent word).is

  pub outline-now : IsOpenOutline base c.agent n at reserve
  outline-now = open-outline base c.agent c.op at text reserve stores

  pub file-now : StoresFile (machine_in mid) c.agent c.op at reserve
  file-now = subst (λ (m : Machine). StoresFile m c.agent c.op at reserve) (sym took.held.books.machine) (stores-file base c.agent c.op at text reserve stores)

  pub opened-now : file_in (open_at (machine_in mid) c.agent n) ≡ Some at
  opened-now = subst (λ (m : Machine). file_in (open_at m c.agent n) ≡ Some at) (sym took.held.books.machine) outline-now.file

  own-now : own_of (agent_of (machine_in mid) c.agent) n ≡ Some (outline_of outline-now.row)
  own-now = subst (λ (m : Machine). own_of (agent_of m c.agent) n ≡ Some (outline_of outline-now.row)) (sym took.held.books.machine) outline-now.outlined

  -- ---- its blocks are kept

  within : blocks work.length ≤ reserve_of (outline_of outline-now.row)
  within = let kept = outline-now.kept in let is = reserve-is w follow local f recorded l p calls c work begins agent word in omega (arith, fits, kept, is)

  enough-stream : (o : StreamOutline) → open_stream in_lengths (machine_in mid) c.agent n ≡ Some o → blocks c.sizes.size ≤ o.reserve
  enough-stream o there =
      let is = stream-reserve (own_of (agent_of (machine_in mid) c.agent) n) (outline_of outline-now.row) o own-now there in
      let size : blocks c.sizes.size ≡ blocks work.length = ap blocks (size-is w follow local f recorded l p calls c work begins agent word) in
      omega (arith, is, size, within)

  its-size : IsSized (machine_in mid) c.sizes c.agent c.op
  its-size = sized (machine_in mid) c.sizes c.agent c.op storing-now enough-stream

  -- ---- its entry may come

  pub its-reply : IsReply w.tells base c reply.Done
  its-reply =
      let done = answers-done base c.sizes c.agent c.op storing-now in
      record { alike = ap unread (sym done); told = λ t. sym done }

  pub may-come : IsAnswered w base [] mid e c.sizes
  may-come = answered w asks answers f recorded l mid p calls c work [] begins took none reply.Done its-reply its-size

  word-now : stores_row (in_lengths_of base) c.agent c.op ≡ true
  word-now = is-word (in_lengths_of base) c.agent c.op at reserve (stores-file base c.agent c.op at text reserve stores)

  pub may-fault : IsCall base [] (failed e)
  may-fault =
      may-fail base e (units_in c.clearing.items) [] (units_in c.clearing.items)
      (record { live = its-ready.live; fitting = its-ready.fitting; judged = its-ready.judged; disk = on-disk base c.agent c.op word-now }) refl

  pub kept-base : Kept (in_lengths_of base)
  kept-base = subst Kept took.held.books.machine may-come.change.kept

  pub its-call : StoresCall w f mid c work at text reserve
  its-call =
      let it = stood w follow local f recorded l p calls c work begins agent word in
      record {
        storing = storing-now;
        live = its-ready.live;
        sizes = its-ready.sizes;
        answered = may-come;
        stores = stores;
        file = file-now;
        opened = opened-now;
        some = some w follow local f recorded l p calls c work begins agent word;
        row = it.row;
        there = subst (λ (x : State Text Own). own_of (agent_of x c.agent) n ≡ Some it.row) same-base it.there;
        size = it.copy.size;
        same = it.copy.same;
        position = subst (λ (x : State Text Own). work.position ≡ (sizes_in x (Some it.row)).position) same-base it.copy.position;
      }

  -- ---- its file

  module _ (files : FilesAreStored w) (between : HistoriesAreCleared w) (lines : (machine_in mid).rows ≡ lines_of (tree_in mid)) where
    pub file-at : (x : File Text) × (file_at base at ≡ Some x)
    file-at = its-file base c.agent n at reserve kept-base outline-now

    pub stored-at : IsStoredAt w f mid p at file-at.0
    stored-at = files f recorded base [] mid p took.held (between f recorded mid p took.held) (sym lines) at file-at.0 file-at.1

    pub size-right : (file : FileRow) → file_in_tree at (tree_in mid) ≡ Some file → work.length ≡ size_stored c.sizes c.op file
    size-right file there =
        (stood w follow local f recorded l p calls c work begins agent word).copy.size
        ∙ size-stored-is base c.agent c.op at text reserve stores c.sizes its-ready.sizes file-at.0 file-at.1 file
        (ap (λ (y : FileRow). y.present) (one-file file stored-at.row (sym there ∙ stored-at.there)) ∙ stored-at.present)

    -- ---- its pages may be put

    module _ (plan : Plan) (planned : IsContentPlanned w (record { ledger = l; pages = p }) c.agent n work.length plan) (content : IsContentFor w (record { ledger = l; pages = p }) calls c work plan.put.writes) where
      same-place : at ≡ plan.place
      same-place = one-place at plan.place (sym (file-before w follow local f recorded l p calls c work begins agent word) ∙ planned.file)

      ready-put : IsReadyToPut w recorded.rows mid p c.agent n plan.put
      ready-put = record {
        ready = subst (λ (j : Seen D). IsPutReady w.tells (w.content j.disk) p.base p.swap c.agent n plan.put.pages plan.put.writes plan.put.moves (vec_capacity plan.put.extents)) (sym took.taken.journal) planned.ready;
        bytes = planned.bytes;
        gotten =
            subst (λ (j : Seen D). AreGotten plan.put.taken (machine_in mid) (shelf recorded.rows (tree_in mid) p.swap) p.space p.base (w.size j.disk) c.agent n plan.put.pages plan.put.writes [] plan.put.extents.items) (sym took.taken.journal)
            (subst (λ (t : Tree). AreGotten plan.put.taken (machine_in mid) (shelf recorded.rows t p.swap) p.space p.base (w.size l.journal.disk) c.agent n plan.put.pages plan.put.writes [] plan.put.extents.items) (sym took.tree)
            (gotten-any plan.put.taken (machine_in l) (machine_in mid) [] recorded.rows (tree_in l) p.swap p.space p.base (w.size l.journal.disk) c.agent n plan.put.pages plan.put.writes [] plan.put.extents.items planned.gotten));
      }

      enough : KeepsEnough mid c.agent n plan.put.pages
      enough = record { own = outline_of outline-now.row; there = own-now; within = let count = planned.count in omega (arith, count, within) }

      put-of : IsPutOf w.tells work (w.content mid.journal.disk) p.base p.swap c.agent n (all_of work.length) plan.put.writes text text
      put-of =
          subst (λ (j : Seen D). IsPutOf w.tells work (w.content j.disk) p.base p.swap c.agent n (all_of work.length) plan.put.writes text text) (sym took.taken.journal)
          (content f recorded begins.held begins.asked text (bytes-are w follow local f recorded l p calls c work begins agent word))

      pub stores-content : StoresContent w f mid p e c.sizes c.agent n plan.put at work text
      stores-content = record {
        of_row = record {
          of_row = put-of;
          its_bytes = subst (λ (x : State Text Own). row_bytes x c.agent n ≡ Some text) same-base (bytes-are w follow local f recorded l p calls c work begins agent word);
          size = (stood w follow local f recorded l p calls c work begins agent word).copy.size;
          count = planned.count;
        };
        answered = may-come;
        fault = may-fault;
        stored = stored-bytes base c.agent c.op at text reserve stores;
        size = size-right;
      }

      may-store-here : MayStorePages w (record { ledger = mid; pages = p }) e c.sizes c.agent n plan.put at work
      may-store-here = record {
        fixed = f;
        recorded = recorded;
        bytes = text;
        are = took.held;
        ready = ready-put;
        enough = enough;
        stores = stores-content;
        reserve = reserve;
        file = file-now;
        opened = opened-now;
        row_of = stored-at.row;
        there = stored-at.there;
      }

      pub may-store : MayStorePages w (record { ledger = mid; pages = p }) e c.sizes c.agent n plan.put plan.place work
      may-store = subst (λ (x : Place). MayStorePages w (record { ledger = mid; pages = p }) e c.sizes c.agent n plan.put x work) same-place may-store-here

      pub stores-planned : StoresContent w f mid p e c.sizes c.agent n plan.put plan.place work text
      stores-planned = subst (λ (x : Place). StoresContent w f mid p e c.sizes c.agent n plan.put x work text) same-place stores-content

      pub call-planned : StoresCall w f mid c work plan.place text reserve
      call-planned = subst (λ (x : Place). StoresCall w f mid c work x text reserve) same-place its-call
