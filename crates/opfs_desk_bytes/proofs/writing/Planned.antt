-- Pages that are planned for a call: the parts are kept, and what is planned is of the row.
use Rattle.std.specs.Vec.{vec_capacity}
use Rattle.std.proofs.Common.{◌≡◌, ◌≢◌, ℕ, ◌+◌, ◌-◌, ◌*◌, ◌^◌, ◌<◌, ◌≤◌, ◌/◌, ◌%◌, slice_index, slice_index_or, zero, suc, is_some, true, false, List, [], ◌++◌, length, Some, refl, sym, ap, subst, ◌∙◌, inl, inr, append-nil, arith}
use Rattle.opfs_store.specs.Acts.Acting.{IsSameCopy}
use Rattle.opfs_store.specs.Acts.Asking.{IsHandedIn}
use Rattle.opfs_base.specs.Blocks.{blocks}
use Rattle.opfs_base.specs.Texts.{Text}
use Rattle.opfs_books.specs.Laws.Books.{Fixed}
use Rattle.opfs_books.specs.Laws.Laws.{ReadsKeepTheBooks}
use Rattle.opfs_data.specs.Calls.{Reads}
use Rattle.opfs_data.specs.declared.page.Page.{Page}
use Rattle.opfs_data.specs.Pages.{page_of, blank}
use Rattle.opfs_data.specs.Rows.{row_of, pages_at}
use Rattle.opfs_data.specs.Writes.{HasBytes, WriteList}
use Rattle.opfs_pages.specs.HistoryLaws.Laid.{AreLaid}
use Rattle.opfs_pages.specs.HistoryLaws.Spaced.{AreSpaced}
use Rattle.opfs_pages.proofs.history_laws.Begun.{other-or}
use Rattle.opfs_hist.specs.declared.entry.Entry.{Entry}
use Rattle.opfs_journal.specs.Seen.{Seen}
use Rattle.opfs_machine.specs.declared.own.Own.{Own}
use Rattle.opfs_machine.specs.declared.state.State.{State}
use Rattle.opfs_machine.specs.Histories.{state_after}
use Rattle.opfs_machine.specs.Openings.{Opening}
use Rattle.opfs_machine.specs.Replies.{row_named}
use Rattle.opfs_outside.specs.declared.disk.Disk.{Ghosts as DiskWords}
use Rattle.opfs_pages.specs.Copies.{AreHeld, IsCopy, IsPageOf}
use Rattle.opfs_pages.specs.Stages.{changed}
use Rattle.opfs_pages.specs.Writing.Puts.{HasSamePages, IsReady}
use Rattle.opfs_pages.specs.declared.writing.put.Put.{Put}
use Rattle.opfs_records.specs.Replay.Built.{Built}
use Rattle.opfs_pages.specs.RowCalls.Plans.{shelf, AreGotten, IsStagedFor}
use Rattle.opfs_pages.proofs.row_calls.Getting.{pages-same}
use Rattle.opfs_space.specs.Room.{Machine}
use Rattle.opfs_state.specs.Applied.{StateSeen}
use Rattle.opfs_laws.specs.Steady.Steady.{row_bytes}
use Rattle.opfs_tree.specs.Rows.{Rows as Tree}
use Rattle.opfs_work.specs.Works.{WorkingCopy}
use Rattle.opfs_desk_steps.specs.Parts.Acted.{HasActed}
use Rattle.opfs_desk_steps.specs.Parts.Asked.{IsAsked}
use Rattle.opfs_desk_steps.specs.Parts.Held.{AreHeldAt, AreHeldWhole}
use Rattle.opfs_desk_steps.specs.Parts.Seen.{machine_in, tree_in}
use Rattle.opfs_desk_steps.specs.declared.parts.call.ReadyCall.{ReadyCall}
use Rattle.opfs_desk_steps.specs.declared.parts.parts.Ledger.{Ledger}
use Rattle.opfs_desk_steps.specs.declared.parts.parts.OpenPages.{OpenPages}
use Rattle.opfs_desk_steps.specs.declared.parts.parts.DeskParts.{DeskParts}
use Rattle.opfs_store.specs.declared.acts.acted.Acted.{Acted}
use Rattle.opfs_machine.specs.Runs.{Call}
use Rattle.opfs_desk_steps.specs.RowLaws.Copied.{CopiesAreStored, IsStoredCopy}
use Rattle.opfs_desk_bytes.proofs.reading.Readied.{read-held}
use Rattle.opfs_desk_bytes.proofs.reading.Synced.{handed}
use Rattle.opfs_desk_steps.specs.RowLaws.Inside.{PartsLieInside}
use Rattle.opfs_desk_steps.specs.RowLaws.Puts.{puts_row, size_put}
use Rattle.opfs_desk_steps.proofs.book_steps.LaidStays.{LaidBeside}
use Rattle.opfs_desk_bytes.specs.Writing.Plans.{IsPlan, IsTargetOf}
use Rattle.opfs_desk_bytes.specs.Writing.Steps.{IsPlannedOf}
use Rattle.opfs_desk_bytes.specs.Writing.Words.{beside_put, bytes_put, place_put, text_put}
use Rattle.opfs_desk_bytes.specs.declared.writing.target.Target.{Target}
use Rattle.opfs_desk_bytes.proofs.writing.Found.{gotten-same}
use Rattle.opfs_desk_bytes.proofs.writing.Words.{row-some}

-- ---- pages that are the same

module _ {D : Type 0} (w : DiskWords D) (beside : LaidBeside w.tells) (f : Fixed D) (recorded : Built) (base : State Text Own) (gone : List Text) (l : Ledger D) (p q : OpenPages) (agent row : ℕ)
    (same : HasSamePages agent row p.swap q.swap) (base_is : q.base ≡ p.base) (there : is_some (row_of agent row p.swap) ≡ true)
    (spaced : AreSpaced (machine_in l) (shelf recorded.rows (tree_in l) p.swap) p.space → AreSpaced (machine_in l) (shelf recorded.rows (tree_in l) q.swap) q.space) where
  rows-same : (k n : ℕ) → is_some (row_of k n q.swap) ≡ is_some (row_of k n p.swap)
  rows-same k n = elim (other-or agent row k n) [
    | inl apart ↦ ap (λ o. is_some o) (same.others k n apart)
    | inr here ↦
        subst (λ (x : ℕ). is_some (row_of k x q.swap) ≡ is_some (row_of k x p.swap)) (sym here.1)
        (subst (λ (x : ℕ). is_some (row_of x row q.swap) ≡ is_some (row_of x row p.swap)) (sym here.0) (same.there ∙ sym there))
  ]

  planned-laid : AreLaid w.tells f.opening l.books.history p.base (w.content l.journal.disk) (machine_in l) (shelf recorded.rows (tree_in l) p.swap) p.space
      → AreLaid w.tells f.opening l.books.history q.base (w.content l.journal.disk) (machine_in l) (shelf recorded.rows (tree_in l) q.swap) q.space
  planned-laid laid =
      let c = w.content l.journal.disk in
      subst (λ (b : ℕ). AreLaid w.tells f.opening l.books.history b c (machine_in l) (shelf recorded.rows (tree_in l) q.swap) q.space) (sym base_is)
      (subst (λ (es : List Entry). AreLaid w.tells f.opening es p.base c (machine_in l) (shelf recorded.rows (tree_in l) q.swap) q.space) (append-nil l.books.history)
      (beside f.opening l.books.history [] p.base c c (machine_in l) (machine_in l) (shelf recorded.rows (tree_in l) p.swap) (shelf recorded.rows (tree_in l) q.swap) p.space q.space
      (record {
        go_on = record { none = λ k n. tt; stay = λ k n i within. subst (λ (ps : List Page). i < length ps) (sym (pages-same agent row p.swap q.swap same k n)) within };
        alike = λ t k n i within. ap (λ (ps : List Page). page_of c p.base (slice_index_or ps i blank)) (pages-same agent row p.swap q.swap same k n);
        swap_rows = rows-same;
        open_rows = λ k n. refl;
      })
      (spaced laid.spaced) laid))

  pub planned-held : AreHeldAt w f recorded base gone l p → AreHeldAt w f recorded base gone l q
  planned-held held = record {
    books = held.books;
    laid = planned-laid held.laid;
    tied = record {
      range = held.tied.range;
      base = base_is ∙ held.tied.base;
      size = held.tied.size;
      freed = held.tied.freed;
      agents = held.tied.agents;
      keys = held.tied.keys;
      quota = held.tied.quota;
      few = λ none. same.kept ∙ held.tied.few none;
    };
    fresh = held.fresh;
  }

-- ---- a working copy whose room is another

room-copy : (tells : Type 0) (o : Opening) (known : List Entry) (k n : ℕ) (work : WorkingCopy) (r : ℕ) → IsHandedIn tells o known k n work → IsHandedIn tells o known k n (record work { room = r })
room-copy tells o known k zero work r is = is
room-copy tells o known k (suc n) work r is = record {
  row = is.row;
  there = is.there;
  copy = record { bytes = is.copy.bytes; open_row = is.copy.open_row; size = is.copy.size; same = is.copy.same; position = is.copy.position; reserve = is.copy.reserve };
  held = is.held;
}

pub asked-room : (tells : Type 0) (o : Opening) (h calls : List Entry) (s : StateSeen) (c : ReadyCall) (work new : WorkingCopy) (past : List Text) → IsSameCopy work new → IsAsked tells o h calls s c work past → IsAsked tells o h calls s c new past
asked-room tells o h calls s c work new past same asked =
    subst (λ (x : WorkingCopy). IsAsked tells o h calls s c x past) (sym same)
    (record {
      may = record {
        live = asked.may.live;
        pending = asked.may.pending;
        place = asked.may.place;
        shared = asked.may.shared;
        fitting = asked.may.fitting;
        opened = asked.may.opened;
        numbers = asked.may.numbers;
        copy = room-copy tells o (h ++ calls) c.agent (row_named c.op) work new.room asked.may.copy;
        given = asked.may.given;
      };
      sizes = asked.sizes;
      judged = asked.judged;
      prepared = asked.prepared;
      evictions = asked.evictions;
    })

copy-back : (bytes : Text) (work new : WorkingCopy) → IsSameCopy work new → IsCopy bytes new → IsCopy bytes work
copy-back bytes work new same is = let it = subst (λ (x : WorkingCopy). IsCopy bytes x) same is in record { same = it.same }

held-back : (bytes : Text) (work new : WorkingCopy) (c : List ℕ) (base : ℕ) (ps : List Page) → IsSameCopy work new → AreHeld bytes new c base ps → AreHeld bytes work c base ps
held-back bytes work new c base ps same is = let it = subst (λ (x : WorkingCopy). AreHeld bytes x c base ps) same is in record { held = it.held }

pub paged-room : (work new : WorkingCopy) → IsSameCopy work new → length work.pages ≡ blocks work.length → length new.pages ≡ blocks new.length
paged-room work new same is = subst (λ (x : WorkingCopy). length x.pages ≡ blocks x.length) (sym same) is

pub same-both : (a b c : WorkingCopy) → IsSameCopy a b → IsSameCopy b c → IsSameCopy a c
same-both a b c first second = second ∙ ap (λ (x : WorkingCopy). record x { room = c.room }) first

pub acted-room : {D : Type 0} (w : DiskWords D) (f : Fixed D) (old new : DeskParts D) (calls : List Entry) (c : Call) (before mid after : WorkingCopy) (done : Acted) → IsSameCopy before mid → HasActed w f old new calls c mid after done → HasActed w f old new calls c before after done
acted-room w f old new calls c before mid after done same is = record {
  held = is.held;
  acted = is.acted;
  left = record { refused = λ r. same-both before mid after same (is.left.refused r); stands = is.left.stands; near = is.left.near };
  gift = is.gift;
  rows = is.rows;
  fault = is.fault;
  way = is.way;
}

-- ---- the row's copy is stored

module _ {D : Type 0} (w : DiskWords D) (copies : CopiesAreStored w) (f : Fixed D) (recorded : Built) (l : Ledger D) (p : OpenPages) (calls : List Entry) (c : ReadyCall) (work : WorkingCopy) (past : List Text)
    (held : AreHeldWhole w f recorded l p) (asked : IsAsked w.tells f.opening l.books.history calls l.books.state c work past) (puts : puts_row c.op ≡ true) where
  some : row_named c.op ≢ 0
  some = row-some (state_after f.opening (l.books.history ++ calls)) c.agent c.op puts asked.may.fitting

  pub stored-copy : IsStoredCopy w f l p calls c.agent (row_named c.op) work
  stored-copy = copies f recorded l p calls c.agent (row_named c.op) work held asked.may.pending some
      (handed w.tells f.opening (l.books.history ++ calls) c.agent (row_named c.op) work some asked.may.copy)

-- ---- what is planned is of the row

module _ {D : Type 0} (w : DiskWords D) (copies : CopiesAreStored w) (f : Fixed D) (recorded : Built) (l : Ledger D) (p q : OpenPages) (calls : List Entry) (c : ReadyCall) (work new : WorkingCopy) (content : List ℕ)
    (held : AreHeldWhole w f recorded l q) (asked : IsAsked w.tells f.opening l.books.history calls l.books.state c new []) (puts : puts_row c.op ≡ true)
    (t : Target) (target : IsTargetOf c.sizes c.op t) (given : List ℕ) (bytes : given ≡ bytes_put c.op)
    (room : IsSameCopy work new) (same : HasSamePages c.agent t.row p.swap q.swap) (base_is : q.base ≡ p.base) (read : w.tells → w.content l.journal.disk ≡ content)
    (paged : length new.pages ≡ blocks new.length) (writes : WriteList) (page : List ℕ) (staged : IsStagedFor w.tells new content p.base p.swap c.agent t.row t.at given t.size false writes)
    (page_is : w.tells → (b : List ℕ) → IsCopy b work → AreHeld b work content p.base (pages_at c.agent t.row p.swap) → IsPageOf (changed b t.at given t.size) (t.beside / 4096) page) where
  abbrev row : ℕ
  row = row_named c.op

  same-row : pages_at c.agent row q.swap ≡ pages_at c.agent row p.swap
  same-row = subst (λ (n : ℕ). pages_at c.agent n q.swap ≡ pages_at c.agent n p.swap) target.row same.same

  its-stored : IsStoredCopy w f l q calls c.agent row new
  its-stored = stored-copy w copies f recorded l q calls c new [] held asked puts

  staged-for : IsStagedFor w.tells new content p.base p.swap c.agent row (place_put c.sizes c.op) (bytes_put c.op) (size_put c.sizes c.op) false writes
  staged-for =
      subst (λ (n : ℕ). IsStagedFor w.tells new content p.base p.swap c.agent n (place_put c.sizes c.op) (bytes_put c.op) (size_put c.sizes c.op) false writes) target.row
      (subst (λ (n : ℕ). IsStagedFor w.tells new content p.base p.swap c.agent t.row n (bytes_put c.op) (size_put c.sizes c.op) false writes) target.at
      (subst (λ (xs : List ℕ). IsStagedFor w.tells new content p.base p.swap c.agent t.row t.at xs (size_put c.sizes c.op) false writes) bytes
      (subst (λ (n : ℕ). IsStagedFor w.tells new content p.base p.swap c.agent t.row t.at given n false writes) target.size staged)))

  module _ (before : Text) (is : row_bytes (state_after f.opening (l.books.history ++ calls)) c.agent row ≡ Some before) where
    held-then : w.tells → AreHeld before new content p.base (pages_at c.agent row p.swap)
    held-then told =
        subst (λ (ps : List Page). AreHeld before new content p.base ps) same-row
        (subst (λ (b : ℕ). AreHeld before new content b (pages_at c.agent row q.swap)) base_is
        (subst (λ (x : List ℕ). AreHeld before new x q.base (pages_at c.agent row q.swap)) (read told) (its-stored.held told before is)))

    text-same : changed before t.at given t.size ≡ text_put c.sizes c.op before
    text-same = λ i. changed before (target.at i) (bytes i) (target.size i)

    pub planned-of : IsPlannedOf w.tells new (w.content l.journal.disk) q c.agent row c.sizes c.op writes page before
    planned-of = record {
      put_of = record {
        was = p.swap;
        content = content;
        staged = subst (λ (b : ℕ). IsStagedFor w.tells new content b p.swap c.agent row (place_put c.sizes c.op) (bytes_put c.op) (size_put c.sizes c.op) false writes) (sym base_is) staged-for;
        same = same-row;
        alike = λ told i. (λ j. page_of (read told j) q.base (slice_index_or (same-row j) i blank));
        paged = paged;
        copy = λ told. its-stored.copy told before is;
        held = λ told. subst (λ (b : ℕ). AreHeld before new content b (pages_at c.agent row p.swap)) (sym base_is) (held-then told);
        after_is = refl;
      };
      page_is = λ told.
          subst (λ (xs : List ℕ). IsPageOf xs (beside_put c.sizes c.op / 4096) page) text-same
          (subst (λ (n : ℕ). IsPageOf (changed before t.at given t.size) (n / 4096) page) target.beside
          (page_is told before (copy-back before work new room (its-stored.copy told before is))
          (held-back before work new content p.base (pages_at c.agent t.row p.swap) room
          (subst (λ (n : ℕ). AreHeld before new content p.base (pages_at c.agent n p.swap)) (sym target.row) (held-then told)))));
    }

-- ---- the disk was read, and pages were planned

module _ {D : Type 0} (w : DiskWords D) (beside : LaidBeside w.tells) (keep : ReadsKeepTheBooks w) (most : (d : D) → w.faults d ≤ 2 ^ 64 - 1) (f : Fixed D) (recorded : Built) (l : Ledger D) (p : OpenPages) (j : Seen D) (q : OpenPages) (c : ReadyCall)
    (held : AreHeldWhole w f recorded l p) (reads : Reads w l.journal j) (n : ℕ) (there : is_some (row_of c.agent n p.swap) ≡ true) (same : HasSamePages c.agent n p.swap q.swap) (base_is : q.base ≡ p.base)
    (tree : Tree) (tree_is : tree ≡ tree_in l) (spaced : (m : Machine) (other : Tree) → AreSpaced m (shelf other tree p.swap) p.space → AreSpaced m (shelf other tree q.swap) q.space) where
  abbrev pub now : Ledger D
  now = record { journal = j; books = l.books; freed = l.freed; alloc = l.alloc }

  abbrev base : State Text Own
  base = state_after f.opening l.books.history

  pub spaced-then : AreSpaced (machine_in l) (shelf recorded.rows tree p.swap) p.space
  spaced-then = subst (λ (x : Tree). AreSpaced (machine_in l) (shelf recorded.rows x p.swap) p.space) (sym tree_is) held.laid.spaced

  pub read-parts : AreHeldWhole w f recorded now q
  read-parts =
      planned-held w beside f recorded base [] now p q c.agent n same base_is there
      (λ is. subst (λ (x : Tree). AreSpaced (machine_in l) (shelf recorded.rows x q.swap) q.space) tree_is (spaced (machine_in l) recorded.rows spaced-then))
      (read-held w f l now refl reads keep most recorded base [] p (omega arith) held)

  -- What is planned.
  module _ (inside : PartsLieInside w) (t : Target) (target : IsTargetOf c.sizes c.op t) (row_is : n ≡ row_named c.op) (given : List ℕ) (bytes : given ≡ bytes_put c.op) (new : WorkingCopy) (put : Put) (page : List ℕ)
      (small : size_put c.sizes c.op < 2 ^ 63) (count : put.pages ≡ blocks t.size) (has_bytes : HasBytes put.writes given)
      (ready : IsReady w.tells (w.content j.disk) q.base q.swap c.agent n (blocks t.size) put.writes put.moves (vec_capacity put.extents))
      (gotten : (m : Machine) (other : Tree) → AreSpaced m (shelf other tree p.swap) p.space → p.base + 4096 * length p.space.used ≤ w.size l.journal.disk → length p.space.used ≤ 2 ^ 32
      → AreGotten put.taken m (shelf other tree q.swap) q.space p.base (w.size l.journal.disk) c.agent n (blocks t.size) put.writes given put.extents.items)
      (whole : length page ≡ 4096) (tail : (i : ℕ) → t.size ≤ i → i / 4096 ≡ t.beside / 4096 → slice_index page (i % 4096) ≡ 0) (room : blocks t.size ≤ new.room) where
    gotten-then : AreGotten put.taken (machine_in l) (shelf [] (tree_in l) q.swap) q.space q.base (w.size j.disk) c.agent (row_named c.op) put.pages put.writes (bytes_put c.op) put.extents.items
    gotten-then =
        let in-l = inside f recorded l p held in
        gotten-same put.taken (machine_in l) (machine_in l) recorded.rows [] (tree_in l) q.swap q.space q.base (w.size j.disk) c.agent (row_named c.op) put.pages put.writes (bytes_put c.op) put.extents.items
        (subst (λ (x : Tree). AreGotten put.taken (machine_in l) (shelf recorded.rows x q.swap) q.space q.base (w.size j.disk) c.agent (row_named c.op) put.pages put.writes (bytes_put c.op) put.extents.items) tree_is
        (subst (λ (b : ℕ). AreGotten put.taken (machine_in l) (shelf recorded.rows tree q.swap) q.space b (w.size j.disk) c.agent (row_named c.op) put.pages put.writes (bytes_put c.op) put.extents.items) (sym base_is)
        (subst (λ (b : ℕ). AreGotten put.taken (machine_in l) (shelf recorded.rows tree q.swap) q.space p.base b c.agent (row_named c.op) put.pages put.writes (bytes_put c.op) put.extents.items) (sym reads.stays.length)
        (subst (λ (b : ℕ). AreGotten put.taken (machine_in l) (shelf recorded.rows tree q.swap) q.space p.base (w.size l.journal.disk) c.agent b put.pages put.writes (bytes_put c.op) put.extents.items) row_is
        (subst (λ (b : ℕ). AreGotten put.taken (machine_in l) (shelf recorded.rows tree q.swap) q.space p.base (w.size l.journal.disk) c.agent n b put.writes (bytes_put c.op) put.extents.items) (sym count)
        (subst (λ (xs : List ℕ). AreGotten put.taken (machine_in l) (shelf recorded.rows tree q.swap) q.space p.base (w.size l.journal.disk) c.agent n (blocks t.size) put.writes xs put.extents.items) bytes
        (gotten (machine_in l) recorded.rows spaced-then in-l.end in-l.few)))))))

    pub is-plan : IsPlan w (record { ledger = now; pages = q }) c new t put page
    is-plan = record {
      target = target;
      small = small;
      pages = count ∙ ap blocks target.size;
      planned = record {
        ready =
            subst (λ (b : ℕ). IsReady w.tells (w.content j.disk) q.base q.swap c.agent b put.pages put.writes put.moves (vec_capacity put.extents)) row_is
            (subst (λ (b : ℕ). IsReady w.tells (w.content j.disk) q.base q.swap c.agent n b put.writes put.moves (vec_capacity put.extents)) (sym count) ready);
        bytes = subst (λ (xs : List ℕ). HasBytes put.writes xs) bytes has_bytes;
        gotten = gotten-then;
      };
      whole = whole;
      tail = λ i from at. tail i (subst (λ (b : ℕ). b ≤ i) (sym target.size) from) (at ∙ ap (λ (b : ℕ). b / 4096) (sym target.beside));
      room = subst (λ (b : ℕ). blocks b ≤ new.room) target.size room;
    }
