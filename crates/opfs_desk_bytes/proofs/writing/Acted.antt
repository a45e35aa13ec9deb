-- A call that puts bytes into a row, put together from its steps.
use Rattle.std.proofs.Common.{◌≡◌, ◌≢◌, ℕ, ◌+◌, ◌*◌, ◌<◌, ◌≤◌, ◌^◌, ◌/◌, min, max, zero, suc, if◌then◌else◌, true, false, List, [], ◌∷◌, ◌++◌, fold, length, map, Some, Ok, refl, sym, ap, subst, ◌∙◌, inl, append-nil}
use Rattle.std.proofs.lemmas.Bool.{false≢true}
use Rattle.std.proofs.lemmas.List.{append_assoc}
use Rattle.std.specs.Prelude.{IsTrue}
use Rattle.opfs_store.specs.Acts.Acting.{StandsForLeft, row_left, told_entry, unread_gift}
use Rattle.opfs_store.specs.declared.acts.acted.Acted.{Acted}
use Rattle.opfs_store.specs.declared.acts.acted.Gift.TheVariants as gift
use Rattle.opfs_base.specs.Texts.{Text}
use Rattle.opfs_books.specs.Stored.Laws.{CallsAreSpelled}
use Rattle.opfs_books.specs.Laws.Books.{Fixed}
use Rattle.opfs_books.specs.Laws.Laws.{ShowsTold, failed, told}
use Rattle.opfs_books.proofs.laws.Counting.{rose-before}
use Rattle.opfs_store.specs.Copies.Copies.{IsCopyOf, IsPaged, StandsFor}
use Rattle.opfs_pages.specs.HistoryLaws.Laws.{BlocksGoOn, CallsLeaveOtherRows, TreesKeepBlocks}
use Rattle.opfs_pages.specs.HistoryLaws.RowsAfter.{CallsChangeTheirRow}
use Rattle.opfs_pages.proofs.history_laws.Copied.{left-stands}
use Rattle.opfs_hist.specs.Faults.{is_disk_fault}
use Rattle.opfs_hist.specs.declared.entry.Entry.{Entry}
use Rattle.opfs_hist.specs.declared.op.Op.{Op}
use Rattle.opfs_hist.specs.declared.op.Op.TheVariants as op
use Rattle.opfs_hist.specs.declared.reply.Reply.{Reply}
use Rattle.opfs_hist.specs.declared.reply.Reply.TheVariants as reply
use Rattle.opfs_machine.specs.declared.own.Own.{Own}
use Rattle.opfs_machine.specs.declared.own.Own.TheVariants as own
use Rattle.opfs_machine.specs.declared.state.Agent.{Agent}
use Rattle.opfs_machine.specs.declared.state.Sizes.{Sizes}
use Rattle.opfs_machine.specs.declared.state.State.{State}
use Rattle.opfs_machine.specs.Agents.{agent_of, own_of}
use Rattle.opfs_machine.specs.Changes.{Change, changes, evict}
use Rattle.opfs_machine.specs.Contents.{outline_of}
use Rattle.opfs_machine.specs.Histories.{IsCall, may_enter, state_after}
use Rattle.opfs_machine.specs.Replies.{bytes_at, row_named, sizes_in}
use Rattle.opfs_machine.specs.Rulings.{reserve_for}
use Rattle.opfs_machine.specs.Runs.{eviction}
use Rattle.opfs_machine.specs.Steps.{evicted, after_reply, judged}
use Rattle.opfs_machine.specs.Sums.{reserve_of}
use Rattle.opfs_outside.specs.declared.disk.Disk.{Ghosts as DiskWords}
use Rattle.opfs_pages.specs.Copies.{IsCopy, IsPageOf}
use Rattle.opfs_pages.specs.Stages.{changed}
use Rattle.opfs_pages.specs.declared.writing.put.Put.{Put}
use Rattle.opfs_records.specs.Replay.Built.{Built}
use Rattle.opfs_pages.specs.RowCalls.Rows.{IsPutOf}
use Rattle.opfs_space.specs.Room.{Machine}
use Rattle.opfs_laws.specs.Steady.Steady.{open_bytes}
use Rattle.opfs_work.specs.Pages.{page_at, is_far}
use Rattle.opfs_work.specs.Works.{WorkingCopy}
use Rattle.opfs_desk_steps.specs.Parts.Acted.{HasActed, HasFailed, IsWay, IsWayNow, last_doubt}
use Rattle.opfs_desk_steps.specs.Parts.Answered.{IsAnswered}
use Rattle.opfs_desk_steps.specs.Parts.Asked.{IsAsked}
use Rattle.opfs_desk_steps.specs.Parts.Held.{AreHeldWhole}
use Rattle.opfs_desk_steps.specs.Parts.Seen.{machine_in, book_in, call_in, units_in}
use Rattle.opfs_desk_steps.specs.declared.parts.call.ReadyCall.{ReadyCall}
use Rattle.opfs_desk_steps.specs.declared.parts.parts.Ledger.{Ledger}
use Rattle.opfs_desk_steps.specs.declared.parts.parts.OpenPages.{OpenPages}
use Rattle.opfs_desk_steps.specs.declared.parts.parts.DeskParts.{DeskParts}
use Rattle.opfs_desk_bytes.specs.Reading.Reading.{BeginsRead}
use Rattle.opfs_desk_bytes.proofs.reading.Synced.{handed}
use Rattle.opfs_desk_steps.specs.RowLaws.InHand.{RowsInHandAreLaid}
use Rattle.opfs_desk_steps.specs.RowLaws.Inside.{PartsLieInside}
use Rattle.opfs_desk_steps.specs.RowLaws.Puts.{PutsHaveRoom, puts_row, size_put}
use Rattle.opfs_desk_steps.specs.Acting.{CallsAreActed, HasAdded}
use Rattle.opfs_desk_steps.specs.Answering.{ReadyCallsAreAnswered}
use Rattle.opfs_desk_steps.specs.Ready.{AskedCallsAreReady}
use Rattle.opfs_desk_steps.proofs.Counts.{own-length}
use Rattle.opfs_desk_steps.proofs.Numbers.{agent-stays}
use Rattle.opfs_desk_steps.proofs.book_steps.Held.{evictions-told, refused-told}
use Rattle.opfs_desk_steps.proofs.book_steps.Loop.{Falls}
use Rattle.opfs_desk_steps.proofs.book_steps.Turns.{may-fail}
use Rattle.opfs_desk_steps.proofs.book_steps.Ways.{way-same, way-then, way-told}
use Rattle.opfs_desk_bytes.specs.Writing.Plans.{HasClearedWay, HasTakenIn, IsPlan, IsTargetOf}
use Rattle.opfs_desk_bytes.specs.Writing.Leaving.{IsCut, IsWritten}
use Rattle.opfs_desk_bytes.specs.Writing.Putting.{AreGottenIn, IsToPut, IsUsed}
use Rattle.opfs_desk_bytes.specs.Writing.Steps.{HasEntered, HasNotEntered, IsPlannedOf, MayEnter}
use Rattle.opfs_desk_bytes.specs.Writing.Words.{beside_put, bytes_put, change_put, counts_bytes, position_put, reply_put, text_put}
use Rattle.opfs_desk_bytes.specs.declared.writing.target.Target.{Target}
use Rattle.opfs_desk_bytes.proofs.writing.Begun.{answered, at-s, done, files, live-s, machine-back, may-s, opened-s, read-alike, ready, some, stood, to-put}
use Rattle.opfs_desk_bytes.proofs.writing.Found.{behind-areas}
use Rattle.opfs_desk_bytes.proofs.writing.Put.{held-now, next, put-of-alike, state-is, text-length}
use Rattle.opfs_desk_bytes.proofs.writing.Rows.{IsNext, one-text, rows-put}
use Rattle.opfs_desk_bytes.proofs.writing.Used.{used-both}
use Rattle.opfs_desk_bytes.proofs.writing.Words.{beside-position, cut-at, done-put, leaves-named, no-gift, on-disk, row-some, written-at}

-- ---- replies

reply-same : (o : Op) → puts_row o ≡ true → (if counts_bytes o then reply.Length (length (bytes_put o)) else reply.Done) ≡ reply_put o
reply-same (op.Write n bytes position) h = refl
reply-same (op.Truncate n size) h = refl
reply-same (op.SyncWrite n bytes at) h = refl
reply-same (op.SyncTruncate n size) h = refl
reply-same o h = absurd (false≢true h)

pub reply-for : (o : Op) (t : Target) (given : List ℕ) (z : Sizes) → puts_row o ≡ true → IsTargetOf z o t → given ≡ bytes_put o → (r : Reply) → r ≡ (if t.counts then reply.Length (length given) else reply.Done) → r ≡ reply_put o
reply-for o t given z puts target bytes r is = is ∙ (λ i. if target.counts i then reply.Length (length (bytes i)) else reply.Done) ∙ reply-same o puts

no-fault : (o : Op) → puts_row o ≡ true → is_disk_fault (reply_put o) ≡ false
no-fault (op.Write n bytes position) h = refl
no-fault (op.Truncate n size) h = refl
no-fault (op.SyncWrite n bytes at) h = refl
no-fault (op.SyncTruncate n size) h = refl
no-fault o h = absurd (false≢true h)

-- The disk may fail in it, once all its units are cleared.
pub call-fails : (b : State Text Own) (k number : ℕ) (o : Op) (r : Reply) (units : List Text) → puts_row o ≡ true → IsTrue (agent_of b k).live → IsTrue (may_enter b k o) → judged b k o ≡ Ok units
    → IsCall b units (failed (record { agent = k; number = number; op = o; reply = r; turn = true }))
call-fails b k number o r units puts live fitting is =
    may-fail b (record { agent = k; number = number; op = o; reply = r; turn = true }) units units []
    (record { live = live; fitting = fitting; judged = is; disk = on-disk b k o units puts is }) (sym (append-nil units))

-- What the reply and the gift of such a call are.
abbrev pub put_act : Reply → ℕ → Acted
put_act r rows = record { reply = r; gift = gift.Nothing; rows = rows }

-- ---- what was entered is the call

-- The pages were put and the call was entered, or not, whatever row, bytes and entry there were.
abbrev Enters : {D : Type 0} → DiskWords D → Fixed D → Built → State Text Own → List Text → DeskParts D → DeskParts D → Put → ℕ → List ℕ → Entry → Sizes → Type 0
Enters w f recorded base gone start new put n xs e z =
    IsToPut w f recorded base gone start e.agent n put xs → AreGottenIn w recorded start e.agent n put xs → IsAnswered w base gone start.ledger e z → HasEntered w f base gone start new n put xs e z

abbrev Fails : {D : Type 0} → DiskWords D → Fixed D → Built → State Text Own → List Text → DeskParts D → DeskParts D → Put → ℕ → List ℕ → Entry → Type 0
Fails w f recorded base gone start new put n xs e =
    IsToPut w f recorded base gone start e.agent n put xs → AreGottenIn w recorded start e.agent n put xs → IsCall base gone (failed e) → HasNotEntered w f start new e

pub enters-same : {D : Type 0} (w : DiskWords D) (f : Fixed D) (recorded : Built) (base : State Text Own) (gone : List Text) (start new : DeskParts D) (put : Put) (n m : ℕ) (xs ys : List ℕ) (e d : Entry) (z y : Sizes)
    → n ≡ m → xs ≡ ys → e ≡ d → z ≡ y → Enters w f recorded base gone start new put n xs e z → Enters w f recorded base gone start new put m ys d y
enters-same w f recorded base gone start new put n m xs ys e d z y rows bytes entries sizes is =
    subst (λ (x : Sizes). Enters w f recorded base gone start new put m ys d x) sizes
    (subst (λ (x : Entry). Enters w f recorded base gone start new put m ys x z) entries
    (subst (λ (x : List ℕ). Enters w f recorded base gone start new put m x e z) bytes
    (subst (λ (x : ℕ). Enters w f recorded base gone start new put x xs e z) rows is)))

pub fails-same : {D : Type 0} (w : DiskWords D) (f : Fixed D) (recorded : Built) (base : State Text Own) (gone : List Text) (start new : DeskParts D) (put : Put) (n m : ℕ) (xs ys : List ℕ) (e d : Entry)
    → n ≡ m → xs ≡ ys → e ≡ d → Fails w f recorded base gone start new put n xs e → Fails w f recorded base gone start new put m ys d
fails-same w f recorded base gone start new put n m xs ys e d rows bytes entries is =
    subst (λ (x : Entry). Fails w f recorded base gone start new put m ys x) entries
    (subst (λ (x : List ℕ). Fails w f recorded base gone start new put m x e) bytes
    (subst (λ (x : ℕ). Fails w f recorded base gone start new put x xs e) rows is))

pub may-enter-same : {D : Type 0} (w : DiskWords D) (p : DeskParts D) (put : Put) (n m : ℕ) (xs ys : List ℕ) (e d : Entry) (z y : Sizes) → n ≡ m → xs ≡ ys → e ≡ d → z ≡ y → MayEnter w p m put ys d y → MayEnter w p n put xs e z
may-enter-same w p put n m xs ys e d z y rows bytes entries sizes is =
    subst (λ (x : ℕ). MayEnter w p x put xs e z) (sym rows)
    (subst (λ (x : List ℕ). MayEnter w p m put x e z) (sym bytes)
    (subst (λ (x : Entry). MayEnter w p m put ys x z) (sym entries)
    (subst (λ (x : Sizes). MayEnter w p m put ys d x) (sym sizes) is)))

-- ---- the sizes of the row

size-in : (s : State Text Own) (r : Own) (bytes : Text) → open_bytes s (Some r) ≡ Some bytes → (sizes_in s (Some r)).size ≡ length bytes
size-in s (own.Stream w) bytes is = ap length (one-text w.buffer bytes is)
size-in s (own.Handle h) bytes is = ap length (one-text (bytes_at s h.file) bytes is)
size-in s r bytes is = absurd cc

module _ {D : Type 0} (w : DiskWords D) (f : Fixed D) (l : Ledger D) (calls : List Entry) (c : ReadyCall) (work : WorkingCopy) (past : List Text)
    (asked : IsAsked w.tells f.opening l.books.history calls l.books.state c work past) (puts : puts_row c.op ≡ true) where
  some-row : row_named c.op ≢ 0
  some-row = row-some (state_after f.opening (l.books.history ++ calls)) c.agent c.op puts asked.may.fitting

  stood-first : StandsFor w.tells f.opening (l.books.history ++ calls) c.agent (row_named c.op) work
  stood-first = handed w.tells f.opening (l.books.history ++ calls) c.agent (row_named c.op) work some-row asked.may.copy

  sizes-are : c.sizes ≡ sizes_in (state_after f.opening (l.books.history ++ calls)) (Some stood-first.row)
  sizes-are = asked.sizes ∙ ap (sizes_in (state_after f.opening (l.books.history ++ calls))) stood-first.there

  size-is : c.sizes.size ≡ work.length
  size-is =
      ap (λ (z : Sizes). z.size) sizes-are
      ∙ size-in (state_after f.opening (l.books.history ++ calls)) stood-first.row stood-first.copy.bytes stood-first.copy.open_row ∙ sym stood-first.copy.size

  position-is : c.sizes.position ≡ work.position
  position-is = ap (λ (z : Sizes). z.position) sizes-are ∙ sym stood-first.copy.position

  pub is-written : (t : Target) (len : ℕ) → IsTargetOf c.sizes c.op t → len ≡ length (bytes_put c.op) → t.writes ≡ true → IsWritten work t len
  is-written t len target count writes =
      let is = written-at c.sizes c.op (sym target.writes ∙ writes) in
      record {
        size_is = target.size ∙ is.0 ∙ (λ i. max (size-is i) (sym target.at i + sym count i));
        position_is = target.position ∙ is.1 ∙ (λ i. sym target.at i + sym count i);
      }

  pub is-cut : (t : Target) (len : ℕ) → IsTargetOf c.sizes c.op t → len ≡ length (bytes_put c.op) → t.writes ≡ false → IsCut work t len
  is-cut t len target count writes =
      let is = cut-at c.sizes c.op puts (sym target.writes ∙ writes) in
      record {
        at_is = target.at ∙ is.0;
        none = count ∙ is.1;
        position_is = target.position ∙ is.2 ∙ (λ i. min (position-is i) (sym target.size i));
        beside_is = target.beside ∙ is.3 ∙ (λ i. min (position-is i) (sym target.size i));
      }

-- ---- the call, step by step

module _ {D : Type 0} (w : DiskWords D) (asks : AskedCallsAreReady w) (answers : ReadyCallsAreAnswered w)
    (f : Fixed D) (recorded : Built) (l mid : Ledger D) (p : OpenPages) (calls : List Entry) (c : ReadyCall) (work : WorkingCopy)
    (begins : BeginsRead w f recorded l p calls c work) (puts : puts_row c.op ≡ true) (took : HasTakenIn w f recorded l mid p calls c)
    (small : size_put c.sizes c.op < 2 ^ 63) (back : Ledger D) (way : HasClearedWay w f mid back p c) where
  abbrev base : State Text Own
  base = state_after f.opening mid.books.history

  abbrev units : List Text
  units = units_in c.clearing.items

  abbrev s : State Text Own
  s = fold evicted base units

  abbrev row : ℕ
  row = row_named c.op

  abbrev e : Entry
  e = told_entry (call_in c) (reply_put c.op)

  abbrev its : IsAnswered w base units back e c.sizes
  its = answered w asks answers f recorded l mid p calls c work begins puts took small back way

  abbrev stands-first : StandsFor w.tells f.opening (l.books.history ++ calls) c.agent row work
  stands-first = stood w asks answers f recorded l mid p calls c work begins puts took

  abbrev first : Text
  first = stands-first.copy.bytes

  -- ---- the way, where the disk is used for its pages

  through : Falls w → (now : Ledger D) → IsUsed w f back now → IsWay w f (told f (book_in back)) mid now
  through falls now used =
      way-same w f mid now (told f (book_in back) ++ []) (told f (book_in back)) (append-nil (told f (book_in back)))
      (way-then w f falls mid back now (map evict units) [] (evictions-told w f mid back units way.entries) way.cleared.way used.later used.time
      (subst (λ (cs : List Change). ShowsTold w f (book_in back) cs back.journal now.journal) (sym (append-nil (told f (book_in back)))) used.shown))

  -- ---- the disk failed

  pub has-failed : Falls w → (new : DeskParts D) → HasNotEntered w f (record { ledger = back; pages = p }) new e → HasFailed w f e mid new.ledger new.pages
  has-failed falls new not =
      let its-ready = ready w asks answers f recorded l mid p calls c work begins puts took in
      let more = last_doubt f.opening new.ledger.books.history in
      record {
        gone = units;
        grown = not.entries ∙ ap (λ (es : List Entry). es ++ failed e ∷ []) way.entries ∙ append_assoc mid.books.history (map eviction units) (failed e ∷ []);
        call = call-fails base c.agent c.number c.op (reply_put c.op) units puts its-ready.live its-ready.fitting its-ready.judged;
        recorded = not.recorded;
        are = not.are;
        idle = not.idle;
        rose = rose-before (w.faults mid.journal.disk) (w.faults back.journal.disk) (w.faults new.ledger.journal.disk) way.cleared.way.later not.rose;
        way =
            way-same w f mid new.ledger (told f (book_in back) ++ more) (told f (book_in new.ledger) ++ more)
            (ap (λ (cs : List Change). cs ++ more) (sym (refused-told w f back new.ledger (failed e) refl not.entries)))
            (way-told w f mid new.ledger new.ledger (told f (book_in back)) more (through falls new.ledger not.used) refl);
      }

  -- ---- it was entered

  module _ (inside : PartsLieInside w) (room : PutsHaveRoom) (leave : CallsLeaveOtherRows) (t : Target) (put : Put) (page : List ℕ) (plan : IsPlan w (record { ledger = l; pages = p }) c work t put page)
      (planned : IsPlannedOf w.tells work (w.content l.journal.disk) p c.agent row c.sizes c.op put.writes page first)
      (new : DeskParts D) (entered : HasEntered w f base units (record { ledger = back; pages = p }) new row put (bytes_put c.op) e c.sizes) (changes_row : CallsChangeTheirRow) where
    abbrev bt : DeskParts D
    bt = entered.between

    abbrev after : State Text Own
    after = after_reply s c.agent c.op (reply_put c.op)

    abbrev text : Text
    text = text_put c.sizes c.op first

    of-back : IsPutOf w.tells work (w.content back.journal.disk) p.base p.swap c.agent row (change_put c.sizes c.op) put.writes first text
    of-back =
        put-of-alike w.tells work (w.content l.journal.disk) (w.content back.journal.disk) p.base p.swap c.agent row (change_put c.sizes c.op) put.writes first text
        (read-alike w asks answers f recorded l mid p calls c work begins puts took small back way inside room leave t put page plan) planned.put_of

    behind : back.journal.areas.first + 2 * back.journal.areas.bytes ≤ p.base
    behind =
        behind-areas w f way.cleared.recorded base units (record { ledger = back; pages = p }) c.agent row put (bytes_put c.op)
        (to-put w asks answers f recorded l mid p calls c work begins puts took small back way inside room leave t put page plan)

    held : BlocksGoOn → TreesKeepBlocks → RowsInHandAreLaid w → CallsAreSpelled → AreHeldWhole w f entered.pages.found.recorded new.ledger new.pages
    held blocks_go trees laying spells =
        held-now w f base units back p e c.sizes its (machine-back w asks answers f recorded l mid p calls c work begins puts took small back way) puts
        (done w asks answers f recorded l mid p calls c work begins puts took small back way)
        (may-s w asks answers f recorded l mid p calls c work begins puts took small back way)
        stands-first.row (at-s w asks answers f recorded l mid p calls c work begins puts took small back way) first
        (opened-s w asks answers f recorded l mid p calls c work begins puts took small back way)
        (files w asks answers f recorded l mid p calls c work begins puts took small back way)
        put new entered changes_row work of-back behind plan.pages leave blocks_go trees laying spells

    state-now : state_after f.opening new.ledger.books.history ≡ after
    state-now =
        state-is w f base units back p e c.sizes its (machine-back w asks answers f recorded l mid p calls c work begins puts took small back way) puts
        (done w asks answers f recorded l mid p calls c work begins puts took small back way)
        (may-s w asks answers f recorded l mid p calls c work begins puts took small back way)
        stands-first.row (at-s w asks answers f recorded l mid p calls c work begins puts took small back way) first
        (opened-s w asks answers f recorded l mid p calls c work begins puts took small back way)
        (files w asks answers f recorded l mid p calls c work begins puts took small back way)
        put new entered

    its-next : IsNext after c.agent row stands-first.row text (position_put c.sizes c.op) (reserve_for (reserve_of (outline_of stands-first.row)) (size_put c.sizes c.op))
    its-next =
        next w f base units back p e c.sizes its (machine-back w asks answers f recorded l mid p calls c work begins puts took small back way) puts
        (done w asks answers f recorded l mid p calls c work begins puts took small back way)
        (may-s w asks answers f recorded l mid p calls c work begins puts took small back way)
        stands-first.row (at-s w asks answers f recorded l mid p calls c work begins puts took small back way) first
        (opened-s w asks answers f recorded l mid p calls c work begins puts took small back way)
        (files w asks answers f recorded l mid p calls c work begins puts took small back way)
        put new entered changes_row

    same-history : bt.ledger.books.history ≡ back.books.history
    same-history = ap (λ b. b.history) entered.pages.written.same ∙ entered.pages.found.history

    way-now : Falls w → IsWayNow w f mid bt.ledger
    way-now falls =
        let used = used-both w f falls back entered.pages.mid.ledger bt.ledger entered.pages.found.used (ap (changes f.opening) entered.pages.found.history) entered.pages.written.used in
        way-same w f mid bt.ledger (told f (book_in back)) (told f (book_in bt.ledger)) (sym (ap (changes f.opening) same-history)) (through falls bt.ledger used)

    rows-now : length (agent_of (state_after f.opening new.ledger.books.history) c.agent).own ≡ length (agent_of base c.agent).own
    rows-now =
        ap (λ (x : State Text Own). length (agent_of x c.agent).own) state-now
        ∙ rows-put s c.agent c.op (reply_put c.op) (live-s w asks answers f recorded l mid p calls c work begins puts took small back way) puts
        ∙ ap (λ (a : Agent Own). length a.own) (agent-stays base units c.agent)

    -- ---- the working copy

    module _ (made : WorkingCopy) (size : made.length ≡ t.size) (position : made.position ≡ t.position) (reserve : made.reserve ≡ reserve_for work.reserve t.size) (paged : IsPaged made)
        (near : is_far (page_at made.pages (t.beside / 4096)) ≡ false) (given : List ℕ) (given_is : given ≡ bytes_put c.op)
        (copy : (bytes : List ℕ) → IsCopy bytes work → IsPageOf (changed bytes t.at given t.size) (t.beside / 4096) page → IsCopy (changed bytes t.at given t.size) made) where
      text-same : changed first t.at given t.size ≡ text
      text-same = λ i. changed first (plan.target.at i) (given_is i) (plan.target.size i)

      copied : w.tells → IsCopy text made
      copied tt =
          subst (λ (xs : List ℕ). IsCopy xs made) text-same
          (copy first (record { same = stands-first.copy.same tt })
          (subst (λ (n : ℕ). IsPageOf (changed first t.at given t.size) (n / 4096) page) (sym plan.target.beside)
          (subst (λ (xs : List ℕ). IsPageOf xs (beside_put c.sizes c.op / 4096) page) (sym text-same) (planned.page_is tt))))

      state-then : state_after f.opening (bt.ledger.books.history ++ e ∷ []) ≡ after
      state-then = ap (state_after f.opening) (sym entered.told.entries) ∙ state-now

      is-copy : IsCopyOf w.tells (state_after f.opening (bt.ledger.books.history ++ e ∷ [])) its-next.next made
      is-copy = record {
        bytes = text;
        open_row = ap (λ (x : State Text Own). open_bytes x (Some its-next.next)) state-then ∙ its-next.opened;
        size = size ∙ plan.target.size ∙ sym (text-length c.sizes c.op first);
        same = λ tt. (copied tt).same;
        position = position ∙ plan.target.position ∙ sym (ap (λ (x : State Text Own). (sizes_in x (Some its-next.next)).position) state-then ∙ its-next.position_is);
        reserve = reserve ∙ (λ i. reserve_for (stands-first.copy.reserve i) (plan.target.size i)) ∙ sym its-next.reserve_is;
      }

      stands : StandsFor w.tells f.opening new.ledger.books.history c.agent row made
      stands =
          subst (λ (es : List Entry). StandsFor w.tells f.opening es c.agent row made) (sym entered.told.entries)
          (left-stands w.tells f.opening bt.ledger.books.history e row its-next.next made refl (done-put c.op puts) (some w asks answers f recorded l mid p calls c work begins puts took) (inl refl) paged
          (ap (λ (x : State Text Own). own_of (agent_of x c.agent) row) state-then ∙ its-next.there) is-copy)

      left-row : (n : ℕ) → n ≡ row → StandsForLeft w.tells f.opening new.ledger.books.history c.agent n made
      left-row zero is = absurd (some w asks answers f recorded l mid p calls c work begins puts took (sym is))
      left-row (suc n) is = subst (λ (m : ℕ). StandsFor w.tells f.opening new.ledger.books.history c.agent m made) (sym is) stands

      -- ---- all of it

      pub has-acted : Falls w → BlocksGoOn → TreesKeepBlocks → RowsInHandAreLaid w → CallsAreSpelled → CallsAreActed w → (rows : ℕ) → rows ≡ length (agent_of (machine_in mid) c.agent).own
          → HasActed w f (record { ledger = l; pages = p }) new calls (call_in c) work made (put_act (reply_put c.op) rows)
      has-acted falls blocks_go trees laying spells acts rows count =
          let added : HasAdded mid bt.ledger new.ledger units c (reply_put c.op) = record { cleared = same-history ∙ way.entries; added = entered.told.entries } in
          record {
            held = record { recorded = entered.pages.found.recorded; are = held blocks_go trees laying spells; idle = entered.told.idle };
            acted = acts.acted f l mid bt.ledger new.ledger calls units c (reply_put c.op) took.taken added its.next;
            left = record {
              refused = λ refusal. absurd (false≢true (sym (done-put c.op puts) ∙ refusal));
              stands = λ plain_done. left-row (row_left (length (agent_of (state_after f.opening new.ledger.books.history) c.agent).own) c.op) (leaves-named _ c.op puts);
              near = λ plain_done brings within.
                  subst (λ (n : ℕ). is_far (page_at made.pages (n / 4096)) ≡ false) (plan.target.beside ∙ beside-position c.sizes c.op puts brings ∙ sym (position ∙ plan.target.position)) near;
            };
            gift =
                let nothing = no-gift (state_after f.opening (l.books.history ++ calls)) c.op puts in
                record { alike = ap unread_gift (sym nothing); told = λ tt. sym nothing };
            rows = count ∙ ap (λ (m : Machine). length (agent_of m c.agent).own) took.held.books.machine ∙ own-length base c.agent ∙ sym rows-now;
            fault = λ never. absurd (false≢true (sym (no-fault c.op puts) ∙ never));
            way =
                acts.before f recorded l mid new.ledger p c.agent calls _ begins.held begins.asked.may.pending took.taken
                (acts.silent f mid bt.ledger new.ledger units c (reply_put c.op) added entered.told.journal (way-now falls));
          }
