-- A call's entry was added.
use Rattle.std.proofs.Common.{◌≡◌, ℕ, ◌<◌, if◌then◌else◌, List, [], ◌∷◌, ◌++◌, map, length, Option, Some, None, refl, sym, ap, ◌∙◌, subst, append_assoc, arith}
use Rattle.std.proofs.lemmas.Bool.{true≢false}
use Rattle.opfs_store.specs.Acts.Acting.{gift_of, told_entry, unread_gift}
use Rattle.opfs_store.specs.declared.acts.acted.Gift.TheVariants as gift
use Rattle.opfs_base.specs.Texts.{Text}
use Rattle.opfs_books.specs.Laws.Books.{Fixed}
use Rattle.opfs_books.specs.Laws.Laws.{told, doubt, failed}
use Rattle.opfs_books.proofs.laws.Told.{changes-more}
use Rattle.opfs_hist.specs.declared.entry.Entry.{Entry}
use Rattle.opfs_hist.specs.declared.op.Op.{Op}
use Rattle.opfs_hist.specs.declared.op.Op.TheVariants as op
use Rattle.opfs_hist.specs.declared.reply.Refusal.{Refusal}
use Rattle.opfs_hist.specs.declared.reply.Refusal.TheVariants as refusal
use Rattle.opfs_hist.specs.declared.reply.Reply.TheVariants as reply
use Rattle.opfs_laws.specs.Histories.Doubts.{doubted, ADoubtStays}
use Rattle.opfs_laws.specs.Histories.Unread.{ArePendingFor}
use Rattle.opfs_journal.specs.Seen.{Seen}
use Rattle.opfs_machine.specs.declared.own.Own.{Own}
use Rattle.opfs_machine.specs.declared.state.State.{State}
use Rattle.opfs_machine.specs.Changes.{Change, changes, entry_changes, floor}
use Rattle.opfs_machine.specs.Histories.{IsCall, state_after}
use Rattle.opfs_machine.specs.Openings.{Opening}
use Rattle.opfs_machine.specs.Runs.{eviction}
use Rattle.opfs_commit.specs.Shown.{ShowsEither}
use Rattle.opfs_outside.specs.Faults.{Rose}
use Rattle.opfs_outside.specs.Moments.{Elapses}
use Rattle.opfs_outside.specs.declared.disk.Disk.{Ghosts as DiskWords}
use Rattle.opfs_records.specs.Replay.Built.{Built}
use Rattle.opfs_desk_steps.specs.Parts.Acted.{IsWay, last_doubt}
use Rattle.opfs_desk_steps.specs.Parts.Held.{AreHeldWhole}
use Rattle.opfs_desk_steps.specs.Parts.Seen.{book_in, call_in}
use Rattle.opfs_desk_steps.specs.declared.parts.parts.Ledger.{Ledger}
use Rattle.opfs_desk_steps.specs.declared.parts.parts.OpenPages.{OpenPages}
use Rattle.opfs_desk_steps.specs.Acting.{HasTaken, CallsAreActed}
use Rattle.opfs_desk_steps.proofs.book_steps.Taken.{pending-told}
use Rattle.opfs_desk_steps.proofs.book_steps.Ways.{way-told, way-same}

-- What is in doubt stays as calls are added.
doubt-kept : ADoubtStays → (o : Opening) (h calls : List Entry) (place : Option ℕ) → ((n : ℕ) → place ≡ Some n → n < length h) → doubted o (h ++ calls) place ≡ doubted o h place
doubt-kept stays o h calls None inside = refl
doubt-kept stays o h calls (Some n) inside = stays.stays o h calls n (inside n refl)

-- A refused call gives nothing.
refused-gift : (s : State Text Own) (o : Op) (x : Refusal) → gift_of s o (reply.No x) ≡ gift.Nothing
unfolding gift_of
refused-gift s (op.GetFile at) x = refl
refused-gift s (op.Next n dir) x = refl
refused-gift s o x = refl

joined : (h calls es : List Entry) (mid : List Entry) → mid ≡ h ++ calls → mid ++ es ≡ h ++ (calls ++ es)
joined h calls es mid is = ap (λ (xs : List Entry). xs ++ es) is ∙ append_assoc h calls es

module _ {D : Type 0} (w : DiskWords D) (stays : ADoubtStays) where
  before-taken : (f : Fixed D) (recorded : Built) (old mid new : Ledger D) (p : OpenPages) (k : ℕ) (calls : List Entry) (all : List Change)
      → AreHeldWhole w f recorded old p → ArePendingFor w.tells (state_after f.opening old.books.history) k calls → HasTaken old mid calls → IsWay w f all mid new → IsWay w f all old new
  before-taken f recorded old mid new p k calls all held pending taken way =
      let same : told f (book_in mid) ≡ told f (book_in old) = pending-told w.tells f.opening k old.books.history calls mid.books.history pending taken.entries in
      let left : doubt f (book_in mid) mid.journal ≡ doubt f (book_in old) old.journal =
      ap (λ (j : Seen D). doubt f (book_in mid) j) taken.journal
      ∙ ap (λ (cs : List Change). if old.journal.in_doubt then cs else [])
      (ap (λ (es : List Entry). doubted f.opening es mid.books.place) taken.entries
      ∙ (ap (λ (n : Option ℕ). doubted f.opening (old.books.history ++ calls) n) taken.place ∙ doubt-kept stays f.opening old.books.history calls old.books.place held.books.recent.inside))
      in
      record {
        later = let at = ap (λ (j : Seen D). w.faults j.disk) taken.journal in omega (arith, at, way.later);
        time = λ t. subst (λ (j : Seen D). Elapses w.moment w.since j.disk new.journal.disk) taken.journal (way.time t);
        shown = λ t.
            subst (λ (j : Seen D). ShowsEither w f.opening (floor (told f (book_in old))) all (told f (book_in old) ++ doubt f (book_in old) old.journal) j.disk new.journal.disk) taken.journal
            (subst (λ (cs : List Change). ShowsEither w f.opening (floor (told f (book_in old))) all (told f (book_in old) ++ cs) mid.journal.disk new.journal.disk) left
            (subst (λ (cs : List Change). ShowsEither w f.opening (floor cs) all (cs ++ doubt f (book_in mid) mid.journal) mid.journal.disk new.journal.disk) same (way.shown t)));
      }

  pub are-acted : CallsAreActed w
  are-acted = record {
    acted = λ f old mid back new calls gone c r taken added next. record {
      gone = gone;
      grown =
          added.added ∙ ap (λ (es : List Entry). es ++ told_entry (call_in c) r ∷ []) added.cleared
          ∙ (append_assoc mid.books.history (map eviction gone) (told_entry (call_in c) r ∷ [])
          ∙ joined old.books.history calls (map eviction gone ++ told_entry (call_in c) r ∷ []) mid.books.history taken.entries);
      call =
          let at = ap (λ (es : List Entry). state_after f.opening es) taken.entries in
          record { real = next.real; call = subst (λ (s : State Text Own). IsCall s gone next.real) at next.call; alike = next.alike; told = next.told };
    };
    before = before-taken;
    silent = λ f mid back new gone c r added same way.
        let e = told_entry (call_in c) r in
        let stored = entry_changes (state_after f.opening back.books.history) e in
        let grown : told f (book_in new) ≡ told f (book_in back) ++ stored = ap (changes f.opening) added.added ∙ changes-more f.opening back.books.history e in
        way-same w f mid new (told f (book_in back) ++ (stored ++ last_doubt f.opening new.books.history)) (told f (book_in new) ++ last_doubt f.opening new.books.history)
        (sym (append_assoc (told f (book_in back)) stored (last_doubt f.opening new.books.history)) ∙ ap (λ (cs : List Change). cs ++ last_doubt f.opening new.books.history) (sym grown))
        (way-told w f mid back new (told f (book_in back)) (stored ++ last_doubt f.opening new.books.history) way same);
    failed = λ f recorded old new mid calls c r before after rows held pending taken fail same count.
        let h = old.ledger.books.history in
        let at = ap (λ (es : List Entry). state_after f.opening es) taken.entries in
        record {
          held = record { recorded = fail.recorded; are = fail.are; idle = fail.idle };
          acted = record {
            gone = fail.gone;
            grown = fail.grown ∙ joined h calls (map eviction fail.gone ++ failed (told_entry (call_in c) r) ∷ []) mid.books.history taken.entries;
            call = record { real = failed (told_entry (call_in c) r); call = subst (λ (s : State Text Own). IsCall s fail.gone (failed (told_entry (call_in c) r))) at fail.call; alike = refl; told = λ t. refl };
          };
          left = record { refused = λ is. same; stands = λ is. absurd (true≢false is); near = λ is brings. absurd (true≢false is) };
          gift =
              let none = refused-gift (state_after f.opening (h ++ calls)) c.op refusal.DiskFault in
              record { alike = ap unread_gift (sym none); told = λ t. sym none };
          rows = count;
          fault = λ is. subst (λ (j : Seen D). Rose (w.faults j.disk) (w.faults new.ledger.journal.disk)) taken.journal fail.rose;
          way = before-taken f recorded old.ledger mid new.ledger old.pages c.agent calls _ held pending taken fail.way;
        };
  }
