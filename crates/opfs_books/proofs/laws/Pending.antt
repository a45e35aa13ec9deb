-- Pending calls are taken in; and what the books keep of the state.
use Rattle.std.proofs.Common.{◌≡◌, ℕ, ◌-◌, ◌^◌, ◌<◌, ◌≤◌, false, List, [], ◌∷◌, ◌++◌, is_some, refl, sym, ap, ◌∙◌, subst, append-nil, arith}
use Rattle.std.specs.List.{AllByRecursion}
use Rattle.opfs_base.specs.Texts.{Text}
use Rattle.opfs_commit.specs.Images.{AreImages}
use Rattle.opfs_commit.specs.Seen.{KeptBack, committing}
use Rattle.opfs_commit.specs.Trail.{IsTrail}
use Rattle.opfs_hist.specs.Faults.{is_disk_fault, disk_faults}
use Rattle.opfs_hist.specs.declared.entry.Entry.{Entry}
use Rattle.opfs_hist.specs.declared.reply.Reply.{Reply}
use Rattle.opfs_hist.specs.declared.reply.Reply.TheVariants as reply
use Rattle.opfs_laws.specs.Histories.Doubts.{doubted}
use Rattle.opfs_laws.specs.Histories.Unread.{unread, IsTold, ArePendingFor}
use Rattle.opfs_laws.proofs.histories.Adding.{changes-append}
use Rattle.opfs_laws.proofs.histories.Reading.{pending-told, told-more, unread-state}
use Rattle.opfs_image.specs.Superblock.{area_bytes}
use Rattle.opfs_laws.specs.GoingOn.{ArePending}
use Rattle.opfs_laws.proofs.Building.{local-none}
use Rattle.opfs_laws.proofs.Going.{not_evict, go-on}
use Rattle.opfs_laws.proofs.Local.{pending-legal}
use Rattle.opfs_laws.specs.Lengths.Outlines.{in_lengths_of}
use Rattle.opfs_machine.specs.declared.own.Own.{Own}
use Rattle.opfs_machine.specs.declared.state.State.{State}
use Rattle.opfs_machine.specs.Changes.{changes, changes_from}
use Rattle.opfs_machine.specs.Histories.{state_after, after_entry}
use Rattle.opfs_machine.specs.Openings.{begun}
use Rattle.opfs_machine.specs.Steps.{step}
use Rattle.opfs_outside.specs.Faults.{RoseBy}
use Rattle.opfs_outside.specs.declared.disk.Disk.{Ghosts as DiskWords}
use Rattle.opfs_records.specs.Replay.Built.{Built}
use Rattle.opfs_books.specs.Laws.Books.{IsToldAt, AreFew, HasRoom, account_of, is_eviction}
use Rattle.opfs_books.specs.Laws.Commits.{StateLaws}
use Rattle.opfs_books.specs.Laws.Laws.{PendingKeepsTheBooks, BooksKeepTheState, FaultsAreCounted}
use Rattle.opfs_books.proofs.laws.Committing.{kept-state}
use Rattle.opfs_books.proofs.laws.Counting.{count-append, count-cons, one_false, rose-once-more}
use Rattle.opfs_books.proofs.laws.Entering.{doubted-more}
use Rattle.opfs_books.proofs.laws.Few.{few-calls, short-history}
use Rattle.opfs_books.proofs.laws.Fronts.{still-recent}
use Rattle.opfs_books.proofs.laws.Told.{told-whole, whole-told, told-state}

fault-unread : (r : Reply) → is_disk_fault (unread r) ≡ is_disk_fault r
fault-unread (reply.Read bytes) = refl
fault-unread r = refl

module _ (states : StateLaws) (tells : Type 0) (k : ℕ) where
  pending-no-faults : (s : State Text Own) (es : List Entry) → ArePendingFor tells s k es → disk_faults es ≡ 0
  pending-no-faults s [] h = refl
  pending-no-faults s (e ∷ es) h =
      let here : is_disk_fault e.reply ≡ false = sym (fault-unread e.reply) ∙ ap is_disk_fault h.0.alike ∙ fault-unread (step s e.agent e.op).answered ∙ states.faults.call s e.agent e.op in
      omega (arith, count-cons (λ (x : Entry). is_disk_fault x.reply) e es, one_false (is_disk_fault e.reply) here, pending-no-faults (after_entry s e) es h.1)

  pub pending-faults : (s : State Text Own) (h es : List Entry) → ArePendingFor tells s k es → disk_faults (h ++ es) ≡ disk_faults h
  pending-faults s h es are = omega (arith, count-append (λ (x : Entry). is_disk_fault x.reply) h es, pending-no-faults s es are)

  pending-stores-none : (s : State Text Own) (es : List Entry) → ArePendingFor tells s k es → changes_from s es ≡ []
  pending-stores-none s [] h = refl
  pending-stores-none s (e ∷ es) h = (λ i. local-none s e h.0.local i ++ pending-stores-none (after_entry s e) es h.1 i)

  pending-plain : (s : State Text Own) (es : List Entry) → ArePendingFor tells s k es → AllByRecursion (λ (e : Entry). (is_eviction e ≡ false) × (e.agent ≡ k)) es
  pending-plain s [] h = tt
  pending-plain s (e ∷ es) h = ((ap is_some (not_evict s e.agent e.op h.0.fitting), h.0.agent), pending-plain (after_entry s e) es h.1)

pub pending-keeps : (states : StateLaws) {D : Type 0} (w : DiskWords D) → PendingKeepsTheBooks w
pending-keeps states w f recorded b new j k es are pending entries machine rows back place first last room =
    let o = f.opening in
    let h = b.entries in
    let t = told-whole w.tells o h (state_after o h) are.told in
    let p = pending-told w.tells (state_after o h) k es pending in
    let told : IsTold w.tells o (h ++ es) =
    told-more w.tells o h es p.real t (go-on o t.real p.real t.legal (pending-legal (state_after o t.real) k p.real (subst (λ s. ArePending s k p.real) (unread-state o h t.real t.alike) p.pending))).0 p.alike p.told in
    let stored : changes o new.entries ≡ changes o h =
    ap (changes o) entries ∙ changes-append (begun o) h es ∙ ap (λ cs. changes o h ++ cs) (pending-stores-none states w.tells k (state_after o h) es pending) ∙ append-nil (changes o h) in
    let doubt_same : doubted o new.entries new.place ≡ doubted o h b.place = (λ i. doubted o (entries i) (place i)) ∙ doubted-more o h es b.place are.recent.inside in
    let account : account_of f recorded new ≡ account_of f recorded b =
    λ i. record { opening = f.opening; geometry = f.geometry; told = stored i; doubted = doubt_same i; recorded = recorded; rows = rows i } in
    let faults : disk_faults new.entries ≡ disk_faults h = ap disk_faults entries ∙ pending-faults states w.tells k (state_after o h) h es pending in
    record {
      whole = are.whole;
      limits = are.limits;
      told = subst (λ es. IsToldAt w.tells o es (state_after o es) []) (sym entries) (whole-told w.tells o (h ++ es) told);
      machine = machine ∙ ap (λ es. in_lengths_of (state_after o es)) (sym entries);
      few = subst (λ x. AreFew x new.rows) (sym entries) (subst (λ x. AreFew (h ++ es) x) (sym rows) (few-calls h es k b.rows (pending-plain states w.tells k (state_after o h) es pending) are.few first last room));
      images = λ t. subst (λ a. AreImages w a (committing j new.back)) (sym account) (subst (λ k. AreImages w (account_of f recorded b) (committing j k)) (sym back) (are.images t));
      trail = λ t steady. subst (λ cs. IsTrail w o cs f.begun j.disk) (sym stored) (are.trail t steady);
      recent = still-recent o h es new.entries b.place new.place are.recent entries place stored;
      counted = record {
        faults = subst (λ n. RoseBy n (w.faults f.begun) (w.faults j.disk)) (sym faults) are.counted.faults;
        fewer = are.counted.fewer;
        raised = are.counted.raised;
      };
      areas = are.areas;
      spare = subst (λ (x : KeptBack). x.room ≤ j.spare) (sym back) are.spare;
      room = subst (λ (x : KeptBack). area_bytes f.geometry ≤ x.room) (sym back) are.room;
      stored = subst (λ (x : Built). HasRoom f.geometry x) (sym rows) are.stored;
      most = subst (λ (x : KeptBack). x.count < 64) (sym back) are.most;
    }

pub state-kept : (states : StateLaws) {D : Type 0} (w : DiskWords D) → BooksKeepTheState w
state-kept states w = record {
  known = λ f recorded base gone b j are. told-state w.tells f.opening b.entries base gone are.told;
  kept = λ f recorded base b j are. (kept-state states w f recorded base b j are).1;
  whole = λ f recorded base b j are. (kept-state states w f recorded base b j are).0;
  short = λ f recorded base gone b j are. short-history b.entries b.rows are.few;
}

pub faults-counted : (states : StateLaws) {D : Type 0} (w : DiskWords D) (most : (d : D) → w.faults d ≤ 2 ^ 64 - 1) → FaultsAreCounted w
faults-counted states w most = record {
  more = λ begun old new h d are rose later. rose-once-more (disk_faults h) begun (w.faults old) (w.faults new) (most new) are.faults later rose;
  pending = λ s k h es pending. pending-faults states w.tells k s h es pending;
}
