-- The books after a commit, after one that failed, and after a change that is kept back.
use Rattle.std.proofs.Common.{◌≡◌, inr, ◌+◌, ◌-◌, ◌^◌, ◌≤◌, true, false, List, [], ◌∷◌, ◌++◌, fold, refl, sym, ap, ◌∙◌, subst, append-nil, arith}
use Rattle.std.proofs.lemmas.Bool.{false≢true}
use Rattle.opfs_base.specs.Texts.{Text}
use Rattle.opfs_codec.specs.declared.change.Change.TheVariants.{Evict}
use Rattle.opfs_codec.specs.declared.change.Format.TheVariants.{New}
use Rattle.opfs_commit.specs.Images.{AreImages, committed, doubting, keeping}
use Rattle.opfs_commit.specs.Making.{IsKept, told_as, new_bytes}
use Rattle.opfs_commit.specs.Seen.{KeptBack, committing}
use Rattle.opfs_commit.specs.Trail.{IsTrail}
use Rattle.opfs_hist.specs.Faults.{is_disk_fault, disk_faults}
use Rattle.opfs_hist.specs.declared.entry.Entry.{Entry}
use Rattle.opfs_hist.specs.declared.reply.Reply.{Reply}
use Rattle.opfs_hist.specs.declared.reply.Reply.TheVariants as reply
use Rattle.opfs_laws.specs.Histories.Doubts.{doubted}
use Rattle.opfs_laws.specs.Histories.Opened.{IsOpenAt}
use Rattle.opfs_laws.proofs.histories.Doubting.{doubt-next}
use Rattle.opfs_laws.proofs.histories.Opening.{open-whole}
use Rattle.opfs_laws.proofs.histories.Reading.{unread-state}
use Rattle.opfs_image.specs.Superblock.{area_bytes, data_base}
use Rattle.opfs_journal.specs.Seen.{Seen}
use Rattle.opfs_laws.specs.Whole.{IsWhole}
use Rattle.opfs_laws.specs.Lengths.Kept.{Kept}
use Rattle.opfs_laws.specs.Lengths.Outlines.{in_lengths_of}
use Rattle.opfs_machine.specs.declared.own.Own.{Own}
use Rattle.opfs_machine.specs.declared.state.State.{State}
use Rattle.opfs_machine.specs.Changes.{Change, stored_by, entry_changes, changes, evict}
use Rattle.opfs_machine.specs.Histories.{Legal, state_after}
use Rattle.opfs_machine.specs.Openings.{Opening, begun}
use Rattle.opfs_machine.specs.Runs.{eviction}
use Rattle.opfs_machine.specs.Steps.{evicted, is_refusal}
use Rattle.opfs_outside.specs.declared.disk.Disk.{Ghosts as DiskWords}
use Rattle.opfs_records.specs.Replay.Built.{Built}
use Rattle.opfs_records.specs.Replay.Sums.{charge_of}
use Rattle.opfs_books.specs.Laws.Books.{Fixed, Book, IsToldAt, IsNext, AreCounted, AreFew, HasRoom, account_of, AreBooksAt, roots}
use Rattle.opfs_books.specs.Laws.Commits.{CommitLaws, StateLaws}
use Rattle.opfs_books.specs.Laws.Laws.{told, IsEntered, IsCovered, CommittedCallsKeepTheBooks, CommittedEvictionsKeepTheBooks, FailedCommitsKeepTheBooks, KeepingBackKeepsTheBooks}
use Rattle.opfs_books.proofs.laws.Counting.{rose-before, rose-once-more, counted-later, counted-entry}
use Rattle.opfs_books.proofs.laws.Entering.{told-new, machine-new, changes-new, few-new, counted-new}
use Rattle.opfs_books.proofs.laws.Few.{few-eviction}
use Rattle.opfs_books.proofs.laws.Fronts.{none-recent, last-recent}
use Rattle.opfs_books.proofs.laws.Sound.{next_good, next_roots, evicted_roots, evicted_charge}
use Rattle.opfs_books.proofs.laws.Storing.{done-images, done-trail, done-later, done-back, done-sure, done-stays, failed-images, failed-later, failed-stays, failed-back, next-room}
use Rattle.opfs_books.proofs.laws.Told.{told-evicted, told-state, changes-more}

-- A disk fault is a refusal.
pub fault-refuses : (r : Reply) → is_disk_fault r ≡ true → is_refusal r ≡ true
fault-refuses (reply.No x) h = refl
fault-refuses r h = absurd (false≢true h)

-- The state of a whole history is kept.
pub whole-state : (tells : Type 0) (o : Opening) (h : List Entry) (base : State Text Own) → IsToldAt tells o h base [] → (r : List Entry) × Legal o r × (state_after o r ≡ base)
whole-state tells o h base t = (t.real, open-whole (begun o) [] t.real base [] refl t.opened, sym (unread-state o h t.real t.alike) ∙ told-state tells o h base [] t)

module _ (states : StateLaws) {D : Type 0} (w : DiskWords D) where
  pub kept-state : (f : Fixed D) (recorded : Built) (base : State Text Own) (b : Book) (j : Seen D) → AreBooksAt w f recorded base [] b j → IsWhole base × Kept b.machine
  kept-state f recorded base b j are =
      let there = whole-state w.tells f.opening b.entries base are.told in
      let whole = subst IsWhole there.2 (states.reached f.opening there.0 are.whole there.1) in
      (whole, subst Kept (sym are.machine) (states.lengths.whole base whole))

  module _ (f : Fixed D) (recorded : Built) (base : State Text Own) (gone : List Text) (b new : Book) (old : Seen D) (e : Entry) (are : AreBooksAt w f recorded base gone b old) (next : IsNext w.tells base gone e) (entered : IsEntered base gone e b new) where
    -- The new rows have room, since the machine's charge covers theirs.
    pub covered-fits : IsCovered new → charge_of New new.rows + 7 ≤ area_bytes f.geometry
    covered-fits covered =
        let o = f.opening in
        let t = told-new w f recorded base gone b new old e are next entered in
        let there = whole-state w.tells o new.entries (state_after o new.entries) t in
        let whole = subst IsWhole there.2 (states.reached o there.0 are.whole there.1) in
        let machine : new.machine ≡ in_lengths_of (state_after o new.entries) = machine-new w f recorded base gone b new old e are next entered in
        let kept = subst Kept (sym machine) (states.lengths.whole (state_after o new.entries) whole) in
        let same : (state_after o new.entries).limits ≡ o.limits = ap (λ (s : State Text Own). s.limits) (sym there.2) ∙ states.counts.limits o there.0 there.1 in
        let limits : new.machine.limits.area ≡ area_bytes f.geometry = ap (λ m. m.limits.area) machine ∙ ap (λ l. l.area) (same ∙ are.limits) in
        omega (arith, kept.area, covered, limits)

  module _ (laws : w.tells → CommitLaws w) (most : (d : D) → w.faults d ≤ 2 ^ 64 - 1) where
    pub committed-call : CommittedCallsKeepTheBooks w
    committed-call f recorded base gone b new old j e spelled bytes are settled next entered made covered stores same any place plain =
        let o = f.opening in
        let fits = covered-fits f recorded base gone b new old e are next entered covered in
        let change = told_as bytes spelled in
        let grown : changes o new.entries ≡ told f b ++ change ∷ [] = changes-new w f recorded base gone b new old e are next entered ∙ ap (λ cs. told f b ++ cs) stores in
        let account : committed (account_of f recorded b) (change ∷ []) new.rows ≡ account_of f new.rows new =
        λ i. record { opening = f.opening; geometry = f.geometry; told = sym grown i; doubted = doubted o new.entries (sym place i); recorded = new.rows; rows = new.rows } in
        let stays = done-stays w laws most f recorded base gone b old are settled spelled new.rows change made fits same j new.back any in
        let back = done-back w laws most f recorded base gone b old are settled spelled new.rows change made fits same j new.back any in
        let sure = done-sure w laws most f recorded base gone b old are settled spelled new.rows change made fits same j new.back any in
        record {
          whole = are.whole;
          limits = are.limits;
          told = told-new w f recorded base gone b new old e are next entered;
          machine = machine-new w f recorded base gone b new old e are next entered;
          few = few-new w f recorded base gone b new old e are next entered (next_roots f.geometry.blocks b.rows new.rows spelled made.found);
          images = λ t. subst (λ a. AreImages w a (committing j new.back)) account (done-images w laws most f recorded base gone b old are settled spelled new.rows change made fits same j new.back any t);
          trail = λ t steady. subst (λ cs. IsTrail w o cs f.begun j.disk) (sym grown) (done-trail w laws most f recorded base gone b old are settled spelled new.rows change made fits same j new.back any t steady);
          recent = none-recent o new.entries new.place place;
          counted = counted-new w f recorded base gone b new old e are next entered j
              (counted-later (w.faults f.begun) (w.faults old.disk) (w.faults j.disk) b.entries old.in_doubt j.in_doubt (most j.disk) are.counted
              (done-later w laws most f recorded base gone b old are settled spelled new.rows change made fits same j new.back any) (λ d. absurd (false≢true (sym sure ∙ d))))
              (λ h. absurd (false≢true (sym plain ∙ h)));
          areas = stays.areas ∙ are.areas;
          spare = omega (arith, back.0, stays.spare, are.spare);
          room = omega (arith, back.0, are.room);
          stored = next-room w laws most f recorded base gone b old are settled spelled new.rows change made fits same;
          most = omega (arith, back.1);
        }

    pub committed-eviction : CommittedEvictionsKeepTheBooks w
    unfolding stored_by told_as new_bytes
    committed-eviction f recorded base gone b new old j unit are settled entries machine made any place =
        let o = f.opening in
        let size = f.geometry.blocks in
        let fits : charge_of New new.rows + 7 ≤ area_bytes f.geometry = omega (arith, are.stored.fits, evicted_charge size b.rows new.rows unit made.found) in
        let change = evict unit in
        let spelled = Evict unit in
        let same : w.tells → told_as (new_bytes (data_base f.geometry) (w.content old.disk) spelled) spelled ≡ change = λ t. refl in
        let grown : changes o new.entries ≡ told f b ++ change ∷ [] = ap (changes o) entries ∙ changes-more o b.entries (eviction unit) in
        let account : committed (account_of f recorded b) (change ∷ []) new.rows ≡ account_of f new.rows new =
        λ i. record { opening = f.opening; geometry = f.geometry; told = sym grown i; doubted = doubted o new.entries (sym place i); recorded = new.rows; rows = new.rows } in
        let stays = done-stays w laws most f recorded base gone b old are settled spelled new.rows change made fits same j new.back any in
        let back = done-back w laws most f recorded base gone b old are settled spelled new.rows change made fits same j new.back any in
        let sure = done-sure w laws most f recorded base gone b old are settled spelled new.rows change made fits same j new.back any in
        let counted =
        counted-later (w.faults f.begun) (w.faults old.disk) (w.faults j.disk) b.entries old.in_doubt j.in_doubt (most j.disk) are.counted
        (done-later w laws most f recorded base gone b old are settled spelled new.rows change made fits same j new.back any) (λ d. absurd (false≢true (sym sure ∙ d))) in
        record {
          whole = are.whole;
          limits = are.limits;
          told = subst (λ es. IsToldAt w.tells o es base (gone ++ unit ∷ [])) (sym entries) (told-evicted w.tells o b.entries base gone are.told unit);
          machine = machine;
          few = subst (λ es. AreFew es new.rows) (sym entries) (few-eviction b.entries unit b.rows new.rows are.few (evicted_roots size b.rows new.rows unit made.found));
          images = λ t. subst (λ a. AreImages w a (committing j new.back)) account (done-images w laws most f recorded base gone b old are settled spelled new.rows change made fits same j new.back any t);
          trail = λ t steady. subst (λ cs. IsTrail w o cs f.begun j.disk) (sym grown) (done-trail w laws most f recorded base gone b old are settled spelled new.rows change made fits same j new.back any t steady);
          recent = none-recent o new.entries new.place place;
          counted = subst (λ es. AreCounted (w.faults f.begun) (w.faults j.disk) es j.in_doubt) (sym entries) (counted-entry (w.faults f.begun) (w.faults j.disk) b.entries (eviction unit) j.in_doubt counted (λ h. absurd (false≢true h)));
          areas = stays.areas ∙ are.areas;
          spare = omega (arith, back.0, stays.spare, are.spare);
          room = omega (arith, back.0, are.room);
          stored = next-room w laws most f recorded base gone b old are settled spelled new.rows change made fits same;
          most = omega (arith, back.1);
        }

    pub failed-commit : FailedCommitsKeepTheBooks w
    failed-commit f recorded base gone b new old j e spelled next change are settled call fault entered rows place made fits same faulted_is none rose =
        let o = f.opening in
        let its : IsNext w.tells base gone e = record { real = e; call = call; alike = refl; told = λ t. refl } in
        let refused : entry_changes (fold evicted base gone) e ≡ [] = ap (λ t. elim t as (λ y. List Change) [ true ↦ [] | false ↦ stored_by (fold evicted base gone) e.agent e.op ]) (fault-refuses e.reply fault) in
        let grown : changes o new.entries ≡ told f b = changes-new w f recorded base gone b new old e are its entered ∙ ap (λ cs. told f b ++ cs) refused ∙ append-nil (told f b) in
        let doubted_is : w.tells → doubted o new.entries new.place ≡ change ∷ [] = λ t.
        (λ i. doubted o (entered.entries i) (place i))
        ∙ doubt-next (begun o) [] b.entries base gone e (subst (λ es. IsOpenAt o es base gone) (sym (are.told.told t)) are.told.opened) call
        ∙ faulted_is in
        let account : (t : w.tells) → doubting (account_of f recorded b) (change ∷ []) ≡ account_of f recorded new =
        λ t i. record { opening = f.opening; geometry = f.geometry; told = sym grown i; doubted = sym (doubted_is t) i; recorded = recorded; rows = sym rows i } in
        let stays = failed-stays w laws most f recorded base gone b old are settled spelled next change made fits same j new.back none in
        let back = failed-back w laws most f recorded base gone b old are settled spelled next change made fits same j new.back none in
        let later = failed-later w laws most f recorded base gone b old are settled spelled next change made fits same j new.back none in
        let counted = counted-later (w.faults f.begun) (w.faults old.disk) (w.faults j.disk) b.entries old.in_doubt j.in_doubt (most j.disk) are.counted later (λ d. inr rose) in
        record {
          whole = are.whole;
          limits = are.limits;
          told = told-new w f recorded base gone b new old e are its entered;
          machine = machine-new w f recorded base gone b new old e are its entered;
          few = few-new w f recorded base gone b new old e are its entered (omega (arith, ap roots rows));
          images = λ t. subst (λ a. AreImages w a (committing j new.back)) (account t) (failed-images w laws most f recorded base gone b old are settled spelled next change made fits same j new.back none t);
          trail = λ t steady. absurd (steady (rose-before (w.faults f.begun) (w.faults old.disk) (w.faults j.disk) are.counted.fewer rose));
          recent = last-recent o b.entries new.entries e new.place entered.entries place;
          counted = counted-new w f recorded base gone b new old e are its entered j counted
              (λ h. rose-once-more (disk_faults b.entries) (w.faults f.begun) (w.faults old.disk) (w.faults j.disk) (most j.disk) are.counted.faults later rose);
          areas = stays.areas ∙ are.areas;
          spare = omega (arith, ap (λ (k : KeptBack). k.room) back, stays.spare, are.spare);
          room = omega (arith, ap (λ (k : KeptBack). k.room) back, are.room);
          stored = subst (λ (x : Built). HasRoom f.geometry x) (sym rows) are.stored;
          most = omega (arith, ap (λ (k : KeptBack). k.count) back, are.most);
        }

    pub kept-back : KeepingBackKeepsTheBooks w
    kept-back f recorded base gone b new j e spelled are settled its entered made quiet covered stores plain back count place =
        let o = f.opening in
        let change = told_as [] spelled in
        let fits = covered-fits f recorded base gone b new j e are its entered covered in
        let grown : changes o new.entries ≡ told f b ++ change ∷ [] = changes-new w f recorded base gone b new j e are its entered ∙ ap (λ cs. told f b ++ cs) stores in
        let is_kept : (t : w.tells) → IsKept (doubting (account_of f recorded b) []) spelled change new.rows = λ t. (laws t).quiet (doubting (account_of f recorded b) []) spelled new.rows made.order quiet made.again made.found in
        let account : keeping (doubting (account_of f recorded b) []) change new.rows ≡ account_of f recorded new =
        λ i. record { opening = f.opening; geometry = f.geometry; told = sym grown i; doubted = doubted o new.entries (sym place i); recorded = recorded; rows = new.rows } in
        let good = next_good f.geometry.blocks b.rows new.rows spelled are.stored.sound are.stored.writable made.order made.again made.found in
        record {
          whole = are.whole;
          limits = are.limits;
          told = told-new w f recorded base gone b new j e are its entered;
          machine = machine-new w f recorded base gone b new j e are its entered;
          few = few-new w f recorded base gone b new j e are its entered (next_roots f.geometry.blocks b.rows new.rows spelled made.found);
          images = λ t.
              let sure = (laws t).gate (account_of f recorded b) [] (committing j b.back) (are.images t) settled in
              let more = (laws t).kept (doubting (account_of f recorded b) []) (committing j b.back) spelled change new.rows sure settled (is_kept t) in
              subst (λ a. AreImages w a (committing j new.back)) account (subst (λ k. AreImages w (keeping (doubting (account_of f recorded b) []) change new.rows) (committing j k)) (sym back) more);
          trail = λ t steady. subst (λ cs. IsTrail w o cs f.begun j.disk) (sym grown) ((laws t).trail_kept o (told f b) change f.begun j.disk (are.trail t steady) (is_kept t).quiet);
          recent = none-recent o new.entries new.place place;
          counted = counted-new w f recorded base gone b new j e are its entered j are.counted (λ h. absurd (false≢true (sym plain ∙ h)));
          areas = are.areas;
          spare = omega (arith, ap (λ (k : KeptBack). k.room) back, are.spare);
          room = omega (arith, ap (λ (k : KeptBack). k.room) back, are.room);
          stored = record { sound = good.0; writable = good.1; fits = fits };
          most = omega (arith, ap (λ (k : KeptBack). k.count) back, count);
        }
