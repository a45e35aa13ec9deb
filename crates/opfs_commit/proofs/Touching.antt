-- What calls that only read the disk, or write pages beside what the records name, leave of the images.
use Rattle.std.proofs.Common.{◌≡◌, ◌⊎◌, ℕ, true, false, List, ◌++◌, Some, inl, inr, sym, ap, subst, ◌∙◌}
use Rattle.std.proofs.lemmas.Bool.{true≢false}
use Rattle.opfs_base.specs.declared.extents.Extent.{Extent}
use Rattle.opfs_commit.specs.Images.{Account, IsDoubt, AreImages}
use Rattle.opfs_commit.specs.Keeping.{AreKeptBack}
use Rattle.opfs_commit.specs.Seen.{KeptBack, Committing}
use Rattle.opfs_commit.specs.Shown.{IsReadAs, Holds, ShowsSince}
use Rattle.opfs_commit.proofs.Holding.{same_beside, same_aside}
use Rattle.opfs_commit.proofs.Resting.{shown_kept, at_rest}
use Rattle.opfs_commit.proofs.Writing.{IsFull, IsWhole, Falls}
use Rattle.opfs_data.specs.Calls.{OutsideRuns}
use Rattle.opfs_data.specs.Places.{Aside}
use Rattle.opfs_image.specs.Filling.{Names}
use Rattle.opfs_image.specs.Superblock.{areas_of, data_base}
use Rattle.opfs_journal.specs.Calls.{MayBe}
use Rattle.opfs_journal.specs.Clauses.{Before}
use Rattle.opfs_journal.specs.Format.{Stored, records_of}
use Rattle.opfs_journal.specs.Seen.{Seen, kept}
use Rattle.opfs_journal.specs.declared.areas.Areas.{Areas}
use Rattle.opfs_machine.specs.Changes.{durable, floor}
use Rattle.opfs_outside.specs.Bytes.{Same}
use Rattle.opfs_outside.specs.Moments.{Elapses}
use Rattle.opfs_outside.specs.declared.disk.Disk.{Ghosts as DiskWords}

module _ {D : Type 0} (w : DiskWords D) (falls : Falls w) (a : Account) (old new : Committing D) (images : AreImages w a old)
    (areas : new.journal.areas ≡ old.journal.areas) (records : kept new.journal ≡ kept old.journal) (same : new.back ≡ old.back) (time : Elapses w.moment w.since old.journal.disk new.journal.disk) where
  abbrev j : Seen D
  j = old.journal

  kept_still : AreKeptBack a.geometry.blocks new.back.bytes new.back.long images.later a.recorded a.rows
  kept_still = subst (λ (b : KeptBack). AreKeptBack a.geometry.blocks b.bytes b.long images.later a.recorded a.rows) (sym same) images.kept_back

  reads_still : IsReadAs a.geometry (kept new.journal) a.recorded
  reads_still = subst (λ (s : Stored). IsReadAs a.geometry s a.recorded) (sym records) images.reads

  module _ (in_doubt : new.journal.in_doubt ≡ j.in_doubt) (doubt : new.journal.doubt ≡ j.doubt) (content : w.content new.journal.disk ≡ w.content j.disk)
      (moments : (c : List ℕ) → w.since new.journal.disk (w.moment j.disk) c → MayBe w j c) where
    was : (c : List ℕ) → MayBe w new.journal c → MayBe w j c
    was c now = moments c (falls new.journal.disk (w.moment j.disk) (w.moment new.journal.disk) c time.later now)

    read_doubt : new.journal.in_doubt ≡ true → IsDoubt w a new.journal
    read_doubt unsure =
        let d = images.doubt (sym in_doubt ∙ unsure) in
        record {
          over = d.over;
          reads = subst (λ (s : Stored). IsReadAs a.geometry s d.over) (sym doubt) d.reads;
          here = subst (Holds a.geometry d.over (durable a.opening (a.told ++ a.doubted))) (sym content) d.here;
          holds = λ c now. d.holds c (was c now);
        }

    read_one_of : (c : List ℕ) → MayBe w new.journal c
        → (records_of (areas_of a.geometry) c ≡ Some (kept new.journal)) ⊎ ((new.journal.in_doubt ≡ true) × (records_of (areas_of a.geometry) c ≡ Some new.journal.doubt))
    read_one_of c now = elim (images.one_of c (was c now)) [
      | inl is ↦ inl (is ∙ ap (λ (s : Stored). Some s) (sym records))
      | inr both ↦ inr (in_doubt ∙ both.0, both.1 ∙ ap (λ (s : Stored). Some s) (sym doubt))
    ]

    -- A call that only reads leaves them as they are.
    pub read_images : AreImages w a new
    read_images = record {
      acked = images.acked;
      later = images.later;
      split = images.split;
      limits = images.limits;
      areas = areas ∙ images.areas;
      reads = reads_still;
      kept_back = kept_still;
      count = images.count ∙ sym (ap (λ (b : KeptBack). b.count) same);
      here = subst (Holds a.geometry a.recorded (durable a.opening images.acked)) (sym content) images.here;
      holds = λ c now. images.holds c (was c now);
      one_of = read_one_of;
      doubt = read_doubt;
    }

    pub read_moments : ShowsSince w a.opening (floor a.told) (a.told ++ a.doubted) j.disk new.journal.disk
    read_moments c left = at_rest w a old images c (moments c left)

  module _ (full : IsFull w) (whole : IsWhole w) (len : w.size new.journal.disk ≡ w.size j.disk) (sure : new.journal.in_doubt ≡ false) (extents : List Extent)
      (aside : (i : ℕ) → Names (data_base a.geometry) a.recorded i → Aside (data_base a.geometry) extents i)
      (elsewhere : Same (Aside (data_base a.geometry) extents) (w.content new.journal.disk) (w.content j.disk))
      (moments : (c : List ℕ) → w.since new.journal.disk (w.moment j.disk) c → Before (records_of j.areas) (kept j) (MayBe w j) (OutsideRuns j.areas (data_base a.geometry) extents) c) where
    put_holds : (t : ℕ) (c : List ℕ) → w.since new.journal.disk t c → Before (records_of j.areas) (kept j) (MayBe w j) (OutsideRuns j.areas (data_base a.geometry) extents) c → Holds a.geometry a.recorded (durable a.opening images.acked) c
    put_holds t c left is =
        same_beside a.geometry a.recorded (durable a.opening images.acked) c is.from (whole new.journal.disk t c left ∙ len ∙ sym (whole j.disk (w.moment j.disk) is.from is.was_left)) (images.holds is.from is.was_left) extents aside
        (subst (λ (x : Areas). Same (OutsideRuns x (data_base a.geometry) extents) c is.from) images.areas is.bytes)

    put_records : (c : List ℕ) → Before (records_of j.areas) (kept j) (MayBe w j) (OutsideRuns j.areas (data_base a.geometry) extents) c → records_of (areas_of a.geometry) c ≡ Some (kept j)
    put_records c is = ap (λ x. records_of x c) (sym images.areas) ∙ is.stored

    -- Pages that are written aside of what the records name leave them as they are.
    pub put_images : AreImages w a new
    put_images = record {
      acked = images.acked;
      later = images.later;
      split = images.split;
      limits = images.limits;
      areas = areas ∙ images.areas;
      reads = reads_still;
      kept_back = kept_still;
      count = images.count ∙ sym (ap (λ (b : KeptBack). b.count) same);
      here = same_aside a.geometry a.recorded (durable a.opening images.acked) (w.content new.journal.disk) (w.content j.disk) (full new.journal.disk ∙ len ∙ sym (full j.disk)) images.here extents aside elsewhere;
      holds = λ c now. put_holds (w.moment new.journal.disk) c now (moments c (falls new.journal.disk (w.moment j.disk) (w.moment new.journal.disk) c time.later now));
      one_of = λ c now. inl (put_records c (moments c (falls new.journal.disk (w.moment j.disk) (w.moment new.journal.disk) c time.later now)) ∙ ap (λ (s : Stored). Some s) (sym records));
      doubt = λ unsure. absurd (true≢false (sym unsure ∙ sure));
    }

    pub put_moments : ShowsSince w a.opening (floor a.told) a.told j.disk new.journal.disk
    put_moments c left = let is = moments c left in shown_kept w a old images c (put_holds (w.moment j.disk) c left is) (put_records c is)
