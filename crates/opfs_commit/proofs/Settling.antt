-- What a call that ends a doubt leaves of the images.
use Rattle.std.proofs.Common.{◌≡◌, ℕ, Bool, true, false, List, [], ◌++◌, length, Some, inl, inr, refl, sym, ap, subst, ◌∙◌}
use Rattle.std.proofs.lemmas.Bool.{true≢false}
use Rattle.opfs_commit.specs.Images.{Account, IsDoubt, AreImages, doubting, sure}
use Rattle.opfs_commit.specs.Keeping.{AreKeptBack}
use Rattle.opfs_commit.specs.Seen.{KeptBack, Committing}
use Rattle.opfs_commit.specs.Shown.{IsReadAs, ShowsSince}
use Rattle.opfs_commit.proofs.Holding.{same_holds, shown_more}
use Rattle.opfs_commit.proofs.Resting.{shown_kept, shown_doubt, at_rest}
use Rattle.opfs_commit.proofs.Writing.{IsFull, IsWhole, Falls, from_before, from_content, still_here, still_held, same_records}
use Rattle.opfs_journal.specs.Calls.{IsShut, MayBe}
use Rattle.opfs_journal.specs.Clauses.{Outside}
use Rattle.opfs_journal.specs.Format.{Stored, records_of}
use Rattle.opfs_journal.specs.Seen.{Seen, kept}
use Rattle.opfs_journal.specs.declared.areas.Areas.{Areas}
use Rattle.opfs_machine.specs.Changes.{Change, durable, floor}
use Rattle.opfs_outside.specs.Bytes.{Same}
use Rattle.opfs_outside.specs.declared.disk.Disk.{Ghosts as DiskWords}

-- where no gate is in doubt, nothing is
pub none_doubted : {D : Type 0} (w : DiskWords D) (a : Account) (own : List Change) (k : Committing D) → AreImages w a k → k.journal.in_doubt ≡ false → AreImages w (doubting a own) k
none_doubted w a own k images settled = record {
  acked = images.acked;
  later = images.later;
  split = images.split;
  limits = images.limits;
  areas = images.areas;
  reads = images.reads;
  kept_back = images.kept_back;
  count = images.count;
  here = images.here;
  holds = images.holds;
  one_of = images.one_of;
  doubt = λ unsure. absurd (true≢false (sym unsure ∙ settled));
}

module _ {D : Type 0} (w : DiskWords D) (full : IsFull w) (whole : IsWhole w) (falls : Falls w) (a : Account) (old new : Committing D) (images : AreImages w a old)
    (len : w.size new.journal.disk ≡ w.size old.journal.disk) (areas : new.journal.areas ≡ old.journal.areas) (same : new.back ≡ old.back) where
  abbrev j : Seen D
  j = old.journal

  kept_still : AreKeptBack a.geometry.blocks new.back.bytes new.back.long images.later a.recorded a.rows
  kept_still = subst (λ (b : KeptBack). AreKeptBack a.geometry.blocks b.bytes b.long images.later a.recorded a.rows) (sym same) images.kept_back

  count_still : length images.later ≡ new.back.count
  count_still = images.count ∙ sym (ap (λ (b : KeptBack). b.count) same)

  module _ (unsure : j.in_doubt ≡ true) (shut : IsShut w j new.journal) where
    shut_moments : ShowsSince w a.opening (floor a.told) (a.told ++ a.doubted) j.disk new.journal.disk
    shut_moments c left =
        elim (shut.written.moments c left) [
          | inl was ↦ shown_more a.opening (floor a.told) a.told a.doubted c (shown_kept w a old images c
              (from_before w full whole a j new.journal len images.areas j.doubt shut.written a.recorded (durable a.opening images.acked) images.holds (w.moment j.disk) c left was)
              (same_records w full whole a j new.journal len images.areas c (kept j) was.stored))
          | inr is ↦ let doubt = images.doubt unsure in shown_doubt w a old images doubt c
              (from_content w full whole a j new.journal len images.areas j.doubt shut.written doubt.over (durable a.opening (a.told ++ a.doubted)) doubt.here (w.moment j.disk) c left is.bytes)
              (same_records w full whole a j new.journal len images.areas c j.doubt is.stored)
        ]

    shut_done : new.journal.in_doubt ≡ false → ((c : List ℕ) → MayBe w new.journal c → records_of j.areas c ≡ Some (kept j)) → AreImages w (sure a) new
    shut_done now_sure durable_now = record {
      acked = images.acked;
      later = images.later;
      split = images.split;
      limits = images.limits;
      areas = areas ∙ images.areas;
      reads = subst (λ (s : Stored). IsReadAs a.geometry s a.recorded) (sym shut.records) images.reads;
      kept_back = kept_still;
      count = count_still;
      here = still_here w full whole a j new.journal len images.areas j.doubt shut.written a.recorded (durable a.opening images.acked) images.here;
      holds = still_held w full whole a j new.journal len images.areas j.doubt shut.written falls a.recorded (durable a.opening images.acked) images.holds images.here;
      one_of = λ c now. inl (same_records w full whole a j new.journal len images.areas c (kept j) (durable_now c now) ∙ ap (λ (s : Stored). Some s) (sym shut.records));
      doubt = λ still. absurd (true≢false (sym still ∙ now_sure));
    }

    module _ (still : new.journal.in_doubt ≡ true) (doubt_same : new.journal.doubt ≡ j.doubt) (behind : (c : List ℕ) → MayBe w new.journal c → Same (Outside j.areas) c (w.content new.journal.disk)) where
      doubt_still : IsDoubt w a new.journal
      doubt_still =
          let doubt = images.doubt unsure in
          let here = still_here w full whole a j new.journal len images.areas j.doubt shut.written doubt.over (durable a.opening (a.told ++ a.doubted)) doubt.here in
          record {
            over = doubt.over;
            reads = subst (λ (s : Stored). IsReadAs a.geometry s doubt.over) (sym doubt_same) doubt.reads;
            here = here;
            holds = λ c now. same_holds a.geometry doubt.over (durable a.opening (a.told ++ a.doubted)) c (w.content new.journal.disk)
                (whole new.journal.disk (w.moment new.journal.disk) c now ∙ sym (full new.journal.disk)) here
                (subst (λ (x : Areas). Same (Outside x) c (w.content new.journal.disk)) images.areas (behind c now));
          }

      -- The disk failed in ending the doubt.
      pub shut_stopped : AreImages w a new
      shut_stopped = record {
        acked = images.acked;
        later = images.later;
        split = images.split;
        limits = images.limits;
        areas = areas ∙ images.areas;
        reads = subst (λ (s : Stored). IsReadAs a.geometry s a.recorded) (sym shut.records) images.reads;
        kept_back = kept_still;
        count = count_still;
        here = still_here w full whole a j new.journal len images.areas j.doubt shut.written a.recorded (durable a.opening images.acked) images.here;
        holds = still_held w full whole a j new.journal len images.areas j.doubt shut.written falls a.recorded (durable a.opening images.acked) images.holds images.here;
        one_of = λ c now. elim (shut.written.moments c (falls new.journal.disk (w.moment j.disk) (w.moment new.journal.disk) c shut.written.time.later now)) [
          | inl was ↦ inl (same_records w full whole a j new.journal len images.areas c (kept j) was.stored ∙ ap (λ (s : Stored). Some s) (sym shut.records))
          | inr is ↦ inr (still, same_records w full whole a j new.journal len images.areas c j.doubt is.stored ∙ ap (λ (s : Stored). Some s) (sym doubt_same))
        ];
        doubt = λ _. doubt_still;
      }

  -- Where no gate was in doubt, nothing changed.
  whole_same : new.journal ≡ j → new ≡ old
  whole_same is = λ i. record { journal = is i; back = same i }

  settled_by : (t : Bool) → j.in_doubt ≡ t → (j.in_doubt ≡ false → new.journal ≡ j) → (j.in_doubt ≡ true → IsShut w j new.journal) → new.journal.in_doubt ≡ false
      → ((c : List ℕ) → MayBe w new.journal c → records_of j.areas c ≡ Some (kept j)) → AreImages w (sure a) new
  settled_by false is none shut now_sure durable_now = subst (λ (k : Committing D). AreImages w (sure a) k) (sym (whole_same (none is))) (none_doubted w a [] old images is)
  settled_by true is none shut now_sure durable_now = shut_done is (shut is) now_sure durable_now

  -- At its end nothing is in doubt.
  pub settle_done : (j.in_doubt ≡ false → new.journal ≡ j) → (j.in_doubt ≡ true → IsShut w j new.journal) → new.journal.in_doubt ≡ false
      → ((c : List ℕ) → MayBe w new.journal c → records_of j.areas c ≡ Some (kept j)) → AreImages w (sure a) new
  settle_done = settled_by j.in_doubt refl

  moments_by : (t : Bool) → j.in_doubt ≡ t → (j.in_doubt ≡ false → new.journal ≡ j) → (j.in_doubt ≡ true → IsShut w j new.journal) → ShowsSince w a.opening (floor a.told) (a.told ++ a.doubted) j.disk new.journal.disk
  moments_by false is none shut = subst (λ (x : Seen D). ShowsSince w a.opening (floor a.told) (a.told ++ a.doubted) j.disk x.disk) (sym (none is)) (at_rest w a old images)
  moments_by true is none shut = shut_moments is (shut is)

  -- At each moment of it an image shows a front of what was told, with what was in doubt.
  pub settle_moments : (j.in_doubt ≡ false → new.journal ≡ j) → (j.in_doubt ≡ true → IsShut w j new.journal) → ShowsSince w a.opening (floor a.told) (a.told ++ a.doubted) j.disk new.journal.disk
  settle_moments = moments_by j.in_doubt refl
