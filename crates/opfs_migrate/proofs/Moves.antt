-- What a raise makes of the images of a crash.
use Rattle.std.proofs.Common.{◌≡◌, ◌⊎◌, ℕ, ◌≤◌, List, length, inl, inr, sym, ◌∙◌, ap, subst, arith}
use Rattle.std.specs.Prelude.{Some}
use Rattle.opfs_machine.specs.Openings.{Map}
use Rattle.opfs_outside.specs.Bytes.{Same}
use Rattle.opfs_outside.specs.Moments.{Elapses, elapses-trans, each_of_both}
use Rattle.opfs_outside.specs.declared.disk.Disk.{Ghosts as DiskWords}
use Rattle.opfs_journal.specs.Clauses.{Outside, Before, After, OneOf}
use Rattle.opfs_journal.specs.Format.{records_of}
use Rattle.opfs_journal.specs.Seen.{Seen, kept, one_record}
use Rattle.opfs_journal.specs.Walking.{OnlyRead}
use Rattle.opfs_image.specs.Filling.{Stands, StandsOld}
use Rattle.opfs_image.specs.Superblock.{areas_of}
use Rattle.opfs_image.specs.declared.geometry.Geometry.{Geometry}
use Rattle.opfs_image.proofs.Layering.{layered}
use Rattle.opfs_codec.specs.declared.change.Format.TheVariants.{Old, New}
use Rattle.opfs_migrate.specs.Migrating.{IsPlanned, StandsEither, KeptSince, Moved}
use Rattle.opfs_migrate.proofs.Areas.{stands_old, stands_new, some_is}

module _ {D : Type 0} (w : DiskWords D) where
  -- a journal over an image that is planned for
  pub record IsReady (g : Geometry) (files : ℕ) (body : List ℕ) (k : Seen D) : Type 0 where
    pub areas : k.areas ≡ areas_of g
    pub planned : IsPlanned g files body (w.content k.disk)
    pub records : records_of (areas_of g) (w.content k.disk) ≡ Some (kept k)
    pub one_image : (c : List ℕ) → w.since k.disk (w.moment k.disk) c → c ≡ w.content k.disk

  -- it is of format 1
  pub format_is : (g : Geometry) (files : ℕ) (body : List ℕ) (k : Seen D) → IsReady g files body k → k.format ≡ 1
  format_is g files body k r =
      let is = layered Old New (w.content k.disk) (record { geometry = g; built = r.planned.built }) r.planned.reads in
      ap (λ s. s.format) (some_is (sym r.records ∙ is.records)) ∙ is.format

  -- room alone is added, and the record is written from these bytes
  pub ready_with : (g : Geometry) (files : ℕ) (body bytes : List ℕ) (k k' : Seen D) (spare : ℕ) → k' ≡ record k { spare = spare } → bytes ≡ body → IsReady g files body k → IsReady g files bytes k'
  ready_with g files body bytes k k' spare same bytes_are r =
      subst (λ x. IsReady g files bytes x) (sym same)
      (record { areas = r.areas; planned = subst (λ b. IsPlanned g files b (w.content k.disk)) (sym bytes_are) r.planned; records = r.records; one_image = r.one_image })

  module _ (full : (d : D) → length (w.content d) ≡ w.size d) (whole : (d : D) (t : ℕ) (c : List ℕ) → w.since d t c → length c ≡ w.size d)
      (g : Geometry) (files : ℕ) (body : List ℕ) (k : Seen D) (r : IsReady g files body k) (new : D) (len : w.size new ≡ w.size k.disk) where
    same_length : (t : ℕ) (c : List ℕ) → w.since new t c → length c ≡ length (w.content k.disk)
    same_length t c left = whole new t c left ∙ len ∙ sym (full k.disk)

    module _ (m : Map) (stands : StandsOld (w.content k.disk) m) (c : List ℕ) (same_len : length c ≡ length (w.content k.disk)) where
      after : After (records_of k.areas) (one_record 2 body) (w.content k.disk) (Outside k.areas) c → Stands c m
      after is =
          stands_new (w.content k.disk) g files body r.planned m stands c same_len
          (subst (λ a. Same (Outside a) c (w.content k.disk)) r.areas is.bytes)
          (ap (λ a. records_of a c) (sym r.areas) ∙ is.stored)

      before : Before (records_of k.areas) (kept k) (w.since k.disk (w.moment k.disk)) (Outside k.areas) c → StandsOld c m
      before is =
          stands_old (w.content k.disk) g files body r.planned m stands c same_len
          (subst (λ a. Same (Outside a) c (w.content k.disk)) r.areas (subst (λ d. Same (Outside k.areas) c d) (r.one_image is.from is.was_left) is.bytes))
          (ap (λ a. records_of a c) (sym r.areas) ∙ is.stored ∙ sym r.records)

      either : OneOf (records_of k.areas) (w.since k.disk (w.moment k.disk)) (Outside k.areas) (kept k) (one_record 2 body) (w.content k.disk) c → StandsEither m c
      either (inl is) = inl (before is)
      either (inr is) = inr (after is)

    pub kept_since : Elapses w.moment w.since k.disk new
        → ((c : List ℕ) → w.since new (w.moment k.disk) c → OneOf (records_of k.areas) (w.since k.disk (w.moment k.disk)) (Outside k.areas) (kept k) (one_record 2 body) (w.content k.disk) c)
        → KeptSince w k.disk new
    kept_since time moments = record { time = time; images = λ m stands c left. inr (either m stands c (same_length (w.moment k.disk) c left) (moments c left)) }

    -- and so does the content, where the disk holds the one record
    pub content_new : Same (Outside k.areas) (w.content new) (w.content k.disk) → records_of k.areas (w.content new) ≡ Some (one_record 2 body)
        → (m : Map) → StandsOld (w.content k.disk) m → Stands (w.content new) m
    content_new outside stored m stands = after m stands (w.content new) (full new ∙ len ∙ sym (full k.disk)) (record { stored = stored; bytes = outside })

    pub all_new : ((c : List ℕ) → w.since new (w.moment new) c → After (records_of k.areas) (one_record 2 body) (w.content k.disk) (Outside k.areas) c)
        → (m : Map) → StandsOld (w.content k.disk) m → (c : List ℕ) → w.since new (w.moment new) c → Stands c m
    all_new durable m stands c left = after m stands c (same_length (w.moment new) c left) (durable c left)

module _ {D : Type 0} (w : DiskWords D)
    (falls : w.tells → (d : D) (t u : ℕ) (c : List ℕ) → t ≤ u → w.since d u c → w.since d t c) where
  -- a call that only reads
  pub only_moved : (old new : D) → OnlyRead w old new → Moved w old new
  only_moved old new only = record {
    length = only.length;
    later = only.later;
    told = λ told. record { time = (only.told told).time; images = λ m stands c left. inl ((only.told told).moments c left) };
  }

  -- and then one that writes
  pub moved_more : (old mid new : D) → OnlyRead w old mid → Moved w mid new → Moved w old new
  moved_more old mid new a b = record {
    length = b.length ∙ a.length;
    later = omega (arith, a.later, b.later);
    told = λ told.
        let first = a.told told in
        let second = b.told told in
        record {
          time = elapses-trans w.moment w.since (falls told) old mid new first.time second.time;
          images = λ m stands. each_of_both w.moment w.since (falls told) old mid new (λ c. w.since old (w.moment old) c ⊎ StandsEither m c) first.time second.time
              (λ c left. inl (first.moments c left))
              (λ c left. elim (second.images m (subst (λ d. StandsOld d m) (sym first.same) stands) c left) [
                | inl was ↦ inl (first.moments c (falls told mid (w.moment old) (w.moment mid) c first.time.later was))
                | inr is ↦ inr is
              ]);
        };
  }

  -- room is reserved, and the record is put in the place of all
  module _ (full : w.tells → (d : D) → length (w.content d) ≡ w.size d) (whole : w.tells → (d : D) (t : ℕ) (c : List ℕ) → w.since d t c → length c ≡ w.size d)
      (g : Geometry) (files : ℕ) (body bytes : List ℕ) (k k' : Seen D) (new : D) (same : k' ≡ record k { spare = k'.spare }) (bytes_are : bytes ≡ body)
      (ready : w.tells → IsReady w g files body k) (len : w.size new ≡ w.size k'.disk) where
    then_ready : w.tells → IsReady w g files bytes k'
    then_ready told = ready_with w g files body bytes k k' k'.spare same bytes_are (ready told)

    disk : k'.disk ≡ k.disk
    disk = ap (λ (x : Seen D). x.disk) same

    pub moved_by : w.faults k'.disk ≤ w.faults new → (w.tells → Elapses w.moment w.since k'.disk new)
        → (w.tells → (c : List ℕ) → w.since new (w.moment k'.disk) c → OneOf (records_of k'.areas) (w.since k'.disk (w.moment k'.disk)) (Outside k'.areas) (kept k') (one_record 2 bytes) (w.content k'.disk) c)
        → Moved w k.disk new
    moved_by later time moments = subst (λ d. Moved w d new) disk (record {
      length = len;
      later = later;
      told = λ told. kept_since w (full told) (whole told) g files bytes k' (then_ready told) new len (time told) (moments told);
    })

    pub durable_by : (w.tells → (c : List ℕ) → w.since new (w.moment new) c → After (records_of k'.areas) (one_record 2 bytes) (w.content k'.disk) (Outside k'.areas) c)
        → w.tells → (m : Map) → StandsOld (w.content k.disk) m → (c : List ℕ) → w.since new (w.moment new) c → Stands c m
    durable_by durable told m stands =
        all_new w (full told) (whole told) g files bytes k' (then_ready told) new len (durable told) m (subst (λ d. StandsOld (w.content d) m) (sym disk) stands)
