-- Calls one after another, as the journal sees them.
use Rattle.std.proofs.Common.{◌≡◌, ℕ, ◌≤◌, List, Some, refl, sym, ap, subst, ◌∙◌, inl, arith}
use Rattle.opfs_base.specs.declared.extents.Extent.{Extent}
use Rattle.opfs_outside.specs.Bytes.{Same, Beside}
use Rattle.opfs_outside.specs.Moments.{Elapses, elapses-trans, each_of_both}
use Rattle.opfs_outside.specs.declared.disk.Disk.{Ghosts as DiskWords}
use Rattle.opfs_journal.specs.Clauses.{OutsideBut, Before}
use Rattle.opfs_journal.specs.Format.{records_of}
use Rattle.opfs_journal.specs.Seen.{Seen, Stays, kept}
use Rattle.opfs_journal.specs.declared.areas.Areas.{Areas}
use Rattle.opfs_data.specs.Calls.{OutsideRuns, Reads, Writes}
use Rattle.opfs_data.specs.Places.{Aside}

pub kept_same : {D : Type 0} (old new : Seen D) → new.format ≡ old.format → new.records ≡ old.records → kept new ≡ kept old
kept_same old new e f = cc

module _ {D : Type 0} (w : DiskWords D)
    (falls : w.tells → (d : D) (t u : ℕ) (c : List ℕ) → t ≤ u → w.since d u c → w.since d t c) where
  pub stays_more : (old mid new : Seen D) → Stays w.size old mid → Stays w.size mid new → Stays w.size old new
  stays_more old mid new a b = record { areas = b.areas ∙ a.areas; length = b.length ∙ a.length; spare = b.spare ∙ a.spare }

  pub reads_nothing : (j : Seen D) → Reads w j j
  reads_nothing j = record {
    stays = record { areas = refl; length = refl; spare = refl };
    tail = refl;
    format = refl;
    in_doubt = refl;
    later = omega arith;
    told = λ told. record { records = refl; doubt = refl; same = refl; time = record { later = omega arith; split = λ t c le is. inl is; keeps = λ t c le is. is }; moments = λ c is. is };
  }

  pub reads_more : (old mid new : Seen D) → Reads w old mid → Reads w mid new → Reads w old new
  reads_more old mid new a b = record {
    stays = stays_more old mid new a.stays b.stays;
    tail = b.tail ∙ a.tail;
    format = b.format ∙ a.format;
    in_doubt = b.in_doubt ∙ a.in_doubt;
    later = omega (arith, a.later, b.later);
    told = λ told. record {
      records = (b.told told).records ∙ (a.told told).records;
      doubt = (b.told told).doubt ∙ (a.told told).doubt;
      same = (b.told told).same ∙ (a.told told).same;
      time = elapses-trans w.moment w.since (falls told) old.disk mid.disk new.disk (a.told told).time (b.told told).time;
      moments = each_of_both w.moment w.since (falls told) old.disk mid.disk new.disk (λ c. w.since old.disk (w.moment old.disk) c) (a.told told).time (b.told told).time (a.told told).moments
          (λ c is. (a.told told).moments c (falls told mid.disk (w.moment old.disk) (w.moment mid.disk) c (a.told told).time.later ((b.told told).moments c is)));
    };
  }

  -- a journal without doubt whose images all have its records
  pub writes_nothing : (base : ℕ) (extents : List Extent) (j : Seen D) → (w.tells → (c : List ℕ) → w.since j.disk (w.moment j.disk) c → records_of j.areas c ≡ Some (kept j))
      → Writes w base extents j j
  writes_nothing base extents j durable = record {
    stays = record { areas = refl; length = refl; spare = refl };
    tail = refl;
    format = refl;
    in_doubt = refl;
    later = omega arith;
    told = λ told. record {
      records = refl;
      elsewhere = λ i w. refl;
      time = record { later = omega arith; split = λ t c le is. inl is; keeps = λ t c le is. is };
      moments = λ c is. record { stored = durable told c is; from = c; was_left = is; bytes = λ i w. refl };
    };
  }

  -- an image of the second call has the records, and the bytes of an image of the first
  before_more : (base : ℕ) (extents : List Extent) (old mid : Seen D) (now : List ℕ → Type 0) (c : List ℕ) → mid.areas ≡ old.areas → kept mid ≡ kept old
      → ((d : List ℕ) → now d → Before (records_of old.areas) (kept old) (w.since old.disk (w.moment old.disk)) (OutsideRuns old.areas base extents) d)
      → Before (records_of mid.areas) (kept mid) now (OutsideRuns mid.areas base extents) c
      → Before (records_of old.areas) (kept old) (w.since old.disk (w.moment old.disk)) (OutsideRuns old.areas base extents) c
  before_more base extents old mid now c same_areas same_kept first b =
      let a = first b.from b.was_left in
      record {
        stored = ap (λ (x : Areas). records_of x c) (sym same_areas) ∙ b.stored ∙ ap Some same_kept;
        from = a.from;
        was_left = a.was_left;
        bytes = λ i w. b.bytes i (subst (λ (x : Areas). OutsideRuns x base extents i) (sym same_areas) w) ∙ a.bytes i w;
      }

  pub writes_more : (base : ℕ) (extents : List Extent) (old mid new : Seen D) → Writes w base extents old mid → Writes w base extents mid new
      → Writes w base extents old new
  writes_more base extents old mid new a b = record {
    stays = stays_more old mid new a.stays b.stays;
    tail = b.tail ∙ a.tail;
    format = b.format ∙ a.format;
    in_doubt = b.in_doubt ∙ a.in_doubt;
    later = omega (arith, a.later, b.later);
    told = λ told.
        let first = a.told told in
        let second = b.told told in
        record {
          records = second.records ∙ first.records;
          elsewhere = λ i w. second.elsewhere i w ∙ first.elsewhere i w;
          time = elapses-trans w.moment w.since (falls told) old.disk mid.disk new.disk first.time second.time;
          moments = each_of_both w.moment w.since (falls told) old.disk mid.disk new.disk
              (λ c. Before (records_of old.areas) (kept old) (w.since old.disk (w.moment old.disk)) (OutsideRuns old.areas base extents) c) first.time second.time first.moments
              (λ c is. before_more base extents old mid (w.since mid.disk (w.moment mid.disk)) c a.stays.areas (kept_same old mid a.format first.records)
              (λ d was. first.moments d (falls told mid.disk (w.moment old.disk) (w.moment mid.disk) d first.time.later was)) (second.moments c is));
        };
  }

  -- a put inside the runs
  pub writes_put : (base : ℕ) (extents : List Extent) (at n : ℕ) (old new : Seen D) → ((i : ℕ) → Aside base extents i → Beside at n i)
      → Stays w.size old new → new.tail ≡ old.tail → new.format ≡ old.format → new.in_doubt ≡ old.in_doubt → w.faults old.disk ≤ w.faults new.disk
      → (w.tells → new.records ≡ old.records)
      → (w.tells → Same (Beside at n) (w.content new.disk) (w.content old.disk))
      → (w.tells → Elapses w.moment w.since old.disk new.disk)
      → (w.tells → (c : List ℕ) → w.since new.disk (w.moment old.disk) c → Before (records_of old.areas) (kept old) (w.since old.disk (w.moment old.disk)) (OutsideBut old.areas at n) c)
      → Writes w base extents old new
  writes_put base extents at n old new aside stays tail format doubt later records elsewhere time moments = record {
    stays = stays;
    tail = tail;
    format = format;
    in_doubt = doubt;
    later = later;
    told = λ told. record {
      records = records told;
      elsewhere = λ i w. elsewhere told i (aside i w);
      time = time told;
      moments = λ c is.
          let b = moments told c is in
          record { stored = b.stored; from = b.from; was_left = b.was_left; bytes = λ i w. b.bytes i (w.0, aside i w.1) };
    };
  }
