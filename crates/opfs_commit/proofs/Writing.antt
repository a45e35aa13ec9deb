-- What a record that is written leaves of the images.
use Rattle.std.proofs.Common.{◌≡◌, ◌⊎◌, ℕ, ◌≤◌, Bool, true, false, List, [], ◌++◌, length, Some, inl, inr, refl, sym, ap, subst, ◌∙◌, arith}
use Rattle.std.proofs.lemmas.List.{append-nil, length-append}
use Rattle.std.proofs.lemmas.Bool.{true≢false}
use Rattle.opfs_commit.specs.Images.{Account, IsDoubt, AreImages, committed, doubting}
use Rattle.opfs_commit.specs.Keeping.{AreKeptBack}
use Rattle.opfs_commit.specs.Making.{IsToStore}
use Rattle.opfs_commit.specs.Seen.{KeptBack, Committing, emptied}
use Rattle.opfs_commit.specs.Shown.{IsShown, IsReadAs, Holds}
use Rattle.opfs_commit.proofs.Holding.{same_holds, stands_by, floor_most, shown_more}
use Rattle.opfs_commit.proofs.Resting.{shown_kept}
use Rattle.opfs_journal.specs.Calls.{IsOneOf, IsDurable, IsTorn, MayBe}
use Rattle.opfs_journal.specs.Clauses.{Outside, Before}
use Rattle.opfs_journal.specs.Format.{Stored, records_of}
use Rattle.opfs_journal.specs.Seen.{Seen, kept}
use Rattle.opfs_journal.specs.declared.areas.Areas.{Areas}
use Rattle.opfs_image.specs.Superblock.{areas_of}
use Rattle.opfs_machine.specs.Changes.{Change, durable, floor}
use Rattle.opfs_outside.specs.Bytes.{Same}
use Rattle.opfs_outside.specs.declared.disk.Disk.{Ghosts as DiskWords}
use Rattle.opfs_records.specs.Replay.Built.{Built}
use Rattle.opfs_records.proofs.checkpoint.Building.{builds_nothing}

abbrev pub IsFull : {D : Type 0} → DiskWords D → Type 0
IsFull {D} w = (d : D) → length (w.content d) ≡ w.size d

abbrev pub IsWhole : {D : Type 0} → DiskWords D → Type 0
IsWhole {D} w = (d : D) (t : ℕ) (c : List ℕ) → w.since d t c → length c ≡ w.size d

abbrev pub Falls : {D : Type 0} → DiskWords D → Type 0
Falls {D} w = (d : D) (t u : ℕ) (c : List ℕ) → t ≤ u → w.since d u c → w.since d t c

-- nothing is kept back any more
pub kept_none : (size : ℕ) (b : Built) → AreKeptBack size [] false [] b b
kept_none size b = record { builds = λ short. builds_nothing size b; makes = λ base c. refl; quiet = tt }

module _ {D : Type 0} (w : DiskWords D) (full : IsFull w) (whole : IsWhole w) (a : Account) (j new : Seen D) (len : w.size new.disk ≡ w.size j.disk) (areas : j.areas ≡ areas_of a.geometry) where
  pub since_length : (t : ℕ) (c : List ℕ) → w.since new.disk t c → length c ≡ length (w.content j.disk)
  since_length t c left = whole new.disk t c left ∙ len ∙ sym (full j.disk)

  pub content_length : length (w.content new.disk) ≡ length (w.content j.disk)
  content_length = full new.disk ∙ len ∙ sym (full j.disk)

  pub old_length : (t u : ℕ) (c d : List ℕ) → w.since new.disk t c → w.since j.disk u d → length c ≡ length d
  old_length t u c d left was = whole new.disk t c left ∙ len ∙ sym (whole j.disk u d was)

  same_areas : (c d : List ℕ) → Same (Outside j.areas) c d → Same (Outside (areas_of a.geometry)) c d
  same_areas c d same = subst (λ (x : Areas). Same (Outside x) c d) areas same

  pub same_records : (c : List ℕ) (s : Stored) → records_of j.areas c ≡ Some s → records_of (areas_of a.geometry) c ≡ Some s
  same_records c s is = ap (λ x. records_of x c) (sym areas) ∙ is

  -- what is held by the images of before, or by the content, is held by each image since
  module _ (next : Stored) (one : IsOneOf w next j new) where
    pub from_before : (b : Built) (m : _) → ((d : List ℕ) → MayBe w j d → Holds a.geometry b m d) → (t : ℕ) (c : List ℕ) → w.since new.disk t c → Before (records_of j.areas) (kept j) (MayBe w j) (Outside j.areas) c → Holds a.geometry b m c
    from_before b m all t c left is = same_holds a.geometry b m c is.from (old_length t (w.moment j.disk) c is.from left is.was_left) (all is.from is.was_left) (same_areas c is.from is.bytes)

    pub from_content : (b : Built) (m : _) → Holds a.geometry b m (w.content j.disk) → (t : ℕ) (c : List ℕ) → w.since new.disk t c → Same (Outside j.areas) c (w.content j.disk) → Holds a.geometry b m c
    from_content b m here t c left same = same_holds a.geometry b m c (w.content j.disk) (since_length t c left) here (same_areas c (w.content j.disk) same)

    pub still_here : (b : Built) (m : _) → Holds a.geometry b m (w.content j.disk) → Holds a.geometry b m (w.content new.disk)
    still_here b m here = same_holds a.geometry b m (w.content new.disk) (w.content j.disk) content_length here (same_areas (w.content new.disk) (w.content j.disk) one.outside)

    -- and so what both hold
    pub still_held : Falls w → (b : Built) (m : _) → ((d : List ℕ) → MayBe w j d → Holds a.geometry b m d) → Holds a.geometry b m (w.content j.disk) → (c : List ℕ) → MayBe w new c → Holds a.geometry b m c
    still_held falls b m all here c now =
        let left = falls new.disk (w.moment j.disk) (w.moment new.disk) c one.time.later now in
        elim (one.moments c left) [
          | inl was ↦ from_before b m all (w.moment new.disk) c now was
          | inr is ↦ from_content b m here (w.moment new.disk) c now is.bytes
        ]

module _ {D : Type 0} (w : DiskWords D) (full : IsFull w) (whole : IsWhole w) (falls : Falls w) (a : Account) (own : List Change) (next : Stored) (built : Built) (old new : Committing D)
    (images : AreImages w a old) (to_store : IsToStore w a own next built old.journal) (settled : old.journal.in_doubt ≡ false) (len : w.size new.journal.disk ≡ w.size old.journal.disk) where
  abbrev j : Seen D
  j = old.journal

  -- the records' rows hold all, in the content
  stored_here : Holds a.geometry built (durable a.opening (a.told ++ own)) (w.content j.disk)
  stored_here = record { geometry = images.here.geometry; bytes = to_store.bytes }

  shown_after : (c : List ℕ) → Holds a.geometry built (durable a.opening (a.told ++ own)) c → records_of (areas_of a.geometry) c ≡ Some next → IsShown a.opening (floor a.told) (a.told ++ own) c
  shown_after c h records = record {
    shown = a.told ++ own;
    rest = [];
    split = append-nil (a.told ++ own);
    enough = omega (arith, floor_most a.told, length-append a.told own);
    stands = stands_by a.geometry next built (durable a.opening (a.told ++ own)) c to_store.reads h records;
    sizes = record { geometry = a.geometry; found = h.geometry; limits = sym images.limits };
  }

  module _ (one : IsOneOf w next j new.journal) where
    -- At each moment of the call an image shows a front, at least up to the last content that was told before.
    pub record_moments : (c : List ℕ) → w.since new.journal.disk (w.moment j.disk) c → IsShown a.opening (floor a.told) (a.told ++ own) c
    record_moments c left =
        elim (one.moments c left) [
          | inl was ↦ shown_more a.opening (floor a.told) a.told own c (shown_kept w a old images c
              (from_before w full whole a j new.journal len images.areas next one a.recorded (durable a.opening images.acked) images.holds (w.moment j.disk) c left was)
              (same_records w full whole a j new.journal len images.areas c (kept j) was.stored))
          | inr is ↦ shown_after c (from_content w full whole a j new.journal len images.areas next one built (durable a.opening (a.told ++ own)) stored_here (w.moment j.disk) c left is.bytes)
              (same_records w full whole a j new.journal len images.areas c next is.stored)
        ]

  -- At its end with success each image shows all of it.
  pub record_done : (durable_now : IsDurable w next j new.journal) → new.journal.areas ≡ j.areas → new.journal.in_doubt ≡ false → new.back ≡ emptied old.back → AreImages w (committed a own built) new
  record_done is areas sure none =
      let one = is.written in
      record {
        acked = a.told ++ own;
        later = [];
        split = append-nil (a.told ++ own);
        limits = images.limits;
        areas = areas ∙ images.areas;
        reads = subst (λ (s : Stored). IsReadAs a.geometry s built) (sym is.records) to_store.reads;
        kept_back = subst (λ (b : KeptBack). AreKeptBack a.geometry.blocks b.bytes b.long [] built built) (sym none) (kept_none a.geometry.blocks built);
        count = sym (ap (λ (b : KeptBack). b.count) none);
        here = still_here w full whole a j new.journal len images.areas next one built (durable a.opening (a.told ++ own)) stored_here;
        holds = λ c now. from_content w full whole a j new.journal len images.areas next one built (durable a.opening (a.told ++ own)) stored_here (w.moment new.journal.disk) c now (is.durable c now).bytes;
        one_of = λ c now. inl (same_records w full whole a j new.journal len images.areas c next (is.durable c now).stored ∙ ap (λ (s : Stored). Some s) (sym is.records));
        doubt = λ unsure. absurd (true≢false (sym unsure ∙ sure));
      }

  module _ (torn : IsTorn w next j new.journal) (areas : new.journal.areas ≡ j.areas) where
    torn_one_of : (t : Bool) → new.journal.in_doubt ≡ t → (c : List ℕ) → MayBe w new.journal c
        → (records_of (areas_of a.geometry) c ≡ Some (kept new.journal)) ⊎ ((new.journal.in_doubt ≡ true) × (records_of (areas_of a.geometry) c ≡ Some new.journal.doubt))
    torn_one_of false is c now = inl (same_records w full whole a j new.journal len images.areas c (kept j) (torn.known is c now) ∙ ap (λ (s : Stored). Some s) (sym torn.records))
    torn_one_of true is c now =
        let left = falls new.journal.disk (w.moment j.disk) (w.moment new.journal.disk) c torn.written.time.later now in
        elim (torn.written.moments c left) [
          | inl was ↦ inl (same_records w full whole a j new.journal len images.areas c (kept j) was.stored ∙ ap (λ (s : Stored). Some s) (sym torn.records))
          | inr done ↦ inr (is, same_records w full whole a j new.journal len images.areas c next done.stored ∙ ap (λ (s : Stored). Some s) (sym (torn.doubt is)))
        ]

    torn_doubt : new.journal.in_doubt ≡ true → IsDoubt w (doubting a own) new.journal
    torn_doubt unsure =
        let here = still_here w full whole a j new.journal len images.areas next torn.written built (durable a.opening (a.told ++ own)) stored_here in
        record {
          over = built;
          reads = subst (λ (s : Stored). IsReadAs a.geometry s built) (sym (torn.doubt unsure)) to_store.reads;
          here = here;
          holds = λ c now. same_holds a.geometry built (durable a.opening (a.told ++ own)) c (w.content new.journal.disk)
              (whole new.journal.disk (w.moment new.journal.disk) c now ∙ sym (full new.journal.disk)) here
              (subst (λ (x : Areas). Same (Outside x) c (w.content new.journal.disk)) images.areas (torn.behind unsure c now));
        }

    -- After a disk fault they are as before, and what was to be stored may be in doubt.
    pub record_stopped : new.back ≡ old.back → AreImages w (doubting a own) new
    record_stopped same = record {
      acked = images.acked;
      later = images.later;
      split = images.split;
      limits = images.limits;
      areas = areas ∙ images.areas;
      reads = subst (λ (s : Stored). IsReadAs a.geometry s a.recorded) (sym torn.records) images.reads;
      kept_back = subst (λ (b : KeptBack). AreKeptBack a.geometry.blocks b.bytes b.long images.later a.recorded a.rows) (sym same) images.kept_back;
      count = images.count ∙ sym (ap (λ (b : KeptBack). b.count) same);
      here = still_here w full whole a j new.journal len images.areas next torn.written a.recorded (durable a.opening images.acked) images.here;
      holds = still_held w full whole a j new.journal len images.areas next torn.written falls a.recorded (durable a.opening images.acked) images.holds images.here;
      one_of = torn_one_of new.journal.in_doubt refl;
      doubt = torn_doubt;
    }
