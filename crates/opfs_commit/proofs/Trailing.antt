-- How the images that a run leaves on its way grow.
use Rattle.std.proofs.Common.{◌≡◌, ◌⊎◌, ℕ, zero, suc, ◌+◌, ◌<◌, ◌≤◌, true, false, List, [], ◌∷◌, ◌++◌, length, take, Some, inl, inr, sym, ap, subst, ◌∙◌, arith}
use Rattle.std.specs.Prelude.{slice_index_or}
use Rattle.std.proofs.lemmas.Bool.{true≢false, false≢true, cases_lt}
use Rattle.std.proofs.lemmas.List.{append-nil, length-append, get_or_append_left, take-append-le, take_all}
use Rattle.std.proofs.Math.Seq.{get_or-append_seam}
use Rattle.opfs_commit.specs.Images.{Account, AreImages}
use Rattle.opfs_commit.specs.Seen.{Committing}
use Rattle.opfs_commit.specs.Shown.{IsShown, ShowsSince, ShowsEither}
use Rattle.opfs_commit.specs.Trail.{IsContentAt, IsLeftAt, IsTrail}
use Rattle.opfs_commit.proofs.Holding.{AllQuiet, stands_by, shown_more, shown_least}
use Rattle.opfs_commit.proofs.Resting.{none_left, finished}
use Rattle.opfs_commit.proofs.Writing.{Falls}
use Rattle.opfs_image.specs.Filling.{Stands}
use Rattle.opfs_image.specs.Superblock.{areas_of}
use Rattle.opfs_journal.specs.Format.{records_of}
use Rattle.opfs_journal.specs.Seen.{kept}
use Rattle.opfs_machine.specs.Changes.{Change, durable, is_content, evict}
use Rattle.opfs_machine.specs.Openings.{Opening}
use Rattle.opfs_outside.specs.Moments.{Elapses, each_of_both}
use Rattle.opfs_outside.specs.declared.disk.Disk.{Ghosts as DiskWords}

-- what is shown in two calls, one after the other
pub shows_both : {D : Type 0} (w : DiskWords D) (falls : Falls w) (o : Opening) (least later : ℕ) (all more : List Change) (old mid new : D) → Elapses w.moment w.since old mid → Elapses w.moment w.since mid new → least ≤ later
    → ShowsSince w o least all old mid → ShowsSince w o later (all ++ more) mid new → ShowsSince w o least (all ++ more) old new
shows_both w falls o least later all more old mid new first second le was is =
    each_of_both w.moment w.since falls old mid new (IsShown o least (all ++ more)) first second
    (λ c left. shown_more o least all more c (was c left)) (λ c left. shown_least o later least (all ++ more) c le (is c left))

module _ {D : Type 0} (w : DiskWords D) (falls : Falls w) (o : Opening) (least later : ℕ) (all others : List Change) (old mid new : D) (first : Elapses w.moment w.since old mid) (second : Elapses w.moment w.since mid new) (le : least ≤ later) where
  pub shows_behind : ShowsSince w o least others old mid → ShowsSince w o later all mid new → ShowsEither w o least all others old new
  shows_behind was is =
      each_of_both w.moment w.since falls old mid new (λ c. IsShown o least all c ⊎ IsShown o least others c) first second
      (λ c left. inr (was c left)) (λ c left. inl (shown_least o later least all c le (is c left)))

  pub shows_on : (more : List Change) → ShowsEither w o least all others old mid → ShowsSince w o later (all ++ more) mid new → ShowsEither w o least (all ++ more) others old new
  shows_on more was is =
      each_of_both w.moment w.since falls old mid new (λ c. IsShown o least (all ++ more) c ⊎ IsShown o least others c) first second
      (λ c left. elim (was c left) [ inl s ↦ inl (shown_more o least all more c s) | inr s ↦ inr s ]) (λ c left. inl (shown_least o later least (all ++ more) c le (is c left)))

longer : (told : List Change) (change : Change) (n : ℕ) → n < length told → take (n + 1) (told ++ change ∷ []) ≡ take (n + 1) told
longer told change n lt = take-append-le (n + 1) told (change ∷ []) (omega (arith, lt))

content_last : (told : List Change) (change : Change) (n : ℕ) → IsContentAt (told ++ change ∷ []) n → length told ≤ n → is_content change ≡ true
content_last told change n at le =
    let same : n ≡ length told = omega (arith, at.0, length-append told (change ∷ []), le) in
    sym (ap is_content (ap (λ i. slice_index_or (told ++ change ∷ []) i (evict [])) same ∙ get_or-append_seam told change [] (evict []))) ∙ at.1

module _ {D : Type 0} (w : DiskWords D) (falls : Falls w) (o : Opening) (told : List Change) (begun old new : D) (trail : IsTrail w o told begun old) (time : Elapses w.moment w.since old new) where
  still_left : (n : ℕ) → IsLeftAt w o told n begun old → IsLeftAt w o told n begun new
  still_left n at = record { image = at.image; left = time.keeps (w.moment begun) at.image trail.later at.left; stands = at.stands }

  later_now : w.moment begun ≤ w.moment new
  later_now = omega (arith, trail.later, time.later)

  -- Nothing more was told.
  pub trail_same : (least : ℕ) → ShowsSince w o least told old new → IsTrail w o told begun new
  trail_same least moments = record {
    later = later_now;
    fronts = λ c left. elim (time.split (w.moment begun) c trail.later left) [
      | inl was ↦ trail.fronts c was
      | inr is ↦ shown_least o least 0 told c (omega arith) (moments c is)
    ];
    each = λ crashes n at. still_left n (trail.each crashes n at);
  }

  module _ (change : Change) where
    abbrev more : List Change
    more = told ++ change ∷ []

    last_whole : (n : ℕ) → IsContentAt more n → (n < length told → ⊥) → take (n + 1) more ≡ more
    last_whole n at le = take_all (n + 1) more (omega (arith, length-append told (change ∷ []), le_from (cases_lt n (length told)) le))
      where
        le_from : (n < length told) ⊎ (length told ≤ n) → (n < length told → ⊥) → length told ≤ n
        le_from (inl lt) no_lt = absurd (no_lt lt)
        le_from (inr le) no_lt = le

    -- One change more was told; where it is a content, an image stands for what is stored with it.
    pub trail_more : (least : ℕ) → ShowsSince w o least more old new → (w.crashes → is_content change ≡ true → (c : List ℕ) × (w.since new (w.moment new) c × Stands c (durable o more))) → IsTrail w o more begun new
    trail_more least moments last = record {
      later = later_now;
      fronts = λ c left. elim (time.split (w.moment begun) c trail.later left) [
        | inl was ↦ shown_more o 0 told (change ∷ []) c (trail.fronts c was)
        | inr is ↦ shown_least o least 0 more c (omega arith) (moments c is)
      ];
      each = λ crashes n at. elim (cases_lt n (length told)) [
        | inl lt ↦
            let was = still_left n (trail.each crashes n (lt, sym (ap is_content (get_or_append_left told (change ∷ []) (evict []) n lt)) ∙ at.1)) in
            record { image = was.image; left = was.left; stands = subst (λ (xs : List Change). Stands was.image (durable o xs)) (sym (longer told change n lt)) was.stands }
        | inr le ↦
            let now = last crashes (content_last told change n at le) in
            record {
              image = now.0;
              left = falls new (w.moment begun) (w.moment new) now.0 later_now now.1.0;
              stands = subst (λ (xs : List Change). Stands now.0 (durable o xs)) (sym (last_whole n at (λ lt. not_both n lt le))) now.1.1;
            }
      ];
    }
      where
        not_both : (n : ℕ) → n < length told → length told ≤ n → ⊥
        not_both n lt le = absurd (omega (arith, lt, le))

-- ---- a change that is kept back

pub trail_kept : {D : Type 0} (w : DiskWords D) (o : Opening) (told : List Change) (change : Change) (begun now : D) → IsTrail w o told begun now → is_content change ≡ false → IsTrail w o (told ++ change ∷ []) begun now
trail_kept w o told change begun now trail quiet = record {
  later = trail.later;
  fronts = λ c left. shown_more o 0 told (change ∷ []) c (trail.fronts c left);
  each = λ crashes n at. elim (cases_lt n (length told)) [
    | inl lt ↦
        let was = trail.each crashes n (lt, sym (ap is_content (get_or_append_left told (change ∷ []) (evict []) n lt)) ∙ at.1) in
        record { image = was.image; left = was.left; stands = subst (λ (xs : List Change). Stands was.image (durable o xs)) (sym (longer told change n lt)) was.stands }
    | inr le ↦ absurd (true≢false (sym (content_last told change n at le) ∙ quiet))
  ];
}

-- ---- how it begins, and what a commit shows

-- The trail of a run that tells nothing yet.
pub trail_begins : {D : Type 0} (w : DiskWords D) (o : Opening) (least : ℕ) (begun : D) → ShowsSince w o least [] begun begun → IsTrail w o [] begun begun
trail_begins w o least begun shows = record {
  later = omega arith;
  fronts = λ c left. shown_least o least 0 [] c (omega arith) (shows c left);
  each = λ crashes n at. absurd (omega (arith, at.0));
}

-- After a commit the content is an image that stands for all of it.
pub committed_image : {D : Type 0} (w : DiskWords D) (reads : w.crashes → (d : D) → w.since d (w.moment d) (w.content d)) (a : Account) (k : Committing D) → AreImages w a k → k.back.count ≡ 0 → k.journal.in_doubt ≡ false
    → w.crashes → (c : List ℕ) × (w.since k.journal.disk (w.moment k.journal.disk) c × Stands c (durable a.opening a.told))
committed_image w reads a k images none sure crashes =
    let now = reads crashes k.journal.disk in
    let records : records_of (areas_of a.geometry) (w.content k.journal.disk) ≡ Some (kept k.journal) =
    (elim (images.one_of (w.content k.journal.disk) now) [ inl is ↦ is | inr both ↦ absurd (true≢false (sym both.0 ∙ sure)) ]) in
    (w.content k.journal.disk, (now, finished w a k images none records))

-- ---- a content that was told last

-- What is kept back has no content.
quiet_at : (later : List Change) (i : ℕ) → AllQuiet later → i < length later → is_content (slice_index_or later i (evict [])) ≡ false
quiet_at [] i quiet lt = absurd (omega (arith, lt))
quiet_at (x ∷ xs) zero quiet lt = quiet.0
quiet_at (x ∷ xs) (suc i) quiet lt = quiet_at xs i quiet.1 (omega (arith, lt))

quiet_behind : (acked later : List Change) (i : ℕ) → AllQuiet later → length acked ≤ i → i < length (acked ++ later) → is_content (slice_index_or (acked ++ later) i (evict [])) ≡ false
quiet_behind [] later i quiet le lt = quiet_at later i quiet lt
quiet_behind (x ∷ xs) later zero quiet le lt = absurd (omega (arith, le))
quiet_behind (x ∷ xs) later (suc i) quiet le lt = quiet_behind xs later i quiet (omega (arith, le)) (omega (arith, lt))

-- So nothing is kept back where a content is the last that was told.
none_kept : (told acked later : List Change) (n : ℕ) → acked ++ later ≡ told → AllQuiet later → IsContentAt told n → n + 1 ≡ length told → later ≡ []
none_kept told acked later n split quiet at last =
    let long : length told ≡ length acked + length later = sym (ap length split) ∙ length-append acked later in
    none_left later (elim (cases_lt n (length acked)) [
      | inl lt ↦ omega (arith, lt, last, long)
      | inr le ↦ absurd (false≢true (
          sym (subst (λ (xs : List Change). is_content (slice_index_or xs n (evict [])) ≡ false) split (quiet_behind acked later n quiet le (omega (arith, at.0, long, length-append acked later)))) ∙ at.1))
    ])

pub last_stands : {D : Type 0} (w : DiskWords D) (reads : w.crashes → (d : D) → w.since d (w.moment d) (w.content d)) (a : Account) (k : Committing D) (n : ℕ) → AreImages w a k → IsContentAt a.told n → n + 1 ≡ length a.told
    → a.doubted ≡ [] → w.crashes → Stands (w.content k.journal.disk) (durable a.opening a.told)
last_stands w reads a k n images at last none crashes =
    let c = w.content k.journal.disk in
    elim (images.one_of c (reads crashes k.journal.disk)) [
      | inl records ↦ finished w a k images (sym images.count ∙ ap length (none_kept a.told images.acked images.later n images.split images.kept_back.quiet at last)) records
      | inr both ↦
          let doubt = images.doubt both.0 in
          subst (λ (xs : List Change). Stands c (durable a.opening xs)) (ap (λ (xs : List Change). a.told ++ xs) none ∙ append-nil a.told)
          (stands_by a.geometry k.journal.doubt doubt.over (durable a.opening (a.told ++ a.doubted)) c doubt.reads doubt.here both.1)
    ]
