-- What the calls of a disk in memory do to its images.
use Rattle.std.proofs.Common.{◌≡◌, ℕ, zero, suc, ◌+◌, ◌-◌, ◌^◌, ◌<◌, ◌≤◌, ◌⊎◌, min, Bool, true, false, cond, ◌||◌, List, [], ◌∷◌, ◌++◌, length, take, refl, sym, ◌∙◌, ap, subst, inl, inr, arith, Result, Ok, Err, add-zero}
use Rattle.std.specs.Prelude.{slice_index, slice_set, is_ok, IfOk, MatchResult, OnOk, OnErr}
use Rattle.std.proofs.lemmas.Bool.{cases_lt, both_ways}
use Rattle.std.proofs.lemmas.Result.{on_ok_weaker}
use Rattle.std.proofs.lemmas.List.{length-append, length-set, get_or-set_same, take_all, take-append-le, append-nil, ext_get_or}
use Rattle.std.proofs.lemmas.List.Sums.{fold_push}
use Rattle.opfs_outside.specs.Bytes.{Same, window, Beside}
use Rattle.opfs_outside.specs.Faults.{Rose}
use Rattle.opfs_outside.specs.Moments.{Elapses}
use Rattle.opfs_outside.specs.Windows.{length-window, slice_index-window}
use Rattle.opfs_outside.specs.declared.stream.Failed.{Failed}
use Rattle.opfs_memory.specs.Counts.{counted, is_named}
use Rattle.opfs_memory.specs.Drives.{Event, Idle, Wrote, Synced, over, Platter, after_event, replayed, IsImage, Drive, content_of, moment_of, LeftSince, is_after, passes_room, call_fails, call_reply, call_after, written_event, synced_event}
use Rattle.opfs_memory.specs.DriveLaws.{length-over, over-beside, is_written-beside, sound_replayed, image_of_content}

-- in the range there are the bytes
pub over-inside : (c : List ℕ) (at : ℕ) (bytes : List ℕ) (k : ℕ) → k < length bytes → at + length bytes ≤ length c → slice_index (over c at bytes) (at + k) ≡ slice_index bytes k
over-inside c at [] k h fits = absurd (omega arith)
over-inside c at (b ∷ bytes) zero h fits =
    rw add-zero (over-beside (slice_set c at b) (at + 1) bytes at (inl (omega arith)) ∙ get_or-set_same c at b 0 (omega arith))
over-inside c at (b ∷ bytes) (suc k) h fits =
    let e : at + suc k ≡ at + 1 + k = omega arith in
    rw e (over-inside (slice_set c at b) (at + 1) bytes k (omega arith) (omega (arith, length-set c at b)))

pub window-over : (c : List ℕ) (at : ℕ) (bytes : List ℕ) → at + length bytes ≤ length c → window (over c at bytes) at (length bytes) ≡ bytes
window-over c at [] fits = refl
window-over c at (b ∷ bytes) fits =
    let first : slice_index (over (slice_set c at b) (at + 1) bytes) at ≡ b =
    over-beside (slice_set c at b) (at + 1) bytes at (inl (omega arith)) ∙ get_or-set_same c at b 0 (omega arith) in
    let rest = window-over (slice_set c at b) (at + 1) bytes (omega (arith, length-set c at b)) in
    λ i. first i ∷ rest i

-- a call keeps its event or does nothing
log_grows : (b : Bool) (log : List Event) (e : Event) → cond b log (log ++ e ∷ []) ≡ log ++ cond b [] (e ∷ [])
log_grows true log e = sym (append-nil log)
log_grows false log e = refl

module _ (d w : Drive) (more : List Event) (same : w.first ≡ d.first) (grown : w.log ≡ d.log ++ more) where
  longer : length d.log ≤ length w.log
  longer = omega (arith, ap length grown, length-append d.log more)

  early : (k : ℕ) → k ≤ length d.log → replayed w.first (take k w.log) ≡ replayed d.first (take k d.log)
  early k le = ap (λ first. replayed first (take k w.log)) same ∙ ap (λ log. replayed d.first (take k log)) grown ∙ ap (λ log. replayed d.first log) (take-append-le k d.log more le)

  pub elapses : Elapses moment_of LeftSince d w
  elapses = record {
    later = longer;
    split = λ t c le left. elim (cases_lt (length d.log) left.at) [
      | inl past ↦ inr (record { at = left.at; from = omega (arith, past); to = left.to; image = left.image })
      | inr before ↦ inl (record { at = left.at; from = left.from; to = before; image = subst (λ p. IsImage p c) (early left.at before) left.image })
    ];
    keeps = λ t c le left. record { at = left.at; from = left.from; to = omega (arith, left.to, longer); image = subst (λ p. IsImage p c) (sym (early left.at left.to)) left.image };
  }

-- what may be left now
pub left_now : (d : Drive) (c : List ℕ) → LeftSince d (length d.log) c → IsImage (replayed d.first d.log) c
left_now d c left =
    let all : take left.at d.log ≡ d.log = take_all left.at d.log left.from in
    subst (λ log. IsImage (replayed d.first log) c) all left.image

pub now_left : (d : Drive) (c : List ℕ) → IsImage (replayed d.first d.log) c → LeftSince d (length d.log) c
now_left d c image = record {
  at = length d.log;
  from = omega arith;
  to = omega arith;
  image = subst (λ log. IsImage (replayed d.first log) c) (sym (take_all (length d.log) d.log (omega arith))) image;
}

-- one call: what may be left since its start
pub one_event : (d w : Drive) (b : Bool) (e : Event) → w.first ≡ d.first → w.log ≡ cond b d.log (d.log ++ e ∷ []) → (c : List ℕ) → LeftSince w (length d.log) c
    → IsImage (replayed d.first d.log) c ⊎ IsImage (after_event (replayed d.first d.log) e) c
one_event d w true e same grown c left =
    let now : LeftSince w (length w.log) c = subst (λ log. LeftSince w (length log) c) (sym grown) left in
    inl (subst (λ first. IsImage (replayed first d.log) c) same (subst (λ log. IsImage (replayed w.first log) c) grown (left_now w c now)))
one_event d w false e same grown c left = elim (cases_lt left.at (length d.log + 1)) [
  | inl before ↦
      let all : take left.at w.log ≡ d.log =
      ap (λ log. take left.at log) grown ∙ take-append-le left.at d.log (e ∷ []) (omega (arith, before)) ∙ take_all left.at d.log left.from in
      inl (subst (λ first. IsImage (replayed first d.log) c) same (subst (λ log. IsImage (replayed w.first log) c) all left.image))
  | inr past ↦
      let size : length w.log ≡ length d.log + 1 = omega (arith, ap length grown, length-append d.log (e ∷ [])) in
      let all : take left.at w.log ≡ d.log ++ e ∷ [] = take_all left.at w.log (omega (arith, size)) ∙ grown in
      inr (subst (λ p. IsImage p c) (fold_push after_event (record { content = d.first; synced = d.first; written = [] }) d.log e)
      (subst (λ first. IsImage (replayed first (d.log ++ e ∷ [])) c) same (subst (λ log. IsImage (replayed w.first log) c) all left.image)))
]

-- an image after a write is one from before it, but for the range
pub torn : (p : Platter) (at : ℕ) (bytes : List ℕ) (done : Bool) (c : List ℕ) → at + length bytes ≤ length p.synced → IsImage (after_event p (Wrote at bytes done)) c
    → (was : List ℕ) × IsImage p was × Same (Beside at (length bytes)) c was
torn p at bytes done c fits image =
    let put = window p.synced at (length bytes) in
    let was = over c at put in
    let size : length put ≡ length bytes = length-window p.synced at (length bytes) in (
      was,
      record {
        size = length-over c at put ∙ image.size;
        kept = λ i unwritten. elim (cases_lt i at) [
          | inl below ↦ over-beside c at put i (inl below) ∙ image.kept i (is_written-beside p.written at (length bytes) i unwritten (inl below))
          | inr above ↦ elim (cases_lt i (at + length bytes)) [
            | inl inside ↦
                let k = i - at in
                let e : at + k ≡ i = omega arith in
                ap (λ j. slice_index was j) (sym e) ∙ over-inside c at put k (omega (arith, size)) (omega (arith, size, image.size)) ∙ slice_index-window p.synced at (length bytes) k (omega arith) ∙ ap (λ j. slice_index p.synced j) e
            | inr past ↦ over-beside c at put i (inr (omega (arith, size))) ∙ image.kept i (is_written-beside p.written at (length bytes) i unwritten (inr past))
          ]
        ];
      },
      λ i beside. sym (over-beside c at put i (subst (λ n. Beside at n i) (sym size) beside)),
    )

-- after a sync there is one image
pub only_content : (content c : List ℕ) → IsImage (record { content = content; synced = content; written = [] }) c → c ≡ content
only_content content c image = ext_get_or 0 c content image.size (λ i h. image.kept i refl)

-- a failure has raised the count
pub rose : (failed : Bool) (faults : ℕ) → failed ≡ true → Rose (min faults (2 ^ 64 - 1)) (min (cond failed (counted faults) faults) (2 ^ 64 - 1))
rose true faults e = elim (cases_lt faults (2 ^ 64 - 1)) [
  | inl below ↦ inl (omega arith)
  | inr at_end ↦ inr (omega arith)
]
rose false faults e = absurd (both_ways false refl e)

pub never_falls : (failed : Bool) (faults : ℕ) → min faults (2 ^ 64 - 1) ≤ min (cond failed (counted faults) faults) (2 ^ 64 - 1)
never_falls true faults = omega arith
never_falls false faults = omega arith

cause_of : (failed : Bool) (faults : ℕ) (r : Result (Unit {0}) Failed) → r ≡ cond failed (Err (record {})) (Ok (tt {0}))
    → OnErr r (Rose (min faults (2 ^ 64 - 1)) (min (cond failed (counted faults) faults) (2 ^ 64 - 1)))
cause_of true faults r replied =
    subst (λ r. OnErr r (Rose (min faults (2 ^ 64 - 1)) (min (counted faults) (2 ^ 64 - 1)))) (sym replied) (rose true faults refl)
cause_of false faults r replied =
    subst (λ r. OnErr r (Rose (min faults (2 ^ 64 - 1)) (min faults (2 ^ 64 - 1)))) (sym replied) (tt {0})

replayed_or_not : (b : Bool) (first : List ℕ) (log : List Event) (e : Event) → replayed first (cond b log (log ++ e ∷ [])) ≡ cond b (replayed first log) (after_event (replayed first log) e)
replayed_or_not true first log e = refl
replayed_or_not false first log e = fold_push after_event (record { content = first; synced = first; written = [] }) log e

module _ (d w : Drive) (n : ℕ) (e : Event) (is : w ≡ call_after d n e) where
  same_first : w.first ≡ d.first
  same_first = ap (λ w. w.first) is

  pub same_size : length w.first ≡ length d.first
  same_size = ap length same_first

  grown : w.log ≡ cond (passes_room d n) d.log (d.log ++ e ∷ [])
  grown = ap (λ w. w.log) is

  pub time : Elapses moment_of LeftSince d w
  time = elapses d w (cond (passes_room d n) [] (e ∷ [])) same_first (grown ∙ log_grows (passes_room d n) d.log e)

  -- an image since then is one from before the call, or one after its event
  pub images : (c : List ℕ) → LeftSince w (moment_of d) c → IsImage (replayed d.first d.log) c ⊎ IsImage (after_event (replayed d.first d.log) e) c
  images = one_event d w (passes_room d n) e same_first grown

  pub later : min d.faults (2 ^ 64 - 1) ≤ min w.faults (2 ^ 64 - 1)
  later = subst (λ w. min d.faults (2 ^ 64 - 1) ≤ min w.faults (2 ^ 64 - 1)) (sym is) (never_falls (call_fails d n) d.faults)

  pub cause : (r : Result (Unit {0}) Failed) → r ≡ call_reply d n → OnErr r (Rose (min d.faults (2 ^ 64 - 1)) (min w.faults (2 ^ 64 - 1)))
  cause r replied = subst (λ w. OnErr r (Rose (min d.faults (2 ^ 64 - 1)) (min w.faults (2 ^ 64 - 1)))) (sym is) (cause_of (call_fails d n) d.faults r replied)

  -- the platter after it
  pub kept_or_not : replayed w.first w.log ≡ cond (passes_room d n) (replayed d.first d.log) (after_event (replayed d.first d.log) e)
  kept_or_not = ap (λ first. replayed first w.log) same_first ∙ ap (λ log. replayed d.first log) grown ∙ replayed_or_not (passes_room d n) d.first d.log e

or_true : (b : Bool) → (b || true) ≡ true
or_true true = refl
or_true false = refl

-- a call that does not fail has room
has_room : (named after passes : Bool) → ((named || after) || passes) ≡ false → passes ≡ false
has_room named after true e = absurd (both_ways ((named || after) || true) e (or_true (named || after)))
has_room named after false e = refl

module _ (d w : Drive) (at : ℕ) (bytes : List ℕ) (is : w ≡ call_after d (length bytes) (written_event d at bytes)) (fits : at + length bytes ≤ length d.first) where
  abbrev here : Platter
  here = replayed d.first d.log

  size_here : (length here.content ≡ length d.first) × (length here.synced ≡ length d.first)
  size_here = let s = sound_replayed d.first d.log in (s.content, s.synced)

  write_content : (passes failed : Bool) → Same (Beside at (length bytes)) (cond passes here (after_event here (Wrote at bytes (cond failed false true)))).content here.content
  write_content true failed i h = refl
  write_content false true i h = refl
  write_content false false i h = over-beside here.content at bytes i h

  pub write_elsewhere : Same (Beside at (length bytes)) (content_of w) (content_of d)
  write_elsewhere = subst (λ p. Same (Beside at (length bytes)) p.content (content_of d)) (sym (kept_or_not d w (length bytes) (written_event d at bytes) is)) (write_content (passes_room d (length bytes)) (call_fails d (length bytes)))

  written_if : (passes failed : Bool) (r : Result (Unit {0}) Failed) → (failed ≡ false → passes ≡ false) → r ≡ cond failed (Err (record {})) (Ok (tt {0}))
      → OnOk r (window (cond passes here (after_event here (Wrote at bytes (cond failed false true)))).content at (length bytes) ≡ bytes)
  written_if passes true r room replied = subst (λ r. OnOk r (window (cond passes here (after_event here (Wrote at bytes false))).content at (length bytes) ≡ bytes)) (sym replied) (tt {0})
  written_if true false r room replied = absurd (both_ways true (room refl) refl)
  written_if false false r room replied =
      subst (λ r. OnOk r (window (over here.content at bytes) at (length bytes) ≡ bytes)) (sym replied) (window-over here.content at bytes (omega (arith, size_here.0)))

  pub write_written : (r : Result (Unit {0}) Failed) → r ≡ call_reply d (length bytes) → OnOk r (window (content_of w) at (length bytes) ≡ bytes)
  write_written r replied =
      subst (λ p. OnOk r (window p.content at (length bytes) ≡ bytes)) (sym (kept_or_not d w (length bytes) (written_event d at bytes) is))
      (written_if (passes_room d (length bytes)) (call_fails d (length bytes)) r (has_room (is_named d.fails (counted d.calls)) (is_after d.stop (counted d.calls)) (passes_room d (length bytes))) replied)

  pub write_moments : (c : List ℕ) → LeftSince w (moment_of d) c → (was : List ℕ) × LeftSince d (moment_of d) was × Same (Beside at (length bytes)) c was
  write_moments c left = elim (images d w (length bytes) (written_event d at bytes) is c left) [
    | inl same ↦ (c, now_left d c same, λ i h. refl)
    | inr torn_here ↦
        let found = torn here at bytes (cond (call_fails d (length bytes)) false true) c (omega (arith, size_here.1)) torn_here in
        (found.0, now_left d found.0 found.1, found.2)
  ]

module _ (d w : Drive) (is : w ≡ call_after d 0 Idle) where
  idle_content : (passes : Bool) → (cond passes (replayed d.first d.log) (replayed d.first d.log)).content ≡ content_of d
  idle_content true = refl
  idle_content false = refl

  pub read_same : content_of w ≡ content_of d
  read_same = ap (λ p. p.content) (kept_or_not d w 0 Idle is) ∙ idle_content (passes_room d 0)

  pub read_moments : (c : List ℕ) → LeftSince w (moment_of d) c → LeftSince d (moment_of d) c
  read_moments c left = elim (images d w 0 Idle is c left) [ inl same ↦ now_left d c same | inr same ↦ now_left d c same ]

module _ (d w : Drive) (is : w ≡ call_after d 0 (synced_event d)) where
  abbrev at_rest : Platter
  at_rest = replayed d.first d.log

  sync_content : (passes failed : Bool) → (cond passes at_rest (after_event at_rest (cond failed Idle Synced))).content ≡ content_of d
  sync_content true failed = refl
  sync_content false true = refl
  sync_content false false = refl

  pub sync_same : content_of w ≡ content_of d
  sync_same = ap (λ p. p.content) (kept_or_not d w 0 (synced_event d) is) ∙ sync_content (passes_room d 0) (call_fails d 0)

  sync_image : (failed : Bool) (c : List ℕ) → IsImage (after_event at_rest (cond failed Idle Synced)) c → IsImage at_rest c
  sync_image true c image = image
  sync_image false c image = subst (λ c. IsImage at_rest c) (sym (only_content at_rest.content c image)) (image_of_content (length d.first) at_rest (sound_replayed d.first d.log))

  pub sync_moments : (c : List ℕ) → LeftSince w (moment_of d) c → LeftSince d (moment_of d) c
  sync_moments c left = elim (images d w 0 (synced_event d) is c left) [
    | inl same ↦ now_left d c same
    | inr after ↦ now_left d c (sync_image (call_fails d 0) c after)
  ]

  durable_if : (passes failed : Bool) (r : Result (Unit {0}) Failed) → (failed ≡ false → passes ≡ false) → r ≡ cond failed (Err (record {})) (Ok (tt {0}))
      → OnOk r ((c : List ℕ) → IsImage (cond passes at_rest (after_event at_rest (cond failed Idle Synced))) c → c ≡ content_of d)
  durable_if passes true r room replied = subst (λ r. OnOk r ((c : List ℕ) → IsImage (cond passes at_rest at_rest) c → c ≡ content_of d)) (sym replied) (tt {0})
  durable_if true false r room replied = absurd (both_ways true (room refl) refl)
  durable_if false false r room replied = subst (λ r. OnOk r ((c : List ℕ) → IsImage (after_event at_rest Synced) c → c ≡ content_of d)) (sym replied) (λ c image. only_content at_rest.content c image)

  pub sync_durable : (r : Result (Unit {0}) Failed) → r ≡ call_reply d 0 → OnOk r ((c : List ℕ) → LeftSince w (moment_of w) c → c ≡ content_of w)
  sync_durable r replied =
      on_ok_weaker r (λ only c left. only c (subst (λ p. IsImage p c) (kept_or_not d w 0 (synced_event d) is) (left_now w c left)) ∙ sym sync_same)
      (durable_if (passes_room d 0) (call_fails d 0) r (has_room (is_named d.fails (counted d.calls)) (is_after d.stop (counted d.calls)) (passes_room d 0)) replied)

-- what a read finds, where it does not fail
pub read_bytes : (d : Drive) (at : ℕ) (old new : List ℕ) (r : Result (Unit {0}) Failed) → r ≡ call_reply d 0 → new ≡ cond (call_fails d 0) old (window (content_of d) at (length old))
    → OnOk r (new ≡ window (content_of d) at (length new))
read_bytes d at old new r replied found = read_if (call_fails d 0) r replied found
  where
    read_if : (failed : Bool) (r : Result (Unit {0}) Failed) → r ≡ cond failed (Err (record {})) (Ok (tt {0})) → new ≡ cond failed old (window (content_of d) at (length old))
        → OnOk r (new ≡ window (content_of d) at (length new))
    read_if true r replied found = subst (λ r. OnOk r (new ≡ window (content_of d) at (length new))) (sym replied) (tt {0})
    read_if false r replied found =
        let size : length new ≡ length old = ap length found ∙ length-window (content_of d) at (length old) in
        subst (λ r. OnOk r (new ≡ window (content_of d) at (length new))) (sym replied) (found ∙ ap (λ n. window (content_of d) at n) (sym size))

-- a disk that did nothing yet has its content as its one image
pub fresh_image : (d : Drive) → d.log ≡ [] → (c : List ℕ) → LeftSince d 0 c → c ≡ content_of d
fresh_image d none c left =
    let start : Platter = record { content = d.first; synced = d.first; written = [] } in
    let log : take left.at d.log ≡ [] = ap (λ l. take left.at l) none ∙ take_all left.at [] (omega arith) in
    let image : IsImage start c = subst (λ l. IsImage (replayed d.first l) c) log left.image in
    only_content d.first c image ∙ sym (ap (λ l. (replayed d.first l).content) none)

-- what is said of Ok goes through `map_err`
pub through_map_err : {T E F : Type 0} (r : Result T E) (s : Result T F) (P : T → Type 0) (Q : E → Type 0) → MatchResult r (λ x. s ≡ Ok x) Q → is_ok s ≡ is_ok r → IfOk r P → IfOk s P
through_map_err (Ok x) s P Q e same p = subst (λ s. IfOk s P) (sym e) p
through_map_err (Err d) (Ok y) P Q e same p = absurd (cc)
through_map_err (Err d) (Err f) P Q e same p = tt {0}
