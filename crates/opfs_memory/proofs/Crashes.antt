-- What a crash leaves, call by call.
use Rattle.std.proofs.Common.{◌≡◌, ℕ, ◌+◌, ◌-◌, ◌<◌, ◌≤◌, Bool, true, List, ◌∷◌, length, take, drop, inl, inr, sym, ◌∙◌, ap, subst, arith}
use Rattle.std.specs.Prelude.{slice_index}
use Rattle.std.proofs.lemmas.Bool.{cases_lt}
use Rattle.std.proofs.lemmas.Bool.Decides.{nat_tests}
use Rattle.opfs_outside.specs.Bytes.{window, Beside}
use Rattle.opfs_outside.specs.Windows.{length-window, slice_index-window, window_is}
use Rattle.opfs_memory.specs.Disks.{Overwritten}
use Rattle.opfs_memory.specs.Drives.{Wrote, Synced, Platter, after_event, is_written, IsImageOf}
use Rattle.opfs_memory.specs.DriveLaws.{is_written-more}

is_written-still : (ranges : List (ℕ × ℕ)) (at n i : ℕ) → is_written ((at, n) ∷ ranges) i ≡ true → Beside at n i → is_written ranges i ≡ true
is_written-still ranges at n i written (inl below) = grind (arith, nat_tests)
is_written-still ranges at n i written (inr past) = grind (arith, nat_tests)

module _ (p : Platter) (choice image new part : List ℕ) (at len : ℕ) (bytes : List ℕ) (done : Bool) (size : length bytes ≡ len) (fits : at + len ≤ length choice)
    (part_is : part ≡ take len (drop at choice)) (o : Overwritten at part image new) where
  part_window : part ≡ window choice at len
  part_window = part_is ∙ sym (window_is choice at len fits)

  part_size : length part ≡ len
  part_size = ap length part_window ∙ length-window choice at len

  inside : (i : ℕ) → at ≤ i → i < at + len → slice_index new i ≡ slice_index choice i
  inside i from to =
      let k = i - at in
      let e : at + k ≡ i = omega arith in
      let same : window new at len ≡ window choice at len = ap (λ n. window new at n) (sym part_size) ∙ o.written ∙ part_window in
      ap (λ j. slice_index new j) (sym e) ∙ sym (slice_index-window new at len k (omega arith)) ∙ ap (λ w. slice_index w k) same
      ∙ slice_index-window choice at len k (omega arith) ∙ ap (λ j. slice_index choice j) e

  beside : (i : ℕ) → Beside at len i → slice_index new i ≡ slice_index image i
  beside i b = o.elsewhere i (subst (λ n. Beside at n i) (sym part_size) b)

  pub crash_write : IsImageOf p choice image → IsImageOf (after_event p (Wrote at bytes done)) choice new
  crash_write was = record {
    size = o.size ∙ was.size;
    chosen = λ i written. elim (cases_lt i at) [
      | inl below ↦ beside i (inl below) ∙ was.chosen i (is_written-still p.written at (length bytes) i written (inl below))
      | inr above ↦ elim (cases_lt i (at + len)) [
        | inl to ↦ inside i above to
        | inr past ↦ beside i (inr past) ∙ was.chosen i (is_written-still p.written at (length bytes) i written (inr (omega (arith, size))))
      ]
    ];
    kept = λ i unwritten.
        let parts = is_written-more p.written at (length bytes) i unwritten in
        beside i (subst (λ n. Beside at n i) size parts.1) ∙ was.kept i parts.0;
  }

pub crash_sync : (p : Platter) (choice content : List ℕ) → content ≡ p.content → IsImageOf (after_event p Synced) choice content
crash_sync p choice content is = record { size = ap length is; chosen = λ i written. absurd (grind arith); kept = λ i unwritten. ap (λ c. slice_index c i) is }
