-- What is kept goes on being kept.
use Rattle.std.proofs.Common.{◌≡◌, ℕ, ◌≤◌, List, ◌++◌, length, take, drop, sym, ap, subst, ◌∙◌, inl, inr, arith}
use Rattle.std.proofs.lemmas.List.{length-append, take-append-drop, take-append-le, take_all}
use Rattle.opfs_books.specs.Laws.Fronts.{IsShownOnce}
use Rattle.opfs_books.proofs.laws.Fronts.{once-least, once-more}
use Rattle.opfs_desk_steps.proofs.book_steps.Ways.{floor-more}
use Rattle.opfs_hist.specs.declared.entry.Entry.{Entry}
use Rattle.opfs_laws.proofs.histories.Adding.{changes-append}
use Rattle.opfs_machine.specs.Changes.{changes, changes_from, floor}
use Rattle.opfs_machine.specs.Histories.{state_after}
use Rattle.opfs_machine.specs.Openings.{Opening, begun as opened}
use Rattle.opfs_outside.specs.Moments.{Elapses}
use Rattle.opfs_outside.specs.declared.disk.Disk.{Ghosts as DiskWords}
use Rattle.opfs_desk.specs.Keeping.{IsKept}

-- a front of a history has no higher floor
front-floor : (o : Opening) (h : List Entry) (count : ℕ) → floor (changes o (take count h)) ≤ floor (changes o h)
front-floor o h count =
    let front = take count h in
    let rest = drop count h in
    let grown = ap floor (ap (changes o) (sym (take-append-drop count h)) ∙ changes-append (opened o) front rest) in
    let up = floor-more (changes o front) (changes_from (state_after o front) rest) in
    omega (arith, grown, up)

module _ {D : Type 0} (w : DiskWords D) (o : Opening) (h more whole : List Entry) (is : whole ≡ h ++ more) (count moment : ℕ) where
  abbrev least : ℕ
  least = floor (changes o (take count h))

  longer : length h ≤ length whole
  longer = let size = ap (λ (es : List Entry). length es) is ∙ length-append h more in omega (arith, size)

  same-front : count ≤ length h → take count h ≡ take count whole
  same-front le = sym (ap (λ (es : List Entry). take count es) is ∙ take-append-le count h more le)

  on-whole : (c : List ℕ) → IsShownOnce o least h c → IsShownOnce o least whole c
  on-whole c once = subst (λ (es : List Entry). IsShownOnce o least es c) (sym is) (once-more o least h more c once)

  as-whole : count ≤ length h → (c : List ℕ) → IsShownOnce o least whole c → IsShownOnce o (floor (changes o (take count whole))) whole c
  as-whole le c once = subst (λ (es : List Entry). IsShownOnce o (floor (changes o es)) whole c) (same-front le) once

  -- over a call
  pub kept-on : (old new : D) → Elapses w.moment w.since old new → ((c : List ℕ) → w.since new (w.moment old) c → IsShownOnce o (floor (changes o h)) whole c) → IsKept w o h old count moment → IsKept w o whole new count moment
  kept-on old new time way was = record {
    within = omega (arith, was.within, longer);
    passed = omega (arith, was.passed, time.later);
    since = λ c left. as-whole was.within c (elim (time.split moment c was.passed left) [
      | inl before ↦ on-whole c (was.since c before)
      | inr now ↦ once-least o (floor (changes o h)) least whole c (front-floor o h count) (way c now)
    ]);
  }

  -- where the disk was not called
  pub kept-there : (disk : D) → IsKept w o h disk count moment → IsKept w o whole disk count moment
  kept-there disk was = record {
    within = omega (arith, was.within, longer);
    passed = was.passed;
    since = λ c left. as-whole was.within c (on-whole c (was.since c left));
  }

-- What each image of now has is kept from now on.
pub kept-now-on : {D : Type 0} (w : DiskWords D) (o : Opening) (h : List Entry) (disk : D) → ((c : List ℕ) → w.since disk (w.moment disk) c → IsShownOnce o (floor (changes o h)) h c) → IsKept w o h disk (length h) (w.moment disk)
kept-now-on w o h disk shown = record {
  within = omega arith;
  passed = omega arith;
  since = λ c left. subst (λ (es : List Entry). IsShownOnce o (floor (changes o es)) h c) (sym (take_all (length h) h (omega arith))) (shown c left);
}
