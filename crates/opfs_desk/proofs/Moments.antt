-- What a stop leaves at each moment, as a run goes on.
use Rattle.std.proofs.Common.{◌≡◌, ℕ, ◌+◌, ◌<◌, ◌≤◌, zero, suc, true, false, List, [], ◌∷◌, ◌++◌, map, length, take, refl, sym, ap, subst, ◌∙◌, inl, inr, append-nil, arith}
use Rattle.std.proofs.lemmas.Bool.{cases_lt, false≢true}
use Rattle.std.proofs.lemmas.List.{get_or_append_left, take-append-le, take_all}
use Rattle.opfs_base.specs.Texts.{Text}
use Rattle.opfs_books.specs.Laws.Fronts.{IsShownOnce}
use Rattle.opfs_books.proofs.laws.Fronts.{once-least, once-more}
use Rattle.opfs_commit.specs.Trail.{IsContentAt}
use Rattle.opfs_hist.specs.declared.entry.Entry.{Entry}
use Rattle.opfs_desk_steps.proofs.book_steps.Ways.{floor-more}
use Rattle.opfs_image.specs.Filling.{Stands}
use Rattle.opfs_laws.proofs.histories.Adding.{changes-append}
use Rattle.opfs_machine.specs.Changes.{Change, changes, changes_from, durable, evict, floor, floor_from, is_content}
use Rattle.opfs_machine.specs.Histories.{state_after}
use Rattle.opfs_machine.specs.Openings.{Opening, begun as opened}
use Rattle.opfs_outside.specs.Moments.{Elapses}
use Rattle.opfs_outside.specs.declared.disk.Disk.{Ghosts as DiskWords}
use Rattle.opfs_desk.specs.Moments.{IsKeptSince, KeepsContents, ShowsFronts}

-- ---- contents

least-from : (told : List Change) (last at : ℕ) → last ≤ at → last ≤ floor_from last at told
least-from [] last at le = omega arith
least-from (x ∷ xs) last at le =
    elim (is_content x) as (λ t. last ≤ elim t as (λ y. ℕ) [ true ↦ floor_from (at + 1) (at + 1) xs | false ↦ floor_from last (at + 1) xs ]) [
      | true ↦ let up = least-from xs (at + 1) (at + 1) (omega arith) in omega (arith, le, up)
      | false ↦ least-from xs last (at + 1) (omega (arith, le))
    ]

above-from : (told : List Change) (last at n : ℕ) → last ≤ at → IsContentAt told n → at + n + 1 ≤ floor_from last at told
above-from [] last at n le content = absurd (omega (arith, content.0))
above-from (x ∷ xs) last at zero le content =
    subst (λ t. at + 0 + 1 ≤ elim t as (λ y. ℕ) [ true ↦ floor_from (at + 1) (at + 1) xs | false ↦ floor_from last (at + 1) xs ]) (sym content.1)
    (let up = least-from xs (at + 1) (at + 1) (omega arith) in omega (arith, up))
above-from (x ∷ xs) last at (suc m) le content =
    elim (is_content x) as (λ t. at + suc m + 1 ≤ elim t as (λ y. ℕ) [ true ↦ floor_from (at + 1) (at + 1) xs | false ↦ floor_from last (at + 1) xs ]) [
      | true ↦ let up = above-from xs (at + 1) (at + 1) m (omega arith) (omega (arith, content.0), content.1) in omega (arith, up)
      | false ↦ let up = above-from xs last (at + 1) m (omega (arith, le)) (omega (arith, content.0), content.1) in omega (arith, up)
    ]

-- A content is below the floor.
pub content-above : (told : List Change) (n : ℕ) → IsContentAt told n → n + 1 ≤ floor told
content-above told n content = let up = above-from told 0 0 n (omega arith) content in omega (arith, up)

-- One of the first changes.
first-content : (told rest : List Change) (n : ℕ) → n < length told → IsContentAt (told ++ rest) n → IsContentAt told n
first-content told rest n lt content = (lt, sym (ap is_content (get_or_append_left told rest (evict []) n lt)) ∙ content.1)

-- A call's own content: what it stores is that alone, and is told last.
pub record IsLastContent (told own : List Change) (n : ℕ) : Type 0 where
  pub change : Change
  pub alone : own ≡ change ∷ []
  pub content : is_content change ≡ true
  pub last : n + 1 ≡ length told

own-content : (own : List Change) (n : ℕ) → length own ≤ 1 → IsContentAt own n → IsLastContent own own n
own-content [] n few content = absurd (omega (arith, content.0))
own-content (x ∷ []) zero few content = record { change = x; alone = refl; content = content.1; last = refl }
own-content (x ∷ []) (suc m) few content = absurd (omega (arith, content.0))
own-content (x ∷ y ∷ rest) n few content = absurd (omega (arith, few))

evicted-content : (gone : List Text) (own : List Change) (n : ℕ) → length own ≤ 1 → IsContentAt (map evict gone ++ own) n → IsLastContent (map evict gone ++ own) own n
evicted-content [] own n few content = own-content own n few content
evicted-content (u ∷ us) own zero few content = absurd (false≢true content.1)
evicted-content (u ∷ us) own (suc m) few content =
    let up = evicted-content us own m few (omega (arith, content.0), content.1) in
    record { change = up.change; alone = up.alone; content = up.content; last = omega (arith, up.last) }

pub last-content : (told : List Change) (gone : List Text) (own : List Change) (n : ℕ) → length own ≤ 1 → length told ≤ n → IsContentAt (told ++ (map evict gone ++ own)) n → IsLastContent (told ++ (map evict gone ++ own)) own n
last-content [] gone own n few le content = evicted-content gone own n few content
last-content (x ∷ xs) gone own zero few le content = absurd (omega (arith, le))
last-content (x ∷ xs) gone own (suc m) few le content =
    let up = last-content xs gone own m few (omega (arith, le)) (omega (arith, content.0), content.1) in
    record { change = up.change; alone = up.alone; content = up.content; last = omega (arith, up.last) }

-- ---- a step

module _ {D : Type 0} (w : DiskWords D) (o : Opening) (h more whole : List Entry) (is : whole ≡ h ++ more) (old new : D) (time : Elapses w.moment w.since old new)
    (way : (c : List ℕ) → w.since new (w.moment old) c → IsShownOnce o (floor (changes o h)) whole c) where
  grown : changes o whole ≡ changes o h ++ changes_from (state_after o h) more
  grown = ap (changes o) is ∙ changes-append (opened o) h more

  on-whole : (least : ℕ) (c : List ℕ) → IsShownOnce o least h c → IsShownOnce o least whole c
  on-whole least c once = subst (λ (es : List Entry). IsShownOnce o least es c) (sym is) (once-more o least h more c once)

  -- Images since the run began.
  pub fronts-on : (begun : D) → w.moment begun ≤ w.moment old → ShowsFronts w o h begun old → ShowsFronts w o whole begun new
  fronts-on begun later fronts c left = elim (time.split (w.moment begun) c later left) [
    | inl was ↦ on-whole 0 c (fronts c was)
    | inr now ↦ once-least o (floor (changes o h)) 0 whole c (omega arith) (way c now)
  ]

  -- A content of before.
  kept-on : (n : ℕ) → IsContentAt (changes o h) n → IsKeptSince (w.moment old) (w.since old) o h n → IsKeptSince (w.moment new) (w.since new) o whole n
  kept-on n content was = record {
    moment = was.moment;
    passed = omega (arith, was.passed, time.later);
    image = (was.image.0, time.keeps was.moment was.image.0 was.passed was.image.1, subst (λ (xs : List Change). Stands was.image.0 (durable o xs)) (sym front) was.image.2);
    since = λ c left. elim (time.split was.moment c was.passed left) [
      | inl before ↦ on-whole (n + 1) c (was.since c before)
      | inr now ↦ once-least o (floor (changes o h)) (n + 1) whole c (content-above (changes o h) n content) (way c now)
    ];
  }
    where
      front : take (n + 1) (changes o whole) ≡ take (n + 1) (changes o h)
      front = ap (λ (xs : List Change). take (n + 1) xs) grown ∙ take-append-le (n + 1) (changes o h) (changes_from (state_after o h) more) (let lt = content.0 in omega (arith, lt))

  -- Contents, where those that were told since are kept.
  pub keeps-on : KeepsContents w o h old → (w.crashes → (n : ℕ) → length (changes o h) ≤ n → IsContentAt (changes o whole) n → IsKeptSince (w.moment new) (w.since new) o whole n) → KeepsContents w o whole new
  keeps-on keeps told crashes n content = elim (cases_lt n (length (changes o h))) [
    | inl lt ↦ let was = first-content (changes o h) (changes_from (state_after o h) more) n lt (subst (λ (xs : List Change). IsContentAt xs n) grown content) in kept-on n was (keeps crashes n was)
    | inr le ↦ told crashes n le content
  ]

-- Nothing more was entered.
module _ {D : Type 0} (w : DiskWords D) (o : Opening) (h whole : List Entry) (same : whole ≡ h) (old new : D) (time : Elapses w.moment w.since old new)
    (way : (c : List ℕ) → w.since new (w.moment old) c → IsShownOnce o (floor (changes o h)) h c) where
  same-grown : whole ≡ h ++ []
  same-grown = same ∙ sym (append-nil h)

  way-whole : (c : List ℕ) → w.since new (w.moment old) c → IsShownOnce o (floor (changes o h)) whole c
  way-whole c left = subst (λ (es : List Entry). IsShownOnce o (floor (changes o h)) es c) (sym same) (way c left)

  pub fronts-still : (begun : D) → w.moment begun ≤ w.moment old → ShowsFronts w o h begun old → ShowsFronts w o whole begun new
  fronts-still = fronts-on w o h [] whole same-grown old new time way-whole

  pub keeps-still : KeepsContents w o h old → KeepsContents w o whole new
  keeps-still keeps =
      keeps-on w o h [] whole same-grown old new time way-whole keeps
      (λ crashes n le content. absurd (let lt = content.0 in let size = ap (λ (es : List Entry). length (changes o es)) same in omega (arith, lt, size, le)))

-- What stores nothing was entered, and the disk was not called.
module _ {D : Type 0} (w : DiskWords D) (o : Opening) (h more : List Entry) (now : D) where
  pub fronts-more : (begun : D) → ShowsFronts w o h begun now → ShowsFronts w o (h ++ more) begun now
  fronts-more begun fronts c left = once-more o 0 h more c (fronts c left)

  pub keeps-more : changes o (h ++ more) ≡ changes o h → KeepsContents w o h now → KeepsContents w o (h ++ more) now
  keeps-more same keeps crashes n content =
      let was = keeps crashes n (subst (λ (xs : List Change). IsContentAt xs n) same content) in
      record {
        moment = was.moment;
        passed = was.passed;
        image = (was.image.0, was.image.1, subst (λ (xs : List Change). Stands was.image.0 (durable o (take (n + 1) xs))) (sym same) was.image.2);
        since = λ c left. once-more o (n + 1) h more c (was.since c left);
      }

-- A content that is the last change, in the disk as it reads and in each image of now.
pub kept-now : {D : Type 0} (w : DiskWords D) (o : Opening) (h : List Entry) (n : ℕ) (now : D) → IsContentAt (changes o h) n → n + 1 ≡ length (changes o h) → w.since now (w.moment now) (w.content now) → Stands (w.content now) (durable o (changes o h))
    → ((c : List ℕ) → w.since now (w.moment now) c → IsShownOnce o (floor (changes o h)) h c) → IsKeptSince (w.moment now) (w.since now) o h n
kept-now w o h n now content last here stands shown = record {
  moment = w.moment now;
  passed = omega arith;
  image = (w.content now, here, subst (λ (xs : List Change). Stands (w.content now) (durable o xs)) (sym (take_all (n + 1) (changes o h) (omega (arith, last)))) stands);
  since = λ c left. once-least o (floor (changes o h)) (n + 1) h c (content-above (changes o h) n content) (shown c left);
}

-- Before anything is told.
pub keeps-none : {D : Type 0} (w : DiskWords D) (o : Opening) (h : List Entry) (now : D) → h ≡ [] → KeepsContents w o h now
keeps-none w o h now none crashes n content = absurd (let lt = content.0 in let e : length (changes o h) ≡ 0 = ap (λ (es : List Entry). length (changes o es)) none in omega (arith, lt, e))

pub fronts-none : {D : Type 0} (w : DiskWords D) (o : Opening) (h : List Entry) (begun now : D) → now ≡ begun → ((c : List ℕ) → w.since now (w.moment now) c → IsShownOnce o (floor (changes o h)) h c) → ShowsFronts w o h begun now
fronts-none w o h begun now same shown c left = once-least o (floor (changes o h)) 0 h c (omega arith) (shown c (subst (λ x. w.since now (w.moment x) c) (sym same) left))

-- A front of the history has no higher floor.
pub once-front : (o : Opening) (h front rest : List Entry) (c : List ℕ) → h ≡ front ++ rest → IsShownOnce o (floor (changes o h)) h c → IsShownOnce o (floor (changes o front)) h c
once-front o h front rest c is once =
    once-least o (floor (changes o h)) (floor (changes o front)) h c
    (let grown = ap floor (ap (changes o) is ∙ changes-append (opened o) front rest) in let up = floor-more (changes o front) (changes_from (state_after o front) rest) in omega (arith, grown, up)) once
