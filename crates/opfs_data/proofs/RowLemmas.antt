-- The pages of a row.
use Rattle.std.proofs.Common.{◌≡◌, ℕ, zero, suc, ◌+◌, ◌<◌, Some, None, List, [], ◌∷◌, ◌++◌, ◌⊎◌, length, get_or, set, inl, inr, refl, sym, ap, subst, ◌∙◌, append_assoc, arith}
use Rattle.std.specs.List.{AllByRecursion}
use Rattle.std.proofs.lemmas.Bool.{cases_eq}
use Rattle.std.proofs.lemmas.List.{length-set, get_or-set_same, get_or-set_other}
use Rattle.opfs_data.specs.declared.page.Page.{Page}
use Rattle.opfs_data.specs.Writes.{PageWrite}
use Rattle.opfs_data.specs.declared.page.SavedPage.{SavedPage}
use Rattle.opfs_outside.specs.Bytes.{Same}
use Rattle.opfs_data.specs.Places.{Aside}
use Rattle.opfs_data.specs.Pages.{page_of, blank, keep_at, with_kept, runs_of, IsAgain, HasAgain, IsSaved, AreSaved, AreNow, AreOwn, pages_from}
use Rattle.opfs_data.proofs.PageLemmas.{page_stays, page_kept}
use Rattle.opfs_data.proofs.RunLemmas.{all_at}

all_front : {X : Type 0} (P : X → Type 0) (xs ys : List X) → AllByRecursion P (xs ++ ys) → AllByRecursion P xs
all_front P [] ys all = tt
all_front P (x ∷ xs) ys all = (all.0, all_front P xs ys all.1)

all_last : {X : Type 0} (P : X → Type 0) (xs : List X) (x : X) → AllByRecursion P (xs ++ x ∷ []) → P x
all_last P [] x all = all.0
all_last P (y ∷ xs) x all = all_last P xs x all.1

kept_last : (xs : List SavedPage) (s : SavedPage) (pages : List Page) → with_kept (xs ++ s ∷ []) pages ≡ with_kept xs (keep_at pages s.page s.bytes)
kept_last [] s pages = refl
kept_last (x ∷ xs) s pages = ap (λ (ps : List Page). keep_at ps x.page x.bytes) (kept_last xs s pages)

same_default : (xs : List Page) (i : ℕ) (d e : Page) → i < length xs → get_or xs i d ≡ get_or xs i e
same_default [] i d e lt = absurd (omega arith)
same_default (x ∷ xs) zero d e lt = refl
same_default (x ∷ xs) (suc i) d e lt = same_default xs i d e (omega arith)

-- the last saved page is kept, and leaves the list
pub kept_step : (saved rest : List SavedPage) (s : SavedPage) (pages start : List Page) (q : Page) → saved ≡ rest ++ s ∷ [] → q ≡ get_or pages s.page q
    → AllByRecursion (λ t. t.page < length pages) saved → with_kept saved pages ≡ start
    → AllByRecursion (λ t. t.page < length (set pages s.page (record { block = q.block; kept = Some s.bytes }))) rest × (with_kept rest (set pages s.page (record { block = q.block; kept = Some s.bytes })) ≡ start)
kept_step saved rest s pages start q is here inside so_far =
    let all : AllByRecursion (λ (t : SavedPage). t.page < length pages) (rest ++ s ∷ []) = subst (AllByRecursion (λ (t : SavedPage). t.page < length pages)) is inside in
    let lt : s.page < length pages = all_last (λ (t : SavedPage). t.page < length pages) rest s all in
    let p : Page = record { block = q.block; kept = Some s.bytes } in
    let same : set pages s.page p ≡ keep_at pages s.page s.bytes = ap (λ (v : Page). set pages s.page (record { block = v.block; kept = Some s.bytes })) (here ∙ same_default pages s.page q blank lt) in (
      subst (λ (n : ℕ). AllByRecursion (λ (t : SavedPage). t.page < n) rest) (sym (length-set pages s.page p)) (all_front (λ (t : SavedPage). t.page < length pages) rest (s ∷ []) all),
      ap (λ (ps : List Page). with_kept rest ps) same ∙ sym (kept_last rest s pages) ∙ ap (λ (l : List SavedPage). with_kept l pages) (sym is) ∙ so_far,
    )

-- ---- what is kept of a row

pub length-with_kept : (saved : List SavedPage) (pages : List Page) → length (with_kept saved pages) ≡ length pages
length-with_kept [] pages = refl
length-with_kept (s ∷ saved) pages = length-set (with_kept saved pages) s.page (record (get_or (with_kept saved pages) s.page blank) { kept = Some s.bytes }) ∙ length-with_kept saved pages

pub kept_other : (saved : List SavedPage) (pages : List Page) (j : ℕ) → (IsSaved saved j → ⊥) → get_or (with_kept saved pages) j blank ≡ get_or pages j blank
kept_other [] pages j none = refl
kept_other (s ∷ saved) pages j none =
    get_or-set_other (with_kept saved pages) s.page j (record (get_or (with_kept saved pages) s.page blank) { kept = Some s.bytes }) blank (λ is. none (inl (sym is)))
    ∙ kept_other saved pages j (λ more. none (inr more))

-- a page is as it was, or has its bytes kept
record IsKept (c : List ℕ) (base : ℕ) (old new : Page) : Type 0 where
  bytes : List ℕ
  kept : new.kept ≡ Some bytes
  same : bytes ≡ page_of c base old

kept_at : (c : List ℕ) (base : ℕ) (saved : List SavedPage) (pages : List Page) (j : ℕ) → j < length pages → AreNow c base pages saved
    → ((get_or (with_kept saved pages) j blank ≡ get_or pages j blank) × (IsSaved saved j → ⊥)) ⊎ IsKept c base (get_or pages j blank) (get_or (with_kept saved pages) j blank)
kept_at c base [] pages j lt now = inl (refl, λ never. never)
kept_at c base (s ∷ saved) pages j lt now =
    let before = with_kept saved pages in
    let p : Page = record (get_or before s.page blank) { kept = Some s.bytes } in
    elim (cases_eq s.page j) [
      | inl is ↦
          let at_s : get_or (set before s.page p) s.page blank ≡ p = get_or-set_same before s.page p blank (omega (arith, length-with_kept saved pages)) in
          let here : get_or (set before s.page p) j blank ≡ p = ap (λ (k : ℕ). get_or (set before s.page p) k blank) (sym is) ∙ at_s in
          inr (record { bytes = s.bytes; kept = ap (λ (v : Page). v.kept) here; same = now.0 ∙ ap (λ (k : ℕ). page_of c base (get_or pages k blank)) is })
      | inr other ↦
          let here : get_or (set before s.page p) j blank ≡ get_or before j blank = get_or-set_other before s.page j p blank (λ is. other (sym is)) in
          elim (kept_at c base saved pages j lt now.1) [
            | inl same ↦ inl (here ∙ same.0, λ there. elim there [ inl is ↦ other is | inr more ↦ same.1 more ])
            | inr kept ↦ inr (record { bytes = kept.bytes; kept = ap (λ (v : Page). v.kept) here ∙ kept.kept; same = kept.same })
          ]
    ]

-- after a write that may have failed each page is as before
pub left_all : (c c' : List ℕ) (base : ℕ) (saved : List SavedPage) (pages : List Page) (ws : List PageWrite) → AreNow c base pages saved → AreSaved saved pages ws → AreOwn pages ws
    → Same (Aside base (runs_of ws)) c' c → (j : ℕ) → j < length pages → page_of c' base (get_or (with_kept saved pages) j blank) ≡ page_of c base (get_or pages j blank)
left_all c c' base saved pages ws now all own same j lt = elim (kept_at c base saved pages j lt now) [
  | inl was ↦
      ap (λ (v : Page). page_of c' base v) was.0
      ∙ page_stays c c' base ws (get_or pages j blank) same (λ k e within kept block.
      let at_page : j ≡ (get_or ws k e).page = own k j e within lt block in
      was.1 (subst (IsSaved saved) (sym at_page) (all_at (λ (w : PageWrite). IsAgain pages w → IsSaved saved w.page) ws k e within all.all (omega (arith, at_page), ap (λ (n : ℕ). (get_or pages n blank).block) (sym at_page) ∙ block))))
  | inr kept ↦ page_kept c' base (get_or (with_kept saved pages) j blank) kept.bytes kept.kept ∙ kept.same
]

-- ---- saving, page after page

saved_left : (xs : List SavedPage) (s : SavedPage) (page : ℕ) → IsSaved xs page → IsSaved (xs ++ s ∷ []) page
saved_left [] s page there = absurd there
saved_left (x ∷ xs) s page there = elim there [ inl is ↦ inl is | inr more ↦ inr (saved_left xs s page more) ]

saved_last : (xs : List SavedPage) (s : SavedPage) → IsSaved (xs ++ s ∷ []) s.page
saved_last [] s = inl refl
saved_last (x ∷ xs) s = inr (saved_last xs s)

saved_split : (xs : List SavedPage) (s : SavedPage) (page : ℕ) → IsSaved (xs ++ s ∷ []) page → IsSaved xs page ⊎ (s.page ≡ page)
saved_split [] s page there = elim there [ inl is ↦ inr is | inr never ↦ absurd never ]
saved_split (x ∷ xs) s page there = elim there [
  | inl is ↦ inl (inl is)
  | inr more ↦ elim (saved_split xs s page more) [ inl left ↦ inl (inr left) | inr is ↦ inr is ]
]

append_end : {X : Type 0} (xs : List X) → xs ++ [] ≡ xs
append_end {X = X} [] = refl
append_end {X = X} (x ∷ xs) = ap (λ (l : List X). x ∷ l) (append_end xs)

all_push : {X : Type 0} (P : X → Type 0) (xs : List X) (x : X) → AllByRecursion P xs → P x → AllByRecursion P (xs ++ x ∷ [])
all_push P [] x all here = (here, tt)
all_push P (y ∷ xs) x all here = (all.0, all_push P xs x all.1 here)

again_left : (pages : List Page) (ws : List PageWrite) (w : PageWrite) (page : ℕ) → HasAgain pages ws page → HasAgain pages (ws ++ w ∷ []) page
again_left pages [] w page there = absurd there
again_left pages (v ∷ ws) w page there = elim there [ inl is ↦ inl is | inr more ↦ inr (again_left pages ws w page more) ]

again_last : (pages : List Page) (ws : List PageWrite) (w : PageWrite) → IsAgain pages w → HasAgain pages (ws ++ w ∷ []) w.page
again_last pages [] w again = inl (refl, again)
again_last pages (v ∷ ws) w again = inr (again_last pages ws w again)

all_change : {X : Type 0} (P Q : X → Type 0) → ((x : X) → P x → Q x) → (xs : List X) → AllByRecursion P xs → AllByRecursion Q xs
all_change P Q f [] all = tt
all_change P Q f (x ∷ xs) all = (f x all.0, all_change P Q f xs all.1)

pub saved_none : (pages : List Page) → AreSaved [] pages []
saved_none pages = record { all = tt; inside = tt; only = tt }

pub saved_skip : (saved : List SavedPage) (pages : List Page) (ws : List PageWrite) (w : PageWrite) → (IsAgain pages w → ⊥) → AreSaved saved pages ws → AreSaved saved pages (ws ++ w ∷ [])
saved_skip saved pages ws w never before = record {
  all = all_push (λ (v : PageWrite). IsAgain pages v → IsSaved saved v.page) ws w before.all (λ again. absurd (never again));
  inside = before.inside;
  only = all_change (λ (s : SavedPage). HasAgain pages ws s.page) (λ (s : SavedPage). HasAgain pages (ws ++ w ∷ []) s.page) (λ s there. again_left pages ws w s.page there) saved before.only;
}

pub saved_push : (saved : List SavedPage) (pages : List Page) (ws : List PageWrite) (w : PageWrite) (s : SavedPage) → IsAgain pages w → s.page ≡ w.page
    → AreSaved saved pages ws → AreSaved (saved ++ s ∷ []) pages (ws ++ w ∷ [])
saved_push saved pages ws w s again at_page before = record {
  all = all_push (λ (v : PageWrite). IsAgain pages v → IsSaved (saved ++ s ∷ []) v.page) ws w
      (all_change (λ (v : PageWrite). IsAgain pages v → IsSaved saved v.page) (λ (v : PageWrite). IsAgain pages v → IsSaved (saved ++ s ∷ []) v.page) (λ v there again'. saved_left saved s v.page (there again')) ws before.all)
      (λ _. subst (IsSaved (saved ++ s ∷ [])) at_page (saved_last saved s));
  inside = all_push (λ (t : SavedPage). t.page < length pages) saved s before.inside (omega (arith, again.0, at_page));
  only = all_push (λ (t : SavedPage). HasAgain pages (ws ++ w ∷ []) t.page) saved s
      (all_change (λ (t : SavedPage). HasAgain pages ws t.page) (λ (t : SavedPage). HasAgain pages (ws ++ w ∷ []) t.page) (λ t there. again_left pages ws w t.page there) saved before.only)
      (subst (HasAgain pages (ws ++ w ∷ [])) (sym at_page) (again_last pages ws w again));
}

-- more pages, none of which is written again in its own block
pub saved_more : (saved : List SavedPage) (pages : List Page) (ws more : List PageWrite) → AllByRecursion (λ w. IsAgain pages w → ⊥) more → AreSaved saved pages ws → AreSaved saved pages (ws ++ more)
saved_more saved pages ws [] never before = subst (AreSaved saved pages) (sym (append_end ws)) before
saved_more saved pages ws (w ∷ more) never before =
    subst (AreSaved saved pages) (append_assoc ws (w ∷ []) more) (saved_more saved pages (ws ++ w ∷ []) more never.1 (saved_skip saved pages ws w never.0 before))

-- a page that is not written again in its own block is not saved
pub saved_again : (saved : List SavedPage) (pages : List Page) (ws : List PageWrite) (page : ℕ) → AllByRecursion (λ s. HasAgain pages ws s.page) saved → IsSaved saved page → HasAgain pages ws page
saved_again [] pages ws page only there = absurd there
saved_again (s ∷ saved) pages ws page only there = elim there [ inl is ↦ subst (HasAgain pages ws) is only.0 | inr more ↦ saved_again saved pages ws page only.1 more ]

pub now_push : (c : List ℕ) (base : ℕ) (pages : List Page) (saved : List SavedPage) (s : SavedPage) (p : Page) → AreNow c base pages saved → p ≡ get_or pages s.page p → s.page < length pages → s.bytes ≡ page_of c base p
    → AreNow c base pages (saved ++ s ∷ [])
now_push c base pages saved s p now is lt bytes =
    all_push (λ (t : SavedPage). t.bytes ≡ page_of c base (get_or pages t.page blank)) saved s now
    (bytes ∙ ap (λ (v : Page). page_of c base v) (is ∙ same_default pages s.page p blank lt))

-- one block more of a run
pub pages_more : (start k : ℕ) → pages_from start (k + 1) ≡ pages_from start k ++ (record { block = Some (start + k); kept = None }) ∷ []
pages_more start zero = let e : start + 0 ≡ start = omega arith in rw e refl
pages_more start (suc k) =
    let e : suc k + 1 ≡ suc (k + 1) = omega arith in
    let f : start + 1 + k ≡ start + suc k = omega arith in
    ap (λ (n : ℕ). pages_from start n) e
    ∙ ap (λ (ps : List Page). (record { block = Some start; kept = None }) ∷ ps) (pages_more (start + 1) k)
    ∙ ap (λ (n : ℕ). (record { block = Some start; kept = None }) ∷ (pages_from (start + 1) k ++ (record { block = Some n; kept = None }) ∷ [])) f

-- blocks stay where bytes are kept
pub kept_block : (saved : List SavedPage) (pages : List Page) (j : ℕ) → AllByRecursion (λ s. s.page < length pages) saved → (get_or (with_kept saved pages) j blank).block ≡ (get_or pages j blank).block
kept_block [] pages j inside = refl
kept_block (s ∷ saved) pages j inside =
    let before = with_kept saved pages in
    let p : Page = record (get_or before s.page blank) { kept = Some s.bytes } in
    elim (cases_eq s.page j) [
      | inl is ↦
          let at_s : get_or (set before s.page p) s.page blank ≡ p = get_or-set_same before s.page p blank (omega (arith, length-with_kept saved pages, inside.0)) in
          ap (λ (k : ℕ). (get_or (set before s.page p) k blank).block) (sym is) ∙ ap (λ (v : Page). v.block) at_s ∙ ap (λ (k : ℕ). (get_or before k blank).block) is ∙ kept_block saved pages j inside.1
      | inr other ↦ ap (λ (v : Page). v.block) (get_or-set_other before s.page j p blank (λ is. other (sym is))) ∙ kept_block saved pages j inside.1
    ]
