-- A table to which pages are added, or from which pages are taken, one by one.
use Rattle.std.proofs.Common.{◌≡◌, ℕ, ◌≤◌, ◌<◌, max, true, List, [], ◌∷◌, ◌++◌, length, take, sym, ap, ◌∙◌, inl, inr, arith, length-append}
use Rattle.std.proofs.lemmas.Bool.{cases_lt, cases_eq}
use Rattle.std.proofs.lemmas.List.{get_or_append_left, get_or_past}
use Rattle.std.proofs.Math.Seq.{get_or-append_seam}
use Rattle.opfs_work.specs.declared.pages.Page.{Page}
use Rattle.opfs_work.specs.declared.pages.Page.TheVariants.{Zero, Far}
use Rattle.opfs_work.specs.Pages.{Table, page_at, near_count, is_far}
use Rattle.opfs_work.proofs.Counts.{near_count-end}

-- Zero pages were added, and the count is not passed.
pub record IsStretched (old now : Table) (count : ℕ) : Type 0 where
  pub longer : length old.pages ≤ length now.pages
  pub within : length now.pages ≤ max (length old.pages) count
  pub room : now.room ≡ old.room
  pub same : (k : ℕ) → page_at now.pages k ≡ page_at old.pages k
  pub near : near_count now.pages ≡ near_count old.pages

pub page_at-end : (pages : List Page) (page : Page) (k : ℕ) → k ≡ length pages → page_at (pages ++ page ∷ []) k ≡ page
page_at-end pages page k is = ap (page_at (pages ++ page ∷ [])) is ∙ get_or-append_seam pages page [] Zero

pub page_at-zero : (pages : List Page) (k : ℕ) → page_at (pages ++ Zero ∷ []) k ≡ page_at pages k
page_at-zero pages k =
    elim (cases_lt k (length pages)) [
      | inl below ↦ get_or_append_left pages (Zero ∷ []) Zero k below
      | inr past ↦
          elim (cases_eq k (length pages)) [
            | inl is ↦ page_at-end pages Zero k is ∙ sym (get_or_past pages k Zero past)
            | inr apart ↦ get_or_past (pages ++ Zero ∷ []) k Zero (omega (arith, length-append pages (Zero ∷ []))) ∙ sym (get_or_past pages k Zero past)
          ]
    ]

pub stretched_more : (old now new : Table) (count : ℕ) → IsStretched old now count → length now.pages < count → new ≡ record now { pages = now.pages ++ Zero ∷ [] } → IsStretched old new count
stretched_more old now new count is less new_is =
    rw new_is
    record {
      longer = omega (arith, length-append now.pages (Zero ∷ []), is.longer);
      within = omega (arith, length-append now.pages (Zero ∷ []), is.within);
      room = is.room;
      same = λ k. page_at-zero now.pages k ∙ is.same k;
      near = omega (arith, near_count-end now.pages Zero, is.near);
    }

-- Far pages were added.
pub record IsFilled (old now : Table) (count : ℕ) : Type 0 where
  pub longer : length old.pages ≤ length now.pages
  pub within : length now.pages ≤ max (length old.pages) count
  pub room : now.room ≡ old.room
  pub far : (k : ℕ) → length old.pages ≤ k → k < length now.pages → is_far (page_at now.pages k) ≡ true
  pub same : (k : ℕ) → k < length old.pages → page_at now.pages k ≡ page_at old.pages k
  pub near : near_count now.pages ≡ near_count old.pages

pub filled_more : (old now new : Table) (count : ℕ) → IsFilled old now count → length now.pages < count → new ≡ record now { pages = now.pages ++ Far ∷ [] } → IsFilled old new count
filled_more old now new count is less new_is =
    rw new_is
    record {
      longer = omega (arith, length-append now.pages (Far ∷ []), is.longer);
      within = omega (arith, length-append now.pages (Far ∷ []), is.within);
      room = is.room;
      far = λ k from below.
          elim (cases_lt k (length now.pages)) [
            | inl inside ↦ ap is_far (get_or_append_left now.pages (Far ∷ []) Zero k inside) ∙ is.far k from inside
            | inr past ↦ ap is_far (page_at-end now.pages Far k (omega (arith, length-append now.pages (Far ∷ []))))
          ];
      same = λ k below. get_or_append_left now.pages (Far ∷ []) Zero k (omega (arith, is.longer)) ∙ is.same k below;
      near = omega (arith, near_count-end now.pages Far, is.near);
    }

-- Pages were taken from the end.
pub record IsCut (old now : Table) (count : ℕ) : Type 0 where
  pub least : count ≤ length now.pages
  pub cut : now ≡ record old { pages = take (length now.pages) old.pages }
