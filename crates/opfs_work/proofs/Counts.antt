-- How many pages are Near, as pages come, change and go.
use Rattle.std.proofs.Common.{◌≡◌, ℕ, ◌+◌, ◌-◌, ◌≤◌, ◌<◌, true, false, List, [], ◌∷◌, ◌++◌, length, set, refl, sym, ap, ◌∙◌, inl, inr, arith, length-append}
use Rattle.std.proofs.lemmas.Bool.{cases_lt}
use Rattle.std.proofs.lemmas.List.{set-set, length-set, get_or_past}
use Rattle.std.proofs.lemmas.List.Sums.{sum_by-set, sum_by-append, sum_by-cons}
use Rattle.opfs_work.specs.declared.pages.Page.{Page}
use Rattle.opfs_work.specs.declared.pages.Page.TheVariants.{Zero, Near, Clean, Far}
use Rattle.opfs_work.specs.Pages.{one_near, near_count, page_at, is_far}
use Rattle.opfs_work.specs.Kept.{IsKept}

pub one_near-le : (page : Page) → one_near page ≤ 1
one_near-le Zero = omega arith
one_near-le (Near bytes) = omega arith
one_near-le (Clean bytes) = omega arith
one_near-le Far = omega arith

pub near_count-none : near_count [] ≡ 0
unfolding near_count
near_count-none = refl

pub near_count-end : (pages : List Page) (last : Page) → near_count (pages ++ last ∷ []) ≡ near_count pages + one_near last
unfolding near_count
near_count-end pages last = omega (arith, sum_by-append one_near pages (last ∷ []), sum_by-cons one_near last [])

pub near_count-set : (pages : List Page) (k : ℕ) (page : Page) → k < length pages → near_count (set pages k page) + one_near (page_at pages k) ≡ near_count pages + one_near page
unfolding near_count
near_count-set pages k page within = sum_by-set one_near pages k page Zero within

pub near_count-le : (pages : List Page) → near_count pages ≤ length pages
unfolding near_count
near_count-le [] = omega arith
near_count-le (page ∷ pages) = omega (arith, sum_by-cons one_near page pages, one_near-le page, near_count-le pages)

-- ---- what a table keeps

pub kept_none : (pages : List Page) (places spare kept : ℕ) → pages ≡ [] → spare ≡ 0 → IsKept pages 0 0 places spare kept
kept_none pages places spare kept none no_spare = record {
  counted = sym (ap near_count none ∙ near_count-none);
  few = omega arith;
  within = rw none (omega arith);
  held = omega arith;
  small = omega arith;
  buffers = omega arith;
  returned = omega arith;
}

pub kept_push : (pages pages' : List Page) (page : Page) (near room places places' spare kept : ℕ) → IsKept pages near room places spare kept → pages' ≡ pages ++ page ∷ [] → one_near page ≡ 0 → length pages < room → places ≤ places'
    → IsKept pages' near room places' spare kept
kept_push pages pages' page near room places places' spare kept is new away more room_stays = record {
  counted = omega (arith, is.counted, ap near_count new, near_count-end pages page);
  few = is.few;
  within = rw new (omega (arith, length-append pages (page ∷ [])));
  held = omega (arith, is.held);
  small = is.small;
  buffers = is.buffers;
  returned = is.returned;
}

pub near_last : (pages front : List Page) (last : Page) (near : ℕ) → pages ≡ front ++ last ∷ [] → near ≡ near_count pages → near ≡ near_count front + one_near last
near_last pages front last near is counted = counted ∙ ap near_count is ∙ near_count-end front last

pub kept_drop : (pages front : List Page) (last : Page) (near room places spare spare' kept kept' : ℕ) → IsKept pages near room places spare kept → pages ≡ front ++ last ∷ []
    → spare' ≡ spare + one_near last → kept ≤ kept' → IsKept front (near - one_near last) room places spare' kept'
kept_drop pages front last near room places spare spare' kept kept' is parts more stays =
    let counted = near_last pages front last near parts is.counted in
    let shorter : length pages ≡ length front + 1 = ap length parts ∙ length-append front (last ∷ []) in
    record {
      counted = omega (arith, counted);
      few = omega (arith, is.few);
      within = omega (arith, is.within);
      held = is.held;
      small = is.small;
      buffers = omega (arith, is.buffers, counted);
      returned = omega (arith, is.returned, counted);
    }

-- a page is one of those that are counted
pub near_one : (pages : List Page) (k near room places spare kept : ℕ) → IsKept pages near room places spare kept → k < length pages → one_near (page_at pages k) ≤ near
near_one pages k near room places spare kept is there = omega (arith, is.counted, near_count-set pages k Far there)

-- one page was put in the place of another
pub kept_put : (pages pages' : List Page) (k : ℕ) (page : Page) (near near' room places places' spare spare' kept kept' : ℕ) → IsKept pages near room places spare kept
    → k < length pages → pages' ≡ set pages k page → near' + one_near (page_at pages k) ≡ near + one_near page → near' ≤ 256
    → spare' + one_near page ≡ spare + one_near (page_at pages k) → places ≤ places' → kept ≤ kept' → IsKept pages' near' room places' spare' kept'
kept_put pages pages' k page near near' room places places' spare spare' kept kept' is there both counts small spares stays stays' =
    let count : near_count pages' + one_near (page_at pages k) ≡ near_count pages + one_near page = ap (λ (ps : List Page). near_count ps + one_near (page_at pages k)) both ∙ near_count-set pages k page there in
    let same : length pages' ≡ length pages = ap length both ∙ length-set pages k page in
    record {
      counted = omega (arith, is.counted);
      few = small;
      within = omega (arith, is.within);
      held = omega (arith, is.held);
      small = is.small;
      buffers = omega (arith, is.buffers);
      returned = omega (arith, is.returned);
    }

-- one page was changed
pub kept_set : (pages between pages' : List Page) (k : ℕ) (gone page : Page) (near near' room places places' spare spare' kept kept' : ℕ) → IsKept pages near room places spare kept
    → k < length pages → between ≡ set pages k gone → pages' ≡ set between k page → near' + one_near (page_at pages k) ≡ near + one_near page → near' ≤ 256
    → spare' + one_near page ≡ spare + one_near (page_at pages k) → places ≤ places' → kept ≤ kept' → IsKept pages' near' room places' spare' kept'
kept_set pages between pages' k gone page near near' room places places' spare spare' kept kept' is there first second counts small spares stays stays' =
    kept_put pages pages' k page near near' room places places' spare spare' kept kept' is there (second ∙ ap (λ (ps : List Page). set ps k page) first ∙ set-set pages k gone page) counts small spares stays stays'

-- the count after one page was changed
pub near_count-changed : (pages between pages' : List Page) (k : ℕ) (gone page : Page) → k < length pages → between ≡ set pages k gone → pages' ≡ set between k page
    → near_count pages' + one_near (page_at pages k) ≡ near_count pages + one_near page
near_count-changed pages between pages' k gone page there first second =
    ap (λ (ps : List Page). near_count ps + one_near (page_at pages k)) (second ∙ ap (λ (ps : List Page). set ps k page) first ∙ set-set pages k gone page) ∙ near_count-set pages k page there

-- a buffer is there for one more Near page
pub one_spare : (pages : List Page) (k near room places spare kept : ℕ) → IsKept pages near room places spare kept → k < length pages → near_count pages < 256 + one_near (page_at pages k)
    → 1 ≤ spare + one_near (page_at pages k)
one_spare pages k near room places spare kept is there few =
    omega (arith, is.counted, is.buffers, is.within, one_near-le (page_at pages k), near_count-set pages k (Near []) there, near_count-le (set pages k (Near [])), length-set pages k (Near []))

pub false_true : false ≡ true → ⊥
false_true e = cc

-- a Far page is in the table, and not Near
pub far_there : (pages : List Page) (k : ℕ) → is_far (page_at pages k) ≡ true → k < length pages
far_there pages k far =
    elim (cases_lt k (length pages)) [
      | inl there ↦ there
      | inr past ↦ absurd (false_true (ap is_far (sym (get_or_past pages k Zero past)) ∙ far))
    ]

pub far_away : (page : Page) → is_far page ≡ true → one_near page ≡ 0
far_away Zero far = absurd cc
far_away (Near bytes) far = absurd cc
far_away (Clean bytes) far = absurd cc
far_away Far far = refl

-- a buffer is there for a page that comes
pub load_spare : (pages : List Page) (k near room places spare kept : ℕ) → IsKept pages near room places spare kept → is_far (page_at pages k) ≡ true → near_count pages < 256 → 0 < spare
load_spare pages k near room places spare kept is far few =
    let there = far_there pages k far in
    let away = far_away (page_at pages k) far in
    omega (arith, one_spare pages k near room places spare kept is there (omega arith))
