-- What changes with the kind of a page.
use Rattle.std.proofs.Common.{◌≡◌, ℕ, ◌+◌, ◌≤◌, ◌<◌, true, false, length, refl, sym, ap, ◌∙◌, inl, inr, arith, set}
use Rattle.std.proofs.lemmas.Bool.{cases_eq}
use Rattle.std.proofs.lemmas.List.{length-set}
use Rattle.opfs_work.specs.declared.pages.Page.{Page}
use Rattle.opfs_work.specs.declared.pages.Page.TheVariants.{Zero, Near, Clean, Far}
use Rattle.opfs_work.specs.Pages.{Table, page_at, page_byte, is_far, is_changed, is_held, as_kept, as_changed, one_near, IsSettled}
use Rattle.opfs_work.proofs.Places.{page_here, page_there}
use Rattle.opfs_work.proofs.Copying.{true_false}

-- ---- one page

pub changed-byte : (far : ℕ) (page : Page) (j : ℕ) → page_byte far (as_changed page) j ≡ page_byte far page j
changed-byte far Zero j = refl
changed-byte far (Near bytes) j = refl
changed-byte far (Clean bytes) j = refl
changed-byte far Far j = refl

pub changed-far : (page : Page) → is_far (as_changed page) ≡ is_far page
changed-far Zero = refl
changed-far (Near bytes) = refl
changed-far (Clean bytes) = refl
changed-far Far = refl

pub changed-one : (page : Page) → one_near (as_changed page) ≡ one_near page
changed-one Zero = refl
changed-one (Near bytes) = refl
changed-one (Clean bytes) = refl
changed-one Far = refl

pub changed-held : (page : Page) → is_held (as_changed page) ≡ is_far page
changed-held Zero = refl
changed-held (Near bytes) = refl
changed-held (Clean bytes) = refl
changed-held Far = refl

pub kept-byte : (far : ℕ) (page : Page) (j : ℕ) → page_byte far (as_kept page) j ≡ page_byte far page j
kept-byte far Zero j = refl
kept-byte far (Near bytes) j = refl
kept-byte far (Clean bytes) j = refl
kept-byte far Far j = refl

pub kept-one : (page : Page) → one_near (as_kept page) ≡ one_near page
kept-one Zero = refl
kept-one (Near bytes) = refl
kept-one (Clean bytes) = refl
kept-one Far = refl

pub kept-unchanged : (page : Page) → is_changed (as_kept page) ≡ false
kept-unchanged Zero = refl
kept-unchanged (Near bytes) = refl
kept-unchanged (Clean bytes) = refl
kept-unchanged Far = refl

pub changed-not_held : (page : Page) → is_changed page ≡ true → is_held page ≡ false
changed-not_held Zero is = absurd cc
changed-not_held (Near bytes) is = refl
changed-not_held (Clean bytes) is = absurd cc
changed-not_held Far is = absurd cc

pub far-unchanged : (page : Page) → is_far page ≡ true → is_changed page ≡ false
far-unchanged Zero is = refl
far-unchanged (Near bytes) is = absurd cc
far-unchanged (Clean bytes) is = refl
far-unchanged Far is = refl

-- ---- when a store has all

pub settled-byte : (old new : Page) (j : ℕ) → IsSettled old new → page_byte 0 old j ≡ 0 → page_byte 0 new j ≡ 0
settled-byte old new j is zero =
    elim (is_changed old) as (λ t. is_changed old ≡ t → page_byte 0 new j ≡ 0) [
      | true ↦ λ changed.
          elim (is.kept changed) [
            | inl kept ↦ ap (λ (p : Page). page_byte 0 p j) kept ∙ kept-byte 0 old j ∙ zero
            | inr far ↦ ap (λ (p : Page). page_byte 0 p j) far
          ]
      | false ↦ λ same. ap (λ (p : Page). page_byte 0 p j) (is.same same) ∙ zero
    ] refl

pub settled-unchanged : (old new : Page) → IsSettled old new → is_changed new ≡ false
settled-unchanged old new is =
    elim (is_changed old) as (λ t. is_changed old ≡ t → is_changed new ≡ false) [
      | true ↦ λ changed.
          elim (is.kept changed) [
            | inl kept ↦ ap is_changed kept ∙ kept-unchanged old
            | inr far ↦ ap is_changed far
          ]
      | false ↦ λ same. ap is_changed (is.same same) ∙ same
    ] refl

pub settled-same : (old new : Page) → is_changed old ≡ false → new ≡ old → IsSettled old new
settled-same old new unchanged same = record { kept = λ changed. absurd (true_false (sym changed ∙ unchanged)); same = λ _. same }

-- ---- runs of pages

-- the pages of a run went far, up to one
pub record HasForgotten (old now : Table) (from page : ℕ) : Type 0 where
  pub lengths : length now.pages ≡ length old.pages
  pub room : now.room ≡ old.room
  pub far : (k : ℕ) → from ≤ k → k < page → is_far (page_at now.pages k) ≡ true
  pub others : (k : ℕ) → (from ≤ k → k < page → ⊥) → page_at now.pages k ≡ page_at old.pages k

pub forgot_none : (old : Table) (from : ℕ) → HasForgotten old old from from
forgot_none old from = record { lengths = refl; room = refl; far = λ k above below. absurd (omega arith); others = λ k out. refl }

pub forgot_more : (old now new : Table) (from page : ℕ) → HasForgotten old now from page → from ≤ page → page < length now.pages → new ≡ record now { pages = set now.pages page Far } → HasForgotten old new from (page + 1)
forgot_more old now new from page is above there new_is =
    let pages : new.pages ≡ set now.pages page Far = ap (λ (t : Table). t.pages) new_is in
    record {
      lengths = ap length pages ∙ length-set now.pages page Far ∙ is.lengths;
      room = ap (λ (t : Table). t.room) new_is ∙ is.room;
      far = λ k from_it below.
          elim (cases_eq k page) [
            | inl here ↦ ap is_far (ap (page_at new.pages) here ∙ page_here now.pages new.pages page Far there pages)
            | inr apart ↦ ap is_far (page_there now.pages new.pages page k Far apart pages) ∙ is.far k from_it (omega arith)
          ];
      others = λ k out. page_there now.pages new.pages page k Far (λ here. out (omega arith) (omega arith)) pages ∙ is.others k (λ from_it below. out from_it (omega arith));
    }

-- the pages of a run were settled, up to one
pub record HasSettled (old now : Table) (from page : ℕ) : Type 0 where
  pub lengths : length now.pages ≡ length old.pages
  pub room : now.room ≡ old.room
  pub settled : (k : ℕ) → from ≤ k → k < page → IsSettled (page_at old.pages k) (page_at now.pages k)
  pub others : (k : ℕ) → (from ≤ k → k < page → ⊥) → page_at now.pages k ≡ page_at old.pages k

pub settled_none : (old : Table) (from : ℕ) → HasSettled old old from from
settled_none old from = record { lengths = refl; room = refl; settled = λ k above below. absurd (omega arith); others = λ k out. refl }

pub settled_more : (old now new : Table) (from page : ℕ) → HasSettled old now from page → from ≤ page → length new.pages ≡ length now.pages → new.room ≡ now.room
    → IsSettled (page_at now.pages page) (page_at new.pages page) → ((k : ℕ) → (k ≡ page → ⊥) → page_at new.pages k ≡ page_at now.pages k) → HasSettled old new from (page + 1)
settled_more old now new from page is above lengths rooms one others = record {
  lengths = lengths ∙ is.lengths;
  room = rooms ∙ is.room;
  settled = λ k from_it below.
      elim (cases_eq k page) [
        | inl here ↦
            let was : page_at now.pages page ≡ page_at old.pages page = is.others page (λ from_it below. omega arith) in
            let met : IsSettled (page_at old.pages page) (page_at new.pages page) = rw was at one in
            rw here met
        | inr apart ↦ rw (others k apart) (is.settled k from_it (omega arith))
      ];
  others = λ k out. others k (λ here. out (omega arith) (omega arith)) ∙ is.others k (λ from_it below. out from_it (omega arith));
}
