-- The blocks of a row whose content was stored.
use Rattle.std.proofs.Common.{◌≡◌, ℕ, zero, suc, ◌≤◌, ◌||◌, not, ◌&&◌, nat_eq, Bool, true, false, List, [], ◌∷◌, length, slice_index_or, unwrap_or, Option, Some, None, refl, sym, ap, subst, ◌∙◌, inl, inr, arith}
use Rattle.std.specs.List.{IsDistinct, range_with_len}
use Rattle.std.proofs.lemmas.Bool.{cases_eq, eq-eqb, eqb-true}
use Rattle.std.proofs.lemmas.Cmp.{nat_eq_equiv}
use Rattle.std.proofs.lemmas.List.{length-append}
use Rattle.std.proofs.lemmas.List.FromFn.{length-range_with_len}
use Rattle.std.proofs.lemmas.List.Sums.{sum_by-cons}
use Rattle.std.proofs.lemmas.Map.Made.{length-le_from_is_member}
use Rattle.opfs_base.specs.Places.{Place}
use Rattle.opfs_base.specs.declared.extents.Extent.{Extent}
use Rattle.opfs_blocks.specs.Sets.{blocks_of, marked}
use Rattle.opfs_data.specs.declared.page.Page.{Page}
use Rattle.opfs_data.specs.Pages.{blank}
use Rattle.opfs_data.specs.Rows.{Rows, IsOther, no_row, pages_at, row_of}
use Rattle.opfs_pages.specs.HistoryLaws.Laws.{BlocksGoOn}
use Rattle.opfs_pages.specs.HistoryLaws.Open.{file_in, open_at}
use Rattle.opfs_pages.specs.HistoryLaws.Spaced.{AreHolders, AreSpaced}
use Rattle.opfs_pages.proofs.history_laws.Holding.{holders_of, spaced-blocks}
use Rattle.opfs_desk_steps.proofs.book_steps.Evictions.{spaced-recorded, stored-named}
use Rattle.opfs_records.specs.Replay.Built.{block_count, has_block, is_once, named}
use Rattle.opfs_records.proofs.replay.Counts.{distinct_once}
use Rattle.opfs_pages.specs.RowCalls.Plans.{shelf}
use Rattle.opfs_records.specs.Checkpoint.Written.{stored_rows}
use Rattle.opfs_space.proofs.FileBlocks.{named_has}
use Rattle.opfs_space.proofs.Giving.{blocks_given, left_size}
use Rattle.opfs_space.specs.Files.{file_has}
use Rattle.opfs_space.specs.Holders.{AreBlocks, AreUnheld, HasPage, Holders}
use Rattle.opfs_space.specs.Room.{Machine}
use Rattle.opfs_space.specs.Spaces.{SpaceSeen, page_blocks, with_block}
use Rattle.opfs_tree.specs.Rows.{Rows as Tree}
use Rattle.opfs_desk_contents.specs.Blocks.{AreGone, ContentsKeepBlocks, IsContentIn}
use Rattle.opfs_desk_contents.specs.Commits.Steps.{space_left}

-- ---- each page's block is one of the content's

either : (a b : Bool) → b ≡ true → (a || b) ≡ true
either true b is = refl
either false b is = is

has-with : (o : Option ℕ) (bs : List ℕ) (b : ℕ) → has_block bs b ≡ true → has_block (with_block o bs) b ≡ true
has-with None bs b is = is
has-with (Some x) bs b is = either (nat_eq b x) (has_block bs b) is

page-has : (ps : List Page) (i b : ℕ) → (slice_index_or ps i blank).block ≡ Some b → has_block (page_blocks ps) b ≡ true
page-has [] i b is = absurd (none is)
  where
    none : ◌≡◌ {A = Option ℕ} None (Some b) → ⊥
    none e = cc
page-has (p ∷ ps) zero b is = subst (λ (o : Option ℕ). has_block (with_block o (page_blocks ps)) b ≡ true) (sym is) (ap (λ (t : Bool). t || has_block (page_blocks ps) b) (eq-eqb b b refl))
page-has (p ∷ ps) (suc i) b is = has-with p.block (page_blocks ps) b (page-has ps i b is)

with-most : (o : Option ℕ) (bs : List ℕ) → length (with_block o bs) ≤ suc (length bs)
with-most None bs = omega arith
with-most (Some x) bs = omega arith

most-blocks : (ps : List Page) → length (page_blocks ps) ≤ length ps
most-blocks [] = omega arith
most-blocks (p ∷ ps) = let rest = most-blocks ps in let one = with-most p.block (page_blocks ps) in omega (arith, rest, one)

count-runs : (es : List Extent) → length (blocks_of es) ≡ block_count es
count-runs [] = refl
count-runs (e ∷ es) = omega (arith, length-append (range_with_len e.start e.count) (blocks_of es), length-range_with_len e.start e.count, count-runs es, sum_by-cons (λ (x : Extent). x.count) e es)

-- Were one missing, there would be more blocks than pages.
one-more : (b : ℕ) (xs : List ℕ) → has_block xs b ≡ false → is_once xs ≡ true → is_once (b ∷ xs) ≡ true
one-more b xs none once = ap (λ (t : Bool). not t && is_once xs) none ∙ once

within-both : (b : ℕ) (xs ys : List ℕ) → has_block ys b ≡ true → ((x : ℕ) → has_block xs x ≡ true → has_block ys x ≡ true) → (x : ℕ) → has_block (b ∷ xs) x ≡ true → has_block ys x ≡ true
within-both b xs ys here each x is = by-test (nat_eq x b) refl is
  where
    by-test : (t : Bool) → nat_eq x b ≡ t → (t || has_block xs x) ≡ true → has_block ys x ≡ true
    by-test true same h = subst (λ (y : ℕ). has_block ys y ≡ true) (sym (eqb-true x b same)) here
    by-test false apart h = each x h

missing : (b : ℕ) (xs ys : List ℕ) → has_block xs b ≡ false → is_once xs ≡ true → has_block ys b ≡ true → ((x : ℕ) → has_block xs x ≡ true → has_block ys x ≡ true) → length ys ≤ length xs → ⊥
missing b xs ys none once here each most =
    let more : length (b ∷ xs) ≤ length ys = length-le_from_is_member nat_eq_equiv (b ∷ xs) ys (once_distinct-back (b ∷ xs) (one-more b xs none once)) (λ x is. within-both b xs ys here each x is) in
    omega (arith, more, most)
  where
    once_distinct-back : (zs : List ℕ) → is_once zs ≡ true → IsDistinct nat_eq zs
    once_distinct-back zs is = distinct_once zs is

not-false : (t : Bool) → (t ≡ false → ⊥) → t ≡ true
not-false true never = refl
not-false false never = absurd (never refl)

same-page : (p q : Rows) (k n i b : ℕ) → row_of k n q ≡ row_of k n p → HasPage q k n i b → HasPage p k n i b
same-page p q k n i b same has = sym (ap (λ o. (slice_index_or (unwrap_or o no_row).pages i blank).block) same) ∙ has

none-there : (q : Rows) (k n i b : ℕ) → row_of k n q ≡ None → HasPage q k n i b → ⊥
none-there q k n i b gone has = none (sym (ap (λ o. (slice_index_or (unwrap_or o no_row).pages i blank).block) gone) ∙ has)
  where
    none : ◌≡◌ {A = Option ℕ} None (Some b) → ⊥
    none e = cc

module _ (blocks : BlocksGoOn) (m t : Machine) (recorded u v : Tree) (p q : Rows) (space : SpaceSeen) (agent row pages : ℕ) (place : Place) (runs : List Extent) (is : IsContentIn m t recorded u v p q space agent row pages place runs) where
  of-content : (i b : ℕ) → HasPage p agent row i b → has_block (blocks_of runs) b ≡ true
  of-content i b has =
      let are = spaced-blocks m (shelf recorded u p) space is.spaced in
      let once = is.runs_are.once (λ j l x here there. are.apart agent row j l x here there) in
      let ps = pages_at agent row p in
      let most = most-blocks ps in
      let count = count-runs runs in
      let enough = is.runs_are.count is.plain in
      let size = is.plain.count in
      not-false (has_block (blocks_of runs) b) (λ none.
      missing b (blocks_of runs) (page_blocks ps) none once (page-has ps i b has) (λ x there. let page = is.runs_are.of_row x there in page-has ps page.0 x page.1) (omega (arith, most, count, enough, size)))

  contained : AreSpaced t (shelf (stored_rows v) v q) (record space { own = marked false (blocks_of runs) space.own })
  contained =
      blocks.stored m t (shelf (stored_rows u) u p) (shelf (stored_rows v) v q) agent row place runs space (record space { own = marked false (blocks_of runs) space.own })
      (record {
        file = is.file;
        others = is.others;
        limits = is.limits;
        order = is.order;
        order_now = is.order_now;
        nothing_kept = λ b has. ap (λ (xs : List ℕ). has_block xs b) (sym (stored-named u)) ∙ has;
        recorded = λ b. ap (λ (xs : List ℕ). has_block xs b) (stored-named v);
        changed = is.changed;
        of_row = is.runs_are.of_row;
        pages = λ k n i b apart has. same-page p q k n i b (is.stay k n apart) has;
        left = λ i b has. elim is.left [
          | inl gone ↦ absurd (none-there q agent row i b gone has)
          | inr stays ↦
              let there = same-page p q agent row i b stays.same has in
              (there, stays.file ∙ sym is.file, of-content i b there, stays.handle)
        ];
        streams = is.streams;
      })
      refl (spaced-recorded blocks m recorded u p space is.spaced)

  -- ---- blocks that nothing has any more

  module _ (gone : List Extent) (freed : AreGone m u agent row place true gone) where
    abbrev before : Holders
    before = holders_of m (shelf recorded u p)

    are : AreBlocks before space.used space.own
    are = spaced-blocks m (shelf recorded u p) space is.spaced

    again : (b : ℕ) (f : Option Place) → has_block (blocks_of gone) b ≡ true → file_has v f b ≡ true → has_block (blocks_of runs) b ≡ true
    again b f old now = elim (is.changed.came f b now) [
      | inl here ↦ here.1
      | inr was ↦
          let same : f ≡ Some place = are.once f (Some place) b was (freed.of_file b old) in
          is.changed.only b (subst (λ (g : Option Place). file_has v g b ≡ true) same now)
    ]

    recorded-again : (b : ℕ) → has_block (blocks_of gone) b ≡ true → has_block (named (stored_rows v)) b ≡ true → has_block (blocks_of runs) b ≡ true
    recorded-again b old now =
        let file = named_has v b is.order_now (ap (λ (xs : List ℕ). has_block xs b) (sym (stored-named v)) ∙ now) in
        again b file.0 old file.1

    own-page : (i b : ℕ) → HasPage q agent row i b → has_block (blocks_of runs) b ≡ true
    own-page i b has = elim is.left [
      | inl none ↦ absurd (none-there q agent row i b none has)
      | inr stays ↦ of-content i b (same-page p q agent row i b stays.same has)
    ]

    others-page : (k n i b : ℕ) → IsOther agent row k n → has_block (blocks_of gone) b ≡ true → HasPage q k n i b → ⊥
    others-page k n i b apart old has =
        let page = same-page p q k n i b (is.stay k n apart) has in
        let file = freed.of_file b old in
        let here = are.of_file k n i b page (are.inside b (are.held (Some place) b file)) in
        freed.nobody refl k n (are.once (file_in (open_at m k n)) (Some place) b here file) apart

    page-again : (k n i b : ℕ) → has_block (blocks_of gone) b ≡ true → HasPage q k n i b → has_block (blocks_of runs) b ≡ true
    page-again k n i b old has = elim (cases_eq k agent) [
      | inr apart ↦ absurd (others-page k n i b (λ same. apart same.0) old has)
      | inl mine ↦ elim (cases_eq n row) [
        | inr other ↦ absurd (others-page k n i b (λ same. other same.1) old has)
        | inl here ↦ own-page i b (subst (λ (j : ℕ). HasPage q agent j i b) here (subst (λ (l : ℕ). HasPage q l n i b) mine has))
      ]
    ]

    free-blocks : (h : Holders) → AreHolders t (shelf (stored_rows v) v q) h → AreUnheld h (blocks_of gone) (blocks_of runs)
    free-blocks h holds = record {
      recorded = λ b old now. recorded-again b old (sym (holds.recorded b) ∙ now);
      paged = λ k n i b old has. page-again k n i b old (subst (λ (r : Rows). HasPage r k n i b) holds.swap has);
    }

    given-back : AreSpaced t (shelf (stored_rows v) v q) (space_left true gone runs space)
    given-back =
        let size = left_size space.used (blocks_of gone) (blocks_of runs) in
        record {
          size = size ∙ contained.size;
          own_size = contained.own_size ∙ sym size;
          blocks = λ h holds. blocks_given h space.used (marked false (blocks_of runs) space.own) (blocks_of gone) (blocks_of runs) (contained.blocks h holds) (free-blocks h holds);
        }

  by-alone : (alone : Bool) (gone : List Extent) → AreGone m u agent row place alone gone → AreSpaced t (shelf (stored_rows v) v q) (space_left alone gone runs space)
  by-alone true gone freed = given-back gone freed
  by-alone false gone freed = contained

pub contents-keep : BlocksGoOn → ContentsKeepBlocks
contents-keep blocks m t recorded u v p q space agent row pages place runs is alone gone freed = by-alone blocks m t recorded u v p q space agent row pages place runs is alone gone freed
