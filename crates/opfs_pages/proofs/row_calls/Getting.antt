-- How the blocks stay right while a put is planned.
use Rattle.std.proofs.Common.{◌≡◌, ℕ, ◌+◌, ◌*◌, ◌^◌, ◌≤◌, Bool, true, false, List, [], length, get_or, unwrap_or, Some, refl, sym, ap, subst, ◌∙◌, inl, inr}
use Rattle.std.specs.List.{AllByRecursion}
use Rattle.opfs_base.specs.declared.extents.Extent.{Extent}
use Rattle.opfs_blocks.specs.Sets.{Used, blocks_of}
use Rattle.opfs_data.specs.Rows.{Rows, pages_at, no_row}
use Rattle.opfs_data.specs.Pages.{blank, LiesIn}
use Rattle.opfs_data.specs.Writes.{PageWrite, WriteList, page_writes, page_moves}
use Rattle.opfs_pages.specs.Writing.Puts.{HasSamePages, IsTaken}
use Rattle.opfs_pages.proofs.writing.Gotten.{gotten-mine, gotten-placed, taken-right}
use Rattle.opfs_records.specs.Replay.Built.{named, has_block}
use Rattle.opfs_space.specs.Holders.{HasPage, AreBlocks, AreSwept}
use Rattle.opfs_space.specs.Plans.{ArePlanned, own_block, if_own}
use Rattle.opfs_space.specs.Room.{Machine}
use Rattle.opfs_space.specs.Spaces.{SpaceSeen}
use Rattle.opfs_space.proofs.Enough.{look_exact}
use Rattle.opfs_space.proofs.Keeping.{blocks_looked}
use Rattle.opfs_space.proofs.Taking.{marked_size}
use Rattle.opfs_tree.specs.Rows.{Rows as Tree}
use Rattle.opfs_pages.specs.HistoryLaws.Open.{open_at}
use Rattle.opfs_pages.specs.HistoryLaws.Spaced.{Shelf, AreSpaced}
use Rattle.opfs_pages.proofs.history_laws.Begun.{other-or}
use Rattle.opfs_pages.proofs.history_laws.Holding.{holders_of, are-holders, spaced-blocks, blocks-spaced}
use Rattle.opfs_pages.proofs.history_laws.Spacing.{spaced-stays, stays-same}
use Rattle.opfs_pages.specs.RowCalls.Plans.{shelf, KnowsOwn, HaveBlocks, WaitForBlocks, AreGotten, HasTaken}

-- ---- the same pages

pub same-twice : (agent row : ℕ) (old mid new : Rows) → HasSamePages agent row old mid → HasSamePages agent row mid new → HasSamePages agent row old new
same-twice agent row old mid new first second = record {
  there = second.there;
  same = second.same ∙ first.same;
  others = λ a r apart. second.others a r apart ∙ first.others a r apart;
  kept = second.kept ∙ first.kept;
}

pub pages-same : (agent row : ℕ) (old new : Rows) → HasSamePages agent row old new → (k n : ℕ) → pages_at k n new ≡ pages_at k n old
pages-same agent row old new is k n = elim (other-or agent row k n) [
  | inl apart ↦ ap (λ o. (unwrap_or o no_row).pages) (is.others k n apart)
  | inr here ↦ subst (λ (r : ℕ). pages_at k r new ≡ pages_at k r old) (sym here.1) (subst (λ (a : ℕ). pages_at a row new ≡ pages_at a row old) (sym here.0) is.same)
]

page-same : (agent row : ℕ) (old new : Rows) → HasSamePages agent row old new → (k n i b : ℕ) → HasPage new k n i b → HasPage old k n i b
page-same agent row old new is k n i b has = subst (λ ps. (get_or ps i blank).block ≡ Some b) (pages-same agent row old new is k n) has

page-back : (agent row : ℕ) (old new : Rows) → HasSamePages agent row old new → (k n i b : ℕ) → HasPage old k n i b → HasPage new k n i b
page-back agent row old new is k n i b has = subst (λ ps. (get_or ps i blank).block ≡ Some b) (sym (pages-same agent row old new is k n)) has

pub spaced-same : (m : Machine) (recorded tree : Tree) (old new : Rows) (space : SpaceSeen) (agent row : ℕ) → HasSamePages agent row old new → AreSpaced m (shelf recorded tree old) space → AreSpaced m (shelf recorded tree new) space
spaced-same m recorded tree old new space agent row is was =
    spaced-stays m m (shelf recorded tree old) (shelf recorded tree new) space 0 0 was
    (record { others = λ k n apart. refl; here = stays-same (open_at m 0 0) (open_at m 0 0) refl; limits = refl })
    (record { recorded = record { named = λ b. refl; has = λ f b. refl }; tree = record { named = λ b. refl; has = λ f b. refl } })
    (λ k n i b has. page-same agent row old new is k n i b has)

-- ---- blocks taken

pub spaced-taken : (m : Machine) (s : Shelf) (old new : SpaceSeen) (count : ℕ) (extents : List Extent) → IsTaken old new count extents → AreSpaced m s old → AreSpaced m s new
spaced-taken m s old new count extents is was = record {
  size = ap (λ (x : SpaceSeen). length x.used) is.taken ∙ marked_size true (blocks_of extents) old.used ∙ was.size;
  own_size = ap (λ (x : SpaceSeen). length x.own) is.taken ∙ marked_size true (blocks_of extents) old.own ∙ was.own_size
      ∙ sym (ap (λ (x : SpaceSeen). length x.used) is.taken ∙ marked_size true (blocks_of extents) old.used);
  blocks = blocks-spaced m s new.used new.own (taken-right (holders_of m s) old new count extents (spaced-blocks m s old was) was.own_size is);
}

-- ---- a look

pub spaced-looked : (m : Machine) (s : Shelf) (old new : SpaceSeen) → new.used ≡ old.used → length new.own ≡ length new.used → AreSwept (length old.used) (has_block (named s.tree)) s.swap new.seen new.own → AreSpaced m s old → AreSpaced m s new
spaced-looked m s old new used own swept was = record {
  size = ap length used ∙ was.size;
  own_size = own;
  blocks = blocks-spaced m s new.used new.own (subst (λ (u : Used). AreBlocks (holders_of m s) u new.own) (sym used)
      (blocks_looked (holders_of m s) (length old.used) new.seen new.own swept old.used old.own (spaced-blocks m s old was) refl));
}

pub looked-exact : (m : Machine) (s : Shelf) (old new : SpaceSeen) (agent row : ℕ) → AreSwept (length old.used) (has_block (named s.tree)) s.swap new.seen new.own → AreSpaced m s old → KnowsOwn m s new.own agent row
looked-exact m s old new agent row swept was h is =
    look_exact h old.used old.own new.own new.seen (was.blocks h is)
    (subst (λ (r : Rows). AreSwept (length old.used) h.rows r new.seen new.own) (sym is.swap)
    (subst (λ (f : ℕ → Bool). AreSwept (length old.used) f s.swap new.seen new.own) (λ i b. sym (is.rows b) i) swept)) agent row

-- what is known exactly of pages is known of the same pages
exact-same : (m : Machine) (recorded tree : Tree) (old new : Rows) (own : Used) (agent row a r : ℕ) → HasSamePages a r old new → KnowsOwn m (shelf recorded tree old) own agent row → KnowsOwn m (shelf recorded tree new) own agent row
exact-same m recorded tree old new own agent row a r same known h is i b has none alone =
    known (holders_of m (shelf recorded tree old)) (are-holders m (shelf recorded tree old)) i b
    (page-same a r old new same agent row i b (subst (λ (x : Rows). HasPage x agent row i b) is.swap has))
    (sym (is.rows b) ∙ none)
    (λ l n j apart there. alone l n j apart (subst (λ (x : Rows). HasPage x l n j b) (sym is.swap) (page-back a r old new same l n j b there)))

-- the plan over the same pages
own-same : (own : Used) (agent row : ℕ) (old new : Rows) (page : ℕ) → pages_at agent row new ≡ pages_at agent row old → own_block own new agent row page ≡ own_block own old agent row page
unfolding own_block
own-same own agent row old new page same = ap (λ ps. if_own own (get_or ps page blank).block) same

pub planned-same : (own : Used) (agent row pages : ℕ) (old new : Rows) (stay move : List PageWrite) → pages_at agent row new ≡ pages_at agent row old → ArePlanned own old agent row pages stay move → ArePlanned own new agent row pages stay move
planned-same own agent row pages old new stay move same is = record {
  blocks = λ page b there. own-same own agent row old new page same ∙ is.blocks page b there;
  none = λ page there. own-same own agent row old new page same ∙ is.none page there;
  stay_once = is.stay_once;
  move_once = is.move_once;
  within = is.within;
}

-- ---- a try

module _ (m : Machine) (recorded tree : Tree) (old new : Rows) (before after : SpaceSeen) (agent row pages count : ℕ) (w : WriteList) (given : List ℕ) (extents : List Extent) (same : HasSamePages agent row old new)
    (was : AreSpaced m (shelf recorded tree old) before) where
  spaced : AreSpaced m (shelf recorded tree new) before
  spaced = spaced-same m recorded tree old new before agent row same was

  pub tried-spaced : (taken : Bool) → HasTaken taken before after count extents → AreSpaced m (shelf recorded tree new) after
  tried-spaced true is = spaced-taken m (shelf recorded tree new) before after count extents is spaced
  tried-spaced false is = subst (AreSpaced m (shelf recorded tree new)) (sym is.0) spaced

  pub tried-blocks : (base end : ℕ) → ArePlanned before.own old agent row pages (page_writes w given) (page_moves w given) → length (page_moves w given) ≡ count → base + 4096 * length before.used ≤ end → length before.used ≤ 2 ^ 32
      → IsTaken before after count extents → HaveBlocks base end new after agent row pages w given extents
  tried-blocks base end plan many fits small is =
      let h = holders_of m (shelf recorded tree new) in
      let are = spaced-blocks m (shelf recorded tree new) before spaced in
      let planned = planned-same before.own agent row pages old new (page_writes w given) (page_moves w given) (pages-same agent row old new same agent row) plan in
      record {
        placed = gotten-placed h before after agent row pages count w given extents are was.own_size planned many is base end fits small;
        mine = gotten-mine h before after agent row pages count w given extents are was.own_size planned many is;
      }

  pub tried-waits : KnowsOwn m (shelf recorded tree old) before.own agent row → ArePlanned before.own old agent row pages (page_writes w given) (page_moves w given) → (after ≡ before) × (extents ≡ [])
      → WaitForBlocks m (shelf recorded tree new) after agent row pages w given extents
  tried-waits known plan is = record {
    none = is.1;
    planned = planned-same after.own agent row pages old new (page_writes w given) (page_moves w given) (pages-same agent row old new same agent row)
        (subst (λ (s : SpaceSeen). ArePlanned s.own old agent row pages (page_writes w given) (page_moves w given)) (sym is.0) plan);
    exact = subst (λ (s : SpaceSeen). KnowsOwn m (shelf recorded tree new) s.own agent row) (sym is.0) (exact-same m recorded tree old new before.own agent row agent row same known);
  }

  pub gotten-by : (base end : ℕ) → ArePlanned before.own old agent row pages (page_writes w given) (page_moves w given) → length (page_moves w given) ≡ count → base + 4096 * length before.used ≤ end → length before.used ≤ 2 ^ 32
      → (taken : Bool) → HasTaken taken before after count extents → (taken ≡ false → KnowsOwn m (shelf recorded tree old) before.own agent row) → AreGotten taken m (shelf recorded tree new) after base end agent row pages w given extents
  gotten-by base end plan many fits small true is known = tried-blocks base end plan many fits small is
  gotten-by base end plan many fits small false is known = tried-waits (known refl) plan is

-- ---- what lies on the disk

pub lies-same : (base end end_now agent row : ℕ) (old new : Rows) → HasSamePages agent row old new → end_now ≡ end → AllByRecursion (λ p. LiesIn base end p.block) (pages_at agent row old) → AllByRecursion (λ p. LiesIn base end_now p.block) (pages_at agent row new)
lies-same base end end_now agent row old new same is all =
    subst (λ (e : ℕ). AllByRecursion (λ p. LiesIn base e p.block) (pages_at agent row new)) (sym is) (subst (AllByRecursion (λ p. LiesIn base end p.block)) (sym same.same) all)
