-- How the blocks stay right when a row's pages are put, and when the disk fails at that.
use Rattle.std.proofs.Common.{◌≡◌, ℕ, ◌≤◌, List, slice_index_or, unwrap_or, refl, sym, ap, subst, ◌∙◌, inl, inr, arith}
use Rattle.opfs_data.specs.Pages.{blank, resized, with_writes, AreOnce}
use Rattle.opfs_data.specs.Rows.{Rows, pages_at, page_at, no_row, OthersStay}
use Rattle.opfs_data.specs.Writes.{PageWrite}
use Rattle.opfs_space.specs.Holders.{HasPage, AreMine}
use Rattle.opfs_space.specs.Room.{Machine}
use Rattle.opfs_space.specs.Spaces.{SpaceSeen}
use Rattle.opfs_tree.specs.Rows.{Rows as Tree}
use Rattle.opfs_pages.specs.HistoryLaws.Open.{open_at, reserve_in}
use Rattle.opfs_pages.specs.HistoryLaws.Shelves.{HasSameFiles, KeepsOpen}
use Rattle.opfs_pages.specs.HistoryLaws.Spaced.{AreSpaced}
use Rattle.opfs_pages.proofs.history_laws.Begun.{other-or}
use Rattle.opfs_pages.proofs.history_laws.Spacing.{spaced-stays, spaced-written}
use Rattle.opfs_pages.specs.RowCalls.Plans.{shelf}

same-files : (recorded tree : Tree) (old new : Rows) → HasSameFiles (shelf recorded tree old) (shelf recorded tree new)
same-files recorded tree old new = record { recorded = record { named = λ b. refl; has = λ f b. refl }; tree = record { named = λ b. refl; has = λ f b. refl } }

pub put-spaced : (m t : Machine) (recorded tree : Tree) (old new : Rows) (space : SpaceSeen) (agent row pages : ℕ) (writes : List PageWrite) → AreSpaced m (shelf recorded tree old) space → KeepsOpen m t agent row
    → OthersStay agent row old new → pages_at agent row new ≡ with_writes writes (resized pages (pages_at agent row old)) → AreOnce writes → pages ≤ reserve_in (open_at t agent row)
    → AreMine space.used space.own old agent row pages writes → AreSpaced t (shelf recorded tree new) space
put-spaced m t recorded tree old new space agent row pages writes was is stay written once within mine =
    spaced-written m t (shelf recorded tree old) (shelf recorded tree new) space agent row pages writes was is (same-files recorded tree old new) stay written once
    (λ page b there.
    let one = mine page b there in
    let below = one.1 in (one.0, omega (arith, below, within)))

pub left-spaced : (m t : Machine) (recorded tree : Tree) (old new : Rows) (space : SpaceSeen) (agent row : ℕ) → AreSpaced m (shelf recorded tree old) space → KeepsOpen m t agent row
    → OthersStay agent row old new → ((i : ℕ) → (page_at agent row i new).block ≡ (page_at agent row i old).block) → AreSpaced t (shelf recorded tree new) space
left-spaced m t recorded tree old new space agent row was is stay blocks =
    spaced-stays m t (shelf recorded tree old) (shelf recorded tree new) space agent row was is (same-files recorded tree old new) had
  where
    had : (k n i b : ℕ) → HasPage new k n i b → HasPage old k n i b
    had k n i b has = elim (other-or agent row k n) [
      | inl apart ↦ sym (ap (λ o. (slice_index_or (unwrap_or o no_row).pages i blank).block) (stay k n apart)) ∙ has
      | inr here ↦
          subst (λ (r : ℕ). HasPage old k r i b) (sym here.1)
          (subst (λ (a : ℕ). HasPage old a row i b) (sym here.0)
          (sym (blocks i) ∙ subst (λ (a : ℕ). HasPage new a row i b) here.0 (subst (λ (r : ℕ). HasPage new k r i b) here.1 has)))
    ]
