-- A row's pages that a call puts, and what they say of the row. This project's own.
use Rattle.std.specs.Prelude.{◌≡◌, ℕ, ◌<◌, List, length}
use Rattle.opfs_base.specs.Blocks.{blocks}
use Rattle.opfs_base.specs.Texts.{Text}
use Rattle.opfs_data.specs.Pages.{page_of}
use Rattle.opfs_data.specs.Rows.{Rows, pages_at, page_at}
use Rattle.opfs_data.specs.Writes.{WriteList, page_moves, blocks_in}
use Rattle.opfs_base.specs.declared.extents.Extent.{Extent}
use Rattle.opfs_pages.specs.Writing.Puts.{IsPut, all_writes}
use Rattle.opfs_pages.specs.Copies.{IsCopy, AreHeld}
use Rattle.opfs_pages.specs.Stages.{Stage, changed, IsStaged}

-- All pages of all rows read in one content as in another.
abbrev pub AllReadAlike : ℕ → List ℕ → List ℕ → Rows → Rows → Type 0
AllReadAlike base c d old new = (k n i : ℕ) → i < length (pages_at k n old) → page_of d base (page_at k n i new) ≡ page_of c base (page_at k n i old)

-- The pages of a call were staged from what the row's working copy and the store had of the row's bytes. The row has other
-- bytes afterwards, as the call says.
pub record IsFromRow (tells : Type 0) (s : Stage) (w : WriteList) (before after : Text) : Type 0 where
  pub staged : IsStaged tells s w
  pub pages : length s.work.pages ≡ blocks s.work.length
  pub copy : tells → IsCopy before s.work
  pub held : tells → AreHeld before s.work s.content s.base (pages_at s.agent s.row s.swap)
  pub after_is : changed before s.at s.given s.size ≡ after

-- The pages of a row were put as they were staged, over pages that read as they did then.
pub record IsPutFromRow (s : Stage) (w : WriteList) (extents : List Extent) (before after : Text) (base : ℕ) (c d : List ℕ) (mid new : Rows) (agent row pages : ℕ) : Type 0 where
  pub from : IsFromRow (Unit {0}) s w before after
  pub base_is : s.base ≡ base
  pub agent_is : s.agent ≡ agent
  pub row_is : s.row ≡ row
  pub same : length (pages_at agent row mid) ≡ length (pages_at agent row s.swap)
  pub alike : (i : ℕ) → page_of c base (page_at agent row i mid) ≡ page_of s.content base (page_at agent row i s.swap)
  pub count : length (page_moves w s.given) ≡ length (blocks_in extents)
  pub put : IsPut (Unit {0}) base c d mid new agent row pages (all_writes w s.given extents)
  pub many : pages ≡ blocks s.size
