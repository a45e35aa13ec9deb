-- An open row that is read. This project's own.
use Rattle.std.specs.Prelude.{◌≡◌, ℕ, ◌-◌, ◌/◌, ◌%◌, ◌≤◌, min, List, length, slice_index}
use Rattle.opfs_data.specs.declared.page.Page.{Page}
use Rattle.opfs_data.specs.Rows.{pages_at}
use Rattle.opfs_base.specs.Texts.{Text}
use Rattle.opfs_pages.specs.Copies.{IsCopy, AreHeld, HasFar, IsPageOf}
use Rattle.opfs_pages.specs.declared.row_put.RowSource.{RowSource}
use Rattle.opfs_splice.specs.Splicing.{window}
use Rattle.opfs_desk_bytes.specs.Reading.Words.{end_of_read}

-- The pages that the store has of it.
abbrev pub pages_of : RowSource → List Page
pages_of s = pages_at s.agent s.row s.swap.now

-- Each of its pages that is elsewhere is in the store, in a block that lies before this end of the disk.
abbrev pub MayReadRow : RowSource → ℕ → Type 0
MayReadRow s end = HasFar s.work.now s.base end (pages_of s)

-- This is so of its bytes: those for which its working copy stands, where the disk has this content.
abbrev pub HoldsOfRow : RowSource → List ℕ → (List ℕ → Type 0) → Type 0
HoldsOfRow s content says = (bytes : List ℕ) → IsCopy bytes s.work.now → AreHeld bytes s.work.now content s.base (pages_of s) → says bytes

-- What was read of it: as many bytes as there are, twice; the cursor behind them; and a page beside them, of this number, with zeros
-- behind the row's end. Where the disk tells they are the row's.
pub record IsRowRead (tells : Type 0) (s : RowSource) (content : List ℕ) (start len : ℕ) (bytes copied : Text) (cursor beside : ℕ) (page : List ℕ) : Type 0 where
  pub size : length bytes ≡ min len (s.work.now.length - start)
  pub told : tells → HoldsOfRow s content (λ row. bytes ≡ window row start len)
  pub same : copied ≡ bytes
  pub cursor_is : cursor ≡ end_of_read s.work.now.length start len
  pub whole : length page ≡ 4096
  pub tail : (i : ℕ) → s.work.now.length ≤ i → i / 4096 ≡ beside → slice_index page (i % 4096) ≡ 0
  pub page_is : tells → HoldsOfRow s content (λ row. IsPageOf row beside page)
