-- Who has which data blocks: the records on the disk, the files of the present rows, and the pages of open rows. This
-- project's own.
use Rattle.std.specs.Prelude.{◌≡◌, ℕ, ◌<◌, ◌≤◌, ◌⊎◌, Bool, true, false, Option, Some, List, [], ◌∷◌, length}
use Rattle.std.specs.List.{flat_map}
use Rattle.opfs_base.specs.Places.{Place}
use Rattle.opfs_blocks.specs.Sets.{Used, is_used}
use Rattle.opfs_data.specs.declared.page.Page.{Page}
use Rattle.opfs_data.specs.Rows.{Rows, page_at, IsOther, OthersStay}
use Rattle.opfs_data.specs.Writes.{PageWrite}
use Rattle.opfs_records.specs.Replay.Built.{has_block}
use Rattle.opfs_space.specs.Spaces.{is_own}

-- A page of an open row has a block.
abbrev pub HasPage : Rows → ℕ → ℕ → ℕ → ℕ → Type 0
HasPage swap agent row page b = (page_at agent row page swap).block ≡ Some b

-- Some page of an open row has a block.
pub record IsPaged (swap : Rows) (b : ℕ) : Type 0 where
  pub agent : ℕ
  pub row : ℕ
  pub page : ℕ
  pub has : HasPage swap agent row page b

-- Of each open row, by its agent and its number, the blocks that are kept for it, its file, and whether it is a stream; the
-- blocks that the records on the disk name, those that the present rows name, and those of each file; and the pages.
pub record Holders : Type 0 where
  pub reserve : ℕ → ℕ → ℕ
  pub file : ℕ → ℕ → Option Place
  pub streams : ℕ → ℕ → Bool
  pub ground : ℕ → Bool
  pub rows : ℕ → Bool
  pub has : Option Place → ℕ → Bool
  pub swap : Rows

-- The used blocks, and those that one page alone has, are right for who has blocks. A block is used where the records or a
-- page has it. One that is a page's own is in no record. The pages of rows that share a block are of one file, and each
-- page whose block no file has lies below the blocks that are kept for its row.
pub record AreBlocks (h : Holders) (used own : Used) : Type 0 where
  pub grounded : (b : ℕ) → h.ground b ≡ true → (b < length used) × (is_used used b ≡ true) × (is_own own b ≡ false)
  pub inside : (b : ℕ) → h.rows b ≡ true → h.ground b ≡ true
  pub held : (f : Option Place) (b : ℕ) → h.has f b ≡ true → h.rows b ≡ true
  pub once : (f g : Option Place) (b : ℕ) → h.has f b ≡ true → h.has g b ≡ true → f ≡ g
  pub pages : (k n i b : ℕ) → HasPage h.swap k n i b → (b < length used) × (is_used used b ≡ true)
  pub apart : (k n i j b : ℕ) → HasPage h.swap k n i b → HasPage h.swap k n j b → i ≡ j
  pub alone : (b : ℕ) → is_own own b ≡ true → (k n i l m j : ℕ) → HasPage h.swap k n i b → HasPage h.swap l m j b → (k ≡ l) × (n ≡ m)
  pub together : (k n i l m j b : ℕ) → HasPage h.swap k n i b → HasPage h.swap l m j b → h.file k n ≡ h.file l m
  pub of_file : (k n i b : ℕ) → HasPage h.swap k n i b → h.ground b ≡ true → h.has (h.file k n) b ≡ true
  pub reserved : (k n i b : ℕ) → HasPage h.swap k n i b → h.rows b ≡ false → i < h.reserve k n
  pub covered : (k n i b : ℕ) → h.streams k n ≡ true → HasPage h.swap k n i b → i < h.reserve k n

-- ---- what happens

-- A row has its file, at least as many blocks kept, and is no stream that it was not.
pub record KeepsRow (old new : Holders) (agent row : ℕ) : Type 0 where
  pub file : new.file agent row ≡ old.file agent row
  pub reserve : old.reserve agent row ≤ new.reserve agent row
  pub streams : new.streams agent row ≡ true → old.streams agent row ≡ true

-- The records and the files are as they were.
pub record HasFiles (old new : Holders) : Type 0 where
  pub ground : (b : ℕ) → new.ground b ≡ old.ground b
  pub rows : (b : ℕ) → new.rows b ≡ old.rows b
  pub has : (f : Option Place) (b : ℕ) → new.has f b ≡ old.has f b

-- Each page was there before, with its block, in a row that keeps what it had.
abbrev pub HasFewer : Holders → Holders → Type 0
HasFewer old new = (k n i b : ℕ) → HasPage new.swap k n i b → HasPage old.swap k n i b × KeepsRow old new k n

-- Each other row has its pages, and keeps what it had.
pub record KeepsOthers (old new : Holders) (agent row : ℕ) : Type 0 where
  pub pages : OthersStay agent row old.swap new.swap
  pub rows : (k n : ℕ) → IsOther agent row k n → KeepsRow old new k n

-- the list has a page that goes into a block
abbrev pub Writes : List PageWrite → ℕ → ℕ → Type 0
Writes [] page b = ⊥
Writes (w ∷ more) page b = ((w.page ≡ page) × (w.block ≡ b)) ⊎ Writes more page b

-- A block is one that may be written for a page of a row: it is used and a page's own, and no other page has it.
pub record IsMine (used own : Used) (swap : Rows) (agent row page b : ℕ) : Type 0 where
  pub below : b < length used
  pub taken : is_used used b ≡ true
  pub owned : is_own own b ≡ true
  pub only : (k n j : ℕ) → HasPage swap k n j b → (k ≡ agent) × (n ≡ row) × (j ≡ page)

-- All pages of a list go into such blocks, and lie below the blocks that are kept for the row.
abbrev pub AreMine : Used → Used → Rows → ℕ → ℕ → ℕ → List PageWrite → Type 0
AreMine used own swap agent row reserve writes = (page b : ℕ) → Writes writes page b → IsMine used own swap agent row page b × (page < reserve)

-- A row is opened with the blocks of its file, in order. A stream has as many kept.
pub record IsOpened (old new : Holders) (agent row : ℕ) (blocks : List ℕ) : Type 0 where
  pub has : (b : ℕ) → has_block blocks b ≡ true → old.has (new.file agent row) b ≡ true
  pub reserve : new.streams agent row ≡ true → length blocks ≤ new.reserve agent row

-- After a flush a page of the row itself has one of the content's blocks, and the row is no stream.
pub record IsFlushed (old new : Holders) (agent row : ℕ) (blocks : List ℕ) (k n b : ℕ) : Type 0 where
  pub agent_is : k ≡ agent
  pub row_is : n ≡ row
  pub file : new.file k n ≡ old.file k n
  pub block : has_block blocks b ≡ true
  pub handle : new.streams k n ≡ false

-- A content of a file is the one that a row had: its blocks are those of pages of the row, which ends or is no stream and has
-- pages with these blocks alone. Nothing is kept back, and other rows that are open on the file are streams.
pub record IsStored (old new : Holders) (agent row : ℕ) (blocks : List ℕ) : Type 0 where
  pub nothing_kept : (b : ℕ) → old.ground b ≡ true → old.rows b ≡ true
  pub recorded : (b : ℕ) → new.ground b ≡ new.rows b
  pub before : (b : ℕ) → old.rows b ≡ true → (f : Option Place) × (old.has f b ≡ true)
  pub after : (b : ℕ) → new.rows b ≡ true → (f : Option Place) × (new.has f b ≡ true)
  pub named : (f : Option Place) (b : ℕ) → new.has f b ≡ true → new.rows b ≡ true
  pub came : (f : Option Place) (b : ℕ) → new.has f b ≡ true → ((f ≡ old.file agent row) × (has_block blocks b ≡ true)) ⊎ (old.has f b ≡ true)
  pub here : (b : ℕ) → has_block blocks b ≡ true → new.has (old.file agent row) b ≡ true
  pub stays : (f : Option Place) (b : ℕ) → old.has f b ≡ true → (f ≡ old.file agent row) ⊎ (new.has f b ≡ true)
  pub of_row : (b : ℕ) → has_block blocks b ≡ true → (i : ℕ) × HasPage old.swap agent row i b
  pub rest : (k n i b : ℕ) → HasPage new.swap k n i b → HasPage old.swap k n i b × ((KeepsRow old new k n × IsOther agent row k n) ⊎ IsFlushed old new agent row blocks k n b)
  pub others : (k n i b : ℕ) → HasPage new.swap k n i b → old.file k n ≡ old.file agent row → IsOther agent row k n → old.streams k n ≡ true

-- The records and the files have fewer blocks; what the file of a page had of the page's block stays.
pub record HasLess (old new : Holders) : Type 0 where
  pub ground : (b : ℕ) → new.ground b ≡ true → old.ground b ≡ true
  pub rows : (b : ℕ) → new.rows b ≡ true → (old.rows b ≡ true) × (new.ground b ≡ true)
  pub has : (f : Option Place) (b : ℕ) → new.has f b ≡ true → (old.has f b ≡ true) × (new.rows b ≡ true)
  pub stays : (k n i b : ℕ) → HasPage new.swap k n i b → old.has (old.file k n) b ≡ true → new.has (new.file k n) b ≡ true

-- No record and no page has a block of one list that is not in another.
pub record AreUnheld (h : Holders) (gone kept : List ℕ) : Type 0 where
  pub recorded : (b : ℕ) → has_block gone b ≡ true → h.ground b ≡ true → has_block kept b ≡ true
  pub paged : (k n i b : ℕ) → has_block gone b ≡ true → HasPage h.swap k n i b → has_block kept b ≡ true

-- At the beginning no row is open, and the records are those of the present rows. Their blocks are used, and no two files
-- have one.
pub record IsFirst (h : Holders) (used : Used) : Type 0 where
  pub none : h.swap ≡ []
  pub grounded : (b : ℕ) → h.ground b ≡ true → (b < length used) × (is_used used b ≡ true)
  pub inside : (b : ℕ) → h.rows b ≡ true → h.ground b ≡ true
  pub held : (f : Option Place) (b : ℕ) → h.has f b ≡ true → h.rows b ≡ true
  pub once : (f g : Option Place) (b : ℕ) → h.has f b ≡ true → h.has g b ≡ true → f ≡ g

-- ---- what a sweep finds

-- the pages of all open rows, row after row
abbrev pub all_pages : Rows → List Page
all_pages swap = flat_map (λ e. e.1.pages) swap

-- each block of a page is below a size
abbrev pub AreAllBelow : ℕ → Rows → Type 0
AreAllBelow size swap = (k n i b : ℕ) → HasPage swap k n i b → b < size

-- no other page has the block
abbrev pub IsAlone : Rows → ℕ → ℕ → ℕ → ℕ → Type 0
IsAlone swap k n i b = (l m j : ℕ) → HasPage swap l m j b → (l ≡ k) × (m ≡ n) × (j ≡ i)

-- The used blocks are those that the rows' files or pages have, and the pages' own are those that one page alone has.
pub record AreSwept (size : ℕ) (rows : ℕ → Bool) (swap : Rows) (used own : Used) : Type 0 where
  pub used_size : length used ≡ size
  pub only : (b : ℕ) → b < size → is_used used b ≡ true → (rows b ≡ true) ⊎ IsPaged swap b
  pub of_rows : (b : ℕ) → b < size → rows b ≡ true → (is_used used b ≡ true) × (is_own own b ≡ false)
  pub of_pages : (k n i b : ℕ) → b < size → HasPage swap k n i b → is_used used b ≡ true
  pub owned : (b : ℕ) → is_own own b ≡ true → IsPaged swap b
  pub alone : (b : ℕ) → is_own own b ≡ true → (k n i l m j : ℕ) → HasPage swap k n i b → HasPage swap l m j b → (k ≡ l) × (n ≡ m)
  pub exact : (k n i b : ℕ) → b < size → HasPage swap k n i b → rows b ≡ false → IsAlone swap k n i b → is_own own b ≡ true
