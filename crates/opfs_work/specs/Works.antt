-- Working copies (File System: FileSystemWritableFileStream, FileSystemSyncAccessHandle). Pages are this project's own.
use Rattle.std.specs.Prelude.{◌≡◌, ℕ, ◌+◌, ◌*◌, ◌<◌, ◌≤◌, true, min, max, List, Option, length, unwrap_or}
use Rattle.opfs_base.specs.Blocks.{blocks}
use Rattle.opfs_work.specs.declared.pages.Page.{Page}
use Rattle.opfs_work.specs.Pages.{page_at, byte_at, bytes_of, is_held, is_changed, near_count, added, CoversFar, IsNearBetween}

-- The pages, how many bytes they stand for, the offset or cursor, the blocks that are reserved, and the blocks for which
-- there is memory; and two page numbers such that a store has each page that is not between them.
pub record WorkingCopy : Type 0 where
  pub pages : List Page
  pub length : ℕ
  pub position : ℕ
  pub reserve : ℕ
  pub room : ℕ
  pub changed_from : ℕ
  pub changed_to : ℕ

-- The bytes of a working copy, where its Far pages have the given bytes by position.
abbrev pub contents : (ℕ → ℕ) → WorkingCopy → List ℕ
contents far work = bytes_of far work.pages work.length

-- A store has the page: it is Clean or Far, or nothing was changed where it is.
abbrev pub IsStored : WorkingCopy → ℕ → Type 0
IsStored work k = work.changed_from ≤ k → k < work.changed_to → is_held (page_at work.pages k) ≡ true

-- A write of so many bytes at a position changes the page: it has a byte of the write, or a byte of the gap before it that
-- was not there.
pub record IsTouched (size at len page : ℕ) : Type 0 where
  pub some : min size at < at + len
  pub begins : min size at < 4096 * page + 4096
  pub ends : 4096 * page < at + len

-- Where a call begins: at its position, or at the offset or cursor.
abbrev pub place_in : WorkingCopy → Option ℕ → ℕ
place_in work position = unwrap_or position work.position

-- A write of so many bytes at a place needs no page that is elsewhere and no more blocks than are reserved. What it changes
-- begins at the end where the place is past it; at most 256 pages are Near afterwards.
pub record IsNearWrite (work : WorkingCopy) (at len : ℕ) : Type 0 where
  pub fits : blocks (max work.length (at + len)) ≤ work.reserve
  pub whole : CoversFar work.pages (min work.length at) (at + len)
  pub few : near_count work.pages + added work.pages at len ≤ 256

-- The same for a new size. A cut changes no page that stays.
pub record IsNearSize (work : WorkingCopy) (size : ℕ) : Type 0 where
  pub fits : blocks size ≤ work.reserve
  pub whole : CoversFar work.pages work.length size

-- No page with a byte that a read gives is elsewhere.
abbrev pub IsNearRead : WorkingCopy → ℕ → ℕ → Type 0
IsNearRead work at len = IsNearBetween work.pages at (min work.length (at + len))

-- What a working copy keeps: as many pages as its bytes take, zeros behind them, and room for what is reserved.
pub record IsWork (pages : List Page) (room length' reserve : ℕ) : Type 0 where
  pub pages_are : length pages ≡ blocks length'
  pub tail : (i : ℕ) → length' ≤ i → byte_at (λ _. 0) pages i ≡ 0
  pub reserved : reserve ≤ room

-- Each changed page lies between two numbers.
pub record AreBetween (pages : List Page) (from to : ℕ) : Type 0 where
  pub from_is : (k : ℕ) → is_changed (page_at pages k) ≡ true → from ≤ k
  pub to_is : (k : ℕ) → is_changed (page_at pages k) ≡ true → k < to
