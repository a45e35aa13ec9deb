-- Pages of 4,096 bytes, and the bytes that they stand for. This project's own.
use Rattle.std.specs.Prelude.{◌≡◌, ◌⊎◌, ℕ, ◌+◌, ◌-◌, ◌*◌, ◌/◌, ◌%◌, ◌<◌, ◌≤◌, ◌==◌, if◌then◌else◌, Bool, true, false, List, Option, Some, None, map, sum_by, slice_index, slice_index_or}
use Rattle.std.specs.List.{range_with_len}
use Rattle.opfs_base.specs.Blocks.{blocks}
use Rattle.opfs_work.specs.declared.pages.Page.{Page}
use Rattle.opfs_work.specs.declared.pages.Page.TheVariants.{Zero, Near, Clean, Far}

abbrev pub is_zero : Page → Bool
is_zero Zero = true
is_zero (Near bytes) = false
is_zero (Clean bytes) = false
is_zero Far = false

-- In memory.
abbrev pub is_near : Page → Bool
is_near Zero = false
is_near (Near bytes) = true
is_near (Clean bytes) = true
is_near Far = false

abbrev pub is_far : Page → Bool
is_far Zero = false
is_far (Near bytes) = false
is_far (Clean bytes) = false
is_far Far = true

-- In memory, and changed since a store had it.
abbrev pub is_changed : Page → Bool
is_changed Zero = false
is_changed (Near bytes) = true
is_changed (Clean bytes) = false
is_changed Far = false

-- A store has the page's bytes.
abbrev pub is_held : Page → Bool
is_held Zero = false
is_held (Near bytes) = false
is_held (Clean bytes) = true
is_held Far = true

-- The bytes of a page that is in memory.
abbrev pub bytes_near : Page → Option (List ℕ)
bytes_near Zero = None
bytes_near (Near bytes) = Some bytes
bytes_near (Clean bytes) = Some bytes
bytes_near Far = None

-- The page when a store has it.
abbrev pub as_kept : Page → Page
as_kept Zero = Zero
as_kept (Near bytes) = Clean bytes
as_kept (Clean bytes) = Clean bytes
as_kept Far = Far

-- The page when its bytes are no longer those that a store has.
abbrev pub as_changed : Page → Page
as_changed Zero = Zero
as_changed (Near bytes) = Near bytes
as_changed (Clean bytes) = Near bytes
as_changed Far = Far

-- The page of a number; past the last page all is zero.
abbrev pub page_at : List Page → ℕ → Page
page_at pages k = slice_index_or pages k Zero

-- The byte at a place of a page. What a Far page has there is given.
abbrev pub page_byte : ℕ → Page → ℕ → ℕ
page_byte far Zero place = 0
page_byte far (Near bytes) place = slice_index bytes place
page_byte far (Clean bytes) place = slice_index bytes place
page_byte far Far place = far

-- The byte at a position, where the Far pages have the given bytes.
unfoldable pub byte_at : (ℕ → ℕ) → List Page → ℕ → ℕ
byte_at far pages i = page_byte (far i) (page_at pages (i / 4096)) (i % 4096)

-- The first bytes of pages, where the Far pages have the given bytes.
unfoldable pub bytes_of : (ℕ → ℕ) → List Page → ℕ → List ℕ
bytes_of far pages length = map (byte_at far pages) (range_with_len 0 length)

-- One for a page in memory.
abbrev pub one_near : Page → ℕ
one_near Zero = 0
one_near (Near bytes) = 1
one_near (Clean bytes) = 1
one_near Far = 0

-- How many pages are in memory.
unfoldable pub near_count : List Page → ℕ
near_count pages = sum_by one_near pages

-- How many pages of a run are not in memory.
unfoldable pub absent : List Page → ℕ → ℕ → ℕ
absent pages first count = sum_by (λ k. 1 - one_near (page_at pages k)) (range_with_len first count)

-- How many pages hold a byte of a range.
abbrev pub pages_in : ℕ → ℕ → ℕ
pages_in at len = if len == 0 then 0 else blocks (at + len) - at / 4096

-- How many pages a write at a position brings into memory.
abbrev pub added : List Page → ℕ → ℕ → ℕ
added pages at len = absent pages (at / 4096) (pages_in at len)

-- Each Far page that holds a byte between two positions lies between them whole.
unfoldable pub CoversFar : List Page → ℕ → ℕ → Type 0
CoversFar pages from to =
    (k : ℕ) → from < to → from < 4096 * k + 4096 → 4096 * k < to → is_far (page_at pages k) ≡ true → (from ≤ 4096 * k) × (4096 * k + 4096 ≤ to)

-- No page that holds a byte between two positions is Far.
unfoldable pub IsNearBetween : List Page → ℕ → ℕ → Type 0
IsNearBetween pages from to = (k : ℕ) → from < to → from < 4096 * k + 4096 → 4096 * k < to → is_far (page_at pages k) ≡ false

-- What a page is when a store has it: a changed one stays in memory or goes far, any other is as before.
pub record IsSettled (old new : Page) : Type 0 where
  pub kept : is_changed old ≡ true → (new ≡ as_kept old) ⊎ (new ≡ Far)
  pub same : is_changed old ≡ false → new ≡ old

-- A table of pages, and how many it has room for.
pub record Table : Type 0 where
  pub pages : List Page
  pub room : ℕ
