-- Free data blocks: which ones are used, and which one page alone has. This project's own.
use Rattle.std.specs.Prelude.{◌≡◌, ℕ, ◌+◌, ◌<◌, ◌≤◌, ◌++◌, not, nat_eq, cond, replicate, Bool, true, false, Option, Some, None, List, [], ◌∷◌, slice_index_or, slice_set, length}
use Rattle.opfs_records.specs.Replay.Built.{has_block}
use Rattle.opfs_blocks.specs.Sets.{Used, is_used, marked}
use Rattle.opfs_data.specs.declared.page.Page.{Page}

-- The used blocks, those that one page alone has, and what a sweep has seen so far.
pub record SpaceSeen : Type 0 where
  pub used : Used
  pub own : Used
  pub seen : Used

-- one page alone has the block, and no file
abbrev pub is_own : Used → ℕ → Bool
is_own own block = slice_index_or own block false

-- What a sweep knows after a page with a block: it is the page's own where nothing had it before.
abbrev pub block_seen : Option ℕ → SpaceSeen → SpaceSeen
block_seen None space = space
block_seen (Some block) space = record space { own = slice_set space.own block (not (is_used space.seen block)); seen = slice_set space.seen block true }

-- The same after the pages of a row.
abbrev pub pages_seen : List Page → SpaceSeen → SpaceSeen
pages_seen [] space = space
pages_seen (page ∷ more) space = pages_seen more (block_seen page.block space)

-- the blocks of pages
abbrev pub with_block : Option ℕ → List ℕ → List ℕ
with_block None blocks = blocks
with_block (Some block) blocks = block ∷ blocks

abbrev pub page_blocks : List Page → List ℕ
page_blocks [] = []
page_blocks (page ∷ more) = with_block page.block (page_blocks more)

-- how often a block is in a list
abbrev pub times : List ℕ → ℕ → ℕ
times [] b = 0
times (x ∷ xs) b = cond (nat_eq x b) 1 0 + times xs b

-- A sweep over files' blocks and then pages has found what they have, and which blocks one page alone has.
pub record IsSwept (size : ℕ) (files : List ℕ) (pages : List Page) (space : SpaceSeen) : Type 0 where
  pub used : (b : ℕ) → b < size → 0 < times files b + times (page_blocks pages) b → is_used space.seen b ≡ true
  pub free : (b : ℕ) → b < size → times files b + times (page_blocks pages) b ≡ 0 → is_used space.seen b ≡ false
  pub own : (b : ℕ) → b < size → times files b ≡ 0 → times (page_blocks pages) b ≡ 1 → is_own space.own b ≡ true
  pub shared : (b : ℕ) → b < size → (times files b ≡ 0 → times (page_blocks pages) b ≡ 1 → ⊥) → is_own space.own b ≡ false

-- what a sweep begins with, after the files
abbrev pub files_seen : ℕ → List ℕ → SpaceSeen → SpaceSeen
files_seen size files space = record space { own = replicate size false; seen = marked true files (replicate size false) }

-- Each block of the pages is below a size.
abbrev pub IsBelow : ℕ → Option ℕ → Type 0
IsBelow size block = (b : ℕ) → block ≡ Some b → b < size

-- What a call needs: its moves and the pages that have their own blocks are as many as the row's reserve at most, for which
-- the blocks of files and of other rows leave room; and each used block is one of these.
pub record IsCovered (used : Used) (files others mine moves : List ℕ) (reserve : ℕ) : Type 0 where
  pub all : (b : ℕ) → b < length used → is_used used b ≡ true → has_block (files ++ others ++ mine) b ≡ true
  pub room : length files + length others + reserve ≤ length used
  pub fits : length moves + length mine ≤ reserve
