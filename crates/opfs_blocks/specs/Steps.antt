-- How blocks are allotted and adopted one after another. This project's own.
use Rattle.std.specs.Prelude.{ℕ, ◌+◌, ◌≡◌, ◌<◌, ◌≤◌, Bool, true, not, ◌&&◌, List, [], ◌∷◌, length, slice_set}
use Rattle.opfs_base.specs.declared.extents.Extent.{Extent}
use Rattle.opfs_blocks.specs.Sets.{Used, is_used}

-- All blocks below a place are used.
abbrev pub IsFull : ℕ → Used → Type 0
IsFull place used = (place ≤ length used) × ((block : ℕ) → block < place → is_used used block ≡ true)

-- Where the first extent starts, or what is behind the last.
abbrev pub next_start : List Extent → ℕ → ℕ
next_start [] behind = behind
next_start (extent ∷ more) behind = extent.start

-- Each extent holds a block and ends before the next one starts, the last before what is behind.
abbrev pub AreApart : List Extent → ℕ → Type 0
AreApart [] behind = Unit {0}
AreApart (extent ∷ more) behind = (0 < extent.count) × (extent.start + extent.count < next_start more behind) × AreApart more behind

-- Whether blocks can be marked used one after another, each found free.
abbrev pub can_adopt : Used → List ℕ → Bool
can_adopt used [] = true
can_adopt used (block ∷ more) = not (is_used used block) && can_adopt (slice_set used block true) more
