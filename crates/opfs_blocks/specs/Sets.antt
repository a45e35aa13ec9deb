-- Sets of used blocks, and extents as the blocks that they hold. This project's own.
use Rattle.std.specs.Prelude.{ℕ, ◌+◌, ◌≡◌, ◌<◌, Bool, true, false, List, [], ◌∷◌, nat_eq, slice_index_or, slice_set}
use Rattle.std.specs.List.{range_with_len, flat_map, AllByRecursion, IsDistinct}
use Rattle.opfs_base.specs.declared.extents.Extent.{Extent}

-- Which blocks are used, by number: true for a used one. There are as many blocks as flags.
abbrev pub Used : Type 0
Used = List Bool

-- Whether a block is used; one at or past the size counts as used.
abbrev pub is_used : Used → ℕ → Bool
is_used used block = slice_index_or used block true

-- The free blocks, in order. The first flag is that of the block with the given number.
abbrev pub free_from : ℕ → Used → List ℕ
free_from number [] = []
free_from number (true ∷ used) = free_from (number + 1) used
free_from number (false ∷ used) = number ∷ free_from (number + 1) used

abbrev pub free_blocks : Used → List ℕ
free_blocks used = free_from 0 used

-- The set with each of these blocks made used, or made free.
abbrev pub marked : Bool → List ℕ → Used → Used
marked mark [] used = used
marked mark (block ∷ more) used = marked mark more (slice_set used block mark)

-- The blocks of an extent and of a list of them, in order.
abbrev pub blocks_in : Extent → List ℕ
blocks_in extent = range_with_len extent.start extent.count

abbrev pub blocks_of : List Extent → List ℕ
blocks_of extents = flat_map blocks_in extents

-- Whether all blocks are below the size.
abbrev pub AreBelow : ℕ → List ℕ → Type 0
AreBelow size blocks = AllByRecursion (λ block. block < size) blocks

-- Whether all blocks are below the size and free.
abbrev pub AreFree : Used → List ℕ → Type 0
AreFree used blocks = AllByRecursion (λ block. is_used used block ≡ false) blocks

-- All blocks can be adopted: each is below the size and free, and none is named twice.
abbrev pub CanAdopt : Used → List ℕ → Type 0
CanAdopt used blocks = AreFree used blocks × IsDistinct nat_eq blocks

-- Neighbours are joined: each extent holds a block, and each begins past the end of the one before it.
abbrev pub StartsPast : ℕ → List Extent → Type 0
StartsPast end [] = Unit {0}
StartsPast end (extent ∷ more) = end < extent.start

abbrev pub AreJoined : List Extent → Type 0
AreJoined [] = Unit {0}
AreJoined (extent ∷ more) = (0 < extent.count) × StartsPast (extent.start + extent.count) more × AreJoined more
