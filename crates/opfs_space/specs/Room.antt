-- When a call finds blocks for all its pages: the machine in lengths, which says whether the pool has room, and the blocks as a
-- sweep finds them. This project's own.
use Rattle.std.specs.Prelude.{◌≡◌, ℕ, ◌+◌, ◌≤◌, ◌<◌, Bool, true, false, Option, Some, None, List, length, sum_by, unwrap_or, nat_eq}
use Rattle.std.specs.List.{IsDistinct}
use Rattle.opfs_blocks.specs.Sets.{Used}
use Rattle.opfs_data.specs.Rows.{Rows, page_at, IsOther}
use Rattle.opfs_machine.specs.Agents.{agent_of, own_of}
use Rattle.opfs_machine.specs.Contents.{in_lengths}
use Rattle.opfs_machine.specs.Sums.{reserve_of, durable_blocks, pool, fits_pool}
use Rattle.opfs_machine.specs.declared.own.Outline.{Outline}
use Rattle.opfs_machine.specs.declared.own.Outline.TheVariants as outline
use Rattle.opfs_machine.specs.declared.state.State.{State}
use Rattle.opfs_records.specs.Replay.Built.{has_block, named}
use Rattle.opfs_space.specs.Spaces.{is_own}
use Rattle.opfs_space.specs.Holders.{HasPage, Holders}
use Rattle.opfs_tree.specs.Rows.{Rows as Tree}

-- The state without bytes.
abbrev pub Machine : Type 0
Machine = State ℕ Outline

-- The blocks that are kept for an own row.
abbrev pub reserve_at : Machine → ℕ → ℕ → ℕ
reserve_at s agent row = reserve_of (unwrap_or (own_of (agent_of s agent) row) outline.ClosedStream)

-- A page's block is one that it alone has.
abbrev pub is_own_block : Used → Option ℕ → Bool
is_own_block own None = false
is_own_block own (Some b) = is_own own b

-- The own blocks of a row are known exactly: each page has its block alone that no file and no page of another row has.
abbrev pub IsExact : Holders → Used → ℕ → ℕ → Type 0
IsExact h own agent row = (i b : ℕ) → HasPage h.swap agent row i b → h.rows b ≡ false → ((l m j : ℕ) → IsOther agent row l m → HasPage h.swap l m j b → ⊥) → is_own own b ≡ true

-- The pages of a row that a call puts into other blocks: each is named once, lies below the blocks that are kept, and has no
-- block of its own.
pub record AreMoves (own : Used) (swap : Rows) (agent row reserve : ℕ) (moves : List ℕ) : Type 0 where
  pub once : IsDistinct nat_eq moves
  pub moved : (i : ℕ) → has_block moves i ≡ true → (i < reserve) × (is_own_block own (page_at agent row i swap).block ≡ false)

-- The blocks of open rows are kept as the machine has it, and the present rows are those of the machine: they have as many
-- blocks as their durable bytes take.
pub record IsOfMachine (s : Machine) (h : Holders) (rows : Tree) : Type 0 where
  pub reserve : (k n : ℕ) → h.reserve k n ≡ reserve_at s k n
  pub files : (b : ℕ) → h.rows b ≡ has_block (named rows) b
  pub blocks : length (named rows) ≡ sum_by (λ e. durable_blocks in_lengths e.1) s.rows

-- The machine has room for a call of an open row that keeps so many blocks for it.
pub record HasRoom (s : Machine) (agent row reserve need : ℕ) : Type 0 where
  pub own : Outline
  pub there : own_of (agent_of s agent) row ≡ Some own
  pub within : pool in_lengths s ≤ s.limits.blocks
  pub fits : fits_pool in_lengths s need ≡ true
  pub grows : reserve_of own ≤ reserve
  pub needed : reserve ≤ reserve_of own + need
