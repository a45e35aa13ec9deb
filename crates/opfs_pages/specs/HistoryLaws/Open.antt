-- The open rows of all agents, as the shared store knows them: streams and access handles. This project's own.
use Rattle.std.specs.Prelude.{◌≡◌, ◌≤◌, ℕ, Bool, true, false, Option, Some, None}
use Rattle.opfs_base.specs.Places.{Place}
use Rattle.opfs_data.specs.Rows.{IsOther}
use Rattle.opfs_machine.specs.declared.own.Outline.{Outline}
use Rattle.opfs_machine.specs.declared.own.Outline.TheVariants as outline
use Rattle.opfs_machine.specs.Agents.{agent_of, own_of}
use Rattle.opfs_machine.specs.Sums.{reserve_of}
use Rattle.opfs_space.specs.Room.{Machine}

-- An own row, where it is open; None of any other.
abbrev pub if_open : Option Outline → Option Outline
if_open None = None
if_open (Some (outline.Stream w)) = Some (outline.Stream w)
if_open (Some (outline.Handle h)) = Some (outline.Handle h)
if_open (Some r) = None

abbrev pub open_at : Machine → ℕ → ℕ → Option Outline
open_at m k n = if_open (own_of (agent_of m k) n)

-- The file of an open row, the blocks that are kept for it, and whether it is a stream.
abbrev pub file_in : Option Outline → Option Place
file_in (Some (outline.Stream w)) = Some w.file
file_in (Some (outline.Handle h)) = Some h.file
file_in r = None

abbrev pub reserve_in : Option Outline → ℕ
reserve_in None = 0
reserve_in (Some r) = reserve_of r

abbrev pub is_stream : Option Outline → Bool
is_stream (Some (outline.Stream w)) = true
is_stream r = false

-- All open rows but for one stay as they are.
abbrev pub OthersStayOpen : Machine → Machine → ℕ → ℕ → Type 0
OthersStayOpen old new agent row = (k n : ℕ) → IsOther agent row k n → open_at new k n ≡ open_at old k n

-- An open row keeps its file and stays what it is, and at least as many blocks are kept for it.
pub record StaysOpen (old new : Option Outline) : Type 0 where
  pub file : file_in new ≡ file_in old
  pub reserve : reserve_in old ≤ reserve_in new
  pub stream : is_stream new ≡ is_stream old
