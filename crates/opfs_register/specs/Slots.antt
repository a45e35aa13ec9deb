-- Own rows as the machine in lengths has them. This project's own.
use Rattle.std.specs.Prelude.{◌≡◌, ℕ, zero, suc, ◌+◌, ◌≤◌, ◌==◌, Bool, cond, List, [], ◌∷◌, length, Option, None, Some, option_map, slice_get, slice_set}
use Rattle.opfs_machine.specs.Agents.{of_row, stream_in, handle_in}
use Rattle.opfs_machine.specs.declared.own.HandleOutline.{HandleOutline}
use Rattle.opfs_machine.specs.declared.own.Outline.{Outline}
use Rattle.opfs_machine.specs.declared.own.Outline.TheVariants as outline
use Rattle.opfs_machine.specs.declared.own.StreamOutline.{StreamOutline}
use Rattle.opfs_machine.specs.declared.state.Agent.{Agent}
use Rattle.opfs_register.specs.declared.open.HeldRow.{HeldRow}
use Rattle.opfs_register.specs.declared.open.HeldRow.TheVariants as slot

-- What the shared store knows of a row.
abbrev pub outline_in : HeldRow → Outline
outline_in (slot.Stream w) = outline.Stream w
outline_in slot.ClosedStream = outline.ClosedStream
outline_in (slot.Handle h) = outline.Handle h
outline_in slot.ClosedHandle = outline.ClosedHandle
outline_in slot.Snapshot = outline.Snapshot

-- A row that is no iterator.
abbrev pub slot_row : Outline → Option Outline
slot_row outline.Iterator = None
slot_row r = Some r

-- Where a number stands among some.
abbrev pub place_in : List ℕ → ℕ → Option ℕ
place_in [] n = None
place_in (m ∷ ms) n = cond (m == n) (Some 0) (option_map suc (place_in ms n))

-- Numbers that rise, from one on and below another.
abbrev pub Rises : ℕ → List ℕ → ℕ → Type 0
Rises from [] below = from ≤ below
Rises from (m ∷ ms) below = (from ≤ m) × Rises (m + 1) ms below

-- The row of a slot that is there, and else an iterator.
abbrev pub row_of_slot : Option HeldRow → Outline
row_of_slot None = outline.Iterator
row_of_slot (Some s) = outline_in s

abbrev pub row_of_place : List HeldRow → Option ℕ → Outline
row_of_place slots None = outline.Iterator
row_of_place slots (Some i) = row_of_slot (slice_get slots i)

-- The row of a number: the slot that has this number, and where none has it an iterator.
abbrev pub row_in : List ℕ → List HeldRow → ℕ → Outline
row_in numbers slots n = row_of_place slots (place_in numbers n)

-- The first so many values.
abbrev pub first_values : {A : Type 0} → (ℕ → A) → ℕ → List A
first_values f zero = []
first_values f (suc k) = f 0 ∷ first_values (λ n. f (suc n)) k

-- So many rows, of which some slots have these numbers; all others are iterators.
abbrev pub rows_in : List ℕ → List HeldRow → ℕ → List Outline
rows_in numbers slots count = first_values (row_in numbers slots) count

-- The own row at a place of an agent at a place, both counted from 0.
abbrev pub slot_of : Option (Agent Outline) → ℕ → Option Outline
slot_of None n = None
slot_of (Some a) n = slice_get a.own n

abbrev pub slot_in : List (Agent Outline) → ℕ → ℕ → Option Outline
slot_in agents at n = slot_of (slice_get agents at) n

-- The agents with an own row changed.
abbrev pub slot_set : List (Agent Outline) → ℕ → ℕ → Outline → Option (Agent Outline) → List (Agent Outline)
slot_set agents at n r None = agents
slot_set agents at n r (Some a) = slice_set agents at (record a { own = slice_set a.own n r })

abbrev pub with_slot : List (Agent Outline) → ℕ → ℕ → Outline → List (Agent Outline)
with_slot agents at n r = slot_set agents at n r (slice_get agents at)

-- The open stream and the open access handle there.
abbrev pub stream_at : List (Agent Outline) → ℕ → ℕ → Option StreamOutline
stream_at agents at n = of_row stream_in (slot_in agents at n)

abbrev pub handle_at : List (Agent Outline) → ℕ → ℕ → Option HandleOutline
handle_at agents at n = of_row handle_in (slot_in agents at n)

-- A row that keeps so many blocks; any but an open one as it is.
abbrev pub keeping : ℕ → Outline → Outline
keeping reserve (outline.Stream w) = outline.Stream (record w { reserve = reserve })
keeping reserve (outline.Handle h) = outline.Handle (record h { reserve = reserve })
keeping reserve r = r

-- An agent's own rows, and whether there is room for one more.
pub record Rowed : Type 0 where
  pub own : List Outline
  pub ready : Bool

-- The most rows that an agent may have.
abbrev pub most_rows : ℕ
most_rows = 60000001

-- So many rows, whose slots have rising numbers.
pub record IsNumbered (count : ℕ) (numbers : List ℕ) (slots : ℕ) : Type 0 where
  pub few : count ≤ most_rows
  pub paired : slots ≡ length numbers
  pub rising : Rises 0 numbers count
