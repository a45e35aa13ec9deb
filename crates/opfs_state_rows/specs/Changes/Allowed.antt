-- When a call may be applied: it is not refused, and what it asks for fits as it is. This project's own.
use Rattle.std.specs.Prelude.{◌≡◌, ℕ, ◌+◌, ◌<◌, ◌≤◌, ◌^◌, length, Some, Ok}
use Rattle.opfs_base.specs.Blocks.{blocks}
use Rattle.opfs_base.specs.Texts.{Text}
use Rattle.opfs_hist.specs.declared.op.Op.{Op}
use Rattle.opfs_hist.specs.declared.op.Op.TheVariants as op
use Rattle.opfs_laws.specs.Lengths.Kept.{Kept}
use Rattle.opfs_machine.specs.declared.own.StreamOutline.{StreamOutline}
use Rattle.opfs_machine.specs.declared.state.Need.{Need}
use Rattle.opfs_machine.specs.declared.state.Sizes.{Sizes}
use Rattle.opfs_machine.specs.Agents.{agent_of, open_stream}
use Rattle.opfs_machine.specs.Contents.{in_lengths}
use Rattle.opfs_machine.specs.Rulings.{ruling, start_of}
use Rattle.opfs_machine.specs.Sums.{pool, charge}
use Rattle.opfs_register.specs.Slots.{most_rows}
use Rattle.opfs_state_rows.specs.Standing.Seen.{Machine}

pub record MayApply (m : Machine) (z : Sizes) (k : ℕ) (o : Op) : Type 0 where
  pub need : Need
  pub ruled : ruling in_lengths m z k o ≡ Ok need
  pub pool : pool in_lengths m + need.pool ≤ m.limits.blocks
  pub area : charge in_lengths m + need.charge + 7 ≤ m.limits.area

-- The sizes are those of the row that a call names: a stream's buffer has blocks enough, and the end of a write is a
-- number of 64 bits.
unfoldable pub IsSized : Machine → Sizes → ℕ → Op → Type 0
IsSized m z k (op.Write n bytes position) = start_of z position + length bytes < 2 ^ 64
IsSized m z k (op.SyncWrite n bytes at) = start_of z at + length bytes < 2 ^ 64
IsSized m z k (op.Close n) = (w : StreamOutline) → open_stream in_lengths m k n ≡ Some w → blocks z.size ≤ w.reserve
IsSized m z k o = Unit {0}

-- What a call may rely on: its agent, what every reached state keeps, and numbers that have room.
pub record MayDo (m : Machine) (z : Sizes) (k : ℕ) (o : Op) : Type 0 where
  pub above : 0 < k
  pub within : k ≤ length m.agents
  pub kept : Kept m
  pub may : MayApply m z k o
  pub sized : IsSized m z k o
  pub few : length (agent_of m k).own < most_rows
  pub entries : m.entries + 1 < 2 ^ 64

-- What a call may rely on that nothing is judged of but that it is made: its agent, and numbers that have room.
pub record MayCount (m : Machine) (k : ℕ) : Type 0 where
  pub above : 0 < k
  pub within : k ≤ length m.agents
  pub few : length (agent_of m k).own < most_rows
  pub entries : m.entries + 1 < 2 ^ 64
