-- When the shared state serves a call of the books. This project's own.
use Rattle.std.specs.Prelude.{◌≡◌, ℕ, ◌+◌, ◌<◌, ◌≤◌, ◌^◌, false, [], length, IsSome}
use Rattle.opfs_base.specs.Texts.{Text}
use Rattle.opfs_state_rows.specs.Changes.Allowed.{MayApply, IsSized}
use Rattle.opfs_hist.specs.declared.history.PendingSum.{PendingSum}
use Rattle.opfs_hist.specs.declared.op.Op.{Op}
use Rattle.opfs_laws.specs.Lengths.Kept.{Kept}
use Rattle.opfs_machine.specs.declared.state.Sizes.{Sizes}
use Rattle.opfs_machine.specs.Agents.{agent_of}
use Rattle.opfs_machine.specs.Rows.{row_at}
use Rattle.opfs_tree.specs.Ready.Ready.{ready_within}
use Rattle.opfs_register.specs.Slots.{most_rows}
use Rattle.opfs_state.specs.Applied.{StateSeen, IsPrepared}
use Rattle.opfs_state.specs.Verdicts.Callers.{IsAgent}

-- A call that is not refused, for which all stands ready.
pub record MayApplyTo (s : StateSeen) (k : ℕ) (o : Op) (z : Sizes) : Type 0 where
  pub agent : IsAgent s.store.machine k
  pub kept : Kept s.store.machine
  pub may : MayApply s.store.machine z k o
  pub sized : IsSized s.store.machine z k o
  pub prepared : IsPrepared s k o
  pub few : length (agent_of s.store.machine k).own < most_rows
  pub entries : s.store.machine.entries + 1 < 2 ^ 64

-- One that is refused.
pub record MayRefuseTo (s : StateSeen) (k : ℕ) : Type 0 where
  pub agent : IsAgent s.store.machine k
  pub entries : s.store.machine.entries + 1 < 2 ^ 64

-- An agent's pending calls.
pub record MayNoteTo (s : StateSeen) (k : ℕ) (sum : PendingSum) : Type 0 where
  pub agent : IsAgent s.store.machine k
  pub few : length (agent_of s.store.machine k).own + sum.rows ≤ most_rows
  pub entries : s.store.machine.entries + sum.entries < 2 ^ 64

-- A unit that is cleared.
pub record MayClearOf (s : StateSeen) (unit : Text) : Type 0 where
  pub root : IsSome (row_at s.store.machine (unit, []))
  pub ready : ready_within (unit, []) s.store.prepared.place ≡ false
  pub entries : s.store.machine.entries + 1 < 2 ^ 64
