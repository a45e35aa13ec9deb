-- What stands ready for a call stays so until it is done. This project's own.
use Rattle.std.specs.Prelude.{◌≡◌, ℕ, ◌-◌, false, [], Option}
use Rattle.opfs_base.specs.Places.{Place}
use Rattle.opfs_base.specs.Texts.{Text}
use Rattle.opfs_state_rows.specs.Changes.Asking.{AreOwnUnits}
use Rattle.opfs_hist.specs.declared.history.PendingSum.{PendingSum}
use Rattle.opfs_hist.specs.declared.op.Op.{Op}
use Rattle.opfs_machine.specs.Agents.{agent_of}
use Rattle.opfs_machine.specs.Steps.{evicted}
use Rattle.opfs_machine.specs.Victims.{is_callers}
use Rattle.opfs_tree.specs.Ready.Ready.{ready_within}
use Rattle.opfs_state_rows.specs.Standing.Noted.{with_sum}
use Rattle.opfs_state_rows.specs.Standing.Seen.{Seen}
use Rattle.opfs_state.specs.Applied.{IsReady}
use Rattle.opfs_state.specs.Verdicts.Callers.{IsAgent}

-- All is ready for a call that is about its own agent's units.
pub record StillReady (s : Seen) (own : Option Place) (more k : ℕ) (op : Op) : Type 0 where
  pub ready : IsReady s own more k op
  pub units : AreOwnUnits s.machine k op

-- When the sum of the agent's local calls is taken in.
abbrev pub StaysReadyAsNoted : Type 0
StaysReadyAsNoted =
    (s : Seen) (own : Option Place) (more k : ℕ) (op : Op) (sum : PendingSum) → IsAgent s.machine k → IsReady s own more k op
    → IsReady (record s { machine = with_sum s.machine (k - 1) sum }) own more k op

-- When a unit of another origin is cleared.
abbrev pub StaysReadyAsCleared : Type 0
StaysReadyAsCleared =
    (s new : Seen) (own : Option Place) (more k : ℕ) (op : Op) (unit : Text) → AreOwnUnits s.machine k op → is_callers (agent_of s.machine k).key unit ≡ false
    → new.machine ≡ evicted s.machine unit → new.prepared ≡ s.prepared → IsReady s own more k op → StillReady new own more k op

-- The place that stands ready is none of a unit of another origin.
abbrev pub ReadyIsApart : Type 0
ReadyIsApart =
    (s : Seen) (own : Option Place) (more k : ℕ) (op : Op) (unit : Text) → AreOwnUnits s.machine k op → is_callers (agent_of s.machine k).key unit ≡ false
    → IsReady s own more k op → ready_within (unit, []) s.prepared.place ≡ false
