-- The machine never answers that the disk failed: only an entry can. This project's own.
use Rattle.std.specs.Prelude.{◌≡◌, ℕ, false, List, All}
use Rattle.opfs_base.specs.Texts.{Text}
use Rattle.opfs_hist.specs.Faults.{is_disk_fault}
use Rattle.opfs_hist.specs.declared.entry.Entry.{Entry}
use Rattle.opfs_hist.specs.declared.op.Op.{Op}
use Rattle.opfs_machine.specs.declared.own.Own.{Own}
use Rattle.opfs_machine.specs.declared.state.State.{State}
use Rattle.opfs_machine.specs.Runs.{Call, group_of}
use Rattle.opfs_machine.specs.Steps.{step}
use Rattle.opfs_laws.specs.GoingOn.{ArePending}

pub record TheMachineNeverFaults : Type 0 where
  -- Its own answer to a call is no disk fault.
  pub call : (s : State Text Own) (k : ℕ) (op : Op) → is_disk_fault (step s k op).answered ≡ false
  -- Nor is the reply of any entry of a call's group.
  pub group : (s : State Text Own) (c : Call) → All (λ e. is_disk_fault e.reply ≡ false) (group_of s c (step s c.agent c.op))
  -- Nor that of a local call which is not entered yet.
  pub pending : (s : State Text Own) (k : ℕ) (es : List Entry) → ArePending s k es → All (λ e. is_disk_fault e.reply ≡ false) es
