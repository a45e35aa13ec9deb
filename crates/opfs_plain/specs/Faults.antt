-- Calls that the disk failed. This project's own.
use Rattle.std.specs.Prelude.{◌≡◌, ℕ, List, [], ◌∷◌, ◌++◌, length, map, fold, true}
use Rattle.opfs_base.specs.Texts.{Text}
use Rattle.opfs_hist.specs.declared.entry.Entry.{Entry}
use Rattle.opfs_hist.specs.declared.op.Op.{Op}
use Rattle.opfs_hist.specs.declared.reply.Refusal.TheVariants.{DiskFault}
use Rattle.opfs_hist.specs.declared.reply.Reply.TheVariants.{No}
use Rattle.opfs_machine.specs.declared.own.Own.{Own}
use Rattle.opfs_machine.specs.declared.state.State.{State}
use Rattle.opfs_machine.specs.Histories.{IsFault}
use Rattle.opfs_machine.specs.Runs.{Call, eviction}
use Rattle.opfs_machine.specs.Steps.{step, evicted, after_reply}

-- A call may be answered with a disk fault after so many evictions.
pub record MayFault (s : State Text Own) (count k : ℕ) (op : Op) : Type 0 where
  pub gone : List Text
  pub many : length gone ≡ count
  pub fault : IsFault s gone k op (No DiskFault) (step s k op)

-- The entry of a call that the disk failed.
abbrev pub faulted_entry : Call → Entry
faulted_entry c = record { agent = c.agent; number = c.number; op = c.op; reply = No DiskFault; turn = true }

-- A call was answered with a disk fault after so many evictions, and entered with these.
pub record IsFaulted (s t : State Text Own) (before after : List Entry) (count : ℕ) (c : Call) : Type 0 where
  pub gone : List Text
  pub many : length gone ≡ count
  pub fault : IsFault s gone c.agent c.op (No DiskFault) (step s c.agent c.op)
  pub state : t ≡ after_reply (fold evicted s gone) c.agent c.op (No DiskFault)
  pub told : after ≡ before ++ (map eviction gone ++ faulted_entry c ∷ [])
