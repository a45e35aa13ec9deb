-- What an agent that is told of a disk fault knows of its store's disk. This project's own.
use Rattle.std.specs.Prelude.{ℕ, ◌+◌, List}
use Rattle.opfs_hall.specs.History.{IsPrefix}
use Rattle.opfs_hist.specs.Faults.{disk_faults}
use Rattle.opfs_hist.specs.declared.entry.Entry.{Entry}
use Rattle.opfs_hist.specs.declared.op.Op.{Op}
use Rattle.opfs_hist.specs.declared.reply.Refusal.TheVariants as refusal
use Rattle.opfs_outside.specs.Faults.{RoseBy}
use Rattle.opfs_turns.specs.Agents.{AgentSeen}
use Rattle.opfs_turns.specs.Asking.Answers.{IsRefused}

-- A store has these entries now, and its disk had failed so often when it was opened, and has now.
pub record HasFailed (O : Type 0) (tells : Type 0) (entries : List Entry) (before now : ℕ) : Type 0 where
  -- It has failed since as often as an agent's entries tell, at least, if the store has gone on from these.
  pub seen : (a : AgentSeen O) → IsPrefix a.pass.base entries → RoseBy (disk_faults a.pass.base) before now
  -- A call of an agent that is answered by a disk fault has a rise of its own, beside those that the agent had seen before.
  pub told : (a b : AgentSeen O) (op : Op) → IsRefused tells a b op refusal.DiskFault → IsPrefix b.pass.base entries → RoseBy (1 + disk_faults a.pass.base) before now
