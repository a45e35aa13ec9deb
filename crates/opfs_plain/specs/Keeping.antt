-- What the entries so far are to the state that they leave.
use Rattle.std.specs.Prelude.{◌≡◌, ℕ, List, [], ◌∷◌, ◌++◌, fold, map, true, false, All}
use Rattle.opfs_base.specs.Texts.{Text}
use Rattle.opfs_hist.specs.declared.entry.Entry.{Entry}
use Rattle.opfs_hist.specs.declared.op.Op.{Op}
use Rattle.opfs_hist.specs.declared.reply.Reply.{Reply}
use Rattle.opfs_hist.specs.Faults.{is_disk_fault}
use Rattle.opfs_machine.specs.declared.own.Own.{Own}
use Rattle.opfs_machine.specs.declared.state.State.{State}
use Rattle.opfs_machine.specs.Histories.{LegalFrom, after_entry}
use Rattle.opfs_machine.specs.Runs.{eviction}
use Rattle.opfs_plain.specs.declared.plain.Plain.{Plain}

-- From a start, the entries are a legal history, none with a disk fault, and the state is what they leave.
pub record IsKept (start : State Text Own) (plain : Plain) : Type 0 where
  pub legal : LegalFrom start [] plain.entries
  pub faultless : All (λ e. is_disk_fault e.reply ≡ false) plain.entries
  pub present : plain.state ≡ fold after_entry start plain.entries

-- One call more was entered: its evictions, and then its entry.
pub record IsEntered (before after : List Entry) (agent number : ℕ) (op : Op) : Type 0 where
  pub gone : List Text
  pub reply : Reply
  pub grown : after ≡ before ++ (map eviction gone ++ record { agent = agent; number = number; op = op; reply = reply; turn = true } ∷ [])
