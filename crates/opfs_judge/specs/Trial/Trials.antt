-- A trial: a script's agents run over an empty store. This project's own.
use Rattle.std.specs.Prelude.{◌≡◌, ◌≤◌, false, List, All, length}
use Rattle.opfs_hist.specs.declared.entry.Entry.{Entry}
use Rattle.opfs_hist.specs.Faults.{is_disk_fault}
use Rattle.opfs_machine.specs.Histories.{Legal}
use Rattle.opfs_script.specs.Scripts.{Asked}
use Rattle.opfs_script_run.specs.Stage.Openings.{trial_opening}
use Rattle.opfs_script_run.specs.Stage.Runs.{EachRuns, EachAlone}

-- A history of a trial: it is legal, the entries of each agent are its script's run, no other agent has an entry but 0,
-- whose entries are the evictions, no entry is a disk fault, and each party's part of it is a run of its own.
pub record IsTrial (script : List Asked) (es : List Entry) : Type 0 where
  pub legal : Legal (trial_opening script) es
  pub runs : EachRuns script es
  pub agents : All (λ e. e.agent ≤ length script) es
  pub faultless : All (λ e. is_disk_fault e.reply ≡ false) es
  pub alone : EachAlone (trial_opening script) es
