-- How far a run has come: the entries so far begin a front of a script's run. This project's own.
use Rattle.std.specs.Prelude.{ℕ, ◌+◌, Bool, false, List, ◌++◌}
use Rattle.opfs_hist.specs.declared.entry.Entry.{Entry}
use Rattle.opfs_script.specs.declared.step.Step.{Step}
use Rattle.opfs_script.specs.Scripts.{Asked}
use Rattle.opfs_script_run.specs.declared.runs.hand.Hand.{Hand}
use Rattle.opfs_script_run.specs.Runs.Running.{IsCutFrom, empty_hand}

-- So many steps are done, and these are left: with the entries of any front of the steps left, and the end, the entries
-- so far are those of a front of the whole script.
abbrev pub Cuts : Asked → List Entry → Hand → ℕ → Bool → ℕ → List Step → Type 0
Cuts asked so_far h n waited done steps =
    (left : ℕ) (rest : List Entry) → IsCutFrom h n waited left steps rest
    → IsCutFrom (empty_hand asked.key) 1 false (done + left) asked.steps (so_far ++ rest)
