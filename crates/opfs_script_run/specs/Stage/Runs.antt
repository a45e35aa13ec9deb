-- Which histories are those of a script's agents. This project's own.
use Rattle.std.specs.Prelude.{◌≡◌, ℕ, ◌+◌, List, Some, slice_get}
use Rattle.opfs_hist.specs.declared.entry.Entry.{Entry}
use Rattle.opfs_machine.specs.declared.state.Party.{Party}
use Rattle.opfs_machine.specs.Alone.{IsAlone, project}
use Rattle.opfs_machine.specs.Openings.{Opening}
use Rattle.opfs_script_run.specs.Runs.Running.{IsRun, IsCut, entries_of}
use Rattle.opfs_script.specs.Scripts.{Asked}

-- The entries of each agent are its script's run. The first agent has the number 1.
abbrev pub EachRuns : List Asked → List Entry → Type 0
EachRuns script es = (k : ℕ) (a : Asked) → slice_get script k ≡ Some a → IsRun a (entries_of (k + 1) es)

-- The entries of each agent are those of a front of its script, as want of memory leaves it.
abbrev pub EachCut : List Asked → List Entry → Type 0
EachCut script es = (k : ℕ) (a : Asked) → slice_get script k ≡ Some a → IsCut a (entries_of (k + 1) es)

-- Each party's part of a history is a run of the machine that has that party's rows, modes and agents alone.
abbrev pub EachAlone : Opening → List Entry → Type 0
EachAlone o es = (party : Party) → IsAlone o party (project o party es)
