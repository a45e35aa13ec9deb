-- What the final history of a hall is, once all its agents have run their scripts. This project's own.
use Rattle.std.specs.Prelude.{ℕ, true, Bool, List, length, All}
use Rattle.opfs_hall.specs.History.{HasEnded}
use Rattle.opfs_hist.specs.declared.entry.Entry.{Entry}
use Rattle.opfs_script.specs.Scripts.{Asked}
use Rattle.opfs_script_run.specs.Stage.Runs.{EachRuns, EachCut}
use Rattle.opfs_runner.specs.Runs.{AllRan}

-- The passes of all agents, with these numbers and lists, were joined into the pass with which the hall was closed: each
-- agent's entries in the history are those of its own script, cut where memory was short.
pub record ScriptsMakeTheHistory : Type 0 where
  pub cut : (scripts : List Asked) (ps : List (ℕ × List Entry)) (whole : Bool) (history : List Entry) → AllRan scripts (length scripts) whole ps
      → All (HasEnded (λ e. e.agent) history) ps → EachCut scripts history
  pub run : (scripts : List Asked) (ps : List (ℕ × List Entry)) (history : List Entry) → AllRan scripts (length scripts) true ps
      → All (HasEnded (λ e. e.agent) history) ps → EachRuns scripts history
