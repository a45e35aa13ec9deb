-- How far each agent's run is. This project's own.
use Rattle.std.specs.Prelude.{ℕ, zero, suc, Bool, true, false, List, [], ◌∷◌, drop}
use Rattle.opfs_script_run.specs.declared.runs.hand.Hand.{Hand}
use Rattle.opfs_hist.specs.declared.op.Op.{Op}
use Rattle.opfs_hist.specs.declared.op.Op.TheVariants as op
use Rattle.opfs_script_run.specs.declared.runs.hand.Open.{Open}
use Rattle.opfs_script_run.specs.Runs.Running.{empty_hand, ending}
use Rattle.opfs_script.specs.declared.step.Step.{Step}
use Rattle.opfs_script.specs.Scripts.{Asked}
use Rattle.opfs_transcripts.specs.Told.Goings.{Going, stepping, closing, gone}
use Rattle.opfs_judge.specs.declared.player.Stage.{Stage}
use Rattle.opfs_judge.specs.declared.player.Stage.TheVariants as stage

abbrev pub standing : Hand → ℕ → List Step → Stage → Going
standing h n steps stage.Stepping = stepping h n steps
standing h n steps (stage.Closing row) = closing n (drop row h.opened)
standing h n steps stage.Gone = gone

-- What the end does next, where these rows are open.
abbrev pub end_of : List Open → Op
end_of [] = op.End
end_of (o ∷ rows) = ending o

-- An agent before its first step.
abbrev pub starting : Asked → Going
starting a = stepping (empty_hand a.key) 1 a.steps

abbrev pub is_gone : Going → Bool
is_gone (stepping h n steps) = false
is_gone (closing n rows) = false
is_gone gone = true

abbrev pub going_at : List Going → ℕ → Going
going_at [] i = gone
going_at (g ∷ goings) zero = g
going_at (g ∷ goings) (suc i) = going_at goings i

-- The runs of the agents of a list, by their numbers: the first agent has the number 1, and no other has a run.
abbrev pub goings_of : List Going → ℕ → Going
goings_of goings zero = gone
goings_of goings (suc i) = going_at goings i
