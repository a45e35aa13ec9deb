-- The steps of an agent that are still to come. This project's own.
use Rattle.std.specs.Prelude.{◌≡◌, Bool, true, false, List, [], ◌∷◌, Option, Some, None}
use Rattle.opfs_hist.specs.declared.entry.Entry.{Entry}
use Rattle.opfs_hist.specs.declared.op.Op.{Op}
use Rattle.opfs_script_run.specs.declared.runs.hand.Hand.{Hand}
use Rattle.opfs_script_run.specs.Runs.Running.{hand_then, op_of}
use Rattle.opfs_script.specs.declared.step.Step.{Step}
use Rattle.opfs_judge.specs.declared.ahead.Ahead.{Ahead}
use Rattle.opfs_judge.specs.declared.ahead.Ahead.TheVariants as ahead

-- The steps in order.
abbrev pub steps_of : Ahead → List Step
steps_of (ahead.Read steps) = steps.now
steps_of (ahead.Told steps) = steps

-- What the first of some steps asks.
abbrev pub first_op : Hand → List Step → Option Op
first_op h [] = None
first_op h (s ∷ steps) = Some (op_of h s)

-- A hand takes in the entry of the first of some steps, and the others are left; or none is there.
abbrev pub IsPast : Entry → Hand → List Step → Hand → List Step → Bool → Type 0
IsPast e h [] g more went = (went ≡ false) × (g ≡ h)
IsPast e h (s ∷ steps) g more went = (went ≡ true) × (g ≡ hand_then h s e.op e.reply) × (more ≡ steps)
