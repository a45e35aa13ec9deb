-- The steps that texts tell: this project's own.
use Rattle.std.specs.Prelude.{List, [], ◌∷◌, Option, Some, None, Ok, Err}
use Rattle.serde_json.specs.Data.{Data}
use Rattle.opfs_base.specs.Texts.{Text}
use Rattle.opfs_script.specs.declared.step.Step.{Step}
use Rattle.opfs_script.specs.Reading.{Read, json_of, step_of}
use Rattle.opfs_script.specs.Scripts.{Asked}

-- What was read, unless it was refused.
abbrev pub unless_refused : {A : Type 0} → Read A → Option A
unless_refused (Ok x) = Some x
unless_refused (Err why) = None

-- The step that a value is. Its numbers stand in refusals alone.
abbrev pub told_by : Option Data → Option Step
told_by None = None
told_by (Some value) = unless_refused (step_of 0 0 value)

-- The step that a JSON text tells.
unfoldable pub step_told : Text → Option Step
step_told text = told_by (json_of text)

-- A step, if there is one, before others.
abbrev pub before : Option Step → List Step → List Step
before None steps = []
before (Some step) steps = step ∷ steps

-- The steps that texts tell, up to the first that tells none.
abbrev pub steps_told : List Text → List Step
steps_told [] = []
steps_told (text ∷ texts) = before (step_told text) (steps_told texts)

-- The same agent with no steps.
abbrev pub without_steps : Asked → Asked
without_steps asked = record asked { steps = [] }
