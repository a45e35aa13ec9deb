-- Steps that tokens begin with: this project's own.
use Rattle.std.specs.Prelude.{◌≡◌, ℕ, ◌+◌, ◌<◌, List, [], ◌∷◌, ◌++◌, length, sum_by, Some, Ok}
use Rattle.json.specs.Token.{Token}
use Rattle.serde_json.specs.Data.{Data}
use Rattle.opfs_base.specs.Texts.{Text}
use Rattle.opfs_script.specs.declared.step.Step.{Step}
use Rattle.opfs_script.specs.Limits.{bytes_asked}
use Rattle.opfs_script.specs.Reading.{each_from, step_of}
use Rattle.opfs_script_kept.specs.Packed.Telling.{step_told}
use Rattle.opfs_script_kept.specs.declared.reading.sums.Sums.{Sums}
use Rattle.opfs_script_kept.specs.Reading.Sums.{IsWithin}
use Rattle.opfs_script_kept.specs.Reading.Values.{AreValues, IsValue}

-- Tokens begin with a step, which a text tells and which writes or asks for so many bytes.
pub record IsStep (old new : List Token) (text : Text) (asked : ℕ) : Type 0 where
  pub value : Data
  pub step : Step
  pub tokens : IsValue 123 old value new
  pub shorter : length new < length old
  pub read : step_of 0 0 value ≡ Ok step
  pub told : step_told text ≡ Some step
  pub bytes : asked ≡ bytes_asked step

-- Such a step stands behind those before it, and is counted.
pub record TakesStep (old new : List Token) (texts more : List Text) (sums counted : Sums) : Type 0 where
  pub text : Text
  pub asked : ℕ
  pub is : IsStep old new text asked
  pub kept : more ≡ texts ++ text ∷ []
  pub steps : counted.steps ≡ sums.steps + 1
  pub bytes : counted.bytes ≡ sums.bytes + asked
  pub within : IsWithin counted

-- Tokens begin with these steps of any agent, and the bracket that closes them.
pub record AreSteps (old : List Token) (steps : List Step) (new : List Token) : Type 0 where
  pub values : List Data
  pub tokens : AreValues 123 old values new
  pub shorter : length new < length old
  pub read : (agent : ℕ) → each_from (step_of agent) 1 values ≡ Ok steps

-- So many steps more, with their bytes.
pub record ManySteps (sums : Sums) (more : List Step) (counted : Sums) : Type 0 where
  pub steps : counted.steps ≡ sums.steps + length more
  pub bytes : counted.bytes ≡ sums.bytes + sum_by bytes_asked more
