-- The agents of a script: this project's own.
use Rattle.std.specs.Prelude.{◌≡◌, ℕ, ◌+◌, ◌<◌, List, [], ◌∷◌, ◌++◌, length, Some, Ok}
use Rattle.json.specs.Token.{Token}
use Rattle.serde_json.specs.Data.{Data}
use Rattle.opfs_base.specs.Texts.{Text}
use Rattle.opfs_script.specs.Reading.{agent_of, agents_of, each_from, if_topped}
use Rattle.opfs_script.specs.Scripts.{Asked}
use Rattle.opfs_script_kept.specs.Packed.Telling.{steps_told}
use Rattle.opfs_script_kept.specs.declared.reading.members.Draft.{Draft}
use Rattle.opfs_script_kept.specs.declared.reading.sums.Sums.{Sums}
use Rattle.opfs_script_kept.specs.Reading.Steps.{ManySteps}
use Rattle.opfs_script_kept.specs.Reading.Sums.{IsWithin}
use Rattle.opfs_script_kept.specs.Reading.Values.{AreValues, IsValue}

-- An agent is what its members say.
pub record IsFinished (draft : Draft) (asked : Asked) : Type 0 where
  pub texts : List Text
  pub key : draft.key ≡ Some asked.key
  pub grant : asked.grant ≡ draft.grant
  pub kept : draft.steps ≡ Some texts
  pub steps : asked.steps ≡ steps_told texts

-- Tokens begin with the agent of a number.
pub record IsAgent (number : ℕ) (old : List Token) (asked : Asked) (new : List Token) : Type 0 where
  pub value : Data
  pub tokens : IsValue 125 old value new
  pub shorter : length new < length old
  pub read : agent_of number value ≡ Ok asked

-- Tokens begin with an agent, which stands behind those before it, and is counted.
pub record TakesAgent (old new : List Token) (agents more : List Asked) (sums counted : Sums) : Type 0 where
  pub asked : Asked
  pub is : IsAgent (1 + length agents) old asked new
  pub kept : more ≡ agents ++ asked ∷ []
  pub few : length agents < 64
  pub many : ManySteps sums asked.steps counted
  pub within : IsWithin sums → IsWithin counted

-- Tokens begin with these agents, and the bracket that closes them.
pub record AreAgents (old : List Token) (agents : List Asked) (new : List Token) : Type 0 where
  pub values : List Data
  pub tokens : AreValues 125 old values new
  pub read : each_from agent_of 1 values ≡ Ok agents

-- Tokens are a whole script.
pub record IsScript (old : List Token) (script : List Asked) : Type 0 where
  pub value : Data
  pub tokens : IsValue 127 old value []
  pub read : if_topped (agents_of value) ≡ Ok script
