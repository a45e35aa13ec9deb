-- What the members of an agent say: this project's own.
use Rattle.std.specs.Prelude.{◌≡◌, ℕ, ◌<◌, true, List, [], ◌∷◌, length, Option, Some, None, Ok, IsTrue, ⊤, codes}
use Rattle.json.specs.Token.{Token}
use Rattle.json.specs.Json.{value, members}
use Rattle.serde_json.specs.Data.{Data, string, array, Members, no_members, put}
use Rattle.serde_json.specs.Find.{get_member}
use Rattle.serde_json.specs.Read.{converted, of_members}
use Rattle.serde_json.specs.View.{items_of}
use Rattle.opfs_base.specs.Texts.{Text}
use Rattle.opfs_script.specs.declared.step.Step.{Step}
use Rattle.opfs_script.specs.Limits.{is_origin_key}
use Rattle.opfs_script.specs.Members.{all_among}
use Rattle.opfs_script.specs.Reading.{each_from, granted_by, key_of_agent, step_of}
use Rattle.opfs_script_kept.specs.Packed.Telling.{steps_told}
use Rattle.opfs_script_kept.specs.declared.reading.members.Draft.{Draft}
use Rattle.opfs_script_kept.specs.declared.reading.sums.Sums.{Sums}
use Rattle.opfs_script_kept.specs.Reading.Steps.{ManySteps}
use Rattle.opfs_script_kept.specs.Reading.Values.{IsValue}

-- The names that an agent's members may have.
abbrev pub agent_names : List Text
agent_names = codes "origin" ∷ codes "steps" ∷ codes "grants" ∷ []

-- A key, once it was read, is that of the origin.
pub record IsKeyOf (agent : ℕ) (key : Option Text) (found : Option Data) : Type 0 where
  pub origin : Text
  pub member : found ≡ Some (string origin)
  pub read : key_of_agent agent origin ≡ Ok key
  pub origins : IsTrue (is_origin_key key)

abbrev pub HoldsKey : ℕ → Option (Option Text) → Option Data → Type 0
HoldsKey agent None found = ⊤
HoldsKey agent (Some key) found = IsKeyOf agent key found

-- Texts, once they were read, tell the steps.
pub record AreTextsOf (agent : ℕ) (texts : List Text) (found : Option Data) : Type 0 where
  pub values : List Data
  pub member : found ≡ Some (array (items_of values))
  pub read : each_from (step_of agent) 1 values ≡ Ok (steps_told texts)

abbrev pub HoldsSteps : ℕ → Option (List Text) → Option Data → Type 0
HoldsSteps agent None found = ⊤
HoldsSteps agent (Some texts) found = AreTextsOf agent texts found

-- What was read so far is what these members say.
pub record Holds (agent : ℕ) (draft : Draft) (found : Members) : Type 0 where
  pub among : all_among agent_names found ≡ true
  pub key : HoldsKey agent draft.key (get_member (codes "origin") found)
  pub grant : granted_by (get_member (codes "grants") found) ≡ Some draft.grant
  pub steps : HoldsSteps agent draft.steps (get_member (codes "steps") found)

-- Tokens begin with the value of a member, and what it says is kept.
pub record TakesMember (agent : ℕ) (name : Text) (old new : List Token) (draft more : Draft) : Type 0 where
  pub value : Data
  pub tokens : IsValue 124 old value new
  pub shorter : length new < length old
  pub holds : (found : Members) → Holds agent draft found → Holds agent more (put name value found)

-- The steps of texts, if they were read.
abbrev pub told_of : Option (List Text) → List Step
told_of None = []
told_of (Some texts) = steps_told texts

-- Sums that counted the steps before count those that are there now.
abbrev pub Counts : Option (List Text) → Sums → Option (List Text) → Sums → Type 0
Counts texts sums more counted = (none : Sums) → ManySteps none (told_of texts) sums → ManySteps none (told_of more) counted

-- Tokens begin with members that say this, and the brace that closes them.
pub record AreMembers (agent : ℕ) (old : List Token) (draft : Draft) (new : List Token) : Type 0 where
  pub found : Members
  pub tokens : converted (λ ms. of_members ms no_members) (members (value 124) (length old) old) ≡ Some (found, new)
  pub holds : Holds agent draft found
  pub shorter : length new < length old
