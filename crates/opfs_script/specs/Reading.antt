-- What bytes read as: a script, or why they are none. This project's own.
use Rattle.std.specs.Prelude.{ℕ, ◌+◌, nat_lt, Bool, true, false, List, [], ◌∷◌, ◌++◌, length, Option, Some, None, option_map, option_and_then, Result, Ok, Err, codes}
use Rattle.std.specs.List.{list_all}
use Rattle.std.specs.Str.{is_utf8}
use Rattle.serde_json.specs.Data as json
use Rattle.serde_json.specs.Find.{get, as_str, as_array}
use Rattle.serde_json.specs.Read.{read}
use Rattle.opfs_base.specs.Texts.{Text, same_text}
use Rattle.opfs_base.specs.Keys.{key_of}
use Rattle.opfs_base.specs.declared.key.KeyRefusal.{KeyRefusal}
use Rattle.opfs_base.specs.declared.key.KeyRefusal.TheVariants as key
use Rattle.opfs_hist.specs.declared.op.Word.{Word}
use Rattle.opfs_script.specs.declared.step.Step.{Step}
use Rattle.opfs_script.specs.declared.refusal.ScriptRefusal.{ScriptRefusal}
use Rattle.opfs_script.specs.declared.refusal.ScriptRefusal.TheVariants as refused
use Rattle.opfs_script.specs.Scripts.{Asked}
use Rattle.opfs_script.specs.Members.{has_only, text, values_of, values}
use Rattle.opfs_script.specs.Members as members
use Rattle.opfs_script.specs.Words.{word_named}
use Rattle.opfs_script.specs.Limits.{fits_limits}
use Rattle.opfs_script.specs.Shapes.{shaped}

-- What is read of a part: a value, or why the script is refused.
abbrev pub Read : Type 0 → Type 0
Read A = Result A ScriptRefusal

-- One part after another, each where the one before is not refused.
infixl 10 ◌>>=◌
abbrev pub ◌>>=◌ : {A B : Type 0} → Read A → (A → Read B) → Read B
(Ok x) >>= next = next x
(Err why) >>= next = Err why

-- Values that were read, and more behind them.
abbrev pub after : {A : Type 0} → List A → Read (List A) → Read (List A)
after done (Ok more) = Ok (done ++ more)
after done (Err why) = Err why

-- Values read one after another, with their numbers from one on.
abbrev pub each_from : {A B : Type 0} → (ℕ → B → Read A) → ℕ → List B → Read (List A)
each_from one number [] = Ok []
each_from one number (value ∷ values) = one number value >>= λ x. after (x ∷ []) (each_from one (number + 1) values)

-- A step, once its shape is known.
abbrev pub if_shaped : ℕ → ℕ → Option Step → Read Step
if_shaped agent number None = Err (refused.BadShape agent number)
if_shaped agent number (Some step) = Ok step

-- A step, once its word is known.
abbrev pub if_known : ℕ → ℕ → json.Data → Option Word → Read Step
if_known agent number value None = Err (refused.UnknownStep agent number)
if_known agent number value (Some word) = if_shaped agent number (shaped word value)

-- A step of an agent: an object with a word in its member `do`, and that word's members.
unfoldable pub step_of : ℕ → ℕ → json.Data → Read Step
step_of agent number value =
    elim (text (codes "do") value) [ None ↦ Err (refused.BadShape agent number) | Some name ↦ if_known agent number value (word_named name) ]

-- Whether a value names the one grant.
abbrev pub is_grant : json.Data → Bool
is_grant value =
    elim (as_str value) [ None ↦ false | Some name ↦ same_text name (codes "persistent-storage") ]

-- Whether there is a grant among values that all name it.
abbrev pub grant_among : List json.Data → Option Bool
grant_among items = elim (list_all is_grant items) [ true ↦ Some (nat_lt 0 (length items)) | false ↦ None ]

-- The grant that a member tells: none where there is no such member.
abbrev pub granted_by : Option json.Data → Option Bool
granted_by None = Some false
granted_by (Some member) = option_and_then grant_among (option_map values_of (as_array member))

-- The grant of an agent.
abbrev pub grant_of : json.Data → Option Bool
grant_of value = granted_by (get (codes "grants") value)

-- What an agent says besides its steps' members: its origin, its grant, and its steps as they stand.
abbrev pub Head : Type 0
Head = Text × Bool × List json.Data

-- The members of an agent.
abbrev pub head_of : json.Data → Option Head
head_of value =
    elim (has_only (codes "origin" ∷ codes "steps" ∷ codes "grants" ∷ []) value) [
      | true ↦ members.◌>>=◌ (text (codes "origin") value) (λ origin.
          members.◌>>=◌ (grant_of value) (λ grant.
          members.◌>>=◌ (values (codes "steps") value) (λ steps. Some (origin, grant, steps))))
      | false ↦ None
    ]

-- The key of an agent: none where its origin is opaque.
abbrev pub key_refused : ℕ → KeyRefusal → Read (Option Text)
key_refused agent key.Opaque = Ok None
key_refused agent why = Err (refused.BadOrigin agent)

abbrev pub key_of_agent : ℕ → Text → Read (Option Text)
key_of_agent agent origin = elim (key_of origin) [ Ok unit ↦ Ok (Some unit) | Err why ↦ key_refused agent why ]

-- An agent, once its members are known: its origin, then its steps in order.
abbrev pub if_headed : ℕ → Option Head → Read Asked
if_headed agent None = Err (refused.BadShape agent 0)
if_headed agent (Some head) =
    key_of_agent agent head.0 >>= λ unit. each_from (step_of agent) 1 head.2 >>= λ steps.
    Ok (record { key = unit; grant = head.1; steps = steps })

-- The script of an agent.
unfoldable pub agent_of : ℕ → json.Data → Read Asked
agent_of agent value = if_headed agent (head_of value)

-- The agents of a script, if they are not too many and don't ask for too much.
abbrev pub if_within : List Asked → Read (List Asked)
if_within agents = elim (fits_limits agents) [ true ↦ Ok agents | false ↦ Err refused.TooMany ]

-- The values of the top's one member.
abbrev pub agents_of : json.Data → Option (List json.Data)
agents_of value = elim (has_only (codes "agents" ∷ []) value) [ true ↦ values (codes "agents") value | false ↦ None ]

-- A script, once its top is known: its agents in order, then its limits.
abbrev pub if_topped : Option (List json.Data) → Read (List Asked)
if_topped None = Err (refused.BadShape 0 0)
if_topped (Some items) = each_from agent_of 1 items >>= if_within

-- The value that bytes are as JSON; None where they are not UTF-8, or no JSON.
abbrev pub json_of : Text → Option json.Data
json_of bytes = elim (is_utf8 bytes) [ true ↦ read bytes | false ↦ None ]

-- A script, once its JSON is known.
abbrev pub if_json : Option json.Data → Read (List Asked)
if_json None = Err refused.NotJson
if_json (Some value) = if_topped (agents_of value)

-- The script that bytes read as, or why they are refused.
unfoldable pub reads : Text → Read (List Asked)
reads bytes = if_json (json_of bytes)
