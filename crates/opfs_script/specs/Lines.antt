-- The lines of a conversation: the agents of its first line, and what each other line asks. This project's own.
use Rattle.std.specs.Prelude.{◌≡◌, ℕ, ◌+◌, ◌*◌, ◌-◌, ◌==◌, ◌&&◌, nat_le, Bool, true, false, List, [], ◌∷◌, Option, Some, None, option_map, Result, Ok, Err, codes, IsTrue}
use Rattle.serde_json.specs.Data as json
use Rattle.opfs_base.specs.Texts.{Text, same_text}
use Rattle.opfs_script.specs.Limits.{keeps_bounds}
use Rattle.opfs_script.specs.Members.{has_only, text}
use Rattle.opfs_script.specs.Members as members
use Rattle.opfs_script.specs.Reading.{Head, Read, ◌>>=◌, agents_of, each_from, grant_of, if_headed, if_within, json_of, step_of}
use Rattle.opfs_script.specs.Scripts.{Asked}
use Rattle.opfs_script.specs.declared.lines.Asking.{Asking}
use Rattle.opfs_script.specs.declared.lines.Asking.TheVariants as asking
use Rattle.opfs_script.specs.declared.lines.LinePart.{LinePart}
use Rattle.opfs_script.specs.declared.refusal.ScriptRefusal.TheVariants as refused
use Rattle.opfs_script.specs.declared.step.Step.{Step}

-- ---- the first line

-- The members of an agent whose steps come later.
abbrev pub head_alone : json.Data → Option Head
head_alone value =
    elim (has_only (codes "origin" ∷ codes "grants" ∷ []) value) [
      | true ↦ members.◌>>=◌ (text (codes "origin") value) (λ origin. members.◌>>=◌ (grant_of value) (λ grant. Some (origin, grant, [])))
      | false ↦ None
    ]

unfoldable pub agent_alone : ℕ → json.Data → Read Asked
agent_alone agent value = if_headed agent (head_alone value)

-- The agents, of which there is one at least, as a script's.
abbrev pub if_agents : List json.Data → Read (List Asked)
if_agents [] = Err (refused.BadShape 0 0)
if_agents (item ∷ items) = each_from agent_alone 1 (item ∷ items) >>= if_within

abbrev pub if_named : Option (List json.Data) → Read (List Asked)
if_named None = Err (refused.BadShape 0 0)
if_named (Some items) = if_agents items

abbrev pub if_told : Option json.Data → Read (List Asked)
if_told None = Err refused.NotJson
if_told (Some value) = if_named (agents_of value)

-- The agents that a first line names, each without steps, or why it is refused.
unfoldable pub heard_agents : Text → Read (List Asked)
heard_agents line = if_told (json_of line)

-- ---- the others

-- An agent's number and the text behind it, as the definition knows them.
abbrev pub part : LinePart → ℕ × Text
part p = (p.agent, p.text.now)

-- The number that a decimal digit stands for.
abbrev pub digit : ℕ → Option ℕ
digit c = elim (nat_le 48 c && nat_le c 57) [ true ↦ Some (c - 48) | false ↦ None ]

abbrev pub two_digits : ℕ → ℕ → Option ℕ
two_digits a b = members.◌>>=◌ (digit a) (λ tens. members.◌>>=◌ (digit b) (λ ones. Some (10 * tens + ones)))

-- A number, and what stands behind it.
abbrev pub behind : Option ℕ → Text → Option (ℕ × Text)
behind number rest = option_map (λ n. (n, rest)) number

abbrev pub numbered_by_two : Option ℕ → Text → Option (ℕ × Text)
numbered_by_two number [] = None
numbered_by_two number (c ∷ rest) = elim (c == 32) [ true ↦ behind number rest | false ↦ None ]

-- The number of one or two digits before the first blank, and what stands behind that.
abbrev pub numbered : Text → Option (ℕ × Text)
numbered [] = None
numbered (a ∷ []) = None
numbered (a ∷ b ∷ rest) = elim (b == 32) [ true ↦ behind (digit a) rest | false ↦ numbered_by_two (two_digits a b) rest ]

-- One of so many agents, and what stands behind its number.
abbrev pub if_among : ℕ → ℕ × Text → Option (ℕ × Text)
if_among agents part = elim (nat_le 1 part.0 && nat_le part.0 agents) [ true ↦ Some part | false ↦ None ]

abbrev pub named_agent : ℕ → Text → Option (ℕ × Text)
named_agent agents line = members.◌>>=◌ (numbered line) (if_among agents)

-- What a text asks as a step, once its JSON is known.
abbrev pub step_asked : ℕ → ℕ → Option json.Data → Read Asking
step_asked agent number None = Err refused.NotJson
step_asked agent number (Some value) = step_of agent number value >>= λ step. Ok (asking.Step step)

-- What the text behind an agent's number asks.
abbrev pub asked_by : ℕ → ℕ → Text → Read Asking
asked_by agent number text = elim (same_text text (codes "end")) [ true ↦ Ok asking.End | false ↦ step_asked agent number (json_of text) ]

-- The members of a step keep their bounds.
abbrev pub IsBounded : Asking → Type 0
IsBounded (asking.Step step) = IsTrue (keeps_bounds step)
IsBounded asking.End = Unit {0}
