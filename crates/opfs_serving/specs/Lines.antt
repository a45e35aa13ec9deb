-- What a line asks, and why it is refused. This project's own.
use Rattle.std.specs.Prelude.{◌≡◌, ◌<◌, ◌≤◌, ◌==◌, ◌&&◌, ℕ, ◌+◌, ◌-◌, Bool, true, false, List, [], ◌∷◌, ◌++◌, length, Option, Some, None, Ok, Err, codes, slice_get}
use Rattle.std.specs.List.{list_any}
use Rattle.opfs_base.specs.Texts.{Text}
use Rattle.opfs_hist.specs.declared.entry.Entry.{Entry}
use Rattle.opfs_laws.specs.Leaving.{is_end}
use Rattle.opfs_print.specs.Lines.{two_text}
use Rattle.opfs_script.specs.Lines.{asked_by, named_agent}
use Rattle.opfs_script.specs.Reading.{Read}
use Rattle.opfs_script.specs.declared.lines.Asking.{Asking}
use Rattle.opfs_script.specs.declared.lines.Asking.TheVariants as asking
use Rattle.opfs_script.specs.declared.refusal.ScriptRefusal.{ScriptRefusal}
use Rattle.opfs_script.specs.declared.refusal.ScriptRefusal.TheVariants as script
use Rattle.opfs_script.specs.Scripts.{Asked}
use Rattle.opfs_script.specs.declared.step.Step.{Step}
use Rattle.opfs_script.specs.declared.step.Step.TheVariants as step
use Rattle.opfs_script_run.specs.Runs.Running.{entries_of}
use Rattle.opfs_turns.specs.Agents.{next_number}
use Rattle.opfs_serving.specs.Exchanges.{Answer, Call, ready, entered, refused}
use Rattle.opfs_serving.specs.declared.refusal.LineRefusal.{LineRefusal}
use Rattle.opfs_serving.specs.declared.refusal.LineRefusal.TheVariants as line

-- How many bytes a line has at most.
abbrev pub most_bytes : ℕ
most_bytes = 33555456

-- The text of a refusal.
abbrev pub refusal_text : LineRefusal → Text
refusal_text line.NotJson = codes "NotJson"
refusal_text (line.BadShape agent step) = two_text (codes "BadShape ") agent step
refusal_text (line.UnknownStep agent step) = two_text (codes "UnknownStep ") agent step
refusal_text line.TooMany = codes "TooMany"
refusal_text line.NoAgent = codes "NoAgent"
refusal_text line.Waiting = codes "Waiting"
refusal_text line.Ended = codes "Ended"

-- How the refusal of a step is told.
abbrev pub told_as : ScriptRefusal → Option LineRefusal
told_as script.NotJson = Some line.NotJson
told_as (script.BadShape agent step) = Some (line.BadShape agent step)
told_as (script.UnknownStep agent step) = Some (line.UnknownStep agent step)
told_as (script.BadOrigin agent) = Some (line.BadShape agent 0)
told_as script.TooMany = Some line.TooMany
told_as script.NoMemory = None

-- The line names one of so many agents, and this stands behind its number.
abbrev pub Names : ℕ → Text → ℕ → Text → Type 0
Names agents text k rest = named_agent agents text ≡ Some (k, rest)

-- What an agent was asked for.
abbrev pub IsAskedFor : List Asked → ℕ → Asked → Type 0
IsAskedFor scripts k asked = slice_get scripts (k - 1) ≡ Some asked

-- What stands behind the agent's number asks this as its next step.
abbrev pub AsksNext : ℕ → Asked → Text → Read Asking → Type 0
AsksNext k asked rest found = asked_by k (length asked.steps + 1) rest ≡ found

-- The end of an agent is among entries.
abbrev pub has_end : ℕ → List Entry → Bool
has_end k es = list_any (λ e. (e.agent == k) && is_end e.op) es

-- How many entries an agent has.
abbrev pub count_of : ℕ → List Entry → ℕ
count_of k es = length (entries_of k es)

-- An agent awaits what it was asked for last, where these entries were told: it has not ended, and no answer was told.
pub record Awaits (scripts : List Asked) (told : List Entry) (k : ℕ) (tag : Text) : Type 0 where
  pub real : 0 < k
  pub asked : Asked
  pub done : List Step
  pub of : IsAskedFor scripts k asked
  pub steps : asked.steps ≡ done ++ step.Await tag ∷ []
  pub stays : has_end k told ≡ false
  pub unanswered : next_number k told ≤ length asked.steps

-- Why a line is refused, where agents were asked for these scripts and these entries were told: it is too long; it names no agent; what it asks of one
-- is refused as its next step; or its agent awaits what it was asked for last, of which no answer was told; or its end was told; or too many of its
-- entries were.
pub data IsRefusal (scripts : List Asked) (told : List Entry) (text : Text) : LineRefusal → Type 0 where
  long : most_bytes < length text → IsRefusal scripts told text line.TooMany
  nobody : named_agent (length scripts) text ≡ None → IsRefusal scripts told text line.NoAgent
  unread : (k : ℕ) (asked : Asked) (rest : Text) (why : ScriptRefusal) (r : LineRefusal) → Names (length scripts) text k rest → IsAskedFor scripts k asked
      → AsksNext k asked rest (Err why) → told_as why ≡ Some r → IsRefusal scripts told text r
  waiting : (k : ℕ) (asked : Asked) (rest : Text) (done : List Step) (tag : Text) → Names (length scripts) text k rest → IsAskedFor scripts k asked
      → asked.steps ≡ done ++ step.Await tag ∷ [] → next_number k told ≤ length asked.steps → IsRefusal scripts told text line.Waiting
  ended : (k : ℕ) (rest : Text) → Names (length scripts) text k rest → has_end k told ≡ true → IsRefusal scripts told text line.Ended
  too_many : (k : ℕ) (rest : Text) → Names (length scripts) text k rest → 59900000 < count_of k told + count_of k told → IsRefusal scripts told text line.TooMany

-- A line, the step that it asks for, and its answer, where so many answers went out before and these entries were told. The first tells of how many
-- agents there are; it has no line. What else is told without a line was entered since. The answer to a line that asks for an end has that end.
pub data IsAsked (count : ℕ) (scripts : List Asked) (told : List Entry) : Option Text → Option Call → Answer → Type 0 where
  begins : count ≡ 0 → IsAsked count scripts told None None (ready (length scripts))
  unasked : (es : List Entry) → IsAsked count scripts told None None (entered es)
  refuses : (text : Text) (why : LineRefusal) → IsRefusal scripts told text why → IsAsked count scripts told (Some text) None (refused (refusal_text why))
  ends : (text : Text) (k : ℕ) (asked : Asked) (rest : Text) (es : List Entry) → Names (length scripts) text k rest → IsAskedFor scripts k asked → AsksNext k asked rest (Ok asking.End)
      → has_end k es ≡ true → IsAsked count scripts told (Some text) None (entered es)
  calls : (text : Text) (k : ℕ) (asked : Asked) (rest : Text) (s : Step) (es : List Entry) → Names (length scripts) text k rest → IsAskedFor scripts k asked
      → AsksNext k asked rest (Ok (asking.Step s)) → IsAsked count scripts told (Some text) (Some (record { agent = k; step = s })) (entered es)
