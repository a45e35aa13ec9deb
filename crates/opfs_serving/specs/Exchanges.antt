-- What is said in a conversation: lines that are heard, what they ask, and what is told. This project's own.
use Rattle.std.specs.Prelude.{ℕ, zero, suc, ◌-◌, List, [], ◌∷◌, ◌++◌, length, take, Option, Some, None, codes, decimal}
use Rattle.opfs_base.specs.Texts.{Text}
use Rattle.opfs_hist.specs.declared.entry.Entry.{Entry}
use Rattle.opfs_port.specs.Said.{Said, heard, told}
use Rattle.opfs_print.specs.Lines.{text_of}
use Rattle.opfs_script.specs.declared.step.Step.{Step}
use Rattle.opfs_script.specs.Scripts.{Asked}

-- A step that an agent is asked for.
pub record Call : Type 0 where
  pub agent : ℕ
  pub step : Step

-- What is told: how many agents there are; why a line is refused; or what the history has more than was told before.
pub data Answer : Type 0 where
  ready : ℕ → Answer
  refused : Text → Answer
  entered : List Entry → Answer

-- A line, if one was heard, the step that it asks for, what is told behind it, and what stood when that went out.
pub record Exchange (T : Type 0) : Type 0 where
  pub line : Option Text
  pub call : Option Call
  pub answer : Answer
  pub at : T

-- A transcript without its last line feed, which the port adds.
abbrev pub without_feed : Text → Text
without_feed text = take (length text - 1) text

-- Entries that have no lines are not told.
abbrev pub told_text : {T : Type 0} → Text → T → List (Said T)
told_text [] at = []
told_text (c ∷ text) at = told (without_feed (c ∷ text)) at ∷ []

abbrev pub told_by : {T : Type 0} → Answer → T → List (Said T)
told_by (ready agents) at = told (codes "ready " ++ decimal agents) at ∷ []
told_by (refused why) at = told (codes "? " ++ why) at ∷ []
told_by (entered es) at = told_text (text_of es) at

abbrev pub heard_by : {T : Type 0} → Option Text → List (Said T)
heard_by None = []
heard_by (Some line) = heard line ∷ []

-- All that is said.
abbrev pub spoken : {T : Type 0} → List (Exchange T) → List (Said T)
spoken [] = []
spoken (x ∷ xs) = (heard_by x.line ++ told_by x.answer x.at) ++ spoken xs

-- What was heard of exchanges whose answers did not go out.
abbrev pub unanswered : {T : Type 0} → List (Exchange T) → List (Said T)
unanswered [] = []
unanswered (x ∷ xs) = heard_by x.line ++ unanswered xs

abbrev pub entries_told : Answer → List Entry
entries_told (ready agents) = []
entries_told (refused why) = []
entries_told (entered es) = es

-- All entries that are told.
abbrev pub all_told : {T : Type 0} → List (Exchange T) → List Entry
all_told [] = []
all_told (x ∷ xs) = entries_told x.answer ++ all_told xs

-- The scripts, with one step more at the place of an agent.
abbrev pub add_step : ℕ → Step → List Asked → List Asked
add_step n s [] = []
add_step zero s (a ∷ more) = record a { steps = a.steps ++ s ∷ [] } ∷ more
add_step (suc n) s (a ∷ more) = a ∷ add_step n s more

abbrev pub with_call : List Asked → Option Call → List Asked
with_call scripts None = scripts
with_call scripts (Some c) = add_step (c.agent - 1) c.step scripts

-- The scripts that agents were asked for.
abbrev pub scripts_after : {T : Type 0} → List Asked → List (Exchange T) → List Asked
scripts_after scripts [] = scripts
scripts_after scripts (x ∷ xs) = scripts_after (with_call scripts x.call) xs
