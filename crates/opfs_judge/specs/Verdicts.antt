-- When a transcript is one of a script's. This project's own.
use Rattle.std.specs.Prelude.{◌≡◌, Bool, true, false, ◌&&◌, List, IsTrue}
use Rattle.std.specs.List.{list_any}
use Rattle.opfs_base.specs.Texts.{Text}
use Rattle.opfs_hist.specs.declared.entry.Entry.{Entry}
use Rattle.opfs_machine.specs.Histories.{Legal}
use Rattle.opfs_print.specs.Lines.{text_of}
use Rattle.opfs_script.specs.Scripts.{Asked}
use Rattle.opfs_script_run.specs.Stage.Openings.{trial_opening}
use Rattle.opfs_script_run.specs.Stage.Runs.{EachRuns}
use Rattle.opfs_transcripts.specs.Told.Reading.{tells_room_or_stuck}
use Rattle.opfs_transcripts.specs.Waiting.Fixed.{has_await}
use Rattle.opfs_judge.specs.declared.verdict.Verdict.{Verdict}
use Rattle.opfs_judge.specs.declared.verdict.Verdict.TheVariants as verdict

-- The transcript is the text of a history of the script over an empty store: it is legal, and the entries of each agent are
-- its script's run.
pub record IsTextOf (script : List Asked) (text : Text) (es : List Entry) : Type 0 where
  pub legal : Legal (trial_opening script) es
  pub runs : EachRuns script es
  pub printed : text ≡ text_of es

-- Whether a script has an await, and a transcript a line that begins as an eviction's or ends as a stuck await's.
abbrev pub is_unsettled : List Asked → Text → Bool
is_unsettled script text = list_any has_await script && tells_room_or_stuck text

-- A verdict tells whether there is such a history; it is unsettled exactly where the script and the transcript are so.
abbrev pub IsJudged : List Asked → Text → Verdict → Type 0
IsJudged script text verdict.Unsettled = IsTrue (is_unsettled script text)
IsJudged script text verdict.Yes = (is_unsettled script text ≡ false) × ((es : List Entry) × IsTextOf script text es)
IsJudged script text verdict.No = (is_unsettled script text ≡ false) × ((es : List Entry) → IsTextOf script text es → ⊥)

-- The verdict of a settled transcript, by whether there is such a history.
abbrev pub verdict_of : Bool → Verdict
verdict_of true = verdict.Yes
verdict_of false = verdict.No
