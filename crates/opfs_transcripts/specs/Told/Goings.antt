-- How far the run of each agent's script is, and what is left of a transcript behind that. This project's own.
use Rattle.std.specs.Prelude.{◌≡◌, ℕ, suc, ◌+◌, ◌<◌, ◌^◌, true, false, Bool, ◌==◌, not, ◌&&◌, List, [], ◌∷◌, map, All, Option, Some, None}
use Rattle.opfs_base.specs.Texts.{Text}
use Rattle.opfs_hist.specs.declared.entry.Entry.{Entry}
use Rattle.opfs_hist.specs.declared.op.Op.{Op}
use Rattle.opfs_hist.specs.declared.op.Op.TheVariants as op
use Rattle.opfs_hist.specs.declared.reply.Reply.{Reply}
use Rattle.opfs_machine.specs.declared.own.Own.{Own}
use Rattle.opfs_machine.specs.declared.state.State.{State}
use Rattle.opfs_machine.specs.Histories.{evicted_by, LegalFrom}
use Rattle.opfs_print.specs.Lines.{text_of}
use Rattle.opfs_script_run.specs.declared.runs.hand.Hand.{Hand}
use Rattle.opfs_script_run.specs.declared.runs.hand.Open.{Open}
use Rattle.opfs_script_run.specs.Runs.Running.{ending, entries_of, hand_then, is_wait, op_of, IsEnd, IsRunFrom}
use Rattle.opfs_script.specs.declared.step.Step.{Step}

-- An agent makes its steps from one on, where no wait for it stands; ends what is still in its hand, from a number on; or has ended.
pub data Going : Type 0 where
  stepping : Hand → ℕ → List Step → Going
  closing : ℕ → List Open → Going
  gone : Going

-- The entries that are left of such a run.
abbrev pub IsGoing : Going → List Entry → Type 0
IsGoing (stepping h n steps) es = IsRunFrom h n false steps es
IsGoing (closing n rows) es = IsEnd n rows es
IsGoing gone es = es ≡ []

-- The number and the call of the next entry; none where the agent has ended.
abbrev pub asked_end : ℕ → List Open → Option (ℕ × Op)
asked_end n [] = Some (n, op.End)
asked_end n (o ∷ rows) = Some (n, ending o)

abbrev pub asked : Going → Option (ℕ × Op)
asked (stepping h n []) = asked_end n h.opened
asked (stepping h n (s ∷ steps)) = Some (n, op_of h s)
asked (closing n rows) = asked_end n rows
asked gone = None

-- How far the run is after that entry.
abbrev pub after_end : ℕ → List Open → Going
after_end n [] = gone
after_end n (o ∷ rows) = closing (n + 1) rows

abbrev pub going_on : Going → Reply → Going
going_on (stepping h n []) answered = after_end n h.opened
going_on (stepping h n (s ∷ steps)) answered = stepping (hand_then h s (op_of h s) answered) (n + 1) steps
going_on (closing n rows) answered = after_end n rows
going_on gone answered = gone

-- The runs of all agents, by their numbers, after an entry of one of them.
abbrev pub moved : (ℕ → Going) → ℕ → Reply → ℕ → Going
moved goings k answered j = elim (k == j) [ true ↦ going_on (goings j) answered | false ↦ goings j ]

abbrev pub has_no : ℕ → Text → Bool
has_no c [] = true
has_no c (x ∷ xs) = not (x == c) && has_no c xs

abbrev pub is_line : Option Text → Bool
is_line None = true
is_line (Some unit) = has_no 10 unit

-- An entry whose line tells it: it is no wait, its agent's number has 64 bits, and a unit that is cleared has no line feed.
pub record IsFixed (e : Entry) : Type 0 where
  pub moves : is_wait e.op ≡ false
  pub few : e.agent < 2 ^ 64
  pub line : is_line (evicted_by e.op) ≡ true

-- What a transcript's rest is the text of: entries that go on legally from a state before which these units were cleared for the
-- next call, and that go on with each agent's run.
pub record IsRest (s : State Text Own) (before : List Text) (goings : ℕ → Going) (text : Text) (es : List Entry) : Type 0 where
  pub legal : LegalFrom s before es
  pub runs : (i : ℕ) → IsGoing (goings (suc i)) (entries_of (suc i) es)
  pub fixed : All IsFixed es
  pub printed : text_of es ≡ text

-- An entry, whether it had the turn or not.
abbrev pub as_told : Entry → Entry
as_told e = record e { turn = true }

abbrev pub TextsFixHistories : Type 0
TextsFixHistories = (s : State Text Own) (before : List Text) (goings : ℕ → Going) (text : Text) (es fs : List Entry)
    → IsRest s before goings text es → IsRest s before goings text fs → map as_told es ≡ map as_told fs
