-- One group of a transcript: evictions, and then a call that its agent's run asks. This project's own.
use Rattle.std.specs.Prelude.{◌≡◌, ℕ, ◌<◌, ◌^◌, true, false, List, [], ◌∷◌, ◌++◌, map, fold, decimal, All, Some, None}
use Rattle.opfs_base.specs.Texts.{Text}
use Rattle.opfs_hist.specs.declared.entry.Entry.{Entry}
use Rattle.opfs_machine.specs.declared.own.Own.{Own}
use Rattle.opfs_machine.specs.declared.state.State.{State}
use Rattle.opfs_machine.specs.Histories.{evicted_by, IsCall}
use Rattle.opfs_machine.specs.Runs.{eviction}
use Rattle.opfs_machine.specs.Steps.{after_reply, evicted}
use Rattle.opfs_print.specs.Lines.{text_of}
use Rattle.opfs_script_run.specs.Runs.Running.{is_wait}
use Rattle.opfs_transcripts.specs.Told.Goings.{Going, IsRest, asked, has_no, moved}

-- None of these units has a line feed.
abbrev pub AreLines : List Text → Type 0
AreLines units = All (λ unit. has_no 10 unit ≡ true) units

-- The text begins with one group, where these units were cleared for its call already: evictions, and then a call that its
-- agent's run asks. Behind it the machine, the runs and the text are so.
pub record TurnedFrom (s t : State Text Own) (before : List Text) (goings after : ℕ → Going) (text more : Text) : Type 0 where
  pub gone : List Text
  pub entry : Entry
  pub lines : AreLines gone
  pub few : entry.agent < 2 ^ 64
  pub plain : evicted_by entry.op ≡ None
  pub moves : is_wait entry.op ≡ false
  pub call : IsCall s (before ++ gone) entry
  pub asks : asked (goings entry.agent) ≡ Some (entry.number, entry.op)
  pub state : t ≡ after_reply (fold evicted s (before ++ gone)) entry.agent entry.op entry.reply
  pub runs : (j : ℕ) → after j ≡ moved goings entry.agent entry.reply j
  pub begins : text ≡ text_of (map eviction gone ++ entry ∷ []) ++ more

abbrev pub Turned : State Text Own → State Text Own → (ℕ → Going) → (ℕ → Going) → Text → Text → Type 0
Turned s t goings after text more = TurnedFrom s t [] goings after text more

-- Some group of a text.
pub record HasTurn (s : State Text Own) (goings : ℕ → Going) (text : Text) : Type 0 where
  pub state : State Text Own
  pub after : ℕ → Going
  pub more : Text
  pub turn : Turned s state goings after text more

-- The lines of evictions, the number of an agent, and a point.
abbrev pub front_text : List Text → ℕ → Text → Text
front_text units k x = text_of (map eviction units) ++ (decimal k ++ 46 ∷ x)

-- Some text stands behind these.
pub record HasFront (text : Text) (units : List Text) (k : ℕ) : Type 0 where
  pub rest : Text
  pub is : text ≡ front_text units k rest

-- Some entries are left of a text.
pub record HasRest (s : State Text Own) (goings : ℕ → Going) (text : Text) : Type 0 where
  pub entries : List Entry
  pub rest : IsRest s [] goings text entries

pub record TextsAreReadInTurns : Type 0 where
  -- Behind a group of a text with a history is a rest with one.
  pub on : (s t : State Text Own) (goings after : ℕ → Going) (text more : Text) → Turned s t goings after text more → HasRest s goings text → HasRest t after more
  -- And in front of a rest with one a text with one.
  pub back : (s t : State Text Own) (goings after : ℕ → Going) (text more : Text) → Turned s t goings after text more → HasRest t after more → HasRest s goings text
  -- A text with a history, unless it is at its end, begins with a group.
  pub first : (s : State Text Own) (goings : ℕ → Going) (text : Text) → HasRest s goings text → (text ≡ [] → ⊥) → HasTurn s goings text
  -- A group's evictions, and the number of its agent, stand in front.
  pub front : (s t : State Text Own) (goings after : ℕ → Going) (text more : Text) (turn : Turned s t goings after text more) → HasFront text turn.gone turn.entry.agent
  -- They are read in one way alone.
  pub one : (units fled : List Text) (k j : ℕ) (x y : Text) → AreLines units → AreLines fled → k < 2 ^ 64 → j < 2 ^ 64 → front_text units k x ≡ front_text fled j y → (units ≡ fled) × (k ≡ j) × (x ≡ y)
