-- A conversation over an image: what was said, the history, and what each image has since an answer went out. This project's own.
use Rattle.std.specs.Prelude.{◌≡◌, ◌⊎◌, ℕ, suc, ◌<◌, ◌≤◌, List, [], ◌∷◌, ◌++◌, length, take, Some}
use Rattle.opfs_base.specs.Texts.{Text}
use Rattle.opfs_books.specs.Laws.Fronts.{IsShownOnce}
use Rattle.opfs_desk.specs.Seen.{DeskSeen, disk_of, entries_of}
use Rattle.opfs_desk_runs.specs.Runs.{IsRunOn, IsRunOver, opening_in, opening_over}
use Rattle.opfs_desk_runs.specs.declared.running.Completion.{Completion}
use Rattle.opfs_hall.specs.History.{IsPrefix}
use Rattle.opfs_hist.specs.declared.entry.Entry.{Entry}
use Rattle.opfs_image.specs.declared.recovered.Recovered.{Recovered}
use Rattle.opfs_machine.specs.Changes.{changes, floor}
use Rattle.opfs_machine.specs.Openings.{Opening}
use Rattle.opfs_outside.specs.declared.disk.Disk.{Ghosts as DiskWords}
use Rattle.opfs_port.specs.Said.{Said}
use Rattle.opfs_script.specs.Scripts.{Asked}
use Rattle.opfs_serving.specs.Exchanges.{Exchange, all_told, entries_told, ready, scripts_after, spoken, unanswered, with_call}
use Rattle.opfs_serving.specs.Lines.{IsAsked}
use Rattle.opfs_serving.specs.Talks.{AreLookedAfter, HasAnswer}
use Rattle.opfs_serving.specs.declared.progress.State.{State}
use Rattle.opfs_serving.specs.declared.progress.State.TheVariants as state

-- From a moment on each image that a stop may leave has what so many first entries of a history stored, up to the last content of them. So many moments
-- have passed, and images are those that a stop may leave at some moment from one on.
pub record HasKept (o : Opening) (h : List Entry) (last : ℕ) (left : ℕ → Text → Type 0) (count moment : ℕ) : Type 0 where
  pub within : count ≤ length h
  pub passed : moment ≤ last
  pub since : (c : Text) → left moment c → IsShownOnce o (floor (changes o (take count h))) h c

-- When a store was so: how many moments its disk had had.
abbrev pub moment_of : {D : Type 0} → DiskWords D → DeskSeen D → ℕ
moment_of w d = w.moment (disk_of d)

module _ {D : Type 0} (w : DiskWords D) (o : Opening) (history : List Entry) (Known : Type 0) (last : ℕ) (left : ℕ → Text → Type 0) where
  -- One exchange, where so many were before, agents were asked for these scripts, and these entries were told.
  pub record IsExchangeOn (count : ℕ) (scripts : List Asked) (told : List Entry) (x : Exchange (DeskSeen D)) : Type 0 where
    -- what the line asks, and its answer
    pub asked : IsAsked count scripts told x.line x.call x.answer
    -- the first tells how many agents there are
    pub first : count ≡ 0 → x.answer ≡ ready (length scripts)
    -- all that is told was entered when it went out, and what was entered then begins the history
    pub front : IsPrefix (told ++ entries_told x.answer) (entries_of x.at)
    pub begins : IsPrefix (entries_of x.at) history
    -- where a line is heard, each await that is not answered was looked after
    pub looked : (line : Text) → x.line ≡ Some line → AreLookedAfter o scripts told (entries_of x.at)
    -- the step has its answer
    pub answered : HasAnswer (with_call scripts x.call) x.call (told ++ entries_told x.answer)
    -- from the moment when it went out on, each image that a stop may leave has all that was entered by then
    pub kept : Known → HasKept o history last left (length (entries_of x.at)) (moment_of w x.at)

  -- One exchange after another.
  abbrev pub AreExchangesOn : ℕ → List Asked → List Entry → List (Exchange (DeskSeen D)) → Type 0
  AreExchangesOn count scripts told [] = Unit {0}
  AreExchangesOn count scripts told (x ∷ xs) = IsExchangeOn count scripts told x × AreExchangesOn (suc count) (with_call scripts x.call) (told ++ entries_told x.answer) xs

  -- What was said at a port since it was so: exchanges, and one at most whose answer may not have gone out; if it did, it is right too. Where all went out,
  -- the first answer did, and all entries were told.
  pub record IsConversation {P : Type 0} (tells : Type 0) (said : P → List (Said (DeskSeen D))) (agents : List Asked) (begun now : P) (ended : State) (scripts : List Asked) : Type 0 where
    pub talk : List (Exchange (DeskSeen D))
    pub unsaid : List (Exchange (DeskSeen D))
    pub few : length unsaid ≤ 1
    pub said_is : tells → (said now ≡ said begun ++ (spoken talk ++ unanswered unsaid)) ⊎ ((said now ≡ said begun ++ (spoken talk ++ spoken unsaid)) × AreExchangesOn 0 agents [] (talk ++ unsaid))
    pub right : AreExchangesOn 0 agents [] talk
    pub greeted : ended ≡ state.On → 0 < length talk
    pub scripts_are : scripts ≡ scripts_after agents (talk ++ unsaid)
    pub all : ended ≡ state.On → (unsaid ≡ []) × (all_told talk ≡ history)

-- A conversation over an image that was recovered.
pub record IsServedOver {D P : Type 0} (w : DiskWords D) (tells : Type 0) (said : P → List (Said (DeskSeen D))) (agents : List Asked) (begun now : P) (from : Recovered D w) (run : Completion D) (ended : State) : Type 0 where
  pub scripts : List Asked
  pub over : IsRunOver w from.geometry (opening_over w from scripts) scripts from.journal.disk run
  pub talked : IsConversation w (opening_over w from scripts) run.history w.tells (w.moment run.disk) (w.since run.disk) tells said agents begun now ended scripts

-- The same over the image that a disk held.
pub record IsServedOn {D P : Type 0} (w : DiskWords D) (tells : Type 0) (said : P → List (Said (DeskSeen D))) (agents : List Asked) (begun now : P) (old : D) (run : Completion D) (ended : State) : Type 0 where
  pub scripts : List Asked
  pub on : IsRunOn w scripts old run
  pub talked : IsConversation w (opening_in on.geometry on.before scripts) run.history w.tells (w.moment run.disk) (w.since run.disk) tells said agents begun now ended scripts
