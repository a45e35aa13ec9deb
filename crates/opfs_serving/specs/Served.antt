-- How a conversation stands, and what it leaves. This project's own.
use Rattle.std.specs.Prelude.{◌≡◌, ℕ, suc, ◌<◌, ◌≤◌, Bool, true, List, ◌∷◌, ◌++◌, [], length, All, Some, None, slice_get}
use Rattle.opfs_base.specs.Texts.{Text}
use Rattle.opfs_hall.specs.History.{IsPrefix}
use Rattle.opfs_hall.specs.Seen.{HallSeen, WatchSeen}
use Rattle.opfs_hist.specs.declared.entry.Entry.{Entry}
use Rattle.opfs_machine.specs.Histories.{state_after}
use Rattle.opfs_machine.specs.Openings.{Opening}
use Rattle.opfs_outside.specs.Faults.{Rose}
use Rattle.opfs_port.specs.Said.{Said, heard}
use Rattle.opfs_runner.specs.Stepping.{own_entries}
use Rattle.opfs_script.specs.Limits.{is_origin_key}
use Rattle.opfs_script.specs.Scripts.{Asked}
use Rattle.opfs_script_run.specs.Runs.Running.{entries_of}
use Rattle.opfs_script_run.specs.declared.runs.hand.Hand.{Hand}
use Rattle.opfs_turns.specs.Agents.{AgentSeen, IsAgent}
use Rattle.opfs_script_run.specs.Stage.Runs.{EachCut, EachRuns}
use Rattle.opfs_serving.specs.Lines.{has_end}
use Rattle.opfs_serving.specs.Seats.{AreSeated, HasBegunToWait, SeatSeen}
use Rattle.opfs_serving.specs.Talks.{IsTalk, WaitsFor}
use Rattle.opfs_serving.specs.declared.progress.Progress.{Progress}
use Rattle.opfs_serving.specs.declared.progress.State.{State}
use Rattle.opfs_serving.specs.declared.progress.State.TheVariants as state

-- What a store and a port mean, of which a conversation is said.
pub record Words (T O P : Type 0) : Type 1 where
  pub opening : T → O
  pub opened : O → Opening
  pub entries : T → List Entry
  pub keeps : T → Type 0
  pub goes : T → T → Type 0
  pub reads : Type 0
  pub tells : Type 0
  pub said : P → List (Said T)
  pub faults : P → ℕ

abbrev pub words : {T O P : Type 0} → (T → O) → (O → Opening) → (T → List Entry) → (T → Type 0) → (T → T → Type 0) → Type 0 → Type 0 → (P → List (Said T)) → (P → ℕ) → Words T O P
words opening opened entries keeps goes reads tells said faults = record { opening = opening; opened = opened; entries = entries; keeps = keeps; goes = goes; reads = reads; tells = tells; said = said; faults = faults }

-- The machine's opening of a store.
abbrev pub opens : {T O P : Type 0} → Words T O P → T → Opening
opens w t = w.opened (w.opening t)

-- Where no answer is lost: of an agent that has ended the end was told, and of one that awaits nothing all entries were.
pub record AreTold {O : Type 0} (seats : List (SeatSeen O)) (told : List Entry) : Type 0 where
  pub over : (i : ℕ) (x : SeatSeen O) → slice_get seats i ≡ Some x → x.agent ≡ None → has_end (suc i) told ≡ true
  pub shown : (i : ℕ) (x : SeatSeen O) (a : AgentSeen O) → slice_get seats i ≡ Some x → x.agent ≡ Some a → x.awaits ≡ None → IsPrefix (own_entries a) (entries_of (suc i) told)

-- How a conversation stands at any moment: what was said, the owner's pass, the seats of its agents, and how far it is told.
pub record IsStanding {T O P : Type 0} (w : Words T O P) (of : HallSeen O) (agents : List Asked) (begun now : P) (watch : WatchSeen O Entry T) (seats : List (SeatSeen O)) (progress : Progress) : Type 0 where
  pub scripts : List Asked
  pub told : List Entry
  pub talk : IsTalk (w.opened of.opening) w.entries w.keeps w.goes w.tells w.said agents begun now watch.last (progress.state ≡ state.On) scripts told
  pub seated : AreSeated w.reads of (progress.state ≡ state.On) progress.whole scripts seats watch.pass.ended
  pub emptied : (i : ℕ) (x : SeatSeen O) → slice_get seats i ≡ Some x → x.agent ≡ None → x.rows ≡ []
  pub counted : progress.state ≡ state.On → progress.count ≡ length told
  pub hall : watch.pass.hall ≡ of
  pub owner : watch.pass.agent ≡ 0
  pub all : of.agents ≡ length scripts
  pub people : length (w.opened of.opening).agents ≡ length scripts
  pub few : length scripts ≤ 64
  pub opened : w.opening watch.last ≡ of.opening

-- A port's count of faults has not fallen since a moment, and where answers are told no more since the port failed, it has risen.
pub record IsFaulted (begun now : ℕ) (s : State) : Type 0 where
  pub later : begun ≤ now
  pub failed : s ≡ state.Failed → Rose begun now

-- How it stands before its first answer.
pub record IsSilent {T O P : Type 0} (w : Words T O P) (of : HallSeen O) (agents : List Asked) (now : P) (watch : WatchSeen O Entry T) (seats : List (SeatSeen O)) (progress : Progress) : Type 0 where
  pub stands : IsStanding w of agents now now watch seats progress
  pub none : stands.talk.talk ≡ []
  pub all_told : AreTold seats stands.told

-- How it stands between two lines: where all is well, the first answer went out, and all was told that is to be told by then.
pub record IsServing {T O P : Type 0} (w : Words T O P) (of : HallSeen O) (agents : List Asked) (begun now : P) (watch : WatchSeen O Entry T) (seats : List (SeatSeen O)) (progress : Progress) : Type 0 where
  pub stands : IsStanding w of agents begun now watch seats progress
  pub greeted : progress.state ≡ state.On → 0 < length stands.talk.talk
  pub all_told : progress.state ≡ state.On → AreTold seats stands.told
  pub faulted : IsFaulted (w.faults begun) (w.faults now) progress.state

-- It stands on from one moment to another, whatever it began with.
abbrev pub ServesOn : {T O P : Type 0} → Words T O P → HallSeen O → P → P → WatchSeen O Entry T → WatchSeen O Entry T → List (SeatSeen O) → List (SeatSeen O) → Progress → Progress → Type 0
ServesOn {T} {O} {P} w of before now watch later seats then_seats p q =
    (agents : List Asked) (begun : P) → IsServing w of agents begun before watch seats p → IsServing w of agents begun now later then_seats q

-- It stands somehow.
pub record Serves {T O P : Type 0} (w : Words T O P) (of : HallSeen O) (now : P) (watch : WatchSeen O Entry T) (seats : List (SeatSeen O)) (p : Progress) : Type 0 where
  pub agents : List Asked
  pub begun : P
  pub is : IsServing w of agents begun now watch seats p

-- The agent of a seat, which has this number, waits after these entries for what it awaits, if it awaits anything, and that is not due.
abbrev pub IsAtRest : {O : Type 0} → Opening → List Entry → ℕ → SeatSeen O → Type 0
IsAtRest {O} o es k x = (a : AgentSeen O) (tag : Text) → x.agent ≡ Some a → x.awaits ≡ Some tag → WaitsFor (state_after o es) k tag

-- So does that of each seat.
abbrev pub AreAtRest : {O : Type 0} → Opening → List Entry → List (SeatSeen O) → Type 0
AreAtRest {O} o es seats = (i : ℕ) (x : SeatSeen O) → slice_get seats i ≡ Some x → IsAtRest o es (suc i) x

-- Each agent of a seat waits for what it awaits.
abbrev pub AreWaiting : {O : Type 0} → List (SeatSeen O) → Type 0
AreWaiting {O} seats = (i : ℕ) (x : SeatSeen O) → slice_get seats i ≡ Some x → HasBegunToWait x

-- A line may be heard: each agent knows that it waits for what it awaits, and does so after all that the owner's pass has seen, when it is not due.
pub record IsQuiet {T O P : Type 0} (w : Words T O P) (watch : WatchSeen O Entry T) (seats : List (SeatSeen O)) : Type 0 where
  pub begun : AreWaiting seats
  pub rest : AreAtRest (opens w watch.last) (w.entries watch.last) seats

-- A line was heard since a moment, and no more.
pub record HasHeard {T O P : Type 0} (w : Words T O P) (line : Text) (before now : P) : Type 0 where
  pub said : w.tells → w.said now ≡ w.said before ++ heard line ∷ []
  pub later : w.faults before ≤ w.faults now

-- A conversation leaves a store: what was said; and in the store's history the entries of each agent are those of the script that it was asked for,
-- or of a front of it where memory was short, or it awaited at the end. Where all went out, the first answer did, and all entries were told.
pub record IsServed {T O P : Type 0} (w : Words T O P) (agents : List Asked) (begun now : P) (store : T) (whole : Bool) (told_all : State) : Type 0 where
  pub scripts : List Asked
  pub told : List Entry
  pub talk : IsTalk (opens w store) w.entries w.keeps w.goes w.tells w.said agents begun now store (told_all ≡ state.On) scripts told
  pub greeted : told_all ≡ state.On → 0 < length talk.talk
  pub cut : EachCut scripts (w.entries store)
  pub runs : whole ≡ true → EachRuns scripts (w.entries store)
  pub all : told_all ≡ state.On → told ≡ w.entries store
  pub faulted : IsFaulted (w.faults begun) (w.faults now) told_all

-- Agents that were asked for nothing yet.
abbrev pub HasNoScripts : List Asked → Type 0
HasNoScripts agents = All (λ (a : Asked). (a.steps ≡ []) × (is_origin_key a.key ≡ true)) agents

-- The seats of agents, each with a hand of its own, without rows.
pub record AreSeatsOf {O : Type 0} (tells : Type 0) (agents : List (AgentSeen O)) (hands : List Hand) (seats : List (SeatSeen O)) : Type 0 where
  pub count : length seats ≡ length agents
  pub each : (i : ℕ) (a : AgentSeen O) (h : Hand) → slice_get agents i ≡ Some a → slice_get hands i ≡ Some h → slice_get seats i ≡ Some (record { agent = Some a; rows = []; hand = h; awaits = None })
  pub kept : (i : ℕ) (a : AgentSeen O) → slice_get agents i ≡ Some a → IsAgent tells a
