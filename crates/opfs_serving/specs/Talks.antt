-- What a conversation has come to. This project's own.
use Rattle.std.specs.Prelude.{◌≡◌, ◌⊎◌, ℕ, suc, ◌-◌, ◌<◌, ◌≤◌, true, List, [], ◌∷◌, ◌++◌, length, All, Option, Some, None, slice_get}
use Rattle.opfs_base.specs.Texts.{Text}
use Rattle.opfs_hall.specs.History.{IsPrefix}
use Rattle.opfs_hist.specs.declared.entry.Entry.{Entry}
use Rattle.opfs_machine.specs.Agents.{agent_of, waits_for}
use Rattle.opfs_machine.specs.Histories.{state_after}
use Rattle.opfs_machine.specs.Openings.{Opening}
use Rattle.opfs_machine.specs.declared.own.Own.{Own}
use Rattle.opfs_machine.specs.declared.state.State.{State}
use Rattle.opfs_port.specs.Said.{Said}
use Rattle.opfs_script.specs.Scripts.{Asked}
use Rattle.opfs_script.specs.declared.step.Step.TheVariants as step
use Rattle.opfs_store.specs.Acts.Acting.{awaited}
use Rattle.opfs_store.specs.declared.acts.acted.AwaitState.TheVariants as await
use Rattle.opfs_turns.specs.Agents.{next_number}
use Rattle.opfs_serving.specs.Exchanges.{Call, Exchange, all_told, entries_told, ready, scripts_after, spoken, unanswered, with_call}
use Rattle.opfs_serving.specs.Lines.{Awaits, IsAsked}

-- Of the agent that was asked, the entries that are told by now have all that it was asked for, but for the last where it awaits.
abbrev pub HasAnswer : List Asked → Option Call → List Entry → Type 0
HasAnswer scripts None told = Unit {0}
HasAnswer scripts (Some c) told =
    (a : Asked) → slice_get scripts (c.agent - 1) ≡ Some a
    → (length a.steps < next_number c.agent told) ⊎ ((tag : Text) × (c.step ≡ step.Await tag) × (length a.steps ≤ next_number c.agent told))

-- An agent waits for a tag that is not due: it was not posted, and somebody is left who could post it.
pub record WaitsFor (s : State Text Own) (k : ℕ) (tag : Text) : Type 0 where
  pub waits : waits_for (agent_of s k).waits tag ≡ true
  pub not_due : awaited s k tag ≡ await.Neither

-- An await was looked after: at a moment at which all that was told had been entered, and no entry but these, its agent waited for its tag, which was
-- not due.
pub record IsLookedAfter (o : Opening) (told last : List Entry) (k : ℕ) (tag : Text) : Type 0 where
  pub front : List Entry
  pub all : IsPrefix told front
  pub before : IsPrefix front last
  pub waits : WaitsFor (state_after o front) k tag

-- So was each await.
abbrev pub AreLookedAfter : Opening → List Asked → List Entry → List Entry → Type 0
AreLookedAfter o scripts told last = (k : ℕ) (tag : Text) → Awaits scripts told k tag → IsLookedAfter o told last k tag

module _ {T : Type 0} (o : Opening) (entries : T → List Entry) (keeps : T → Type 0) where
  -- One exchange, where so many were before, agents were asked for these scripts, and these entries were told.
  pub record IsExchange (count : ℕ) (scripts : List Asked) (told : List Entry) (x : Exchange T) : Type 0 where
    -- what the line asks, and its answer
    pub asked : IsAsked count scripts told x.line x.call x.answer
    -- the first tells how many agents there are
    pub first : count ≡ 0 → x.answer ≡ ready (length scripts)
    -- all that is told was entered when it went out
    pub front : IsPrefix (told ++ entries_told x.answer) (entries x.at)
    -- what the store keeps at that moment
    pub kept : keeps x.at
    -- where a line is heard, each await that is not answered was looked after
    pub looked : (line : Text) → x.line ≡ Some line → AreLookedAfter o scripts told (entries x.at)
    -- the step has its answer
    pub answered : HasAnswer (with_call scripts x.call) x.call (told ++ entries_told x.answer)

  -- One exchange after another.
  abbrev pub AreExchanges : ℕ → List Asked → List Entry → List (Exchange T) → Type 0
  AreExchanges count scripts told [] = Unit {0}
  AreExchanges count scripts told (x ∷ xs) = IsExchange count scripts told x × AreExchanges (suc count) (with_call scripts x.call) (told ++ entries_told x.answer) xs

-- A conversation so far: what was said since its beginning; the scripts that were asked for, the entries that were told, which the store has, and how
-- the store has gone on since each answer, with all that it had then. Where all is well each answer went out; else there may be one that did not, or was
-- not made at all.
pub record IsTalk {T P : Type 0} (o : Opening) (entries : T → List Entry) (keeps : T → Type 0) (goes : T → T → Type 0) (tells : Type 0) (said : P → List (Said T)) (agents : List Asked) (begun now : P) (last : T)
    (sound : Type 0) (scripts : List Asked) (told : List Entry) : Type 0 where
  pub talk : List (Exchange T)
  pub left : List (Exchange T)
  pub few : length left ≤ 1
  pub whole : sound → left ≡ []
  pub said_is : tells → (said now ≡ said begun ++ (spoken talk ++ unanswered left))
      ⊎ ((said now ≡ said begun ++ (spoken talk ++ spoken left)) × AreExchanges o entries keeps 0 agents [] (talk ++ left))
  pub right : AreExchanges o entries keeps 0 agents [] talk
  pub scripts_are : scripts ≡ scripts_after agents (talk ++ left)
  pub told_is : told ≡ all_told talk
  pub front : IsPrefix told (entries last)
  pub begins : All (λ x. IsPrefix (entries x.at) (entries last)) (talk ++ left)
  pub goes_on : All (λ x. goes x.at last) (talk ++ left)
