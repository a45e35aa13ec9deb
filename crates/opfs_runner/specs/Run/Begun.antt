-- The agents of a script before their first calls. This project's own.
use Rattle.std.specs.Prelude.{◌≡◌, ℕ, suc, List, [], length, map, slice_get, Option, Some}
use Rattle.opfs_base.specs.Texts.{Text}
use Rattle.opfs_hall.specs.Seen.{HallSeen, PassSeen, new_pass}
use Rattle.opfs_hist.specs.declared.entry.Entry.{Entry}
use Rattle.opfs_machine.specs.Openings.{Opening}
use Rattle.opfs_script.specs.Scripts.{Asked}
use Rattle.opfs_script_run.specs.Stage.Openings.{who_of}
use Rattle.opfs_turns.specs.Agents.{AgentSeen}
use Rattle.opfs_turns.specs.Calls.{MayBegin, new_agent}

-- A store begins with the agents of these scripts.
abbrev pub AreAgentsOf : Opening → List Asked → Type 0
AreAgentsOf o scripts = o.agents ≡ map who_of scripts

-- Each pass but the first is one with which an agent of the key at its place may begin.
abbrev pub MayBeginAll : {O : Type 0} → (O → Opening) → List (Option Text) → List (PassSeen O Entry) → Type 0
MayBeginAll {O} opened keys passes =
    (i : ℕ) (key : Option Text) → slice_get keys i ≡ Some key → (pass : PassSeen O Entry) × (slice_get passes (suc i) ≡ Some pass) × MayBegin opened pass key

-- The agents of a hall have these keys, in the order of their numbers, and have made no calls.
pub record AreBegun {O : Type 0} (opened : O → Opening) (of : HallSeen O) (keys : List (Option Text)) (agents : List (AgentSeen O)) : Type 0 where
  pub count : length agents ≡ length keys
  pub each : (i : ℕ) (key : Option Text) → slice_get keys i ≡ Some key → slice_get agents i ≡ Some (new_agent opened (new_pass of (suc i) []) key)
