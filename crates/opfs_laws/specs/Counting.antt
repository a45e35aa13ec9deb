-- What a state counts of its history. This project's own.
use Rattle.std.specs.Prelude.{◌≡◌, ℕ, ◌+◌, Bool, false, if◌then◌else◌, List, [], ◌∷◌, length, Option, Some, None}
use Rattle.opfs_base.specs.Texts.{Text, same_text}
use Rattle.opfs_hist.specs.declared.entry.Entry.{Entry}
use Rattle.opfs_machine.specs.Agents.{agent_of, last_use}
use Rattle.opfs_machine.specs.Histories.{Legal, state_after}
use Rattle.opfs_machine.specs.Openings.{Opening, begun}

-- Whether a key is an origin's.
abbrev pub is_key : Text → Option Text → Bool
is_key origin None = false
is_key origin (Some key) = same_text origin key

-- The place, counted from 1, of the last entry of the agents with an origin's key, where so many entries went before and
-- the last of those is known; 0 where there is none.
abbrev pub last_place : (ℕ → Option Text) → Text → ℕ → ℕ → List Entry → ℕ
last_place keys origin before last [] = last
last_place keys origin before last (e ∷ es) = last_place keys origin (before + 1) (if is_key origin (keys e.agent) then before + 1 else last) es

-- The key of an agent of an opening.
abbrev pub key_of : Opening → ℕ → Option Text
key_of o k = (agent_of (begun o) k).key

pub record AStateCountsItsHistory : Type 0 where
  -- It has as many entries as its history.
  pub entries : (o : Opening) (h : List Entry) → Legal o h → (state_after o h).entries ≡ length h
  -- The last use of an origin is the place of its last entry. An eviction is an entry of agent 0, who has no key.
  pub used : (o : Opening) (h : List Entry) (origin : Text) → Legal o h → last_use (state_after o h) origin ≡ last_place (key_of o) origin 0 0 h
  -- Agents keep their keys and grants, and the limits stay.
  pub keys : (o : Opening) (h : List Entry) (k : ℕ) → Legal o h → (agent_of (state_after o h) k).key ≡ key_of o k
  pub grants : (o : Opening) (h : List Entry) (k : ℕ) → Legal o h → (agent_of (state_after o h) k).grant ≡ (agent_of (begun o) k).grant
  pub limits : (o : Opening) (h : List Entry) → Legal o h → (state_after o h).limits ≡ o.limits
