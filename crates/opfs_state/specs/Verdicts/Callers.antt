-- The agent that a call is of. This project's own.
use Rattle.std.specs.Prelude.{◌≡◌, ℕ, ◌<◌, ◌≤◌, length, Option, Some, None, IsTrue}
use Rattle.opfs_base.specs.Texts.{Text}
use Rattle.opfs_base.specs.Units.{origin_of}
use Rattle.opfs_machine.specs.Agents.{agent_of}
use Rattle.opfs_state_rows.specs.Standing.Seen.{Machine}

-- There is an agent of this number.
pub record IsAgent (m : Machine) (k : ℕ) : Type 0 where
  pub above : 0 < k
  pub within : k ≤ length m.agents

-- An agent's key is that of an origin, and names no bucket.
abbrev pub HasOrigin : Machine → ℕ → Type 0
HasOrigin m k = (key : Text) → (agent_of m k).key ≡ Some key → origin_of key ≡ key

-- An agent whose script has not ended.
pub record IsCaller (m : Machine) (k : ℕ) : Type 0 where
  pub live : IsTrue (agent_of m k).live
  pub origin : HasOrigin m k

-- The caller's key is that of an origin.
abbrev pub IsOrigin : Option Text → Type 0
IsOrigin caller = (key : Text) → caller ≡ Some key → origin_of key ≡ key

-- A caller without a key asks for no block of the pool.
abbrev pub AsksByKey : Option Text → ℕ → Type 0
AsksByKey caller need = caller ≡ None → need ≡ 0
