-- An agent's own rows are its own. This project's own.
use Rattle.std.specs.Prelude.{◌≡◌, ◌≢◌, ℕ, List, [], ◌∷◌, ◌++◌, IsTrue}
use Rattle.opfs_base.specs.Texts.{Text}
use Rattle.opfs_hist.specs.declared.entry.Entry.{Entry}
use Rattle.opfs_hist.specs.declared.op.Op.{Op}
use Rattle.opfs_machine.specs.declared.own.Own.{Own}
use Rattle.opfs_machine.specs.declared.state.State.{State}
use Rattle.opfs_machine.specs.Agents.{agent_of}
use Rattle.opfs_machine.specs.Histories.{Legal, state_after}
use Rattle.opfs_machine.specs.Openings.{Opening}
use Rattle.opfs_machine.specs.OwnRows.{mine, is_local}
use Rattle.opfs_machine.specs.Steps.{step}

pub record OwnRowsAreTheAgents : Type 0 where
  -- What a local call answers and leaves depends on the call and the agent's own rows alone.
  pub local : (s t : State Text Own) (k : ℕ) (op : Op) → IsTrue (agent_of s k).live → IsTrue (agent_of t k).live → mine s k ≡ mine t k
      → IsTrue (is_local s k op)
      → ((step s k op).answered ≡ (step t k op).answered) × (mine (step s k op).after k ≡ mine (step t k op).after k)
  -- So does whether it is local.
  pub told : (s t : State Text Own) (k : ℕ) (op : Op) → mine s k ≡ mine t k → is_local s k op ≡ is_local t k op
  -- No entry of another agent changes them, and no eviction: that is an entry of agent 0.
  pub others : (o : Opening) (front : List Entry) (e : Entry) (rest : List Entry) (k : ℕ) → Legal o (front ++ e ∷ rest) → k ≢ e.agent
      → mine (state_after o (front ++ e ∷ [])) k ≡ mine (state_after o front) k
