-- An agent whose pending calls were entered.
use Rattle.std.proofs.Common.{◌≡◌, List, ◌++◌, append-nil, Some, ap, ◌∙◌}
use Rattle.opfs_machine.specs.Agents.{agent_of, own_of}
use Rattle.opfs_machine.specs.Histories.{state_after}
use Rattle.opfs_runner.specs.AgentRows.Tables.{HasTable}
use Rattle.opfs_runner.specs.declared.agent_rows.agent_row.AgentRow.{AgentRow}
use Rattle.opfs_runner.specs.Stepping.{own_entries}
use Rattle.opfs_runner.proofs.Counting.{look-entries}
use Rattle.opfs_runner.proofs.agent_rows.Tabled.{table-same}
use Rattle.opfs_script_run.specs.Runs.Running.{entries_of}
use Rattle.opfs_store.specs.Copies.Copies.{StandsFor}
use Rattle.opfs_turns.proofs.Standing.{stands-there}
use Rattle.opfs_turns.proofs.other_rows.Leaving.{Leaves, at-end}
use Rattle.opfs_turns.specs.Agents.{AgentSeen, IsAgent, known}
use Rattle.opfs_turns.specs.Calls.{before_call}
use Rattle.opfs_turns.specs.Entering.{HasEnteredPending}

module _ {O : Type 0} (tells : Type 0) (a b : AgentSeen O) (kept : IsAgent tells a) (e : HasEnteredPending tells a b) where
  known-is : known b ≡ before_call a e.others
  known-is = ap (λ (x : AgentSeen O). b.pass.base ++ x.pending) e.rest ∙ append-nil b.pass.base ∙ e.grown

  agent-is : b.pass.agent ≡ a.pass.agent
  agent-is = ap (λ (x : AgentSeen O). x.pass.agent) e.rest

  -- Its own rows are as they were.
  leaves-pending : Leaves tells a b 0
  leaves-pending = record {
    row = λ m r apart there.
        at-end (λ o es k. own_of (agent_of (state_after o es) k) m ≡ Some r) a.opening b.opening (before_call a e.others) (known b) a.pass.agent b.pass.agent
        (ap (λ (x : AgentSeen O). x.opening) e.rest) known-is agent-is (ap (λ x. own_of x.0 m) e.own ∙ there);
    copy = λ m work apart stands.
        at-end (λ o es k. StandsFor tells o es k m work) a.opening b.opening (before_call a e.others) (known b) a.pass.agent b.pass.agent
        (ap (λ (x : AgentSeen O). x.opening) e.rest) known-is agent-is
        (stands-there tells a.opening a.pass.base e.others a.pass.agent e.legal e.apart a.pending kept.local m work stands);
    key = ap (λ (x : AgentSeen O). x.key) e.rest;
  }

  pub pending-table : (rows : List AgentRow) → IsAgent tells b → HasTable tells a rows → HasTable tells b rows
  pending-table rows then table = table-same tells a b kept then rows table leaves-pending (ap (λ (x : AgentSeen O). x.rows) e.rest)

  -- What it has entered, or will, is the same.
  pub pending-own : own_entries b ≡ own_entries a
  pending-own =
      ap (entries_of b.pass.agent) known-is ∙ ap (λ k. entries_of k (before_call a e.others)) agent-is
      ∙ look-entries a.pass.agent a.pass.base e.others a.pending e.apart
