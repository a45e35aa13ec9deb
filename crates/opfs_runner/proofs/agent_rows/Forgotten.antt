-- The rows once the bytes of a snapshot are no longer held.
use Rattle.std.proofs.Common.{◌≡◌, ℕ, suc, ◌-◌, List, get_or, slice_set, Some, refl, sym, ap, ◌∙◌, subst, inl, inr, arith}
use Rattle.std.specs.Prelude.{slice_get}
use Rattle.std.proofs.lemmas.Option.{get_or_from_slice_get}
use lib.ListN.{length-set}
use Rattle.opfs_turns.specs.Agents.{AgentSeen, own_row}
use Rattle.opfs_turns.specs.Asking.Rows.{SnapshotSeen}
use Rattle.opfs_runner.specs.RunLaws.Kinds as rows
use Rattle.opfs_runner.specs.RunLaws.Kinds.{RowKind, sort_of, sort_at}
use Rattle.opfs_runner.specs.AgentRows.Tables.{kind_of, kinds_of, HasAgentRow, HasTable}
use Rattle.opfs_runner.specs.declared.agent_rows.agent_row.AgentRow.{AgentRow}
use Rattle.opfs_runner.specs.declared.agent_rows.agent_row.AgentRow.TheVariants as agent_row
use Rattle.opfs_runner.proofs.agent_rows.Tabled.{set-cases}
use Rattle.opfs_runner.proofs.agent_rows.Using.{IsAgentRowAt, sort-agent_row, snapshot-sort, map-set}

pub snapshot-of : (s : AgentRow) → kind_of s ≡ rows.snapshot → (x : SnapshotSeen) × (s ≡ agent_row.Snapshot x)
snapshot-of (agent_row.Snapshot x) is = (x, refl)
snapshot-of (agent_row.Stream w) is = absurd cc
snapshot-of (agent_row.ClosedStream c) is = absurd cc
snapshot-of (agent_row.Handle h) is = absurd cc
snapshot-of (agent_row.ClosedHandle c) is = absurd cc
snapshot-of agent_row.Gone is = absurd cc
snapshot-of (agent_row.Iterator i) is = absurd cc
snapshot-of agent_row.Taken is = absurd cc

module _ (agent_rows : List AgentRow) (m : ℕ) (there : sort_at (kinds_of agent_rows) m ≡ Some rows.snapshot) where
  found : IsAgentRowAt agent_rows m (λ kind. sort_of kind ≡ rows.snapshot)
  found = sort-agent_row agent_rows m rows.snapshot there

  at : m - 1 ≡ found.place
  at = let is = found.is in omega (arith, is)

  there-now : slice_get agent_rows (m - 1) ≡ Some found.agent_row
  there-now = ap (slice_get agent_rows) at ∙ found.there

  -- What is taken out is the snapshot.
  pub snapshot-is : (s d : AgentRow) → s ≡ get_or agent_rows (m - 1) d → kind_of s ≡ rows.snapshot
  snapshot-is s d is =
      ap kind_of (is ∙ get_or_from_slice_get agent_rows (m - 1) found.agent_row d there-now) ∙ snapshot-sort (kind_of found.agent_row) found.fits

  pub kinds-gone : kinds_of (slice_set agent_rows (m - 1) agent_row.Gone) ≡ slice_set (kinds_of agent_rows) (m - 1) rows.gone
  kinds-gone = map-set kind_of agent_rows (m - 1) agent_row.Gone

  module _ {O : Type 0} (tells : Type 0) (a : AgentSeen O) where
    gone-has : (n : ℕ) (s : AgentRow) → kind_of s ≡ rows.snapshot → HasAgentRow tells a n s → HasAgentRow tells a n agent_row.Gone
    gone-has n (agent_row.Snapshot x) is has = (has.1.bytes, ap (own_row a) (sym has.0) ∙ has.1.there)
    gone-has n (agent_row.Stream w) is has = absurd cc
    gone-has n (agent_row.ClosedStream c) is has = absurd cc
    gone-has n (agent_row.Handle h) is has = absurd cc
    gone-has n (agent_row.ClosedHandle c) is has = absurd cc
    gone-has n agent_row.Gone is has = has
    gone-has n (agent_row.Iterator i) is has = absurd cc
    gone-has n agent_row.Taken is has = absurd has

    -- The row is still the agent's, and each other one is as it was.
    pub table-gone : HasTable tells a agent_rows → HasTable tells a (slice_set agent_rows (m - 1) agent_row.Gone)
    table-gone table = record {
      count = length-set agent_rows (m - 1) agent_row.Gone ∙ table.count;
      each = λ j t is.
          elim (set-cases agent_rows (m - 1) j agent_row.Gone t is) as (λ z. HasAgentRow tells a (suc j) t) [
            | inl same ↦
                subst (HasAgentRow tells a (suc j)) (sym same.1)
                (gone-has (suc j) found.agent_row (snapshot-sort (kind_of found.agent_row) found.fits) (table.each j found.agent_row (ap (slice_get agent_rows) same.0 ∙ there-now)))
            | inr other ↦ table.each j t other.1
          ];
    }
