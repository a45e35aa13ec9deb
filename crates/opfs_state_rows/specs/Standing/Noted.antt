-- What the sum of an agent's local calls changes. This project's own.
use Rattle.std.specs.Prelude.{ℕ, suc, ◌+◌, ◌==◌, true, false, slice_set, Option}
use Rattle.opfs_base.specs.Texts.{Text}
use Rattle.opfs_hist.specs.declared.history.PendingSum.{PendingSum}
use Rattle.opfs_machine.specs.Agents.{agent_of}
use Rattle.opfs_register.specs.LastUses.{Counts}
use Rattle.opfs_register.specs.Seating.{noted, used_by}
use Rattle.opfs_state_rows.specs.Standing.Seen.{Machine}

-- The last uses after so many entries more of an agent with this key.
abbrev pub used_more : Machine → Option Text → ℕ → Counts
used_more m key more = elim (more == 0) [ true ↦ m.used | false ↦ used_by m.used key (m.entries + more) ]

-- The machine once an agent at a place, counted from 0, has so many iterators and entries more, and its clock.
abbrev pub with_sum : Machine → ℕ → PendingSum → Machine
with_sum m at sum = record m {
  agents = slice_set m.agents at (noted (agent_of m (suc at)) sum.rows sum.moment);
  entries = m.entries + sum.entries;
  used = used_more m (agent_of m (suc at)).key sum.entries;
}
