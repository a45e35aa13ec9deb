-- What the shared store keeps beside its rows and buckets, as the machine has it. This project's own.
use Rattle.std.specs.Prelude.{ℕ, ◌+◌, ◌==◌, true, false, List, [], Option}
use Rattle.opfs_base.specs.Texts.{Text}
use Rattle.opfs_machine.specs.declared.own.Outline.{Outline}
use Rattle.opfs_machine.specs.declared.state.Agent.{Agent}
use Rattle.opfs_machine.specs.declared.state.Limits.{Limits}
use Rattle.opfs_machine.specs.declared.state.Posted.{Posted}
use Rattle.opfs_machine.specs.declared.state.State.{State}
use Rattle.opfs_register.specs.LastUses.{Counts}
use Rattle.opfs_register.specs.Seating.{used_by}

-- Besides, the agent that has room for a row more, and the tag that stands ready to be posted or waited for.
pub record Registered : Type 0 where
  pub posted : List Posted
  pub agents : List (Agent Outline)
  pub entries : ℕ
  pub used : Counts
  pub limits : Limits
  pub room : Option ℕ
  pub ready : Option Posted

-- The machine with these agents and tags, and without rows. What its words say of agents and tags alone they say of any
-- machine that has them.
abbrev pub bare : Registered → State ℕ Outline
bare r = record { rows = []; persistent = []; posted = r.posted; agents = r.agents; entries = r.entries; used = r.used; limits = r.limits }

-- The last uses once an agent of an origin has so many entries more.
abbrev pub used_after : Registered → Option Text → ℕ → Counts
used_after r key more = elim (more == 0) [ true ↦ r.used | false ↦ used_by r.used key (r.entries + more) ]
