-- The agents of the shared store as the machine in lengths has them. This project's own.
use Rattle.std.specs.Prelude.{◌≡◌, ℕ, ◌≤◌, Bool, true, false, List, [], ◌++◌, length, map, replicate, Option, Some, None, unwrap_or, slice_get}
use Rattle.std.specs.FinMap.Entries.{put}
use Rattle.opfs_base.specs.Texts.{Text}
use Rattle.opfs_machine.specs.declared.own.Outline.{Outline}
use Rattle.opfs_machine.specs.declared.own.Outline.TheVariants as outline
use Rattle.opfs_machine.specs.declared.state.Agent.{Agent}
use Rattle.opfs_register.specs.declared.seat.Seat.{Seat}
use Rattle.opfs_register.specs.declared.seat.Who.{Who}
use Rattle.opfs_register.specs.LastUses.{text_cmp, Counts, is_known}

-- An agent as the machine has it.
abbrev pub agent_seen : Seat → Agent Outline
agent_seen s = record { key = s.key; grant = s.grant; live = s.live; moment = s.moment; waits = s.waits; own = s.rows.own }

abbrev pub agents_seen : List Seat → List (Agent Outline)
agents_seen seats = map agent_seen seats

-- An agent as it begins: it is live, its clock stands at 0, and it has no row.
abbrev pub agent_begun : Who → Agent Outline
agent_begun w = record { key = w.key; grant = w.grant; live = true; moment = 0; waits = None; own = [] }

abbrev pub key_of : Option Who → Option Text
key_of None = None
key_of (Some w) = w.key

-- An agent with so many iterators more, and with a clock where one is told.
abbrev pub noted : Agent Outline → ℕ → Option ℕ → Agent Outline
noted a more moment = record a { moment = unwrap_or moment a.moment; own = a.own ++ replicate more outline.Iterator }

-- The agents, the one that has room for a row more, and the last use of each origin that was used.
pub record Seating : Type 0 where
  pub agents : List (Agent Outline)
  pub room : Option ℕ
  pub used : Counts

abbrev pub is_ready : Option Seat → Bool
is_ready None = false
is_ready (Some s) = s.rows.ready

abbrev pub key_in : Option Seat → Option Text
key_in None = None
key_in (Some s) = s.key

-- The last uses once an entry of an origin has a number; an agent without a key uses none.
abbrev pub used_by : Counts → Option Text → ℕ → Counts
used_by used None number = used
used_by used (Some origin) number = put text_cmp origin number used

-- The most agents.
abbrev pub most_agents : ℕ
most_agents = 64

-- There are few agents, one of them may have room, and the origin of each is known.
pub record IsSeated (seats : List Seat) (room : Option ℕ) (uses : Counts) : Type 0 where
  pub few : length seats ≤ most_agents
  pub ready : (at : ℕ) → room ≡ Some at → is_ready (slice_get seats at) ≡ true
  pub known : (at : ℕ) (origin : Text) → key_in (slice_get seats at) ≡ Some origin → is_known uses origin ≡ true
