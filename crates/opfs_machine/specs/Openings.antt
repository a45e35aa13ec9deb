-- What a run begins with: what is stored for good, and the agents.
use Rattle.std.specs.Prelude.{ℕ, Bool, true, List, [], map, Option, None}
use Rattle.opfs_base.specs.Texts.{Text}
use Rattle.opfs_base.specs.Places.{Place}
use Rattle.opfs_machine.specs.declared.own.Own.{Own}
use Rattle.opfs_machine.specs.declared.state.Agent.{Agent}
use Rattle.opfs_machine.specs.declared.state.Limits.{Limits}
use Rattle.opfs_machine.specs.declared.state.Row.{Row}
use Rattle.opfs_machine.specs.declared.state.Row.TheVariants as row
use Rattle.opfs_machine.specs.declared.state.State.{State}
use Rattle.opfs_machine.specs.Rows.{new_file}

-- What is stored at a place: a directory, or a file with its bytes and its time stamp.
pub data Stored : Type 0 where
  folder : Stored
  document : Text → ℕ → Stored

-- What is stored for good: the rows in the order of their places, and the persistent units in order.
pub record Map : Type 0 where
  pub rows : List (Place × Stored)
  pub persistent : List Text

abbrev pub empty_map : Map
empty_map = record { rows = []; persistent = [] }

-- An agent's origin's key, None for an opaque origin, and whether it has the grant `persistent-storage`.
pub record Who : Type 0 where
  pub key : Option Text
  pub grant : Bool

pub record Opening : Type 0 where
  pub stored : Map
  pub agents : List Who
  pub limits : Limits

-- A stored row as the machine has it: its lock is open, and it is as durable as it is.
abbrev pub row_of : Stored → Row Text
row_of folder = row.Directory
row_of (document bytes stamp) = new_file bytes stamp

abbrev pub agent_begun : Who → Agent Own
agent_begun w = record { key = w.key; grant = w.grant; live = true; moment = 0; waits = None; own = [] }

-- The state in which a run begins: nothing is open, no tag is posted, and every agent is live.
abbrev pub begun : Opening → State Text Own
begun o = record {
  rows = map (λ e. (e.0, row_of e.1)) o.stored.rows;
  persistent = o.stored.persistent;
  posted = [];
  agents = map agent_begun o.agents;
  entries = 0;
  used = [];
  limits = o.limits;
}
