-- The shared store as the machine in lengths, read from its tree, its buckets and its agents. This project's own.
use Rattle.std.specs.Prelude.{ℕ, Bool, List, map, filter, Option}
use Rattle.std.specs.List.{list_any}
use Rattle.std.specs.Map.{keys_of}
use Rattle.opfs_base.specs.Texts.{Text, same_text}
use Rattle.opfs_machine.specs.declared.own.Outline.{Outline}
use Rattle.opfs_machine.specs.declared.state.Posted.{Posted}
use Rattle.opfs_machine.specs.declared.state.Row.TheVariants as line
use Rattle.opfs_machine.specs.declared.state.Row.{Row as Line}
use Rattle.opfs_machine.specs.declared.state.State.{State}
use Rattle.opfs_machine.specs.Rows.{Rows as Lines}
use Rattle.opfs_pool.specs.Shares.{Shares}
use Rattle.opfs_tree.specs.Ready.Ready.{Ready}
use Rattle.opfs_register.specs.Slots.{with_slot}
use Rattle.opfs_shed.specs.Buckets.{Buckets, bucket_at}
use Rattle.opfs_register.specs.Registers.{Registered}
use Rattle.opfs_tree.specs.Rows.{Rows}
use Rattle.opfs_tree.specs.declared.row.Row.{Row}
use Rattle.opfs_tree.specs.declared.row.Row.TheVariants as row

-- What the shared store knows of the store.
abbrev pub Machine : Type 0
Machine = State ℕ Outline

-- A row of the tree as a row of the machine.
abbrev pub line_of : Row → Line ℕ
line_of row.Dir = line.Directory
line_of (row.File f) = line.File (record { present = f.present; stamp = f.present_stamp; lock = f.lock; durable = f.length; durable_stamp = f.stamp })

abbrev pub lines_of : Rows → Lines ℕ
lines_of rows = map (λ e. (e.0, line_of e.1)) rows

-- The persistent units of the buckets, in order.
abbrev pub persistent_in : Buckets → List Text
persistent_in buckets = filter (λ unit. (bucket_at buckets unit).persistent) (keys_of buckets)

abbrev pub machine_of : Rows → Buckets → Registered → Machine
machine_of rows buckets register = record {
  rows = lines_of rows;
  persistent = persistent_in buckets;
  posted = register.posted;
  agents = register.agents;
  entries = register.entries;
  used = register.used;
  limits = register.limits;
}

-- What changes need no memory for: the place that stands ready for a row, the units that are known, the agent that has
-- room for one row more, and the tag that is ready to be posted or waited for.
pub record Prepared : Type 0 where
  pub place : Ready
  pub units : List Text
  pub room : Option ℕ
  pub tag : Option Posted

abbrev pub prepared_of : Ready → Shares → Registered → Prepared
prepared_of place shares register = record { place = place; units = keys_of shares; room = register.room; tag = register.ready }

abbrev pub is_known : Text → Prepared → Bool
is_known unit prepared = list_any (same_text unit) prepared.units

pub record Seen : Type 0 where
  pub machine : Machine
  pub tree : Rows
  pub prepared : Prepared

-- The machine with an own row changed, of an agent at a place, both counted from 0.
abbrev pub with_slot_at : Machine → ℕ → ℕ → Outline → Machine
with_slot_at m at n r = record m { agents = with_slot m.agents at n r }
