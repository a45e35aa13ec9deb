-- A state as the shared store knows it: lengths in place of contents, and outlines in place of own rows. This project's
-- own.
use Rattle.std.specs.Prelude.{ℕ, map, length}
use Rattle.opfs_base.specs.Places.{Place}
use Rattle.opfs_base.specs.Texts.{Text}
use Rattle.opfs_hist.specs.declared.op.Op.{Op}
use Rattle.opfs_hist.specs.declared.op.Op.TheVariants.{Values, Moment}
use Rattle.opfs_machine.specs.declared.own.Outline.{Outline}
use Rattle.opfs_machine.specs.declared.own.Outline.TheVariants as outline
use Rattle.opfs_machine.specs.declared.own.Own.{Own}
use Rattle.opfs_machine.specs.declared.state.Agent.{Agent}
use Rattle.opfs_machine.specs.declared.state.FileRow.{FileRow}
use Rattle.opfs_machine.specs.declared.state.Row.{Row}
use Rattle.opfs_machine.specs.declared.state.Row.TheVariants as row
use Rattle.opfs_machine.specs.declared.state.State.{State}
use Rattle.opfs_machine.specs.Agents.{agent_of, with_agent, adds_own}
use Rattle.opfs_machine.specs.Contents.{outline_of}

-- A file, a row, an agent and a state with each content and each own row in another form.
abbrev pub on_file : {F G : Type 0} → (F → G) → FileRow F → FileRow G
on_file f x = record { present = f x.present; stamp = x.stamp; lock = x.lock; durable = f x.durable; durable_stamp = x.durable_stamp }

abbrev pub on_row : {F G : Type 0} → (F → G) → Row F → Row G
on_row f row.Directory = row.Directory
on_row f (row.File x) = row.File (on_file f x)

abbrev pub on_entry : {F G : Type 0} → (F → G) → Place × Row F → Place × Row G
on_entry f e = (e.0, on_row f e.1)

abbrev pub on_agent : {R Q : Type 0} → (R → Q) → Agent R → Agent Q
on_agent g a = record { key = a.key; grant = a.grant; live = a.live; moment = a.moment; waits = a.waits; own = map g a.own }

abbrev pub on_state : {F R G Q : Type 0} → (F → G) → (R → Q) → State F R → State G Q
on_state f g s = record {
  rows = map (on_entry f) s.rows;
  persistent = s.persistent;
  posted = s.posted;
  agents = map (on_agent g) s.agents;
  entries = s.entries;
  used = s.used;
  limits = s.limits;
}

-- The state as the shared store knows it.
abbrev pub in_lengths_of : State Text Own → State ℕ Outline
in_lengths_of s = on_state length outline_of s

-- What a local call changes of that: values adds an iterator, a new moment sets the clock, and nothing else does
-- anything.
abbrev pub local_change : State ℕ Outline → ℕ → Op → State ℕ Outline
local_change m k (Values dir) = adds_own m k outline.Iterator
local_change m k (Moment ms) = with_agent m k (record (agent_of m k) { moment = ms })
local_change m k op = m
