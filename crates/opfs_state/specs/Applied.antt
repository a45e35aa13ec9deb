-- The shared state as it is seen, and what stands ready for a call. This project's own.
use Rattle.std.specs.Prelude.{◌≡◌, ℕ, ◌-◌, true, [], List, map, Option, Some}
use Rattle.opfs_base.specs.Places.{Place}
use Rattle.opfs_base.specs.Texts.{Text}
use Rattle.opfs_state_rows.specs.Changes.Asking.{place_for, target_of, growth_of, makes_slot, tag_in, makes_in_unit}
use Rattle.opfs_hist.specs.declared.op.Op.{Op}
use Rattle.opfs_machine.specs.declared.state.Limits.{Limits}
use Rattle.opfs_machine.specs.Agents.{party_of}
use Rattle.opfs_register.specs.Seating.{agent_begun}
use Rattle.opfs_register.specs.declared.seat.Who.{Who}
use Rattle.opfs_shed.specs.Buckets.{Storage}
use Rattle.opfs_state_rows.specs.Standing.Seen.{Machine, Seen, is_known, lines_of, persistent_in}
use Rattle.opfs_tree.specs.Rows.{Rows}

-- The store; the place that the call in hand changes, in memory of its own, and what the call adds to the charge by the
-- row or mode that it makes, in bytes of an area.
pub record StateSeen : Type 0 where
  pub store : Seen
  pub target : Option Place
  pub growth : ℕ

abbrev pub bytes_added : StateSeen → ℕ
bytes_added s = s.growth

-- The machine at the beginning.
abbrev pub opened : Rows → Storage → Limits → List Who → Machine
opened tree shed limits agents = record {
  rows = lines_of tree;
  persistent = persistent_in shed.buckets;
  posted = [];
  agents = map agent_begun agents;
  entries = 0;
  used = [];
  limits = limits;
}

-- What stands ready for a call of an agent, so that it takes no memory: where it makes a row, that place; the place that it
-- changes; its unit; room for an own row; its tag.
pub record IsReady (s : Seen) (own : Option Place) (more k : ℕ) (o : Op) : Type 0 where
  pub place : s.prepared.place ≡ place_for s.machine k o
  pub target : own ≡ target_of s.machine k o
  pub growth : more ≡ growth_of s.machine k o
  pub known : (place : Place) → makes_in_unit o ≡ true → target_of s.machine k o ≡ Some place → is_known place.0 s.prepared ≡ true
  pub room : makes_slot o ≡ true → s.prepared.room ≡ Some (k - 1)
  pub tag : (tag : Text) → tag_in o ≡ Some tag → s.prepared.tag ≡ Some (record { party = party_of s.machine k; tag = tag })

abbrev pub IsPrepared : StateSeen → ℕ → Op → Type 0
IsPrepared s k o = IsReady s.store s.target s.growth k o
