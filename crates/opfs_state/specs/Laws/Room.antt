-- What was judged may be applied once its units are cleared. This project's own.
use Rattle.std.specs.Prelude.{◌≡◌, ℕ, true, false, List, ◌∷◌, ◌++◌, [], fold, Some, Ok, IsSome, IsTrue}
use Rattle.opfs_base.specs.Texts.{Text}
use Rattle.opfs_base.specs.Units.{unit_of}
use Rattle.opfs_state_rows.specs.Changes.Allowed.{MayApply}
use Rattle.opfs_hist.specs.declared.entry.Entry.{Entry}
use Rattle.opfs_hist.specs.declared.op.Op.{Op}
use Rattle.opfs_laws.specs.Whole.{IsWholeOpening}
use Rattle.opfs_laws.specs.Lengths.Bridge.{judged_in}
use Rattle.opfs_laws.specs.Lengths.Kept.{Kept}
use Rattle.opfs_laws.specs.Lengths.Outlines.{in_lengths_of}
use Rattle.opfs_machine.specs.declared.own.Own.{Own}
use Rattle.opfs_machine.specs.declared.state.State.{State}
use Rattle.opfs_machine.specs.Agents.{agent_of}
use Rattle.opfs_machine.specs.Contents.{in_lengths}
use Rattle.opfs_machine.specs.Histories.{Legal, may_enter, state_after}
use Rattle.opfs_machine.specs.Openings.{Opening}
use Rattle.opfs_machine.specs.Replies.{sizes_of}
use Rattle.opfs_machine.specs.Rows.{row_at}
use Rattle.opfs_machine.specs.Steps.{evicted}
use Rattle.opfs_machine.specs.Sums.{is_persistent}
use Rattle.opfs_machine.specs.Victims.{is_callers}

-- The units of an agent's buckets are of its origin: so it is of each key that names no bucket.
abbrev pub HasOwnBuckets : State Text Own → ℕ → Type 0
HasOwnBuckets s k = (origin bucket : Text) → (agent_of s k).key ≡ Some origin → is_callers (agent_of s k).key (unit_of origin bucket) ≡ true

-- A unit whose turn it is to be cleared.
pub record MayClear (s : State Text Own) (unit : Text) : Type 0 where
  pub root : IsSome (row_at (in_lengths_of s) (unit, []))
  pub mode : is_persistent (in_lengths_of s) unit ≡ false
  pub kept : Kept (in_lengths_of s)

pub record HasRoom (s : State Text Own) (k : ℕ) (op : Op) (units : List Text) : Type 0 where
  pub kept : Kept (in_lengths_of (fold evicted s units))
  pub may : MayApply (in_lengths_of (fold evicted s units)) (sizes_of s k op) k op
  pub each : (front : List Text) (unit : Text) (rest : List Text) → units ≡ front ++ unit ∷ rest → MayClear (fold evicted s front) unit
  pub sizes : sizes_of (fold evicted s units) k op ≡ sizes_of s k op
  pub others : (front : List Text) (unit : Text) (rest : List Text) → units ≡ front ++ unit ∷ rest → is_callers (agent_of s k).key unit ≡ false

abbrev pub EvictionsMakeRoom : Type 0
EvictionsMakeRoom =
    (o : Opening) (h : List Entry) (k : ℕ) (op : Op) (units : List Text) → IsWholeOpening o → Legal o h → IsTrue (may_enter (state_after o h) k op) → HasOwnBuckets (state_after o h) k
    → judged_in in_lengths (in_lengths_of (state_after o h)) (sizes_of (state_after o h) k op) k op ≡ Ok units → HasRoom (state_after o h) k op units
