-- What the shared store knows of a state decides each ruling, and is changed alike by each call. This project's own.
use Rattle.std.specs.Prelude.{◌≡◌, ℕ, List, fold, Option, IsTrue}
use Rattle.opfs_base.specs.Texts.{Text}
use Rattle.opfs_hist.specs.declared.op.Op.{Op}
use Rattle.opfs_machine.specs.declared.own.Own.{Own}
use Rattle.opfs_machine.specs.declared.state.Need.{Need}
use Rattle.opfs_machine.specs.declared.state.Sizes.{Sizes}
use Rattle.opfs_machine.specs.declared.state.State.{State}
use Rattle.opfs_machine.specs.Agents.{agent_of, others_stuck, counted}
use Rattle.opfs_machine.specs.Contents.{Contents, in_bytes, in_lengths}
use Rattle.opfs_machine.specs.Effects.{effect, refused}
use Rattle.opfs_machine.specs.OwnRows.{is_local}
use Rattle.opfs_machine.specs.Replies.{sizes_of}
use Rattle.opfs_machine.specs.Ruled.{Ruled, ◌>>=◌}
use Rattle.opfs_machine.specs.Rulings.{ruling}
use Rattle.opfs_machine.specs.Steps.{room_for, evicted}
use Rattle.opfs_machine.specs.Sums.{usage, pool, charge}
use Rattle.opfs_machine.specs.Victims.{candidates, victims}
use Rattle.opfs_laws.specs.Lengths.Outlines.{in_lengths_of, local_change}

-- The refusal of a call, or the units that are cleared for it.
unfoldable pub judged_in : {F R : Type 0} → Contents F R → State F R → Sizes → ℕ → Op → Ruled (List Text)
judged_in c s z k op = ruling c s z k op >>= room_for c s (agent_of s k).key

pub record LengthsDecideEachRuling : Type 0 where
  -- What a call refuses, and else asks for.
  pub ruling : (s : State Text Own) (z : Sizes) (k : ℕ) (op : Op) → ruling in_lengths (in_lengths_of s) z k op ≡ ruling in_bytes s z k op
  -- Whether there is room for a need, and which units are cleared for it.
  pub room : (s : State Text Own) (caller : Option Text) (need : Need) → room_for in_lengths (in_lengths_of s) caller need ≡ room_for in_bytes s caller need
  pub victims : (s : State Text Own) (caller : Option Text) (need : ℕ) → victims in_lengths (in_lengths_of s) caller need ≡ victims in_bytes s caller need
  pub candidates : (s : State Text Own) (caller : Option Text) → candidates (in_lengths_of s) caller ≡ candidates s caller
  -- Both, one after the other.
  pub judged : (s : State Text Own) (z : Sizes) (k : ℕ) (op : Op) → judged_in in_lengths (in_lengths_of s) z k op ≡ judged_in in_bytes s z k op
  -- Whether nobody is left who could post what an agent waits for.
  pub stuck : (s : State Text Own) (k : ℕ) → others_stuck (in_lengths_of s) k ≡ others_stuck s k
  -- What is counted.
  pub usage : (s : State Text Own) (origin : Text) → usage in_lengths (in_lengths_of s) origin ≡ usage in_bytes s origin
  pub pool : (s : State Text Own) → pool in_lengths (in_lengths_of s) ≡ pool in_bytes s
  pub charge : (s : State Text Own) → charge in_lengths (in_lengths_of s) ≡ charge in_bytes s

pub record LengthsFollowEachCall : Type 0 where
  -- What a call changes, where it is not refused.
  pub effect : (s : State Text Own) (k : ℕ) (op : Op) → effect in_lengths (in_lengths_of s) (sizes_of s k op) k op ≡ in_lengths_of (effect in_bytes s (sizes_of s k op) k op)
  -- And where it is.
  pub refused : (s : State Text Own) (k : ℕ) (op : Op) → refused (in_lengths_of s) k op ≡ in_lengths_of (refused s k op)
  -- The count of entries, and the last use of an origin.
  pub counted : (s : State Text Own) (k : ℕ) → counted (in_lengths_of s) k ≡ in_lengths_of (counted s k)
  -- Evictions.
  pub evictions : (s : State Text Own) (gone : List Text) → fold evicted (in_lengths_of s) gone ≡ in_lengths_of (fold evicted s gone)

-- A local call changes nothing that the shared store knows, but that values adds an iterator and a moment sets the clock.
abbrev pub LocalCallsAreKnownByTheirWord : Type 0
LocalCallsAreKnownByTheirWord =
    (s : State Text Own) (k : ℕ) (op : Op) → IsTrue (is_local s k op)
    → effect in_lengths (in_lengths_of s) (sizes_of s k op) k op ≡ local_change (in_lengths_of s) k op
