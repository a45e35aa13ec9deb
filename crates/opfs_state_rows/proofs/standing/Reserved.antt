-- An open row keeps more or fewer blocks, or is closed: its unit alone moves, and its mark stays.
use Rattle.std.proofs.Common.{◌≡◌, ℕ, ◌+◌, List, Option, Some, None, sym, ap, subst, ◌∙◌}
use Rattle.opfs_base.specs.Texts.{Text}
use Rattle.opfs_machine.specs.declared.own.Outline.{Outline}
use Rattle.opfs_machine.specs.declared.own.Outline.TheVariants as outline
use Rattle.opfs_machine.specs.declared.own.StreamOutline.{StreamOutline}
use Rattle.opfs_machine.specs.Agents.{of_row, stream_in}
use Rattle.opfs_pool.specs.Shares.{Blocks, share_at}
use Rattle.opfs_register.specs.Slots.{slot_in, stream_at, with_slot}
use Rattle.opfs_shed.specs.Buckets.{Storage}
use Rattle.opfs_tree.specs.Rows as tree
use Rattle.opfs_register.specs.Registers.{Registered}
use Rattle.opfs_state_rows.specs.Standing.Seen.{Machine, machine_of, with_slot_at, persistent_in}
use Rattle.opfs_state_rows.specs.Standing.Tied.{IsKnown, IsTied}
use Rattle.opfs_state_rows.specs.Standing.Moves.{ShedMoves, PoolMoves, kept_amounts}
use Rattle.opfs_state_rows.proofs.standing.SlotMoves.{IsRowOf, slot-moves}
use Rattle.opfs_state_rows.proofs.standing.TiedMoved.{tied_moved}

-- A stream is a slot.
pub slot-is-stream : (agents : List _) (at n : ℕ) (w : StreamOutline) → stream_at agents at n ≡ Some w → slot_in agents at n ≡ Some (outline.Stream w)
slot-is-stream agents at n w h = of_slot (slot_in agents at n) h
  where
    some_is : {x y : StreamOutline} → Some x ≡ Some y → x ≡ y
    some_is e = cc

    in_row : (r : Outline) → stream_in r ≡ Some w → r ≡ outline.Stream w
    in_row (outline.Stream v) e = ap outline.Stream (some_is e)
    in_row outline.ClosedStream e = cc
    in_row (outline.Handle v) e = cc
    in_row outline.ClosedHandle e = cc
    in_row outline.Snapshot e = cc
    in_row outline.Iterator e = cc

    of_slot : (o : Option Outline) → of_row stream_in o ≡ Some w → o ≡ Some (outline.Stream w)
    of_slot None e = cc
    of_slot (Some r) e = ap Some (in_row r e)

module _ (rows : tree.Rows) (shed shed_after : Storage) (pool pool_after : Blocks) (rest rest_after : Registered) (cost : ℕ) (top : List Text) (at n : ℕ) (unit : Text) (old new : Outline)
    (is : rest_after ≡ record rest { agents = with_slot rest.agents at n new }) (modes : persistent_in shed_after.buckets ≡ persistent_in shed.buckets) where
  pub slot-machine : machine_of rows shed_after.buckets rest_after ≡ with_slot_at (machine_of rows shed.buckets rest) at n new
  slot-machine =
      ap (machine_of rows shed_after.buckets) is
      ∙ ap (λ (us : List Text). record (machine_of rows shed.buckets (record rest { agents = with_slot rest.agents at n new })) { persistent = us }) modes

  pub slot-tied : IsTied (machine_of rows shed.buckets rest) shed pool cost top → slot_in rest.agents at n ≡ Some old → IsRowOf unit old → IsRowOf unit new → IsKnown shed pool unit
      → ShedMoves shed shed_after unit (kept_amounts old).usage (kept_amounts new).usage → PoolMoves pool pool_after unit (kept_amounts old).blocks (kept_amounts new).blocks
      → (share_at pool_after.shares unit).candidate ≡ (share_at pool.shares unit).candidate → cost + (kept_amounts old).charge ≡ cost + (kept_amounts new).charge
      → IsTied (machine_of rows shed_after.buckets rest_after) shed_after pool_after cost top
  slot-tied tied found was now known buckets shares mark even =
      let m = machine_of rows shed.buckets rest in
      let after = with_slot_at m at n new in
      subst (λ (x : Machine). IsTied x shed_after pool_after cost top) (sym slot-machine)
      (tied_moved m after shed shed_after pool pool_after cost cost top unit (kept_amounts old) (kept_amounts new) tied known (slot-moves m at n unit old new found was now) buckets shares
      (mark ∙ tied.marks unit) even)
