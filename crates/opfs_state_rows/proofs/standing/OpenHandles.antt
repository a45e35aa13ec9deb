-- An open access handle whose reserve grows or ends, and one that is closed. It keeps nothing of the quota.
use Rattle.std.proofs.Common.{◌≡◌, ℕ, ◌+◌, ◌-◌, ◌≤◌, true, cond, List, Option, Some, None, is_some, refl, sym, ap, ◌∙◌, arith}
use Rattle.opfs_base.specs.Texts.{Text, same_text}
use Rattle.opfs_machine.specs.declared.own.HandleOutline.{HandleOutline}
use Rattle.opfs_machine.specs.declared.own.Outline.{Outline}
use Rattle.opfs_machine.specs.declared.own.Outline.TheVariants as outline
use Rattle.opfs_machine.specs.Agents.{of_row, handle_in}
use Rattle.opfs_machine.specs.Contents.{in_lengths}
use Rattle.opfs_machine.specs.Rows.{row_at}
use Rattle.opfs_machine.specs.Sums.{pool}
use Rattle.opfs_pool.specs.Shares.{Blocks, share_at, changed, held}
use Rattle.opfs_register.specs.Slots.{slot_in, handle_at, with_slot, keeping}
use Rattle.opfs_shed.specs.Buckets.{Storage}
use Rattle.opfs_tree.specs.Rows as tree
use Rattle.opfs_register.specs.Registers.{Registered}
use Rattle.opfs_state_rows.specs.Standing.Seen.{Machine, machine_of, with_slot_at}
use Rattle.opfs_state_rows.specs.Standing.Sums.{reserve_where}
use Rattle.opfs_state_rows.specs.Standing.Tied.{IsKnown, IsTied}
use Rattle.opfs_state_rows.proofs.standing.Counted.{pool-is}
use Rattle.opfs_state_rows.proofs.standing.Reserved.{slot-machine, slot-tied}
use Rattle.opfs_state_rows.proofs.standing.SlotMoves.{sum-slot, handle-row, closed-handle-row}
use Rattle.opfs_state_rows.proofs.standing.Stores.{shed-kept, pool-raised, pool-lowered, pool-lift, mark-kept}
use Rattle.opfs_state_rows.proofs.standing.Units.{unit_itself}

pub one_handle : {x y : HandleOutline} → Some x ≡ Some y → x ≡ y
one_handle h = cc

-- An access handle is a slot.
pub slot-is-handle : (agents : List _) (at n : ℕ) (w : HandleOutline) → handle_at agents at n ≡ Some w → slot_in agents at n ≡ Some (outline.Handle w)
slot-is-handle agents at n w h = of_slot (slot_in agents at n) h
  where
    in_row : (r : Outline) → handle_in r ≡ Some w → r ≡ outline.Handle w
    in_row (outline.Stream v) e = cc
    in_row outline.ClosedStream e = cc
    in_row (outline.Handle v) e = ap outline.Handle (one_handle e)
    in_row outline.ClosedHandle e = cc
    in_row outline.Snapshot e = cc
    in_row outline.Iterator e = cc

    of_slot : (o : Option Outline) → of_row handle_in o ≡ Some w → o ≡ Some (outline.Handle w)
    of_slot None e = cc
    of_slot (Some r) e = ap Some (in_row r e)

module _ (rows : tree.Rows) (shed : Storage) (blocks : Blocks) (rest : Registered) (cost : ℕ) (top : List Text) (at n : ℕ) (w : HandleOutline)
    (tied : IsTied (machine_of rows shed.buckets rest) shed blocks cost top) (found : handle_at rest.agents at n ≡ Some w) (there : is_some (row_at (machine_of rows shed.buckets rest) w.file) ≡ true) where
  abbrev pub m : Machine
  m = machine_of rows shed.buckets rest

  slot : slot_in rest.agents at n ≡ Some (outline.Handle w)
  slot = slot-is-handle rest.agents at n w found

  pub handle-known : IsKnown shed blocks w.file.0
  handle-known = tied.known w.file there

  -- What a handle keeps is counted.
  pub handle-blocks : w.reserve ≤ (share_at blocks.shares w.file.0).blocks
  handle-blocks =
      let part : reserve_where (same_text w.file.0) (outline.Handle w) ≡ w.reserve = ap (λ t. cond t w.reserve 0) (unit_itself w.file.0 w.file.0 refl) in
      let whole = sum-slot (reserve_where (same_text w.file.0)) rest.agents at n (outline.Handle w) outline.ClosedHandle slot in
      omega (arith, tied.blocks w.file.0, part, whole)

  pub handle-held : held blocks.shares ≡ pool in_lengths m
  handle-held = tied.held ∙ sym (pool-is m)

  module _ (blocks_after : Blocks) (rest_after : Registered) where
    -- It keeps more.
    module _ (more : ℕ) (set : (r : Outline) → slot_in rest.agents at n ≡ Some r → rest_after ≡ record rest { agents = with_slot rest.agents at n (keeping (w.reserve + more) r) }) where
      abbrev grown : Outline
      grown = outline.Handle (record w { reserve = w.reserve + more })

      pub handle-grown-machine : machine_of rows shed.buckets rest_after ≡ with_slot_at m at n (outline.Handle (record w { reserve = w.reserve + more }))
      handle-grown-machine = slot-machine rows shed shed blocks blocks_after rest rest_after cost top at n w.file.0 (outline.Handle w) grown (set (outline.Handle w) slot) refl

      pub handle-grown-tied : blocks_after ≡ changed blocks w.file.0 (record (share_at blocks.shares w.file.0) { blocks = (share_at blocks.shares w.file.0).blocks + more }) → held blocks_after.shares ≡ held blocks.shares + more
          → IsTied (machine_of rows shed.buckets rest_after) shed blocks_after cost top
      handle-grown-tied raised all =
          slot-tied rows shed shed blocks blocks_after rest rest_after cost top at n w.file.0 (outline.Handle w) grown (set (outline.Handle w) slot) refl tied slot (handle-row w) (handle-row (record w { reserve = w.reserve + more })) handle-known
          (shed-kept shed w.file.0 0)
          (pool-lift blocks blocks_after w.file.0 0 more w.reserve w.reserve (w.reserve + more) (omega arith) refl (pool-raised blocks blocks_after w.file.0 more handle-known.share raised all))
          (mark-kept blocks blocks_after w.file.0 _ handle-known.share raised refl) refl

    -- It keeps nothing, and stays open.
    module _ (set : (r : Outline) → slot_in rest.agents at n ≡ Some r → rest_after ≡ record rest { agents = with_slot rest.agents at n (keeping 0 r) }) where
      abbrev freed : Outline
      freed = outline.Handle (record w { reserve = 0 })

      pub handle-freed-machine : machine_of rows shed.buckets rest_after ≡ with_slot_at m at n (outline.Handle (record w { reserve = 0 }))
      handle-freed-machine = slot-machine rows shed shed blocks blocks_after rest rest_after cost top at n w.file.0 (outline.Handle w) freed (set (outline.Handle w) slot) refl

      pub handle-freed-tied : blocks_after ≡ changed blocks w.file.0 (record (share_at blocks.shares w.file.0) { blocks = (share_at blocks.shares w.file.0).blocks - w.reserve }) → held blocks_after.shares + w.reserve ≡ held blocks.shares
          → IsTied (machine_of rows shed.buckets rest_after) shed blocks_after cost top
      handle-freed-tied lowered all =
          slot-tied rows shed shed blocks blocks_after rest rest_after cost top at n w.file.0 (outline.Handle w) freed (set (outline.Handle w) slot) refl tied slot (handle-row w) (handle-row (record w { reserve = 0 })) handle-known
          (shed-kept shed w.file.0 0) (pool-lowered blocks blocks_after w.file.0 w.reserve handle-known.share handle-blocks lowered all)
          (mark-kept blocks blocks_after w.file.0 _ handle-known.share lowered refl) refl

    -- It is closed.
    module _ (set : rest_after ≡ record rest { agents = with_slot rest.agents at n outline.ClosedHandle }) where
      pub handle-closed-machine : machine_of rows shed.buckets rest_after ≡ with_slot_at m at n outline.ClosedHandle
      handle-closed-machine = slot-machine rows shed shed blocks blocks_after rest rest_after cost top at n w.file.0 (outline.Handle w) outline.ClosedHandle set refl

      pub handle-closed-tied : blocks_after ≡ changed blocks w.file.0 (record (share_at blocks.shares w.file.0) { blocks = (share_at blocks.shares w.file.0).blocks - w.reserve }) → held blocks_after.shares + w.reserve ≡ held blocks.shares
          → IsTied (machine_of rows shed.buckets rest_after) shed blocks_after cost top
      handle-closed-tied lowered all =
          slot-tied rows shed shed blocks blocks_after rest rest_after cost top at n w.file.0 (outline.Handle w) outline.ClosedHandle set refl tied slot (handle-row w) (closed-handle-row w.file.0) handle-known
          (shed-kept shed w.file.0 0) (pool-lowered blocks blocks_after w.file.0 w.reserve handle-known.share handle-blocks lowered all)
          (mark-kept blocks blocks_after w.file.0 _ handle-known.share lowered refl) refl
