-- An open stream whose reserve grows, and one that is closed.
use Rattle.std.proofs.Common.{◌≡◌, ℕ, ◌+◌, ◌-◌, ◌≤◌, true, cond, List, Some, is_some, refl, sym, ap, ◌∙◌, arith}
use Rattle.opfs_base.specs.Texts.{Text, same_text}
use Rattle.opfs_base.specs.Units.{origin_of}
use Rattle.opfs_machine.specs.declared.own.Outline.{Outline}
use Rattle.opfs_machine.specs.declared.own.Outline.TheVariants as outline
use Rattle.opfs_machine.specs.declared.own.StreamOutline.{StreamOutline}
use Rattle.opfs_machine.specs.Contents.{in_lengths}
use Rattle.opfs_machine.specs.Rows.{row_at}
use Rattle.opfs_machine.specs.Sums.{usage, pool}
use Rattle.opfs_pool.specs.Shares.{Blocks, share_at, changed, held}
use Rattle.opfs_register.specs.Slots.{slot_in, stream_at, with_slot, keeping}
use Rattle.opfs_shed.specs.Buckets.{Storage, has_unit, bucket_at, usage_of, part_of}
use Rattle.opfs_shed.specs.Buckets as shed_words
use Rattle.opfs_tree.specs.Rows as tree
use Rattle.opfs_register.specs.Registers.{Registered}
use Rattle.opfs_state_rows.specs.Standing.Seen.{Machine, machine_of, with_slot_at, persistent_in}
use Rattle.opfs_state_rows.specs.Standing.Sums.{stream_where, reserve_where, of_origin}
use Rattle.opfs_state_rows.specs.Standing.Tied.{IsKnown, IsTied}
use Rattle.opfs_state_rows.proofs.standing.Counted.{usage-is, pool-is}
use Rattle.opfs_state_rows.proofs.standing.Reserved.{slot-is-stream, slot-machine, slot-tied}
use Rattle.opfs_state_rows.proofs.standing.SlotMoves.{sum-slot, stream-row, closed-stream-row}
use Rattle.opfs_state_rows.proofs.standing.Stores.{shed-added, shed-freed, shed-lift, pool-raised, pool-lowered, pool-lift, mark-kept, modes-kept}
use Rattle.opfs_state_rows.proofs.standing.Units.{unit_itself}

pub one_stream : {x y : StreamOutline} → Some x ≡ Some y → x ≡ y
one_stream h = cc

module _ (rows : tree.Rows) (shed : Storage) (blocks : Blocks) (rest : Registered) (cost : ℕ) (top : List Text) (at n : ℕ) (w : StreamOutline)
    (tied : IsTied (machine_of rows shed.buckets rest) shed blocks cost top) (found : stream_at rest.agents at n ≡ Some w) (there : is_some (row_at (machine_of rows shed.buckets rest) w.file) ≡ true) where
  abbrev pub m : Machine
  m = machine_of rows shed.buckets rest

  slot : slot_in rest.agents at n ≡ Some (outline.Stream w)
  slot = slot-is-stream rest.agents at n w found

  pub stream-known : IsKnown shed blocks w.file.0
  stream-known = tied.known w.file there

  here : (k : ℕ) → cond (same_text w.file.0 w.file.0) k 0 ≡ k
  here k = ap (λ t. cond t k 0) (unit_itself w.file.0 w.file.0 refl)

  -- What a stream keeps is counted.
  pub stream-usage : w.reserve ≤ (bucket_at shed.buckets w.file.0).usage
  stream-usage =
      let part : stream_where (same_text w.file.0) (outline.Stream w) ≡ w.reserve = here w.reserve in
      let whole = sum-slot (stream_where (same_text w.file.0)) rest.agents at n (outline.Stream w) outline.ClosedStream slot in
      omega (arith, tied.usage w.file.0, part, whole)

  pub stream-blocks : w.reserve ≤ (share_at blocks.shares w.file.0).blocks
  stream-blocks =
      let part : reserve_where (same_text w.file.0) (outline.Stream w) ≡ w.reserve = here w.reserve in
      let whole = sum-slot (reserve_where (same_text w.file.0)) rest.agents at n (outline.Stream w) outline.ClosedStream slot in
      omega (arith, tied.blocks w.file.0, part, whole)

  pub stream-in-usage : w.reserve ≤ usage in_lengths m (origin_of w.file.0)
  stream-in-usage =
      let part : stream_where (of_origin (origin_of w.file.0)) (outline.Stream w) ≡ w.reserve = ap (λ t. cond t w.reserve 0) (unit_itself (origin_of w.file.0) (origin_of w.file.0) refl) in
      let whole = sum-slot (stream_where (of_origin (origin_of w.file.0))) rest.agents at n (outline.Stream w) outline.ClosedStream slot in
      omega (arith, usage-is m (origin_of w.file.0), part, whole)

  pub usage-known : usage_of (origin_of w.file.0) shed.buckets ≡ usage in_lengths m (origin_of w.file.0)
  usage-known = tied.usages (origin_of w.file.0) ∙ sym (usage-is m (origin_of w.file.0))

  module _ (shed_after : Storage) (blocks_after : Blocks) (rest_after : Registered) where
    module _ (more : ℕ) (added : shed_after ≡ shed_words.changed shed w.file.0 (record (bucket_at shed.buckets w.file.0) { usage = (bucket_at shed.buckets w.file.0).usage + more }))
        (set : (r : Outline) → slot_in rest.agents at n ≡ Some r → rest_after ≡ record rest { agents = with_slot rest.agents at n (keeping (w.reserve + more) r) }) where
      abbrev grown : Outline
      grown = outline.Stream (record w { reserve = w.reserve + more })

      modes : persistent_in shed_after.buckets ≡ persistent_in shed.buckets
      modes = ap (λ (s : Storage). persistent_in s.buckets) added ∙ modes-kept shed.buckets w.file.0 _ stream-known.bucket refl

      pub grown-machine : machine_of rows shed_after.buckets rest_after ≡ with_slot_at m at n (outline.Stream (record w { reserve = w.reserve + more }))
      grown-machine = slot-machine rows shed shed_after blocks blocks_after rest rest_after cost top at n w.file.0 (outline.Stream w) grown (set (outline.Stream w) slot) modes

      pub grown-tied : ((origin : Text) → usage_of origin shed_after.buckets ≡ usage_of origin shed.buckets + part_of origin w.file.0 more)
          → blocks_after ≡ changed blocks w.file.0 (record (share_at blocks.shares w.file.0) { blocks = (share_at blocks.shares w.file.0).blocks + more }) → held blocks_after.shares ≡ held blocks.shares + more
          → IsTied (machine_of rows shed_after.buckets rest_after) shed_after blocks_after cost top
      grown-tied usages raised all =
          slot-tied rows shed shed_after blocks blocks_after rest rest_after cost top at n w.file.0 (outline.Stream w) grown (set (outline.Stream w) slot) modes tied slot (stream-row w) (stream-row (record w { reserve = w.reserve + more })) stream-known
          (shed-lift shed shed_after w.file.0 0 more w.reserve w.reserve (w.reserve + more) (omega arith) refl (shed-added shed shed_after w.file.0 more stream-known.bucket added usages))
          (pool-lift blocks blocks_after w.file.0 0 more w.reserve w.reserve (w.reserve + more) (omega arith) refl (pool-raised blocks blocks_after w.file.0 more stream-known.share raised all))
          (mark-kept blocks blocks_after w.file.0 _ stream-known.share raised refl) refl

    module _ (freed : shed_after ≡ shed_words.changed shed w.file.0 (record (bucket_at shed.buckets w.file.0) { usage = (bucket_at shed.buckets w.file.0).usage - w.reserve }))
        (set : rest_after ≡ record rest { agents = with_slot rest.agents at n outline.ClosedStream }) where
      modes_less : persistent_in shed_after.buckets ≡ persistent_in shed.buckets
      modes_less = ap (λ (s : Storage). persistent_in s.buckets) freed ∙ modes-kept shed.buckets w.file.0 _ stream-known.bucket refl

      pub closed-machine : machine_of rows shed_after.buckets rest_after ≡ with_slot_at m at n outline.ClosedStream
      closed-machine = slot-machine rows shed shed_after blocks blocks_after rest rest_after cost top at n w.file.0 (outline.Stream w) outline.ClosedStream set modes_less

      pub closed-tied : ((origin : Text) → usage_of origin shed_after.buckets + part_of origin w.file.0 w.reserve ≡ usage_of origin shed.buckets)
          → blocks_after ≡ changed blocks w.file.0 (record (share_at blocks.shares w.file.0) { blocks = (share_at blocks.shares w.file.0).blocks - w.reserve }) → held blocks_after.shares + w.reserve ≡ held blocks.shares
          → IsTied (machine_of rows shed_after.buckets rest_after) shed_after blocks_after cost top
      closed-tied usages lowered all =
          slot-tied rows shed shed_after blocks blocks_after rest rest_after cost top at n w.file.0 (outline.Stream w) outline.ClosedStream set modes_less tied slot (stream-row w) (closed-stream-row w.file.0) stream-known
          (shed-freed shed shed_after w.file.0 w.reserve stream-known.bucket stream-usage freed usages) (pool-lowered blocks blocks_after w.file.0 w.reserve stream-known.share stream-blocks lowered all)
          (mark-kept blocks blocks_after w.file.0 _ stream-known.share lowered refl) refl
