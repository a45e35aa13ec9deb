-- Blocks of a unit are freed, and others used, but for those that are the same.
use Rattle.std.proofs.Common.{◌≡◌, ℕ, ◌+◌, ◌-◌, ◌<◌, ◌≤◌, ◌^◌, min, true, cond, refl, ap, ◌∙◌, arith}
use Rattle.opfs_base.specs.Texts.{Text}
use Rattle.opfs_base.specs.Units.{origin_of}
use Rattle.std.specs.Map.{keys_of}
use Rattle.opfs_pool.specs.Shares as pool_words
use Rattle.opfs_pool.specs.Shares.{Blocks, has_share, share_at, held}
use Rattle.opfs_shed.specs.Buckets.{Storage, bucket_at, has_unit, usage_of, part_of, changed}
use Rattle.opfs_state_rows.specs.Standing.Seen.{persistent_in}
use Rattle.opfs_state_rows.specs.Standing.Moves.{PoolMoves, ShedMoves}
use Rattle.opfs_state_rows.proofs.standing.Stores.{shed-freed, shed-added, shed-then, shed-lift, modes-kept, pool-lowered, pool-raised, pool-then, pool-lift, mark-kept, units-kept}
use Rattle.opfs_state_rows.proofs.standing.Units.{unit_itself}

module _ (shed freed added : Storage) (unit : Text) (old new kept : ℕ) (there : has_unit shed.buckets unit ≡ true) (within : old ≤ (bucket_at shed.buckets unit).usage) (is : kept ≡ min old new)
    (less : freed ≡ changed shed unit (record (bucket_at shed.buckets unit) { usage = (bucket_at shed.buckets unit).usage - (old - kept) })) (usages : (origin : Text) → usage_of origin freed.buckets + part_of origin unit (old - kept) ≡ usage_of origin shed.buckets) where
  moved_less : ShedMoves shed freed unit (old - kept) 0
  moved_less = shed-freed shed freed unit (old - kept) there (omega (arith, within)) less usages

  pub exchange-there : has_unit freed.buckets unit ≡ true
  exchange-there = moved_less.kept unit ∙ there

  own_part : part_of (origin_of unit) unit (old - kept) ≡ old - kept
  own_part = ap (λ t. cond t (old - kept) 0) (unit_itself (origin_of unit) (origin_of unit) refl)

  pub exchange-fits : usage_of (origin_of unit) shed.buckets + new < 2 ^ 64 + old → usage_of (origin_of unit) freed.buckets + (new - kept) < 2 ^ 64
  exchange-fits fits = omega (arith, fits, usages (origin_of unit), own_part, is)

  module _ (back : added ≡ changed freed unit (record (bucket_at freed.buckets unit) { usage = (bucket_at freed.buckets unit).usage + (new - kept) })) where
    pub exchange-modes : persistent_in added.buckets ≡ persistent_in shed.buckets
    exchange-modes =
        ap (λ (s : Storage). persistent_in s.buckets) back ∙ (modes-kept freed.buckets unit _ exchange-there refl
        ∙ (ap (λ (s : Storage). persistent_in s.buckets) less ∙ modes-kept shed.buckets unit _ there refl))

    pub exchange-moves : ((origin : Text) → usage_of origin added.buckets ≡ usage_of origin freed.buckets + part_of origin unit (new - kept)) → ShedMoves shed added unit old new
    exchange-moves again =
        shed-lift shed added unit (old - kept) (new - kept) kept old new (omega (arith, is)) (omega (arith, is))
        (shed-then shed freed added unit (old - kept) 0 (new - kept) moved_less (shed-added freed added unit (new - kept) exchange-there back again))

-- the same of the pool
module _ (pool lowered raised : Blocks) (unit : Text) (old new kept : ℕ) (there : has_share pool.shares unit ≡ true) (within : old ≤ (share_at pool.shares unit).blocks) (is : kept ≡ min old new)
    (less : lowered ≡ pool_words.changed pool unit (record (share_at pool.shares unit) { blocks = (share_at pool.shares unit).blocks - (old - kept) })) (sum : held lowered.shares + (old - kept) ≡ held pool.shares) where
  lowered_moves : PoolMoves pool lowered unit (old - kept) 0
  lowered_moves = pool-lowered pool lowered unit (old - kept) there (omega (arith, within)) less sum

  pub kept-there : has_share lowered.shares unit ≡ true
  kept-there = lowered_moves.kept unit ∙ there

  pub kept-room : held pool.shares + new ≤ pool.size + old → held lowered.shares + (new - kept) ≤ lowered.size
  kept-room room = omega (arith, room, sum, is, lowered_moves.size)

  module _ (back : raised ≡ pool_words.changed lowered unit (record (share_at lowered.shares unit) { blocks = (share_at lowered.shares unit).blocks + (new - kept) })) where
    pub kept-moves : held raised.shares ≡ held lowered.shares + (new - kept) → PoolMoves pool raised unit old new
    kept-moves again =
        pool-lift pool raised unit (old - kept) (new - kept) kept old new (omega (arith, is)) (omega (arith, is))
        (pool-then pool lowered raised unit (old - kept) 0 (new - kept) lowered_moves (pool-raised lowered raised unit (new - kept) kept-there back again))

    pub kept-mark : (share_at raised.shares unit).candidate ≡ (share_at pool.shares unit).candidate
    kept-mark = mark-kept lowered raised unit _ kept-there back refl ∙ mark-kept pool lowered unit _ there less refl

    pub kept-units : keys_of raised.shares ≡ keys_of pool.shares
    kept-units = units-kept lowered raised unit _ back ∙ units-kept pool lowered unit _ less
