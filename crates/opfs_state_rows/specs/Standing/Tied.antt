-- What the shared store keeps beside its rows: counts alone. This project's own.
use Rattle.std.specs.Prelude.{◌≡◌, ℕ, true, is_some, List, []}
use Rattle.opfs_base.specs.Places.{Place}
use Rattle.opfs_base.specs.Texts.{Text, same_text}
use Rattle.opfs_machine.specs.Rows.{row_at}
use Rattle.opfs_pool.specs.Shares.{Blocks, has_share, share_at, held}
use Rattle.opfs_shed.specs.Buckets.{Storage, has_unit, bucket_at, usage_of}
use Rattle.opfs_state_rows.specs.Standing.Seen.{Machine}
use Rattle.opfs_state_rows.specs.Standing.Sums.{usage_where, blocks_where, anywhere, of_origin, fixed_charge, clearable}

-- A unit has a bucket and a share.
pub record IsKnown (shed : Storage) (pool : Blocks) (unit : Text) : Type 0 where
  pub bucket : has_unit shed.buckets unit ≡ true
  pub share : has_share pool.shares unit ≡ true

-- The buckets, the shares and the cost are those of the machine; the place of a root is an empty path.
pub record IsTied (m : Machine) (shed : Storage) (pool : Blocks) (cost : ℕ) (top : List Text) : Type 0 where
  pub root : top ≡ []
  pub quota : shed.quota ≡ m.limits.quota
  pub size : pool.size ≡ m.limits.blocks
  pub shared : (unit : Text) → has_share pool.shares unit ≡ true → has_unit shed.buckets unit ≡ true
  pub known : (place : Place) → is_some (row_at m place) ≡ true → IsKnown shed pool place.0
  pub usage : (unit : Text) → (bucket_at shed.buckets unit).usage ≡ usage_where (same_text unit) m
  pub usages : (origin : Text) → usage_of origin shed.buckets ≡ usage_where (of_origin origin) m
  pub blocks : (unit : Text) → (share_at pool.shares unit).blocks ≡ blocks_where (same_text unit) m
  pub held : held pool.shares ≡ blocks_where anywhere m
  pub marks : (unit : Text) → (share_at pool.shares unit).candidate ≡ clearable m unit
  pub fixed : cost ≡ fixed_charge m
