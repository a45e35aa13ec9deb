-- A change of one unit: what leaves the sums of the machine, of the buckets and of the shares, and what comes. This
-- project's own.
use Rattle.std.specs.Prelude.{◌≡◌, ℕ, ◌+◌, Bool, true, false, cond, is_some}
use Rattle.opfs_base.specs.Places.{Place}
use Rattle.opfs_base.specs.Texts.{Text, same_text}
use Rattle.opfs_machine.specs.Rows.{row_at}
use Rattle.opfs_machine.specs.declared.own.Outline.{Outline}
use Rattle.opfs_machine.specs.declared.own.Outline.TheVariants as outline
use Rattle.opfs_pool.specs.Shares.{Blocks, has_share, share_at, held}
use Rattle.opfs_shed.specs.Buckets.{Storage, has_unit, bucket_at, usage_of}
use Rattle.opfs_state_rows.specs.Standing.Seen.{Machine}
use Rattle.opfs_state_rows.specs.Standing.Sums.{usage_where, blocks_where, of_origin, fixed_charge, clearable}

pub record Amounts : Type 0 where
  pub usage : ℕ
  pub blocks : ℕ
  pub charge : ℕ

-- A place has a row after a change only where it had one, or where it is of the unit.
pub record IsOfKnown (m : Machine) (unit : Text) (place : Place) : Type 0 where
  pub known : is_some (row_at m place) ≡ false → place.0 ≡ unit

-- The machine.
pub record Moves (m new : Machine) (unit : Text) (less more : Amounts) : Type 0 where
  pub limits : new.limits ≡ m.limits
  pub known : (place : Place) → is_some (row_at new place) ≡ true → IsOfKnown m unit place
  pub usage : (p : Text → Bool) → usage_where p new + cond (p unit) less.usage 0 ≡ usage_where p m + cond (p unit) more.usage 0
  pub blocks : (p : Text → Bool) → blocks_where p new + cond (p unit) less.blocks 0 ≡ blocks_where p m + cond (p unit) more.blocks 0
  pub clear : (u : Text) → same_text unit u ≡ false → clearable new u ≡ clearable m u
  pub charge : fixed_charge new + less.charge ≡ fixed_charge m + more.charge

-- The buckets.
pub record ShedMoves (shed new : Storage) (unit : Text) (less more : ℕ) : Type 0 where
  pub quota : new.quota ≡ shed.quota
  pub kept : (u : Text) → has_unit new.buckets u ≡ has_unit shed.buckets u
  pub usage : (u : Text) → (bucket_at new.buckets u).usage + cond (same_text u unit) less 0 ≡ (bucket_at shed.buckets u).usage + cond (same_text u unit) more 0
  pub usages : (origin : Text) → usage_of origin new.buckets + cond (of_origin origin unit) less 0 ≡ usage_of origin shed.buckets + cond (of_origin origin unit) more 0

-- The shares.
pub record PoolMoves (pool new : Blocks) (unit : Text) (less more : ℕ) : Type 0 where
  pub size : new.size ≡ pool.size
  pub kept : (u : Text) → has_share new.shares u ≡ has_share pool.shares u
  pub blocks : (u : Text) → (share_at new.shares u).blocks + cond (same_text u unit) less 0 ≡ (share_at pool.shares u).blocks + cond (same_text u unit) more 0
  pub held : held new.shares + less ≡ held pool.shares + more
  pub marks : (u : Text) → same_text unit u ≡ false → (share_at new.shares u).candidate ≡ (share_at pool.shares u).candidate

-- What an own row keeps: a stream of the quota and of the pool, an access handle of the pool alone.
abbrev pub kept_amounts : Outline → Amounts
kept_amounts (outline.Stream w) = record { usage = w.reserve; blocks = w.reserve; charge = 0 }
kept_amounts (outline.Handle h) = record { usage = 0; blocks = h.reserve; charge = 0 }
kept_amounts r = record { usage = 0; blocks = 0; charge = 0 }
