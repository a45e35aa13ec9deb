-- What an own row weighs.
use Rattle.std.proofs.Common.{◌≡◌, ℕ, zero, Bool, true, false, if◌then◌else◌, [], refl, ap}
use Rattle.opfs_base.specs.Texts.{Text, same_text}
use Rattle.opfs_machine.specs.declared.own.Own.{Own}
use Rattle.opfs_machine.specs.declared.own.Own.TheVariants as own
use Rattle.opfs_machine.specs.Contents.{outline_of}
use Rattle.opfs_machine.specs.Sums.{reserve_of, row_reserve}
use Rattle.opfs_rulings.specs.Tallies.{Count, Pool, Charge, Usage, given, own_weight, own_origin, stream_part}

module _ (other : Text) (u : ℕ) (is : u ≡ 0) where
  -- Nothing of a row without an origin counts.
  none : (b : Bool) → (if b then u else 0) ≡ zero
  none true = is
  none false = refl

-- An own row's weight, count by count.
pub own_weighs : (r : Own) (p u : ℕ) → p ≡ reserve_of (outline_of r) → u ≡ stream_part r → (count : Count) → given (own_origin r) (record { pool = p; charge = 0; usage = u }) count ≡ own_weight count r
unfolding row_reserve
own_weighs r p u pool usage Pool = pool
own_weighs r p u pool usage Charge = refl
own_weighs (own.Stream w) p u pool usage (Usage other) = ap (λ n. if same_text other (own_origin (own.Stream w)) then n else 0) usage
own_weighs own.ClosedStream p u pool usage (Usage other) = none other u usage (same_text other [])
own_weighs (own.Handle h) p u pool usage (Usage other) = none other u usage (same_text other [])
own_weighs own.ClosedHandle p u pool usage (Usage other) = none other u usage (same_text other [])
own_weighs (own.Snapshot b) p u pool usage (Usage other) = none other u usage (same_text other [])
own_weighs (own.Iterator i) p u pool usage (Usage other) = none other u usage (same_text other [])
