-- The usage of each origin, kept beside the buckets. This project's own.
use Rattle.std.specs.Prelude.{◌≡◌, ℕ, Bool, true, List, Option, Vec, unwrap_or, is_some}
use Rattle.std.specs.Map.{lookup}
use Rattle.std.specs.Ordering.{is_eq}
use Rattle.std.specs.declared.alloc.Global.{Global}
use Rattle.opfs_base.specs.Texts.{Text}
use Rattle.opfs_base.specs.Units.{origin_of}
use Rattle.opfs_shed.specs.Buckets.{Buckets, text_cmp, has_unit, usage_of}

-- Counts by the bytes of an origin.
abbrev pub Totals : Type 0
Totals = List (Vec ℕ Global × ℕ)

-- Whether an origin is this one.
abbrev pub is_origin : Text → Vec ℕ Global → Bool
is_origin origin bytes = is_eq (text_cmp origin bytes.items)

abbrev pub total_in : Totals → Text → Option ℕ
total_in totals origin = lookup (is_origin origin) totals

-- The count of each origin is the usage of its units, and the origin of each unit has one.
pub record IsTied (totals : Totals) (buckets : Buckets) : Type 0 where
  pub sums : (origin : Text) → unwrap_or (total_in totals origin) 0 ≡ usage_of origin buckets
  pub counted : (unit : Text) → has_unit buckets unit ≡ true → is_some (total_in totals (origin_of unit)) ≡ true
