-- A charge in format 1 is no larger than in format 2.
use Rattle.std.proofs.Common.{◌≡◌, ◌==◌, ◌+◌, ◌≤◌, Bool, true, false, [], ◌∷◌, length, drop, refl, ap, arith}
use Rattle.std.specs.List.{list_any}
use Rattle.std.proofs.lemmas.List.{length-drop}
use Rattle.std.proofs.lemmas.List.Sums.{sum_by-le-sum_by}
use Rattle.opfs_base.specs.Places.{Place}
use Rattle.opfs_base.specs.Texts.{Text}
use Rattle.opfs_base.specs.Units.{hash_sign, default_bucket, origin_of}
use Rattle.opfs_base.proofs.UnitLemmas.{origin_of-plain}
use Rattle.opfs_codec.specs.declared.change.Format.TheVariants.{Old, New}
use Rattle.opfs_records.specs.Replay.Built.{Built}
use Rattle.opfs_records.specs.Replay.Sums.{key_bytes, row_charge, charge_of}
use Rattle.opfs_tree.specs.declared.row.Row.{Row}
use Rattle.opfs_tree.specs.declared.row.Row.TheVariants as row

abbrev bucket_by : Bool → Text → Text
bucket_by test unit = elim test [ true ↦ drop (length (origin_of unit) + 1) unit | false ↦ default_bucket ]

key_by : (unit : Text) (test : Bool) → list_any (λ byte. byte == hash_sign) unit ≡ test → length unit ≤ length (origin_of unit) + 1 + length (bucket_by test unit)
key_by unit true e = omega (arith, length-drop (length (origin_of unit) + 1) unit)
key_by unit false e = omega (arith, ap (λ (t : Text). length t) (origin_of-plain unit e))

key_more : (unit : Text) → key_bytes Old unit ≤ key_bytes New unit
key_more unit = key_by unit (list_any (λ byte. byte == hash_sign) unit) refl

row_more : (at : Place) (r : Row) → row_charge Old at r ≤ row_charge New at r
row_more (unit, []) row.Dir = omega (arith, key_more unit)
row_more (unit, name ∷ names) row.Dir = omega (arith, key_more unit)
row_more (unit, path) (row.File f) = omega (arith, key_more unit)

pub old_charge : (b : Built) → charge_of Old b ≤ charge_of New b
unfolding charge_of
old_charge b = omega (
  arith,
  sum_by-le-sum_by (λ e. row_charge Old e.0 e.1) (λ e. row_charge New e.0 e.1) b.rows (λ e. row_more e.0 e.1),
  sum_by-le-sum_by (λ unit. 3 + key_bytes Old unit) (λ unit. 3 + key_bytes New unit) b.persistent (λ unit. omega (arith, key_more unit)),
)
