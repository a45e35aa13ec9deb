-- What a further row adds to the extents within a place.
use Rattle.std.proofs.Common.{◌≡◌, ◌+◌, ◌≤◌, ℕ, true, false, cond, [], ◌∷◌, map, filter, length, arith, length-append}
use Rattle.std.specs.List.{flat_map}
use Rattle.std.specs.FinMap.Entries.{put, by_order}
use Rattle.std.specs.declared.cmp.Ordering.TheVariants.{Less, Equal, Greater}
use Rattle.opfs_base.specs.Places.{Place, place_cmp, is_within}
use Rattle.opfs_tree.specs.declared.row.Row.{Row}
use Rattle.opfs_tree.specs.Rows.{Rows, extents_of, extents_within}

-- How many extents an entry adds to those within a place.
weight : Place → Place × Row → ℕ
weight at e = cond (is_within at e.0) (length (extents_of e.1)) 0

extents_cons : (at : Place) (e : Place × Row) (es : Rows) → length (extents_within at (e ∷ es)) ≡ weight at e + length (extents_within at es)
unfolding weight
extents_cons at e es =
    elim (is_within at e.0) as (λ b. length (flat_map extents_of (map (λ x. x.1) (cond b (e ∷ filter (λ x. is_within at x.0) es) (filter (λ x. is_within at x.0) es)))) ≡ cond b (length (extents_of e.1)) 0 + length (extents_within at es)) [
      | true ↦ length-append (extents_of e.1) (extents_within at es)
      | false ↦ omega arith
    ]

weight_le : (at : Place) (e : Place × Row) → weight at e ≤ length (extents_of e.1)
unfolding weight
weight_le at e = elim (is_within at e.0) as (λ b. cond b (length (extents_of e.1)) 0 ≤ length (extents_of e.1)) [ true ↦ omega arith | false ↦ omega arith ]

-- A row adds no more extents than its own.
pub extents_put : (at q : Place) (r : Row) (rows : Rows) → length (extents_within at (put place_cmp q r rows)) ≤ length (extents_within at rows) + length (extents_of r)
extents_put at q r [] = omega (arith, extents_cons at (q, r) [], weight_le at (q, r))
extents_put at q r (e ∷ es) =
    elim (place_cmp q e.0) as (λ o. length (extents_within at (by_order o ((q, r) ∷ e ∷ es) ((e.0, r) ∷ es) (e ∷ put place_cmp q r es))) ≤ length (extents_within at (e ∷ es)) + length (extents_of r)) [
      | Less ↦ omega (arith, extents_cons at (q, r) (e ∷ es), weight_le at (q, r))
      | Equal ↦ omega (arith, extents_cons at (e.0, r) es, weight_le at (e.0, r), extents_cons at e es)
      | Greater ↦ omega (arith, extents_cons at e (put place_cmp q r es), extents_cons at e es, extents_put at q r es)
    ]
