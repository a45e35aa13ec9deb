-- The victims that the pool finds are the machine's.
use Rattle.std.proofs.Common.{◌≡◌, ◌&&◌, ◌||◌, ℕ, ◌+◌, ◌-◌, ◌<◌, Bool, true, false, not, cond, List, [], ◌∷◌, map, filter, fold, sum_by, Some, None, option_map, is_some, unwrap_or, refl, sym, ap, ◌∙◌, arith}
use Rattle.std.proofs.lemmas.Cmp.{nat_list_cmp_total, tied_itself}
use Rattle.std.specs.List.{AllByRecursion}
use Rattle.std.specs.List.Sorted.{IsStrictlySortedBy}
use Rattle.std.specs.Map.{lookup, keys_of}
use Rattle.std.specs.Ordering.{is_eq, ordering_reverse}
use Rattle.std.specs.Prelude.{nat_le}
use Rattle.std.specs.declared.cmp.Ordering.TheVariants.{Less}
use Rattle.opfs_base.specs.Texts.{Text, same_text}
use Rattle.opfs_base.specs.Units.{origin_of, same_origin}
use Rattle.opfs_laws.specs.Whole.{IsInOrder}
use Rattle.opfs_laws.proofs.lengths.Adding.{sum-same}
use Rattle.opfs_laws.specs.Lengths.Kept.{reserve_where as kept_where}
use Rattle.opfs_machine.specs.declared.own.Outline.{Outline}
use Rattle.opfs_machine.specs.declared.own.Outline.TheVariants as outline
use Rattle.opfs_machine.specs.Agents.{last_use}
use Rattle.opfs_machine.specs.Contents.{in_lengths}
use Rattle.opfs_machine.specs.Ordered.{insert_by}
use Rattle.opfs_machine.specs.Rows.{row_at}
use Rattle.opfs_machine.specs.Sums.{is_persistent, pool, all_own, fits_pool}
use Rattle.opfs_machine.specs.Victims.{none_taken, candidates, cleared, shortest_front, victims}
use Rattle.opfs_pool.specs.Shares.{Shares, Blocks, text_cmp, is_unit, share_at, first_share, held}
use Rattle.opfs_pool.specs.Victims.{use_cmp, Uses, last_in}
use Rattle.opfs_pool.specs.Victims.{is_candidate as is_share_candidate, candidates as share_candidates, victims as pool_victims}
use Rattle.opfs_pool.specs.declared.pool.Share.{Share}
use Rattle.opfs_state_rows.specs.Standing.Pooled.{IsPooled}
use Rattle.opfs_state_rows.specs.Standing.Seen.{Machine}
use Rattle.opfs_state_rows.specs.Standing.Sums.{reserve_where, clearable}
use Rattle.opfs_state.proofs.verdicts.Clearing.{rows_blocks}
use Rattle.opfs_state.proofs.verdicts.Fronts.{keys-folded, map-map, Good, folded, front-same}
use Rattle.opfs_state.proofs.verdicts.Roots.{units_of, units-same}

-- Where a need fits, no unit is cleared.
pub front-at-once : (s : Machine) (need : ℕ) (units : List Text) → fits_pool in_lengths s need ≡ true → shortest_front in_lengths s need units ≡ Some []
front-at-once s need [] h = ap (λ t. elim t [ true ↦ Some [] | false ↦ None ]) h
front-at-once s need (unit ∷ units) h =
    ap (λ t. elim t [ true ↦ Some [] | false ↦ option_map (λ more. unit ∷ more) (shortest_front in_lengths (cleared s unit) need units) ]) h

-- Each share is found at its unit.
abbrev Found : Shares → Shares → Type 0
Found whole [] = Unit {0}
Found whole (e ∷ es) = (lookup (is_unit e.0) whole ≡ Some e.1) × Found whole es

found-more : (e : Text × Share) (whole es : Shares) → AllByRecursion (λ y. text_cmp e.0 y ≡ Less) (keys_of es) → Found whole es → Found (e ∷ whole) es
found-more e whole [] above found = tt
found-more e whole (f ∷ es) above found =
    (ap (λ o. cond (is_eq o) (Some e.1) (lookup (is_unit f.0) whole)) (nat_list_cmp_total.antisymm f.0 e.0 ∙ ap ordering_reverse above.0) ∙ found.0, found-more e whole es above.1 found.1)

found-each : (es : Shares) → IsStrictlySortedBy text_cmp (keys_of es) → Found es es
unfolding IsStrictlySortedBy
found-each [] sorted = tt
found-each (e ∷ es) sorted =
    (ap (λ o. cond (is_eq o) (Some e.1) (lookup (is_unit e.0) es)) (tied_itself nat_list_cmp_total e.0), found-more e es es sorted.0 (found-each es sorted.1))

same-where : (p : Text → Bool) (r : Outline) → reserve_where p r ≡ kept_where p r
same-where p (outline.Stream w) = refl
same-where p outline.ClosedStream = refl
same-where p (outline.Handle h) = refl
same-where p outline.ClosedHandle = refl
same-where p outline.Snapshot = refl
same-where p outline.Iterator = refl

and-first : (a b : Bool) → (a && b) ≡ true → a ≡ true
and-first true b h = refl
and-first false b h = cc

last-of : (a b c : Bool) → (a && b && c) ≡ true → c ≡ true
last-of true true c h = h
last-of true false c h = cc
last-of false b c h = cc

module _ (m : Machine) (shares : Blocks) (pooled : IsPooled m shares) (untaken : (unit : Text) → none_taken m unit ≡ true → sum_by (kept_where (same_text unit)) (all_own m) ≡ 0) where
  -- A candidate keeps the durable blocks of its unit alone.
  good-share : (key : Text) (e : Text × Share) → lookup (is_unit e.0) shares.shares ≡ Some e.1 → is_share_candidate key e ≡ true → e.1.blocks ≡ rows_blocks m e.0
  good-share key e found may =
      let is : share_at shares.shares e.0 ≡ e.1 = ap (λ o. unwrap_or o first_share) found in
      let marked : e.1.candidate ≡ true = and-first e.1.candidate (not (same_origin key e.0)) may in
      let free : clearable m e.0 ≡ true = sym (pooled.marks e.0) ∙ ap (λ (x : Share). x.candidate) is ∙ marked in
      let none : sum_by (kept_where (same_text e.0)) (all_own m) ≡ 0 = untaken e.0 (last-of (is_some (row_at m (e.0, []))) (not (is_persistent m e.0)) (none_taken m e.0) free) in
      let same : sum_by (reserve_where (same_text e.0)) (all_own m) ≡ sum_by (kept_where (same_text e.0)) (all_own m) = sum-same (reserve_where (same_text e.0)) (kept_where (same_text e.0)) (same-where (same_text e.0)) (all_own m) in
      let whole = pooled.blocks e.0 in
      let kept : (share_at shares.shares e.0).blocks ≡ e.1.blocks = ap (λ (x : Share). x.blocks) is in
      omega (arith, whole, kept, same, none)

  good-shares : (uses : Uses) (key : Text) (es : Shares) → Found shares.shares es → Good uses m (filter (is_share_candidate key) es)
  good-shares uses key [] found = tt
  good-shares uses key (e ∷ es) found =
      elim (is_share_candidate key e) as (λ t. t ≡ is_share_candidate key e → Good uses m (cond t (e ∷ filter (is_share_candidate key) es) (filter (is_share_candidate key) es))) [
        | true ↦ λ is. (good-share key e found.0 (sym is), good-shares uses key es found.1)
        | false ↦ λ is. good-shares uses key es found.1
      ] refl

  units-sorted : (uses : Uses) (key : Text) → IsInOrder m.rows → origin_of key ≡ key → uses ≡ m.used → map (λ e. e.0.1) (share_candidates key uses shares.shares) ≡ candidates m (Some key)
  units-sorted uses key order origin used =
      map-map (share_candidates key uses shares.shares)
      ∙ ap (map (λ (e : ℕ × Text). e.1))
      (keys-folded uses (filter (is_share_candidate key) shares.shares) []
      ∙ ap (λ (us : Uses). fold (λ sorted unit. insert_by use_cmp (last_in us (origin_of unit), unit) sorted) [] (units_of key shares.shares)) used
      ∙ ap (fold (λ sorted unit. insert_by use_cmp (last_use m (origin_of unit), unit) sorted) []) (units-same m shares key pooled order origin))

  pub pool-victims : (uses : Uses) (key : Text) (need : ℕ) → IsInOrder m.rows → origin_of key ≡ key → uses ≡ m.used → fits_pool in_lengths m need ≡ false
      → pool_victims shares key need uses ≡ victims in_lengths m (Some key) need
  pool-victims uses key need order origin used lacks =
      let sorted = folded uses m (filter (is_share_candidate key) shares.shares) [] (good-shares uses key shares.shares (found-each shares.shares pooled.ordered)) tt tt tt in
      front-same uses m need (share_candidates key uses shares.shares) (held shares.shares + need - shares.size) (some-need need (pool in_lengths m + need) m.limits.blocks lacks)
      (λ i. pooled.held i + need - pooled.size i) sorted.0 sorted.1 sorted.2
      ∙ ap (shortest_front in_lengths m need) (units-sorted uses key order origin used)
    where
      some-need : (need all size : ℕ) → (nat_le need 0 || nat_le all size) ≡ false → 0 < need
      some-need need all size h = grind (arith, h)
