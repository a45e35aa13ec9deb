-- The rows stay in order and closed under parents.
use Rattle.std.proofs.Common.{◌≡◌, ◌&&◌, ◌++◌, Bool, true, false, cond, not, List, [], ◌∷◌, Option, Some, None, IsSome, IfSome, IfNone, option_map, unwrap_or, refl, sym, ap, subst, ◌∙◌}
use Rattle.std.specs.FinMap.Entries.{put, is_sorted, below_all, find-put, find-where_key}
use Rattle.std.specs.Ordering.{is_eq, is_lt, eq_by_cmp, ordering_then}
use Rattle.std.specs.declared.cmp.Ordering.TheVariants.{Less, Equal, Greater}
use Rattle.opfs_base.specs.Texts.{Text, same_text}
use Rattle.opfs_base.specs.Places.{Place, place_cmp, begins_with, is_within, child}
use Rattle.opfs_locks.specs.declared.Want.{Want}
use Rattle.opfs_locks.specs.Taking.{taken}
use Rattle.opfs_tree.specs.declared.row.FileRow.{FileRow}
use Rattle.opfs_tree.specs.declared.row.Row.{Row}
use Rattle.opfs_tree.specs.declared.row.Row.TheVariants as row
use Rattle.opfs_tree.specs.Rows.{Rows, row_at, file_at, file_of, locked, without, change_at, changed_row, HasParent, IsClosed}
use Rattle.opfs_tree.specs.Units.{text_cmp, path_cmp}
use Rattle.opfs_tree.proofs.Orders.{place_total, exact_texts, exact_paths}

pub exact_places : (a b : Place) → place_cmp a b ≡ Equal → a ≡ b
exact_places a b h =
    elim (text_cmp a.0 b.0) as (λ o. text_cmp a.0 b.0 ≡ o → ordering_then o (path_cmp a.1 b.1) ≡ Equal → a ≡ b) [
      | Less ↦ λ is n. cc
      | Equal ↦ λ is n. let first = exact_texts a.0 b.0 is in let second = exact_paths a.1 b.1 n in λ i. (first i, second i)
      | Greater ↦ λ is n. cc
    ] refl h

exact_eq : (a b : Place) → eq_by_cmp place_cmp a b ≡ true → a ≡ b
exact_eq a b h =
    elim (place_cmp a b) as (λ o. place_cmp a b ≡ o → is_eq o ≡ true → a ≡ b) [
      | Less ↦ λ is n. cc
      | Equal ↦ λ is n. exact_places a b is
      | Greater ↦ λ is n. cc
    ] refl h

not_both : (o : Option Row) → o ≡ None → o ≡ Some row.Dir → ⊥
not_both o h g = let e : None ≡ Some row.Dir = sym h ∙ g in cc

no_some : IsSome {T = Row} None → ⊥
no_some h = cc

module _ (q : Place) (r : Row) (rows : Rows) (free : row_at q rows ≡ None) where
  put_keeps : (dir : Place) → row_at dir rows ≡ Some row.Dir → row_at dir (put place_cmp q r rows) ≡ Some row.Dir
  put_keeps dir h =
      find-put place_cmp place_total dir q r rows
      ∙ (elim (eq_by_cmp place_cmp dir q) as (λ b. eq_by_cmp place_cmp dir q ≡ b → cond b (Some r) (row_at dir rows) ≡ Some row.Dir) [
        | true ↦ λ is. absurd (not_both (row_at dir rows) (ap (λ x. row_at x rows) (exact_eq dir q is) ∙ free) h)
        | false ↦ λ is. h
      ] refl)

  pub closed_put : HasParent q rows → IsClosed rows → IsClosed (put place_cmp q r rows)
  closed_put parent closed x some dir name is =
      let there = let P : Option Row → Type 0 = λ o. IsSome o in subst P (find-put place_cmp place_total x q r rows) some in
      put_keeps dir (elim (eq_by_cmp place_cmp x q) as (λ b. eq_by_cmp place_cmp x q ≡ b → IsSome (cond b (Some r) (row_at x rows)) → row_at dir rows ≡ Some row.Dir) [
        | true ↦ λ same t. parent dir name (sym (exact_eq x q same) ∙ is)
        | false ↦ λ same t. closed x t dir name is
      ] refl there)

-- What is below a directory is below what that is below.
begins_more : (p q more : List Text) → begins_with p q ≡ true → begins_with p (q ++ more) ≡ true
begins_more [] q more h = refl
begins_more (a ∷ p) [] more h = cc
begins_more (a ∷ p) (b ∷ q) more h =
    elim (same_text a b) as (λ t. (t && begins_with p q) ≡ true → (t && begins_with p (q ++ more)) ≡ true) [
      | true ↦ λ g. begins_more p q more g
      | false ↦ λ g. cc
    ] h

within_child : (a dir : Place) (name : Text) → is_within a dir ≡ true → is_within a (child dir name) ≡ true
within_child a dir name h =
    elim (same_text a.0 dir.0) as (λ t. (t && begins_with a.1 dir.1) ≡ true → (t && begins_with a.1 (dir.1 ++ name ∷ [])) ≡ true) [
      | true ↦ λ g. begins_more a.1 dir.1 (name ∷ []) g
      | false ↦ λ g. cc
    ] h

both_tests : (b : Bool) → b ≡ true → b ≡ false → ⊥
both_tests b h g = let e : true ≡ false = sym h ∙ g in cc

module _ (a : Place) (rows : Rows) where
  row_without : (x : Place) → row_at x (without a rows) ≡ cond (not (is_within a x)) (row_at x rows) None
  row_without x = find-where_key place_cmp (λ y. not (is_within a y)) x (λ y ties. ap (λ z. not (is_within a z)) (sym (exact_places x y ties))) rows

  pub closed_without : IsClosed rows → IsClosed (without a rows)
  closed_without closed x some dir name is =
      let there = let P : Option Row → Type 0 = λ o. IsSome o in subst P (row_without x) some in
      elim (is_within a x) as (λ b. is_within a x ≡ b → IsSome {T = Row} (cond (not b) (row_at x rows) None) → row_at dir (without a rows) ≡ Some row.Dir) [
        | true ↦ λ w t. absurd (no_some t)
        | false ↦ λ w t.
            row_without dir
            ∙ (elim (is_within a dir) as (λ b. is_within a dir ≡ b → cond (not b) (row_at dir rows) None ≡ Some row.Dir) [
              | true ↦ λ v. absurd (both_tests (is_within a x) (ap (is_within a) is ∙ within_child a dir name v) w)
              | false ↦ λ v. closed x t dir name is
            ] refl)
      ] refl there

module _ (q : Place) (change : FileRow → FileRow) where
  change_some : (x : Place) (rows : Rows) → IsSome (row_at x (change_at q change rows)) → IsSome (row_at x rows)
  change_some x [] h = h
  change_some x (e ∷ es) h =
      elim (is_eq (place_cmp q e.0)) as (λ b. IsSome (row_at x (elim b [ true ↦ (e.0, changed_row change e.1) ∷ es | false ↦ e ∷ change_at q change es ])) → IsSome (row_at x (e ∷ es))) [
        | true ↦ λ t. (elim (is_eq (place_cmp x e.0)) as (λ b. IsSome (cond b (Some (changed_row change e.1)) (row_at x es)) → IsSome (cond b (Some e.1) (row_at x es))) [ true ↦ λ s. refl | false ↦ λ s. s ] t)
        | false ↦ λ t. (elim (is_eq (place_cmp x e.0)) as (λ b. IsSome (cond b (Some e.1) (row_at x (change_at q change es))) → IsSome (cond b (Some e.1) (row_at x es))) [ true ↦ λ s. refl | false ↦ λ s. change_some x es s ] t)
      ] h

  change_dir : (x : Place) (rows : Rows) → row_at x rows ≡ Some row.Dir → row_at x (change_at q change rows) ≡ Some row.Dir
  change_dir x [] h = h
  change_dir x (e ∷ es) h =
      elim (is_eq (place_cmp q e.0)) as (λ b. row_at x (elim b [ true ↦ (e.0, changed_row change e.1) ∷ es | false ↦ e ∷ change_at q change es ]) ≡ Some row.Dir) [
        | true ↦ elim (is_eq (place_cmp x e.0)) as (λ b. cond b (Some e.1) (row_at x es) ≡ Some row.Dir → cond b (Some (changed_row change e.1)) (row_at x es) ≡ Some row.Dir) [
          | true ↦ λ n. let dir : e.1 ≡ row.Dir = cc in ap (λ r. Some (changed_row change r)) dir
          | false ↦ λ n. n
        ] h
        | false ↦ elim (is_eq (place_cmp x e.0)) as (λ b. cond b (Some e.1) (row_at x es) ≡ Some row.Dir → cond b (Some e.1) (row_at x (change_at q change es)) ≡ Some row.Dir) [
          | true ↦ λ n. n
          | false ↦ λ n. change_dir x es n
        ] h
      ]

  pub closed_change : (rows : Rows) → IsClosed rows → IsClosed (change_at q change rows)
  closed_change rows closed x some dir name is = change_dir dir rows (closed x (change_some x rows some) dir name is)

  below_change : (x : Place) (rows : Rows) → below_all place_cmp x (change_at q change rows) ≡ below_all place_cmp x rows
  below_change x [] = refl
  below_change x (e ∷ es) =
      elim (is_eq (place_cmp q e.0)) as (λ b. below_all place_cmp x (elim b [ true ↦ (e.0, changed_row change e.1) ∷ es | false ↦ e ∷ change_at q change es ]) ≡ (is_lt (place_cmp x e.0) && below_all place_cmp x es)) [
        | true ↦ refl
        | false ↦ ap (λ b. is_lt (place_cmp x e.0) && b) (below_change x es)
      ]

  pub order_change : (rows : Rows) → is_sorted place_cmp (change_at q change rows) ≡ is_sorted place_cmp rows
  order_change [] = refl
  order_change (e ∷ es) =
      elim (is_eq (place_cmp q e.0)) as (λ b. is_sorted place_cmp (elim b [ true ↦ (e.0, changed_row change e.1) ∷ es | false ↦ e ∷ change_at q change es ]) ≡ (below_all place_cmp e.0 es && is_sorted place_cmp es)) [
        | true ↦ refl
        | false ↦ (λ i. below_change e.0 es i && order_change es i)
      ]

-- A change that changes nothing.
pub change_same : (q : Place) (change : FileRow → FileRow) (rows : Rows) → IfSome (file_at q rows) (λ f. change f ≡ f) → change_at q change rows ≡ rows
change_same q change [] h = refl
change_same q change (e ∷ es) h =
    elim (is_eq (place_cmp q e.0)) as (λ b. IfSome (file_of (cond b (Some e.1) (row_at q es))) (λ f. change f ≡ f)
    → ◌≡◌ {A = Rows} (elim b [ true ↦ (e.0, changed_row change e.1) ∷ es | false ↦ e ∷ change_at q change es ]) (e ∷ es)) [
      | true ↦ λ t. ap (λ r. (e.0, r) ∷ es) (elim e.1 as (λ r. IfSome (file_of (Some r)) (λ f. change f ≡ f) → changed_row change r ≡ r) [ row.Dir ↦ λ s. refl | row.File f ↦ λ s. ap row.File s ] t)
      | false ↦ λ t. ap (λ xs. e ∷ xs) (change_same q change es t)
    ] h

locked_same : (want : Want) (f : FileRow) (result : Option Want) → result ≡ None → result ≡ option_map (λ _. want) (taken want f.lock) → locked want f ≡ f
locked_same want f result none is =
    elim (taken want f.lock) as (λ o. result ≡ option_map (λ _. want) o → record f { lock = unwrap_or o f.lock } ≡ f) [
      | None ↦ λ n. refl
      | Some l ↦ λ n. cc
    ] is

-- Where a lock is refused, nothing changes.
pub nothing_taken : (want : Want) (q : Place) (rows new : Rows) (result : Option Want) → new ≡ change_at q (locked want) rows
    → IfSome (file_at q rows) (λ f. result ≡ option_map (λ _. want) (taken want f.lock)) → IfNone result (new ≡ rows)
nothing_taken want q rows new (Some w) is given = tt
nothing_taken want q rows new None is given =
    is ∙ change_same q (locked want) rows (elim (file_at q rows) as (λ o. IfSome o (λ f. None ≡ option_map (λ _. want) (taken want f.lock)) → IfSome o (λ f. locked want f ≡ f)) [
      | None ↦ λ t. tt
      | Some f ↦ λ t. locked_same want f None refl t
    ] given)
