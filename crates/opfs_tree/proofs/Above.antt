-- What is left of a directory's children above one of its names.
use Rattle.std.proofs.Common.{◌≡◌, ◌&&◌, ◌++◌, true, false, cond, List, [], ◌∷◌, Option, Some, None, option_map, refl, sym, ap, ◌∙◌}
use Rattle.std.specs.List.{cons_option}
use Rattle.std.specs.List.Sorted.{IsStrictlySortedBy}
use Rattle.std.specs.Map.{keys_of}
use Rattle.std.specs.Ordering.{is_eq, is_le, is_lt, ordering_then}
use Rattle.std.specs.Cmp.Lexicographic.{texts_ties}
use Rattle.std.specs.declared.cmp.Ordering.TheVariants.{Less, Equal, Greater}
use Rattle.std.proofs.lemmas.Map.Keys.{sorted_head, sorted_tail}
use Rattle.opfs_base.specs.Texts.{Text, same_text}
use Rattle.opfs_base.specs.Places.{begins_with, rest_below, only_name}
use Rattle.opfs_base.specs.declared.locator.Kind.{Kind}
use Rattle.opfs_tree.specs.Rows.{kind_of, least_above}
use Rattle.opfs_tree.specs.Units.{UnitRows, text_cmp, path_cmp, below, front, from, children_in, name_below}
use Rattle.opfs_tree.proofs.Ranges.{none_after}

-- What is not before a child of a directory is not before the directory.
pub behind_dir : (dir : List Text) (name : Text) (a : List Text) → is_le (path_cmp (dir ++ name ∷ []) a) ≡ true → is_le (path_cmp dir a) ≡ true
behind_dir [] name [] h = refl
behind_dir [] name (y ∷ a) h = refl
behind_dir (x ∷ dir) name [] h = cc
behind_dir (x ∷ dir) name (y ∷ a) h =
    elim (text_cmp x y) as (λ o. is_le (ordering_then o (path_cmp (dir ++ name ∷ []) a)) ≡ true → is_le (ordering_then o (path_cmp dir a)) ≡ true) [
      | Less ↦ λ g. refl
      | Equal ↦ λ g. behind_dir dir name a g
      | Greater ↦ λ g. cc
    ] h

-- A child that stands before another's path has no greater name.
pub not_above : (dir : List Text) (name : Text) (a : List Text) (n : Text) → is_le (path_cmp (dir ++ name ∷ []) a) ≡ false → name_below dir a ≡ Some n → is_lt (text_cmp name n) ≡ false
not_above [] name [] n h is = cc
not_above [] name (m ∷ k ∷ a) n h is = cc
not_above [] name (m ∷ []) n h is =
    let same : m ≡ n = ap (λ o. elim o [ Some t ↦ t | None ↦ n ]) is in
    ap (λ t. is_lt (text_cmp name t)) (sym same)
    ∙ elim (text_cmp name m) as (λ o. is_le (ordering_then o Equal) ≡ false → is_lt o ≡ false) [
      | Less ↦ λ g. cc
      | Equal ↦ λ g. refl
      | Greater ↦ λ g. refl
    ] h
not_above (x ∷ dir) name [] n h is = cc
not_above (x ∷ dir) name (y ∷ a) n h is =
    elim (text_cmp x y) as (λ o. same_text x y ≡ is_eq o → is_le (ordering_then o (path_cmp (dir ++ name ∷ []) a)) ≡ false → is_lt (text_cmp name n) ≡ false) [
      | Less ↦ λ t g. let e : None ≡ Some n = ap (λ b. only_name (elim b [ true ↦ rest_below dir a | false ↦ None ])) (sym t) ∙ is in cc
      | Equal ↦ λ t g. not_above dir name a n g (ap (λ b. only_name (elim b [ true ↦ rest_below dir a | false ↦ None ])) (sym t) ∙ is)
      | Greater ↦ λ t g. let e : None ≡ Some n = ap (λ b. only_name (elim b [ true ↦ rest_below dir a | false ↦ None ])) (sym t) ∙ is in cc
    ] (texts_ties x y) h

-- One more row before two lists of rows that have the same such child.
pub one_more : (name : Text) (o : Option (Text × Kind)) (xs ys : List (Text × Kind)) → least_above name xs ≡ least_above name ys → least_above name (cons_option o xs) ≡ least_above name (cons_option o ys)
one_more name None xs ys same = same
one_more name (Some c) xs ys same = ap (cond (is_lt (text_cmp name c.0)) (Some c)) same

-- A row whose name is not above is passed.
pub passed : (name : Text) (kind : Kind) (o : Option Text) (xs : List (Text × Kind)) → ((n : Text) → o ≡ Some n → is_lt (text_cmp name n) ≡ false) → least_above name (cons_option (option_map (λ n. (n, kind)) o) xs) ≡ least_above name xs
passed name kind None xs low = refl
passed name kind (Some n) xs low = ap (λ b. cond b (Some (n, kind)) (least_above name xs)) (low n refl)

-- The rows from a child's path on have the same child above its name as all rows below the directory.
pub above_here : (dir : List Text) (name : Text) (es : UnitRows) → IsStrictlySortedBy path_cmp (keys_of es)
    → least_above name (children_in dir (front dir (from (dir ++ name ∷ []) es))) ≡ least_above name (children_in dir (below dir es))
above_here dir name [] sorted = refl
above_here dir name (e ∷ es) sorted =
    let last = dir ++ name ∷ [] in
    let rest = from last es in
    let more = above_here dir name es (sorted_tail path_cmp e.0 (keys_of es) sorted) in
    let with_row : least_above name (children_in dir (front dir rest)) ≡ least_above name (children_in dir (below dir es)) → least_above name (children_in dir (e ∷ front dir rest)) ≡ least_above name (children_in dir (e ∷ below dir es)) =
    one_more name (option_map (λ n. (n, kind_of e.1)) (name_below dir e.0)) (children_in dir (front dir rest)) (children_in dir (below dir es)) in
    elim (is_le (path_cmp last e.0)) as (λ t. is_le (path_cmp last e.0) ≡ t → least_above name (children_in dir (front dir (cond (t && true) (e ∷ rest) rest))) ≡ least_above name (children_in dir (below dir (e ∷ es)))) [
      | true ↦ λ g.
          elim (begins_with dir e.0) as (λ b. begins_with dir e.0 ≡ b → least_above name (children_in dir (elim b [ true ↦ e ∷ front dir rest | false ↦ [] ])) ≡ least_above name (children_in dir (cond b (e ∷ below dir es) (below dir es)))) [
            | true ↦ λ h. with_row more
            | false ↦ λ h. ap (λ xs. least_above name (children_in dir xs)) (sym (none_after dir e.0 es (behind_dir dir name e.0 g) h (sorted_head path_cmp e.0 (keys_of es) sorted)))
          ] refl
      | false ↦ λ g.
          more ∙ elim (begins_with dir e.0) as (λ b. least_above name (children_in dir (below dir es)) ≡ least_above name (children_in dir (cond b (e ∷ below dir es) (below dir es)))) [
            | true ↦ sym (passed name (kind_of e.1) (name_below dir e.0) (children_in dir (below dir es)) (λ n is. not_above dir name e.0 n g is))
            | false ↦ refl
          ]
    ] refl
