-- The rows stay in order and closed under parents.
use Rattle.std.proofs.Common.{◌≡◌, Bool, true, false, cond, not, ◌&&◌, List, [], ◌∷◌, ◌++◌, filter, Option, Some, None, option_map, refl, sym, ap, ◌∙◌, subst, inl, inr}
use Rattle.std.specs.Prelude.{T}
use Rattle.std.specs.FinMap.Entries.{put, find, is_sorted, below_all, is_sorted-put, is_sorted-where_key, find-put, find-where_key}
use Rattle.std.specs.Ordering.{is_eq, is_lt, eq_by_cmp}
use Rattle.std.proofs.lemmas.Bool.{false≢true}
use Rattle.opfs_base.specs.Places.{Place, place_cmp, child, is_within, begins_with}
use Rattle.opfs_base.specs.Texts.{Text, same_text}
use Rattle.opfs_machine.specs.declared.state.FileRow.{FileRow}
use Rattle.opfs_machine.specs.declared.state.Row.{Row}
use Rattle.opfs_machine.specs.declared.state.Row.TheVariants as row
use Rattle.opfs_machine.specs.Rows.{Rows, change_at, changed_row}
use Rattle.opfs_laws.specs.Whole.{IsInOrder, IsClosed}
use Rattle.opfs_laws.proofs.Spots.{place_total, same_place, exact_places, same_or_apart, find-changed, find-other}

told : (b : Bool) → b ≡ true → T b
told true h = tt
told false h = absurd (false≢true h)

tell : (b : Bool) → T b → b ≡ true
tell true h = refl
tell false h = absurd h

pub order-put : {F : Type 0} (p : Place) (r : Row F) (rows : Rows F) → IsInOrder rows → IsInOrder (put place_cmp p r rows)
order-put p r rows h = tell _ (is_sorted-put place_cmp place_total p r rows (told _ h))

pub order-without : {F : Type 0} (p : Place) (rows : Rows F) → IsInOrder rows → IsInOrder (filter (λ e. not (is_within p e.0)) rows)
order-without p rows h = tell _ (is_sorted-where_key place_cmp (λ x. not (is_within p x)) rows (told _ h))

module _ {F : Type 0} (p : Place) (change : FileRow F → FileRow F) where
  below-change : (x : Place) (rows : Rows F) → below_all place_cmp x (change_at p change rows) ≡ below_all place_cmp x rows
  below-change x [] = refl
  below-change x (e ∷ es) =
      elim (is_eq (place_cmp p e.0)) as (λ b. below_all place_cmp x (elim b as (λ y. Rows F) [ true ↦ (e.0, changed_row change e.1) ∷ es | false ↦ e ∷ change_at p change es ]) ≡ (is_lt (place_cmp x e.0) && below_all place_cmp x es)) [
        | true ↦ refl
        | false ↦ ap (λ b. is_lt (place_cmp x e.0) && b) (below-change x es)
      ]

  order-same : (rows : Rows F) → is_sorted place_cmp (change_at p change rows) ≡ is_sorted place_cmp rows
  order-same [] = refl
  order-same (e ∷ es) =
      elim (is_eq (place_cmp p e.0)) as (λ b. is_sorted place_cmp (elim b as (λ y. Rows F) [ true ↦ (e.0, changed_row change e.1) ∷ es | false ↦ e ∷ change_at p change es ]) ≡ (below_all place_cmp e.0 es && is_sorted place_cmp es)) [
        | true ↦ refl
        | false ↦ (λ i. below-change e.0 es i && order-same es i)
      ]

  pub order-change : (rows : Rows F) → IsInOrder rows → IsInOrder (change_at p change rows)
  order-change rows h = order-same rows ∙ h

  option-some : (o : Option (Row F)) (r : Row F) → option_map (changed_row change) o ≡ Some r → (x : Row F) × (o ≡ Some x)
  option-some None r h = absurd (none_some h)
    where
      none_some : None ≡ Some r → ⊥
      none_some e = cc
  option-some (Some x) r h = (x, refl)

  change-some : (x : Place) (rows : Rows F) (r : Row F) → find place_cmp x (change_at p change rows) ≡ Some r → (y : Row F) × (find place_cmp x rows ≡ Some y)
  change-some x rows r h =
      elim (same_or_apart p x) as (λ c. (y : Row F) × (find place_cmp x rows ≡ Some y)) [
        | inl same ↦ subst (λ q. (y : Row F) × (find place_cmp q rows ≡ Some y)) same
            (option-some (find place_cmp p rows) r (sym (find-changed change p rows) ∙ subst (λ q. find place_cmp q (change_at p change rows) ≡ Some r) (sym same) h))
        | inr apart ↦ (r, sym (find-other change p x rows apart) ∙ h)
      ]

  change-directory : (x : Place) (rows : Rows F) → find place_cmp x rows ≡ Some row.Directory → find place_cmp x (change_at p change rows) ≡ Some row.Directory
  change-directory x rows h =
      elim (same_or_apart p x) as (λ c. find place_cmp x (change_at p change rows) ≡ Some row.Directory) [
        | inl same ↦ subst (λ q. find place_cmp q (change_at p change rows) ≡ Some row.Directory) same
            (find-changed change p rows ∙ ap (option_map (changed_row change)) (ap (λ q. find place_cmp q rows) same ∙ h))
        | inr apart ↦ find-other change p x rows apart ∙ h
      ]

  pub closed-change : (rows : Rows F) → IsClosed rows → IsClosed (change_at p change rows)
  closed-change rows h dir name r is = let old = change-some (child dir name) rows r is in change-directory dir rows (h dir name old.0 old.1)

-- The directory of a place that is not a root.
abbrev pub HasParent : {F : Type 0} → Place → Rows F → Type 0
HasParent p rows = (dir : Place) (name : Text) → p ≡ child dir name → find place_cmp dir rows ≡ Some row.Directory

module _ {F : Type 0} (p : Place) (r : Row F) (rows : Rows F) (free : find place_cmp p rows ≡ None) where
  put-directory : (dir : Place) → find place_cmp dir rows ≡ Some row.Directory → find place_cmp dir (put place_cmp p r rows) ≡ Some row.Directory
  put-directory dir h =
      find-put place_cmp place_total dir p r rows
      ∙ (elim (eq_by_cmp place_cmp dir p) as (λ b. eq_by_cmp place_cmp dir p ≡ b → cond b (Some r) (find place_cmp dir rows) ≡ Some row.Directory) [
        | true ↦ λ is. absurd (none_some (sym free ∙ ap (λ x. find place_cmp x rows) (sym (same_place dir p is)) ∙ h))
        | false ↦ λ is. h
      ] refl)
    where
      none_some : ◌≡◌ {A = Option (Row F)} None (Some row.Directory) → ⊥
      none_some e = cc

  pub closed-put : HasParent p rows → IsClosed rows → IsClosed (put place_cmp p r rows)
  closed-put parent closed dir name x is =
      put-directory dir (elim (eq_by_cmp place_cmp (child dir name) p) as (λ b. eq_by_cmp place_cmp (child dir name) p ≡ b → cond b (Some r) (find place_cmp (child dir name) rows) ≡ Some x → find place_cmp dir rows ≡ Some row.Directory) [
        | true ↦ λ same t. parent dir name (sym (same_place (child dir name) p same))
        | false ↦ λ same t. closed dir name x t
      ] refl (sym (find-put place_cmp place_total (child dir name) p r rows) ∙ is))

begins-more : (p q more : List Text) → begins_with p q ≡ true → begins_with p (q ++ more) ≡ true
begins-more [] q more h = refl
begins-more (a ∷ p) [] more h = absurd (false≢true h)
begins-more (a ∷ p) (b ∷ q) more h =
    elim (same_text a b) as (λ t. (t && begins_with p q) ≡ true → (t && begins_with p (q ++ more)) ≡ true) [
      | true ↦ λ g. begins-more p q more g
      | false ↦ λ g. g
    ] h

within-child : (a dir : Place) (name : Text) → is_within a dir ≡ true → is_within a (child dir name) ≡ true
within-child a dir name h =
    elim (same_text a.0 dir.0) as (λ t. (t && begins_with a.1 dir.1) ≡ true → (t && begins_with a.1 (dir.1 ++ name ∷ [])) ≡ true) [
      | true ↦ λ g. begins-more a.1 dir.1 (name ∷ []) g
      | false ↦ λ g. g
    ] h

module _ {F : Type 0} (a : Place) (rows : Rows F) where
  row-left : (x : Place) → find place_cmp x (filter (λ e. not (is_within a e.0)) rows) ≡ cond (not (is_within a x)) (find place_cmp x rows) None
  row-left x = find-where_key place_cmp (λ y. not (is_within a y)) x (λ y ties. ap (λ z. not (is_within a z)) (sym (exact_places x y ties))) rows

  pub closed-without : IsClosed rows → IsClosed (filter (λ e. not (is_within a e.0)) rows)
  closed-without closed dir name r is =
      elim (is_within a (child dir name)) as (λ b. is_within a (child dir name) ≡ b → cond (not b) (find place_cmp (child dir name) rows) None ≡ Some r
      → find place_cmp dir (filter (λ e. not (is_within a e.0)) rows) ≡ Some row.Directory) [
        | true ↦ λ w t. absurd (none_some t)
        | false ↦ λ w t.
            row-left dir
            ∙ (elim (is_within a dir) as (λ b. is_within a dir ≡ b → cond (not b) (find place_cmp dir rows) None ≡ Some row.Directory) [
              | true ↦ λ v. absurd (false≢true (sym w ∙ within-child a dir name v))
              | false ↦ λ v. closed dir name r t
            ] refl)
      ] refl (sym (row-left (child dir name)) ∙ is)
    where
      none_some : ◌≡◌ {A = Option (Row F)} None (Some r) → ⊥
      none_some e = cc
