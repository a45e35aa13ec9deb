-- How many files have a taken lock, under the writes to a unit.
use Rattle.std.proofs.Common.{◌≡◌, ℕ, ◌+◌, ◌-◌, ◌<◌, ◌≤◌, ◌^◌, nat_eq, ◌&&◌, ◌||◌, true, false, cond, not, List, [], ◌∷◌, length, map, filter, Option, Some, None, is_none, refl, sym, ap, ◌∙◌, arith}
use Rattle.std.specs.List.{list_all}
use Rattle.std.specs.Ordering.{is_eq}
use Rattle.std.proofs.lemmas.Bool.{ne_eqb}
use Rattle.std.specs.declared.cmp.Ordering.TheVariants.{Less, Equal, Greater}
use Rattle.std.specs.FinMap.Entries.{find, put, by_order}
use Rattle.opfs_base.specs.Texts.{Text, same_text}
use Rattle.opfs_base.specs.Places.{begins_with}
use Rattle.opfs_tree.specs.declared.row.FileRow.{FileRow}
use Rattle.opfs_tree.specs.declared.row.Row.{Row}
use Rattle.opfs_tree.specs.declared.row.Row.TheVariants as row
use Rattle.opfs_tree.specs.Rows.{Rows, changed_row, taken_lock, holds, none_taken}
use Rattle.opfs_tree.specs.Units.{UnitRows, path_cmp, unit_rows, below, beside, change_in, taken_in, holds_of, holds_at}

one_at_most : (r : Row) → holds r ≤ 1
one_at_most r = elim (taken_lock r) as (λ o. (◌≤◌ (elim o [ Some lock ↦ 1 | None ↦ 0 ]) 1)) [ Some lock ↦ omega arith | None ↦ omega arith ]

more : (e : List Text × Row) (es : UnitRows) → taken_in (e ∷ es) ≡ holds e.1 + taken_in es
more e es = refl

pub few : (es : UnitRows) → taken_in es ≤ length es
few [] = omega arith
few (e ∷ es) = omega (arith, one_at_most e.1, few es, more e es)

pub count_put : (p : List Text) (r : Row) (es : UnitRows) → find path_cmp p es ≡ None → taken_in (put path_cmp p r es) ≡ taken_in es + holds r
count_put p r [] none = omega (arith, more (p, r) [])
count_put p r (e ∷ es) none =
    elim (path_cmp p e.0) as (λ o. cond (is_eq o) (Some e.1) (find path_cmp p es) ≡ None → taken_in (by_order o ((p, r) ∷ e ∷ es) ((e.0, r) ∷ es) (e ∷ put path_cmp p r es)) ≡ (holds e.1 + taken_in es) + holds r) [
      | Less ↦ λ n. ◌∙◌ (more (p, r) (e ∷ es)) (omega (arith, more e es))
      | Equal ↦ λ n. cc
      | Greater ↦ λ n. ◌∙◌ (more e (put path_cmp p r es)) (omega (arith, count_put p r es n))
    ] none

pub count_change : (p : List Text) (change : FileRow → FileRow) (es : UnitRows) → taken_in (change_in p change es) + holds_at p es ≡ taken_in es + holds_at p (change_in p change es)
count_change p change [] = refl
count_change p change (e ∷ es) =
    let new = changed_row change e.1 in
    elim (is_eq (path_cmp p e.0)) as (λ b. is_eq (path_cmp p e.0) ≡ b → taken_in (elim b [ true ↦ (e.0, new) ∷ es | false ↦ e ∷ change_in p change es ]) + holds_of (cond b (Some e.1) (find path_cmp p es))
    ≡ (holds e.1 + taken_in es) + holds_of (find path_cmp p (elim b [ true ↦ (e.0, new) ∷ es | false ↦ e ∷ change_in p change es ]))) [
      | true ↦ λ is.
          let found : holds_at p ((e.0, new) ∷ es) ≡ holds new = ap (λ b. holds_of (cond b (Some new) (find path_cmp p es))) is in
          ap (λ n. ◌+◌ n (holds e.1)) (more (e.0, new) es) ∙ (omega arith ∙ ap (λ n. ◌+◌ (holds e.1 + taken_in es) n) (sym found))
      | false ↦ λ is.
          let found : holds_at p (e ∷ change_in p change es) ≡ holds_at p (change_in p change es) = ap (λ b. holds_of (cond b (Some e.1) (find path_cmp p (change_in p change es)))) is in
          ap (λ n. ◌+◌ n (holds_at p es)) (more e (change_in p change es)) ∙ (omega (arith, count_change p change es) ∙ ap (λ n. ◌+◌ (holds e.1 + taken_in es) n) (sym found))
    ] refl

pub among : (p : List Text) (es : UnitRows) → holds_at p es ≤ taken_in es
among p [] = omega arith
among p (e ∷ es) =
    elim (is_eq (path_cmp p e.0)) as (λ b. holds_of (cond b (Some e.1) (find path_cmp p es)) ≤ holds e.1 + taken_in es) [
      | true ↦ omega arith
      | false ↦ omega (arith, among p es)
    ]

pub count_beside : (p : List Text) (es : UnitRows) → taken_in (beside p es) + taken_in (below p es) ≡ taken_in es
count_beside p [] = refl
count_beside p (e ∷ es) =
    elim (begins_with p e.0) as (λ b. taken_in (cond (not b) (e ∷ beside p es) (beside p es)) + taken_in (cond b (e ∷ below p es) (below p es)) ≡ holds e.1 + taken_in es) [
      | true ↦ ap (λ n. taken_in (beside p es) + n) (more e (below p es)) ∙ omega (arith, count_beside p es)
      | false ↦ ap (λ n. n + taken_in (below p es)) (more e (beside p es)) ∙ omega (arith, count_beside p es)
    ]

pub below_few : (p : List Text) (es : UnitRows) → taken_in (below p es) ≤ taken_in es
below_few p es = omega (arith, count_beside p es)

-- A change that leaves locks as they are.
same_holds : (change : FileRow → FileRow) → ((f : FileRow) → (change f).lock ≡ f.lock) → (r : Row) → taken_lock (changed_row change r) ≡ taken_lock r
same_holds change keeps row.Dir = refl
same_holds change keeps (row.File f) = rw (keeps f) refl

pub count_kept : (p : List Text) (change : FileRow → FileRow) → ((f : FileRow) → (change f).lock ≡ f.lock) → (es : UnitRows) → taken_in (change_in p change es) ≡ taken_in es
count_kept p change keeps [] = refl
count_kept p change keeps (e ∷ es) =
    elim (is_eq (path_cmp p e.0)) as (λ b. taken_in (elim b [ true ↦ (e.0, changed_row change e.1) ∷ es | false ↦ e ∷ change_in p change es ]) ≡ holds e.1 + taken_in es) [
      | true ↦ ap (λ (o : Option _). ◌+◌ (elim o [ Some lock ↦ 1 | None ↦ 0 ]) (taken_in es)) (same_holds change keeps e.1)
      | false ↦ ap (λ n. holds e.1 + n) (count_kept p change keeps es)
    ]

-- A unit's files among those of all.
pub none_in_unit : (k : Text) (rows : Rows) → none_taken k rows ≡ list_all (λ (e : List Text × Row). is_none (taken_lock e.1)) (unit_rows k rows)
none_in_unit k [] = refl
none_in_unit k (e ∷ es) =
    let mine = filter (λ x. same_text k x.0.0) es in
    elim (same_text k e.0.0) as (λ b. ((not b || is_none (taken_lock e.1)) && none_taken k es) ≡ list_all {X = List Text × Row} (λ x. is_none (taken_lock x.1)) (map (λ x. (x.0.1, x.1)) (cond b (e ∷ mine) mine))) [
      | true ↦ ap (λ t. is_none (taken_lock e.1) && t) (none_in_unit k es)
      | false ↦ none_in_unit k es
    ]

-- A count that is kept beside the rows, over each write.
module _ (taken : ℕ) (inner : UnitRows) (is : taken ≡ taken_in inner) (p : List Text) where
  pub counted_put : (more_taken : ℕ) (r : Row) (rows new : UnitRows) → inner ≡ rows → find path_cmp p rows ≡ None → more_taken ≡ holds r → new ≡ put path_cmp p r rows → taken + more_taken ≡ taken_in new
  counted_put m r rows new same free holding written =
      ap (λ n. n + m) is ∙ (ap (λ n. taken_in inner + n) holding ∙ (ap (λ es. taken_in es + holds r) same ∙ (sym (count_put p r rows free) ∙ ap taken_in (sym written))))

  module _ (before : ℕ) (found : before ≡ holds_at p inner) where
    pub counted_change : (change : FileRow → FileRow) (new : UnitRows) (after : ℕ) → after ≡ holds_at p new → new ≡ change_in p change inner → taken + after ≡ taken_in new + before
    counted_change change new after now written =
        ap (λ n. taken + n) now ∙ (ap (λ es. taken + holds_at p es) written ∙ (ap (λ n. n + holds_at p (change_in p change inner)) is ∙ (sym (count_change p change inner)
        ∙ (ap (λ es. taken_in es + holds_at p inner) (sym written) ∙ ap (λ n. taken_in new + n) (sym found)))))

    pub counted_among : before ≤ taken
    counted_among = omega (arith, among p inner, is, found)

  pub counted_kept : (change : FileRow → FileRow) (new : UnitRows) → ((f : FileRow) → (change f).lock ≡ f.lock) → new ≡ change_in p change inner → taken ≡ taken_in new
  counted_kept change new keeps written = is ∙ (sym (count_kept p change keeps inner) ∙ ap taken_in (sym written))

  pub counted_below : taken < 2 ^ 64 → taken_in (below p inner) < 2 ^ 64
  counted_below small = omega (arith, below_few p inner, is)

  pub counted_gone : (gone : ℕ) → gone ≡ taken_in (below p inner) → gone ≤ taken
  counted_gone gone found = omega (arith, below_few p inner, is, found)

  pub counted_beside : (gone : ℕ) (new : UnitRows) → gone ≡ taken_in (below p inner) → new ≡ beside p inner → taken - gone ≡ taken_in new
  counted_beside gone new found written = omega (arith, count_beside p inner, is, found, ap taken_in written)

pub none_is : (taken : ℕ) (es : UnitRows) → taken ≡ taken_in es → nat_eq taken 0 ≡ list_all (λ (e : List Text × Row). is_none (taken_lock e.1)) es
none_is taken es is = ap (λ n. nat_eq n 0) is ∙ none_of es
  where
    none_of : (es : UnitRows) → nat_eq (taken_in es) 0 ≡ list_all (λ (e : List Text × Row). is_none (taken_lock e.1)) es
    none_of [] = refl
    none_of (e ∷ es) =
        elim (taken_lock e.1) as (λ o. nat_eq ((elim o [ Some lock ↦ 1 | None ↦ 0 ]) + taken_in es) 0 ≡ (is_none o && list_all (λ (e : List Text × Row). is_none (taken_lock e.1)) es)) [
          | Some lock ↦ ne_eqb (1 + taken_in es) 0 (λ e. omega arith)
          | None ↦ ap (λ n. nat_eq n 0) (omega arith) ∙ none_of es
        ]
