-- What is kept of the place that stands ready, and what is seen, by each change of the tree.
use Rattle.std.proofs.Common.{◌≡◌, ℕ, Bool, true, false, cond, not, ◌&&◌, ◌||◌, List, [], ◌∷◌, ◌++◌, map, filter, flat_map, Option, Some, None, is_some, is_none, T, refl, sym, ap, subst, ◌∙◌}
use Rattle.std.specs.FinMap.Entries.{put, is_sorted, find-put, is_sorted-put, is_sorted-where_key}
use Rattle.std.specs.List.{list_all}
use Rattle.std.specs.Ordering.{eq_by_cmp}
use Rattle.opfs_base.specs.Places.{Place, place_cmp, is_within}
use Rattle.opfs_base.specs.Texts.{Text, same_text}
use Rattle.opfs_base.specs.declared.extents.Extent.{Extent}
use Rattle.opfs_base.specs.declared.locator.Kind.{Kind}
use Rattle.opfs_base.specs.declared.locator.Kind.TheVariants as kind
use Rattle.opfs_locks.specs.Taking.{Lock}
use Rattle.opfs_tree.specs.declared.row.FileRow.{FileRow}
use Rattle.opfs_tree.specs.declared.row.Row.{Row}
use Rattle.opfs_tree.specs.Rows.{Rows, row_at, file_at, file_of, rows_within, extents_within, extents_of, first_taken, taken_lock, none_taken, without, change_at, stored, IsInOrder, IsClosed}
use Rattle.opfs_tree.specs.Sums.{entries_within}
use Rattle.opfs_tree.proofs.Closed.{order_change}
use Rattle.opfs_tree.proofs.Orders.{place_total}
use Rattle.opfs_tree.specs.Ready.Ready.{Ready, new_row, is_ready, ready_within, shown, IsSpare, IsKept}
use Rattle.opfs_tree.proofs.ready.Clear.{Clear, same_place, place_itself, within_itself, clear-without, clear-less, clear-changed, without-put, find-clear, change-put, all-put, filter-put, fold-put, less-put, put-changed, free-clear}

true_false : true ≡ false → ⊥
true_false h = cc

told : (b : Bool) → b ≡ true → T b
told true h = tt
told false h = cc

tell : (b : Bool) → T b → b ≡ true
tell true h = refl
tell false h = absurd h

-- The row that stands ready is one more.
module _ (p : Place) (k : Kind) (rows : Rows) (spare : IsSpare p k rows) where
  pub base-clear : Clear p (without p rows)
  base-clear = clear-without p rows

  pub row-spare : (q : Place) → row_at q rows ≡ cond (eq_by_cmp place_cmp q p) (Some (new_row k 0)) (row_at q (without p rows))
  row-spare q = ap (row_at q) spare.row ∙ find-put place_cmp place_total q p (new_row k 0) (without p rows)

  pub order-base : is_sorted place_cmp (without p rows) ≡ true
  order-base = tell (is_sorted place_cmp (without p rows)) (is_sorted-where_key place_cmp (λ y. not (is_within p y)) rows (told (is_sorted place_cmp rows) spare.order))

-- The same with other rows beside.
pub spare-of : (p : Place) (k : Kind) (new base : Rows) → new ≡ put place_cmp p (new_row k 0) base → Clear p base → is_sorted place_cmp new ≡ true → IsSpare p k new × (without p new ≡ base)
spare-of p k new base is clear order =
    let out : without p new ≡ base = ap (without p) is ∙ without-put p (new_row k 0) base clear in
    (record { row = is ∙ ap (put place_cmp p (new_row k 0)) (sym out); order = order }, out)

-- ---- what is read

there_apart : (p q : Place) (k : Kind) (rows : Rows) → IsSpare p k rows → is_some (row_at q (without p rows)) ≡ true → eq_by_cmp place_cmp q p ≡ false
there_apart p q k rows spare there =
    elim (eq_by_cmp place_cmp q p) as (λ b. eq_by_cmp place_cmp q p ≡ b → b ≡ false) [
      | true ↦ λ is.
          let none : row_at q (without p rows) ≡ None = find-clear p (new_row k 0) q (without p rows) (base-clear p k rows spare) (ap (is_within p) (same_place q p is) ∙ within_itself p) in
          absurd (true_false (sym there ∙ ap is_some none))
      | false ↦ λ is. refl
    ] refl

-- The row at a place, unless it is the one that stands ready.
pub row-shown : (ready : Ready) (rows : Rows) (q : Place) → IsKept ready rows → row_at q (shown ready rows) ≡ cond (is_ready q ready) None (row_at q rows)
row-shown None rows q kept = refl
row-shown (Some e) rows q kept =
    elim (eq_by_cmp place_cmp q e.0) as (λ b. eq_by_cmp place_cmp q e.0 ≡ b → row_at q (without e.0 rows) ≡ cond b None (row_at q rows)) [
      | true ↦ λ is. find-clear e.0 (new_row e.1 0) q (without e.0 rows) (base-clear e.0 e.1 rows kept) (ap (is_within e.0) (same_place q e.0 is) ∙ within_itself e.0)
      | false ↦ λ is. sym (row-spare e.0 e.1 rows kept q ∙ ap (λ b. cond b (Some (new_row e.1 0)) (row_at q (without e.0 rows))) is)
    ] refl

pub row-there : (ready : Ready) (rows : Rows) (q : Place) → IsKept ready rows → is_some (row_at q (shown ready rows)) ≡ true → row_at q rows ≡ row_at q (shown ready rows)
row-there None rows q kept there = refl
row-there (Some e) rows q kept there =
    row-spare e.0 e.1 rows kept q ∙ ap (λ b. cond b (Some (new_row e.1 0)) (row_at q (without e.0 rows))) (there_apart e.0 q e.1 rows kept there)

file_row : (o : Option Row) → is_some (file_of o) ≡ true → is_some o ≡ true
file_row None h = cc
file_row (Some r) h = refl

pub file-there : (ready : Ready) (rows : Rows) (q : Place) → IsKept ready rows → is_some (file_at q (shown ready rows)) ≡ true → file_at q rows ≡ file_at q (shown ready rows)
file-there ready rows q kept there = ap file_of (row-there ready rows q kept (file_row (row_at q (shown ready rows)) there))

none_of : (k : Kind) → taken_lock (new_row k 0) ≡ None
none_of kind.File = refl
none_of kind.Directory = refl

no_extents : (k : Kind) → extents_of (new_row k 0) ≡ []
no_extents kind.File = refl
no_extents kind.Directory = refl

or_true : (a : Bool) → (a || true) ≡ true
or_true true = refl
or_true false = refl

pub taken-shown : (ready : Ready) (rows : Rows) (u : Text) → IsKept ready rows → none_taken u rows ≡ none_taken u (shown ready rows)
taken-shown None rows u kept = refl
taken-shown (Some e) rows u kept =
    let test = λ (x : Place × Row). not (same_text u x.0.0) || is_none (taken_lock x.1) in
    ap (list_all test) kept.row
    ∙ all-put e.0 (new_row e.1 0) test (ap (λ o. not (same_text u e.0.0) || is_none o) (none_of e.1) ∙ or_true (not (same_text u e.0.0))) (without e.0 rows) (base-clear e.0 e.1 rows kept)

module _ (q : Place) where
  inside : Bool → Place × Row → Option Lock → Option Lock
  inside b e rest = cond b (elim (taken_lock e.1) as (λ y. Option Lock) [ Some lock ↦ Some lock | None ↦ rest ]) rest

  locked_step : (e : Place × Row) (es : Rows) → first_taken (rows_within q (e ∷ es)) ≡ inside (is_within q e.0) e (first_taken (rows_within q es))
  unfolding inside
  locked_step e es = elim (is_within q e.0) as (λ b. first_taken (map (λ x. x.1) (cond b (e ∷ filter (λ x. is_within q x.0) es) (filter (λ x. is_within q x.0) es))) ≡ cond b (elim (taken_lock e.1) as (λ y. Option Lock) [ Some lock ↦ Some lock | None ↦ first_taken (rows_within q es) ]) (first_taken (rows_within q es))) [ true ↦ refl | false ↦ refl ]

  locked_over : (p : Place) (k : Kind) (rest : Option Lock) → inside (is_within q p) (p, new_row k 0) rest ≡ rest
  unfolding inside
  locked_over p k rest =
      ap (λ o. cond (is_within q p) (elim o as (λ y. Option Lock) [ Some lock ↦ Some lock | None ↦ rest ]) rest) (none_of k)
      ∙ (elim (is_within q p) as (λ b. cond b rest rest ≡ rest) [ true ↦ refl | false ↦ refl ])

  pub locked-shown : (ready : Ready) (rows : Rows) → IsKept ready rows → first_taken (rows_within q rows) ≡ first_taken (rows_within q (shown ready rows))
  locked-shown None rows kept = refl
  locked-shown (Some e) rows kept =
      ap (λ x. first_taken (rows_within q x)) kept.row
      ∙ fold-put e.0 (new_row e.1 0) (λ x. first_taken (rows_within q x)) (λ x rest. inside (is_within q x.0) x rest) locked_step (locked_over e.0 e.1) (without e.0 rows) (base-clear e.0 e.1 rows kept)

  held : Bool → Place × Row → List Extent → List Extent
  held b e rest = cond b (extents_of e.1 ++ rest) rest

  extents_step : (e : Place × Row) (es : Rows) → extents_within q (e ∷ es) ≡ held (is_within q e.0) e (extents_within q es)
  unfolding held
  extents_step e es = elim (is_within q e.0) as (λ b. flat_map extents_of (map (λ x. x.1) (cond b (e ∷ filter (λ x. is_within q x.0) es) (filter (λ x. is_within q x.0) es))) ≡ cond b (extents_of e.1 ++ extents_within q es) (extents_within q es)) [ true ↦ refl | false ↦ refl ]

  extents_over : (p : Place) (k : Kind) (rest : List Extent) → held (is_within q p) (p, new_row k 0) rest ≡ rest
  unfolding held
  extents_over p k rest =
      ap (λ xs. cond (is_within q p) (xs ++ rest) rest) (no_extents k) ∙ (elim (is_within q p) as (λ b. cond b rest rest ≡ rest) [ true ↦ refl | false ↦ refl ])

  pub extents-shown : (ready : Ready) (rows : Rows) → IsKept ready rows → extents_within q rows ≡ extents_within q (shown ready rows)
  extents-shown None rows kept = refl
  extents-shown (Some e) rows kept =
      ap (extents_within q) kept.row
      ∙ fold-put e.0 (new_row e.1 0) (extents_within q) (λ x rest. held (is_within q x.0) x rest) extents_step (extents_over e.0 e.1) (without e.0 rows) (base-clear e.0 e.1 rows kept)

  pub entries-shown : (ready : Ready) (rows : Rows) → IsKept ready rows → ready_within q ready ≡ false → entries_within q rows ≡ entries_within q (shown ready rows)
  entries-shown None rows kept apart = refl
  entries-shown (Some e) rows kept apart =
      ap (entries_within q) kept.row ∙ filter-put e.0 (new_row e.1 0) (λ (x : Place × Row). is_within q x.0) apart (without e.0 rows) (base-clear e.0 e.1 rows kept)

  pub within-shown : (ready : Ready) (rows : Rows) → IsKept ready rows → ready_within q ready ≡ false → rows_within q rows ≡ rows_within q (shown ready rows)
  within-shown ready rows kept apart = ap (map (λ (e : Place × Row). e.1)) (entries-shown ready rows kept apart)

-- ---- what is changed

pub changed-kept : (ready : Ready) (rows new : Rows) (q : Place) (change : FileRow → FileRow) → IsKept ready rows → is_some (file_at q (shown ready rows)) ≡ true → new ≡ change_at q change rows
    → IsKept ready new × (shown ready new ≡ change_at q change (shown ready rows))
changed-kept None rows new q change kept there is = (tt, is)
changed-kept (Some e) rows new q change kept there is =
    let apart = there_apart e.0 q e.1 rows kept (file_row (row_at q (without e.0 rows)) there) in
    let base = without e.0 rows in
    spare-of e.0 e.1 new (change_at q change base)
    (is ∙ (ap (change_at q change) kept.row ∙ change-put e.0 (new_row e.1 0) q change base (base-clear e.0 e.1 rows kept) apart))
    (clear-changed e.0 q change base (base-clear e.0 e.1 rows kept))
    (ap (is_sorted place_cmp) is ∙ (order_change q change rows ∙ kept.order))

pub removed-kept : (ready : Ready) (rows new : Rows) (q : Place) → IsKept ready rows → ready_within q ready ≡ false → new ≡ without q rows
    → IsKept ready new × (shown ready new ≡ without q (shown ready rows))
removed-kept None rows new q kept apart is = (tt, is)
removed-kept (Some e) rows new q kept apart is =
    let base = without e.0 rows in
    spare-of e.0 e.1 new (without q base)
    (is ∙ (ap (without q) kept.row ∙ less-put e.0 (new_row e.1 0) q base (order-base e.0 e.1 rows kept) apart))
    (clear-less e.0 q base (base-clear e.0 e.1 rows kept))
    (ap (is_sorted place_cmp) is ∙ tell (is_sorted place_cmp (without q rows)) (is_sorted-where_key place_cmp (λ y. not (is_within q y)) rows (told (is_sorted place_cmp rows) kept.order)))

-- A place is made ready.
pub added-kept : (p : Place) (k : Kind) (rows new : Rows) → IsInOrder rows → IsClosed rows → row_at p rows ≡ None → new ≡ put place_cmp p (new_row k 0) rows
    → IsSpare p k new × (without p new ≡ rows)
added-kept p k rows new order closed free is =
    spare-of p k new rows is (free-clear rows closed p free)
    (ap (is_sorted place_cmp) is ∙ tell (is_sorted place_cmp (put place_cmp p (new_row k 0) rows)) (is_sorted-put place_cmp place_total p (new_row k 0) rows (told (is_sorted place_cmp rows) order)))

-- The row comes: a directory, or a file with its time stamp.
pub directory-filled : (p : Place) (rows : Rows) (stamp : ℕ) → IsSpare p kind.Directory rows → rows ≡ put place_cmp p (new_row kind.Directory stamp) (without p rows)
directory-filled p rows stamp spare = spare.row

pub file-filled : (p : Place) (rows new : Rows) (stamp : ℕ) → IsSpare p kind.File rows → new ≡ change_at p (stored 0 stamp []) rows → new ≡ put place_cmp p (new_row kind.File stamp) (without p rows)
file-filled p rows new stamp spare is =
    is ∙ (ap (change_at p (stored 0 stamp [])) spare.row ∙ put-changed p _ (stored 0 stamp []) (without p rows) (base-clear p kind.File rows spare))

pub file-spare : (p : Place) (rows : Rows) → IsSpare p kind.File rows → is_some (file_at p rows) ≡ true
file-spare p rows spare = ap (λ o. is_some (file_of o)) (row-spare p kind.File rows spare p ∙ ap (λ b. cond b (Some (new_row kind.File 0)) (row_at p (without p rows))) (place_itself p))

-- The row that stands ready has no extents.
pub spare-extents : (p : Place) (k : Kind) (rows : Rows) → IsSpare p k rows → extents_within p rows ≡ []
spare-extents p k rows spare = extents-shown p (Some (p, k)) rows spare ∙ none (without p rows) (base-clear p k rows spare)
  where
    none : (es : Rows) → Clear p es → extents_within p es ≡ []
    none es clear = ap (λ xs. flat_map extents_of (map (λ (e : Place × Row). e.1) xs)) (gone es clear)
      where
        gone : (xs : Rows) → Clear p xs → filter (λ e. is_within p e.0) xs ≡ []
        gone [] c = refl
        gone (x ∷ xs) c =
            elim (is_within p x.0) as (λ b. (not b && list_all (λ (e : Place × Row). not (is_within p e.0)) xs) ≡ true → cond b (x ∷ filter (λ e. is_within p e.0) xs) (filter (λ e. is_within p e.0) xs) ≡ []) [
              | true ↦ λ d. cc
              | false ↦ λ d. gone xs d
            ] c

pub prepared : (p : Place) (k : Kind) (ready later : Ready) (rows new old : Rows) (r : Row) → ready ≡ None → shown ready rows ≡ old → IsInOrder rows → IsClosed rows → row_at p old ≡ None
    → r ≡ new_row k 0 → new ≡ put place_cmp p r rows → later ≡ Some (p, k) → IsKept later new × (shown later new ≡ old)
prepared p k ready later rows new old r none seen order closed free row is stands =
    let same : rows ≡ old = ap (λ x. shown x rows) (sym none) ∙ seen in
    let made = added-kept p k rows new order closed (ap (row_at p) same ∙ free) (is ∙ ap (λ x. put place_cmp p x rows) row) in
    subst (λ (x : Ready). IsKept x new × (shown x new ≡ old)) (sym stands) (made.0, made.1 ∙ same)

pub kept-at : (p : Place) (k : Kind) (ready : Ready) (rows : Rows) → ready ≡ Some (p, k) → IsKept ready rows → IsSpare p k rows
kept-at p k ready rows is kept = subst (λ (x : Ready). IsKept x rows) is kept

-- The place was free.
pub spare-free : (ready : Ready) (rows : Rows) (p : Place) (k : Kind) → IsKept ready rows → ready ≡ Some (p, k) → row_at p (shown ready rows) ≡ None
spare-free ready rows p k kept is = row-shown ready rows p kept ∙ ap (λ b. cond b None (row_at p rows)) (ap (is_ready p) is ∙ place_itself p)
