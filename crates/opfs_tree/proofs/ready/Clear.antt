-- Rows that have nothing at a place and below it, and one more row there.
use Rattle.std.proofs.Common.{◌≡◌, ◌++◌, Bool, true, false, cond, not, ◌&&◌, List, [], ◌∷◌, filter, Option, Some, None, is_some, T, refl, sym, ap, ◌∙◌}
use Rattle.std.specs.FinMap.Entries.{put, by_order, is_sorted, find-put, is_sorted-put, is_sorted-where_key, find-where_key, same_entries}
use Rattle.std.specs.List.{list_all}
use Rattle.std.specs.Ordering.{is_eq, eq_by_cmp}
use Rattle.std.specs.declared.cmp.Ordering.{Ordering}
use Rattle.std.specs.declared.cmp.Ordering.TheVariants.{Less, Equal, Greater}
use Rattle.std.specs.Cmp.{tied_itself}
use Rattle.std.specs.Cmp.Lexicographic.{texts_ties}
use Rattle.opfs_base.specs.Places.{Place, place_cmp, begins_with, is_within}
use Rattle.opfs_base.specs.Texts.{Text, same_text}
use Rattle.opfs_tree.specs.declared.row.FileRow.{FileRow}
use Rattle.opfs_tree.specs.declared.row.Row.{Row}
use Rattle.opfs_tree.specs.declared.row.Row.TheVariants as row
use Rattle.opfs_tree.specs.Rows.{Rows, row_at, without, change_at, changed_row, IsClosed}
use Rattle.opfs_tree.proofs.Closed.{exact_places}
use Rattle.opfs_tree.proofs.Orders.{place_total, text_total, tied_texts}

true_false : true ≡ false → ⊥
true_false h = cc

some_none : {X : Type 0} (x : X) → Some x ≡ None → ⊥
some_none x h = cc

told : (b : Bool) → b ≡ true → T b
told true h = tt
told false h = cc

equal_of : (o : Ordering) → is_eq o ≡ true → o ≡ Equal
equal_of Less h = cc
equal_of Equal h = refl
equal_of Greater h = cc

pub same_place : (a b : Place) → eq_by_cmp place_cmp a b ≡ true → a ≡ b
same_place a b h = exact_places a b (equal_of (place_cmp a b) h)

pub place_itself : (a : Place) → eq_by_cmp place_cmp a a ≡ true
place_itself a = ap is_eq (tied_itself place_total a)

text_itself : (t : Text) → same_text t t ≡ true
text_itself t = texts_ties t t ∙ ap is_eq (tied_itself text_total t)

begins_itself : (p : List Text) → begins_with p p ≡ true
begins_itself [] = refl
begins_itself (n ∷ p) = ap (λ t. t && begins_with p p) (text_itself n) ∙ begins_itself p

pub within_itself : (p : Place) → is_within p p ≡ true
within_itself p = ap (λ t. t && begins_with p.1 p.1) (text_itself p.0) ∙ begins_itself p.1

-- Nothing is at a place and below it.
abbrev pub Clear : Place → Rows → Type 0
Clear p rows = list_all (λ e. not (is_within p e.0)) rows ≡ true

and_true : (a b : Bool) → (a && b) ≡ true → (a ≡ true) × (b ≡ true)
and_true true b h = (refl, h)
and_true false b h = cc

not_true : (a : Bool) → not a ≡ true → a ≡ false
not_true true h = cc
not_true false h = refl

pub filter_all : {X : Type 0} (t : X → Bool) (xs : List X) → list_all t xs ≡ true → filter t xs ≡ xs
filter_all t [] h = refl
filter_all t (x ∷ xs) h =
    let both = and_true (t x) (list_all t xs) h in
    ap (λ b. cond b (x ∷ filter t xs) (filter t xs)) both.0 ∙ ap (λ ys. x ∷ ys) (filter_all t xs both.1)

all_filtered : {X : Type 0} (t : X → Bool) (xs : List X) → list_all t (filter t xs) ≡ true
all_filtered t [] = refl
all_filtered {X} t (x ∷ xs) =
    elim (t x) as (λ b. t x ≡ b → list_all t (cond b (x ∷ filter t xs) (filter t xs)) ≡ true) [
      | true ↦ λ is. ap (λ b. b && list_all t (filter t xs)) is ∙ all_filtered t xs
      | false ↦ λ is. all_filtered t xs
    ] refl

pub clear-without : (p : Place) (rows : Rows) → Clear p (without p rows)
clear-without p rows = all_filtered (λ (e : Place × Row). not (is_within p e.0)) rows

all_kept : {X : Type 0} (t u : X → Bool) (xs : List X) → list_all t xs ≡ true → list_all t (filter u xs) ≡ true
all_kept t u [] h = refl
all_kept {X} t u (x ∷ xs) h =
    let both = and_true (t x) (list_all t xs) h in
    elim (u x) as (λ b. list_all t (cond b (x ∷ filter u xs) (filter u xs)) ≡ true) [
      | true ↦ ap (λ b. b && list_all t (filter u xs)) both.0 ∙ all_kept t u xs both.1
      | false ↦ all_kept t u xs both.1
    ]

pub clear-less : (p q : Place) (rows : Rows) → Clear p rows → Clear p (without q rows)
clear-less p q rows h = all_kept (λ (e : Place × Row). not (is_within p e.0)) (λ (e : Place × Row). not (is_within q e.0)) rows h

pub clear-changed : (p q : Place) (change : FileRow → FileRow) (rows : Rows) → Clear p rows → Clear p (change_at q change rows)
clear-changed p q change [] h = refl
clear-changed p q change (e ∷ es) h =
    let t = λ (x : Place × Row). not (is_within p x.0) in
    let both = and_true (t e) (list_all t es) h in
    elim (is_eq (place_cmp q e.0)) as (λ b. list_all t (elim b as (λ y. Rows) [ true ↦ (e.0, changed_row change e.1) ∷ es | false ↦ e ∷ change_at q change es ]) ≡ true) [
      | true ↦ h
      | false ↦ ap (λ b. b && list_all t (change_at q change es)) both.0 ∙ clear-changed p q change es both.1
    ]

-- ---- one more row

module _ (p : Place) (r : Row) where
  not_here : (e : Place × Row) (es : Rows) → Clear p (e ∷ es) → place_cmp p e.0 ≡ Equal → ⊥
  not_here e es h is =
      let out = not_true (is_within p e.0) (and_true (not (is_within p e.0)) (list_all (λ (x : Place × Row). not (is_within p x.0)) es) h).0 in
      true_false (sym (within_itself p) ∙ (ap (is_within p) (exact_places p e.0 is) ∙ out))

  rest_clear : (e : Place × Row) (es : Rows) → Clear p (e ∷ es) → Clear p es
  rest_clear e es h = (and_true (not (is_within p e.0)) (list_all (λ (x : Place × Row). not (is_within p x.0)) es) h).1

  abbrev put_by : Ordering → Place × Row → Rows → Rows
  put_by o e es = by_order o ((p, r) ∷ e ∷ es) ((e.0, r) ∷ es) (e ∷ put place_cmp p r es)

  -- It is taken out again.
  pub without-put : (rows : Rows) → Clear p rows → without p (put place_cmp p r rows) ≡ rows
  without-put [] h = ap (λ b. cond b ((p, r) ∷ []) []) (ap not (within_itself p))
  without-put (e ∷ es) h =
      let t = λ (x : Place × Row). not (is_within p x.0) in
      elim (place_cmp p e.0) as (λ o. place_cmp p e.0 ≡ o → filter t (put_by o e es) ≡ e ∷ es) [
        | Less ↦ λ is. ap (λ b. cond b ((p, r) ∷ filter t (e ∷ es)) (filter t (e ∷ es))) (ap not (within_itself p)) ∙ filter_all t (e ∷ es) h
        | Equal ↦ λ is. absurd (not_here e es h is)
        | Greater ↦ λ is.
            ap (λ b. cond b (e ∷ filter t (put place_cmp p r es)) (filter t (put place_cmp p r es))) (and_true (t e) (list_all t es) h).0
            ∙ ap (λ xs. e ∷ xs) (without-put es (rest_clear e es h))
      ] refl

  pub find-clear : (q : Place) (rows : Rows) → Clear p rows → is_within p q ≡ true → row_at q rows ≡ None
  find-clear q [] h w = refl
  find-clear q (e ∷ es) h w =
      let out = not_true (is_within p e.0) (and_true (not (is_within p e.0)) (list_all (λ (x : Place × Row). not (is_within p x.0)) es) h).0 in
      elim (eq_by_cmp place_cmp q e.0) as (λ b. eq_by_cmp place_cmp q e.0 ≡ b → cond b (Some e.1) (row_at q es) ≡ None) [
        | true ↦ λ is. absurd (true_false (sym w ∙ (ap (is_within p) (same_place q e.0 is) ∙ out)))
        | false ↦ λ is. find-clear q es (rest_clear e es h) w
      ] refl

  -- A file elsewhere is changed.
  pub change-put : (q : Place) (change : FileRow → FileRow) (rows : Rows) → Clear p rows → eq_by_cmp place_cmp q p ≡ false
      → change_at q change (put place_cmp p r rows) ≡ put place_cmp p r (change_at q change rows)
  change-put q change [] h apart = ap (λ b. elim b as (λ y. Rows) [ true ↦ (p, changed_row change r) ∷ [] | false ↦ (p, r) ∷ [] ]) apart
  change-put q change (e ∷ es) h apart =
      let by = λ (b : Bool) (x : Place × Row) (one xs : Rows). elim b as (λ y. Rows) [ true ↦ (x.0, changed_row change x.1) ∷ one | false ↦ x ∷ xs ] in
      elim (place_cmp p e.0) as (λ o. place_cmp p e.0 ≡ o → change_at q change (put_by o e es) ≡ put place_cmp p r (by (is_eq (place_cmp q e.0)) e es (change_at q change es))) [
        | Less ↦ λ is.
            ap (λ b. by b (p, r) (e ∷ es) (change_at q change (e ∷ es))) apart
            ∙ (elim (is_eq (place_cmp q e.0)) as (λ b. (p, r) ∷ by b e es (change_at q change es) ≡ put place_cmp p r (by b e es (change_at q change es))) [
              | true ↦ sym (ap (λ o. by_order o ((p, r) ∷ (e.0, changed_row change e.1) ∷ es) ((e.0, r) ∷ es) ((e.0, changed_row change e.1) ∷ put place_cmp p r es)) is)
              | false ↦ sym (ap (λ o. by_order o ((p, r) ∷ e ∷ change_at q change es) ((e.0, r) ∷ change_at q change es) (e ∷ put place_cmp p r (change_at q change es))) is)
            ])
        | Equal ↦ λ is. absurd (not_here e es h is)
        | Greater ↦ λ is.
            elim (is_eq (place_cmp q e.0)) as (λ b. by b e (put place_cmp p r es) (change_at q change (put place_cmp p r es)) ≡ put place_cmp p r (by b e es (change_at q change es))) [
              | true ↦ sym (ap (λ o. by_order o ((p, r) ∷ (e.0, changed_row change e.1) ∷ es) ((e.0, r) ∷ es) ((e.0, changed_row change e.1) ∷ put place_cmp p r es)) is)
              | false ↦
                  ap (λ xs. e ∷ xs) (change-put q change es (rest_clear e es h) apart)
                  ∙ sym (ap (λ o. by_order o ((p, r) ∷ e ∷ change_at q change es) ((e.0, r) ∷ change_at q change es) (e ∷ put place_cmp p r (change_at q change es))) is)
            ]
      ] refl

  -- A test that the row passes or that does not see it.
  pub all-put : (test : Place × Row → Bool) → test (p, r) ≡ true → (rows : Rows) → Clear p rows → list_all test (put place_cmp p r rows) ≡ list_all test rows
  all-put test here [] h = ap (λ t. t && true) here
  all-put test here (e ∷ es) h =
      elim (place_cmp p e.0) as (λ o. place_cmp p e.0 ≡ o → list_all test (put_by o e es) ≡ (test e && list_all test es)) [
        | Less ↦ λ is. ap (λ t. t && (test e && list_all test es)) here
        | Equal ↦ λ is. absurd (not_here e es h is)
        | Greater ↦ λ is. ap (λ t. test e && t) (all-put test here es (rest_clear e es h))
      ] refl

  pub filter-put : (test : Place × Row → Bool) → test (p, r) ≡ false → (rows : Rows) → Clear p rows → filter test (put place_cmp p r rows) ≡ filter test rows
  filter-put test here [] h = ap (λ t. cond t ((p, r) ∷ []) []) here
  filter-put test here (e ∷ es) h =
      elim (place_cmp p e.0) as (λ o. place_cmp p e.0 ≡ o → filter test (put_by o e es) ≡ cond (test e) (e ∷ filter test es) (filter test es)) [
        | Less ↦ λ is. ap (λ t. cond t ((p, r) ∷ filter test (e ∷ es)) (filter test (e ∷ es))) here
        | Equal ↦ λ is. absurd (not_here e es h is)
        | Greater ↦ λ is. ap (λ xs. cond (test e) (e ∷ xs) xs) (filter-put test here es (rest_clear e es h))
      ] refl

  -- A reading of the rows that passes over this one.
  pub fold-put : {X : Type 0} (read : Rows → X) (step : Place × Row → X → X) → ((e : Place × Row) (es : Rows) → read (e ∷ es) ≡ step e (read es)) → ((x : X) → step (p, r) x ≡ x)
      → (rows : Rows) → Clear p rows → read (put place_cmp p r rows) ≡ read rows
  fold-put read step steps over [] h = steps (p, r) [] ∙ over (read [])
  fold-put {X} read step steps over (e ∷ es) h =
      elim (place_cmp p e.0) as (λ o. place_cmp p e.0 ≡ o → read (put_by o e es) ≡ read (e ∷ es)) [
        | Less ↦ λ is. steps (p, r) (e ∷ es) ∙ over (read (e ∷ es))
        | Equal ↦ λ is. absurd (not_here e es h is)
        | Greater ↦ λ is. steps e (put place_cmp p r es) ∙ (ap (step e) (fold-put read step steps over es (rest_clear e es h)) ∙ sym (steps e es))
      ] refl

  -- Rows elsewhere are taken out.
  pub less-put : (q : Place) (rows : Rows) → is_sorted place_cmp rows ≡ true → is_within q p ≡ false → without q (put place_cmp p r rows) ≡ put place_cmp p r (without q rows)
  less-put q rows order apart =
      let sorted : T (is_sorted place_cmp rows) = told (is_sorted place_cmp rows) order in
      let keep = λ (x : Place). not (is_within q x) in
      let alike = λ (x y : Place) (is : place_cmp x y ≡ Equal). ap keep (sym (exact_places x y is)) in
      let left = is_sorted-where_key place_cmp keep (put place_cmp p r rows) (is_sorted-put place_cmp place_total p r rows sorted) in
      let right = is_sorted-put place_cmp place_total p r (without q rows) (is_sorted-where_key place_cmp keep rows sorted) in
      same_entries place_cmp place_total exact_places (without q (put place_cmp p r rows)) (put place_cmp p r (without q rows)) left right
      (λ x.
      find-where_key place_cmp keep x (alike x) (put place_cmp p r rows)
      ∙ (ap (λ o. cond (keep x) o None) (find-put place_cmp place_total x p r rows)
      ∙ (elim (eq_by_cmp place_cmp x p) as (λ b. eq_by_cmp place_cmp x p ≡ b → cond (keep x) (cond b (Some r) (row_at x rows)) None ≡ cond b (Some r) (cond (keep x) (row_at x rows) None)) [
        | true ↦ λ is. ap (λ b. cond b (Some r) None) (ap keep (same_place x p is) ∙ ap not apart)
        | false ↦ λ is. refl
      ] refl
      ∙ (ap (cond (eq_by_cmp place_cmp x p) (Some r)) (sym (find-where_key place_cmp keep x (alike x) rows))
      ∙ sym (find-put place_cmp place_total x p r (without q rows))))))

-- The row itself is changed.
pub put-changed : (p : Place) (f : FileRow) (change : FileRow → FileRow) (rows : Rows) → Clear p rows → change_at p change (put place_cmp p (row.File f) rows) ≡ put place_cmp p (row.File (change f)) rows
put-changed p f change [] h = ap (λ b. elim b as (λ y. Rows) [ true ↦ (p, row.File (change f)) ∷ [] | false ↦ (p, row.File f) ∷ [] ]) (place_itself p)
put-changed p f change (e ∷ es) h =
    elim (place_cmp p e.0) as (λ o. place_cmp p e.0 ≡ o → change_at p change (by_order o ((p, row.File f) ∷ e ∷ es) ((e.0, row.File f) ∷ es) (e ∷ put place_cmp p (row.File f) es)) ≡ by_order o ((p, row.File (change f)) ∷ e ∷ es) ((e.0, row.File (change f)) ∷ es) (e ∷ put place_cmp p (row.File (change f)) es)) [
      | Less ↦ λ is. ap (λ b. elim b as (λ y. Rows) [ true ↦ (p, row.File (change f)) ∷ e ∷ es | false ↦ (p, row.File f) ∷ change_at p change (e ∷ es) ]) (place_itself p)
      | Equal ↦ λ is. absurd (not_here p (row.File f) e es h is)
      | Greater ↦ λ is.
          ap (λ o. elim (is_eq o) as (λ y. Rows) [ true ↦ (e.0, changed_row change e.1) ∷ put place_cmp p (row.File f) es | false ↦ e ∷ change_at p change (put place_cmp p (row.File f) es) ]) is
          ∙ ap (λ xs. e ∷ xs) (put-changed p f change es (rest_clear p (row.File f) e es h))
    ] refl

-- ---- below a free place of closed rows nothing is

begins_rest : (p q : List Text) → begins_with p q ≡ true → (more : List Text) × (q ≡ p ++ more)
begins_rest [] q h = (q, refl)
begins_rest (a ∷ p) [] h = cc
begins_rest (a ∷ p) (b ∷ q) h =
    let both = and_true (same_text a b) (begins_with p q) h in
    let rest = begins_rest p q both.1 in
    let head = tied_texts a b both.0 in
    (rest.0, λ i. sym head i ∷ rest.1 i)

append_one : (p : List Text) (n : Text) (ns : List Text) → p ++ n ∷ ns ≡ (p ++ n ∷ []) ++ ns
append_one [] n ns = refl
append_one (a ∷ p) n ns = ap (λ xs. a ∷ xs) (append_one p n ns)

append_none : (p : List Text) → p ++ [] ≡ p
append_none [] = refl
append_none (a ∷ p) = ap (λ xs. a ∷ xs) (append_none p)

some_is : {X : Type 0} (o : Option X) (x : X) → o ≡ Some x → is_some o ≡ true
some_is None x h = cc
some_is (Some y) x h = refl

pub above_there : (rows : Rows) → IsClosed rows → (unit : Text) (more path : List Text) → is_some (row_at (unit, path ++ more) rows) ≡ true → is_some (row_at (unit, path) rows) ≡ true
above_there rows closed unit [] path h = ap (λ p. is_some (row_at (unit, p) rows)) (sym (append_none path)) ∙ h
above_there rows closed unit (n ∷ ns) path h =
    let here : is_some (row_at (unit, path ++ n ∷ []) rows) ≡ true = above_there rows closed unit ns (path ++ n ∷ []) (ap (λ p. is_some (row_at (unit, p) rows)) (sym (append_one path n ns)) ∙ h) in
    some_is (row_at (unit, path) rows) row.Dir (closed (unit, path ++ n ∷ []) here (unit, path) n refl)

pub below_free : (rows : Rows) → IsClosed rows → (p : Place) → row_at p rows ≡ None → (q : Place) → is_some (row_at q rows) ≡ true → not (is_within p q) ≡ true
below_free rows closed p free q there =
    elim (is_within p q) as (λ b. is_within p q ≡ b → not b ≡ true) [
      | true ↦ λ w.
          let both = and_true (same_text p.0 q.0) (begins_with p.1 q.1) w in
          let rest = begins_rest p.1 q.1 both.1 in
          let place : q ≡ (p.0, p.1 ++ rest.0) = λ i. (sym (tied_texts p.0 q.0 both.0) i, rest.1 i) in
          let up = above_there rows closed p.0 rest.0 p.1 (ap (λ x. is_some (row_at x rows)) (sym place) ∙ there) in
          absurd (true_false (sym up ∙ ap is_some free))
      | false ↦ λ w. refl
    ] refl

all_there : (test : Place → Bool) (rows : Rows) → ((q : Place) → is_some (row_at q rows) ≡ true → test q ≡ true) → list_all (λ (e : Place × Row). test e.0) rows ≡ true
all_there test [] h = refl
all_there test (e ∷ es) h =
    ap (λ t. t && list_all (λ (x : Place × Row). test x.0) es) (h e.0 (ap (λ b. is_some (cond b (Some e.1) (row_at e.0 es))) (place_itself e.0)))
    ∙ all_there test es (λ q there. h q (elim (eq_by_cmp place_cmp q e.0) as (λ b. is_some (cond b (Some e.1) (row_at q es)) ≡ true) [ true ↦ refl | false ↦ there ]))

pub free-clear : (rows : Rows) → IsClosed rows → (p : Place) → row_at p rows ≡ None → Clear p rows
free-clear rows closed p free = all_there (λ q. not (is_within p q)) rows (below_free rows closed p free)
