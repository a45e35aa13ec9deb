-- The rows above a place, where the one at the place that stands ready is passed over.
use Rattle.std.proofs.Common.{◌≡◌, Bool, true, false, cond, not, ◌&&◌, ◌||◌, List, [], ◌∷◌, filter, Option, Some, None, IfSome, IfNone, IsSomeAnd, refl, sym, ap, subst, ◌∙◌}
use Rattle.std.specs.List.{list_all}
use Rattle.std.specs.Ordering.{is_eq, is_lt, eq_by_cmp, ordering_reverse}
use Rattle.std.specs.declared.cmp.Ordering.{Ordering}
use Rattle.std.specs.declared.cmp.Ordering.TheVariants.{Less, Equal, Greater}
use Rattle.opfs_base.specs.Places.{Place, place_cmp, is_within}
use Rattle.opfs_base.specs.Texts.{Text}
use Rattle.opfs_base.specs.declared.locator.Kind.{Kind}
use Rattle.opfs_tree.specs.declared.row.Row.{Row}
use Rattle.opfs_tree.specs.Rows.{Rows, without, rows_above, IsInOrder, IsClosed}
use Rattle.opfs_tree.proofs.Closed.{closed_without}
use Rattle.opfs_tree.proofs.Orders.{place_total}
use Rattle.opfs_tree.specs.Ready.Ready.{Ready, new_row, is_ready, shown, IsSpare, IsKept}
use Rattle.opfs_tree.proofs.ready.Clear.{same_place, place_itself, within_itself, all-put}
use Rattle.opfs_tree.proofs.ready.Kept.{base-clear, order-base}

filter_swap : {X : Type 0} (p q : X → Bool) (xs : List X) → filter p (filter q xs) ≡ filter q (filter p xs)
filter_swap p q [] = refl
filter_swap {X} p q (x ∷ xs) =
    elim (q x) as (λ b. q x ≡ b → filter p (cond b (x ∷ filter q xs) (filter q xs)) ≡ filter q (cond (p x) (x ∷ filter p xs) (filter p xs))) [
      | true ↦ λ is.
          elim (p x) as (λ b. p x ≡ b → cond b (x ∷ filter p (filter q xs)) (filter p (filter q xs)) ≡ filter q (cond b (x ∷ filter p xs) (filter p xs))) [
            | true ↦ λ here. ap (λ ys. x ∷ ys) (filter_swap p q xs) ∙ sym (ap (λ b. cond b (x ∷ filter q (filter p xs)) (filter q (filter p xs))) is)
            | false ↦ λ here. filter_swap p q xs
          ] refl
      | false ↦ λ is.
          elim (p x) as (λ b. filter p (filter q xs) ≡ filter q (cond b (x ∷ filter p xs) (filter p xs))) [
            | true ↦ filter_swap p q xs ∙ sym (ap (λ b. cond b (x ∷ filter q (filter p xs)) (filter q (filter p xs))) is)
            | false ↦ filter_swap p q xs
          ]
    ] refl

above-shown : (ready : Ready) (at : Option Place) (rows : Rows) → rows_above at (shown ready rows) ≡ shown ready (rows_above at rows)
above-shown None at rows = refl
above-shown (Some e) None rows = refl
above-shown (Some e) (Some place) rows = filter_swap (λ (x : Place × Row). is_lt (place_cmp place x.0)) (λ (x : Place × Row). not (is_within e.0 x.0)) rows

and_first : (a b : Bool) → (a && b) ≡ true → a ≡ true
and_first true b h = refl
and_first false b h = cc

and_second : (a b : Bool) → (a && b) ≡ true → b ≡ true
and_second true b h = h
and_second false b h = cc

or_right : (a b : Bool) → b ≡ true → (a || b) ≡ true
or_right true b h = refl
or_right false b h = h

all_or : {X : Type 0} (s t : X → Bool) (xs : List X) → list_all t xs ≡ true → list_all (λ (x : X). s x || t x) xs ≡ true
all_or s t [] h = refl
all_or s t (x ∷ xs) h = ap (λ b. b && list_all (λ y. s y || t y) xs) (or_right (s x) (t x) (and_first (t x) (list_all t xs) h)) ∙ all_or s t xs (and_second (t x) (list_all t xs) h)

all_kept : {X : Type 0} (t u : X → Bool) (xs : List X) → list_all t xs ≡ true → list_all t (filter u xs) ≡ true
all_kept t u [] h = refl
all_kept {X} t u (x ∷ xs) h =
    elim (u x) as (λ b. list_all t (cond b (x ∷ filter u xs) (filter u xs)) ≡ true) [
      | true ↦ ap (λ b. b && list_all t (filter u xs)) (and_first (t x) (list_all t xs) h) ∙ all_kept t u xs (and_second (t x) (list_all t xs) h)
      | false ↦ all_kept t u xs (and_second (t x) (list_all t xs) h)
    ]

all_filtered : {X : Type 0} (t : X → Bool) (xs : List X) → list_all t (filter t xs) ≡ true
all_filtered t [] = refl
all_filtered {X} t (x ∷ xs) =
    elim (t x) as (λ b. t x ≡ b → list_all t (cond b (x ∷ filter t xs) (filter t xs)) ≡ true) [
      | true ↦ λ is. ap (λ b. b && list_all t (filter t xs)) is ∙ all_filtered t xs
      | false ↦ λ is. all_filtered t xs
    ] refl

first_passes : {X : Type 0} (t : X → Bool) (xs rest : List X) (x : X) → list_all t xs ≡ true → xs ≡ x ∷ rest → t x ≡ true
first_passes t xs rest x all is = and_first (t x) (list_all t rest) (ap (list_all t) (sym is) ∙ all)

-- A row at or below the place that stands ready is at it.
abbrev apart : Place → Place × Row → Bool
apart p e = eq_by_cmp place_cmp e.0 p || not (is_within p e.0)

all_apart : (p : Place) (k : Kind) (rows : Rows) → IsSpare p k rows → list_all (apart p) rows ≡ true
all_apart p k rows spare =
    ap (list_all (apart p)) spare.row
    ∙ (all-put p (new_row k 0) (apart p) (ap (λ b. b || not (is_within p p)) (place_itself p)) (without p rows) (base-clear p k rows spare)
    ∙ all_or (λ (e : Place × Row). eq_by_cmp place_cmp e.0 p) (λ (e : Place × Row). not (is_within p e.0)) (without p rows) (base-clear p k rows spare))

above_apart : (at : Option Place) (p : Place) (k : Kind) (rows : Rows) → IsSpare p k rows → list_all (apart p) (rows_above at rows) ≡ true
above_apart None p k rows spare = all_apart p k rows spare
above_apart (Some from) p k rows spare = all_kept (apart p) (λ (e : Place × Row). is_lt (place_cmp from e.0)) rows (all_apart p k rows spare)

-- A step to another place.
pub step-over : (ready : Ready) (rows : Rows) (at : Option Place) (x : Place) (r : Row) → IsKept ready rows → rows_above at rows ≡ (x, r) ∷ rows_above (Some x) rows → is_ready x ready ≡ false
    → rows_above at (shown ready rows) ≡ (x, r) ∷ rows_above (Some x) (shown ready rows)
step-over None rows at x r kept is other = is
step-over (Some e) rows at x r kept is other =
    let out : not (is_within e.0 x) ≡ true = ap (λ b. b || not (is_within e.0 x)) (sym other) ∙ first_passes (apart e.0) (rows_above at rows) (rows_above (Some x) rows) (x, r) (above_apart at e.0 e.1 rows kept) is in
    above-shown (Some e) at rows
    ∙ (ap (without e.0) is
    ∙ (ap (λ b. cond b ((x, r) ∷ without e.0 (rows_above (Some x) rows)) (without e.0 (rows_above (Some x) rows))) out
    ∙ ap (λ xs. (x, r) ∷ xs) (sym (above-shown (Some e) (Some x) rows))))

-- A step to the place that stands ready.
pub step-ready : (ready : Ready) (rows : Rows) (at : Option Place) (x : Place) (r : Row) → IsKept ready rows → rows_above at rows ≡ (x, r) ∷ rows_above (Some x) rows → is_ready x ready ≡ true
    → rows_above at (shown ready rows) ≡ rows_above (Some x) (shown ready rows)
step-ready None rows at x r kept is here = cc
step-ready (Some e) rows at x r kept is here =
    above-shown (Some e) at rows
    ∙ (ap (without e.0) is
    ∙ (ap (λ b. cond b ((x, r) ∷ without e.0 (rows_above (Some x) rows)) (without e.0 (rows_above (Some x) rows))) (ap not (ap (is_within e.0) (same_place x e.0 here) ∙ within_itself e.0))
    ∙ sym (above-shown (Some e) (Some x) rows)))

not_both : (o : Ordering) → is_lt o ≡ true → is_eq (ordering_reverse o) ≡ false
not_both Less h = refl
not_both Equal h = cc
not_both Greater h = cc

-- The next step leads on.
pub not-again : (ready : Ready) (rows rest : Rows) (x y : Place) (r : Row) → is_ready x ready ≡ true → rows_above (Some x) rows ≡ (y, r) ∷ rest → is_ready y ready ≡ false
not-again None rows rest x y r here is = refl
not-again (Some e) rows rest x y r here is =
    let above = λ (z : Place × Row). is_lt (place_cmp x z.0) in
    let less = first_passes above (rows_above (Some x) rows) rest (y, r) (all_filtered above rows) is in
    ap (eq_by_cmp place_cmp y) (sym (same_place x e.0 here)) ∙ (ap is_eq (place_total.antisymm y x) ∙ not_both (place_cmp x y) less)

pub none-above : (ready : Ready) (rows : Rows) (at : Option Place) → rows_above at rows ≡ [] → rows_above at (shown ready rows) ≡ []
none-above ready rows at none = above-shown ready at rows ∙ (ap (shown ready) none ∙ nothing ready)
  where
    nothing : (x : Ready) → shown x [] ≡ []
    nothing None = refl
    nothing (Some e) = refl

pub order-shown : (ready : Ready) (rows : Rows) → IsKept ready rows → IsInOrder rows → IsInOrder (shown ready rows)
order-shown None rows kept order = order
order-shown (Some e) rows kept order = order-base e.0 e.1 rows kept

pub closed-shown : (ready : Ready) (rows : Rows) → IsClosed rows → IsClosed (shown ready rows)
closed-shown None rows closed = closed
closed-shown (Some e) rows closed = closed_without e.0 rows closed

-- ---- the clauses of a step

-- The next row above a place is this one, and the walk stands at it.
abbrev pub Goes : Option Place → Option Place → Row → Rows → Type 0
Goes at to r rows = IsSomeAnd to (λ x. rows_above at rows ≡ (x, r) ∷ rows_above (Some x) rows)

module _ (ready : Ready) (rows seen : Rows) (kept : IsKept ready rows) (same : shown ready rows ≡ seen) (at to : Option Place) (r : Row) (key : Text) (path : List Text)
    (unit : IfSome to (λ x. key ≡ x.0)) (names : IfSome to (λ x. path ≡ x.1)) (goes : Goes at to r rows) where
  pub goes-over : is_ready (key, path) ready ≡ false → Goes at to r seen
  goes-over other =
      elim to as (λ o. IfSome o (λ x. key ≡ x.0) → IfSome o (λ x. path ≡ x.1) → Goes at o r rows → Goes at o r seen) [
        | None ↦ λ u n g. g
        | Some x ↦ λ u n g.
            let place : (key, path) ≡ x = λ i. (u i, n i) in
            subst (λ (xs : Rows). rows_above at xs ≡ (x, r) ∷ rows_above (Some x) xs) same (step-over ready rows at x r kept g (ap (λ (y : Place). is_ready y ready) (sym place) ∙ other))
      ] unit names goes

  module _ (here : is_ready (key, path) ready ≡ true) where
    pub ends-again : rows_above to rows ≡ [] → rows_above at seen ≡ []
    ends-again none =
        elim to as (λ o. IfSome o (λ x. key ≡ x.0) → IfSome o (λ x. path ≡ x.1) → Goes at o r rows → rows_above o rows ≡ [] → rows_above at seen ≡ []) [
          | None ↦ λ u n g e. absurd g
          | Some x ↦ λ u n g e.
              let place : (key, path) ≡ x = λ i. (u i, n i) in
              ap (rows_above at) (sym same) ∙ (step-ready ready rows at x r kept g (ap (λ (y : Place). is_ready y ready) (sym place) ∙ here) ∙ none-above ready rows (Some x) e)
        ] unit names goes none

    pub goes-again : (then : Option Place) (s : Row) → Goes to then s rows → Goes at then s seen
    goes-again then s next =
        elim to as (λ o. IfSome o (λ x. key ≡ x.0) → IfSome o (λ x. path ≡ x.1) → Goes at o r rows → Goes o then s rows → Goes at then s seen) [
          | None ↦ λ u n g m. absurd g
          | Some x ↦ λ u n g m.
              let place : (key, path) ≡ x = λ i. (u i, n i) in
              let stands = ap (λ (y : Place). is_ready y ready) (sym place) ∙ here in
              elim then as (λ o. Goes (Some x) o s rows → Goes at o s seen) [
                | None ↦ λ k. k
                | Some y ↦ λ k.
                    let more = step-over ready rows (Some x) y s kept k (not-again ready rows (rows_above (Some y) rows) x y s stands k) in
                    subst (λ (xs : Rows). rows_above at xs ≡ (y, s) ∷ rows_above (Some y) xs) same (step-ready ready rows at x r kept g stands ∙ more)
              ] m
        ] unit names goes next

pub if-some : {X : Type 0} (o : Option X) (P Q : X → Type 0) → ((x : X) → P x → Q x) → IfSome o P → IfSome o Q
if-some None P Q f h = h
if-some (Some x) P Q f h = f x h

pub if-none : {X P Q : Type 0} (o : Option X) → (P → Q) → IfNone o P → IfNone o Q
if-none None f h = f h
if-none (Some x) f h = h
