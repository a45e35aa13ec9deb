-- What stands behind a row in the order of agents and numbers.
use Rattle.std.proofs.Common.{◌≡◌, ℕ, true, false, cond, [], ◌∷◌, length, Option, Some, None, slice_get, unwrap_or, refl, sym, ap, subst, ◌∙◌}
use Rattle.std.specs.List.{AllByRecursion}
use Rattle.std.specs.Map.{keys_of, lookup}
use Rattle.std.specs.BTreeMap.{is_at}
use Rattle.std.specs.Ordering.{is_lt, is_eq, ordering_reverse}
use Rattle.std.specs.declared.cmp.Ordering.{Ordering}
use Rattle.std.specs.declared.cmp.Ordering.TheVariants.{Less, Equal, Greater}
use Rattle.std.specs.Cmp.{IsTotalOrder, tied_itself}
use Rattle.std.proofs.lemmas.Cmp.{then_total, on_total, nat_cmp_total}
use Rattle.std.proofs.lemmas.Map.Keys.{sorted_head, sorted_tail}
use Rattle.opfs_data.specs.Pages.{RowSeen}
use Rattle.opfs_data.specs.Rows.{Rows, row_cmp, row_of, row_at, no_row, pages_at, AreInOrder, rows_behind}

rows_total : IsTotalOrder row_cmp
rows_total = then_total (on_total (λ (p : ℕ × ℕ). p.0) nat_cmp_total) (on_total (λ (p : ℕ × ℕ). p.1) nat_cmp_total)

-- a row before all others
abbrev IsBefore : ℕ × ℕ → Rows → Type 0
IsBefore key rows = AllByRecursion (λ other. row_cmp key other ≡ Less) (keys_of rows)

all_behind : (key : ℕ × ℕ) (rows : Rows) → IsBefore key rows → rows_behind (Some key) rows ≡ rows
all_behind key [] all = refl
all_behind key (e ∷ es) all =
    ap (λ o. cond (is_lt o) (e ∷ rows_behind (Some key) es) (rows_behind (Some key) es)) all.0 ∙ ap (λ xs. e ∷ xs) (all_behind key es all.1)

itself_not : (e : (ℕ × ℕ) × RowSeen) (es : Rows) → AreInOrder (e ∷ es) → rows_behind (Some e.0) (e ∷ es) ≡ es
itself_not e es sorted =
    ap (λ o. cond (is_lt o) (e ∷ rows_behind (Some e.0) es) (rows_behind (Some e.0) es)) (tied_itself rows_total e.0) ∙ all_behind e.0 es (sorted_head row_cmp e.0 (keys_of es) sorted)

before_on : (key a : ℕ × ℕ) (rows : Rows) → row_cmp key a ≡ Less → IsBefore a rows → IsBefore key rows
before_on key a [] less all = tt
before_on key a (e ∷ es) less all = (rows_total.trans key a e.0 less all.0, before_on key a es less all.1)

less_of : (o : Ordering) → is_lt o ≡ true → o ≡ Less
less_of Less h = refl
less_of Equal h = absurd cc
less_of Greater h = absurd cc

among : (key a : ℕ × ℕ) (es : Rows) (f : (ℕ × ℕ) × RowSeen) (fs : Rows) → IsBefore a es → rows_behind (Some key) es ≡ f ∷ fs → row_cmp a f.0 ≡ Less
among key a [] f fs all is = absurd cc
among key a (e ∷ es) f fs all is =
    elim (is_lt (row_cmp key e.0)) as (λ b. cond b (e ∷ rows_behind (Some key) es) (rows_behind (Some key) es) ≡ f ∷ fs → row_cmp a f.0 ≡ Less) [
      | true ↦ λ n. let same : e ≡ f = cc in ap (λ (x : (ℕ × ℕ) × RowSeen). row_cmp a x.0) (sym same) ∙ all.0
      | false ↦ λ n. among key a es f fs all.1 n
    ] is

rest_behind : (key : ℕ × ℕ) (es : Rows) (f : (ℕ × ℕ) × RowSeen) (fs : Rows) → AreInOrder es → rows_behind (Some key) es ≡ f ∷ fs → fs ≡ rows_behind (Some f.0) es
rest_behind key [] f fs sorted is = absurd cc
rest_behind key (e ∷ es) f fs sorted is =
    let rest = rows_behind (Some key) es in
    let after = sorted_head row_cmp e.0 (keys_of es) sorted in
    elim (is_lt (row_cmp key e.0)) as (λ b. is_lt (row_cmp key e.0) ≡ b → cond b (e ∷ rest) rest ≡ f ∷ fs → fs ≡ rows_behind (Some f.0) (e ∷ es)) [
      | true ↦ λ t n.
          let same : e ≡ f = cc in
          let tail : rest ≡ fs = cc in
          sym tail ∙ (all_behind key es (before_on key e.0 es (less_of (row_cmp key e.0) t) after) ∙ (sym (itself_not e es sorted) ∙ ap (λ (x : (ℕ × ℕ) × RowSeen). rows_behind (Some x.0) (e ∷ es)) same))
      | false ↦ λ t n.
          let over : is_lt (row_cmp f.0 e.0) ≡ false = ap is_lt (rows_total.antisymm f.0 e.0 ∙ ap ordering_reverse (among key e.0 es f fs after n)) in
          rest_behind key es f fs (sorted_tail row_cmp e.0 (keys_of es) sorted) n ∙ sym (ap (λ b. cond b (e ∷ rows_behind (Some f.0) es) (rows_behind (Some f.0) es)) over)
    ] refl is

rest_of : (after : Option (ℕ × ℕ)) (rows : Rows) (f : (ℕ × ℕ) × RowSeen) (fs : Rows) → AreInOrder rows → rows_behind after rows ≡ f ∷ fs → fs ≡ rows_behind (Some f.0) rows
rest_of None rows f fs sorted is =
    sym (ap (rows_behind (Some f.0)) is ∙ itself_not f fs (let P = λ (x : Rows). AreInOrder x in subst P is sorted))
rest_of (Some key) rows f fs sorted is = rest_behind key rows f fs sorted is

-- a row of the list is the one that is found under its key
found_before : (key a : ℕ × ℕ) (rows : Rows) → key ≡ a → IsBefore a rows → lookup (is_at (row_cmp key)) rows ≡ None
found_before key a [] same all = refl
found_before key a (e ∷ es) same all = ap (λ o. cond (is_eq o) (Some e.1) (lookup (is_at (row_cmp key)) es)) (ap (λ k. row_cmp k e.0) same ∙ all.0) ∙ found_before key a es same all.1

pub none_twice : (e : (ℕ × ℕ) × RowSeen) (es : Rows) → AreInOrder (e ∷ es) → row_of e.0.0 e.0.1 es ≡ None
none_twice e es sorted = found_before (e.0.0, e.0.1) e.0 es refl (sorted_head row_cmp e.0 (keys_of es) sorted)

pub found_first : (e : (ℕ × ℕ) × RowSeen) (es : Rows) → row_of e.0.0 e.0.1 (e ∷ es) ≡ Some e.1
found_first e es = ap (λ o. cond (is_eq o) (Some e.1) (row_of e.0.0 e.0.1 es)) (tied_itself rows_total e.0)

not_first : (key a : ℕ × ℕ) → row_cmp a key ≡ Less → is_eq (row_cmp key a) ≡ false
not_first key a less = ap is_eq (rows_total.antisymm key a ∙ ap ordering_reverse less)

found_behind : (after : Option (ℕ × ℕ)) (rows : Rows) (f : (ℕ × ℕ) × RowSeen) (fs : Rows) → AreInOrder rows → rows_behind after rows ≡ f ∷ fs → row_of f.0.0 f.0.1 rows ≡ Some f.1
found_behind None rows f fs sorted is = ap (row_of f.0.0 f.0.1) is ∙ found_first f fs
found_behind (Some key) [] f fs sorted is = absurd cc
found_behind (Some key) (e ∷ es) f fs sorted is =
    let rest = rows_behind (Some key) es in
    let after = sorted_head row_cmp e.0 (keys_of es) sorted in
    elim (is_lt (row_cmp key e.0)) as (λ b. cond b (e ∷ rest) rest ≡ f ∷ fs → row_of f.0.0 f.0.1 (e ∷ es) ≡ Some f.1) [
      | true ↦ λ n. let same : e ≡ f = cc in let P = λ (x : (ℕ × ℕ) × RowSeen). row_of x.0.0 x.0.1 (e ∷ es) ≡ Some x.1 in subst P same (found_first e es)
      | false ↦ λ n.
          ap (λ b. cond b (Some e.1) (row_of f.0.0 f.0.1 es)) (not_first f.0 e.0 (among key e.0 es f fs after n))
          ∙ found_behind (Some key) es f fs (sorted_tail row_cmp e.0 (keys_of es) sorted) n
    ] is

first_is : (xs : Rows) (e : (ℕ × ℕ) × RowSeen) → Some e ≡ slice_get xs 0 → (rest : Rows) × (xs ≡ e ∷ rest)
first_is [] e h = absurd cc
first_is (x ∷ xs) e h = (xs, let same : x ≡ e = cc in ap (λ y. y ∷ xs) same)

-- the first row behind one, and those behind it
pub next_is : (after : Option (ℕ × ℕ)) (rows : Rows) (a r : ℕ) (row : RowSeen) → AreInOrder rows → Some ((a, r), row) ≡ slice_get (rows_behind after rows) 0
    → rows_behind after rows ≡ ((a, r), row_at a r rows) ∷ rows_behind (Some (a, r)) rows
next_is after rows a r row sorted h =
    let found = first_is (rows_behind after rows) ((a, r), row) h in
    let there : row_at a r rows ≡ row = ap (λ o. unwrap_or o no_row) (found_behind after rows ((a, r), row) found.0 sorted found.1) in
    found.1 ∙ (ap (λ (x : RowSeen). ((a, r), x) ∷ found.0) (sym there) ∙ ap (λ xs. ((a, r), row_at a r rows) ∷ xs) (rest_of after rows ((a, r), row) found.0 sorted found.1))

pub next_pages : (after : Option (ℕ × ℕ)) (rows : Rows) (a r : ℕ) (row : RowSeen) → AreInOrder rows → Some ((a, r), row) ≡ slice_get (rows_behind after rows) 0 → length row.pages ≡ length (pages_at a r rows)
next_pages after rows a r row sorted h =
    let found = first_is (rows_behind after rows) ((a, r), row) h in
    ap (λ (x : RowSeen). length x.pages) (sym (ap (λ o. unwrap_or o no_row) (found_behind after rows ((a, r), row) found.0 sorted found.1)))

pub none_behind : (xs : Rows) → None ≡ slice_get xs 0 → xs ≡ []
none_behind [] h = refl
none_behind (x ∷ xs) h = absurd cc
