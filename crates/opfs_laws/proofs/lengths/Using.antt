-- The usage of an origin is at most the pool.
use Rattle.std.proofs.Common.{◌≡◌, ◌⊎◌, ℕ, ◌+◌, ◌*◌, ◌≤◌, zero, suc, Bool, true, false, cond, ◌&&◌, List, [], ◌∷◌, sum_by, Some, refl, sym, ap, ◌∙◌, inl, inr, arith}
use Rattle.std.specs.Prelude.{slice_get}
use Rattle.std.specs.Cmp.{first_so, second_so, tied_itself}
use Rattle.std.specs.FinMap.Entries.{find, is_sorted, below_all}
use Rattle.std.specs.Ordering.{is_lt, eq_by_cmp}
use Rattle.std.proofs.lemmas.Bool.{false≢true}
use Rattle.std.proofs.lemmas.List.Sums.{sum_by-cons}
use Rattle.opfs_base.specs.Blocks.{blocks}
use Rattle.opfs_base.specs.Places.{Place, place_cmp}
use Rattle.opfs_base.specs.Texts.{Text, same_text}
use Rattle.opfs_base.specs.Units.{origin_of}
use Rattle.opfs_locks.specs.declared.Want.TheVariants as want
use Rattle.opfs_machine.specs.declared.own.Outline.{Outline}
use Rattle.opfs_machine.specs.declared.own.Outline.TheVariants as outline
use Rattle.opfs_machine.specs.declared.state.FileRow.{FileRow}
use Rattle.opfs_machine.specs.declared.state.Row.{Row}
use Rattle.opfs_machine.specs.declared.state.Row.TheVariants as row
use Rattle.opfs_machine.specs.declared.state.State.{State}
use Rattle.opfs_machine.specs.Contents.{in_lengths}
use Rattle.opfs_machine.specs.Rows.{Rows, file_at, file_of}
use Rattle.opfs_machine.specs.Rulings.{want_of}
use Rattle.opfs_machine.specs.Sums.{all_own, reserve_of, row_reserve, present_blocks, durable_blocks, usage, pool}
use Rattle.opfs_laws.specs.Covered.{now_of, stored_of}
use Rattle.opfs_laws.specs.Holders.{counts, same_want}
use Rattle.opfs_laws.specs.Whole.{IsInOrder}
use Rattle.opfs_laws.proofs.RowSums.{sum-less}
use Rattle.opfs_laws.proofs.Spots.{place_total, same_place, place_itself}
use Rattle.opfs_laws.specs.Lengths.Kept.{holders_in, writer_kept, kept_at}
use Rattle.opfs_laws.proofs.lengths.Adding.{sum-same}

sum-plus : {X : Type 0} (f g : X → ℕ) (xs : List X) → sum_by (λ x. f x + g x) xs ≡ sum_by f xs + sum_by g xs
sum-plus f g [] = refl
sum-plus f g (x ∷ xs) =
    let whole = sum_by-cons (λ y. f y + g y) x xs in
    let left = sum_by-cons f x xs in
    let right = sum_by-cons g x xs in
    let rest = sum-plus f g xs in
    omega (arith, whole, left, right, rest)

sum-most : {X : Type 0} (f g : X → ℕ) → ((x : X) → f x ≤ g x) → (xs : List X) → sum_by f xs ≤ sum_by g xs
sum-most f g most [] = omega arith
sum-most f g most (x ∷ xs) =
    let left = sum_by-cons f x xs in
    let right = sum_by-cons g x xs in
    let rest = sum-most f g most xs in
    let first = most x in
    omega (arith, left, right, rest, first)

-- Rows in order stand at different places.
lt-apart : (a b : Place) → is_lt (place_cmp a b) ≡ true → eq_by_cmp place_cmp b a ≡ false
lt-apart a b less =
    elim (eq_by_cmp place_cmp b a) as (λ t. eq_by_cmp place_cmp b a ≡ t → t ≡ false) [
      | true ↦ λ is.
          let same : b ≡ a = same_place b a is in
          absurd (false≢true (sym (ap is_lt (tied_itself place_total a)) ∙ ap (λ x. is_lt (place_cmp a x)) (sym same) ∙ less))
      | false ↦ λ is. refl
    ] refl

below-at : (x : Place) (rows : Rows ℕ) (i : ℕ) (e : Place × Row ℕ) → below_all place_cmp x rows ≡ true → slice_get rows i ≡ Some e → is_lt (place_cmp x e.0) ≡ true
below-at x [] i e below is = cc
below-at x (d ∷ rows) zero e below is =
    ap (λ (y : Place × Row ℕ). is_lt (place_cmp x y.0)) (sym (one is)) ∙ first_so (is_lt (place_cmp x d.0)) (below_all place_cmp x rows) below
  where
    one : {a b : Place × Row ℕ} → Some a ≡ Some b → a ≡ b
    one h = cc
below-at x (d ∷ rows) (suc i) e below is = below-at x rows i e (second_so (is_lt (place_cmp x d.0)) (below_all place_cmp x rows) below) is

entry-found : (rows : Rows ℕ) (i : ℕ) (e : Place × Row ℕ) → is_sorted place_cmp rows ≡ true → slice_get rows i ≡ Some e → find place_cmp e.0 rows ≡ Some e.1
entry-found [] i e order is = cc
entry-found (d ∷ rows) zero e order is =
    let same = one is in
    ap (λ (y : Place × Row ℕ). find place_cmp y.0 (d ∷ rows)) (sym same) ∙ ap (λ b. cond b (Some d.1) (find place_cmp d.0 rows)) (place_itself d.0) ∙ ap (λ (y : Place × Row ℕ). Some y.1) same
  where
    one : {a b : Place × Row ℕ} → Some a ≡ Some b → a ≡ b
    one h = cc
entry-found (d ∷ rows) (suc i) e order is =
    let below = first_so (below_all place_cmp d.0 rows) (is_sorted place_cmp rows) order in
    ap (λ b. cond b (Some d.1) (find place_cmp e.0 rows)) (lt-apart d.0 e.0 (below-at d.0 rows i e below is))
    ∙ entry-found rows i e (second_so (below_all place_cmp d.0 rows) (is_sorted place_cmp rows) order) is

-- What one row keeps for the files of all places.
abbrev at_place : Place → Bool → ℕ → Place × Row ℕ → ℕ
at_place p b res e = cond (eq_by_cmp place_cmp e.0 p && b) 1 0 * res

none-times : (res : ℕ) → 0 * res ≡ 0
none-times res = omega arith

none-below : (x p : Place) (b : Bool) (res : ℕ) (rows : Rows ℕ) → x ≡ p → below_all place_cmp x rows ≡ true → sum_by (at_place p b res) rows ≡ 0
none-below x p b res [] same below = refl
none-below x p b res (e ∷ es) same below =
    let less = first_so (is_lt (place_cmp x e.0)) (below_all place_cmp x es) below in
    let rest = none-below x p b res es same (second_so (is_lt (place_cmp x e.0)) (below_all place_cmp x es) below) in
    let apart : eq_by_cmp place_cmp e.0 p ≡ false = ap (eq_by_cmp place_cmp e.0) (sym same) ∙ lt-apart x e.0 less in
    let here : at_place p b res e ≡ 0 = ap (λ t. cond (t && b) 1 0 * res) apart ∙ none-times res in
    let whole = sum_by-cons (at_place p b res) e es in
    omega (arith, whole, here, rest)

at-most : (b : Bool) (res : ℕ) → cond b 1 0 * res ≤ res
at-most true res = omega arith
at-most false res = omega arith

one-place : (p : Place) (b : Bool) (res : ℕ) (rows : Rows ℕ) → is_sorted place_cmp rows ≡ true → sum_by (at_place p b res) rows ≤ res
one-place p b res [] order = omega arith
one-place p b res (e ∷ es) order =
    let whole = sum_by-cons (at_place p b res) e es in
    elim (eq_by_cmp place_cmp e.0 p) as (λ t. eq_by_cmp place_cmp e.0 p ≡ t → sum_by (at_place p b res) (e ∷ es) ≤ res) [
      | true ↦ λ is.
          let rest = none-below e.0 p b res es (same_place e.0 p is) (first_so (below_all place_cmp e.0 es) (is_sorted place_cmp es) order) in
          let here : at_place p b res e ≡ cond b 1 0 * res = ap (λ t. cond (t && b) 1 0 * res) is in
          let most = at-most b res in
          omega (arith, whole, rest, here, most)
      | false ↦ λ is.
          let rest = one-place p b res es (second_so (below_all place_cmp e.0 es) (is_sorted place_cmp es) order) in
          let here : at_place p b res e ≡ 0 = ap (λ t. cond (t && b) 1 0 * res) is ∙ none-times res in
          omega (arith, whole, rest, here)
    ] refl

abbrev handle_kept : Outline → ℕ
handle_kept (outline.Handle h) = h.reserve
handle_kept r = 0

none-all : {X : Type 0} (f : X → ℕ) → ((x : X) → f x ≡ 0) → (xs : List X) → sum_by f xs ≡ 0
none-all f none [] = refl
none-all f none (x ∷ xs) = let whole = sum_by-cons f x xs in let first = none x in let rest = none-all f none xs in omega (arith, whole, first, rest)

stream-none : (p q : Place) (res : ℕ) → counts p want.Exclusive (Some (q, want.Shared)) * res ≡ 0
stream-none p q res =
    elim (eq_by_cmp place_cmp p q) as (λ b. cond (b && false) 1 0 * res ≡ 0) [ true ↦ none-times res | false ↦ none-times res ]

row-most : (r : Outline) (rows : Rows ℕ) → is_sorted place_cmp rows ≡ true → sum_by (λ e. writer_kept e.0 r) rows ≤ handle_kept r
row-most (outline.Handle h) rows order = one-place h.file (same_want want.Exclusive (want_of h.mode)) h.reserve rows order
row-most (outline.Stream w) rows order =
    let none = none-all (λ (e : Place × Row ℕ). writer_kept e.0 (outline.Stream w)) (λ e. stream-none e.0 w.file w.reserve) rows in omega (arith, none)
row-most outline.ClosedStream rows order = let none = none-all (λ (e : Place × Row ℕ). writer_kept e.0 outline.ClosedStream) (λ e. refl) rows in omega (arith, none)
row-most outline.ClosedHandle rows order = let none = none-all (λ (e : Place × Row ℕ). writer_kept e.0 outline.ClosedHandle) (λ e. refl) rows in omega (arith, none)
row-most outline.Snapshot rows order = let none = none-all (λ (e : Place × Row ℕ). writer_kept e.0 outline.Snapshot) (λ e. refl) rows in omega (arith, none)
row-most outline.Iterator rows order = let none = none-all (λ (e : Place × Row ℕ). writer_kept e.0 outline.Iterator) (λ e. refl) rows in omega (arith, none)

-- What is kept for the files of all places, by place and by row.
by-row : (own : List Outline) (rows : Rows ℕ) → sum_by (λ e. sum_by (writer_kept e.0) own) rows ≡ sum_by (λ r. sum_by (λ (e : Place × Row ℕ). writer_kept e.0 r) rows) own
by-row own [] = sym (none-all (λ r. 0) (λ r. refl) own)
by-row own (e ∷ es) =
    let whole = sum_by-cons (λ (x : Place × Row ℕ). sum_by (writer_kept x.0) own) e es in
    let rest = by-row own es in
    let split = sum-same (λ r. sum_by (λ (x : Place × Row ℕ). writer_kept x.0 r) (e ∷ es)) (λ r. writer_kept e.0 r + sum_by (λ (x : Place × Row ℕ). writer_kept x.0 r) es)
    (λ r. sum_by-cons (λ (x : Place × Row ℕ). writer_kept x.0 r) e es) own in
    let both = sum-plus (writer_kept e.0) (λ r. sum_by (λ (x : Place × Row ℕ). writer_kept x.0 r) es) own in
    omega (arith, whole, rest, split, both)

own-most : (origin : Text) (r : Outline) → handle_kept r + row_reserve in_lengths origin r ≤ reserve_of r
unfolding row_reserve
own-most origin (outline.Stream w) =
    elim (same_text origin (origin_of w.file.0)) as (λ b. 0 + cond b w.reserve 0 ≤ w.reserve) [ true ↦ omega arith | false ↦ omega arith ]
own-most origin (outline.Handle h) = omega arith
own-most origin outline.ClosedStream = omega arith
own-most origin outline.ClosedHandle = omega arith
own-most origin outline.Snapshot = omega arith
own-most origin outline.Iterator = omega arith

module _ (m : State ℕ Outline) (order : IsInOrder m.rows)
    (covered : (place : Place) (f : FileRow ℕ) → file_at m place ≡ Some f → (now_of f ≡ stored_of f) ⊎ ((1 ≤ holders_in m place want.Exclusive) × (blocks f.present ≤ kept_at m place))) where
  file-most : (p : Place) (r : Row ℕ) → file_at m p ≡ file_of (Some r) → present_blocks in_lengths r ≤ durable_blocks in_lengths r + kept_at m p
  file-most p row.Directory is = omega arith
  file-most p (row.File f) is = elim (covered p f is) [
    | inl even ↦ let same : blocks f.present ≡ blocks f.durable = ap (λ (c : ℕ × ℕ). blocks c.0) even in omega (arith, same)
    | inr more ↦ let most = more.1 in omega (arith, most)
  ]

  abbrev present_at : Place × Row ℕ → ℕ
  present_at e = present_blocks in_lengths e.1

  abbrev durable_at : Place × Row ℕ → ℕ
  durable_at e = durable_blocks in_lengths e.1

  abbrev held_at : Place × Row ℕ → ℕ
  held_at e = kept_at m e.0

  rows-most : (rows : Rows ℕ) → ((i : ℕ) (e : Place × Row ℕ) → slice_get rows i ≡ Some e → file_at m e.0 ≡ file_of (Some e.1))
      → sum_by present_at rows ≤ sum_by durable_at rows + sum_by held_at rows
  rows-most [] found = omega arith
  rows-most (e ∷ es) found =
      let a = sum_by-cons present_at e es in
      let b = sum_by-cons durable_at e es in
      let c = sum_by-cons held_at e es in
      let first = file-most e.0 e.1 (found 0 e refl) in
      let rest = rows-most es (λ i d is. found (suc i) d is) in
      omega (arith, a, b, c, first, rest)

  pub usage-most : (origin : Text) → usage in_lengths m origin ≤ pool in_lengths m
  usage-most origin =
      let fewer = sum-less present_at (λ e. same_text origin (origin_of e.0.0)) m.rows in
      let rows = rows-most m.rows (λ i e is. ap file_of (entry-found m.rows i e order is)) in
      let exchanged = by-row (all_own m) m.rows in
      let kept = sum-most (λ r. sum_by (λ (e : Place × Row ℕ). writer_kept e.0 r) m.rows) handle_kept (λ r. row-most r m.rows order) (all_own m) in
      let both = sum-plus handle_kept (row_reserve in_lengths origin) (all_own m) in
      let own = sum-most (λ r. handle_kept r + row_reserve in_lengths origin r) reserve_of (own-most origin) (all_own m) in
      omega (arith, fewer, rows, exchanged, kept, both, own)
