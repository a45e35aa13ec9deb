-- The lock of a file is the first one at its place: nothing stands below a file.
use Rattle.std.proofs.Common.{◌≡◌, ◌&&◌, ◌||◌, ℕ, Bool, true, false, cond, T, List, [], ◌∷◌, ◌++◌, append_assoc, append-nil, filter, Option, Some, None, is_some, unwrap_or, option_map, refl, sym, ap, ◌∙◌, subst}
use Rattle.std.proofs.lemmas.Cmp.{tied_itself}
use Rattle.std.specs.Cmp.Lexicographic.{same_text as equal_texts, nat_list_eq_equiv}
use Rattle.std.specs.FinMap.Entries.{find, is_sorted, below_all}
use Rattle.std.specs.List.{list_any}
use Rattle.std.specs.Ordering.{is_eq, is_lt, eq_by_cmp, ordering_reverse}
use Rattle.std.specs.declared.cmp.Ordering.{Ordering}
use Rattle.std.specs.declared.cmp.Ordering.TheVariants.{Less, Equal, Greater}
use Rattle.opfs_base.specs.Places.{Place, place_cmp, begins_with, is_within}
use Rattle.opfs_base.specs.Texts.{Text, same_text}
use Rattle.opfs_base.specs.declared.locator.Kind.TheVariants as kind
use Rattle.opfs_laws.proofs.Spots.{place_total, same_place}
use Rattle.opfs_laws.specs.Holders.{IsLockOf}
use Rattle.opfs_laws.specs.Whole.{IsClosed}
use Rattle.opfs_laws.specs.Lengths.Kept.{Kept, holders_in}
use Rattle.opfs_locks.specs.Taking.{Lock, open_lock, is_open}
use Rattle.opfs_locks.specs.declared.LockValue.TheVariants as value
use Rattle.opfs_locks.specs.declared.Want.{Want}
use Rattle.opfs_machine.specs.declared.state.FileRow.{FileRow}
use Rattle.opfs_machine.specs.declared.state.Row.{Row}
use Rattle.opfs_machine.specs.declared.state.Row.TheVariants as row
use Rattle.opfs_machine.specs.Rows.{Rows, row_at, file_at, file_of, kind_of, rows_within, first_locked, taken_lock}
use Rattle.opfs_machine.specs.Rulings.{lock_in}
use Rattle.opfs_state_rows.specs.Standing.Seen.{Machine}

some_is : {A : Type 0} {x y : A} → Some x ≡ Some y → x ≡ y
some_is h = cc

-- What stands below a place stands in a directory.
there-is : {A : Type 0} (o : Option A) → is_some o ≡ true → (x : A) × (o ≡ Some x)
there-is None h = absurd cc
there-is (Some x) h = (x, refl)

module _ (rows : Rows ℕ) (closed : IsClosed rows) (unit : Text) where
  above : (more path : List Text) → is_some (find place_cmp (unit, path ++ more) rows) ≡ true → is_some (find place_cmp (unit, path) rows) ≡ true
  above [] path there = ap (λ (p : List Text). is_some (find place_cmp (unit, p) rows)) (sym (append-nil path)) ∙ there
  above (x ∷ xs) path there =
      let next = there-is (find place_cmp (unit, path ++ x ∷ []) rows) (above xs (path ++ x ∷ []) (ap (λ (p : List Text). is_some (find place_cmp (unit, p) rows)) (append_assoc path (x ∷ []) xs) ∙ there)) in
      ap is_some (closed (unit, path) x next.0 next.1)

  directory-above : (x : Text) (xs path : List Text) → is_some (find place_cmp (unit, path ++ x ∷ xs) rows) ≡ true → find place_cmp (unit, path) rows ≡ Some row.Directory
  directory-above x xs path there =
      let next = there-is (find place_cmp (unit, path ++ x ∷ []) rows) (above xs (path ++ x ∷ []) (ap (λ (p : List Text). is_some (find place_cmp (unit, p) rows)) (append_assoc path (x ∷ []) xs) ∙ there)) in
      closed (unit, path) x next.0 next.1

parts : (a b : Bool) → (a && b) ≡ true → (a ≡ true) × (b ≡ true)
parts true b h = (refl, h)
parts false b h = absurd cc

split : (a b : List Text) → begins_with a b ≡ true → (more : List Text) × (b ≡ a ++ more)
split [] b h = (b, refl)
split (x ∷ a) [] h = absurd cc
split (x ∷ a) (y ∷ b) h =
    let both = parts (same_text x y) (begins_with a b) h in
    let more = split a b both.1 in
    let same : y ≡ x = sym (equal_texts x y (sym both.0)) in
    (more.0, λ i. same i ∷ more.1 i)

begins-itself : (a : List Text) → begins_with a a ≡ true
begins-itself [] = refl
begins-itself (x ∷ a) = ap (λ t. t && begins_with a a) (nat_list_eq_equiv.refl x) ∙ begins-itself a

within-itself : (p : Place) → is_within p p ≡ true
within-itself p = ap (λ t. t && begins_with p.1 p.1) (nat_list_eq_equiv.refl p.0) ∙ begins-itself p.1

-- Each row is found at its place.
abbrev Found : Rows ℕ → Rows ℕ → Type 0
Found whole [] = Unit {0}
Found whole (e ∷ es) = (find place_cmp e.0 whole ≡ Some e.1) × Found whole es

first_of : (a b : Bool) → T (a && b) → T a
first_of true b h = tt
first_of false b h = absurd h

second_of : (a b : Bool) → T (a && b) → T b
second_of true b h = h
second_of false b h = absurd h

behind : (o r : Ordering) → r ≡ ordering_reverse o → T (is_lt o) → is_eq r ≡ false
behind Less r is h = ap is_eq is
behind Equal r is h = absurd h
behind Greater r is h = absurd h

found-more : (e : Place × Row ℕ) (whole es : Rows ℕ) → T (below_all place_cmp e.0 es) → Found whole es → Found (e ∷ whole) es
found-more e whole [] below found = tt
found-more e whole (f ∷ es) below found = (
  ap (λ t. cond t (Some e.1) (find place_cmp f.0 whole)) (behind (place_cmp e.0 f.0) (place_cmp f.0 e.0) (place_total.antisymm f.0 e.0) (first_of (is_lt (place_cmp e.0 f.0)) (below_all place_cmp e.0 es) below)) ∙ found.0,
  found-more e whole es (second_of (is_lt (place_cmp e.0 f.0)) (below_all place_cmp e.0 es) below) found.1,
)

found-each : (es : Rows ℕ) → T (is_sorted place_cmp es) → Found es es
found-each [] sorted = tt
found-each (e ∷ es) sorted = (
  ap (λ o. cond (is_eq o) (Some e.1) (find place_cmp e.0 es)) (tied_itself place_total e.0),
  found-more e es es (first_of (below_all place_cmp e.0 es) (is_sorted place_cmp es) sorted) (found-each es (second_of (below_all place_cmp e.0 es) (is_sorted place_cmp es) sorted)),
)

module _ (rows : Rows ℕ) (closed : IsClosed rows) (place : Place) (f : FileRow ℕ) (here : find place_cmp place rows ≡ Some (row.File f)) where
  below-is : (e : Place × Row ℕ) → find place_cmp e.0 rows ≡ Some e.1 → (more : List Text) → e.0 ≡ (place.0, place.1 ++ more) → e.1 ≡ row.File f
  below-is e found [] is = some_is (sym found ∙ ap (λ q. find place_cmp q rows) (is ∙ ap (λ (p : List Text). (place.0, p)) (append-nil place.1)) ∙ here)
  below-is e found (x ∷ xs) is =
      let dir = directory-above rows closed place.0 x xs place.1 (ap (λ q. is_some (find place_cmp q rows)) (sym is) ∙ ap is_some found) in
      absurd (apart (some_is (sym dir ∙ here)))
    where
      apart : {g : FileRow ℕ} → row.Directory ≡ row.File g → ⊥
      apart h = cc

  -- A row at the file's place or below it is the file.
  row-is : (e : Place × Row ℕ) → find place_cmp e.0 rows ≡ Some e.1 → is_within place e.0 ≡ true → e.1 ≡ row.File f
  row-is e found within =
      let both = parts (same_text place.0 e.0.0) (begins_with place.1 e.0.1) within in
      let more = split place.1 e.0.1 both.1 in
      let unit : e.0.0 ≡ place.0 = sym (equal_texts place.0 e.0.0 (sym both.0)) in
      below-is e found more.0 (λ i. (unit i, more.1 i))

  or-none : (o : Option Lock) (b : Bool) → elim o as (λ x. Option Lock) [ Some lock ↦ Some lock | None ↦ cond b o None ] ≡ o
  or-none (Some lock) b = refl
  or-none None true = refl
  or-none None false = refl

  first-by : (es : Rows ℕ) → Found rows es → first_locked (filter (λ e. is_within place e.0) es) ≡ cond (list_any (λ e. is_within place e.0) es) (taken_lock (row.File f)) None
  first-by [] found = refl
  first-by (e ∷ es) found =
      let rest = first-by es found.1 in
      elim (is_within place e.0) as (λ t. t ≡ is_within place e.0 → first_locked (cond t (e ∷ filter (λ e. is_within place e.0) es) (filter (λ e. is_within place e.0) es)) ≡ cond (t || list_any (λ e. is_within place e.0) es) (taken_lock (row.File f)) None) [
        | true ↦ λ is.
            ap (λ r. elim (taken_lock r) as (λ x. Option Lock) [ Some lock ↦ Some lock | None ↦ first_locked (filter (λ e. is_within place e.0) es) ]) (row-is e found.0 (sym is))
            ∙ ap (λ o. elim (taken_lock (row.File f)) as (λ x. Option Lock) [ Some lock ↦ Some lock | None ↦ o ]) rest
            ∙ or-none (taken_lock (row.File f)) (list_any (λ e. is_within place e.0) es)
        | false ↦ λ is. rest
      ] refl

any-within : (place : Place) (rows : Rows ℕ) (r : Row ℕ) → find place_cmp place rows ≡ Some r → list_any (λ e. is_within place e.0) rows ≡ true
any-within place [] r here = cc
any-within place (e ∷ es) r here =
    elim (eq_by_cmp place_cmp place e.0) as (λ t. t ≡ eq_by_cmp place_cmp place e.0 → cond t (Some e.1) (find place_cmp place es) ≡ Some r → (is_within place e.0 || list_any (λ e. is_within place e.0) es) ≡ true) [
      | true ↦ λ is here. ap (λ t. t || list_any (λ e. is_within place e.0) es) (ap (is_within place) (sym (same_place place e.0 (sym is))) ∙ within-itself place)
      | false ↦ λ is here. or-so (is_within place e.0) (list_any (λ e. is_within place e.0) es) (any-within place es r here)
    ] refl here
  where
    or-so : (a b : Bool) → b ≡ true → (a || b) ≡ true
    or-so true b h = refl
    or-so false b h = h

open-is : (lock : Lock) (count : Want → ℕ) → IsLockOf lock count → unwrap_or (elim (is_open lock.0) as (λ x. Option Lock) [ true ↦ None | false ↦ Some lock ]) open_lock ≡ lock
open-is (value.Free, n) count is = ap (λ (k : ℕ). (value.Free, k)) (sym is.0)
open-is (value.Exclusive, n) count is = refl
open-is (value.Shared, n) count is = refl
open-is (value.ReadOnly, n) count is = refl

told : (b : Bool) → b ≡ true → T b
told true h = tt
told false h = absurd cc

-- The lock of a file, read as the first one at its place.
pub lock-first : (m : Machine) → Kept m → (place : Place) → option_map kind_of (row_at m place) ≡ Some kind.File → unwrap_or (first_locked (rows_within m place)) open_lock ≡ lock_in (file_at m place)
lock-first m kept place is = by (row_at m place) refl is
  where
    by : (o : Option (Row ℕ)) → row_at m place ≡ o → option_map kind_of o ≡ Some kind.File → unwrap_or (first_locked (rows_within m place)) open_lock ≡ lock_in (file_of (row_at m place))
    by None here is = cc
    by (Some row.Directory) here is = cc
    by (Some (row.File f)) here is =
        ap (λ o. unwrap_or o open_lock)
        (first-by m.rows kept.parents place f here m.rows (found-each m.rows (told (is_sorted place_cmp m.rows) kept.order))
        ∙ ap (λ t. cond t (taken_lock (row.File f)) None) (any-within place m.rows (row.File f) here))
        ∙ open-is f.lock (holders_in m place) (subst (λ o. IsLockOf (lock_in (file_of o)) (holders_in m place)) here (kept.locks place))
        ∙ sym (ap (λ o. lock_in (file_of o)) here)
