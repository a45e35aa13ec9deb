-- A walk over the open rows that looks for one.
use Rattle.std.proofs.Common.{◌≡◌, ℕ, Bool, true, false, cond, ◌||◌, [], ◌∷◌, Option, Some, None, is_some, refl, sym, ap, subst, ◌∙◌}
use Rattle.std.specs.BTreeMap.{is_at}
use Rattle.std.specs.Option.{IfSome, IfNone}
use Rattle.std.specs.Ordering.{is_lt}
use Rattle.opfs_base.specs.Places.{Place}
use Rattle.opfs_data.specs.Pages.{RowSeen}
use Rattle.opfs_data.proofs.Behind.{found_first}
use Rattle.opfs_data.specs.Rows.{Rows, row_at, row_cmp, row_of, rows_behind}
use Rattle.opfs_desk_bytes.specs.Reading.Files.{has_writer, is_writer}
use Rattle.opfs_state_rows.specs.Standing.Seen.{Machine}

-- The row that comes next and those behind it; none where none comes.
abbrev pub rest_rows : Option (ℕ × ℕ × ℕ) → Rows → Rows
rest_rows None rows = []
rest_rows (Some r) rows = ((r.0, r.1), row_at r.0 r.1 rows) ∷ rows_behind (Some (r.0, r.1)) rows

-- What the next call tells is the rest.
pub rest-is : (after : Option (ℕ × ℕ)) (next : Option (ℕ × ℕ × ℕ)) (rows : Rows) → IfNone next (rows_behind after rows ≡ [])
    → IfSome next (λ r. rows_behind after rows ≡ ((r.0, r.1), row_at r.0 r.1 rows) ∷ rows_behind (Some (r.0, r.1)) rows) → rows_behind after rows ≡ rest_rows next rows
rest-is after None rows none some = none
rest-is after (Some r) rows none some = some

-- Nothing was found in the row that comes.
pub not-here : (m : Machine) (place : Place) (r : ℕ × ℕ × ℕ) (rows : Rows) → is_writer m place (r.0, r.1) ≡ false → has_writer m place (rest_rows (Some r) rows) ≡ has_writer m place (rows_behind (Some (r.0, r.1)) rows)
not-here m place r rows is = ap (λ b. b || has_writer m place (rows_behind (Some (r.0, r.1)) rows)) is

-- ---- the row that comes is there

here : (e : (ℕ × ℕ) × RowSeen) (es : Rows) → is_some (row_of e.0.0 e.0.1 (e ∷ es)) ≡ true
here e es = ap is_some (found_first e es)

first : {e f : (ℕ × ℕ) × RowSeen} {es fs : Rows} → e ∷ es ≡ f ∷ fs → e ≡ f
first is = cc

both : (b : Bool) (x : RowSeen) (o : Option RowSeen) → is_some o ≡ true → is_some (cond b (Some x) o) ≡ true
both true x o is = refl
both false x o is = is

among : (after : Option (ℕ × ℕ)) (rows : Rows) (f : (ℕ × ℕ) × RowSeen) (fs : Rows) → rows_behind after rows ≡ f ∷ fs → is_some (row_of f.0.0 f.0.1 rows) ≡ true
among None [] f fs is = absurd cc
among None (e ∷ es) f fs is = subst (λ (x : (ℕ × ℕ) × RowSeen). is_some (row_of x.0.0 x.0.1 (e ∷ es)) ≡ true) (first is) (here e es)
among (Some key) [] f fs is = absurd cc
among (Some key) (e ∷ es) f fs is =
    elim (is_lt (row_cmp key e.0)) as (λ b. cond b (e ∷ rows_behind (Some key) es) (rows_behind (Some key) es) ≡ f ∷ fs → is_some (row_of f.0.0 f.0.1 (e ∷ es)) ≡ true) [
      | true ↦ λ head. subst (λ (x : (ℕ × ℕ) × RowSeen). is_some (row_of x.0.0 x.0.1 (e ∷ es)) ≡ true) (first head) (here e es)
      | false ↦ λ later. both (is_at (row_cmp (f.0.0, f.0.1)) e.0) e.1 (row_of f.0.0 f.0.1 es) (among (Some key) es f fs later)
    ] is

abbrev pub IsThere : Option (ℕ × ℕ × ℕ) → Rows → Type 0
IsThere None rows = Unit {0}
IsThere (Some r) rows = is_some (row_of r.0 r.1 rows) ≡ true

pub next-there : (after : Option (ℕ × ℕ)) (next : Option (ℕ × ℕ × ℕ)) (rows : Rows)
    → IfSome next (λ r. rows_behind after rows ≡ ((r.0, r.1), row_at r.0 r.1 rows) ∷ rows_behind (Some (r.0, r.1)) rows) → IsThere next rows
next-there after None rows some = tt
next-there after (Some r) rows some = among after rows ((r.0, r.1), row_at r.0 r.1 rows) (rows_behind (Some (r.0, r.1)) rows) some

-- Nothing was found in this row: what is left says as much as all rows.
pub next-left : (m : Machine) (place : Place) (now : Option (ℕ × ℕ × ℕ)) (a b n : ℕ) (next : Option (ℕ × ℕ × ℕ)) (rows : Rows) → now ≡ Some (a, b, n) → is_writer m place (a, b) ≡ false
    → rows_behind (Some (a, b)) rows ≡ rest_rows next rows → has_writer m place (rest_rows now rows) ≡ has_writer m place rows → has_writer m place (rest_rows next rows) ≡ has_writer m place rows
next-left m place now a b n next rows is none rest left =
    ap (has_writer m place) (sym rest) ∙ sym (not-here m place (a, b, n) rows none) ∙ sym (ap (λ x. has_writer m place (rest_rows x rows)) is) ∙ left
