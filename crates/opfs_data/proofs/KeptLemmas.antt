-- How many pages are kept in all rows.
use Rattle.std.proofs.Common.{◌≡◌, ℕ, ◌+◌, ◌≤◌, List, Option, Some, None, refl, sym, ap, ◌∙◌, arith, is_some, unwrap_or, option_map}
use Rattle.std.specs.Cmp.{IsTotalOrder}
use Rattle.std.specs.List.{count_by}
use Rattle.std.specs.List.Sorted.{IsStrictlySortedBy}
use Rattle.std.specs.Map.{keys_of, set_value, remove_entry}
use Rattle.std.specs.BTreeMap.{is_at, insert_entry}
use Rattle.std.proofs.lemmas.Cmp.{then_total, on_total, nat_cmp_total}
use Rattle.std.proofs.lemmas.Map.Entries.{sum_by-set_value, sum_by-insert_entry, sum_by-remove_entry}
use Rattle.opfs_base.specs.declared.extents.Extent.{Extent}
use Rattle.opfs_data.specs.declared.page.Page.{Page}
use Rattle.opfs_data.specs.Writes.{PageWrite}
use Rattle.opfs_data.specs.Pages.{RowSeen, pages_in, resized, with_writes}
use Rattle.opfs_data.specs.Rows.{Rows, row_cmp, row_of, row_at, no_row, kept_in, kept_count}
use Rattle.opfs_data.proofs.PlacedLemmas.{kept_less, kept_open}

rows_total : IsTotalOrder row_cmp
rows_total = then_total (on_total (λ (p : ℕ × ℕ). p.0) nat_cmp_total) (on_total (λ (p : ℕ × ℕ). p.1) nat_cmp_total)

-- what is written through a row that was found changes the number by that of the row
written_count : (agent row : ℕ) (inner rows new : Rows) (found written : RowSeen) → Some found ≡ row_of agent row inner → inner ≡ rows
    → new ≡ set_value (is_at (row_cmp (agent, row))) inner written → kept_count new + kept_in found ≡ kept_count rows + kept_in written
written_count agent row inner rows new found written is view set =
    ap (λ (es : Rows). kept_count es + kept_in found) set
    ∙ sum_by-set_value kept_in (is_at (row_cmp (agent, row))) inner found written (sym is)
    ∙ ap (λ (es : Rows). kept_count es + kept_in written) view

pub count_changed : (agent row : ℕ) (inner rows new : Rows) (found written : RowSeen) → Some found ≡ row_of agent row inner → inner ≡ rows
    → new ≡ set_value (is_at (row_cmp (agent, row))) inner written → row_at agent row rows ≡ found → row_at agent row new ≡ written
    → kept_count new + kept_in (row_at agent row rows) ≡ kept_count rows + kept_in (row_at agent row new)
count_changed agent row inner rows new found written is view set there after =
    ap (λ (r : RowSeen). kept_count new + kept_in r) there
    ∙ written_count agent row inner rows new found written is view set
    ∙ ap (λ (r : RowSeen). kept_count rows + kept_in r) (sym after)

pub count_same : (agent row : ℕ) (inner rows new : Rows) (found written : RowSeen) → Some found ≡ row_of agent row inner → inner ≡ rows
    → new ≡ set_value (is_at (row_cmp (agent, row))) inner written → written.pages ≡ found.pages → kept_count new ≡ kept_count rows
count_same agent row inner rows new found written is view set same =
    omega (arith, written_count agent row inner rows new found written is view set, ap (λ (ps : List Page). count_by (λ (page : Page). is_some page.kept) ps) same)

pub count_less : (agent row n : ℕ) (inner rows new : Rows) (found written : RowSeen) (ws : List PageWrite) → Some found ≡ row_of agent row inner → inner ≡ rows
    → new ≡ set_value (is_at (row_cmp (agent, row))) inner written → written.pages ≡ with_writes ws (resized n found.pages) → kept_count new ≤ kept_count rows
count_less agent row n inner rows new found written ws is view set pages =
    omega (arith, written_count agent row inner rows new found written is view set, kept_less n found.pages written.pages ws pages)

-- a new row keeps nothing
pub count_open : (agent row : ℕ) (inner rows new : Rows) (made : RowSeen) (extents : List Extent) → inner ≡ rows → row_of agent row rows ≡ None → IsStrictlySortedBy row_cmp (keys_of inner)
    → new ≡ insert_entry row_cmp inner (agent, row) made → made.pages ≡ pages_in extents → kept_count new ≡ kept_count rows
count_open agent row inner rows new made extents view absent ordered is pages =
    let whole : kept_count (insert_entry row_cmp inner (agent, row) made) + unwrap_or (option_map kept_in (row_of agent row inner)) 0 ≡ kept_count inner + kept_in made =
    sum_by-insert_entry kept_in rows_total inner (agent, row) made ordered in
    let none : unwrap_or (option_map kept_in (row_of agent row inner)) 0 ≡ 0 = ap (λ (es : Rows). unwrap_or (option_map kept_in (row_of agent row es)) 0) view ∙ ap (λ (o : Option RowSeen). unwrap_or (option_map kept_in o) 0) absent in
    let nothing : kept_in made ≡ 0 = ap (λ (ps : List Page). count_by (λ (page : Page). is_some page.kept) ps) pages ∙ kept_open extents in
    let first : kept_count new ≡ kept_count (insert_entry row_cmp inner (agent, row) made) = ap (λ (es : Rows). kept_count es) is in
    let last : kept_count inner ≡ kept_count rows = ap (λ (es : Rows). kept_count es) view in
    omega (arith, whole, none, nothing, first, last)

-- a row that goes takes its own with it
kept_or : (o : Option RowSeen) → unwrap_or (option_map kept_in o) 0 ≡ kept_in (unwrap_or o no_row)
kept_or (Some r) = refl
kept_or None = refl

pub count_dropped : (agent row : ℕ) (inner rows new : Rows) → inner ≡ rows → new ≡ remove_entry (is_at (row_cmp (agent, row))) inner → kept_count new + kept_in (row_at agent row rows) ≡ kept_count rows
count_dropped agent row inner rows new view is =
    ap (λ (es : Rows). kept_count es + kept_in (row_at agent row rows)) is
    ∙ ap (λ (es : Rows). kept_count (remove_entry (is_at (row_cmp (agent, row))) inner) + kept_in (row_at agent row es)) (sym view)
    ∙ ap (λ (n : ℕ). kept_count (remove_entry (is_at (row_cmp (agent, row))) inner) + n) (sym (kept_or (row_of agent row inner)))
    ∙ sum_by-remove_entry kept_in (is_at (row_cmp (agent, row))) inner
    ∙ ap (λ (es : Rows). kept_count es) view
