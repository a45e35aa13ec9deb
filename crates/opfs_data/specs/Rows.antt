-- Open rows by their agents and numbers. This project's own.
use Rattle.std.specs.Prelude.{◌≡◌, ℕ, ◌<◌, length, filter, slice_index_or, is_some, count_by, sum_by, unwrap_or, Option, Some, None, List, []}
use Rattle.std.specs.List.Sorted.{IsStrictlySortedBy}
use Rattle.std.specs.Ordering.{nat_cmp, ordering_then, is_lt}
use Rattle.std.specs.declared.cmp.Ordering.{Ordering}
use Rattle.std.specs.Map.{lookup, values_of, keys_of}
use Rattle.std.specs.BTreeMap.{is_at}
use Rattle.opfs_data.specs.declared.page.Page.{Page}
use Rattle.opfs_data.specs.Writes.{PageWrite}
use Rattle.opfs_data.specs.Pages.{RowSeen, blank}

-- the open rows, each under its agent and its number, in this order
abbrev pub Rows : Type 0
Rows = List ((ℕ × ℕ) × RowSeen)

abbrev pub row_cmp : ℕ × ℕ → ℕ × ℕ → Ordering
row_cmp a b = ordering_then (nat_cmp a.0 b.0) (nat_cmp a.1 b.1)

-- the row of an agent; None where there is none
abbrev pub row_of : ℕ → ℕ → Rows → Option RowSeen
row_of agent row rows = lookup (is_at (row_cmp (agent, row))) rows

-- the same; one that is not there has no pages
abbrev pub no_row : RowSeen
no_row = record { pages = []; room = 0; saved = None }

abbrev pub row_at : ℕ → ℕ → Rows → RowSeen
row_at agent row rows = unwrap_or (row_of agent row rows) no_row

abbrev pub pages_at : ℕ → ℕ → Rows → List Page
pages_at agent row rows = (row_at agent row rows).pages

-- a page of a row
abbrev pub page_at : ℕ → ℕ → ℕ → Rows → Page
page_at agent row page rows = slice_index_or (pages_at agent row rows) page blank

-- this row of that agent is another one
abbrev pub IsOther : ℕ → ℕ → ℕ → ℕ → Type 0
IsOther agent row other_agent other_row = (other_agent ≡ agent) × (other_row ≡ row) → ⊥

abbrev pub OthersStay : ℕ → ℕ → Rows → Rows → Type 0
OthersStay agent row old new = (a r : ℕ) → IsOther agent row a r → row_of a r new ≡ row_of a r old

-- each block of the list is that of no page of another row
abbrev pub AreFree : ℕ → ℕ → Rows → List PageWrite → Type 0
AreFree agent row rows writes = (a r : ℕ) → IsOther agent row a r → (k j : ℕ) (d : PageWrite) → k < length writes → j < length (pages_at a r rows)
    → (page_at a r j rows).block ≡ Some (slice_index_or writes k d).block → ⊥

-- how many pages have kept bytes, of a row and of all rows
abbrev pub kept_in : RowSeen → ℕ
kept_in row = count_by (λ page. is_some page.kept) row.pages

abbrev pub kept_count : Rows → ℕ
kept_count rows = sum_by kept_in (values_of rows)

-- the rows stand in the order of their agents and numbers, one at each
abbrev pub AreInOrder : Rows → Type 0
AreInOrder rows = IsStrictlySortedBy row_cmp (keys_of rows)

-- the rows behind one of them in this order, or all of them
abbrev pub rows_behind : Option (ℕ × ℕ) → Rows → Rows
rows_behind None rows = rows
rows_behind (Some key) rows = filter (λ e. is_lt (row_cmp key e.0)) rows
