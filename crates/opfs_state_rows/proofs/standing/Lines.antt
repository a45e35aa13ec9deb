-- The rows of the tree and the buckets, read as the machine's.
use Rattle.std.proofs.Common.{◌≡◌, ℕ, Bool, true, false, cond, not, ◌&&◌, ◌||◌, List, [], ◌∷◌, filter, Option, Some, None, is_some, is_none, option_map, unwrap_or, refl, sym, ap, ◌∙◌}
use Rattle.std.specs.FinMap.Entries.{find}
use Rattle.std.specs.List.{list_any, list_all}
use Rattle.std.specs.Map.{keys_of, lookup}
use Rattle.std.specs.Ordering.{eq_by_cmp}
use Rattle.std.specs.Cmp.Lexicographic.{texts_ties}
use Rattle.opfs_base.specs.Places.{Place, place_cmp}
use Rattle.opfs_base.specs.Texts.{Text, same_text}
use Rattle.opfs_locks.specs.Taking.{Lock}
use Rattle.opfs_machine.specs.declared.state.FileRow.{FileRow as File}
use Rattle.opfs_machine.specs.declared.state.Row.{Row as Line}
use Rattle.opfs_machine.specs.declared.state.Row.TheVariants as line
use Rattle.opfs_machine.specs.Rows as machine
use Rattle.opfs_machine.specs.Victims as machine_victims
use Rattle.opfs_shed.specs.declared.shed.Bucket.{Bucket}
use Rattle.opfs_shed.specs.Buckets.{Buckets, is_unit, bucket_at, first_bucket}
use Rattle.opfs_tree.specs.declared.row.FileRow.{FileRow}
use Rattle.opfs_tree.specs.declared.row.Row.{Row}
use Rattle.opfs_tree.specs.declared.row.Row.TheVariants as row
use Rattle.opfs_tree.specs.Rows as tree
use Rattle.opfs_state_rows.specs.Standing.Seen.{line_of, lines_of, persistent_in, machine_of}
use Rattle.opfs_register.specs.Registers.{Registered}
use Rattle.opfs_state_rows.specs.Standing.Sums.{clearable}
use Rattle.opfs_state_rows.proofs.standing.Units.{same_unit}

pub lines-at : (place : Place) (rows : tree.Rows) → find place_cmp place (lines_of rows) ≡ option_map line_of (tree.row_at place rows)
lines-at place [] = refl
lines-at place (e ∷ es) =
    elim (eq_by_cmp place_cmp place e.0) as (λ t. cond t (Some (line_of e.1)) (find place_cmp place (lines_of es)) ≡ option_map line_of (cond t (Some e.1) (tree.row_at place es))) [
      | true ↦ refl
      | false ↦ lines-at place es
    ]

-- The file at a place.
abbrev pub file_line : FileRow → File ℕ
file_line f = record { present = f.present; stamp = f.present_stamp; lock = f.lock; durable = f.length; durable_stamp = f.stamp }

file_lines : (o : Option Row) → machine.file_of (option_map line_of o) ≡ option_map file_line (tree.file_of o)
file_lines None = refl
file_lines (Some row.Dir) = refl
file_lines (Some (row.File f)) = refl

pub file-at : (place : Place) (rows : tree.Rows) → machine.file_of (find place_cmp place (lines_of rows)) ≡ option_map file_line (tree.file_at place rows)
file-at place rows = ap machine.file_of (lines-at place rows) ∙ file_lines (tree.row_at place rows)

pub there-at : (place : Place) (rows : tree.Rows) → is_some (find place_cmp place (lines_of rows)) ≡ is_some (tree.row_at place rows)
there-at place rows = ap is_some (lines-at place rows) ∙ kept (tree.row_at place rows)
  where
    kept : (o : Option Row) → is_some (option_map line_of o) ≡ is_some o
    kept None = refl
    kept (Some r) = refl

-- A change of a file.
pub lines-changed : (place : Place) (change : FileRow → FileRow) (to : File ℕ → File ℕ) → ((f : FileRow) → file_line (change f) ≡ to (file_line f))
    → (rows : tree.Rows) → lines_of (tree.change_at place change rows) ≡ machine.change_at place to (lines_of rows)
lines-changed place change to same [] = refl
lines-changed place change to same (e ∷ es) =
    elim (eq_by_cmp place_cmp place e.0) as (λ t. lines_of (elim t as (λ y. tree.Rows) [ true ↦ (e.0, tree.changed_row change e.1) ∷ es | false ↦ e ∷ tree.change_at place change es ])
    ≡ elim t as (λ y. machine.Rows ℕ) [ true ↦ (e.0, machine.changed_row to (line_of e.1)) ∷ lines_of es | false ↦ (e.0, line_of e.1) ∷ machine.change_at place to (lines_of es) ]) [
      | true ↦ ap (λ r. (e.0, r) ∷ lines_of es) (here e.1)
      | false ↦ ap (λ xs. (e.0, line_of e.1) ∷ xs) (lines-changed place change to same es)
    ]
  where
    here : (r : Row) → line_of (tree.changed_row change r) ≡ machine.changed_row to (line_of r)
    here row.Dir = refl
    here (row.File f) = ap line.File (same f)

-- Taken locks.
taken_line : (r : Row) → machine.taken_lock (line_of r) ≡ tree.taken_lock r
taken_line row.Dir = refl
taken_line (row.File f) = refl

pub none-lines : (u : Text) (rows : tree.Rows) → list_all (λ (e : Place × Line ℕ). not (same_text u e.0.0) || is_none (machine.taken_lock e.1)) (lines_of rows) ≡ tree.none_taken u rows
none-lines u [] = refl
none-lines u (e ∷ es) =
    ap (λ (o : Option Lock). (not (same_text u e.0.0) || is_none o) && list_all (λ (x : Place × Line ℕ). not (same_text u x.0.0) || is_none (machine.taken_lock x.1)) (lines_of es)) (taken_line e.1)
    ∙ ap (λ t. (not (same_text u e.0.0) || is_none (tree.taken_lock e.1)) && t) (none-lines u es)

-- ---- persistent units

any-filter : (u : Text) (f : Text → Bool) (keys : List Text) → list_any (same_text u) (filter f keys) ≡ (f u && list_any (same_text u) keys)
any-filter u f [] = elim (f u) as (λ t. false ≡ (t && false)) [ true ↦ refl | false ↦ refl ]
any-filter u f (k ∷ keys) =
    elim (same_text u k) as (λ t. same_text u k ≡ t → list_any (same_text u) (cond (f k) (k ∷ filter f keys) (filter f keys)) ≡ (f u && (t || list_any (same_text u) keys))) [
      | true ↦ λ is.
          let same : u ≡ k = same_unit u k is in
          ap (λ x. list_any (same_text u) (cond (f x) (k ∷ filter f keys) (filter f keys))) (sym same)
          ∙ (elim (f u) as (λ t. f u ≡ t → list_any (same_text u) (cond t (k ∷ filter f keys) (filter f keys)) ≡ (t && true)) [
            | true ↦ λ yes. ap (λ t. t || list_any (same_text u) (filter f keys)) is
            | false ↦ λ no. any-filter u f keys ∙ ap (λ t. t && list_any (same_text u) keys) no
          ] refl)
      | false ↦ λ is.
          elim (f k) as (λ t. list_any (same_text u) (cond t (k ∷ filter f keys) (filter f keys)) ≡ (f u && list_any (same_text u) keys)) [
            | true ↦ ap (λ t. t || list_any (same_text u) (filter f keys)) is ∙ any-filter u f keys
            | false ↦ any-filter u f keys
          ]
    ] refl

-- A unit without a bucket is best-effort.
pub known_key : {X : Type 0} (u : Text) (es : List (Text × X)) → list_any (same_text u) (keys_of es) ≡ is_some (lookup (is_unit u) es)
known_key u [] = refl
known_key u (e ∷ es) =
    ap (λ t. t || list_any (same_text u) (keys_of es)) (texts_ties u e.0)
    ∙ (elim (is_unit u e.0) as (λ t. (t || list_any (same_text u) (keys_of es)) ≡ is_some (cond t (Some e.1) (lookup (is_unit u) es))) [
      | true ↦ refl
      | false ↦ known_key u es
    ])

mode_there : (o : Option Bucket) → ((unwrap_or o first_bucket).persistent && is_some o) ≡ (unwrap_or o first_bucket).persistent
mode_there None = refl
mode_there (Some b) = elim b.persistent as (λ t. (t && true) ≡ t) [ true ↦ refl | false ↦ refl ]

pub persistent-is : (u : Text) (buckets : Buckets) → list_any (same_text u) (persistent_in buckets) ≡ (bucket_at buckets u).persistent
persistent-is u buckets =
    any-filter u (λ x. (bucket_at buckets x).persistent) (keys_of buckets) ∙ (ap (λ t. (bucket_at buckets u).persistent && t) (known_key u buckets) ∙ mode_there (lookup (is_unit u) buckets))

-- Whether a unit may be cleared.
pub clear-lines : (u : Text) (rows : tree.Rows) (buckets : Buckets) (register : Registered) → clearable (machine_of rows buckets register) u ≡ (is_some (tree.row_at (u, []) rows) && not (bucket_at buckets u).persistent && tree.none_taken u rows)
clear-lines u rows buckets register =
    ap (λ t. t && not (list_any (same_text u) (persistent_in buckets)) && machine_victims.none_taken (machine_of rows buckets register) u) (there-at (u, []) rows)
    ∙ (ap (λ t. is_some (tree.row_at (u, []) rows) && not t && machine_victims.none_taken (machine_of rows buckets register) u) (persistent-is u buckets)
    ∙ ap (λ t. is_some (tree.row_at (u, []) rows) && not (bucket_at buckets u).persistent && t) (none-lines u rows))
