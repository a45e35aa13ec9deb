-- What the tree and the shed read is what the machine has.
use Rattle.std.proofs.Common.{◌≡◌, ℕ, true, false, cond, ◌||◌, [], ◌∷◌, map, filter, Option, Some, None, is_some, option_map, refl, sym, ap, ◌∙◌}
use Rattle.std.specs.List.{list_any}
use Rattle.opfs_base.specs.Places.{Place, is_within, child_name}
use Rattle.opfs_locks.specs.Taking.{Lock}
use Rattle.opfs_machine.specs.declared.state.Row.{Row as Line}
use Rattle.opfs_machine.specs.Rows as machine
use Rattle.opfs_shed.specs.Buckets.{Buckets}
use Rattle.opfs_tree.specs.declared.row.FileRow.{FileRow}
use Rattle.opfs_tree.specs.declared.row.Row.{Row}
use Rattle.opfs_tree.specs.declared.row.Row.TheVariants as row
use Rattle.opfs_tree.specs.Rows as tree
use Rattle.opfs_register.specs.Registers.{Registered}
use Rattle.opfs_state_rows.specs.Standing.Seen.{line_of, lines_of, machine_of}
use Rattle.opfs_state_rows.proofs.standing.Lines.{lines-at, file-at, file_line}

kind_line : (o : Option Row) → option_map tree.kind_of o ≡ option_map machine.kind_of (option_map line_of o)
kind_line None = refl
kind_line (Some row.Dir) = refl
kind_line (Some (row.File f)) = refl

size_line : (o : Option FileRow) → option_map (λ f. f.present) o ≡ option_map (λ f. f.present) (option_map file_line o)
size_line None = refl
size_line (Some f) = refl

taken_line : (r : Row) → tree.taken_lock r ≡ machine.taken_lock (line_of r)
taken_line row.Dir = refl
taken_line (row.File f) = refl

locked_lines : (place : Place) (rows : tree.Rows) → tree.first_taken (tree.rows_within place rows) ≡ machine.first_locked (filter (λ (e : Place × Line ℕ). is_within place e.0) (lines_of rows))
locked_lines place [] = refl
locked_lines place (e ∷ es) =
    elim (is_within place e.0) as (λ t. tree.first_taken (map (λ x. x.1) (cond t (e ∷ filter (λ x. is_within place x.0) es) (filter (λ x. is_within place x.0) es)))
    ≡ machine.first_locked (cond t ((e.0, line_of e.1) ∷ filter (λ (x : Place × Line ℕ). is_within place x.0) (lines_of es)) (filter (λ (x : Place × Line ℕ). is_within place x.0) (lines_of es)))) [
      | true ↦
          ap (λ o. elim o as (λ y. Option Lock) [ Some lock ↦ Some lock | None ↦ tree.first_taken (tree.rows_within place es) ]) (taken_line e.1)
          ∙ ap (λ rest. elim (machine.taken_lock (line_of e.1)) as (λ y. Option Lock) [ Some lock ↦ Some lock | None ↦ rest ]) (locked_lines place es)
      | false ↦ locked_lines place es
    ]

children_lines : (dir : Place) (rows : tree.Rows) → tree.has_children dir rows ≡ list_any (λ (e : Place × Line ℕ). is_some (child_name dir e.0)) (lines_of rows)
children_lines dir [] = refl
children_lines dir (e ∷ es) = ap (λ t. is_some (child_name dir e.0) || t) (children_lines dir es)

module _ (rows : tree.Rows) (buckets : Buckets) (rest : Registered) (place : Place) where
  pub kind-read : option_map tree.kind_of (tree.row_at place rows) ≡ option_map machine.kind_of (machine.row_at (machine_of rows buckets rest) place)
  kind-read = kind_line (tree.row_at place rows) ∙ ap (option_map machine.kind_of) (sym (lines-at place rows))

  pub size-read : option_map (λ f. f.present) (tree.file_at place rows) ≡ option_map (λ f. f.present) (machine.file_at (machine_of rows buckets rest) place)
  size-read = size_line (tree.file_at place rows) ∙ ap (option_map (λ f. f.present)) (sym (file-at place rows))

  pub locked-read : tree.first_taken (tree.rows_within place rows) ≡ machine.first_locked (machine.rows_within (machine_of rows buckets rest) place)
  locked-read = locked_lines place rows

  pub children-read : tree.has_children place rows ≡ machine.has_children (machine_of rows buckets rest) place
  children-read = children_lines place rows
