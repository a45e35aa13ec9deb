-- The files of a map are those of the rows that it is made of.
use Rattle.std.proofs.Common.{◌≡◌, ℕ, ◌+◌, List, [], ◌∷◌, refl, sym, ◌∙◌}
use Rattle.std.proofs.lemmas.List.Sums.{sum_by-cons}
use Rattle.std.specs.Prelude.{map, count_by, cond, is_some}
use Rattle.opfs_base.specs.Places.{Place}
use Rattle.opfs_machine.specs.Openings.{Stored}
use Rattle.opfs_tree.specs.Rows.{Rows, file_in}
use Rattle.opfs_tree.specs.declared.row.Row.{Row}
use Rattle.opfs_tree.specs.declared.row.Row.TheVariants as row
use Rattle.opfs_image.specs.Filling.{filled_row}
use Rattle.opfs_migrate.specs.Migrating.{is_document}

same_kind : (base : ℕ) (c : List ℕ) (r : Row) → is_document (filled_row base c r) ≡ is_some (file_in r)
same_kind base c row.Dir = refl
same_kind base c (row.File f) = refl

pub same_count : (base : ℕ) (c : List ℕ) (rows : Rows) → count_by (λ e. is_document e.1) (map {B = Place × Stored} (λ e. (e.0, filled_row base c e.1)) rows) ≡ count_by (λ e. is_some (file_in e.1)) rows
same_count base c [] = refl
same_count base c (e ∷ rows) =
    let head = same_kind base c e.1 in
    let rest = same_count base c rows in
    sum_by-cons (λ (e : Place × Stored). cond (is_document e.1) 1 0) (e.0, filled_row base c e.1) (map (λ e. (e.0, filled_row base c e.1)) rows)
    ∙ (λ i. cond (head i) 1 0 + rest i)
    ∙ sym (sum_by-cons (λ (e : Place × Row). cond (is_some (file_in e.1)) 1 0) e rows)
