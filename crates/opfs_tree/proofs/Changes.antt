-- A write to the row that a look-up found.
use Rattle.std.proofs.Common.{◌≡◌, Bool, true, false, cond, List, [], ◌∷◌, Option, Some, None, refl, sym, ap, ◌∙◌}
use Rattle.std.specs.Ordering.{is_eq}
use Rattle.std.specs.FinMap.Entries.{find}
use Rattle.std.specs.Map.{lookup, set_value}
use Rattle.std.specs.BTreeMap.{is_at}
use Rattle.opfs_base.specs.Texts.{Text}
use Rattle.opfs_tree.specs.declared.row.FileRow.{FileRow}
use Rattle.opfs_tree.specs.declared.row.Row.{Row}
use Rattle.opfs_tree.specs.Rows.{changed_row}
use Rattle.opfs_tree.specs.Units.{UnitRows, path_cmp, change_in}
use Rattle.opfs_tree.proofs.Maps.{find_lookup}

change_found : (p : List Text) (change : FileRow → FileRow) (es : UnitRows) (r : Row) → Some r ≡ lookup (is_at (path_cmp p)) es → set_value (is_at (path_cmp p)) es (changed_row change r) ≡ change_in p change es
change_found p change [] r h = refl
change_found p change (e ∷ es) r h =
    elim (is_eq (path_cmp p e.0)) as (λ b. Some r ≡ cond b (Some e.1) (lookup (is_at (path_cmp p)) es)
    → cond b ((e.0, changed_row change r) ∷ es) (e ∷ set_value (is_at (path_cmp p)) es (changed_row change r)) ≡ elim b [ true ↦ (e.0, changed_row change e.1) ∷ es | false ↦ e ∷ change_in p change es ]) [
      | true ↦ λ is. let same : r ≡ e.1 = cc in ap (λ x. (e.0, changed_row change x) ∷ es) same
      | false ↦ λ is. ap (λ xs. e ∷ xs) (change_found p change es r is)
    ] h

change_missing : (p : List Text) (change : FileRow → FileRow) (es : UnitRows) → None ≡ lookup (is_at (path_cmp p)) es → es ≡ change_in p change es
change_missing p change [] h = refl
change_missing p change (e ∷ es) h =
    elim (is_eq (path_cmp p e.0)) as (λ b. None ≡ cond b (Some e.1) (lookup (is_at (path_cmp p)) es)
    → e ∷ es ≡ elim b [ true ↦ (e.0, changed_row change e.1) ∷ es | false ↦ e ∷ change_in p change es ]) [
      | true ↦ λ is. cc
      | false ↦ λ is. ap (λ xs. e ∷ xs) (change_missing p change es is)
    ] h

-- The row that was found, among rows that are the same.
pub found_here : (p : List Text) (inner rows : UnitRows) (o : Option Row) → inner ≡ rows → o ≡ lookup (is_at (path_cmp p)) inner → find path_cmp p rows ≡ o
found_here p inner rows o same is = ap (find path_cmp p) (sym same) ∙ (sym (find_lookup path_cmp p inner) ∙ sym is)

-- What is written to it changes the file there.
pub changed_here : (p : List Text) (change : FileRow → FileRow) (inner rows new : UnitRows) (r v : Row) → inner ≡ rows → Some r ≡ lookup (is_at (path_cmp p)) inner
    → new ≡ set_value (is_at (path_cmp p)) inner v → v ≡ changed_row change r → new ≡ change_in p change rows
changed_here p change inner rows new r v same is written value =
    written ∙ (ap (set_value (is_at (path_cmp p)) inner) value ∙ (change_found p change inner r is ∙ ap (change_in p change) same))

-- Where none was found, nothing changes.
pub missing_here : (p : List Text) (change : FileRow → FileRow) (inner rows new : UnitRows) → inner ≡ rows → None ≡ lookup (is_at (path_cmp p)) inner → new ≡ inner → new ≡ change_in p change rows
missing_here p change inner rows new same is kept = kept ∙ (change_missing p change inner is ∙ ap (change_in p change) same)

set_found : {K X : Type 0} (t : K → Bool) (es : List (K × X)) (r v : X) → Some r ≡ lookup t es → lookup t (set_value t es v) ≡ Some v
set_found t [] r v h = cc
set_found t (e ∷ es) r v h =
    elim (t e.0) as (λ b. t e.0 ≡ b → Some r ≡ cond b (Some e.1) (lookup t es) → lookup t (cond b ((e.0, v) ∷ es) (e ∷ set_value t es v)) ≡ Some v) [
      | true ↦ λ at is. ap (λ b. cond b (Some v) (lookup t es)) at
      | false ↦ λ at is. ap (λ b. cond b (Some e.1) (lookup t (set_value t es v))) at ∙ set_found t es r v is
    ] refl h

-- What is written to it is found there.
pub written_here : (p : List Text) (inner new : UnitRows) (r v : Row) → Some r ≡ lookup (is_at (path_cmp p)) inner → new ≡ set_value (is_at (path_cmp p)) inner v → find path_cmp p new ≡ Some v
written_here p inner new r v is written =
    sym (find_lookup path_cmp p new) ∙ (ap (lookup (is_at (path_cmp p))) written ∙ set_found (is_at (path_cmp p)) inner r v is)
