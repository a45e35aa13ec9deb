-- A change of a file depends on what it does to that file alone.
use Rattle.std.proofs.Common.{◌≡◌, ℕ, true, false, cond, List, [], ◌∷◌, Some, refl, sym, ap, ◌∙◌}
use Rattle.std.specs.FinMap.Entries.{find}
use Rattle.std.specs.Ordering.{eq_by_cmp}
use Rattle.opfs_base.specs.Places.{Place, place_cmp}
use Rattle.opfs_machine.specs.declared.state.FileRow.{FileRow as File}
use Rattle.opfs_machine.specs.declared.state.Row.{Row as Line}
use Rattle.opfs_machine.specs.declared.state.Row.TheVariants as line
use Rattle.opfs_base.specs.declared.extents.Extent.{Extent}
use Rattle.opfs_machine.specs.Effects.{replaced, flushed, undone}
use Rattle.opfs_machine.specs.Rows as machine
use Rattle.opfs_tree.specs.declared.row.FileRow.{FileRow}
use Rattle.opfs_tree.specs.declared.row.Row.{Row}
use Rattle.opfs_tree.specs.declared.row.Row.TheVariants as row
use Rattle.opfs_tree.specs.Rows as tree
use Rattle.opfs_state_rows.specs.Standing.Contents.{showing, flushed_row, undone_row}
use Rattle.opfs_state_rows.specs.Standing.Seen.{Machine}

pub row-change : (place : Place) (g h : FileRow → FileRow) (rows : tree.Rows) → ((f : FileRow) → tree.file_at place rows ≡ Some f → g f ≡ h f) → tree.change_at place g rows ≡ tree.change_at place h rows
row-change place g h [] same = refl
row-change place g h (e ∷ es) same =
    elim (eq_by_cmp place_cmp place e.0) as (λ b. ((f : FileRow) → tree.file_of (cond b (Some e.1) (tree.row_at place es)) ≡ Some f → g f ≡ h f)
    → ◌≡◌ {A = tree.Rows} (elim b as (λ y. tree.Rows) [ true ↦ (e.0, tree.changed_row g e.1) ∷ es | false ↦ e ∷ tree.change_at place g es ]) (elim b as (λ y. tree.Rows) [ true ↦ (e.0, tree.changed_row h e.1) ∷ es | false ↦ e ∷ tree.change_at place h es ])) [
      | true ↦ λ s. ap (λ r. (e.0, r) ∷ es) (here e.1 s)
      | false ↦ λ s. ap (λ xs. e ∷ xs) (row-change place g h es s)
    ] same
  where
    here : (r : Row) → ((f : FileRow) → tree.file_of (Some r) ≡ Some f → g f ≡ h f) → tree.changed_row g r ≡ tree.changed_row h r
    here row.Dir s = refl
    here (row.File f) s = ap row.File (s f refl)

module _ {F : Type 0} (place : Place) (g h : File F → File F) where
  pub line-change : (rows : machine.Rows F) → ((f : File F) → machine.file_of (find place_cmp place rows) ≡ Some f → g f ≡ h f) → machine.change_at place g rows ≡ machine.change_at place h rows
  line-change [] same = refl
  line-change (e ∷ es) same =
      elim (eq_by_cmp place_cmp place e.0) as (λ b. ((f : File F) → machine.file_of (cond b (Some e.1) (find place_cmp place es)) ≡ Some f → g f ≡ h f)
      → ◌≡◌ {A = machine.Rows F} (elim b as (λ y. machine.Rows F) [ true ↦ (e.0, machine.changed_row g e.1) ∷ es | false ↦ e ∷ machine.change_at place g es ]) (elim b as (λ y. machine.Rows F) [ true ↦ (e.0, machine.changed_row h e.1) ∷ es | false ↦ e ∷ machine.change_at place h es ])) [
        | true ↦ λ s. ap (λ r. (e.0, r) ∷ es) (here e.1 s)
        | false ↦ λ s. ap (λ xs. e ∷ xs) (line-change es s)
      ] same
    where
      here : (r : Line F) → ((f : File F) → machine.file_of (Some r) ≡ Some f → g f ≡ h f) → machine.changed_row g r ≡ machine.changed_row h r
      here line.Directory s = refl
      here (line.File f) s = ap line.File (s f refl)

one_file : {X : Type 0} (a b : X) → Some a ≡ Some b → a ≡ b
one_file a b h = cc

pub flushed-machine : (m : Machine) (place : Place) (f : File ℕ) → machine.file_at m place ≡ Some f → machine.with_file m place (replaced f.present f.stamp) ≡ machine.with_file m place flushed
flushed-machine m place f found =
    ap (λ (ls : machine.Rows ℕ). record m { rows = ls })
    (line-change place (replaced f.present f.stamp) flushed m.rows (λ g is. ap (λ (x : File ℕ). record g { present = x.present; stamp = x.stamp; durable = x.present; durable_stamp = x.stamp }) (one_file f g (sym found ∙ is))))

pub undone-machine : (m : Machine) (place : Place) (f : File ℕ) → machine.file_at m place ≡ Some f → machine.with_file m place (showing f.durable f.durable_stamp) ≡ machine.with_file m place undone
undone-machine m place f found =
    ap (λ (ls : machine.Rows ℕ). record m { rows = ls })
    (line-change place (showing f.durable f.durable_stamp) undone m.rows (λ g is. ap (λ (x : File ℕ). record g { present = x.durable; stamp = x.durable_stamp }) (one_file f g (sym found ∙ is))))

pub flushed-tree : (rows : tree.Rows) (place : Place) (f : FileRow) (extents : List Extent) → tree.file_at place rows ≡ Some f → tree.change_at place (tree.stored f.present f.present_stamp extents) rows ≡ tree.change_at place (flushed_row extents) rows
flushed-tree rows place f extents found =
    row-change place (tree.stored f.present f.present_stamp extents) (flushed_row extents) rows
    (λ g is. ap (λ (x : FileRow). record g { length = x.present; stamp = x.present_stamp; present = x.present; present_stamp = x.present_stamp; extents = extents }) (one_file f g (sym found ∙ is)))

pub undone-tree : (rows : tree.Rows) (place : Place) (f : FileRow) → tree.file_at place rows ≡ Some f → tree.change_at place (tree.written f.length f.stamp) rows ≡ tree.change_at place undone_row rows
undone-tree rows place f found =
    row-change place (tree.written f.length f.stamp) undone_row rows (λ g is. ap (λ (x : FileRow). record g { present = x.length; present_stamp = x.stamp }) (one_file f g (sym found ∙ is)))
