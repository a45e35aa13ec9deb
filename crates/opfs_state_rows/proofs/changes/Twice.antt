-- A file that is changed, and changed again.
use Rattle.std.proofs.Common.{◌≡◌, ℕ, ◌+◌, ◌<◌, ◌≤◌, ◌^◌, ◌++◌, true, false, cond, List, [], ◌∷◌, length, Option, Some, None, option_map, unwrap_or, refl, sym, ap, ◌∙◌, subst, arith}
use Rattle.std.specs.Prelude.{IsSome, IfSome}
use Rattle.std.proofs.lemmas.List.{append-nil}
use Rattle.std.specs.Ordering.{eq_by_cmp}
use Rattle.opfs_base.specs.Blocks.{blocks}
use Rattle.opfs_base.specs.Places.{Place, place_cmp}
use Rattle.opfs_base.specs.declared.extents.Extent.{Extent}
use Rattle.opfs_machine.specs.declared.state.FileRow.{FileRow as File}
use Rattle.opfs_machine.specs.declared.state.Row.{Row as Line}
use Rattle.opfs_machine.specs.declared.state.Row.TheVariants as line
use Rattle.opfs_machine.specs.Effects.{replaced}
use Rattle.opfs_machine.specs.Rows as machine
use Rattle.opfs_state_rows.proofs.standing.Flushed.{row-change}
use Rattle.opfs_state_rows.specs.Standing.Seen.{Machine, lines_of}
use Rattle.opfs_state_rows.proofs.standing.Lines.{file_line, file-at}
use Rattle.opfs_state_rows.specs.Changes.Changed.{stored_in, flushed_in}
use Rattle.opfs_tree.specs.declared.row.FileRow.{FileRow}
use Rattle.opfs_tree.specs.declared.row.Row.{Row}
use Rattle.opfs_tree.specs.declared.row.Row.TheVariants as row
use Rattle.opfs_tree.specs.Rows as tree

pub lines-twice : (place : Place) (f g : File ℕ → File ℕ) (rows : machine.Rows ℕ) → machine.change_at place g (machine.change_at place f rows) ≡ machine.change_at place (λ x. g (f x)) rows
lines-twice place f g [] = refl
lines-twice place f g (e ∷ es) =
    elim (eq_by_cmp place_cmp place e.0) as (λ b. eq_by_cmp place_cmp place e.0 ≡ b
    → machine.change_at place g (elim b as (λ y. machine.Rows ℕ) [ true ↦ (e.0, machine.changed_row f e.1) ∷ es | false ↦ e ∷ machine.change_at place f es ])
    ≡ elim b as (λ y. machine.Rows ℕ) [ true ↦ (e.0, machine.changed_row (λ x. g (f x)) e.1) ∷ es | false ↦ e ∷ machine.change_at place (λ x. g (f x)) es ]) [
      | true ↦ λ is.
          ap (λ b. elim b as (λ y. machine.Rows ℕ) [ true ↦ (e.0, machine.changed_row g (machine.changed_row f e.1)) ∷ es | false ↦ (e.0, machine.changed_row f e.1) ∷ machine.change_at place g es ]) is
          ∙ ap (λ r. (e.0, r) ∷ es) (both e.1)
      | false ↦ λ is.
          ap (λ b. elim b as (λ y. machine.Rows ℕ) [ true ↦ (e.0, machine.changed_row g e.1) ∷ machine.change_at place f es | false ↦ e ∷ machine.change_at place g (machine.change_at place f es) ]) is
          ∙ ap (λ xs. e ∷ xs) (lines-twice place f g es)
    ] refl
  where
    both : (r : Line ℕ) → machine.changed_row g (machine.changed_row f r) ≡ machine.changed_row (λ x. g (f x)) r
    both line.Directory = refl
    both (line.File x) = refl

pub rows-twice : (place : Place) (f g : FileRow → FileRow) (rows : tree.Rows) → tree.change_at place g (tree.change_at place f rows) ≡ tree.change_at place (λ x. g (f x)) rows
rows-twice place f g [] = refl
rows-twice place f g (e ∷ es) =
    elim (eq_by_cmp place_cmp place e.0) as (λ b. eq_by_cmp place_cmp place e.0 ≡ b
    → tree.change_at place g (elim b as (λ y. tree.Rows) [ true ↦ (e.0, tree.changed_row f e.1) ∷ es | false ↦ e ∷ tree.change_at place f es ])
    ≡ elim b as (λ y. tree.Rows) [ true ↦ (e.0, tree.changed_row (λ x. g (f x)) e.1) ∷ es | false ↦ e ∷ tree.change_at place (λ x. g (f x)) es ]) [
      | true ↦ λ is.
          ap (λ b. elim b as (λ y. tree.Rows) [ true ↦ (e.0, tree.changed_row g (tree.changed_row f e.1)) ∷ es | false ↦ (e.0, tree.changed_row f e.1) ∷ tree.change_at place g es ]) is
          ∙ ap (λ r. (e.0, r) ∷ es) (both e.1)
      | false ↦ λ is.
          ap (λ b. elim b as (λ y. tree.Rows) [ true ↦ (e.0, tree.changed_row g e.1) ∷ tree.change_at place f es | false ↦ e ∷ tree.change_at place g (tree.change_at place f es) ]) is
          ∙ ap (λ xs. e ∷ xs) (rows-twice place f g es)
    ] refl
  where
    both : (r : Row) → tree.changed_row g (tree.changed_row f r) ≡ tree.changed_row (λ x. g (f x)) r
    both row.Dir = refl
    both (row.File x) = refl

-- The file at a place that is changed.
pub row-here : (place : Place) (f : FileRow → FileRow) (rows : tree.Rows) → tree.file_at place (tree.change_at place f rows) ≡ option_map f (tree.file_at place rows)
row-here place f [] = refl
row-here place f (e ∷ es) =
    elim (eq_by_cmp place_cmp place e.0) as (λ b. eq_by_cmp place_cmp place e.0 ≡ b
    → tree.file_at place (elim b as (λ y. tree.Rows) [ true ↦ (e.0, tree.changed_row f e.1) ∷ es | false ↦ e ∷ tree.change_at place f es ]) ≡ option_map f (tree.file_of (cond b (Some e.1) (tree.row_at place es)))) [
      | true ↦ λ is. ap (λ b. tree.file_of (cond b (Some (tree.changed_row f e.1)) (tree.row_at place es))) is ∙ here e.1
      | false ↦ λ is. ap (λ b. tree.file_of (cond b (Some e.1) (tree.row_at place (tree.change_at place f es)))) is ∙ row-here place f es
    ] refl
  where
    here : (r : Row) → tree.file_in (tree.changed_row f r) ≡ option_map f (tree.file_in r)
    here row.Dir = refl
    here (row.File x) = refl

pub one-file : (o : Option FileRow) → IsSome o → (f : FileRow) × (o ≡ Some f)
one-file None h = cc
one-file (Some f) h = (f, refl)

pub some-file : {x : FileRow} {o : Option FileRow} → o ≡ Some x → IsSome o
some-file {x} is = subst IsSome (sym is) refl

pub if-file : (P : FileRow → Type 0) (o : Option FileRow) (f : FileRow) → o ≡ Some f → P f → IfSome o P
if-file P o f is h = subst (λ x. IfSome x P) (sym is) h

pub of-file : (P : FileRow → Type 0) (o : Option FileRow) (f : FileRow) → o ≡ Some f → IfSome o P → P f
of-file P o f is h = subst (λ x. IfSome x P) is h

-- Stored twice, the second time in the blocks that it had.
pub stored-again : (place : Place) (size stamp : ℕ) (kept : List Extent) (f : FileRow) (rows : tree.Rows) → tree.file_at place rows ≡ Some f → kept ≡ f.extents
    → tree.change_at place (tree.stored size stamp kept) (tree.change_at place (tree.stored size stamp []) rows) ≡ tree.change_at place (stored_in size stamp None) rows
stored-again place size stamp kept f rows found same =
    rows-twice place (tree.stored size stamp []) (tree.stored size stamp kept) rows
    ∙ row-change place (λ x. tree.stored size stamp kept (tree.stored size stamp [] x)) (stored_in size stamp None) rows
    (λ g is. ap (λ e. tree.stored size stamp e g) (same ∙ ap (λ (x : FileRow). x.extents) (one found is)))
  where
    one : {a b : FileRow} {o : Option FileRow} → o ≡ Some a → o ≡ Some b → a ≡ b
    one p q = cc

pub replaced-again : (m : Machine) (place : Place) (size stamp : ℕ) → machine.with_file (machine.with_file m place (replaced size stamp)) place (replaced size stamp) ≡ machine.with_file m place (replaced size stamp)
replaced-again m place size stamp = ap (λ (rows : machine.Rows ℕ). record m { rows = rows }) (lines-twice place (replaced size stamp) (replaced size stamp) m.rows)

-- A file that is stored as it is read now.
pub flushed-rows : (rows : tree.Rows) (place : Place) (f : FileRow) (extents : Option (List Extent)) → tree.file_at place rows ≡ Some f
    → tree.change_at place (stored_in f.present f.present_stamp extents) rows ≡ tree.change_at place (flushed_in extents) rows
flushed-rows rows place f extents found =
    row-change place (stored_in f.present f.present_stamp extents) (flushed_in extents) rows
    (λ g is. ap (λ (x : FileRow). record g { length = x.present; stamp = x.present_stamp; present = x.present; present_stamp = x.present_stamp; extents = unwrap_or extents g.extents }) (one found is))
  where
    one : {a b : FileRow} {o : Option FileRow} → o ≡ Some a → o ≡ Some b → a ≡ b
    one p q = cc

-- A file of the tree is one of the machine.
pub machine-file : (m : Machine) (t : tree.Rows) (place : Place) (f : FileRow) → m.rows ≡ lines_of t → tree.file_at place t ≡ Some f → machine.file_at m place ≡ Some (file_line f)
machine-file m t place f lines found = ap (λ (rows : machine.Rows ℕ). machine.file_at (record m { rows = rows }) place) lines ∙ file-at place t ∙ ap (option_map file_line) found
