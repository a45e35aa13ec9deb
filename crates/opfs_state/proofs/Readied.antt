-- What stands ready for a call.
use Rattle.std.proofs.Common.{◌≡◌, ℕ, Bool, true, false, Option, Some, None, option_map, refl, sym, ap, ◌∙◌, subst}
use Rattle.std.specs.Prelude.{is_some}
use Rattle.opfs_base.specs.Places.{Place, child}
use Rattle.opfs_base.specs.Texts.{Text}
use Rattle.opfs_base.specs.declared.locator.Kind.{Kind}
use Rattle.opfs_laws.proofs.RowsEffect.{child-parent}
use Rattle.opfs_machine.specs.declared.state.Row.{Row as Line}
use Rattle.opfs_machine.specs.declared.state.Row.TheVariants as line
use Rattle.opfs_machine.specs.Rows as machine
use Rattle.opfs_state_rows.proofs.standing.Lines.{lines-at}
use Rattle.opfs_state_rows.specs.Standing.Seen.{Machine, lines_of, line_of}
use Rattle.opfs_tree.specs.declared.row.Row.{Row}
use Rattle.opfs_tree.specs.declared.row.Row.TheVariants as row
use Rattle.opfs_tree.specs.Rows.{Rows, row_at, HasParent}

none-line : (told : Option Kind) (o : Option (Line ℕ)) (b : Bool) → told ≡ option_map machine.kind_of o → b ≡ is_some told → b ≡ false → o ≡ None
none-line None None b is test no_row = refl
none-line None (Some r) b is test no_row = cc
none-line (Some k) o b is test no_row = absurd (true_false (sym test ∙ no_row))
  where
    true_false : true ≡ false → ⊥
    true_false h = cc

none-row : (o : Option Row) → option_map line_of o ≡ None → o ≡ None
none-row None h = refl
none-row (Some r) h = cc

directory-row : (o : Option Row) → option_map line_of o ≡ Some line.Directory → o ≡ Some row.Dir
directory-row None h = cc
directory-row (Some row.Dir) h = refl
directory-row (Some (row.File f)) h = cc

pub free-line : (m : Machine) (place : Place) (told : Option Kind) (b : Bool) → told ≡ option_map machine.kind_of (machine.row_at m place) → b ≡ is_some told → b ≡ false → machine.row_at m place ≡ None
free-line m place told b is test no_row = none-line told (machine.row_at m place) b is test no_row

line-in : (m : Machine) (t : Rows) (place : Place) → m.rows ≡ lines_of t → option_map line_of (row_at place t) ≡ machine.row_at m place
line-in m t place lines = sym (ap (λ (rows : machine.Rows ℕ). machine.row_at (record m { rows = rows }) place) lines ∙ lines-at place t)

pub free-row : (m : Machine) (t : Rows) (place : Place) → m.rows ≡ lines_of t → machine.row_at m place ≡ None → row_at place t ≡ None
free-row m t place lines none = none-row (row_at place t) (line-in m t place lines ∙ none)

pub child-has : (m : Machine) (t : Rows) (dir : Place) (name : Text) → m.rows ≡ lines_of t → machine.row_at m dir ≡ Some line.Directory → HasParent (child dir name) t
child-has m t dir name lines there = λ d n is.
    subst (λ p. row_at p t ≡ Some row.Dir) (child-parent dir d name n is) (directory-row (row_at dir t) (line-in m t dir lines ∙ there))
