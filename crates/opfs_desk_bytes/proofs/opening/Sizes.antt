-- A row is opened with as many bytes as its file has.
use Rattle.std.proofs.Common.{◌≡◌, ℕ, true, false, List, length, Option, Some, None, option_map, refl, sym, ap, ◌∙◌}
use Rattle.std.specs.FinMap.Entries.{find}
use Rattle.opfs_base.specs.Blocks.{blocks}
use Rattle.opfs_base.specs.Places.{Place, place_cmp, place_of}
use Rattle.opfs_base.specs.Texts.{Text}
use Rattle.opfs_hist.specs.declared.op.Op.{Op}
use Rattle.opfs_hist.specs.declared.op.Op.TheVariants as op
use Rattle.opfs_laws.specs.Lengths.Outlines.{in_lengths_of, on_file}
use Rattle.opfs_laws.proofs.lengths.Readers.{file-on}
use Rattle.opfs_machine.specs.declared.own.Own.{Own}
use Rattle.opfs_machine.specs.declared.state.FileRow.{FileRow as File}
use Rattle.opfs_machine.specs.declared.state.Row.{Row as Line}
use Rattle.opfs_machine.specs.declared.state.State.{State}
use Rattle.opfs_machine.specs.Contents.{in_bytes, outline_of}
use Rattle.opfs_machine.specs.Replies.{bytes_in, bytes_at}
use Rattle.opfs_machine.specs.Rows.{file_at as file_of_state, file_of}
use Rattle.opfs_machine.specs.Rulings.{size_in}
use Rattle.opfs_state_rows.proofs.standing.Lines.{file-at, file_line}
use Rattle.opfs_state_rows.specs.Standing.Seen.{Machine, lines_of}
use Rattle.opfs_tree.specs.declared.row.FileRow.{FileRow}
use Rattle.opfs_tree.specs.declared.row.Row.{Row}
use Rattle.opfs_tree.specs.Rows.{Rows as Tree, file_at, row_at}
use Rattle.opfs_tree.specs.Rows.{file_of as file_of_row}
use Rattle.opfs_desk_steps.specs.RowLaws.OpenCopies.{opened_reserve}
use Rattle.opfs_desk_steps.specs.RowLaws.Opens.{opens_row, opened_bytes}
use Rattle.opfs_desk_bytes.specs.Opening.Sizes.{present_in, opened_size, kept_blocks}
use Rattle.opfs_desk_bytes.proofs.opening.Words.{file_place}

present-same : (a : Option FileRow) (b : Option (File Text)) → option_map file_line a ≡ option_map (on_file length) b → present_in a ≡ length (bytes_in b)
present-same None None is = refl
present-same None (Some x) is = cc
present-same (Some r) None is = cc
present-same (Some r) (Some x) is = ap present_of is
  where
    present_of : Option (File ℕ) → ℕ
    present_of None = 0
    present_of (Some y) = y.present

size-present : (o : Option (File Text)) → size_in in_bytes o ≡ length (bytes_in o)
size-present None = refl
size-present (Some x) = refl

module _ (s : State Text Own) (m : Machine) (t : Tree) (machine : m ≡ in_lengths_of s) (lines : lines_of t ≡ m.rows) where
  file-size : (place : Place) → present_in (file_at place t) ≡ length (bytes_at s place)
  file-size place =
      present-same (file_at place t) (file_of_state s place)
      (sym (file-at place t) ∙ (ap (λ (rows : List (Place × Line ℕ)). file_of (find place_cmp place rows)) (lines ∙ ap (λ (x : Machine). x.rows) machine) ∙ file-on length outline_of s place))

  pub size-is : (o : Op) → opens_row o ≡ true → opened_size t o ≡ length (opened_bytes s o)
  size-is (op.CreateWritable at true) h = file-size (place_of at)
  size-is (op.CreateWritable at false) h = refl
  size-is (op.CreateSyncAccessHandle at mode) h = file-size (place_of at)
  size-is o h = cc

  pub reserve-is : (o : Op) → opens_row o ≡ true → kept_blocks t o ≡ opened_reserve s o
  reserve-is (op.CreateWritable at true) h = ap blocks (file-size (place_of at) ∙ sym (size-present (file_of_state s (place_of at))))
  reserve-is (op.CreateWritable at false) h = refl
  reserve-is (op.CreateSyncAccessHandle at mode) h = refl
  reserve-is o h = cc

-- A tree with the same file opens with the same.
pub same-size : (t u : Tree) (o : Op) → opens_row o ≡ true → row_at (file_place o) u ≡ row_at (file_place o) t → opened_size u o ≡ opened_size t o
same-size t u (op.CreateWritable at true) h is = ap (λ (x : Option Row). present_in (file_of_row x)) is
same-size t u (op.CreateWritable at false) h is = refl
same-size t u (op.CreateSyncAccessHandle at mode) h is = ap (λ (x : Option Row). present_in (file_of_row x)) is
same-size t u o h is = cc

pub same-kept : (t u : Tree) (o : Op) → opens_row o ≡ true → row_at (file_place o) u ≡ row_at (file_place o) t → kept_blocks u o ≡ kept_blocks t o
same-kept t u (op.CreateWritable at true) h is = ap (λ (x : Option Row). blocks (present_in (file_of_row x))) is
same-kept t u (op.CreateWritable at false) h is = refl
same-kept t u (op.CreateSyncAccessHandle at mode) h is = refl
same-kept t u o h is = cc
