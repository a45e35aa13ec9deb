-- What an image has in the blocks that files name is all that counts of its data.
use Rattle.std.proofs.Common.{◌≡◌, ℕ, ◌+◌, List, [], ◌∷◌, ◌++◌, inl, inr, refl, ap, arith}
use Rattle.std.specs.Prelude.{map, take}
use Rattle.std.specs.List.{flat_map}
use Rattle.opfs_base.specs.Places.{Place}
use Rattle.opfs_base.specs.declared.extents.Extent.{Extent}
use Rattle.opfs_outside.specs.Bytes.{Same}
use Rattle.opfs_outside.specs.Windows.{same_window}
use Rattle.opfs_data.specs.Places.{run_bytes, run_place, run_room}
use Rattle.opfs_machine.specs.Openings.{Stored, document}
use Rattle.opfs_tree.specs.Rows.{Rows, extents_of}
use Rattle.opfs_tree.specs.declared.row.Row.{Row}
use Rattle.opfs_tree.specs.declared.row.Row.TheVariants as row
use Rattle.opfs_records.specs.Replay.Built.{Built, all_extents}
use Rattle.opfs_image.specs.Filling.{filled, filled_row, AreIn, Names}

in_left : (base : ℕ) (xs ys : List Extent) (i : ℕ) → AreIn base xs i → AreIn base (xs ++ ys) i
in_left base [] ys i h = elim h [ ]
in_left base (x ∷ xs) ys i (inl h) = inl h
in_left base (x ∷ xs) ys i (inr h) = inr (in_left base xs ys i h)

in_right : (base : ℕ) (xs ys : List Extent) (i : ℕ) → AreIn base ys i → AreIn base (xs ++ ys) i
in_right base [] ys i h = h
in_right base (x ∷ xs) ys i h = inr (in_right base xs ys i h)

module _ (base : ℕ) (c d : List ℕ) where
  same_runs : (es : List Extent) → Same (AreIn base es) c d → flat_map (run_bytes c base) es ≡ flat_map (run_bytes d base) es
  same_runs [] same = refl
  same_runs (e ∷ es) same =
      let first = same_window c d (run_place base e) (run_room e) (λ k h. same (run_place base e + k) (inl (omega arith, omega (arith, h)))) in
      let rest = same_runs es (λ i h. same i (inr h)) in
      λ i. first i ++ rest i

  same_row : (r : Row) → Same (AreIn base (extents_of r)) c d → filled_row base c r ≡ filled_row base d r
  same_row row.Dir same = refl
  same_row (row.File f) same = ap (λ bytes. document (take f.length bytes) f.stamp) (same_runs f.extents same)

  same_rows : (rows : Rows) → Same (AreIn base (all_extents rows)) c d → map {B = Place × Stored} (λ e. (e.0, filled_row base c e.1)) rows ≡ map {B = Place × Stored} (λ e. (e.0, filled_row base d e.1)) rows
  same_rows [] same = refl
  same_rows (e ∷ rows) same =
      let first = same_row e.1 (λ i h. same i (in_left base (extents_of e.1) (all_extents rows) i h)) in
      let rest = same_rows rows (λ i h. same i (in_right base (extents_of e.1) (all_extents rows) i h)) in
      λ i. (e.0, first i) ∷ rest i

  pub same_filled : (b : Built) → Same (Names base b) c d → filled base c b ≡ filled base d b
  same_filled b same = λ i. record { rows = same_rows b.rows same i; persistent = b.persistent }
