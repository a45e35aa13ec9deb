-- A machine that begins over what was built, in bytes and in lengths.
use Rattle.std.proofs.Common.{◌≡◌, ℕ, ◌*◌, true, false, cond, ◌&&◌, List, [], ◌∷◌, map, length, Option, Some, None, option_map, IsSome, refl, sym, ap, ◌∙◌, arith}
use Rattle.std.specs.FinMap.Entries.{find, is_sorted, below_all}
use Rattle.std.specs.List.{AllByRecursion, flat_map}
use Rattle.std.specs.Ordering.{eq_by_cmp, is_lt}
use Rattle.std.proofs.lemmas.List.{length-append, length-take}
use Rattle.std.proofs.lemmas.List.Sums.{sum_by-cons}
use Rattle.opfs_base.specs.Blocks.{blocks}
use Rattle.opfs_base.specs.Places.{Place, place_cmp, child}
use Rattle.opfs_base.specs.Texts.{Text}
use Rattle.opfs_base.specs.declared.extents.Extent.{Extent}
use Rattle.opfs_data.specs.Places.{bytes_of, run_bytes, run_place, run_room}
use Rattle.opfs_image.specs.Filling.{filled_row}
use Rattle.opfs_laws.specs.Whole.{IsInOrder, IsClosed}
use Rattle.opfs_laws.specs.Lengths.Outlines.{on_entry, on_row, on_agent}
use Rattle.opfs_machine.specs.Contents.{outline_of}
use Rattle.opfs_machine.specs.Openings.{Stored, row_of, agent_begun as begun_agent}
use Rattle.opfs_machine.specs.declared.own.Outline.{Outline}
use Rattle.opfs_machine.specs.declared.state.Agent.{Agent}
use Rattle.opfs_machine.specs.declared.state.Row.{Row as Line}
use Rattle.opfs_machine.specs.declared.state.Row.TheVariants as line
use Rattle.opfs_outside.specs.Windows.{length-window}
use Rattle.opfs_records.specs.Replay.Built.{block_count, IsSoundRow, IsSoundFile}
use Rattle.opfs_register.specs.Seating.{agent_begun}
use Rattle.opfs_register.specs.declared.seat.Who.{Who}
use Rattle.opfs_records.specs.Checkpoint.Written.{stored_row, stored_rows}
use Rattle.opfs_state_rows.specs.Standing.Seen.{line_of, lines_of}
use Rattle.opfs_tree.specs.declared.row.FileRow.{FileRow}
use Rattle.opfs_tree.specs.declared.row.Row.{Row}
use Rattle.opfs_tree.specs.declared.row.Row.TheVariants as row
use Rattle.opfs_tree.specs.Rows.{Rows, row_at}
use Rattle.opfs_tree.specs.Rows.{IsInOrder as StandInOrder, IsClosed as AreClosed}
use Rattle.opfs_books.specs.Openings.Openings.{caller_by}

-- ---- bytes

module _ (base : ℕ) (c : List ℕ) where
  length-runs : (extents : List Extent) → length (flat_map (run_bytes c base) extents) ≡ 4096 * block_count extents
  length-runs [] = refl
  length-runs (e ∷ more) =
      length-append (run_bytes c base e) (flat_map (run_bytes c base) more)
      ∙ omega (arith, length-window c (run_place base e) (run_room e), length-runs more, sum_by-cons (λ (x : Extent). x.count) e more)

  -- A file has as many bytes as its length says, whatever its blocks hold.
  pub length-bytes : (extents : List Extent) (len : ℕ) → block_count extents ≡ blocks len → length (bytes_of c base extents len) ≡ len
  length-bytes extents len whole =
      length-take len (flat_map (run_bytes c base) extents) ∙ omega (arith, length-runs extents, whole)

  -- ---- rows

  file-alike : (size : ℕ) (f : FileRow) → IsSoundFile size f → line_of (row.File f) ≡ on_row length (row_of (filled_row base c (row.File f)))
  file-alike size f sound =
      let size-is = length-bytes f.extents f.length sound.whole in
      λ i. line.File (record {
        present = (sound.present ∙ sym size-is) i;
        stamp = sound.present_stamp i;
        lock = sound.unlocked i;
        durable = sym size-is i;
        durable_stamp = f.stamp;
      })

  pub row-alike : (size : ℕ) (r : Row) → IsSoundRow size r → line_of r ≡ on_row length (row_of (filled_row base c r))
  row-alike size row.Dir sound = refl
  row-alike size (row.File f) sound = file-alike size f sound

  abbrev pub rows_begun : Rows → List (Place × Line Text)
  rows_begun t = map (λ (e : Place × Stored). (e.0, row_of e.1)) (map (λ (e : Place × Row). (e.0, filled_row base c e.1)) t)

  pub rows-alike : (size : ℕ) (t : Rows) → AllByRecursion (λ e. IsSoundRow size e.1) t
      → lines_of t ≡ map (on_entry length) (rows_begun t)
  rows-alike size [] sound = refl
  rows-alike size (e ∷ es) sound = λ i. (e.0, row-alike size e.1 sound.0 i) ∷ rows-alike size es sound.1 i

  -- ---- order and parents

  below-begun : (x : Place) (t : Rows) → below_all place_cmp x (rows_begun t) ≡ below_all place_cmp x t
  below-begun x [] = refl
  below-begun x (e ∷ es) = ap (λ b. is_lt (place_cmp x e.0) && b) (below-begun x es)

  sorted-begun : (t : Rows) → is_sorted place_cmp (rows_begun t) ≡ is_sorted place_cmp t
  sorted-begun [] = refl
  sorted-begun (e ∷ es) = λ i. below-begun e.0 es i && sorted-begun es i

  pub order-begun : (t : Rows) → StandInOrder t → IsInOrder (rows_begun t)
  order-begun t order = sorted-begun t ∙ order

  find-begun : (p : Place) (t : Rows) → find place_cmp p (rows_begun t) ≡ option_map (λ r. row_of (filled_row base c r)) (row_at p t)
  find-begun p [] = refl
  find-begun p (e ∷ es) =
      elim (eq_by_cmp place_cmp p e.0) as (λ b. cond b (Some (row_of (filled_row base c e.1))) (find place_cmp p (rows_begun es)) ≡ option_map (λ r. row_of (filled_row base c r)) (cond b (Some e.1) (row_at p es))) [
        | true ↦ refl
        | false ↦ find-begun p es
      ]

  found : (o : Option Row) (r : Line Text) → option_map (λ x. row_of (filled_row base c x)) o ≡ Some r → IsSome o
  found None r h = absurd (none_some h)
    where
      none_some : ◌≡◌ {A = Option (Line Text)} None (Some r) → ⊥
      none_some e = cc
  found (Some x) r h = refl

  pub closed-begun : (t : Rows) → AreClosed t → IsClosed (rows_begun t)
  closed-begun t closed dir name r is =
      find-begun dir t
      ∙ ap (option_map (λ x. row_of (filled_row base c x))) (closed (child dir name) (found (row_at (child dir name) t) r (sym (find-begun (child dir name) t) ∙ is)) dir name refl)

-- ---- agents

pub agents-alike : (agents : List Who) → map agent_begun agents ≡ map (on_agent outline_of) (map begun_agent (map caller_by agents))
agents-alike [] = refl
agents-alike (w ∷ ws) = ap (λ (xs : List (Agent Outline)). agent_begun w ∷ xs) (agents-alike ws)

pub none-own : (agents : List Who) → flat_map (λ (a : Agent Outline). a.own) (map agent_begun agents) ≡ []
none-own [] = refl
none-own (w ∷ ws) = none-own ws

-- ---- what is stored

stored-file : (size : ℕ) (f : FileRow) → IsSoundFile size f → stored_row (row.File f) ≡ row.File f
stored-file size f sound = λ i. row.File (record f { present = sym sound.present i; present_stamp = sym sound.present_stamp i; lock = sym sound.unlocked i })

stored-alike : (size : ℕ) (r : Row) → IsSoundRow size r → stored_row r ≡ r
stored-alike size row.Dir sound = refl
stored-alike size (row.File f) sound = stored-file size f sound

pub stored-same : (size : ℕ) (t : Rows) → AllByRecursion (λ e. IsSoundRow size e.1) t → stored_rows t ≡ t
stored-same size [] sound = refl
stored-same size (e ∷ es) sound = λ i. (e.0, stored-alike size e.1 sound.0 i) ∷ stored-same size es sound.1 i
