-- A file gets other bytes, and its lock stays: its unit alone moves, and its mark stays.
use Rattle.std.proofs.Common.{◌≡◌, ℕ, ◌≤◌, true, false, cond, not, ◌&&◌, ◌||◌, List, [], ◌∷◌, Option, Some, None, is_some, is_none, option_map, refl, sym, ap, subst, ◌∙◌, arith}
use Rattle.std.specs.List.{list_all}
use Rattle.std.specs.Ordering.{eq_by_cmp}
use Rattle.opfs_base.specs.Blocks.{blocks}
use Rattle.opfs_base.specs.Places.{Place, place_cmp}
use Rattle.opfs_base.specs.Texts.{Text, same_text}
use Rattle.opfs_base.specs.Units.{origin_of}
use Rattle.opfs_locks.specs.Taking.{Lock, is_open}
use Rattle.opfs_machine.specs.declared.state.FileRow.{FileRow as File}
use Rattle.opfs_machine.specs.declared.state.Row.{Row as Line}
use Rattle.opfs_machine.specs.declared.state.Row.TheVariants as line
use Rattle.opfs_machine.specs.Contents.{in_lengths}
use Rattle.opfs_machine.specs.Rows.{Rows as Lines}
use Rattle.opfs_machine.specs.Rows.{row_at, file_at, with_file, change_at, changed_row, taken_lock}
use Rattle.opfs_machine.specs.Sums.{usage, is_persistent}
use Rattle.opfs_machine.specs.Victims.{none_taken}
use Rattle.opfs_pool.specs.Shares.{Blocks, share_at}
use Rattle.opfs_shed.specs.Buckets.{Storage, bucket_at, usage_of}
use Rattle.opfs_tree.specs.declared.row.FileRow.{FileRow}
use Rattle.opfs_tree.specs.declared.row.Row.{Row}
use Rattle.opfs_tree.specs.Rows as tree
use Rattle.opfs_register.specs.Registers.{Registered}
use Rattle.opfs_state_rows.specs.Standing.Seen.{Machine, machine_of, lines_of, persistent_in}
use Rattle.opfs_state_rows.specs.Standing.Sums.{clearable}
use Rattle.opfs_state_rows.specs.Standing.Tied.{IsKnown, IsTied}
use Rattle.opfs_state_rows.specs.Standing.Moves.{ShedMoves, PoolMoves}
use Rattle.opfs_state_rows.proofs.standing.Counted.{usage-is}
use Rattle.opfs_state_rows.proofs.standing.FileMoves.{amounts_of, file-moves}
use Rattle.opfs_state_rows.proofs.standing.Gone.{modes-machine}
use Rattle.opfs_state_rows.proofs.standing.Lines.{file_line, file-at, lines-changed, there-at}
use Rattle.opfs_state_rows.proofs.standing.Places.{there-changed}
use Rattle.opfs_state_rows.proofs.standing.TiedMoved.{tied_moved}
use Rattle.opfs_state_rows.proofs.standing.Units.{unit_itself}

-- Locks that stay.
module _ (place : Place) (to : File ℕ → File ℕ) (lock : (f : File ℕ) → (to f).lock ≡ f.lock) where
  same_lock : (r : Line ℕ) → taken_lock (changed_row to r) ≡ taken_lock r
  same_lock line.Directory = refl
  same_lock (line.File f) = ap (λ (l : Lock). elim (is_open l.0) as (λ y. Option Lock) [ true ↦ None | false ↦ Some l ]) (lock f)

  taken-same : (u : Text) (rows : Lines ℕ) → list_all (λ (e : Place × Line ℕ). not (same_text u e.0.0) || is_none (taken_lock e.1)) (change_at place to rows) ≡ list_all (λ (e : Place × Line ℕ). not (same_text u e.0.0) || is_none (taken_lock e.1)) rows
  taken-same u [] = refl
  taken-same u (e ∷ es) =
      let free = λ (x : Place × Line ℕ). not (same_text u x.0.0) || is_none (taken_lock x.1) in
      elim (eq_by_cmp place_cmp place e.0) as (λ b. list_all free (elim b as (λ y. Lines ℕ) [ true ↦ (e.0, changed_row to e.1) ∷ es | false ↦ e ∷ change_at place to es ]) ≡ (free e && list_all free es)) [
        | true ↦ ap (λ o. (not (same_text u e.0.0) || is_none o) && list_all free es) (same_lock e.1)
        | false ↦ ap (λ t. free e && t) (taken-same u es)
      ]

  pub clear-same : (m : Machine) (u : Text) → clearable (with_file m place to) u ≡ clearable m u
  clear-same m u =
      ap (λ t. t && not (is_persistent m u) && none_taken (with_file m place to) u) (there-changed to place (u, []) m.rows)
      ∙ ap (λ t. is_some (row_at m (u, [])) && not (is_persistent m u) && t) (taken-same u m.rows)

some_row : (o : Option Row) (f : FileRow) → tree.file_of o ≡ Some f → is_some o ≡ true
some_row None f h = cc
some_row (Some r) f h = refl

module _ (rows : tree.Rows) (shed : Storage) (pool : Blocks) (rest : Registered) (cost : ℕ) (top : List Text) (unit : Text) (path : List Text) (f : FileRow)
    (tied : IsTied (machine_of rows shed.buckets rest) shed pool cost top) (found : tree.file_at (unit, path) rows ≡ Some f) where
  pub content-known : IsKnown shed pool unit
  content-known = tied.known (unit, path) (there-at (unit, path) rows ∙ some_row (tree.row_at (unit, path) rows) f found)

  abbrev pub m : Machine
  m = machine_of rows shed.buckets rest

  machine-found : file_at m (unit, path) ≡ Some (file_line f)
  machine-found = file-at (unit, path) rows ∙ ap (option_map file_line) found

  here : (k : ℕ) → cond (same_text unit unit) k 0 ≡ k
  here k = ap (λ t. cond t k 0) (unit_itself unit unit refl)

  -- What the file counts as is within what its unit has: it is changed to nothing in thought.
  none : File ℕ → File ℕ
  none g = record g { present = 0; durable = 0 }

  pub content-usage : blocks f.present ≤ (bucket_at shed.buckets unit).usage
  unfolding none
  content-usage =
      let away = file-moves m (unit, path) none (file_line f) machine-found in
      omega (arith, away.usage (same_text unit), tied.usage unit, here (blocks f.present), here (blocks 0))

  pub content-blocks : blocks f.length ≤ (share_at pool.shares unit).blocks
  unfolding none
  content-blocks =
      let away = file-moves m (unit, path) none (file_line f) machine-found in
      omega (arith, away.blocks (same_text unit), tied.blocks unit, here (blocks f.length), here (blocks 0))

  pub content-quota : usage_of (origin_of unit) shed.buckets ≡ usage in_lengths m (origin_of unit)
  content-quota = tied.usages (origin_of unit) ∙ sym (usage-is m (origin_of unit))

  module _ (new : tree.Rows) (shed_after : Storage) (pool_after : Blocks) (change : FileRow → FileRow) (to : File ℕ → File ℕ) (same : (g : FileRow) → file_line (change g) ≡ to (file_line g))
      (is : new ≡ tree.change_at (unit, path) change rows) (modes : persistent_in shed_after.buckets ≡ persistent_in shed.buckets) where
    pub content-machine : machine_of new shed_after.buckets rest ≡ with_file m (unit, path) to
    content-machine = modes-machine new rest shed shed_after modes ∙ ap (λ (ls : Lines ℕ). record m { rows = ls }) (ap lines_of is ∙ lines-changed (unit, path) change to same rows)

    pub content-tied : ((g : File ℕ) → (to g).lock ≡ g.lock) → ShedMoves shed shed_after unit (blocks f.present) (blocks (to (file_line f)).present) → PoolMoves pool pool_after unit (blocks f.length) (blocks (to (file_line f)).durable)
        → (share_at pool_after.shares unit).candidate ≡ (share_at pool.shares unit).candidate → IsTied (machine_of new shed_after.buckets rest) shed_after pool_after cost top
    content-tied lock buckets shares mark =
        subst (λ (x : Machine). IsTied x shed_after pool_after cost top) (sym content-machine)
        (tied_moved m (with_file m (unit, path) to) shed shed_after pool pool_after cost cost top unit (amounts_of (file_line f)) (amounts_of (to (file_line f))) tied content-known
        (file-moves m (unit, path) to (file_line f) machine-found) buckets shares (mark ∙ (tied.marks unit ∙ sym (clear-same (unit, path) to lock m unit))) refl)
