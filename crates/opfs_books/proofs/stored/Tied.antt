-- What a call that stores something leaves of the tree is what the machine has then.
use Rattle.std.proofs.Common.{◌≡◌, ℕ, Bool, true, false, not, List, [], filter, Option, Some, None, option_map, refl, sym, ap, ◌∙◌}
use Rattle.std.specs.Prelude.{if◌then◌else◌}
use Rattle.std.specs.FinMap.Entries.{put}
use Rattle.opfs_base.specs.Places.{Place, place_cmp, place_of, child, is_within}
use Rattle.opfs_base.specs.Texts.{Text}
use Rattle.opfs_base.specs.Units.{unit_of}
use Rattle.opfs_base.specs.declared.extents.Extent.{Extent}
use Rattle.opfs_base.specs.declared.locator.Kind.{Kind}
use Rattle.opfs_base.specs.declared.locator.Kind.TheVariants as kind
use Rattle.opfs_state_rows.specs.Changes.Asking.{root_in, made_at, where_free, free_in}
use Rattle.opfs_state_rows.specs.Changes.Changed.{stored_in, flushed_in, grown_by, closed_by, flushed_by, ended_by, tree_by}
use Rattle.opfs_codec.specs.declared.change.Change.{Change as Spelled}
use Rattle.opfs_hist.specs.declared.op.Mode.{Mode}
use Rattle.opfs_hist.specs.declared.op.Op.{Op}
use Rattle.opfs_hist.specs.declared.op.Op.TheVariants as op
use Rattle.opfs_machine.specs.declared.own.HandleOutline.{HandleOutline}
use Rattle.opfs_machine.specs.declared.own.Outline.{Outline}
use Rattle.opfs_machine.specs.declared.own.StreamOutline.{StreamOutline}
use Rattle.opfs_machine.specs.declared.state.Row.{Row as Line}
use Rattle.opfs_machine.specs.declared.state.Sizes.{Sizes}
use Rattle.opfs_machine.specs.Agents.{agent_of, own_of, with_own, open_stream, open_handle, of_row, stream_in}
use Rattle.opfs_machine.specs.Contents.{in_lengths}
use Rattle.opfs_machine.specs.Effects.{moment_of, with_changed, content_of, opens_bucket, closes_stream, flushes, closes_handle, persists, effect}
use Rattle.opfs_machine.specs.Effects.{replaced, flushed}
use Rattle.opfs_machine.specs.Effects.{unlocked as line_unlocked}
use Rattle.opfs_machine.specs.Rows.{with_file, row_at}
use Rattle.opfs_machine.specs.Rows.{change_at as line_change_at}
use Rattle.opfs_machine.specs.Rulings.{is_read_write}
use Rattle.opfs_tree.specs.Ready.Ready.{new_row}
use Rattle.opfs_state_rows.specs.Standing.Seen.{Machine, line_of, lines_of}
use Rattle.opfs_state_rows.proofs.standing.GoneMoves.{lines-without}
use Rattle.opfs_state_rows.proofs.standing.Lines.{lines-changed}
use Rattle.opfs_state_rows.proofs.standing.RowMoves.{lines-put}
use Rattle.opfs_tree.specs.Rows.{Rows, change_at, unlocked}
use Rattle.opfs_books.specs.Stored.Spelled.{spelled_by}

none_spelled : (c : Spelled) → ◌≡◌ {A = Option Spelled} None (Some c) → ⊥
none_spelled c h = cc

module _ (m : Machine) (t : Rows) (k : ℕ) (tied : lines_of t ≡ m.rows) where
  made-tied : (moment : ℕ) (place : Place) (kd : Kind) (r : Line ℕ) → line_of (new_row kd moment) ≡ r → (o : Option (Line ℕ)) → row_at m place ≡ o
      → lines_of (grown_by t moment (where_free o (place, kd))) ≡ (elim o as (λ x. Machine) [ Some old ↦ m | None ↦ record m { rows = put place_cmp place r m.rows } ]).rows
  made-tied moment place kd r same (Some old) is = tied
  made-tied moment place kd r same None is = lines-put place (new_row kd moment) t ∙ (λ i. put place_cmp place (same i) (tied i))

  root-tied : (moment : ℕ) (bucket : Text) (o : Option Text) → lines_of (grown_by t moment (free_in m (root_in (option_map (λ origin. unit_of origin bucket) o)))) ≡ (opens_bucket m bucket o).rows
  root-tied moment bucket None = tied
  root-tied moment bucket (Some origin) = made-tied moment (unit_of origin bucket, []) kind.Directory _ refl (row_at m (unit_of origin bucket, [])) refl

  unlocked-tied : (file : Place) (rows : Rows) → lines_of (change_at file unlocked rows) ≡ line_change_at file line_unlocked (lines_of rows)
  unlocked-tied file rows = lines-changed file unlocked line_unlocked (λ f. refl) rows

  content-is : (r : Option Outline) (size : ℕ) (w : StreamOutline) → of_row stream_in r ≡ Some w → content_of in_lengths r size ≡ size
  content-is None size w h = absurd (bad w h)
    where
      bad : (x : StreamOutline) → ◌≡◌ {A = Option StreamOutline} None (Some x) → ⊥
      bad x e = cc
  content-is (Some r) size w h = refl

  stream-tied : (z : Sizes) (n : ℕ) (extents : Option (List Extent)) (o : Option StreamOutline) → open_stream in_lengths m k n ≡ o
      → lines_of (closed_by t z.size (moment_of m k) extents o) ≡ (closes_stream in_lengths m z k n o).rows
  stream-tied z n extents None is = tied
  stream-tied z n extents (Some w) is =
      unlocked-tied w.file (change_at w.file (stored_in z.size (moment_of m k) extents) t)
      ∙ ap (line_change_at w.file line_unlocked)
      (lines-changed w.file (stored_in z.size (moment_of m k) extents) (replaced z.size (moment_of m k)) (λ f. refl) t
      ∙ (λ i. line_change_at w.file (replaced (sym (content-is (own_of (agent_of m k) n) z.size w is) i) (moment_of m k)) (tied i)))

  written-tied : (mode : Mode) (file : Place) (extents : Option (List Extent))
      → lines_of (if is_read_write mode then change_at file (flushed_in extents) t else t) ≡ (if is_read_write mode then with_file m file flushed else m).rows
  written-tied mode file extents =
      elim (is_read_write mode) as (λ b. lines_of (if b then change_at file (flushed_in extents) t else t) ≡ (if b then with_file m file flushed else m).rows) [
        | true ↦ lines-changed file (flushed_in extents) flushed (λ f. refl) t ∙ ap (line_change_at file flushed) tied
        | false ↦ tied
      ]

  changed-rows : (x : Machine) (n : ℕ) (change : Outline → Outline) → (with_changed x k n change).rows ≡ x.rows
  unfolding with_changed
  changed-rows x n change = by (own_of (agent_of x k) n)
    where
      by : (o : Option Outline) → (elim o as (λ y. Machine) [ Some r ↦ with_own x k n (change r) | None ↦ x ]).rows ≡ x.rows
      by None = refl
      by (Some r) = refl

  flush-tied : (z : Sizes) (n : ℕ) (extents : Option (List Extent)) (o : Option HandleOutline) → lines_of (flushed_by t extents o) ≡ (flushes in_lengths m z k n o).rows
  flush-tied z n extents None = tied
  flush-tied z n extents (Some h) = written-tied h.mode h.file extents ∙ sym (changed-rows _ n _)

  close-tied : (n : ℕ) (extents : Option (List Extent)) (o : Option HandleOutline) → lines_of (ended_by t (flushed_in extents) o) ≡ (closes_handle in_lengths m k n o).rows
  close-tied n extents None = tied
  close-tied n extents (Some h) = unlocked-tied h.file _ ∙ ap (line_change_at h.file line_unlocked) (written-tied h.mode h.file extents)

  persist-tied : (bucket : Text) (grant : Bool) (o : Option Text) → m.rows ≡ (persists m bucket grant o).rows
  persist-tied bucket grant None = refl
  persist-tied bucket true (Some origin) = refl
  persist-tied bucket false (Some origin) = refl

  pub stores-tied : (o : Op) (z : Sizes) (extents : Option (List Extent)) (c : Spelled) → spelled_by m t k o z extents ≡ Some c → lines_of (tree_by m t k o z extents) ≡ (effect in_lengths m z k o).rows
  unfolding spelled_by tree_by made_at effect
  stores-tied (op.GetDirectory bucket) z extents c h = root-tied (moment_of m k) bucket (agent_of m k).key
  stores-tied (op.GetDirectoryHandle dir name create) z extents c h = made-tied (moment_of m k) (child (place_of dir) name) kind.Directory _ refl (row_at m (child (place_of dir) name)) refl
  stores-tied (op.GetFileHandle dir name create) z extents c h = made-tied (moment_of m k) (child (place_of dir) name) kind.File _ refl (row_at m (child (place_of dir) name)) refl
  stores-tied (op.RemoveEntry dir name recursive) z extents c h = lines-without (child (place_of dir) name) t ∙ ap (filter (λ (e : Place × Line ℕ). not (is_within (child (place_of dir) name) e.0))) tied
  stores-tied (op.Close n) z extents c h = stream-tied z n extents (open_stream in_lengths m k n) refl
  stores-tied (op.SyncFlush n) z extents c h = flush-tied z n extents (open_handle in_lengths m k n)
  stores-tied (op.SyncClose n) z extents c h = close-tied n extents (open_handle in_lengths m k n)
  stores-tied (op.Persist bucket) z extents c h = tied ∙ persist-tied bucket (agent_of m k).grant (agent_of m k).key
  stores-tied o z extents c h = absurd (none_spelled c h)
