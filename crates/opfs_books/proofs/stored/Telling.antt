-- What a call spells is what the machine stores.
use Rattle.std.proofs.Common.{◌≡◌, ℕ, Bool, true, false, not, ◌&&◌, List, [], ◌∷◌, ◌++◌, length, Option, Some, None, option_map, refl, sym, ap, ◌∙◌}
use Rattle.std.specs.Prelude.{if◌then◌else◌}
use Rattle.opfs_base.specs.Places.{Place, place_of, child}
use Rattle.opfs_base.specs.Texts.{Text}
use Rattle.opfs_base.specs.Units.{unit_of}
use Rattle.opfs_base.specs.declared.extents.Extent.{Extent}
use Rattle.opfs_base.specs.declared.locator.Kind.{Kind}
use Rattle.opfs_base.specs.declared.locator.Kind.TheVariants as kind
use Rattle.opfs_state_rows.specs.Changes.Asking.{root_in, made_at, where_free, free_in}
use Rattle.opfs_codec.specs.declared.change.Change.TheVariants.{Persist}
use Rattle.opfs_commit.specs.Making.{told_as}
use Rattle.opfs_hist.specs.declared.op.Op.{Op}
use Rattle.opfs_hist.specs.declared.op.Op.TheVariants as op
use Rattle.opfs_laws.specs.Lengths.Kept.{Kept}
use Rattle.opfs_laws.specs.Lengths.Outlines.{on_file, on_row, in_lengths_of}
use Rattle.opfs_laws.proofs.lengths.Instance.{lengths-fit}
use Rattle.opfs_laws.proofs.lengths.Readers.{agent-on, key-on, row-at-on, row-on, file-on, stream-on, handle-on}
use Rattle.opfs_locks.specs.declared.Want.TheVariants as want
use Rattle.opfs_machine.specs.declared.own.HandleOutline.{HandleOutline}
use Rattle.opfs_machine.specs.declared.own.Outline.TheVariants as outline
use Rattle.opfs_machine.specs.declared.own.Own.{Own}
use Rattle.opfs_machine.specs.declared.own.Own.TheVariants as own
use Rattle.opfs_machine.specs.declared.state.FileRow.{FileRow as File}
use Rattle.opfs_machine.specs.declared.state.Row.{Row as Line}
use Rattle.opfs_machine.specs.declared.state.Sizes.{Sizes}
use Rattle.opfs_machine.specs.declared.state.State.{State}
use Rattle.opfs_machine.specs.Agents.{agent_of, own_of, open_handle, of_row, stream_in}
use Rattle.opfs_machine.specs.Changes.{Change, make_root, make_directory, content, persist, where_missing, root_made, stream_stored, file_stored, handle_stored, mode_changed, stored_by}
use Rattle.opfs_machine.specs.Contents.{in_bytes, in_lengths, outline_of}
use Rattle.opfs_machine.specs.Effects.{moment_of}
use Rattle.opfs_machine.specs.Histories.{evicted_by}
use Rattle.opfs_machine.specs.Rows.{row_at, file_at}
use Rattle.opfs_machine.specs.Rulings.{is_read_write}
use Rattle.opfs_machine.specs.Sums.{is_persistent}
use Rattle.opfs_state_rows.specs.Standing.Seen.{Machine, lines_of}
use Rattle.opfs_state_rows.proofs.standing.Lines.{file_line, file-at}
use Rattle.opfs_tree.specs.Rows.{Rows}
use Rattle.opfs_tree.specs.Rows.{file_at as tree_file_at}
use Rattle.opfs_tree.specs.declared.row.FileRow.{FileRow}
use Rattle.opfs_books.specs.Stored.Spelled.{dir_spelled, row_spelled, made_spelled, content_spelled, stream_spelled, flush_spelled, handle_spelled, mode_spelled, spelled_by, bytes_in, stream_bytes, handle_bytes, bytes_stored, told_list}

-- A file of the tree and one of the machine in bytes are alike.
both : (a : Option FileRow) (b : Option (File Text)) (P : Option FileRow → Option (File Text) → Type 0) → option_map file_line a ≡ option_map (on_file length) b
    → P None None → ((f : FileRow) (g : File Text) → file_line f ≡ on_file length g → P (Some f) (Some g)) → P a b
both None None P h none some = none
both None (Some g) P h none some = absurd (bad (on_file length g) h)
  where
    bad : (x : File ℕ) → ◌≡◌ {A = Option (File ℕ)} None (Some x) → ⊥
    bad x e = cc
both (Some f) None P h none some = absurd (bad (file_line f) h)
  where
    bad : (x : File ℕ) → ◌≡◌ {A = Option (File ℕ)} (Some x) None → ⊥
    bad x e = cc
both (Some f) (Some g) P h none some = some f g (inside (file_line f) (on_file length g) h)
  where
    inside : (x y : File ℕ) → ◌≡◌ {A = Option (File ℕ)} (Some x) (Some y) → x ≡ y
    inside x y e = cc

dir-told : (unit : Text) (path : List Text) (name : Text) → told_as [] (dir_spelled unit (path ++ name ∷ [])) ≡ make_directory (unit, path ++ name ∷ [])
unfolding told_as
dir-told unit [] name = refl
dir-told unit (first ∷ path) name = refl

missing : (x : ℕ) (o : Option (Line Text)) (e : Place × Kind) (change : Change) → told_as [] (row_spelled x e.0 e.1) ≡ change
    → where_missing o change ≡ told_list [] (made_spelled x (where_free (option_map (on_row length) o) e))
missing x None e change h = ap (λ c. c ∷ []) (sym h)
missing x (Some r) e change h = refl

module _ (s : State Text Own) (t : Rows) (k : ℕ) (tied : lines_of t ≡ (in_lengths_of s).rows) (kept : Kept (in_lengths_of s)) where
  abbrev m : Machine
  m = in_lengths_of s

  moment-same : moment_of m k ≡ moment_of s k
  moment-same = ap (λ a. a.moment) (agent-on length outline_of s k)

  pub files-alike : (place : Place) → option_map file_line (tree_file_at place t) ≡ option_map (on_file length) (file_at s place)
  files-alike place = sym (file-at place t) ∙ ap (λ rows. file_at (record m { rows = rows }) place) tied ∙ file-on length outline_of s place

  made : (moment : ℕ) (e : Place × Kind) (change : Change) → told_as [] (row_spelled moment e.0 e.1) ≡ change
      → where_missing (row_at s e.0) change ≡ told_list [] (made_spelled moment (where_free (row_at m e.0) e))
  made moment e change h = missing moment (row_at s e.0) e change h ∙ ap (λ o. told_list [] (made_spelled moment (where_free o e))) (sym (row-on length outline_of s e.0))

  root-told : (moment : ℕ) (bucket : Text) (o : Option Text) → root_made s bucket o ≡ told_list [] (made_spelled moment (free_in m (root_in (option_map (λ origin. unit_of origin bucket) o))))
  unfolding told_as
  root-told moment bucket None = refl
  root-told moment bucket (Some origin) = made moment ((unit_of origin bucket, []), kind.Directory) (make_root (unit_of origin bucket)) refl

  mode-told : (bucket : Text) (grant : Bool) (o : Option Text) → mode_changed s grant bucket o ≡ told_list [] (mode_spelled m grant bucket o)
  unfolding told_as
  mode-told bucket grant None = refl
  mode-told bucket grant (Some origin) =
      elim (grant && not (is_persistent s (unit_of origin bucket))) as (λ b. (if b then persist (unit_of origin bucket) ∷ [] else []) ≡ told_list [] (if b then Some (Persist (unit_of origin bucket)) else None)) [
        | true ↦ refl
        | false ↦ refl
      ]

  stream-told : (n : ℕ) (size : ℕ) (extents : Option (List Extent)) (r : Option Own) → own_of (agent_of m k) n ≡ option_map outline_of r
      → stream_stored (moment_of s k) r ≡ told_list (stream_bytes r) (stream_spelled t size (moment_of s k) extents (of_row (λ x. stream_in (outline_of x)) r))
  unfolding told_as
  stream-told n size extents None is = refl
  stream-told n size extents (Some (own.Stream w)) is =
      let there = kept.files k n (outline.Stream (record { file = w.file; reserve = w.reserve })) w.file want.Shared is refl in
      some_file there.0 (tree_file_at w.file t) (sym (file-at w.file t) ∙ ap (λ rows. file_at (record m { rows = rows }) w.file) tied ∙ there.1)
    where
      some_file : (g : File ℕ) (o : Option FileRow) → option_map file_line o ≡ Some g → content w.file (moment_of s k) w.buffer ∷ [] ≡ told_list w.buffer (content_spelled w.file size (moment_of s k) extents o)
      some_file g None h = cc
      some_file g (Some f) h = refl
  stream-told n size extents (Some own.ClosedStream) is = refl
  stream-told n size extents (Some (own.Handle h)) is = refl
  stream-told n size extents (Some own.ClosedHandle) is = refl
  stream-told n size extents (Some (own.Snapshot b)) is = refl
  stream-told n size extents (Some (own.Iterator i)) is = refl

  handle-told : (extents : Option (List Extent)) (o : Option HandleOutline) → handle_stored s o ≡ told_list (handle_bytes s o) (handle_spelled t extents o)
  unfolding told_as
  handle-told extents None = refl
  handle-told extents (Some h) =
      both (tree_file_at h.file t) (file_at s h.file)
      (λ a b. (elim (is_read_write h.mode) as (λ y. List Change) [ true ↦ file_stored h.file b | false ↦ [] ]) ≡ told_list (bytes_in b) (if is_read_write h.mode then flush_spelled h.file extents a else None))
      (files-alike h.file)
      (elim (is_read_write h.mode) as (λ y. (elim y as (λ z. List Change) [ true ↦ [] | false ↦ [] ]) ≡ told_list [] (if y then None else None)) [ true ↦ refl | false ↦ refl ])
      (λ f g same.
      elim (is_read_write h.mode) as (λ y. (elim y as (λ z. List Change) [ true ↦ content h.file g.stamp g.present ∷ [] | false ↦ [] ])
      ≡ told_list g.present (if y then flush_spelled h.file extents (Some f) else None)) [
        | true ↦ ap (λ (x : ℕ). content h.file x g.present ∷ []) (sym (ap (λ (x : File ℕ). x.stamp) same))
        | false ↦ refl
      ])

  handle-same : (n : ℕ) → open_handle in_lengths m k n ≡ open_handle in_bytes s k n
  handle-same n = handle-on in_bytes in_lengths length outline_of lengths-fit s k n

  flush-told : (n : ℕ) (extents : Option (List Extent)) → handle_stored s (open_handle in_bytes s k n) ≡ told_list (handle_bytes s (open_handle in_bytes s k n)) (handle_spelled t extents (open_handle in_lengths m k n))
  flush-told n extents = handle-told extents (open_handle in_bytes s k n) ∙ ap (λ o. told_list (handle_bytes s (open_handle in_bytes s k n)) (handle_spelled t extents o)) (sym (handle-same n))

  -- Each call tells what it spells.
  pub spelled-told : (o : Op) (z : Sizes) (extents : Option (List Extent)) → evicted_by o ≡ None → stored_by s k o ≡ told_list (bytes_stored s k o) (spelled_by m t k o z extents)
  unfolding stored_by bytes_stored spelled_by made_at told_as
  spelled-told (op.GetDirectory bucket) z extents plain =
      root-told (moment_of m k) bucket (agent_of s k).key
      ∙ ap (λ key. told_list [] (made_spelled (moment_of m k) (free_in m (root_in (option_map (λ origin. unit_of origin bucket) key))))) (sym (key-on length outline_of s k))
  spelled-told (op.GetDirectoryHandle dir name create) z extents plain =
      made (moment_of m k) (child (place_of dir) name, kind.Directory) (make_directory (child (place_of dir) name)) (dir-told dir.key (place_of dir).1 name)
  spelled-told (op.GetFileHandle dir name create) z extents plain =
      let e : Place × Kind = (child (place_of dir) name, kind.File) in
      ap (λ (x : ℕ). where_missing (row_at s e.0) (told_as [] (row_spelled x e.0 e.1))) (sym moment-same)
      ∙ made (moment_of m k) e (told_as [] (row_spelled (moment_of m k) e.0 e.1)) refl
  spelled-told (op.RemoveEntry dir name recursive) z extents plain = refl
  spelled-told (op.Close n) z extents plain =
      stream-told n z.size extents (own_of (agent_of s k) n) (row-at-on length outline_of s k n)
      ∙ (λ i. told_list (stream_bytes (own_of (agent_of s k) n)) (stream_spelled t z.size (sym moment-same i) extents (sym (stream-on in_bytes in_lengths length outline_of lengths-fit s k n) i)))
  spelled-told (op.SyncFlush n) z extents plain = flush-told n extents
  spelled-told (op.SyncClose n) z extents plain = flush-told n extents
  spelled-told (op.Persist bucket) z extents plain =
      mode-told bucket (agent_of s k).grant (agent_of s k).key
      ∙ (λ i. told_list [] (mode_spelled m (sym (ap (λ a. a.grant) (agent-on length outline_of s k)) i) bucket (sym (key-on length outline_of s k) i)))
  spelled-told (op.Evict unit) z extents plain = absurd (bad unit plain)
    where
      bad : (u : Text) → ◌≡◌ {A = Option Text} (Some u) None → ⊥
      bad u e = cc
  spelled-told o z extents plain = refl
