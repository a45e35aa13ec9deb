-- What a call spells makes of the stored rows what the call leaves; and a call that spells nothing leaves them.
use Rattle.std.proofs.Common.{◌≡◌, ℕ, Bool, true, false, not, ◌&&◌, List, [], ◌∷◌, ◌++◌, length, Option, Some, None, is_some, unwrap_or, option_map, Ok, refl, sym, ap, ◌∙◌, subst}
use Rattle.std.specs.Prelude.{if◌then◌else◌, nat_le}
use Rattle.std.specs.FinMap.Entries.{put}
use Rattle.std.specs.Ordering.{nat_cmp}
use Rattle.std.specs.Cmp.Lexicographic.{slice_cmp}
use Rattle.std.proofs.lemmas.Bool.{and_parts, false≢true}
use Rattle.opfs_base.specs.Places.{Place, place_cmp, place_of, child}
use Rattle.opfs_base.specs.Texts.{Text}
use Rattle.opfs_base.specs.Units.{unit_of}
use Rattle.opfs_base.specs.declared.extents.Extent.{Extent}
use Rattle.opfs_base.specs.declared.locator.Kind.{Kind}
use Rattle.opfs_base.specs.declared.locator.Kind.TheVariants as kind
use Rattle.opfs_base.specs.declared.locator.Locator.{Locator}
use Rattle.opfs_state_rows.specs.Changes.Asking.{root_in, made_at, where_free, free_in}
use Rattle.opfs_state_rows.specs.Changes.Changed.{stored_in, flushed_in, grown_by, closed_by, aborted_by, overwritten_by, changed_by, flushed_by, ended_by, tree_by}
use Rattle.opfs_codec.specs.declared.change.Change.{Change as Spelled}
use Rattle.opfs_codec.specs.declared.change.Change.TheVariants.{MakeRoot, MakeDir, MakeFile, Remove, Content, Persist}
use Rattle.opfs_codec.specs.declared.change.Format.TheVariants.{New}
use Rattle.opfs_hist.specs.declared.op.Op.{Op}
use Rattle.opfs_hist.specs.declared.op.Op.TheVariants as op
use Rattle.opfs_laws.proofs.Modes.{insert-same}
use Rattle.opfs_laws.specs.Whole.{is_rising}
use Rattle.opfs_locks.specs.declared.Want.TheVariants as want
use Rattle.opfs_machine.specs.declared.own.HandleOutline.{HandleOutline}
use Rattle.opfs_machine.specs.declared.own.StreamOutline.{StreamOutline}
use Rattle.opfs_machine.specs.declared.state.Need.{Need}
use Rattle.opfs_machine.specs.declared.state.Row.{Row as Line}
use Rattle.opfs_machine.specs.declared.state.Sizes.{Sizes}
use Rattle.opfs_machine.specs.Agents.{agent_of, open_stream, open_handle}
use Rattle.opfs_machine.specs.Contents.{in_lengths}
use Rattle.opfs_machine.specs.Effects.{moment_of, persists, effect}
use Rattle.opfs_machine.specs.Ordered.{insert_by}
use Rattle.opfs_machine.specs.Rows.{is_located, holds_kind, wants}
use Rattle.opfs_machine.specs.Rows.{row_at as machine_row_at}
use Rattle.opfs_machine.specs.Rulings.{ruling, is_read_write, want_of}
use Rattle.opfs_machine.specs.Sums.{is_persistent}
use Rattle.opfs_tree.specs.Ready.Ready.{new_row}
use Rattle.opfs_records.specs.Replay.Applying.{can_apply, can_make, is_directory, applied, tried}
use Rattle.opfs_records.specs.Replay.Applying.{is_root as is_root_path}
use Rattle.opfs_records.specs.Replay.Built.{Built}
use Rattle.opfs_records.proofs.replay.Parents.{can_make_at}
use Rattle.opfs_records.specs.Checkpoint.Written.{stored_file, stored_row, stored_rows}
use Rattle.opfs_records.proofs.checkpoint.StoredRows.{stored_at}
use Rattle.opfs_state_rows.specs.Standing.Contents.{undone_row}
use Rattle.opfs_state_rows.specs.Standing.Seen.{Machine, line_of, lines_of}
use Rattle.opfs_state_rows.proofs.standing.Lines.{lines-at, there-at}
use Rattle.opfs_tree.specs.declared.row.FileRow.{FileRow}
use Rattle.opfs_tree.specs.declared.row.Row.{Row}
use Rattle.opfs_tree.specs.declared.row.Row.TheVariants as row
use Rattle.opfs_tree.specs.Rows.{Rows, row_at, file_at, without, change_at, locked, unlocked, stored}
use Rattle.opfs_books.specs.Stored.Spelled.{dir_spelled, made_spelled, content_spelled, stream_spelled, flush_spelled, handle_spelled, mode_spelled, spelled_by, stored_built, Makes}
use Rattle.opfs_books.proofs.stored.Modes.{is_persist, effect-modes}
use Rattle.opfs_books.proofs.stored.Ruling.{MayMake, may-make, may-remove}
use Rattle.opfs_books.proofs.stored.Stored.{stored-put, stored-without, stored-silent, stored-content, stored-flushed, change-none, file-stored, some-stored}

pub tried-of : (size : ℕ) (b a : Built) (c : Spelled) → can_apply New size b c ≡ true → applied b c ≡ a → tried New size b c ≡ Some a
tried-of size b a c can is = ap (λ (t : Bool). if t then Some (applied b c) else None) can ∙ ap Some is

not_false : (t : Bool) → t ≡ false → not t ≡ true
not_false true h = absurd (false≢true (sym h))
not_false false h = refl

pub and-all : (a b : Bool) → a ≡ true → b ≡ true → (a && b) ≡ true
and-all true b h g = g
and-all false b h g = absurd (false≢true h)

none_is : (o : Option (Line ℕ)) → o ≡ None → is_some o ≡ false
none_is None h = refl
none_is (Some r) h = absurd (bad r h)
  where
    bad : (x : Line ℕ) → ◌≡◌ {A = Option (Line ℕ)} (Some x) None → ⊥
    bad x e = cc

dir-is : (unit : Text) (path : List Text) (name : Text) → dir_spelled unit (path ++ name ∷ []) ≡ MakeDir unit (path ++ name ∷ [])
dir-is unit [] name = refl
dir-is unit (first ∷ path) name = refl

no-root : (path : List Text) (name : Text) → is_root_path (path ++ name ∷ []) ≡ false
no-root [] name = refl
no-root (first ∷ path) name = refl

-- A directory of the machine is one of the stored rows.
directory-line : (o : Option Row) → holds_kind kind.Directory (option_map line_of o) ≡ true → is_directory (option_map stored_row o) ≡ true
directory-line None h = absurd (false≢true h)
directory-line (Some row.Dir) h = refl
directory-line (Some (row.File f)) h = absurd (false≢true h)

module _ (size : ℕ) (m : Machine) (t : Rows) (k : ℕ) (tied : lines_of t ≡ m.rows) where
  abbrev u : List Text
  u = m.persistent

  rows-tied : (place : Place) → machine_row_at m place ≡ option_map line_of (row_at place t)
  rows-tied place = ap (λ rows. machine_row_at (record m { rows = rows }) place) (sym tied) ∙ lines-at place t

  pub some-tied : (place : Place) → is_some (row_at place (stored_rows t)) ≡ is_some (machine_row_at m place)
  some-tied place = some-stored place t ∙ sym (there-at place t) ∙ ap (λ rows. is_some (machine_row_at (record m { rows = rows }) place)) tied

  free-here : (place : Place) → machine_row_at m place ≡ None → is_some (row_at place (stored_rows t)) ≡ false
  free-here place none = some-tied place ∙ none_is (machine_row_at m place) none

  located-here : (dir : Locator) → is_located m kind.Directory dir ≡ true → is_directory (row_at (place_of dir) (stored_rows t)) ≡ true
  located-here dir located =
      let holds = (and_parts (wants kind.Directory dir) (holds_kind kind.Directory (machine_row_at m (place_of dir))) located).1 in
      ap is_directory (stored_at (place_of dir) t) ∙ directory-line (row_at (place_of dir) t) (ap (holds_kind kind.Directory) (sym (rows-tied (place_of dir))) ∙ holds)

  -- ---- rows that are made

  root-made : (moment : ℕ) (unit : Text) (o : Option (Line ℕ)) → machine_row_at m (unit, []) ≡ o
      → Makes size (made_spelled moment (where_free o ((unit, []), kind.Directory))) (stored_built t u) (stored_built (grown_by t moment (where_free o ((unit, []), kind.Directory))) u)
  unfolding can_apply applied
  root-made moment unit (Some r) is = refl
  root-made moment unit None is = λ holds.
      tried-of size (stored_built t u) (stored_built (put place_cmp (unit, []) row.Dir t) u) (MakeRoot unit)
      (not_false (is_some (row_at (unit, []) (stored_rows t))) (free-here (unit, []) is))
      (ap (λ (rows : Rows). record { rows = rows; persistent = u }) (sym (stored-put (unit, []) row.Dir t)))

  can-make : (dir : Locator) (name : Text) → MayMake m dir name → machine_row_at m (child (place_of dir) name) ≡ None → can_make dir.key (child (place_of dir) name).1 (stored_rows t) ≡ true
  can-make dir name may none =
      let limits = and_parts (nat_le (length name) 255) (nat_le (length (child (place_of dir) name).1) 32) may.limits in
      can_make_at dir.key (child (place_of dir) name).1 (place_of dir).1 name (stored_rows t) refl
      ∙ and-all _ _ (and-all _ _ (not_false (is_some (row_at (child (place_of dir) name) (stored_rows t))) (free-here (child (place_of dir) name) none)) limits.1)
      (and-all _ _ (located-here dir may.located) (and-all _ _ may.valid limits.0))

  child-made : (moment : ℕ) (kind_of : Kind) (dir : Locator) (name : Text) (o : Option (Line ℕ)) → machine_row_at m (child (place_of dir) name) ≡ o → (o ≡ None → MayMake m dir name)
      → Makes size (made_spelled moment (where_free o (child (place_of dir) name, kind_of))) (stored_built t u) (stored_built (grown_by t moment (where_free o (child (place_of dir) name, kind_of))) u)
  unfolding can_apply applied
  child-made moment kind_of dir name (Some r) is may = refl
  child-made moment kind.Directory dir name None is may = λ holds.
      let p = child (place_of dir) name in
      subst (λ (c : Spelled). tried New size (stored_built t u) c ≡ Some (stored_built (put place_cmp p row.Dir t) u)) (sym (dir-is dir.key (place_of dir).1 name))
      (tried-of size (stored_built t u) (stored_built (put place_cmp p row.Dir t) u) (MakeDir p.0 p.1)
      (can-make dir name (may refl) is)
      (ap (λ (rows : Rows). record { rows = rows; persistent = u }) (sym (stored-put p row.Dir t))))
  child-made moment kind.File dir name None is may = λ holds.
      let p = child (place_of dir) name in
      tried-of size (stored_built t u) (stored_built (put place_cmp p (new_row kind.File moment) t) u) (MakeFile p.0 p.1 moment)
      (can-make dir name (may refl) is)
      (ap (λ (rows : Rows). record { rows = rows; persistent = u }) (sym (stored-put p (new_row kind.File moment) t)))

  -- ---- contents

  content-made : (file : Place) (len stamp : ℕ) (extents : Option (List Extent)) (f : FileRow) (after : Rows) → file_at file t ≡ Some f
      → stored_rows after ≡ change_at file (stored len stamp (unwrap_or extents f.extents)) (stored_rows t)
      → Makes size (Some (Content file.0 file.1 stamp len (unwrap_or extents f.extents))) (stored_built t u) (stored_built after u)
  unfolding can_apply applied
  content-made file len stamp extents f after there is = λ holds.
      tried-of size (stored_built t u) (stored_built after u) (Content file.0 file.1 stamp len (unwrap_or extents f.extents))
      (and-all (is_some (file_at file (stored_rows t))) _ (file-stored file t f there) holds)
      (ap (λ (rows : Rows). record { rows = rows; persistent = u }) (sym is))

  stream-made : (len stamp : ℕ) (extents : Option (List Extent)) (o : Option StreamOutline) → Makes size (stream_spelled t len stamp extents o) (stored_built t u) (stored_built (closed_by t len stamp extents o) u)
  stream-made len stamp extents None = refl
  stream-made len stamp extents (Some w) = by (file_at w.file t) refl
    where
      silent : stored_rows (change_at w.file unlocked (change_at w.file (stored_in len stamp extents) t)) ≡ stored_rows (change_at w.file (stored_in len stamp extents) t)
      silent = stored-silent unlocked (λ f. refl) w.file (change_at w.file (stored_in len stamp extents) t)

      by : (o : Option FileRow) → file_at w.file t ≡ o → Makes size (content_spelled w.file len stamp extents o) (stored_built t u) (stored_built (change_at w.file unlocked (change_at w.file (stored_in len stamp extents) t)) u)
      by None is = ap (λ (rows : Rows). stored_rows_built rows) (silent ∙ ap stored_rows (change-none w.file (stored_in len stamp extents) t is))
        where
          stored_rows_built : Rows → Built
          stored_rows_built rows = record { rows = rows; persistent = u }
      by (Some f) is = content-made w.file len stamp extents f _ is (silent ∙ stored-content w.file len stamp extents t f is)

  -- ---- access handles

  same_built : (after : Rows) → stored_rows after ≡ stored_rows t → stored_built after u ≡ stored_built t u
  same_built after is = ap (λ (rows : Rows). record { rows = rows; persistent = u }) is

  -- With other rows that are stored alike behind the flush.
  flush-made : (file : Place) (extents : Option (List Extent)) (after : Rows) → stored_rows after ≡ stored_rows (change_at file (flushed_in extents) t) → (o : Option FileRow) → file_at file t ≡ o
      → Makes size (flush_spelled file extents o) (stored_built t u) (stored_built after u)
  flush-made file extents after alike None is = same_built after (alike ∙ ap stored_rows (change-none file (flushed_in extents) t is))
  flush-made file extents after alike (Some f) is = content-made file f.present f.present_stamp extents f after is (alike ∙ stored-flushed file extents t f is)

  handle-made : (extents : Option (List Extent)) (after : HandleOutline → Bool → Rows) → ((h : HandleOutline) → stored_rows (after h true) ≡ stored_rows (change_at h.file (flushed_in extents) t)) → ((h : HandleOutline) → stored_rows (after h false) ≡ stored_rows t)
      → (h : HandleOutline) → Makes size (handle_spelled t extents (Some h)) (stored_built t u) (stored_built (after h (is_read_write h.mode)) u)
  handle-made extents after writes reads h =
      elim (is_read_write h.mode) as (λ b. Makes size (if b then flush_spelled h.file extents (file_at h.file t) else None) (stored_built t u) (stored_built (after h b) u)) [
        | true ↦ flush-made h.file extents (after h true) (writes h) (file_at h.file t) refl
        | false ↦ same_built (after h false) (reads h)
      ]

  flushed-made : (extents : Option (List Extent)) (o : Option HandleOutline) → Makes size (handle_spelled t extents o) (stored_built t u) (stored_built (flushed_by t extents o) u)
  flushed-made extents None = refl
  flushed-made extents (Some h) = handle-made extents (λ g b. if b then change_at g.file (flushed_in extents) t else t) (λ g. refl) (λ g. refl) h

  closed-made : (extents : Option (List Extent)) (o : Option HandleOutline) → Makes size (handle_spelled t extents o) (stored_built t u) (stored_built (ended_by t (flushed_in extents) o) u)
  closed-made extents None = refl
  closed-made extents (Some h) =
      handle-made extents (λ g b. change_at g.file unlocked (if b then change_at g.file (flushed_in extents) t else t))
      (λ g. stored-silent unlocked (λ f. refl) g.file (change_at g.file (flushed_in extents) t)) (λ g. stored-silent unlocked (λ f. refl) g.file t) h

  -- ---- calls that store nothing

  silent : (change : FileRow → FileRow) (place : Place) → ((f : FileRow) → stored_file (change f) ≡ stored_file f) → stored_built (change_at place change t) u ≡ stored_built t u
  silent change place same = same_built (change_at place change t) (stored-silent change same place t)

  aborted-made : (o : Option StreamOutline) → stored_built (aborted_by t o) u ≡ stored_built t u
  aborted-made None = refl
  aborted-made (Some w) = silent unlocked w.file (λ f. refl)

  overwritten-made : (change : FileRow → FileRow) → ((f : FileRow) → stored_file (change f) ≡ stored_file f) → (o : Option HandleOutline) → stored_built (overwritten_by t change o) u ≡ stored_built t u
  overwritten-made change same None = refl
  overwritten-made change same (Some h) = silent change h.file same

  discarded-made : (o : Option HandleOutline) → stored_built (ended_by t undone_row o) u ≡ stored_built t u
  discarded-made None = refl
  discarded-made (Some h) =
      same_built (change_at h.file unlocked (changed_by t h.mode h.file undone_row))
      (stored-silent unlocked (λ f. refl) h.file (changed_by t h.mode h.file undone_row)
      ∙ (elim (is_read_write h.mode) as (λ b. stored_rows (if b then change_at h.file undone_row t else t) ≡ stored_rows t) [ true ↦ stored-silent undone_row (λ f. refl) h.file t | false ↦ refl ]))

  -- ---- modes

  persist-made : (rising : is_rising u ≡ true) (bucket : Text) (grant : Bool) (o : Option Text) → Makes size (mode_spelled m grant bucket o) (stored_built t u) (stored_built t (persists m bucket grant o).persistent)
  unfolding can_apply applied
  persist-made rising bucket grant None = refl
  persist-made rising bucket false (Some origin) = refl
  persist-made rising bucket true (Some origin) =
      let unit = unit_of origin bucket in
      elim (is_persistent m unit) as (λ b. is_persistent m unit ≡ b → Makes size (if true && not b then Some (Persist unit) else None) (stored_built t u) (stored_built t (insert_by (slice_cmp nat_cmp) unit u))) [
        | true ↦ λ is. ap (stored_built t) (insert-same unit u rising is)
        | false ↦ λ is holds. tried-of size (stored_built t u) (stored_built t (insert_by (slice_cmp nat_cmp) unit u)) (Persist unit) refl refl
      ] refl

  -- ---- each call

  rows-make : (o : Op) (z : Sizes) (extents : Option (List Extent)) (need : Need) → is_persist o ≡ false → ruling in_lengths m z k o ≡ Ok need
      → Makes size (spelled_by m t k o z extents) (stored_built t u) (stored_built (tree_by m t k o z extents) u)
  unfolding spelled_by tree_by made_at ruling can_apply applied
  rows-make (op.GetDirectory bucket) z extents need plain ruled = (root (agent_of m k).key)
    where
      root : (key : Option Text) → Makes size (made_spelled (moment_of m k) (free_in m (root_in (option_map (λ origin. unit_of origin bucket) key)))) (stored_built t u)
          (stored_built (grown_by t (moment_of m k) (free_in m (root_in (option_map (λ origin. unit_of origin bucket) key)))) u)
      root None = refl
      root (Some origin) = root-made (moment_of m k) (unit_of origin bucket) (machine_row_at m (unit_of origin bucket, [])) refl
  rows-make (op.GetDirectoryHandle dir name create) z extents need plain ruled =
      (child-made (moment_of m k) kind.Directory dir name (machine_row_at m (child (place_of dir) name)) refl (λ none. may-make m kind.Directory dir name create need none ruled))
  rows-make (op.GetFileHandle dir name create) z extents need plain ruled =
      (child-made (moment_of m k) kind.File dir name (machine_row_at m (child (place_of dir) name)) refl (λ none. may-make m kind.File dir name create need none ruled))
  rows-make (op.RemoveEntry dir name recursive) z extents need plain ruled = λ holds.
      let p = child (place_of dir) name in
      tried-of size (stored_built t u) (stored_built (without p t) u) (Remove p.0 p.1)
      (and-all _ _ (not_false (is_root_path p.1) (no-root (place_of dir).1 name)) (some-tied p ∙ may-remove m dir name recursive need ruled))
      (ap (λ (rows : Rows). record { rows = rows; persistent = u }) (sym (stored-without p t)))
  rows-make (op.CreateWritable at keep) z extents need plain ruled = (silent (locked want.Shared) (place_of at) (λ f. refl))
  rows-make (op.CreateSyncAccessHandle at mode) z extents need plain ruled = (silent (locked (want_of mode)) (place_of at) (λ f. refl))
  rows-make (op.Close n) z extents need plain ruled = (stream-made z.size (moment_of m k) extents (open_stream in_lengths m k n))
  rows-make (op.Abort n) z extents need plain ruled = (aborted-made (open_stream in_lengths m k n))
  rows-make (op.SyncWrite n bytes at) z extents need plain ruled = (overwritten-made _ (λ f. refl) (open_handle in_lengths m k n))
  rows-make (op.SyncTruncate n len) z extents need plain ruled = (overwritten-made _ (λ f. refl) (open_handle in_lengths m k n))
  rows-make (op.SyncFlush n) z extents need plain ruled = (flushed-made extents (open_handle in_lengths m k n))
  rows-make (op.SyncClose n) z extents need plain ruled = (closed-made extents (open_handle in_lengths m k n))
  rows-make (op.Discard n) z extents need plain ruled = (discarded-made (open_handle in_lengths m k n))
  rows-make (op.Persist bucket) z extents need plain ruled = absurd (false≢true (sym plain))
  rows-make o z extents need plain ruled = refl

  persist-makes : (rising : is_rising u ≡ true) (bucket : Text) (z : Sizes) (extents : Option (List Extent))
      → Makes size (spelled_by m t k (op.Persist bucket) z extents) (stored_built t u) (stored_built (tree_by m t k (op.Persist bucket) z extents) (effect in_lengths m z k (op.Persist bucket)).persistent)
  unfolding spelled_by tree_by made_at effect
  persist-makes rising bucket z extents = persist-made rising bucket (agent_of m k).grant (agent_of m k).key

  -- What a call spells makes what the call leaves.
  pub calls-make : (rising : is_rising u ≡ true) (o : Op) (z : Sizes) (extents : Option (List Extent)) (need : Need) → ruling in_lengths m z k o ≡ Ok need
      → Makes size (spelled_by m t k o z extents) (stored_built t u) (stored_built (tree_by m t k o z extents) (effect in_lengths m z k o).persistent)
  calls-make rising (op.Persist bucket) z extents need ruled = persist-makes rising bucket z extents
  calls-make rising o z extents need ruled =
      subst (λ (v : List Text). Makes size (spelled_by m t k o z extents) (stored_built t u) (stored_built (tree_by m t k o z extents) v)) (sym (effect-modes m z k o refl)) (rows-make o z extents need refl ruled)
