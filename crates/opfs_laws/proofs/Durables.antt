-- What a call stores is what its changes build.
use Rattle.std.proofs.Common.{◌≡◌, ◌≢◌, ℕ, Bool, true, false, cond, not, ◌&&◌, List, [], ◌∷◌, map, filter, fold, Option, Some, None, option_map, refl, sym, ap, ◌∙◌, subst, inl, inr}
use Rattle.std.specs.Prelude.{T}
use Rattle.std.proofs.lemmas.Bool.{false≢true}
use Rattle.std.specs.FinMap.Entries.{put, find, is_sorted, below_all, is_sorted-put, find-put, same_entries, by_order}
use Rattle.std.specs.Ordering.{is_eq, is_lt, eq_by_cmp}
use Rattle.std.specs.declared.cmp.Ordering.TheVariants.{Less, Equal, Greater}
use Rattle.opfs_base.specs.Places.{Place, place_cmp, place_of, child, is_within}
use Rattle.opfs_base.specs.Texts.{Text}
use Rattle.opfs_base.specs.Units.{unit_of}
use Rattle.opfs_base.specs.declared.locator.Kind.TheVariants as kind
use Rattle.opfs_hist.specs.declared.op.Mode.{Mode}
use Rattle.opfs_hist.specs.declared.op.Mode.TheVariants as mode
use Rattle.opfs_hist.specs.declared.op.Op.{Op}
use Rattle.opfs_hist.specs.declared.op.Op.TheVariants as op
use Rattle.opfs_locks.specs.declared.Want.TheVariants as want
use Rattle.opfs_machine.specs.declared.own.HandleOutline.{HandleOutline}
use Rattle.opfs_machine.specs.declared.own.StreamOutline.{StreamOutline}
use Rattle.opfs_machine.specs.declared.own.Own.{Own}
use Rattle.opfs_machine.specs.declared.own.Own.TheVariants as own
use Rattle.opfs_machine.specs.declared.state.FileRow.{FileRow}
use Rattle.opfs_machine.specs.declared.state.Row.{Row}
use Rattle.opfs_machine.specs.declared.state.Row.TheVariants as row
use Rattle.opfs_machine.specs.declared.state.Sizes.{Sizes}
use Rattle.opfs_machine.specs.declared.state.State.{State}
use Rattle.opfs_machine.specs.Agents.{agent_of, own_of, open_stream, open_handle, of_row, stream_in, with_own}
use Rattle.opfs_machine.specs.Changes.{Change, make_root, make_directory, make_file, content, persist, where_missing, root_made, stream_stored, file_stored, handle_stored, mode_changed, stored_by, stored_at, changed, durable_row, durable_part}
use Rattle.opfs_machine.specs.Contents.{in_bytes, outline_of}
use Rattle.opfs_machine.specs.Effects.{effect, made, new_row, moment_of, opens_bucket, opens_stream, takes_snapshot, closes_stream, aborts_stream, changes_file, flushes, closes_handle, discards, persists, with_written, with_changed, with_lock, flushed, unlocked, undone, replaced, content_of}
use Rattle.opfs_machine.specs.Openings.{Map, Stored}
use Rattle.opfs_machine.specs.Replies.{sizes_of}
use Rattle.opfs_machine.specs.Rows.{Rows, row_at, file_at, file_of, with_row, with_file, change_at, changed_row}
use Rattle.opfs_machine.specs.Rulings.{want_of, is_read_write, first_reserve}
use Rattle.opfs_machine.specs.Sums.{is_persistent}
use Rattle.opfs_laws.specs.Holders.{AreLocksOfHolders}
use Rattle.opfs_laws.specs.Whole.{IsInOrder, is_rising}
use Rattle.opfs_laws.proofs.LocksEffect.{stream-holder, handle-holder}
use Rattle.opfs_laws.proofs.Maps.{order-change}
use Rattle.opfs_laws.proofs.Modes.{insert-same}
use Rattle.opfs_laws.proofs.Spots.{place_total, exact_places, place_itself, place_apart, same_or_apart, find-changed, find-other}
use Rattle.opfs_laws.proofs.Wholes.{file-there}

abbrev pub told_row : Place × Row Text → Place × Stored
told_row e = (e.0, durable_row e.1)

abbrev pub told_rows : Rows Text → List (Place × Stored)
told_rows rows = map told_row rows

map-put : (p : Place) (r : Row Text) (rows : Rows Text) → told_rows (put place_cmp p r rows) ≡ put place_cmp p (durable_row r) (told_rows rows)
map-put p r [] = refl
map-put p r (e ∷ es) =
    elim (place_cmp p e.0) as (λ o. told_rows (by_order o ((p, r) ∷ e ∷ es) ((e.0, r) ∷ es) (e ∷ put place_cmp p r es))
    ≡ by_order o ((p, durable_row r) ∷ told_row e ∷ told_rows es) ((e.0, durable_row r) ∷ told_rows es) (told_row e ∷ put place_cmp p (durable_row r) (told_rows es))) [
      | Less ↦ refl
      | Equal ↦ refl
      | Greater ↦ ap (λ xs. told_row e ∷ xs) (map-put p r es)
    ]

pub map-without : (p : Place) (rows : Rows Text) → told_rows (filter (λ e. not (is_within p e.0)) rows) ≡ filter (λ e. not (is_within p e.0)) (told_rows rows)
map-without p [] = refl
map-without p (e ∷ es) =
    elim (is_within p e.0) as (λ b. told_rows (cond (not b) (e ∷ filter (λ d. not (is_within p d.0)) es) (filter (λ d. not (is_within p d.0)) es))
    ≡ cond (not b) (told_row e ∷ filter (λ d. not (is_within p d.0)) (told_rows es)) (filter (λ d. not (is_within p d.0)) (told_rows es))) [
      | true ↦ map-without p es
      | false ↦ ap (λ xs. told_row e ∷ xs) (map-without p es)
    ]

row-kept : (change : FileRow Text → FileRow Text) → ((f : FileRow Text) → durable_row (row.File (change f)) ≡ durable_row (row.File f)) → (r : Row Text) → durable_row (changed_row change r) ≡ durable_row r
row-kept change keeps row.Directory = refl
row-kept change keeps (row.File f) = keeps f

-- A change of what is not stored.
map-kept : (p : Place) (change : FileRow Text → FileRow Text) → ((f : FileRow Text) → durable_row (row.File (change f)) ≡ durable_row (row.File f)) → (rows : Rows Text) → told_rows (change_at p change rows) ≡ told_rows rows
map-kept p change keeps [] = refl
map-kept p change keeps (e ∷ es) =
    elim (is_eq (place_cmp p e.0)) as (λ b. told_rows (elim b as (λ y. Rows Text) [ true ↦ (e.0, changed_row change e.1) ∷ es | false ↦ e ∷ change_at p change es ]) ≡ told_rows (e ∷ es)) [
      | true ↦ ap (λ r. (e.0, r) ∷ told_rows es) (row-kept change keeps e.1)
      | false ↦ ap (λ xs. told_row e ∷ xs) (map-kept p change keeps es)
    ]

find-told : (q : Place) (rows : Rows Text) → find place_cmp q (told_rows rows) ≡ option_map durable_row (find place_cmp q rows)
find-told q [] = refl
find-told q (e ∷ es) =
    elim (eq_by_cmp place_cmp q e.0) as (λ b. cond b (Some (durable_row e.1)) (find place_cmp q (told_rows es)) ≡ option_map durable_row (cond b (Some e.1) (find place_cmp q es))) [ true ↦ refl | false ↦ find-told q es ]

below-told : (x : Place) (rows : Rows Text) → below_all place_cmp x (told_rows rows) ≡ below_all place_cmp x rows
below-told x [] = refl
below-told x (e ∷ es) = ap (λ b. is_lt (place_cmp x e.0) && b) (below-told x es)

sorted-told : (rows : Rows Text) → is_sorted place_cmp (told_rows rows) ≡ is_sorted place_cmp rows
sorted-told [] = refl
sorted-told (e ∷ es) = λ i. below-told e.0 es i && sorted-told es i

told : (b : Bool) → b ≡ true → T b
told true h = tt
told false h = absurd (false≢true h)

file_same : {a b : FileRow Text} → Some a ≡ Some b → a ≡ b
file_same e = cc

-- A file that is stored anew, where it stood.
pub map-stored : (p : Place) (change : FileRow Text → FileRow Text) (rows : Rows Text) (f : FileRow Text) → IsInOrder rows → file_of (find place_cmp p rows) ≡ Some f
    → told_rows (change_at p change rows) ≡ put place_cmp p (durable_row (row.File (change f))) (told_rows rows)
map-stored p change rows f order there =
    let v = durable_row (row.File (change f)) in
    same_entries place_cmp place_total exact_places (told_rows (change_at p change rows)) (put place_cmp p v (told_rows rows))
    (told _ (sorted-told (change_at p change rows) ∙ order-change p change rows order))
    (is_sorted-put place_cmp place_total p v (told_rows rows) (told _ (sorted-told rows ∙ order)))
    (λ q. find-told q (change_at p change rows) ∙ at q ∙ sym (find-put place_cmp place_total q p v (told_rows rows)))
  where
    here : (o : Option (Row Text)) → file_of o ≡ Some f → option_map durable_row (option_map (changed_row change) o) ≡ Some (durable_row (row.File (change f)))
    here None h = cc
    here (Some row.Directory) h = cc
    here (Some (row.File g)) h = ap (λ x. Some (durable_row (row.File (change x)))) (file_same h)

    at : (q : Place) → option_map durable_row (find place_cmp q (change_at p change rows)) ≡ cond (eq_by_cmp place_cmp q p) (Some (durable_row (row.File (change f)))) (find place_cmp q (told_rows rows))
    at q = elim (same_or_apart p q) as (λ x. option_map durable_row (find place_cmp q (change_at p change rows)) ≡ cond (eq_by_cmp place_cmp q p) (Some (durable_row (row.File (change f)))) (find place_cmp q (told_rows rows))) [
      | inl same ↦ subst (λ x. option_map durable_row (find place_cmp x (change_at p change rows)) ≡ cond (eq_by_cmp place_cmp x p) (Some (durable_row (row.File (change f)))) (find place_cmp x (told_rows rows))) same
          (ap (option_map durable_row) (find-changed change p rows) ∙ here (find place_cmp p rows) there
          ∙ sym (ap (λ b. cond b (Some (durable_row (row.File (change f)))) (find place_cmp p (told_rows rows))) (place_itself p)))
      | inr apart ↦ ap (option_map durable_row) (find-other change p q rows apart) ∙ sym (find-told q rows)
          ∙ sym (ap (λ b. cond b (Some (durable_row (row.File (change f)))) (find place_cmp q (told_rows rows))) (place_apart q p (λ e. apart (sym e))))
    ]

abbrev pub as_map : List (Place × Stored) → List Text → Map
as_map rows modes = record { rows = rows; persistent = modes }

abbrev Builds : State Text Own → List Change → State Text Own → Type 0
Builds s told t = fold changed (durable_part s) told ≡ durable_part t

rows-same : (s t : State Text Own) → told_rows t.rows ≡ told_rows s.rows → t.persistent ≡ s.persistent → durable_part s ≡ durable_part t
rows-same s t rows modes = λ i. as_map (sym rows i) (sym modes i)

missing-builds : (s : State Text Own) (p : Place) (r : Row Text) (change : Change) → changed (durable_part s) change ≡ stored_at (durable_part s) p (durable_row r)
    → Builds s (where_missing (row_at s p) change) (made s p r)
missing-builds s p r change is =
    elim (row_at s p) as (λ o. Builds s (where_missing o change) (elim o as (λ x. State Text Own) [ Some old ↦ s | None ↦ with_row s p r ])) [
      | Some old ↦ refl
      | None ↦ is ∙ ap (λ rows. as_map rows s.persistent) (sym (map-put p r s.rows))
    ]

bucket-builds : (s : State Text Own) (bucket : Text) (key : Option Text) → Builds s (root_made s bucket key) (opens_bucket s bucket key)
bucket-builds s bucket None = refl
bucket-builds s bucket (Some origin) = missing-builds s (unit_of origin bucket, []) row.Directory (make_root (unit_of origin bucket)) refl

changed-same : (s : State Text Own) (k n : ℕ) (change : Own → Own) → durable_part (with_changed s k n change) ≡ durable_part s
unfolding with_changed
changed-same s k n change =
    elim (own_of (agent_of s k) n) as (λ o. durable_part (elim o as (λ x. State Text Own) [ Some r ↦ with_own s k n (change r) | None ↦ s ]) ≡ durable_part s) [ Some r ↦ refl | None ↦ refl ]

file-same : (s : State Text Own) (p : Place) (change : FileRow Text → FileRow Text) → ((f : FileRow Text) → durable_row (row.File (change f)) ≡ durable_row (row.File f)) → durable_part (with_file s p change) ≡ durable_part s
file-same s p change keeps = ap (λ rows. as_map rows s.persistent) (map-kept p change keeps s.rows)

stream-same : (s : State Text Own) (k : ℕ) (p : Place) (reserve : ℕ) (keep : Bool) (f : Option (FileRow Text)) → durable_part (opens_stream in_bytes s k p reserve keep f) ≡ durable_part s
stream-same s k p reserve keep None = refl
stream-same s k p reserve keep (Some f) = file-same s p (with_lock want.Shared) (λ f. refl)

snapshot-same : (s : State Text Own) (k : ℕ) (f : Option (FileRow Text)) → durable_part (takes_snapshot in_bytes s k f) ≡ durable_part s
snapshot-same s k None = refl
snapshot-same s k (Some f) = refl

aborts-same : (s : State Text Own) (k n : ℕ) (w : Option StreamOutline) → durable_part (aborts_stream in_bytes s k n w) ≡ durable_part s
aborts-same s k n None = refl
aborts-same s k n (Some w) = file-same s w.file unlocked (λ f. refl)

writes-same : (s : State Text Own) (k n : ℕ) (change : Text → Text) (cursor size : ℕ) (o : Option HandleOutline) → durable_part (changes_file in_bytes s k n change cursor size o) ≡ durable_part s
unfolding changes_file
writes-same s k n change cursor size None = refl
writes-same s k n change cursor size (Some o) =
    let to : FileRow Text → FileRow Text = λ f. record f { present = change f.present; stamp = moment_of s k } in
    changed-same (with_file s o.file to) k n _ ∙ file-same s o.file to (λ f. refl)

written-same : (s : State Text Own) (m : Mode) (p : Place) → durable_part (with_written s m p undone) ≡ durable_part s
written-same s mode.ReadWrite p = file-same s p undone (λ f. refl)
written-same s mode.ReadOnly p = refl

discards-same : (s : State Text Own) (k n : ℕ) (o : Option HandleOutline) → durable_part (discards in_bytes s k n o) ≡ durable_part s
discards-same s k n None = refl
discards-same s k n (Some o) = file-same (with_written s o.mode o.file undone) o.file unlocked (λ f. refl) ∙ written-same s o.mode o.file

abbrev flushed_told : State Text Own → Place → Mode → List Change
flushed_told s p m = elim (is_read_write m) [ true ↦ file_stored p (file_at s p) | false ↦ [] ]

flush-builds : (s : State Text Own) (p : Place) (m : Mode) (f : FileRow Text) → IsInOrder s.rows → file_at s p ≡ Some f → Builds s (flushed_told s p m) (with_written s m p flushed)
flush-builds s p mode.ReadOnly f order there = refl
flush-builds s p mode.ReadWrite f order there =
    ap (λ o. fold changed (durable_part s) (file_stored p o)) there
    ∙ ap (λ rows. as_map rows s.persistent) (sym (map-stored p flushed s.rows f order there))

module _ (s : State Text Own) (k : ℕ) (order : IsInOrder s.rows) (locks : AreLocksOfHolders s) where
  stream-file : (n : ℕ) (w : StreamOutline) → open_stream in_bytes s k n ≡ Some w → (f : FileRow Text) × (file_at s w.file ≡ Some f)
  stream-file n w is = let holder = stream-holder (own_of (agent_of s k) n) w is in file-there s locks k n holder.row w.file want.Shared holder.is holder.holds

  handle-file : (n : ℕ) (h : HandleOutline) → open_handle in_bytes s k n ≡ Some h → (f : FileRow Text) × (file_at s h.file ≡ Some f)
  handle-file n h is = let holder = handle-holder (own_of (agent_of s k) n) h is in file-there s locks k n holder.row h.file (want_of h.mode) holder.is holder.holds

  stream-told : (o : Option Own) (w : StreamOutline) (stamp size : ℕ) → of_row (λ r. stream_in (outline_of r)) o ≡ Some w → stream_stored stamp o ≡ content w.file stamp (content_of in_bytes o size) ∷ []
  stream-told None w stamp size is = cc
  stream-told (Some (own.Stream x)) w stamp size is = ap (λ u. content u.file stamp x.buffer ∷ []) (same is)
    where
      same : {a b : StreamOutline} → Some a ≡ Some b → a ≡ b
      same e = cc
  stream-told (Some r) w stamp size is = cc

  none-told : (o : Option Own) (stamp : ℕ) → of_row (λ r. stream_in (outline_of r)) o ≡ None → stream_stored stamp o ≡ []
  none-told None stamp is = refl
  none-told (Some (own.Stream x)) stamp is = cc
  none-told (Some r) stamp is = refl

  closes-builds : (z : Sizes) (n : ℕ) (w : Option StreamOutline) → open_stream in_bytes s k n ≡ w → Builds s (stream_stored (moment_of s k) (own_of (agent_of s k) n)) (closes_stream in_bytes s z k n w)
  closes-builds z n None is = ap (fold changed (durable_part s)) (none-told (own_of (agent_of s k) n) (moment_of s k) is)
  closes-builds z n (Some w) is =
      let change = replaced (content_of in_bytes (own_of (agent_of s k) n) z.size) (moment_of s k) in
      let f = stream-file n w is in
      ap (fold changed (durable_part s)) (stream-told (own_of (agent_of s k) n) w (moment_of s k) z.size is)
      ∙ ap (λ rows. as_map rows s.persistent) (sym (map-stored w.file change s.rows f.0 order f.1))
      ∙ sym (file-same (with_file s w.file change) w.file unlocked (λ f. refl))

  flushes-builds : (z : Sizes) (n : ℕ) (o : Option HandleOutline) → open_handle in_bytes s k n ≡ o → Builds s (handle_stored s o) (flushes in_bytes s z k n o)
  flushes-builds z n None is = refl
  flushes-builds z n (Some h) is =
      let f = handle-file n h is in
      flush-builds s h.file h.mode f.0 order f.1 ∙ sym (changed-same (with_written s h.mode h.file flushed) k n _)

  closed-builds : (n : ℕ) (o : Option HandleOutline) → open_handle in_bytes s k n ≡ o → Builds s (handle_stored s o) (closes_handle in_bytes s k n o)
  closed-builds n None is = refl
  closed-builds n (Some h) is =
      let f = handle-file n h is in
      flush-builds s h.file h.mode f.0 order f.1 ∙ sym (file-same (with_written s h.mode h.file flushed) h.file unlocked (λ f. refl))

persist-builds : (s : State Text Own) (bucket origin : Text) (grant : Bool) → is_rising s.persistent ≡ true → Builds s (mode_changed s grant bucket (Some origin)) (persists s bucket grant (Some origin))
persist-builds s bucket origin false rising = refl
persist-builds s bucket origin true rising =
    elim (is_persistent s (unit_of origin bucket)) as (λ b. is_persistent s (unit_of origin bucket) ≡ b
    → fold changed (durable_part s) (cond (not b) (persist (unit_of origin bucket) ∷ []) []) ≡ durable_part (persists s bucket true (Some origin))) [
      | true ↦ λ is. ap (as_map (told_rows s.rows)) (sym (insert-same (unit_of origin bucket) s.persistent rising is))
      | false ↦ λ is. refl
    ] refl

persists-builds : (s : State Text Own) (bucket : Text) (grant : Bool) (key : Option Text) → is_rising s.persistent ≡ true → Builds s (mode_changed s grant bucket key) (persists s bucket grant key)
persists-builds s bucket grant None rising = refl
persists-builds s bucket grant (Some origin) rising = persist-builds s bucket origin grant rising

pub effect-builds : (s : State Text Own) (k : ℕ) (o : Op) → IsInOrder s.rows → AreLocksOfHolders s → is_rising s.persistent ≡ true → ((unit : Text) → o ≢ op.Evict unit)
    → Builds s (stored_by s k o) (effect in_bytes s (sizes_of s k o) k o)
unfolding effect stored_by
effect-builds s k (op.GetDirectory bucket) order locks rising other = bucket-builds s bucket (agent_of s k).key
effect-builds s k (op.GetDirectoryHandle dir name create) order locks rising other = missing-builds s (child (place_of dir) name) row.Directory (make_directory (child (place_of dir) name)) refl
effect-builds s k (op.GetFileHandle dir name create) order locks rising other =
    missing-builds s (child (place_of dir) name) (new_row in_bytes kind.File (moment_of s k)) (make_file (child (place_of dir) name) (moment_of s k)) refl
effect-builds s k (op.RemoveEntry dir name recursive) order locks rising other = ap (λ rows. as_map rows s.persistent) (sym (map-without (child (place_of dir) name) s.rows))
effect-builds s k (op.Next n dir) order locks rising other = sym (changed-same s k n _)
effect-builds s k (op.GetFile at) order locks rising other = sym (snapshot-same s k (file_at s (place_of at)))
effect-builds s k (op.CreateWritable at keep) order locks rising other = sym (stream-same s k (place_of at) (first_reserve in_bytes s at keep) keep (file_at s (place_of at)))
effect-builds s k (op.Write n bytes position) order locks rising other = sym (changed-same s k n _)
effect-builds s k (op.Seek n position) order locks rising other = sym (changed-same s k n _)
effect-builds s k (op.Truncate n size) order locks rising other = sym (changed-same s k n _)
effect-builds s k (op.Close n) order locks rising other = closes-builds s k order locks (sizes_of s k (op.Close n)) n (open_stream in_bytes s k n) refl
effect-builds s k (op.Abort n) order locks rising other = sym (aborts-same s k n (open_stream in_bytes s k n))
effect-builds s k (op.CreateSyncAccessHandle at m) order locks rising other = sym (file-same s (place_of at) (with_lock (want_of m)) (λ f. refl))
effect-builds s k (op.SyncRead n len at) order locks rising other = sym (changed-same s k n _)
effect-builds s k (op.SyncWrite n bytes at) order locks rising other = sym (writes-same s k n _ _ _ (open_handle in_bytes s k n))
effect-builds s k (op.SyncTruncate n size) order locks rising other = sym (writes-same s k n _ _ _ (open_handle in_bytes s k n))
effect-builds s k (op.SyncFlush n) order locks rising other = flushes-builds s k order locks (sizes_of s k (op.SyncFlush n)) n (open_handle in_bytes s k n) refl
effect-builds s k (op.SyncClose n) order locks rising other = closed-builds s k order locks n (open_handle in_bytes s k n) refl
effect-builds s k (op.Persist bucket) order locks rising other = persists-builds s bucket (agent_of s k).grant (agent_of s k).key rising
effect-builds s k (op.Discard n) order locks rising other = sym (discards-same s k n (open_handle in_bytes s k n))
effect-builds s k (op.Evict unit) order locks rising other = absurd (other unit refl)
effect-builds s k o order locks rising other = refl
