-- A call that makes no row leaves a directory no name more.
use Rattle.std.proofs.Common.{◌≡◌, ℕ, Bool, true, false, not, cond, List, [], ◌∷◌, Option, Some, None, is_some, filter, fold, refl}
use Rattle.std.proofs.lemmas.Bool.{false≢true, true≢false}
use Rattle.std.specs.List.{AllByRecursion, cons_option, filter_map}
use Rattle.std.specs.Ordering.{is_eq}
use Rattle.opfs_base.specs.Places.{Place, child, child_name, is_within, place_cmp, place_of}
use Rattle.opfs_base.specs.Texts.{Text}
use Rattle.opfs_base.specs.declared.locator.Kind.TheVariants as kind
use Rattle.opfs_hist.specs.declared.op.Mode.{Mode}
use Rattle.opfs_hist.specs.declared.op.Mode.TheVariants as mode
use Rattle.opfs_hist.specs.declared.op.Op.{Op}
use Rattle.opfs_hist.specs.declared.op.Op.TheVariants as op
use Rattle.opfs_hist.specs.declared.reply.Reply.{Reply}
use Rattle.opfs_locks.specs.declared.Want.TheVariants as want
use Rattle.opfs_machine.specs.declared.own.HandleOutline.{HandleOutline}
use Rattle.opfs_machine.specs.declared.own.Own.{Own}
use Rattle.opfs_machine.specs.declared.own.StreamOutline.{StreamOutline}
use Rattle.opfs_machine.specs.declared.state.FileRow.{FileRow}
use Rattle.opfs_machine.specs.declared.state.Row.{Row}
use Rattle.opfs_machine.specs.declared.state.Row.TheVariants as row
use Rattle.opfs_machine.specs.declared.state.Sizes.{Sizes}
use Rattle.opfs_machine.specs.declared.state.State.{State}
use Rattle.opfs_machine.specs.Agents.{agent_of, own_of, open_handle, open_stream, with_own}
use Rattle.opfs_machine.specs.Contents.{in_bytes}
use Rattle.opfs_machine.specs.Effects.{aborts_stream, changes_file, closes_handle, closes_stream, content_of, discards, effect, flushed, flushes, made, moment_of, new_row, opens_stream, persists, refused, replaced, takes_snapshot, undone, unlocked, with_changed, with_lock, with_written}
use Rattle.opfs_machine.specs.Replies.{sizes_of}
use Rattle.opfs_machine.specs.Rows.{Rows, change_at, changed_row, file_at, row_at, with_file, with_row}
use Rattle.opfs_machine.specs.Rulings.{first_reserve, want_of}
use Rattle.opfs_machine.specs.Steps.{after_reply, evicted, is_refusal}
use Rattle.opfs_desk_steps.specs.Iterating.Reached.{may_make}

-- The child that a call asks for, and does not make, is there.
abbrev pub HasChild : State Text Own → Op → Type 0
HasChild s (op.GetDirectoryHandle dir name create) = create ≡ false → is_some (row_at s (child (place_of dir) name)) ≡ true
HasChild s (op.GetFileHandle dir name create) = create ≡ false → is_some (row_at s (child (place_of dir) name)) ≡ true
HasChild s o = Unit {0}

module _ (dir : Place) (P : Text → Type 0) where
  abbrev AllIn : Rows Text → Type 0
  AllIn rows = AllByRecursion P (filter_map (λ e. child_name dir e.0) rows)

  abbrev pub Keeps : State Text Own → Type 0
  Keeps s = AllIn s.rows

  -- ---- rows

  without-first : (o : Option Text) (xs : List Text) → AllByRecursion P (cons_option o xs) → AllByRecursion P xs
  without-first None xs all = all
  without-first (Some x) xs all = all.1

  with-first : (o : Option Text) (xs ys : List Text) → AllByRecursion P (cons_option o xs) → AllByRecursion P ys → AllByRecursion P (cons_option o ys)
  with-first None xs ys all more = more
  with-first (Some x) xs ys all more = (all.0, more)

  abbrev filter_rows : Place → Rows Text → Rows Text
  filter_rows p rows = filter (λ e. not (is_within p e.0)) rows

  all-without : (p : Place) (rows : Rows Text) → AllIn rows → AllIn (filter_rows p rows)
  all-without p [] all = tt
  all-without p (e ∷ rows) all =
      let rest = all-without p rows (without-first (child_name dir e.0) (filter_map (λ d. child_name dir d.0) rows) all) in
      elim (not (is_within p e.0)) as (λ b. AllIn (cond b (e ∷ filter_rows p rows) (filter_rows p rows))) [
        | true ↦ with-first (child_name dir e.0) (filter_map (λ d. child_name dir d.0) rows) (filter_map (λ d. child_name dir d.0) (filter_rows p rows)) all rest
        | false ↦ rest
      ]

  all-changed : (p : Place) (change : FileRow Text → FileRow Text) (rows : Rows Text) → AllIn rows → AllIn (change_at p change rows)
  all-changed p change [] all = tt
  all-changed p change (e ∷ rows) all =
      let rest = all-changed p change rows (without-first (child_name dir e.0) (filter_map (λ d. child_name dir d.0) rows) all) in
      elim (is_eq (place_cmp p e.0)) as (λ b. AllIn (elim b as (λ x. Rows Text) [ true ↦ (e.0, changed_row change e.1) ∷ rows | false ↦ e ∷ change_at p change rows ])) [
        | true ↦ all
        | false ↦ with-first (child_name dir e.0) (filter_map (λ d. child_name dir d.0) rows) (filter_map (λ d. child_name dir d.0) (change_at p change rows)) all rest
      ]

  -- ---- small changes

  changed-keeps : (s : State Text Own) (k n : ℕ) (change : Own → Own) → Keeps s → Keeps (with_changed s k n change)
  unfolding with_changed
  changed-keeps s k n change all =
      elim (own_of (agent_of s k) n) as (λ o. Keeps (elim o as (λ x. State Text Own) [ Some r ↦ with_own s k n (change r) | None ↦ s ])) [ Some r ↦ all | None ↦ all ]

  stream-keeps : (s : State Text Own) (k : ℕ) (p : Place) (reserve : ℕ) (keep : Bool) (f : Option (FileRow Text)) → Keeps s → Keeps (opens_stream in_bytes s k p reserve keep f)
  stream-keeps s k p reserve keep None all = all
  stream-keeps s k p reserve keep (Some f) all = all-changed p (with_lock want.Shared) s.rows all

  snapshot-keeps : (s : State Text Own) (k : ℕ) (f : Option (FileRow Text)) → Keeps s → Keeps (takes_snapshot in_bytes s k f)
  snapshot-keeps s k None all = all
  snapshot-keeps s k (Some f) all = all

  closes-keeps : (s : State Text Own) (z : Sizes) (k n : ℕ) (w : Option StreamOutline) → Keeps s → Keeps (closes_stream in_bytes s z k n w)
  closes-keeps s z k n None all = all
  closes-keeps s z k n (Some w) all = all-changed w.file unlocked _ (all-changed w.file (replaced (content_of in_bytes (own_of (agent_of s k) n) z.size) (moment_of s k)) s.rows all)

  aborts-keeps : (s : State Text Own) (k n : ℕ) (w : Option StreamOutline) → Keeps s → Keeps (aborts_stream in_bytes s k n w)
  aborts-keeps s k n None all = all
  aborts-keeps s k n (Some w) all = all-changed w.file unlocked s.rows all

  file-keeps : (s : State Text Own) (k n : ℕ) (change : Text → Text) (cursor size : ℕ) (o : Option HandleOutline) → Keeps s → Keeps (changes_file in_bytes s k n change cursor size o)
  unfolding changes_file
  file-keeps s k n change cursor size None all = all
  file-keeps s k n change cursor size (Some o) all =
      let to : FileRow Text → FileRow Text = λ f. record f { present = change f.present; stamp = moment_of s k } in
      changed-keeps (with_file s o.file to) k n _ (all-changed o.file to s.rows all)

  written-keeps : (s : State Text Own) (m : Mode) (p : Place) (change : FileRow Text → FileRow Text) → Keeps s → Keeps (with_written s m p change)
  written-keeps s mode.ReadWrite p change all = all-changed p change s.rows all
  written-keeps s mode.ReadOnly p change all = all

  flushes-keeps : (s : State Text Own) (z : Sizes) (k n : ℕ) (o : Option HandleOutline) → Keeps s → Keeps (flushes in_bytes s z k n o)
  flushes-keeps s z k n None all = all
  flushes-keeps s z k n (Some o) all = changed-keeps (with_written s o.mode o.file flushed) k n _ (written-keeps s o.mode o.file flushed all)

  closed-keeps : (s : State Text Own) (k n : ℕ) (o : Option HandleOutline) → Keeps s → Keeps (closes_handle in_bytes s k n o)
  closed-keeps s k n None all = all
  closed-keeps s k n (Some o) all = all-changed o.file unlocked _ (written-keeps s o.mode o.file flushed all)

  discards-keeps : (s : State Text Own) (k n : ℕ) (o : Option HandleOutline) → Keeps s → Keeps (discards in_bytes s k n o)
  discards-keeps s k n None all = all
  discards-keeps s k n (Some o) all = all-changed o.file unlocked _ (written-keeps s o.mode o.file undone all)

  persists-keeps : (s : State Text Own) (bucket : Text) (grant : Bool) (key : Option Text) → Keeps s → Keeps (persists s bucket grant key)
  persists-keeps s bucket grant None all = all
  persists-keeps s bucket true (Some origin) all = all
  persists-keeps s bucket false (Some origin) all = all

  -- ---- a call

  found-keeps : (s : State Text Own) (p : Place) (r : Row Text) → is_some (row_at s p) ≡ true → Keeps s → Keeps (made s p r)
  found-keeps s p r there all =
      elim (row_at s p) as (λ o. is_some o ≡ true → Keeps (elim o as (λ x. State Text Own) [ Some old ↦ s | None ↦ with_row s p r ])) [
        | Some old ↦ λ is. all
        | None ↦ λ is. absurd (false≢true is)
      ] there

  effect-keeps : (s : State Text Own) (z : Sizes) (k : ℕ) (o : Op) → may_make o ≡ false → HasChild s o → Keeps s → Keeps (effect in_bytes s z k o)
  unfolding effect
  effect-keeps s z k (op.GetDirectory bucket) makes there all = absurd (true≢false makes)
  effect-keeps s z k (op.GetDirectoryHandle dir_at name create) makes there all = found-keeps s (child (place_of dir_at) name) row.Directory (there makes) all
  effect-keeps s z k (op.GetFileHandle dir_at name create) makes there all = found-keeps s (child (place_of dir_at) name) (new_row in_bytes kind.File (moment_of s k)) (there makes) all
  effect-keeps s z k (op.RemoveEntry dir_at name recursive) makes there all = all-without (child (place_of dir_at) name) s.rows all
  effect-keeps s z k (op.Next n dir_at) makes there all = changed-keeps s k n _ all
  effect-keeps s z k (op.GetFile at) makes there all = snapshot-keeps s k (file_at s (place_of at)) all
  effect-keeps s z k (op.CreateWritable at keep) makes there all = stream-keeps s k (place_of at) (first_reserve in_bytes s at keep) keep (file_at s (place_of at)) all
  effect-keeps s z k (op.Write n bytes position) makes there all = changed-keeps s k n _ all
  effect-keeps s z k (op.Seek n position) makes there all = changed-keeps s k n _ all
  effect-keeps s z k (op.Truncate n size) makes there all = changed-keeps s k n _ all
  effect-keeps s z k (op.Close n) makes there all = closes-keeps s z k n (open_stream in_bytes s k n) all
  effect-keeps s z k (op.Abort n) makes there all = aborts-keeps s k n (open_stream in_bytes s k n) all
  effect-keeps s z k (op.CreateSyncAccessHandle at m) makes there all = all-changed (place_of at) (with_lock (want_of m)) s.rows all
  effect-keeps s z k (op.SyncRead n len at) makes there all = changed-keeps s k n _ all
  effect-keeps s z k (op.SyncWrite n bytes at) makes there all = file-keeps s k n _ _ _ (open_handle in_bytes s k n) all
  effect-keeps s z k (op.SyncTruncate n size) makes there all = file-keeps s k n _ _ _ (open_handle in_bytes s k n) all
  effect-keeps s z k (op.SyncFlush n) makes there all = flushes-keeps s z k n (open_handle in_bytes s k n) all
  effect-keeps s z k (op.SyncClose n) makes there all = closed-keeps s k n (open_handle in_bytes s k n) all
  effect-keeps s z k (op.Persist bucket) makes there all = persists-keeps s bucket (agent_of s k).grant (agent_of s k).key all
  effect-keeps s z k (op.Discard n) makes there all = discards-keeps s k n (open_handle in_bytes s k n) all
  effect-keeps s z k o makes there all = all

  refused-keeps : (s : State Text Own) (k : ℕ) (o : Op) → Keeps s → Keeps (refused s k o)
  refused-keeps s k (op.Await tag) all = all
  refused-keeps s k o all = all

  gone-keeps : (gone : List Text) (s : State Text Own) → Keeps s → Keeps (fold evicted s gone)
  gone-keeps [] s all = all
  gone-keeps (unit ∷ gone) s all = gone-keeps gone (evicted s unit) (all-without (unit, []) s.rows all)

  -- After a call that makes no row, and its evictions, a directory's names still have what all had.
  pub after-keeps : (s : State Text Own) (gone : List Text) (k : ℕ) (o : Op) (told : Reply) → may_make o ≡ false → (is_refusal told ≡ false → HasChild (fold evicted s gone) o) → Keeps s → Keeps (after_reply (fold evicted s gone) k o told)
  after-keeps s gone k o told makes there all =
      let t = fold evicted s gone in
      let here = gone-keeps gone s all in
      elim (is_refusal told) as (λ b. (b ≡ false → HasChild t o) → Keeps (elim b as (λ x. State Text Own) [ true ↦ refused t k o | false ↦ effect in_bytes t (sizes_of t k o) k o ])) [
        | true ↦ λ has. refused-keeps t k o here
        | false ↦ λ has. effect-keeps t (sizes_of t k o) k o makes (has refl) here
      ] there
