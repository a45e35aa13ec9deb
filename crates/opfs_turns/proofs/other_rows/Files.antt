-- No call changes the bytes of a file on which its agent has another access handle.
use Rattle.std.proofs.Common.{◌≡◌, ◌≢◌, ℕ, ◌+◌, ◌≤◌, zero, suc, Bool, true, false, cond, not, List, [], ◌∷◌, Option, Some, None, option_map, sum_by, flat_map, refl, sym, ap, ◌∙◌, subst, inl, inr, arith}
use Rattle.std.specs.Ordering.{eq_by_cmp}
use Rattle.std.proofs.lemmas.Bool.{false≢true}
use Rattle.std.proofs.lemmas.List.Sums.{sum_by-append, sum_by-cons}
use Rattle.opfs_base.specs.Places.{Place, place_cmp, place_of, child, is_within}
use Rattle.opfs_base.specs.Texts.{Text}
use Rattle.opfs_base.specs.Units.{unit_of}
use Rattle.opfs_base.specs.declared.locator.Kind.TheVariants as kind
use Rattle.opfs_hist.specs.declared.op.Mode.{Mode}
use Rattle.opfs_hist.specs.declared.op.Mode.TheVariants as mode
use Rattle.opfs_hist.specs.declared.op.Op.{Op}
use Rattle.opfs_hist.specs.declared.op.Op.TheVariants as op
use Rattle.opfs_hist.specs.declared.reply.Reply.{Reply}
use Rattle.opfs_locks.specs.Taking.{Lock, open_lock}
use Rattle.opfs_locks.specs.declared.LockValue.TheVariants as value
use Rattle.opfs_locks.specs.declared.Want.{Want}
use Rattle.opfs_locks.specs.declared.Want.TheVariants as want
use Rattle.opfs_machine.specs.declared.own.HandleOutline.{HandleOutline}
use Rattle.opfs_machine.specs.declared.own.HandleRow.{HandleRow}
use Rattle.opfs_machine.specs.declared.own.StreamOutline.{StreamOutline}
use Rattle.opfs_machine.specs.declared.own.Own.{Own}
use Rattle.opfs_machine.specs.declared.own.Own.TheVariants as own
use Rattle.opfs_machine.specs.declared.state.Agent.{Agent}
use Rattle.opfs_machine.specs.declared.state.FileRow.{FileRow}
use Rattle.opfs_machine.specs.declared.state.Row.{Row}
use Rattle.opfs_machine.specs.declared.state.Row.TheVariants as row
use Rattle.opfs_machine.specs.declared.state.Sizes.{Sizes}
use Rattle.opfs_machine.specs.declared.state.State.{State}
use Rattle.opfs_machine.specs.Agents.{agent_of, own_of, open_stream, open_handle, with_own}
use Rattle.opfs_machine.specs.Contents.{in_bytes}
use Rattle.opfs_machine.specs.Effects.{effect, refused, made, new_row, moment_of, opens_bucket, opens_stream, takes_snapshot, closes_stream, aborts_stream, changes_file, flushes, closes_handle, discards, persists, with_written, with_changed, with_lock, flushed, unlocked, undone, replaced, content_of}
use Rattle.opfs_machine.specs.Replies.{bytes_in, bytes_at, sizes_of}
use Rattle.opfs_machine.specs.Rows.{row_at, file_at, file_of, with_row, with_file, without, rows_within, first_locked}
use Rattle.opfs_machine.specs.Rulings.{want_of, is_read_write, first_reserve, lock_in}
use Rattle.opfs_machine.specs.Steps.{changed_by, is_refusal}
use Rattle.opfs_laws.specs.Holders.{hold_of, counts, holders, IsLockOf, AreLocksOfHolders}
use Rattle.opfs_laws.specs.Leaving.{row_used}
use Rattle.opfs_laws.proofs.Allowed.{IsAllowed}
use Rattle.opfs_laws.proofs.Apart.{no-handle-stream}
use Rattle.opfs_laws.proofs.Held.{one_of}
use Rattle.opfs_laws.proofs.LocksEffect.{IsHolder, stream-holder, handle-holder}
use Rattle.opfs_laws.proofs.LocksKept.{open-within, counts-here}
use Rattle.opfs_laws.proofs.OwnSums.{own_sum, row-part, part_of, parts_of, agent-get}
use Rattle.opfs_laws.proofs.Spots.{same_or_apart, same_place, file-changed, file-other, row-put, row-without}

-- ---- two rows of one agent

sum_by-flat : (f : Own → ℕ) (agents : List (Agent Own)) → sum_by f (flat_map (λ a. a.own) agents) ≡ sum_by (λ (a : Agent Own). sum_by f a.own) agents
sum_by-flat f [] = refl
sum_by-flat f (a ∷ agents) =
    sum_by-append f a.own (flat_map (λ a. a.own) agents) ∙ ap (λ n. sum_by f a.own + n) (sum_by-flat f agents)
    ∙ sym (sum_by-cons (λ (x : Agent Own). sum_by f x.own) a agents)

own-parts : (f : Own → ℕ) (a : Agent Own) (n m : ℕ) (r q : Own) → own_of a n ≡ Some r → own_of a m ≡ Some q → n ≢ m → f r + f q ≤ sum_by f a.own
own-parts f a zero m r q is too other = cc
own-parts f a (suc n) zero r q is too other = cc
own-parts f a (suc n) (suc m) r q is too other = parts_of f a.own n m r q is too (λ e. other (ap suc e))

row-parts : (f : Own → ℕ) (s : State Text Own) (k n m : ℕ) (r q : Own) → own_of (agent_of s k) n ≡ Some r → own_of (agent_of s k) m ≡ Some q → n ≢ m
    → f r + f q ≤ own_sum f s
row-parts f s zero zero m r q is too other = cc
row-parts f s zero (suc n) m r q is too other = cc
row-parts f s (suc i) n m r q is too other =
    let both = own-parts f (agent_of s (suc i)) n m r q is too other in
    let whole = part_of (λ (a : Agent Own). sum_by f a.own) s.agents i (agent_of s (suc i)) (agent-get s i n r is) in
    omega (arith, both, whole, sum_by-flat f s.agents)

-- ---- what holders tell of a lock

not-open : (lock : Lock) (count : Want → ℕ) (w : Want) → IsLockOf lock count → 1 ≤ count w → lock ≡ open_lock → ⊥
not-open lock count want.Exclusive h one is = let k = (subst (λ l. IsLockOf l count) is h).1.exclusive in omega (arith, k, one)
not-open lock count want.Shared h one is = let k = (subst (λ l. IsLockOf l count) is h).1.shared in omega (arith, k, one)
not-open lock count want.ReadOnly h one is = let k = (subst (λ l. IsLockOf l count) is h).1.read_only in omega (arith, k, one)

writer-alone : (lock : Lock) (count : Want → ℕ) → IsLockOf lock count → 1 ≤ count want.Exclusive → 2 ≤ count want.Exclusive + count want.ReadOnly → ⊥
writer-alone (value.Free, n) count h one two = omega (arith, h.1.exclusive)
writer-alone (value.Exclusive, n) count h one two = omega (arith, h.1.exclusive, h.1.read_only)
writer-alone (value.Shared, n) count h one two = omega (arith, h.1.exclusive)
writer-alone (value.ReadOnly, n) count h one two = omega (arith, h.1.exclusive)

one_itself : (w : Want) → one_of w w ≡ 1
one_itself want.Exclusive = refl
one_itself want.Shared = refl
one_itself want.ReadOnly = refl

holder-counts : (s : State Text Own) (j m : ℕ) (p : Place) (w : Want) (r : Own) → own_of (agent_of s j) m ≡ Some r → hold_of r ≡ Some (p, w) → 1 ≤ holders s p w
holder-counts s j m p w r is holds =
    let part = row-part (λ x. counts p w (hold_of x)) s j m r is in
    let one = counts-here p w w r holds in
    omega (arith, part, one, one_itself w)

-- ---- one access handle, and the calls that use other rows

module _ (s : State Text Own) (k n : ℕ) (h : HandleRow) (there : own_of (agent_of s k) n ≡ Some (own.Handle h)) (locks : AreLocksOfHolders s) where
  abbrev q : Place
  q = h.file

  abbrev Same : State Text Own → Type 0
  Same t = bytes_at t h.file ≡ bytes_at s h.file

  bytes-option : (change : FileRow Text → FileRow Text) (f : Option (FileRow Text)) → ((g : FileRow Text) → (change g).present ≡ g.present) → bytes_in (option_map change f) ≡ bytes_in f
  bytes-option change None keeps = refl
  bytes-option change (Some f) keeps = keeps f

  -- A file whose present bytes stay.
  kept-at : (t : State Text Own) (p r : Place) (change : FileRow Text → FileRow Text) → ((f : FileRow Text) → (change f).present ≡ f.present) → bytes_at (with_file t p change) r ≡ bytes_at t r
  kept-at t p r change keeps =
      elim (same_or_apart p r) as (λ x. bytes_at (with_file t p change) r ≡ bytes_at t r) [
        | inl same ↦ subst (λ r. bytes_at (with_file t p change) r ≡ bytes_at t r) same (ap bytes_in (file-changed t p change) ∙ bytes-option change (file_at t p) keeps)
        | inr other ↦ ap bytes_in (file-other t p r change other)
      ]

  kept : (t : State Text Own) (p : Place) (change : FileRow Text → FileRow Text) → ((f : FileRow Text) → (change f).present ≡ f.present) → Same t → Same (with_file t p change)
  kept t p change keeps same = kept-at t p q change keeps ∙ same

  written : (t : State Text Own) (m : Mode) (p : Place) (change : FileRow Text → FileRow Text) → ((f : FileRow Text) → (change f).present ≡ f.present) → Same t → Same (with_written t m p change)
  written t mode.ReadWrite p change keeps same = kept t p change keeps same
  written t mode.ReadOnly p change keeps same = same

  other-file : (t : State Text Own) (p : Place) (change : FileRow Text → FileRow Text) → p ≢ q → Same t → Same (with_file t p change)
  other-file t p change other same = ap bytes_in (file-other t p q change other) ∙ same

  put-bytes : (r : Row Text) (old : Option (Row Text)) (b : Bool) → bytes_in (file_of (Some r)) ≡ [] → (b ≡ true → old ≡ None)
      → bytes_in (file_of (cond b (Some r) old)) ≡ bytes_in (file_of old)
  put-bytes r old true plain free = plain ∙ sym (ap (λ o. bytes_in (file_of o)) (free refl))
  put-bytes r old false plain free = refl

  made-same : (p : Place) (r : Row Text) → bytes_in (file_of (Some r)) ≡ [] → Same (made s p r)
  made-same p r plain =
      elim (row_at s p) as (λ o. row_at s p ≡ o → Same (elim o as (λ x. State Text Own) [ Some old ↦ s | None ↦ with_row s p r ])) [
        | Some old ↦ λ is. refl
        | None ↦ λ is.
            ap (λ o. bytes_in (file_of o)) (row-put s p q r)
            ∙ put-bytes r (row_at s q) (eq_by_cmp place_cmp q p) plain (λ same. ap (row_at s) (same_place q p same) ∙ is)
      ] refl

  without-same : (p : Place) → first_locked (rows_within s p) ≡ None → Same (without s p)
  without-same p none =
      ap (λ o. bytes_in (file_of o)) (row-without s p q) ∙ elim (is_within p q) as (λ b. is_within p q ≡ b → bytes_in (file_of (cond (not b) (row_at s q) None)) ≡ bytes_at s q) [
        | true ↦ λ inside.
            absurd (not-open (lock_in (file_at s q)) (holders s q) (want_of h.mode) (locks q)
            (holder-counts s k n q (want_of h.mode) (own.Handle h) there refl) (open-within s p q none inside locks))
        | false ↦ λ outside. refl
      ] refl

  bucket-same : (bucket : Text) (key : Option Text) → Same (opens_bucket s bucket key)
  bucket-same bucket None = refl
  bucket-same bucket (Some origin) = made-same (unit_of origin bucket, []) row.Directory refl

  changed-same : (t : State Text Own) (m : ℕ) (change : Own → Own) → Same t → Same (with_changed t k m change)
  unfolding with_changed
  changed-same t m change same =
      elim (own_of (agent_of t k) m) as (λ o. Same (elim o as (λ x. State Text Own) [ Some r ↦ with_own t k m (change r) | None ↦ t ])) [
        | Some r ↦ same
        | None ↦ same
      ]

  stream-same : (p : Place) (reserve : ℕ) (keep : Bool) (f : Option (FileRow Text)) → Same (opens_stream in_bytes s k p reserve keep f)
  stream-same p reserve keep None = refl
  stream-same p reserve keep (Some f) = kept s p (with_lock want.Shared) (λ f. refl) refl

  snapshot-same : (f : Option (FileRow Text)) → Same (takes_snapshot in_bytes s k f)
  snapshot-same None = refl
  snapshot-same (Some f) = refl

  closes-same : (z : Sizes) (m : ℕ) (w : Option StreamOutline) → open_stream in_bytes s k m ≡ w → Same (closes_stream in_bytes s z k m w)
  closes-same z m None is = refl
  closes-same z m (Some w) is =
      let change = replaced (content_of in_bytes (own_of (agent_of s k) m) z.size) (moment_of s k) in
      let none = no-handle-stream s k k m w.file locks (stream-holder (own_of (agent_of s k) m) w is) in
      kept (with_file s w.file change) w.file unlocked (λ f. refl) (other-file s w.file change (none n h there) refl)

  aborts-same : (m : ℕ) (w : Option StreamOutline) → Same (aborts_stream in_bytes s k m w)
  aborts-same m None = refl
  aborts-same m (Some w) = kept s w.file unlocked (λ f. refl) refl

  -- A handle that may write is alone on its file.
  writer-elsewhere : (m : ℕ) (o : HandleOutline) → n ≢ m → open_handle in_bytes s k m ≡ Some o → is_read_write o.mode ≡ true → o.file ≢ q
  writer-elsewhere m o other is writes same =
      writer-alone (lock_in (file_at s o.file)) (holders s o.file) (locks o.file)
      (holder-counts s k m o.file want.Exclusive holder.row holder.is holder.holds) (of_mode h.mode refl)
    where
      exclusive : (w : Mode) → is_read_write w ≡ true → want_of w ≡ want.Exclusive
      exclusive mode.ReadWrite h = refl
      exclusive mode.ReadOnly h = absurd (false≢true h)

      holder : IsHolder (own_of (agent_of s k) m) o.file want.Exclusive
      holder = subst (IsHolder (own_of (agent_of s k) m) o.file) (exclusive o.mode writes) (handle-holder (own_of (agent_of s k) m) o is)

      of_mode : (w : Mode) → h.mode ≡ w → 2 ≤ holders s o.file want.Exclusive + holders s o.file want.ReadOnly
      of_mode mode.ReadWrite kind_is =
          let parts = row-parts (λ r. counts o.file want.Exclusive (hold_of r)) s k n m (own.Handle h) holder.row there holder.is other in
          let here = counts-here o.file want.Exclusive want.Exclusive (own.Handle h) (ap (λ p. Some (p, want_of h.mode)) (sym same) ∙ ap (λ w. Some (o.file, want_of w)) kind_is) in
          let too = counts-here o.file want.Exclusive want.Exclusive holder.row holder.holds in
          omega (arith, parts, here, too)
      of_mode mode.ReadOnly kind_is =
          let one = holder-counts s k m o.file want.Exclusive holder.row holder.is holder.holds in
          let reader = holder-counts s k n o.file want.ReadOnly (own.Handle h) there (ap (λ p. Some (p, want_of h.mode)) (sym same) ∙ ap (λ w. Some (o.file, want_of w)) kind_is) in
          omega (arith, one, reader)

  changes-same : (m : ℕ) (change : Text → Text) (cursor size : ℕ) (o : Option HandleOutline) → n ≢ m → open_handle in_bytes s k m ≡ o
      → (g : HandleOutline) × (open_handle in_bytes s k m ≡ Some g) × (is_read_write g.mode ≡ true) → Same (changes_file in_bytes s k m change cursor size o)
  unfolding changes_file
  changes-same m change cursor size None other is writes = refl
  changes-same m change cursor size (Some o) other is writes =
      let to : FileRow Text → FileRow Text = λ f. record f { present = change f.present; stamp = moment_of s k } in
      let same : writes.0 ≡ o = one (sym writes.1 ∙ is) in
      changed-same (with_file s o.file to) m _
      (other-file s o.file to (writer-elsewhere m o other is (subst (λ g. is_read_write g.mode ≡ true) same writes.2)) refl)
    where
      one : {a b : HandleOutline} → Some a ≡ Some b → a ≡ b
      one e = cc

  flushes-same : (z : Sizes) (m : ℕ) (o : Option HandleOutline) → Same (flushes in_bytes s z k m o)
  flushes-same z m None = refl
  flushes-same z m (Some o) = changed-same (with_written s o.mode o.file flushed) m _ (written s o.mode o.file flushed (λ f. refl) refl)

  closed-same : (m : ℕ) (o : Option HandleOutline) → Same (closes_handle in_bytes s k m o)
  closed-same m None = refl
  closed-same m (Some o) = kept (with_written s o.mode o.file flushed) o.file unlocked (λ f. refl) (written s o.mode o.file flushed (λ f. refl) refl)

  undone-same : (m : ℕ) (o : HandleOutline) (w : Mode) → n ≢ m → o.mode ≡ w → open_handle in_bytes s k m ≡ Some o → Same (with_written s w o.file undone)
  undone-same m o mode.ReadWrite other kind_is is = other-file s o.file undone (writer-elsewhere m o other is (ap is_read_write kind_is)) refl
  undone-same m o mode.ReadOnly other kind_is is = refl

  discards-same : (m : ℕ) (o : Option HandleOutline) → n ≢ m → open_handle in_bytes s k m ≡ o → Same (discards in_bytes s k m o)
  discards-same m None other is = refl
  discards-same m (Some o) other is = kept (with_written s o.mode o.file undone) o.file unlocked (λ f. refl) (undone-same m o o.mode other refl is)

  persists-same : (bucket : Text) (grant : Bool) (key : Option Text) → Same (persists s bucket grant key)
  persists-same bucket grant None = refl
  persists-same bucket true (Some origin) = refl
  persists-same bucket false (Some origin) = refl

  effect-same : (z : Sizes) (o : Op) → n ≢ row_used o → IsAllowed s k o → Same (effect in_bytes s z k o)
  unfolding effect
  effect-same z (op.GetDirectory bucket) other may = bucket-same bucket (agent_of s k).key
  effect-same z (op.GetDirectoryHandle dir name create) other may = made-same (child (place_of dir) name) row.Directory refl
  effect-same z (op.GetFileHandle dir name create) other may = made-same (child (place_of dir) name) (new_row in_bytes kind.File (moment_of s k)) refl
  effect-same z (op.RemoveEntry dir name recursive) other may = without-same (child (place_of dir) name) may
  effect-same z (op.Values dir) other may = refl
  effect-same z (op.Next m dir) other may = changed-same s m _ refl
  effect-same z (op.GetFile at) other may = snapshot-same (file_at s (place_of at))
  effect-same z (op.CreateWritable at keep) other may = stream-same (place_of at) (first_reserve in_bytes s at keep) keep (file_at s (place_of at))
  effect-same z (op.Write m bytes position) other may = changed-same s m _ refl
  effect-same z (op.Seek m position) other may = changed-same s m _ refl
  effect-same z (op.Truncate m size) other may = changed-same s m _ refl
  effect-same z (op.Close m) other may = closes-same z m (open_stream in_bytes s k m) refl
  effect-same z (op.Abort m) other may = aborts-same m (open_stream in_bytes s k m)
  effect-same z (op.CreateSyncAccessHandle at m) other may = kept s (place_of at) (with_lock (want_of m)) (λ f. refl) refl
  effect-same z (op.SyncRead m len at) other may = changed-same s m _ refl
  effect-same z (op.SyncWrite m bytes at) other may = changes-same m _ _ _ (open_handle in_bytes s k m) other refl may
  effect-same z (op.SyncTruncate m size) other may = changes-same m _ _ _ (open_handle in_bytes s k m) other refl may
  effect-same z (op.SyncFlush m) other may = flushes-same z m (open_handle in_bytes s k m)
  effect-same z (op.SyncClose m) other may = closed-same m (open_handle in_bytes s k m)
  effect-same z (op.Persist bucket) other may = persists-same bucket (agent_of s k).grant (agent_of s k).key
  effect-same z (op.Moment ms) other may = refl
  effect-same z (op.Post tag) other may = refl
  effect-same z (op.Await tag) other may = refl
  effect-same z (op.Wait tag) other may = refl
  effect-same z (op.Discard m) other may = discards-same m (open_handle in_bytes s k m) other refl
  effect-same z op.End other may = refl
  effect-same z o other may = refl

  refused-same : (o : Op) → Same (refused s k o)
  refused-same (op.Await tag) = refl
  refused-same o = refl

  pub changed-bytes : (o : Op) (answered : Reply) → n ≢ row_used o → (is_refusal answered ≡ false → IsAllowed s k o) → Same (changed_by s k o answered)
  changed-bytes o answered other may =
      elim (is_refusal answered) as (λ b. (b ≡ false → IsAllowed s k o) → Same (elim b as (λ x. State Text Own) [ true ↦ refused s k o | false ↦ effect in_bytes s (sizes_of s k o) k o ])) [
        | true ↦ λ m. refused-same o
        | false ↦ λ m. effect-same (sizes_of s k o) o other (m refl)
      ] may
