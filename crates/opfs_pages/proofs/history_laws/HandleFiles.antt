-- An access handle's file keeps its bytes through each call that has another row in hand.
use Rattle.std.proofs.Common.{◌≡◌, ◌≢◌, ℕ, ◌+◌, ◌≤◌, zero, suc, Bool, true, false, cond, not, List, [], ◌∷◌, sum_by, flat_map, Option, Some, None, option_map, refl, sym, ap, ◌∙◌, subst, inl, inr, arith}
use Rattle.std.specs.Ordering.{eq_by_cmp}
use Rattle.std.proofs.lemmas.Bool.{false≢true, cases_eq}
use Rattle.std.proofs.lemmas.List.Sums.{sum_by-append, sum_by-cons}
use Rattle.opfs_base.specs.Places.{Place, place_cmp, place_of, child, is_within}
use Rattle.opfs_base.specs.Texts.{Text}
use Rattle.opfs_base.specs.Units.{unit_of}
use Rattle.opfs_base.specs.declared.locator.Kind.TheVariants as kind
use Rattle.opfs_data.specs.Rows.{IsOther}
use Rattle.opfs_hist.specs.declared.op.Mode.{Mode}
use Rattle.opfs_hist.specs.declared.op.Mode.TheVariants as mode
use Rattle.opfs_hist.specs.declared.op.Op.{Op}
use Rattle.opfs_hist.specs.declared.op.Op.TheVariants as op
use Rattle.opfs_locks.specs.Taking.{Lock, open_lock}
use Rattle.opfs_locks.specs.declared.LockValue.TheVariants as value
use Rattle.opfs_locks.specs.declared.Want.{Want}
use Rattle.opfs_locks.specs.declared.Want.TheVariants as want
use Rattle.opfs_machine.specs.declared.own.HandleOutline.{HandleOutline}
use Rattle.opfs_machine.specs.declared.own.HandleRow.{HandleRow}
use Rattle.opfs_machine.specs.declared.own.StreamOutline.{StreamOutline}
use Rattle.opfs_machine.specs.declared.own.Own.{Own}
use Rattle.opfs_machine.specs.declared.own.Own.TheVariants as own
use Rattle.opfs_machine.specs.declared.state.Agent.{Agent}
use Rattle.opfs_machine.specs.declared.state.FileRow.{FileRow}
use Rattle.opfs_machine.specs.declared.state.Row.{Row}
use Rattle.opfs_machine.specs.declared.state.Row.TheVariants as row
use Rattle.opfs_machine.specs.declared.state.Sizes.{Sizes}
use Rattle.opfs_machine.specs.declared.state.State.{State}
use Rattle.opfs_machine.specs.Agents.{agent_of, own_of, open_stream, open_handle, with_own}
use Rattle.opfs_machine.specs.Contents.{in_bytes}
use Rattle.opfs_machine.specs.Effects.{effect, refused, made, new_row, moment_of, opens_bucket, opens_stream, takes_snapshot, closes_stream, aborts_stream, changes_file, flushes, closes_handle, discards, persists, with_written, with_changed, with_lock, flushed, unlocked, undone, replaced, content_of}
use Rattle.opfs_machine.specs.Replies.{bytes_in, bytes_at}
use Rattle.opfs_machine.specs.Rows.{row_at, file_at, file_of, with_row, with_file, without, rows_within, first_locked}
use Rattle.opfs_machine.specs.Rulings.{want_of, is_read_write, first_reserve, lock_in}
use Rattle.opfs_laws.specs.Holders.{hold_of, counts, holders, IsLockOf, AreLocksOfHolders}
use Rattle.opfs_laws.proofs.Allowed.{IsAllowed}
use Rattle.opfs_laws.proofs.Apart.{no-handle-stream, no-handle-writer}
use Rattle.opfs_laws.proofs.Held.{one_of}
use Rattle.opfs_laws.proofs.LocksEffect.{IsHolder, stream-holder, handle-holder}
use Rattle.opfs_laws.proofs.LocksKept.{open-within, counts-here}
use Rattle.opfs_laws.proofs.OwnSums.{own_sum, part_of, parts_of, row-part, agent-get}
use Rattle.opfs_laws.proofs.Spots.{same_or_apart, same_place, file-changed, file-other, row-put, row-without}
use Rattle.opfs_pages.specs.HistoryLaws.Hands.{row_in_hand}

-- ---- two rows of one agent

sum-flat : {R : Type 0} (f : R → ℕ) (agents : List (Agent R)) → sum_by f (flat_map (λ a. a.own) agents) ≡ sum_by (λ a. sum_by f a.own) agents
sum-flat f [] = refl
sum-flat f (a ∷ agents) =
    sum_by-append f a.own (flat_map (λ a. a.own) agents) ∙ ap (λ n. sum_by f a.own + n) (sum-flat f agents) ∙ sym (sum_by-cons (λ a. sum_by f a.own) a agents)

own-two : {R : Type 0} (f : R → ℕ) (a : Agent R) (n m : ℕ) (r q : R) → own_of a n ≡ Some r → own_of a m ≡ Some q → n ≢ m → f r + f q ≤ sum_by f a.own
own-two f a zero m r q is too apart = cc
own-two f a (suc n) zero r q is too apart = cc
own-two f a (suc n) (suc m) r q is too apart = parts_of f a.own n m r q is too (λ e. apart (ap suc e))

two-rows : (f : Own → ℕ) (s : State Text Own) (k n m : ℕ) (r q : Own) → own_of (agent_of s k) n ≡ Some r → own_of (agent_of s k) m ≡ Some q → n ≢ m → f r + f q ≤ own_sum f s
two-rows f s zero zero m r q is too apart = cc
two-rows f s zero (suc n) m r q is too apart = cc
two-rows f s (suc i) n m r q is too apart =
    let rows = own-two f (agent_of s (suc i)) n m r q is too apart in
    let whole = part_of (λ a. sum_by f a.own) s.agents i (agent_of s (suc i)) (agent-get s i n r is) in
    omega (arith, rows, whole, sum-flat f s.agents)

writer-alone : (lock : Lock) (count : Want → ℕ) → IsLockOf lock count → 1 ≤ count want.Exclusive → 2 ≤ count want.Exclusive + count want.ReadOnly → ⊥
writer-alone (value.Free, n) count h one two = omega (arith, h.1.exclusive)
writer-alone (value.Exclusive, n) count h one two = omega (arith, h.1.exclusive, h.1.read_only)
writer-alone (value.Shared, n) count h one two = omega (arith, h.1.exclusive)
writer-alone (value.ReadOnly, n) count h one two = omega (arith, h.1.exclusive)

not-open : (lock : Lock) (count : Want → ℕ) (w : Want) → IsLockOf lock count → 1 ≤ count w → lock ≡ open_lock → ⊥
not-open lock count want.Exclusive h one is = let k = (subst (λ l. IsLockOf l count) is h).1.exclusive in omega (arith, k, one)
not-open lock count want.Shared h one is = let k = (subst (λ l. IsLockOf l count) is h).1.shared in omega (arith, k, one)
not-open lock count want.ReadOnly h one is = let k = (subst (λ l. IsLockOf l count) is h).1.read_only in omega (arith, k, one)

one-itself : (w : Want) → one_of w w ≡ 1
one-itself want.Exclusive = refl
one-itself want.Shared = refl
one-itself want.ReadOnly = refl

row-counts : (s : State Text Own) (k n : ℕ) (p : Place) (w : Want) (r : Own) → own_of (agent_of s k) n ≡ Some r → hold_of r ≡ Some (p, w) → 1 ≤ holders s p w
row-counts s k n p w r is holds =
    let part = row-part (λ x. counts p w (hold_of x)) s k n r is in
    let one = counts-here p w w r holds in
    omega (arith, part, one, one-itself w)

-- Another row of the agent that may write is on another file.
own-writer : (s : State Text Own) (k n m : ℕ) (h : HandleRow) (p : Place) → AreLocksOfHolders s → own_of (agent_of s k) n ≡ Some (own.Handle h) → n ≢ m
    → IsHolder (own_of (agent_of s k) m) p want.Exclusive → p ≢ h.file
own-writer s k n m h p locks is apart holder same =
    let one = row-counts s k m p want.Exclusive holder.row holder.is holder.holds in
    let held : hold_of (own.Handle h) ≡ Some (p, want_of h.mode) = ap (λ q. Some (q, want_of h.mode)) (sym same) in
    writer-alone (lock_in (file_at s p)) (holders s p) (locks p) one (of_mode h.mode refl held)
  where
    of_mode : (w : Mode) → h.mode ≡ w → hold_of (own.Handle h) ≡ Some (p, want_of h.mode) → 2 ≤ holders s p want.Exclusive + holders s p want.ReadOnly
    of_mode mode.ReadWrite kind_is held =
        let parts = two-rows (λ r. counts p want.Exclusive (hold_of r)) s k n m (own.Handle h) holder.row is holder.is apart in
        let here = counts-here p want.Exclusive want.Exclusive (own.Handle h) (held ∙ ap (λ w. Some (p, want_of w)) kind_is) in
        let there = counts-here p want.Exclusive want.Exclusive holder.row holder.holds in
        omega (arith, parts, here, there)
    of_mode mode.ReadOnly kind_is held =
        let one = row-counts s k m p want.Exclusive holder.row holder.is holder.holds in
        let reader = row-counts s k n p want.ReadOnly (own.Handle h) is (held ∙ ap (λ w. Some (p, want_of w)) kind_is) in
        omega (arith, one, reader)

-- ---- bytes of one file

bytes-option : (change : FileRow Text → FileRow Text) (f : Option (FileRow Text)) → ((g : FileRow Text) → (change g).present ≡ g.present) → bytes_in (option_map change f) ≡ bytes_in f
bytes-option change None keeps = refl
bytes-option change (Some f) keeps = keeps f

bytes-kept : (s : State Text Own) (p q : Place) (change : FileRow Text → FileRow Text) → ((f : FileRow Text) → (change f).present ≡ f.present) → bytes_at (with_file s p change) q ≡ bytes_at s q
bytes-kept s p q change keeps =
    elim (same_or_apart p q) as (λ x. bytes_at (with_file s p change) q ≡ bytes_at s q) [
      | inl same ↦ subst (λ r. bytes_at (with_file s p change) r ≡ bytes_at s r) same (ap bytes_in (file-changed s p change) ∙ bytes-option change (file_at s p) keeps)
      | inr other ↦ ap bytes_in (file-other s p q change other)
    ]

put-bytes : (r : Row Text) (old : Option (Row Text)) (b : Bool) → bytes_in (file_of (Some r)) ≡ [] → (b ≡ true → old ≡ None)
    → bytes_in (file_of (cond b (Some r) old)) ≡ bytes_in (file_of old)
put-bytes r old true plain free = plain ∙ sym (ap (λ o. bytes_in (file_of o)) (free refl))
put-bytes r old false plain free = refl

module _ (s : State Text Own) (p : Place) where
  abbrev pub Same : State Text Own → Type 0
  Same t = bytes_at t p ≡ bytes_at s p

  pub changed-same : (t : State Text Own) (j m : ℕ) (change : Own → Own) → Same t → Same (with_changed t j m change)
  unfolding with_changed
  changed-same t j m change h =
      elim (own_of (agent_of t j) m) as (λ o. Same (elim o as (λ x. State Text Own) [ Some r ↦ with_own t j m (change r) | None ↦ t ])) [ Some r ↦ h | None ↦ h ]

  kept-same : (t : State Text Own) (q : Place) (change : FileRow Text → FileRow Text) → ((f : FileRow Text) → (change f).present ≡ f.present) → Same t → Same (with_file t q change)
  kept-same t q change keeps h = bytes-kept t q p change keeps ∙ h

  written-same : (t : State Text Own) (m : Mode) (q : Place) (change : FileRow Text → FileRow Text) → ((f : FileRow Text) → (change f).present ≡ f.present) → Same t → Same (with_written t m q change)
  written-same t mode.ReadWrite q change keeps h = kept-same t q change keeps h
  written-same t mode.ReadOnly q change keeps h = h

  apart-same : (t : State Text Own) (q : Place) (change : FileRow Text → FileRow Text) → q ≢ p → Same t → Same (with_file t q change)
  apart-same t q change apart h = ap bytes_in (file-other t q p change apart) ∙ h

  made-same : (q : Place) (r : Row Text) → bytes_in (file_of (Some r)) ≡ [] → Same (made s q r)
  made-same q r plain =
      elim (row_at s q) as (λ o. row_at s q ≡ o → Same (elim o as (λ x. State Text Own) [ Some old ↦ s | None ↦ with_row s q r ])) [
        | Some old ↦ λ is. refl
        | None ↦ λ is. ap (λ o. bytes_in (file_of o)) (row-put s q p r) ∙ put-bytes r (row_at s p) (eq_by_cmp place_cmp p q) plain (λ same. ap (row_at s) (same_place p q same) ∙ is)
      ] refl

  bucket-same : (bucket : Text) (key : Option Text) → Same (opens_bucket s bucket key)
  bucket-same bucket None = refl
  bucket-same bucket (Some origin) = made-same (unit_of origin bucket, []) row.Directory refl

  persists-same : (bucket : Text) (grant : Bool) (key : Option Text) → Same (persists s bucket grant key)
  persists-same bucket grant None = refl
  persists-same bucket true (Some origin) = refl
  persists-same bucket false (Some origin) = refl

  snapshot-same : (j : ℕ) (f : Option (FileRow Text)) → Same (takes_snapshot in_bytes s j f)
  snapshot-same j None = refl
  snapshot-same j (Some f) = refl

  stream-same : (j : ℕ) (q : Place) (reserve : ℕ) (keep : Bool) (f : Option (FileRow Text)) → Same (opens_stream in_bytes s j q reserve keep f)
  stream-same j q reserve keep None = refl
  stream-same j q reserve keep (Some f) = kept-same s q (with_lock want.Shared) (λ f. refl) refl

  aborts-same : (j m : ℕ) (w : Option StreamOutline) → Same (aborts_stream in_bytes s j m w)
  aborts-same j m None = refl
  aborts-same j m (Some w) = kept-same s w.file unlocked (λ f. refl) refl

  flushes-same : (z : Sizes) (j m : ℕ) (o : Option HandleOutline) → Same (flushes in_bytes s z j m o)
  flushes-same z j m None = refl
  flushes-same z j m (Some o) = changed-same (with_written s o.mode o.file flushed) j m _ (written-same s o.mode o.file flushed (λ f. refl) refl)

  closed-same : (j m : ℕ) (o : Option HandleOutline) → Same (closes_handle in_bytes s j m o)
  closed-same j m None = refl
  closed-same j m (Some o) =
      let t = with_written s o.mode o.file flushed in
      kept-same t o.file unlocked (λ f. refl) (written-same s o.mode o.file flushed (λ f. refl) refl)

  pub refused-same : (j : ℕ) (o : Op) → Same (refused s j o)
  refused-same j (op.Await tag) = refl
  refused-same j o = refl

-- ---- the file of an access handle

exclusive : (m : Mode) → is_read_write m ≡ true → want_of m ≡ want.Exclusive
exclusive mode.ReadWrite h = refl
exclusive mode.ReadOnly h = absurd (false≢true h)

module _ (s : State Text Own) (j k n : ℕ) (h : HandleRow) (is : own_of (agent_of s k) n ≡ Some (own.Handle h)) (locks : AreLocksOfHolders s) where
  writer-apart : (m : ℕ) (o : HandleOutline) → IsOther j m k n → open_handle in_bytes s j m ≡ Some o → is_read_write o.mode ≡ true → o.file ≢ h.file
  writer-apart m o far there writes =
      let holder = subst (IsHolder (own_of (agent_of s j) m) o.file) (exclusive o.mode writes) (handle-holder (own_of (agent_of s j) m) o there) in
      elim (cases_eq k j) [
        | inr apart ↦ no-handle-writer s k j m o.file locks apart holder n h is
        | inl same ↦ own-writer s k n m h o.file locks is (λ e. far (same, e)) (subst (λ (x : ℕ). IsHolder (own_of (agent_of s x) m) o.file want.Exclusive) (sym same) holder)
      ]

  closes-same : (z : Sizes) (m : ℕ) (w : Option StreamOutline) → open_stream in_bytes s j m ≡ w → Same s h.file (closes_stream in_bytes s z j m w)
  closes-same z m None there = refl
  closes-same z m (Some w) there =
      let change = replaced (content_of in_bytes (own_of (agent_of s j) m) z.size) (moment_of s j) in
      let apart = no-handle-stream s k j m w.file locks (stream-holder (own_of (agent_of s j) m) w there) n h is in
      kept-same s h.file (with_file s w.file change) w.file unlocked (λ f. refl) (apart-same s h.file s w.file change apart refl)

  alters-same : (m : ℕ) (change : Text → Text) (cursor size : ℕ) (o : Option HandleOutline) → IsOther j m k n → open_handle in_bytes s j m ≡ o
      → (w : HandleOutline) × (open_handle in_bytes s j m ≡ Some w) × (is_read_write w.mode ≡ true) → Same s h.file (changes_file in_bytes s j m change cursor size o)
  unfolding changes_file
  alters-same m change cursor size None far there writes = refl
  alters-same m change cursor size (Some o) far there writes =
      let to : FileRow Text → FileRow Text = λ f. record f { present = change f.present; stamp = moment_of s j } in
      let same : writes.0 ≡ o = one (sym writes.1 ∙ there) in
      changed-same s h.file (with_file s o.file to) j m _ (apart-same s h.file s o.file to (writer-apart m o far there (subst (λ w. is_read_write w.mode ≡ true) same writes.2)) refl)
    where
      one : {a b : HandleOutline} → Some a ≡ Some b → a ≡ b
      one e = cc

  undone-same : (m : ℕ) (o : HandleOutline) (w : Mode) → o.mode ≡ w → IsOther j m k n → open_handle in_bytes s j m ≡ Some o → Same s h.file (with_written s w o.file undone)
  undone-same m o mode.ReadWrite kind_is far there = apart-same s h.file s o.file undone (writer-apart m o far there (ap is_read_write kind_is)) refl
  undone-same m o mode.ReadOnly kind_is far there = refl

  discards-same : (m : ℕ) (o : Option HandleOutline) → IsOther j m k n → open_handle in_bytes s j m ≡ o → Same s h.file (discards in_bytes s j m o)
  discards-same m None far there = refl
  discards-same m (Some o) far there =
      kept-same s h.file (with_written s o.mode o.file undone) o.file unlocked (λ f. refl) (undone-same m o o.mode refl far there)

  without-same : (p : Place) → first_locked (rows_within s p) ≡ None → Same s h.file (without s p)
  without-same p none =
      ap (λ o. bytes_in (file_of o)) (row-without s p h.file) ∙ elim (is_within p h.file) as (λ b. is_within p h.file ≡ b → bytes_in (file_of (cond (not b) (row_at s h.file) None)) ≡ bytes_at s h.file) [
        | true ↦ λ inside.
            absurd (not-open (lock_in (file_at s h.file)) (holders s h.file) (want_of h.mode) (locks h.file) (row-counts s k n h.file (want_of h.mode) (own.Handle h) is refl) (open-within s p h.file none inside locks))
        | false ↦ λ outside. refl
      ] refl

  pub effect-same : (z : Sizes) (o : Op) → IsAllowed s j o → IsOther j (row_in_hand s j o) k n → Same s h.file (effect in_bytes s z j o)
  unfolding effect row_in_hand
  effect-same z (op.GetDirectory bucket) may far = bucket-same s h.file bucket (agent_of s j).key
  effect-same z (op.GetDirectoryHandle dir name create) may far = made-same s h.file (child (place_of dir) name) row.Directory refl
  effect-same z (op.GetFileHandle dir name create) may far = made-same s h.file (child (place_of dir) name) (new_row in_bytes kind.File (moment_of s j)) refl
  effect-same z (op.RemoveEntry dir name recursive) may far = without-same (child (place_of dir) name) may
  effect-same z (op.Values dir) may far = refl
  effect-same z (op.Next m dir) may far = changed-same s h.file s j m _ refl
  effect-same z (op.GetFile at) may far = snapshot-same s h.file j (file_at s (place_of at))
  effect-same z (op.CreateWritable at keep) may far = stream-same s h.file j (place_of at) (first_reserve in_bytes s at keep) keep (file_at s (place_of at))
  effect-same z (op.Write m bytes position) may far = changed-same s h.file s j m _ refl
  effect-same z (op.Seek m position) may far = changed-same s h.file s j m _ refl
  effect-same z (op.Truncate m size) may far = changed-same s h.file s j m _ refl
  effect-same z (op.Close m) may far = closes-same z m (open_stream in_bytes s j m) refl
  effect-same z (op.Abort m) may far = aborts-same s h.file j m (open_stream in_bytes s j m)
  effect-same z (op.CreateSyncAccessHandle at m) may far = kept-same s h.file s (place_of at) (with_lock (want_of m)) (λ f. refl) refl
  effect-same z (op.SyncRead m len at) may far = changed-same s h.file s j m _ refl
  effect-same z (op.SyncWrite m bytes at) may far = alters-same m _ _ _ (open_handle in_bytes s j m) far refl may
  effect-same z (op.SyncTruncate m size) may far = alters-same m _ _ _ (open_handle in_bytes s j m) far refl may
  effect-same z (op.SyncFlush m) may far = flushes-same s h.file z j m (open_handle in_bytes s j m)
  effect-same z (op.SyncClose m) may far = closed-same s h.file j m (open_handle in_bytes s j m)
  effect-same z (op.Persist bucket) may far = persists-same s h.file bucket (agent_of s j).grant (agent_of s j).key
  effect-same z (op.Moment ms) may far = refl
  effect-same z (op.Post tag) may far = refl
  effect-same z (op.Await tag) may far = refl
  effect-same z (op.Wait tag) may far = refl
  effect-same z (op.Discard m) may far = discards-same m (open_handle in_bytes s j m) far refl
  effect-same z op.End may far = refl
  effect-same z o may far = refl
