-- No call of another agent changes what is an agent's own.
use Rattle.std.proofs.Common.{◌≡◌, ◌≢◌, ℕ, ◌+◌, ◌≤◌, zero, suc, Bool, true, false, cond, not, List, [], Option, Some, None, option_map, refl, sym, ap, ◌∙◌, subst, inl, inr, arith}
use Rattle.std.specs.Prelude.{slice_get}
use Rattle.std.specs.List.{filter_map}
use Rattle.std.specs.Ordering.{eq_by_cmp}
use Rattle.std.proofs.lemmas.Bool.{false≢true}
use Rattle.opfs_base.specs.Places.{Place, place_cmp, place_of, child, is_within}
use Rattle.opfs_base.specs.Texts.{Text}
use Rattle.opfs_base.specs.Units.{unit_of}
use Rattle.opfs_base.specs.declared.locator.Kind.TheVariants as kind
use Rattle.opfs_hist.specs.declared.op.Mode.{Mode}
use Rattle.opfs_hist.specs.declared.op.Mode.TheVariants as mode
use Rattle.opfs_hist.specs.declared.op.Op.{Op}
use Rattle.opfs_hist.specs.declared.op.Op.TheVariants as op
use Rattle.opfs_hist.specs.declared.reply.Reply.{Reply}
use Rattle.opfs_locks.specs.Taking.{Lock, open_lock}
use Rattle.opfs_locks.specs.declared.LockValue.TheVariants as value
use Rattle.opfs_locks.specs.declared.Want.{Want}
use Rattle.opfs_locks.specs.declared.Want.TheVariants as want
use Rattle.opfs_machine.specs.declared.own.HandleOutline.{HandleOutline}
use Rattle.opfs_machine.specs.declared.own.HandleRow.{HandleRow}
use Rattle.opfs_machine.specs.declared.own.StreamOutline.{StreamOutline}
use Rattle.opfs_machine.specs.declared.own.Own.{Own}
use Rattle.opfs_machine.specs.declared.own.Own.TheVariants as own
use Rattle.opfs_machine.specs.declared.state.Agent.{Agent}
use Rattle.opfs_machine.specs.declared.state.FileRow.{FileRow}
use Rattle.opfs_machine.specs.declared.state.Posted.{Posted}
use Rattle.opfs_machine.specs.declared.state.Row.{Row}
use Rattle.opfs_machine.specs.declared.state.Row.TheVariants as row
use Rattle.opfs_machine.specs.declared.state.Sizes.{Sizes}
use Rattle.opfs_machine.specs.declared.state.State.{State}
use Rattle.opfs_machine.specs.Agents.{agent_of, own_of, open_stream, open_handle, with_own, with_agent}
use Rattle.opfs_machine.specs.Contents.{in_bytes}
use Rattle.opfs_machine.specs.Effects.{effect, refused, made, new_row, moment_of, opens_bucket, opens_stream, takes_snapshot, closes_stream, aborts_stream, changes_file, flushes, closes_handle, discards, persists, with_written, with_changed, with_lock, flushed, unlocked, undone, replaced, content_of}
use Rattle.opfs_machine.specs.OwnRows.{mine, handle_file}
use Rattle.opfs_machine.specs.Replies.{bytes_in, bytes_at, sizes_of}
use Rattle.opfs_machine.specs.Rows.{row_at, file_at, file_of, with_row, with_file, without, rows_within, first_locked}
use Rattle.opfs_machine.specs.Rulings.{want_of, is_read_write, first_reserve, lock_in}
use Rattle.opfs_machine.specs.Steps.{evicted, changed_by, is_refusal}
use Rattle.opfs_laws.specs.Holders.{hold_of, counts, holders, IsLockOf, AreLocksOfHolders}
use Rattle.opfs_laws.proofs.Allowed.{IsAllowed}
use Rattle.opfs_laws.proofs.Held.{one_of}
use Rattle.opfs_laws.proofs.LocksEffect.{IsHolder, stream-holder, handle-holder, Untaken}
use Rattle.opfs_laws.proofs.LocksKept.{open-within, unit-open, counts-here}
use Rattle.opfs_laws.proofs.Numbers.{IsNumber, agent-other, filter_map-alike}
use Rattle.opfs_laws.proofs.OwnSums.{row-part, two-parts}
use Rattle.opfs_laws.proofs.Spots.{same_or_apart, same_place, file-changed, file-other, row-put, row-without}

-- What is an agent's own is the same in two states.
pub record IsApart (s t : State Text Own) (k : ℕ) : Type 0 where
  pub agent : agent_of t k ≡ agent_of s k
  pub files : (n : ℕ) (h : HandleRow) → own_of (agent_of s k) n ≡ Some (own.Handle h) → bytes_at t h.file ≡ bytes_at s h.file

files-mine : (s t : State Text Own) (k : ℕ) → IsApart s t k → (i : ℕ) (x : Own) → slice_get (agent_of s k).own i ≡ Some x → handle_file t x ≡ handle_file s x
files-mine s t k h i (own.Handle w) is = ap Some (h.files (suc i) w is)
files-mine s t k h i x is = refl

pub mine-apart : (s t : State Text Own) (k : ℕ) → IsApart s t k → mine t k ≡ mine s k
mine-apart s t k h =
    ap (λ a. record { rows = a.own; moment = a.moment; files = filter_map (handle_file t) a.own }) h.agent
    ∙ ap (λ files. record { rows = (agent_of s k).own; moment = (agent_of s k).moment; files = files })
    (filter_map-alike (handle_file t) (handle_file s) (agent_of s k).own (files-mine s t k h))

apart-refl : (s : State Text Own) (k : ℕ) → IsApart s s k
apart-refl s k = record { agent = refl; files = λ n h is. refl }

posted-apart : (s : State Text Own) (k : ℕ) (posted : List Posted) → IsApart s (record s { posted = posted }) k
posted-apart s zero posted = record { agent = refl; files = λ n h is. refl }
posted-apart s (suc i) posted = record { agent = refl; files = λ n h is. refl }

-- Another agent's change of its own agent.
apart-agent : (s t : State Text Own) (k j : ℕ) (a : Agent Own) → IsNumber t j → k ≢ j → IsApart s t k → IsApart s (with_agent t j a) k
apart-agent s t k j a number other h = record { agent = agent-other t j k a number other ∙ h.agent; files = λ n w is. h.files n w is }

apart-changed : (s t : State Text Own) (k j n : ℕ) (change : Own → Own) → IsNumber t j → k ≢ j → IsApart s t k → IsApart s (with_changed t j n change) k
unfolding with_changed
apart-changed s t k j n change number other h =
    elim (own_of (agent_of t j) n) as (λ o. IsApart s (elim o as (λ x. State Text Own) [ Some r ↦ with_own t j n (change r) | None ↦ t ]) k) [
      | Some r ↦ apart-agent s t k j _ number other h
      | None ↦ h
    ]

agent-rows : (s : State Text Own) (p : Place) (change : FileRow Text → FileRow Text) (k : ℕ) → agent_of (with_file s p change) k ≡ agent_of s k
agent-rows s p change zero = refl
agent-rows s p change (suc i) = refl

bytes-option : (change : FileRow Text → FileRow Text) (f : Option (FileRow Text)) → ((g : FileRow Text) → (change g).present ≡ g.present) → bytes_in (option_map change f) ≡ bytes_in f
bytes-option change None keeps = refl
bytes-option change (Some f) keeps = keeps f

-- A file whose present bytes stay.
bytes-kept : (s : State Text Own) (p q : Place) (change : FileRow Text → FileRow Text) → ((f : FileRow Text) → (change f).present ≡ f.present) → bytes_at (with_file s p change) q ≡ bytes_at s q
bytes-kept s p q change keeps =
    elim (same_or_apart p q) as (λ x. bytes_at (with_file s p change) q ≡ bytes_at s q) [
      | inl same ↦ subst (λ r. bytes_at (with_file s p change) r ≡ bytes_at s r) same (ap bytes_in (file-changed s p change) ∙ bytes-option change (file_at s p) keeps)
      | inr other ↦ ap bytes_in (file-other s p q change other)
    ]

apart-kept : (s t : State Text Own) (k : ℕ) (p : Place) (change : FileRow Text → FileRow Text) → ((f : FileRow Text) → (change f).present ≡ f.present) → IsApart s t k → IsApart s (with_file t p change) k
apart-kept s t k p change keeps h = record {
  agent = agent-rows t p change k ∙ h.agent;
  files = λ n w is. bytes-kept t p w.file change keeps ∙ h.files n w is;
}

apart-written : (s t : State Text Own) (k : ℕ) (m : Mode) (p : Place) (change : FileRow Text → FileRow Text) → ((f : FileRow Text) → (change f).present ≡ f.present) → IsApart s t k → IsApart s (with_written t m p change) k
apart-written s t k mode.ReadWrite p change keeps h = apart-kept s t k p change keeps h
apart-written s t k mode.ReadOnly p change keeps h = h

-- A file that none of the agent's access handles is on.
abbrev NoHandle : State Text Own → ℕ → Place → Type 0
NoHandle s k p = (n : ℕ) (h : HandleRow) → own_of (agent_of s k) n ≡ Some (own.Handle h) → p ≢ h.file

apart-file : (s t : State Text Own) (k : ℕ) (p : Place) (change : FileRow Text → FileRow Text) → NoHandle s k p → IsApart s t k → IsApart s (with_file t p change) k
apart-file s t k p change none h = record {
  agent = agent-rows t p change k ∙ h.agent;
  files = λ n w is. ap bytes_in (file-other t p w.file change (none n w is)) ∙ h.files n w is;
}

put-bytes : (r : Row Text) (old : Option (Row Text)) (b : Bool) → bytes_in (file_of (Some r)) ≡ [] → (b ≡ true → old ≡ None)
    → bytes_in (file_of (cond b (Some r) old)) ≡ bytes_in (file_of old)
put-bytes r old true plain free = plain ∙ sym (ap (λ o. bytes_in (file_of o)) (free refl))
put-bytes r old false plain free = refl

agent-put : (s : State Text Own) (p : Place) (r : Row Text) (k : ℕ) → agent_of (with_row s p r) k ≡ agent_of s k
agent-put s p r zero = refl
agent-put s p r (suc i) = refl

apart-made : (s : State Text Own) (k : ℕ) (p : Place) (r : Row Text) → bytes_in (file_of (Some r)) ≡ [] → IsApart s (made s p r) k
apart-made s k p r plain =
    elim (row_at s p) as (λ o. row_at s p ≡ o → IsApart s (elim o as (λ x. State Text Own) [ Some old ↦ s | None ↦ with_row s p r ]) k) [
      | Some old ↦ λ is. apart-refl s k
      | None ↦ λ is. record {
        agent = agent-put s p r k;
        files = λ n h there. ap (λ o. bytes_in (file_of o)) (row-put s p h.file r)
            ∙ put-bytes r (row_at s h.file) (eq_by_cmp place_cmp h.file p) plain (λ same. ap (row_at s) (same_place h.file p same) ∙ is);
      }
    ] refl

-- What two holders tell of a lock.
not-open : (lock : Lock) (count : Want → ℕ) (w : Want) → IsLockOf lock count → 1 ≤ count w → lock ≡ open_lock → ⊥
not-open lock count want.Exclusive h one is = let k = (subst (λ l. IsLockOf l count) is h).1.exclusive in omega (arith, k, one)
not-open lock count want.Shared h one is = let k = (subst (λ l. IsLockOf l count) is h).1.shared in omega (arith, k, one)
not-open lock count want.ReadOnly h one is = let k = (subst (λ l. IsLockOf l count) is h).1.read_only in omega (arith, k, one)

stream-alone : (lock : Lock) (count : Want → ℕ) → IsLockOf lock count → 1 ≤ count want.Shared → 1 ≤ count want.Exclusive + count want.ReadOnly → ⊥
stream-alone (value.Free, n) count h one two = omega (arith, h.1.shared)
stream-alone (value.Exclusive, n) count h one two = omega (arith, h.1.shared)
stream-alone (value.Shared, n) count h one two = omega (arith, h.1.exclusive, h.1.read_only)
stream-alone (value.ReadOnly, n) count h one two = omega (arith, h.1.shared)

writer-alone : (lock : Lock) (count : Want → ℕ) → IsLockOf lock count → 1 ≤ count want.Exclusive → 2 ≤ count want.Exclusive + count want.ReadOnly → ⊥
writer-alone (value.Free, n) count h one two = omega (arith, h.1.exclusive)
writer-alone (value.Exclusive, n) count h one two = omega (arith, h.1.exclusive, h.1.read_only)
writer-alone (value.Shared, n) count h one two = omega (arith, h.1.exclusive)
writer-alone (value.ReadOnly, n) count h one two = omega (arith, h.1.exclusive)

handle-counts : (s : State Text Own) (k n : ℕ) (h : HandleRow) → own_of (agent_of s k) n ≡ Some (own.Handle h) → 1 ≤ holders s h.file (want_of h.mode)
handle-counts s k n h is =
    let part = row-part (λ r. counts h.file (want_of h.mode) (hold_of r)) s k n (own.Handle h) is in
    let one = counts-here h.file (want_of h.mode) (want_of h.mode) (own.Handle h) refl in
    let same : one_of (want_of h.mode) (want_of h.mode) ≡ 1 = one_itself h.mode in
    omega (arith, part, one, same)
  where
    one_itself : (m : Mode) → one_of (want_of m) (want_of m) ≡ 1
    one_itself mode.ReadWrite = refl
    one_itself mode.ReadOnly = refl

handle-sum : (s : State Text Own) (k n : ℕ) (h : HandleRow) → own_of (agent_of s k) n ≡ Some (own.Handle h) → 1 ≤ holders s h.file want.Exclusive + holders s h.file want.ReadOnly
handle-sum s k n h is = of_mode h.mode (handle-counts s k n h is)
  where
    of_mode : (m : Mode) → 1 ≤ holders s h.file (want_of m) → 1 ≤ holders s h.file want.Exclusive + holders s h.file want.ReadOnly
    of_mode mode.ReadWrite one = omega arith
    of_mode mode.ReadOnly one = omega arith

holder-counts : (s : State Text Own) (j m : ℕ) (p : Place) (w : Want) → IsHolder (own_of (agent_of s j) m) p w → 1 ≤ holders s p w
holder-counts s j m p w holder =
    let part = row-part (λ r. counts p w (hold_of r)) s j m holder.row holder.is in
    let one = counts-here p w w holder.row holder.holds in
    let same : one_of w w ≡ 1 = one_itself w in
    omega (arith, part, one, same)
  where
    one_itself : (w : Want) → one_of w w ≡ 1
    one_itself want.Exclusive = refl
    one_itself want.Shared = refl
    one_itself want.ReadOnly = refl

pub no-handle-stream : (s : State Text Own) (k j m : ℕ) (p : Place) → AreLocksOfHolders s → IsHolder (own_of (agent_of s j) m) p want.Shared → NoHandle s k p
no-handle-stream s k j m p locks holder n h is same =
    stream-alone (lock_in (file_at s p)) (holders s p) (locks p) (holder-counts s j m p want.Shared holder)
    (subst (λ q. 1 ≤ holders s q want.Exclusive + holders s q want.ReadOnly) (sym same) (handle-sum s k n h is))

pub no-handle-writer : (s : State Text Own) (k j m : ℕ) (p : Place) → AreLocksOfHolders s → k ≢ j → IsHolder (own_of (agent_of s j) m) p want.Exclusive → NoHandle s k p
no-handle-writer s k j m p locks apart holder n h is same =
    let one = holder-counts s j m p want.Exclusive holder in
    writer-alone (lock_in (file_at s p)) (holders s p) (locks p) one (of_mode h.mode refl)
  where
    of_mode : (w : Mode) → h.mode ≡ w → 2 ≤ holders s p want.Exclusive + holders s p want.ReadOnly
    of_mode mode.ReadWrite kind_is =
        let parts = two-parts (λ r. counts p want.Exclusive (hold_of r)) s k j n m (own.Handle h) holder.row is holder.is apart in
        let here = counts-here p want.Exclusive want.Exclusive (own.Handle h) (ap (λ q. Some (q, want_of h.mode)) (sym same) ∙ ap (λ w. Some (p, want_of w)) kind_is) in
        let there = counts-here p want.Exclusive want.Exclusive holder.row holder.holds in
        omega (arith, parts, here, there)
    of_mode mode.ReadOnly kind_is =
        let one = holder-counts s j m p want.Exclusive holder in
        let reader : 1 ≤ holders s p want.ReadOnly = subst (λ w. 1 ≤ holders s p (want_of w)) kind_is (subst (λ q. 1 ≤ holders s q (want_of h.mode)) (sym same) (handle-counts s k n h is)) in
        omega (arith, one, reader)

-- What goes holds no file of an open access handle.
apart-without : (s : State Text Own) (k : ℕ) (p : Place) → first_locked (rows_within s p) ≡ None → AreLocksOfHolders s → IsApart s (without s p) k
apart-without s k p none locks = record {
  agent = agent_same k;
  files = λ n h is. ap (λ o. bytes_in (file_of o)) (row-without s p h.file) ∙ elim (is_within p h.file) as (λ b. is_within p h.file ≡ b → bytes_in (file_of (cond (not b) (row_at s h.file) None)) ≡ bytes_at s h.file) [
    | true ↦ λ inside. absurd (not-open (lock_in (file_at s h.file)) (holders s h.file) (want_of h.mode) (locks h.file) (handle-counts s k n h is) (open-within s p h.file none inside locks))
    | false ↦ λ outside. refl
  ] refl;
}
  where
    agent_same : (k : ℕ) → agent_of (without s p) k ≡ agent_of s k
    agent_same zero = refl
    agent_same (suc i) = refl

pub apart-evicted : (s : State Text Own) (k : ℕ) (unit : Text) → Untaken s unit → AreLocksOfHolders s → IsApart s (evicted s unit) k
apart-evicted s k unit none locks =
    let h = apart-without s k (unit, []) (unit-open s unit none) locks in
    record { agent = same k ∙ h.agent; files = λ n w is. h.files n w is }
  where
    same : (k : ℕ) → agent_of (evicted s unit) k ≡ agent_of (without s (unit, [])) k
    same zero = refl
    same (suc i) = refl

bucket-apart : (s : State Text Own) (k : ℕ) (bucket : Text) (key : Option Text) → IsApart s (opens_bucket s bucket key) k
bucket-apart s k bucket None = apart-refl s k
bucket-apart s k bucket (Some origin) = apart-made s k (unit_of origin bucket, []) row.Directory refl

number-file : (s : State Text Own) (k : ℕ) (p : Place) (change : FileRow Text → FileRow Text) → IsNumber s k → IsNumber (with_file s p change) k
number-file s k p change h = record { index = h.index; is = h.is; within = h.within }

number-written : (s : State Text Own) (k : ℕ) (m : Mode) (p : Place) (change : FileRow Text → FileRow Text) → IsNumber s k → IsNumber (with_written s m p change) k
number-written s k mode.ReadWrite p change h = number-file s k p change h
number-written s k mode.ReadOnly p change h = h

module _ (s : State Text Own) (j k : ℕ) (number : IsNumber s j) (other : k ≢ j) (locks : AreLocksOfHolders s) where
  stream-apart : (p : Place) (reserve : ℕ) (keep : Bool) (f : Option (FileRow Text)) → IsApart s (opens_stream in_bytes s j p reserve keep f) k
  stream-apart p reserve keep None = apart-refl s k
  stream-apart p reserve keep (Some f) =
      apart-agent s (with_file s p (with_lock want.Shared)) k j _ (number-file s j p (with_lock want.Shared) number) other
      (apart-kept s s k p (with_lock want.Shared) (λ f. refl) (apart-refl s k))

  snapshot-apart : (f : Option (FileRow Text)) → IsApart s (takes_snapshot in_bytes s j f) k
  snapshot-apart None = apart-refl s k
  snapshot-apart (Some f) = apart-agent s s k j _ number other (apart-refl s k)

  closes-apart : (z : Sizes) (n : ℕ) (w : Option StreamOutline) → open_stream in_bytes s j n ≡ w → IsApart s (closes_stream in_bytes s z j n w) k
  closes-apart z n None is = apart-refl s k
  closes-apart z n (Some w) is =
      let change = replaced (content_of in_bytes (own_of (agent_of s j) n) z.size) (moment_of s j) in
      let none = no-handle-stream s k j n w.file locks (stream-holder (own_of (agent_of s j) n) w is) in
      let t = with_file (with_file s w.file change) w.file unlocked in
      apart-agent s t k j _ (record { index = number.index; is = number.is; within = number.within }) other
      (apart-kept s (with_file s w.file change) k w.file unlocked (λ f. refl) (apart-file s s k w.file change none (apart-refl s k)))

  aborts-apart : (n : ℕ) (w : Option StreamOutline) → IsApart s (aborts_stream in_bytes s j n w) k
  aborts-apart n None = apart-refl s k
  aborts-apart n (Some w) =
      apart-agent s (with_file s w.file unlocked) k j _ (number-file s j w.file unlocked number) other (apart-kept s s k w.file unlocked (λ f. refl) (apart-refl s k))

  writer-of : (n : ℕ) (o : HandleOutline) → open_handle in_bytes s j n ≡ Some o → is_read_write o.mode ≡ true → NoHandle s k o.file
  writer-of n o is writes =
      no-handle-writer s k j n o.file locks other (subst (IsHolder (own_of (agent_of s j) n) o.file) (exclusive o.mode writes) (handle-holder (own_of (agent_of s j) n) o is))
    where
      exclusive : (m : Mode) → is_read_write m ≡ true → want_of m ≡ want.Exclusive
      exclusive mode.ReadWrite h = refl
      exclusive mode.ReadOnly h = absurd (false≢true h)

  changes-apart : (n : ℕ) (change : Text → Text) (cursor size : ℕ) (o : Option HandleOutline) → open_handle in_bytes s j n ≡ o
      → (h : HandleOutline) × (open_handle in_bytes s j n ≡ Some h) × (is_read_write h.mode ≡ true) → IsApart s (changes_file in_bytes s j n change cursor size o) k
  unfolding changes_file
  changes-apart n change cursor size None is writes = apart-refl s k
  changes-apart n change cursor size (Some o) is writes =
      let to : FileRow Text → FileRow Text = λ f. record f { present = change f.present; stamp = moment_of s j } in
      let same : writes.0 ≡ o = one (sym writes.1 ∙ is) in
      apart-changed s (with_file s o.file to) k j n _ (number-file s j o.file to number) other
      (apart-file s s k o.file to (writer-of n o is (subst (λ h. is_read_write h.mode ≡ true) same writes.2)) (apart-refl s k))
    where
      one : {a b : HandleOutline} → Some a ≡ Some b → a ≡ b
      one e = cc

  flushes-apart : (z : Sizes) (n : ℕ) (o : Option HandleOutline) → IsApart s (flushes in_bytes s z j n o) k
  flushes-apart z n None = apart-refl s k
  flushes-apart z n (Some o) =
      apart-changed s (with_written s o.mode o.file flushed) k j n _ (number-written s j o.mode o.file flushed number) other
      (apart-written s s k o.mode o.file flushed (λ f. refl) (apart-refl s k))

  closed-apart : (n : ℕ) (o : Option HandleOutline) → IsApart s (closes_handle in_bytes s j n o) k
  closed-apart n None = apart-refl s k
  closed-apart n (Some o) =
      let t = with_written s o.mode o.file flushed in
      apart-agent s (with_file t o.file unlocked) k j _ (number-file t j o.file unlocked (number-written s j o.mode o.file flushed number)) other
      (apart-kept s t k o.file unlocked (λ f. refl) (apart-written s s k o.mode o.file flushed (λ f. refl) (apart-refl s k)))

  undone-apart : (n : ℕ) (o : HandleOutline) (m : Mode) → o.mode ≡ m → open_handle in_bytes s j n ≡ Some o → IsApart s (with_written s m o.file undone) k
  undone-apart n o mode.ReadWrite kind_is is = apart-file s s k o.file undone (writer-of n o is (ap is_read_write kind_is)) (apart-refl s k)
  undone-apart n o mode.ReadOnly kind_is is = apart-refl s k

  discards-apart : (n : ℕ) (o : Option HandleOutline) → open_handle in_bytes s j n ≡ o → IsApart s (discards in_bytes s j n o) k
  discards-apart n None is = apart-refl s k
  discards-apart n (Some o) is =
      let t = with_written s o.mode o.file undone in
      apart-agent s (with_file t o.file unlocked) k j _ (number-file t j o.file unlocked (number-written s j o.mode o.file undone number)) other
      (apart-kept s t k o.file unlocked (λ f. refl) (undone-apart n o o.mode refl is))

  persists-apart : (bucket : Text) (grant : Bool) (key : Option Text) → IsApart s (persists s bucket grant key) k
  persists-apart bucket grant None = apart-refl s k
  persists-apart bucket true (Some origin) = record { agent = same k; files = λ n h is. refl }
    where
      same : (k : ℕ) → agent_of (persists s bucket true (Some origin)) k ≡ agent_of s k
      same zero = refl
      same (suc i) = refl
  persists-apart bucket false (Some origin) = apart-refl s k

  own-apart : (a : Agent Own) → IsApart s (with_agent s j a) k
  own-apart a = apart-agent s s k j a number other (apart-refl s k)

  row-apart : (n : ℕ) (change : Own → Own) → IsApart s (with_changed s j n change) k
  row-apart n change = apart-changed s s k j n change number other (apart-refl s k)

  pub effect-apart : (z : Sizes) (o : Op) → IsAllowed s j o → IsApart s (effect in_bytes s z j o) k
  unfolding effect
  effect-apart z (op.GetDirectory bucket) may = bucket-apart s k bucket (agent_of s j).key
  effect-apart z (op.GetDirectoryHandle dir name create) may = apart-made s k (child (place_of dir) name) row.Directory refl
  effect-apart z (op.GetFileHandle dir name create) may = apart-made s k (child (place_of dir) name) (new_row in_bytes kind.File (moment_of s j)) refl
  effect-apart z (op.RemoveEntry dir name recursive) may = apart-without s k (child (place_of dir) name) may locks
  effect-apart z (op.Values dir) may = own-apart _
  effect-apart z (op.Next n dir) may = row-apart n _
  effect-apart z (op.GetFile at) may = snapshot-apart (file_at s (place_of at))
  effect-apart z (op.CreateWritable at keep) may = stream-apart (place_of at) (first_reserve in_bytes s at keep) keep (file_at s (place_of at))
  effect-apart z (op.Write n bytes position) may = row-apart n _
  effect-apart z (op.Seek n position) may = row-apart n _
  effect-apart z (op.Truncate n size) may = row-apart n _
  effect-apart z (op.Close n) may = closes-apart z n (open_stream in_bytes s j n) refl
  effect-apart z (op.Abort n) may = aborts-apart n (open_stream in_bytes s j n)
  effect-apart z (op.CreateSyncAccessHandle at m) may =
      apart-agent s (with_file s (place_of at) (with_lock (want_of m))) k j _ (number-file s j (place_of at) (with_lock (want_of m)) number) other
      (apart-kept s s k (place_of at) (with_lock (want_of m)) (λ f. refl) (apart-refl s k))
  effect-apart z (op.SyncRead n len at) may = row-apart n _
  effect-apart z (op.SyncWrite n bytes at) may = changes-apart n _ _ _ (open_handle in_bytes s j n) refl may
  effect-apart z (op.SyncTruncate n size) may = changes-apart n _ _ _ (open_handle in_bytes s j n) refl may
  effect-apart z (op.SyncFlush n) may = flushes-apart z n (open_handle in_bytes s j n)
  effect-apart z (op.SyncClose n) may = closed-apart n (open_handle in_bytes s j n)
  effect-apart z (op.Persist bucket) may = persists-apart bucket (agent_of s j).grant (agent_of s j).key
  effect-apart z (op.Moment ms) may = own-apart _
  effect-apart z (op.Post tag) may = posted-apart s k _
  effect-apart z (op.Await tag) may = own-apart _
  effect-apart z (op.Wait tag) may = own-apart _
  effect-apart z (op.Discard n) may = discards-apart n (open_handle in_bytes s j n) refl
  effect-apart z op.End may = own-apart _
  effect-apart z o may = apart-refl s k

  refused-apart : (o : Op) → IsApart s (refused s j o) k
  refused-apart (op.Await tag) = own-apart _
  refused-apart o = apart-refl s k

  pub changed-apart : (o : Op) (answered : Reply) → (is_refusal answered ≡ false → IsAllowed s j o) → IsApart s (changed_by s j o answered) k
  changed-apart o answered may =
      elim (is_refusal answered) as (λ b. (b ≡ false → IsAllowed s j o) → IsApart s (elim b as (λ x. State Text Own) [ true ↦ refused s j o | false ↦ effect in_bytes s (sizes_of s j o) j o ]) k) [
        | true ↦ λ m. refused-apart o
        | false ↦ λ m. effect-apart (sizes_of s j o) o (m refl)
      ] may
