-- What a ruling refuses for a lock.
use Rattle.std.proofs.Common.{◌≡◌, ℕ, Bool, true, false, [], ◌∷◌, Option, Some, None, Ok, Err, refl, sym, ap, ◌∙◌, subst}
use Rattle.std.proofs.lemmas.Bool.{false≢true}
use Rattle.std.specs.Prelude.{◌||◌, is_some, not}
use Rattle.opfs_base.specs.declared.locator.Kind.{Kind}
use Rattle.opfs_base.specs.declared.locator.Kind.TheVariants as kind
use Rattle.opfs_base.specs.declared.locator.Locator.{Locator}
use Rattle.opfs_base.specs.Names.{is_valid_name, fits_limits}
use Rattle.opfs_base.specs.Places.{Place, place_of, child}
use Rattle.opfs_base.specs.Texts.{Text}
use Rattle.opfs_base.specs.Units.{is_bucket_name}
use Rattle.opfs_hist.specs.declared.op.Mode.{Mode}
use Rattle.opfs_hist.specs.declared.op.Op.{Op}
use Rattle.opfs_hist.specs.declared.op.Op.TheVariants as op
use Rattle.opfs_hist.specs.declared.reply.Refusal.{Refusal}
use Rattle.opfs_hist.specs.declared.reply.Refusal.TheVariants as refusal
use Rattle.opfs_locks.specs.Taking.{Lock, taken, is_open, open_lock}
use Rattle.opfs_locks.specs.declared.LockValue.{LockValue}
use Rattle.opfs_locks.specs.declared.Want.{Want}
use Rattle.opfs_locks.specs.declared.Want.TheVariants as want
use Rattle.opfs_machine.specs.declared.own.HandleOutline.{HandleOutline}
use Rattle.opfs_machine.specs.declared.own.Own.{Own}
use Rattle.opfs_machine.specs.declared.state.FileRow.{FileRow}
use Rattle.opfs_machine.specs.declared.state.Need.{Need}
use Rattle.opfs_machine.specs.declared.state.Row.{Row}
use Rattle.opfs_machine.specs.declared.state.Row.TheVariants as row
use Rattle.opfs_machine.specs.declared.state.Sizes.{Sizes}
use Rattle.opfs_machine.specs.declared.state.State.{State}
use Rattle.opfs_machine.specs.Agents.{own_of, agent_of, open_stream, open_handle, is_posted, party_of}
use Rattle.opfs_machine.specs.Contents.{in_bytes}
use Rattle.opfs_machine.specs.Replies.{sizes_of, origin_in}
use Rattle.opfs_machine.specs.Rows.{Rows, row_at, file_at, is_located, is_of_kind, has_children, rows_within, first_locked}
use Rattle.opfs_machine.specs.Ruled.{Ruled, ◌>>=◌, ◌>>◌, unless, some_or}
use Rattle.opfs_machine.specs.Rulings.{get_directory_ruling, get_handle_ruling, child_ruling, remove_entry_ruling, none_locked, located_ruling, create_writable_ruling, grow_stream_ruling, stream_ruling, create_sync_ruling, grow_handle_ruling, handle_ruling, persist_ruling, persisted_ruling, estimate_ruling, await_ruling, ruling, takes_lock, locked_by, lock_in, want_of, is_read_write, size_written}
use Rattle.opfs_machine.specs.Steps.{room_for, judged}
use Rattle.opfs_machine.specs.Sums.{usage, pool, charge, fits_quota, fits_area}
use Rattle.opfs_machine.specs.Victims.{victims}
use Rattle.opfs_laws.specs.Holders.{AreLocksOfHolders}
use Rattle.opfs_laws.specs.LockRefusals.{IsReadOnly, IsNotGiven, IsFirstLocked, RefusedAt}
use Rattle.opfs_laws.proofs.LocksEffect.{handle-holder}
use Rattle.opfs_laws.proofs.Wholes.{file-there}

abbrev pub is_lock_refusal : Refusal → Bool
is_lock_refusal (refusal.NoModificationAllowedError v n) = true
is_lock_refusal r = false

abbrev lock_told : Refusal → Lock
lock_told (refusal.NoModificationAllowedError v n) = (v, n)
lock_told r = open_lock

-- What refuses for a lock has its cause.
pub data Caused {A : Type 0} (P : Lock → Type 0) : Ruled A → Type 0 where
  fine : (x : A) → Caused P (Ok x)
  other : (r : Refusal) → is_lock_refusal r ≡ false → Caused P (Err r)
  locked : (lock : Lock) → P lock → Caused P (Err (locked_by lock))

abbrev refusal_of : {A : Type 0} → Ruled A → Refusal
refusal_of (Ok x) = refusal.TypeError
refusal_of (Err r) = r

pub cause_of : {A : Type 0} (P : Lock → Type 0) (m : Ruled A) (value : LockValue) (count : ℕ)
    → Caused P m → m ≡ Err (refusal.NoModificationAllowedError value count) → P (value, count)
cause_of P (Ok a) v n (fine x) h = cc
cause_of P (Err e) v n (other r plain) h =
    absurd (false≢true (sym plain ∙ ap (λ m. is_lock_refusal (refusal_of m)) h))
cause_of P (Err e) v n (locked lock p) h = subst P (ap (λ m. lock_told (refusal_of m)) h) p

module _ {P : Lock → Type 0} where
  pub bind_caused : {A B : Type 0} {m : Ruled A} {f : A → Ruled B} → Caused P m → ((a : A) → m ≡ Ok a → Caused P (f a)) → Caused P (m >>= f)
  unfolding ◌>>=◌
  bind_caused (fine x) g = g x refl
  bind_caused (other r h) g = other r h
  bind_caused (locked lock h) g = locked lock h

  pub then_caused : {B : Type 0} {m : Ruled (Unit {0})} {n : Ruled B} → Caused P m → Caused P n → Caused P (m >> n)
  unfolding ◌>>◌
  then_caused (fine x) k = k
  then_caused (other r h) k = other r h
  then_caused (locked lock h) k = locked lock h

  unless_caused : (b : Bool) (r : Refusal) → is_lock_refusal r ≡ false → Caused P (unless b r)
  unless_caused true r h = fine tt
  unless_caused false r h = other r h

  some_caused : {A : Type 0} (o : Option A) (r : Refusal) → is_lock_refusal r ≡ false → Caused P (some_or o r)
  some_caused (Some x) r h = fine x
  some_caused None r h = other r h

  get_directory_caused : (s : State Text Own) (k : ℕ) (bucket : Text) → Caused P (get_directory_ruling s k bucket)
  unfolding get_directory_ruling
  get_directory_caused s k bucket =
      bind_caused (some_caused (agent_of s k).key refusal.SecurityError refl)
      (λ origin is. then_caused (unless_caused (is_bucket_name bucket) refusal.TypeError refl) (fine _))

  child_caused : (k : Kind) (place : Place) (name : Text) (create : Bool) (r : Option (Row Text)) → Caused P (child_ruling k place name create r)
  child_caused k place name create (Some r) = then_caused (unless_caused (is_of_kind k r) refusal.TypeMismatchError refl) (fine _)
  child_caused k place name create None =
      then_caused (unless_caused create refusal.NotFoundError refl)
      (then_caused (unless_caused (fits_limits name place.1) refusal.NameLimit refl) (fine _))

  get_handle_caused : (s : State Text Own) (k : Kind) (dir : Locator) (name : Text) (create : Bool) → Caused P (get_handle_ruling s k dir name create)
  unfolding get_handle_ruling
  get_handle_caused s k dir name create =
      then_caused (unless_caused (is_valid_name name) refusal.TypeError refl)
      (then_caused (unless_caused (is_located s kind.Directory dir) refusal.NotFoundError refl)
      (child_caused k (child (place_of dir) name) name create (row_at s (child (place_of dir) name))))

  none_locked_caused : (rows : Option Lock) → ((lock : Lock) → rows ≡ Some lock → P lock) → Caused P (none_locked rows)
  none_locked_caused None h = fine tt
  none_locked_caused (Some lock) h = locked lock (h lock refl)

  remove_entry_caused : (s : State Text Own) (dir : Locator) (name : Text) (recursive : Bool)
      → ((lock : Lock) → first_locked (rows_within s (child (place_of dir) name)) ≡ Some lock → P lock) → Caused P (remove_entry_ruling s dir name recursive)
  unfolding remove_entry_ruling
  remove_entry_caused s dir name recursive h =
      then_caused (unless_caused (is_valid_name name) refusal.TypeError refl)
      (then_caused (unless_caused (is_located s kind.Directory dir) refusal.NotFoundError refl)
      (then_caused (unless_caused (is_some (row_at s (child (place_of dir) name))) refusal.NotFoundError refl)
      (then_caused (unless_caused (recursive || not (has_children s (child (place_of dir) name))) refusal.InvalidModificationError refl)
      (then_caused (none_locked_caused (first_locked (rows_within s (child (place_of dir) name))) h) (fine _)))))

  located_caused : (s : State Text Own) (k : Kind) (at : Locator) → Caused P (located_ruling s k at)
  unfolding located_ruling
  located_caused s k at = then_caused (unless_caused (is_located s k at) refusal.NotFoundError refl) (fine _)

  takes_caused : (w : Want) (lock : Lock) → (taken w lock ≡ None → P lock) → Caused P (takes_lock w lock)
  takes_caused w lock h =
      elim (taken w lock) as (λ t. taken w lock ≡ t → Caused P (unless (is_some t) (locked_by lock))) [
        | Some other_lock ↦ λ is. fine tt
        | None ↦ λ is. locked lock (h is)
      ] refl

  create_writable_caused : (s : State Text Own) (at : Locator) (keep : Bool)
      → (taken want.Shared (lock_in (file_at s (place_of at))) ≡ None → P (lock_in (file_at s (place_of at)))) → Caused P (create_writable_ruling in_bytes s at keep)
  unfolding create_writable_ruling
  create_writable_caused s at keep h =
      then_caused (unless_caused (is_located s kind.File at) refusal.NotFoundError refl)
      (then_caused (takes_caused want.Shared (lock_in (file_at s (place_of at))) h) (fine _))

  grow_stream_caused : (s : State Text Own) (k n size : ℕ) → Caused P (grow_stream_ruling in_bytes s k n size)
  unfolding grow_stream_ruling
  grow_stream_caused s k n size = bind_caused (some_caused (open_stream in_bytes s k n) refusal.TypeError refl) (λ w is. fine _)

  stream_caused : (s : State Text Own) (k n : ℕ) → Caused P (stream_ruling in_bytes s k n)
  unfolding stream_ruling
  stream_caused s k n = bind_caused (some_caused (open_stream in_bytes s k n) refusal.TypeError refl) (λ w is. fine _)

  create_sync_caused : (s : State Text Own) (at : Locator) (m : Mode)
      → (taken (want_of m) (lock_in (file_at s (place_of at))) ≡ None → P (lock_in (file_at s (place_of at)))) → Caused P (create_sync_ruling s at m)
  unfolding create_sync_ruling
  create_sync_caused s at m h =
      then_caused (unless_caused (is_located s kind.File at) refusal.NotFoundError refl)
      (then_caused (takes_caused (want_of m) (lock_in (file_at s (place_of at))) h) (fine _))

  read_only_caused : (lock : Lock) (b : Bool) → (b ≡ false → P lock) → Caused P (unless b (locked_by lock))
  read_only_caused lock true h = fine tt
  read_only_caused lock false h = locked lock (h refl)

  grow_handle_caused : (s : State Text Own) (z : Sizes) (k n size : ℕ)
      → ((h : HandleOutline) → open_handle in_bytes s k n ≡ Some h → is_read_write h.mode ≡ false → P (lock_in (file_at s h.file)))
      → Caused P (grow_handle_ruling in_bytes s z k n size)
  unfolding grow_handle_ruling
  grow_handle_caused s z k n size p =
      bind_caused (some_caused (open_handle in_bytes s k n) refusal.InvalidStateError refl)
      (λ h is. then_caused (read_only_caused (lock_in (file_at s h.file)) (is_read_write h.mode) (p h (some_is (open_handle in_bytes s k n) h is))) (fine _))
    where
      some_is : (o : Option HandleOutline) (h : HandleOutline) → some_or o refusal.InvalidStateError ≡ Ok h → o ≡ Some h
      some_is None h e = cc
      some_is (Some x) h e = cc

  handle_caused : (s : State Text Own) (k n : ℕ) → Caused P (handle_ruling in_bytes s k n)
  unfolding handle_ruling
  handle_caused s k n = bind_caused (some_caused (open_handle in_bytes s k n) refusal.InvalidStateError refl) (λ h is. fine _)

  persist_caused : (s : State Text Own) (k : ℕ) (bucket : Text) → Caused P (persist_ruling s k bucket)
  unfolding persist_ruling
  persist_caused s k bucket =
      bind_caused (some_caused (agent_of s k).key refusal.TypeError refl)
      (λ origin is. then_caused (unless_caused (is_bucket_name bucket) refusal.TypeError refl) (fine _))

  persisted_caused : (s : State Text Own) (k : ℕ) (bucket : Text) → Caused P (persisted_ruling s k bucket)
  unfolding persisted_ruling
  persisted_caused s k bucket =
      bind_caused (some_caused (agent_of s k).key refusal.TypeError refl)
      (λ origin is. then_caused (unless_caused (is_bucket_name bucket) refusal.TypeError refl) (fine _))

  estimate_caused : (s : State Text Own) (k : ℕ) → Caused P (estimate_ruling s k)
  unfolding estimate_ruling
  estimate_caused s k = bind_caused (some_caused (agent_of s k).key refusal.TypeError refl) (λ origin is. fine _)

  await_caused : (s : State Text Own) (k : ℕ) (tag : Text) → Caused P (await_ruling s k tag)
  unfolding await_ruling
  await_caused s k tag = then_caused (unless_caused (is_posted s (party_of s k) tag) refusal.Stuck refl) (fine _)

  room_caused : (s : State Text Own) (caller : Option Text) (need : Need) → Caused P (room_for in_bytes s caller need)
  unfolding room_for
  room_caused s caller need =
      then_caused (unless_caused (fits_quota in_bytes s (origin_in caller) need.quota) (refusal.QuotaExceededError (usage in_bytes s (origin_in caller)) need.quota s.limits.quota) refl)
      (then_caused (unless_caused (fits_area in_bytes s need.charge) (refusal.MetaFull (charge in_bytes s) need.charge s.limits.area) refl)
      (some_caused (victims in_bytes s caller need.pool) (refusal.DataFull (pool in_bytes s) need.pool s.limits.blocks) refl))

-- The file whose lock refuses.
abbrev pub Refuser : State Text Own → ℕ → Op → Lock → Type 0
Refuser s k o lock = (file : Place) × RefusedAt s k o lock file

not_given : (s : State Text Own) (at : Place) (w : Want) (f : Option (FileRow Text)) → file_at s at ≡ f → taken w (lock_in f) ≡ None
    → (file : Place) × IsNotGiven s at w (lock_in f) file
not_given s at want.Exclusive None is h = cc
not_given s at want.Shared None is h = cc
not_given s at want.ReadOnly None is h = cc
not_given s at w (Some f) is h = (at, record { named = refl; held = f; stands = is; found = refl; refuses = h })

abbrev lock_or : Option Lock → Rows Text → Option Lock
lock_or found es = elim found [ Some lock ↦ Some lock | None ↦ first_locked es ]

abbrev locked_or : Bool → FileRow Text → Rows Text → Option Lock
locked_or b f es = lock_or (elim b [ true ↦ None | false ↦ Some f.lock ]) es

some_same : {a b : Lock} → Some a ≡ Some b → a ≡ b
some_same h = cc

first_at : (rows : Rows Text) (lock : Lock) → first_locked rows ≡ Some lock → (file : Place) × IsFirstLocked rows lock file
first_at [] lock h = cc
first_at ((file, row.Directory) ∷ es) lock h =
    let rest = first_at es lock h in
    (rest.0, record { before = (file, row.Directory) ∷ rest.1.before; held = rest.1.held; after = rest.1.after; split = ap (λ r. (file, row.Directory) ∷ r) rest.1.split; first = rest.1.first; taken = rest.1.taken; found = rest.1.found })
first_at ((file, row.File f) ∷ es) lock h =
    elim (is_open f.lock.0) as (λ b. is_open f.lock.0 ≡ b → locked_or b f es ≡ Some lock → (place : Place) × IsFirstLocked ((file, row.File f) ∷ es) lock place) [
      | true ↦ λ is told.
          let rest = first_at es lock told in (
            rest.0,
            record {
              before = (file, row.File f) ∷ rest.1.before;
              held = rest.1.held;
              after = rest.1.after;
              split = ap (λ r. (file, row.File f) ∷ r) rest.1.split;
              first = ap (λ b. locked_or b f rest.1.before) is ∙ rest.1.first;
              taken = rest.1.taken;
              found = rest.1.found;
            },
          )
      | false ↦ λ is told. (file, record { before = []; held = f; after = es; split = refl; first = refl; taken = is; found = some_same told })
    ] refl h

reader_found : (s : State Text Own) (k n : ℕ) → AreLocksOfHolders s → (h : HandleOutline) → open_handle in_bytes s k n ≡ Some h → is_read_write h.mode ≡ false
    → (file : Place) × IsReadOnly s k n (lock_in (file_at s h.file)) file
reader_found s k n locks h is reads =
    let holder = handle-holder (own_of (agent_of s k) n) h is in
    let f = file-there s locks k n holder.row h.file (want_of h.mode) holder.is holder.holds in
    (h.file, record { handle = h; stands = is; reads = reads; named = refl; held = f.0; stands_there = f.1; found = sym (ap lock_in f.1) })

ruling_caused : (s : State Text Own) (z : Sizes) (k : ℕ) (o : Op) → AreLocksOfHolders s → Caused (Refuser s k o) (ruling in_bytes s z k o)
unfolding ruling
ruling_caused s z k (op.GetDirectory bucket) locks = get_directory_caused s k bucket
ruling_caused s z k (op.GetDirectoryHandle dir name create) locks = get_handle_caused s kind.Directory dir name create
ruling_caused s z k (op.GetFileHandle dir name create) locks = get_handle_caused s kind.File dir name create
ruling_caused s z k (op.RemoveEntry dir name recursive) locks =
    remove_entry_caused s dir name recursive (λ lock h. first_at (rows_within s (child (place_of dir) name)) lock h)
ruling_caused s z k (op.Values dir) locks = fine _
ruling_caused s z k (op.Next n dir) locks = located_caused s kind.Directory dir
ruling_caused s z k (op.Resolve dir entry) locks = fine _
ruling_caused s z k (op.IsSameEntry entry to) locks = fine _
ruling_caused s z k (op.GetFile at) locks = located_caused s kind.File at
ruling_caused s z k (op.Slice n at len) locks = fine _
ruling_caused s z k (op.CreateWritable at keep) locks =
    create_writable_caused s at keep (λ h. not_given s (place_of at) want.Shared (file_at s (place_of at)) refl h)
ruling_caused s z k (op.Write n bytes position) locks = grow_stream_caused s k n (size_written z position bytes)
ruling_caused s z k (op.Seek n position) locks = stream_caused s k n
ruling_caused s z k (op.Truncate n size) locks = grow_stream_caused s k n size
ruling_caused s z k (op.Close n) locks = stream_caused s k n
ruling_caused s z k (op.Abort n) locks = stream_caused s k n
ruling_caused s z k (op.CreateSyncAccessHandle at m) locks =
    create_sync_caused s at m (λ h. not_given s (place_of at) (want_of m) (file_at s (place_of at)) refl h)
ruling_caused s z k (op.SyncRead n len at) locks = handle_caused s k n
ruling_caused s z k (op.SyncWrite n bytes at) locks =
    grow_handle_caused s z k n (size_written z at bytes) (reader_found s k n locks)
ruling_caused s z k (op.SyncTruncate n size) locks =
    grow_handle_caused s z k n size (reader_found s k n locks)
ruling_caused s z k (op.SyncGetSize n) locks = handle_caused s k n
ruling_caused s z k (op.SyncFlush n) locks = handle_caused s k n
ruling_caused s z k (op.SyncClose n) locks = fine _
ruling_caused s z k (op.Persist bucket) locks = persist_caused s k bucket
ruling_caused s z k (op.Persisted bucket) locks = persisted_caused s k bucket
ruling_caused s z k op.Estimate locks = estimate_caused s k
ruling_caused s z k (op.Moment ms) locks = fine _
ruling_caused s z k (op.Post tag) locks = fine _
ruling_caused s z k (op.Await tag) locks = await_caused s k tag
ruling_caused s z k (op.Wait tag) locks = fine _
ruling_caused s z k (op.Discard n) locks = fine _
ruling_caused s z k op.End locks = fine _
ruling_caused s z k (op.Unbound word) locks = other refusal.Unbound refl
ruling_caused s z k (op.Evict unit) locks = fine _

pub judged_caused : (s : State Text Own) (k : ℕ) (o : Op) → AreLocksOfHolders s → Caused (Refuser s k o) (judged s k o)
unfolding judged
judged_caused s k o locks = bind_caused (ruling_caused s (sizes_of s k o) k o locks) (λ need is. room_caused s (agent_of s k).key need)
