-- What an agent's call answers is the same in states that it reads alike, and who asks for quota has an origin.
use Rattle.std.proofs.Common.{◌≡◌, ◌&&◌, ◌||◌, ◌*◌, ◌==◌, ℕ, Bool, true, false, not, if◌then◌else◌, [], is_some, Option, Some, None, Ok, Err, refl, sym, ap, ◌∙◌}
use Rattle.std.specs.Cmp.{first_so}
use Rattle.opfs_base.specs.Names.{is_valid_name, fits_limits}
use Rattle.opfs_base.specs.Texts.{Text}
use Rattle.opfs_base.specs.Places.{Place, place_of, child}
use Rattle.opfs_base.specs.Units.{is_bucket_name, unit_of}
use Rattle.opfs_base.specs.declared.locator.Kind.{Kind}
use Rattle.opfs_base.specs.declared.locator.Kind.TheVariants as kind
use Rattle.opfs_base.specs.declared.locator.Locator.{Locator}
use Rattle.opfs_hist.specs.declared.op.Mode.{Mode}
use Rattle.opfs_hist.specs.declared.op.Op.{Op}
use Rattle.opfs_hist.specs.declared.op.Op.TheVariants as op
use Rattle.opfs_hist.specs.declared.reply.Refusal.{Refusal}
use Rattle.opfs_hist.specs.declared.reply.Refusal.TheVariants as refusal
use Rattle.opfs_hist.specs.declared.reply.Reply.TheVariants as reply
use Rattle.opfs_locks.specs.Taking.{Lock, taken}
use Rattle.opfs_machine.specs.declared.own.HandleOutline.{HandleOutline}
use Rattle.opfs_machine.specs.declared.own.Own.{Own}
use Rattle.opfs_machine.specs.declared.state.Need.{Need}
use Rattle.opfs_machine.specs.declared.state.Row.{Row}
use Rattle.opfs_machine.specs.declared.state.Sizes.{Sizes}
use Rattle.opfs_machine.specs.declared.state.State.{State}
use Rattle.opfs_machine.specs.Agents.{agent_of, own_of, open_stream, open_handle, handle_in, of_row, is_posted, party_of}
use Rattle.opfs_machine.specs.Contents.{in_bytes, outline_of, next_of}
use Rattle.opfs_machine.specs.Histories.{may_enter}
use Rattle.opfs_machine.specs.Replies.{answer, child_reply, file_reply, kind_in, given_in, snapshot_in, handle_bytes, bytes_in, block_bytes, origin_in}
use Rattle.opfs_machine.specs.Rows.{row_at, is_located, is_of_kind, file_at, file_of, has_children, rows_within, first_locked, children_of}
use Rattle.opfs_machine.specs.Ruled.{Ruled, ◌>>=◌, ◌>>◌, unless, some_or}
use Rattle.opfs_machine.specs.Rulings.{get_directory_ruling, get_handle_ruling, child_ruling, remove_entry_ruling, none_locked, located_ruling, grow_stream_ruling, stream_ruling, create_sync_ruling, grow_handle_ruling, handle_ruling, persist_ruling, persisted_ruling, persisting, estimate_ruling, await_ruling, ruling, locked_by, lock_in, want_of, size_written, start_of, making}
use Rattle.opfs_machine.specs.Sums.{is_persistent, usage, no_need, charges}
use Rattle.opfs_base.specs.Measures.{mode_charge}
use Rattle.opfs_machine.specs.Victims.{is_callers}
use Rattle.opfs_laws.proofs.separation.Follows.{IsPlain, open-handle-file, open-stream-file}
use Rattle.opfs_laws.proofs.separation.Lists.{from_false}
use Rattle.opfs_laws.proofs.OwnFiles.{OwnFiles, callers-own}
use Rattle.opfs_laws.proofs.separation.Reading.{Reads}
use Rattle.opfs_laws.proofs.separation.SameRuling.{own-at}
use Rattle.opfs_splice.specs.Splicing.{window}

-- An accepted call that needs an origin has one.
bind-there : {B : Type 0} (o : Option Text) (r : Refusal) (f : Text → Ruled B) (b : B) → (some_or o r >>= f) ≡ Ok b → (x : Text) × (o ≡ Some x)
unfolding ◌>>=◌
bind-there (Some x) r f b is = (x, refl)
bind-there None r f b is = cc

-- Whether nothing is asked of the quota.
abbrev pub is_free : Ruled Need → Bool
is_free (Ok need) = need.quota == 0
is_free (Err r) = true

bind-free : {A : Type 0} (o : Option A) (r : Refusal) (f : A → Ruled Need) → ((a : A) → o ≡ Some a → is_free (f a) ≡ true) → is_free (some_or o r >>= f) ≡ true
unfolding ◌>>=◌
bind-free (Some a) r f free = free a refl
bind-free None r f free = refl

then-free : (b : Bool) (r : Refusal) (m : Ruled Need) → is_free m ≡ true → is_free (unless b r >> m) ≡ true
unfolding ◌>>◌
then-free true r m free = free
then-free false r m free = refl

locked-free : (lock : Option Lock) (m : Ruled Need) → is_free m ≡ true → is_free (none_locked lock >> m) ≡ true
unfolding ◌>>◌
locked-free None m free = free
locked-free (Some lock) m free = refl

making-free : (kd : Kind) (place : Place) (old : Option (Row Text)) → is_free (Ok (making kd place old)) ≡ true
making-free kd place None = refl
making-free kd place (Some x) = refl

child-free : (kd : Kind) (place : Place) (name : Text) (create : Bool) (old : Option (Row Text)) → is_free (child_ruling kd place name create old) ≡ true
child-free kd place name create (Some x) = then-free (is_of_kind kd x) refusal.TypeMismatchError (Ok no_need) refl
child-free kd place name create None =
    then-free create refusal.NotFoundError _ (then-free (fits_limits name place.1) refusal.NameLimit _ refl)

keyless : (key : Option Text) (unit : Text) → key ≡ None → is_callers key unit ≡ true → false ≡ true
keyless key unit is own = ap (λ x. is_callers x unit) (sym is) ∙ own

module _ (k : ℕ) (s : State Text Own) (none : (agent_of s k).key ≡ None) where
  get_directory-free : (name : Text) → is_free (get_directory_ruling s k name) ≡ true
  unfolding get_directory_ruling
  get_directory-free name =
      bind-free (agent_of s k).key refusal.SecurityError _
      (λ origin is. then-free (is_bucket_name name) refusal.TypeError _ (making-free kind.Directory (unit_of origin name, []) (row_at s (unit_of origin name, []))))

  get_handle-free : (kd : Kind) (dir : Locator) (name : Text) (create : Bool) → is_free (get_handle_ruling s kd dir name create) ≡ true
  unfolding get_handle_ruling
  get_handle-free kd dir name create =
      then-free (is_valid_name name) refusal.TypeError _
      (then-free (is_located s kind.Directory dir) refusal.NotFoundError _ (child-free kd (child (place_of dir) name) name create (row_at s (child (place_of dir) name))))

  remove_entry-free : (dir : Locator) (name : Text) (recursive : Bool) → is_free (remove_entry_ruling s dir name recursive) ≡ true
  unfolding remove_entry_ruling
  remove_entry-free dir name recursive =
      then-free (is_valid_name name) refusal.TypeError _
      (then-free (is_located s kind.Directory dir) refusal.NotFoundError _
      (then-free (is_some (row_at s (child (place_of dir) name))) refusal.NotFoundError _
      (then-free (recursive || not (has_children s (child (place_of dir) name))) refusal.InvalidModificationError _
      (locked-free (first_locked (rows_within s (child (place_of dir) name))) (Ok no_need) refl))))

  located-free : (kd : Kind) (at : Locator) → is_free (located_ruling s kd at) ≡ true
  unfolding located_ruling
  located-free kd at = then-free (is_located s kd at) refusal.NotFoundError (Ok no_need) refl

  grow_stream-free : OwnFiles s → (n size : ℕ) → is_free (grow_stream_ruling in_bytes s k n size) ≡ true
  unfolding grow_stream_ruling
  grow_stream-free files n size =
      bind-free (open_stream in_bytes s k n) refusal.TypeError _
      (λ w is. from_false (keyless (agent_of s k).key w.file.0 none (open-stream-file s k n w files is)))

  stream-free : (n : ℕ) → is_free (stream_ruling in_bytes s k n) ≡ true
  unfolding stream_ruling
  stream-free n = bind-free (open_stream in_bytes s k n) refusal.TypeError _ (λ w is. refl)

  create_sync-free : (at : Locator) (m : Mode) → is_free (create_sync_ruling s at m) ≡ true
  unfolding create_sync_ruling
  create_sync-free at m =
      then-free (is_located s kind.File at) refusal.NotFoundError _
      (then-free (is_some (taken (want_of m) (lock_in (file_at s (place_of at))))) (locked_by (lock_in (file_at s (place_of at)))) (Ok no_need) refl)

  grow_handle-free : OwnFiles s → (z : Sizes) (n size : ℕ) → is_free (grow_handle_ruling in_bytes s z k n size) ≡ true
  unfolding grow_handle_ruling
  grow_handle-free files z n size =
      bind-free (open_handle in_bytes s k n) refusal.InvalidStateError _
      (λ h is. from_false (keyless (agent_of s k).key h.file.0 none (open-handle-file s k n h files is)))

  handle-free : (n : ℕ) → is_free (handle_ruling in_bytes s k n) ≡ true
  unfolding handle_ruling
  handle-free n = bind-free (open_handle in_bytes s k n) refusal.InvalidStateError _ (λ h is. refl)

  persisting-free : (grant : Bool) (unit : Text) → is_free (Ok (persisting s grant unit)) ≡ true
  persisting-free grant unit =
      elim (grant && not (is_persistent s unit)) as (λ b. is_free (Ok (if b then charges (mode_charge unit) else no_need)) ≡ true) [ true ↦ refl | false ↦ refl ]

  persist-free : (name : Text) → is_free (persist_ruling s k name) ≡ true
  unfolding persist_ruling
  persist-free name =
      bind-free (agent_of s k).key refusal.TypeError _
      (λ origin is. then-free (is_bucket_name name) refusal.TypeError _ (persisting-free (agent_of s k).grant (unit_of origin name)))

  persisted-free : (name : Text) → is_free (persisted_ruling s k name) ≡ true
  unfolding persisted_ruling
  persisted-free name = bind-free (agent_of s k).key refusal.TypeError _ (λ origin is. then-free (is_bucket_name name) refusal.TypeError (Ok no_need) refl)

  estimate-free : is_free (estimate_ruling s k) ≡ true
  unfolding estimate_ruling
  estimate-free = bind-free (agent_of s k).key refusal.TypeError _ (λ origin is. refl)

  await-free : (tag : Text) → is_free (await_ruling s k tag) ≡ true
  unfolding await_ruling
  await-free tag = then-free (is_posted s (party_of s k) tag) refusal.Stuck (Ok no_need) refl

  -- Without an origin nothing is asked of the quota.
  pub ruling-free : OwnFiles s → (z : Sizes) (o : Op) → may_enter s k o ≡ true → is_free (ruling in_bytes s z k o) ≡ true
  unfolding ruling may_enter
  ruling-free files z (op.GetDirectory bucket) may = get_directory-free bucket
  ruling-free files z (op.GetDirectoryHandle dir name create) may = get_handle-free kind.Directory dir name create
  ruling-free files z (op.GetFileHandle dir name create) may = get_handle-free kind.File dir name create
  ruling-free files z (op.RemoveEntry dir name recursive) may = remove_entry-free dir name recursive
  ruling-free files z (op.Next n dir) may = located-free kind.Directory dir
  ruling-free files z (op.GetFile at) may = located-free kind.File at
  ruling-free files z (op.CreateWritable at keep) may = from_false (keyless (agent_of s k).key at.key none (sym (callers-own (agent_of s k).key at) ∙ may))
  ruling-free files z (op.Write n bytes position) may = grow_stream-free files n (size_written z position bytes)
  ruling-free files z (op.Seek n position) may = stream-free n
  ruling-free files z (op.Truncate n size) may = grow_stream-free files n size
  ruling-free files z (op.Close n) may = stream-free n
  ruling-free files z (op.Abort n) may = stream-free n
  ruling-free files z (op.CreateSyncAccessHandle at m) may = create_sync-free at m
  ruling-free files z (op.SyncRead n len at) may = handle-free n
  ruling-free files z (op.SyncWrite n bytes at) may = grow_handle-free files z n (size_written z at bytes)
  ruling-free files z (op.SyncTruncate n size) may = grow_handle-free files z n size
  ruling-free files z (op.SyncGetSize n) may = handle-free n
  ruling-free files z (op.SyncFlush n) may = handle-free n
  ruling-free files z (op.Persist bucket) may = persist-free bucket
  ruling-free files z (op.Persisted bucket) may = persisted-free bucket
  ruling-free files z op.Estimate may = estimate-free
  ruling-free files z (op.Await tag) may = await-free tag
  ruling-free files z o may = refl

module _ (k : ℕ) (s t : State Text Own) (r : Reads k s t) where
  child-same : (dir : Place) (name : Option Text) → is_callers (agent_of s k).key dir.0 ≡ true → child_reply s dir name ≡ child_reply t dir name
  child-same dir None is = refl
  child-same dir (Some name) is = ap (λ x. reply.Child (kind_in x) name) (r.row (child dir name) is)

  next-same : (n : ℕ) (dir : Place) → is_callers (agent_of s k).key dir.0 ≡ true
      → child_reply s dir (next_of (given_in (own_of (agent_of s k) n)) (children_of s dir)) ≡ child_reply t dir (next_of (given_in (own_of (agent_of t k) n)) (children_of t dir))
  next-same n dir is =
      child-same dir (next_of (given_in (own_of (agent_of s k) n)) (children_of s dir)) is
      ∙ (λ i. child_reply t dir (next_of (given_in (own_of (r.agent i) n)) (r.children dir is i)))

  handle_bytes-same : (h : Option HandleOutline) → ((x : HandleOutline) → h ≡ Some x → is_callers (agent_of s k).key x.file.0 ≡ true) → handle_bytes s h ≡ handle_bytes t h
  handle_bytes-same None is = refl
  handle_bytes-same (Some h) is = ap (λ x. bytes_in (file_of x)) (r.row h.file (is h refl))

  read-same : OwnFiles s → (n : ℕ) → handle_bytes s (open_handle in_bytes s k n) ≡ handle_bytes t (open_handle in_bytes t k n)
  read-same files n =
      handle_bytes-same (open_handle in_bytes s k n) (λ x is. open-handle-file s k n x files is)
      ∙ ap (λ a. handle_bytes t (of_row (λ x. handle_in (outline_of x)) (own_of a n))) r.agent

  persistent-at : IsPlain (agent_of s k).key → (name x : Text) → (agent_of s k).key ≡ Some x
      → is_persistent s (unit_of (origin_in (agent_of s k).key) name) ≡ is_persistent t (unit_of (origin_in (agent_of t k).key) name)
  persistent-at plain name x is =
      ap (λ o. is_persistent s (unit_of (origin_in o) name)) is
      ∙ r.mode (unit_of x name) (plain x name is)
      ∙ ap (λ o. is_persistent t (unit_of (origin_in o) name)) (sym is ∙ ap (λ a. a.key) r.agent)

  pub usage-at : (x : Text) → (agent_of s k).key ≡ Some x → usage in_bytes s (origin_in (agent_of s k).key) ≡ usage in_bytes t (origin_in (agent_of t k).key)
  usage-at x is =
      ap (λ o. usage in_bytes s (origin_in o)) is
      ∙ r.usage x is
      ∙ ap (λ o. usage in_bytes t (origin_in o)) (sym is ∙ ap (λ a. a.key) r.agent)

  persist-there : (name : Text) (need : Need) → persist_ruling s k name ≡ Ok need → (x : Text) × ((agent_of s k).key ≡ Some x)
  unfolding persist_ruling
  persist-there name need is = bind-there (agent_of s k).key refusal.TypeError _ need is

  persisted-there : (name : Text) (need : Need) → persisted_ruling s k name ≡ Ok need → (x : Text) × ((agent_of s k).key ≡ Some x)
  unfolding persisted_ruling
  persisted-there name need is = bind-there (agent_of s k).key refusal.TypeError _ need is

  estimate-there : (need : Need) → estimate_ruling s k ≡ Ok need → (x : Text) × ((agent_of s k).key ≡ Some x)
  unfolding estimate_ruling
  estimate-there need is = bind-there (agent_of s k).key refusal.TypeError _ need is

  -- The answers of an accepted call.
  pub answer-same : IsPlain (agent_of s k).key → OwnFiles s → (z : Sizes) (o : Op) (need : Need) → may_enter s k o ≡ true → ruling in_bytes s z k o ≡ Ok need
      → answer s z k o ≡ answer t z k o
  unfolding answer may_enter ruling
  answer-same plain files z (op.Next n dir) need may ok = next-same n (place_of dir) (own-at k s t r dir (first_so _ _ may))
  answer-same plain files z (op.GetFile at) need may ok = ap (λ x. file_reply (file_of x)) (r.row (place_of at) (own-at k s t r at may))
  answer-same plain files z (op.Slice n at len) need may ok = ap (λ a. reply.Read (window (snapshot_in (own_of a n)) at len)) r.agent
  answer-same plain files z (op.SyncRead n len at) need may ok = ap (λ bytes. reply.Read (window bytes (start_of z at) len)) (read-same files n)
  answer-same plain files z (op.Persist name) need may ok =
      let there = persist-there name need ok in
      let mode = persistent-at plain name there.0 there.1 in
      λ i. reply.Flag ((r.agent i).grant || mode i)
  answer-same plain files z (op.Persisted name) need may ok =
      let there = persisted-there name need ok in
      ap reply.Flag (persistent-at plain name there.0 there.1)
  answer-same plain files z op.Estimate need may ok =
      let there = estimate-there need ok in
      let used = usage-at there.0 there.1 in
      λ i. reply.Estimate (block_bytes * used i) (block_bytes * r.quota i)
  answer-same plain files z o need may ok = refl
