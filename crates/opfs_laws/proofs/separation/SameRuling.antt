-- What an agent's call refuses and asks for is the same in states that it reads alike.
use Rattle.std.proofs.Common.{◌≡◌, ◌&&◌, ◌||◌, ◌-◌, ◌*◌, ℕ, Bool, true, not, if◌then◌else◌, length, [], is_some, Option, Some, None, Ok, refl, sym, ap, ◌∙◌}
use Rattle.std.specs.Cmp.{first_so}
use Rattle.std.specs.List.{list_any}
use Rattle.opfs_machine.specs.Sums.{is_persistent}
use Rattle.opfs_base.specs.Blocks.{blocks}
use Rattle.opfs_base.specs.Names.{is_valid_name}
use Rattle.opfs_base.specs.Texts.{Text}
use Rattle.opfs_base.specs.Places.{place_of, child}
use Rattle.opfs_base.specs.Units.{is_bucket_name, unit_of}
use Rattle.opfs_base.specs.declared.locator.Kind.{Kind}
use Rattle.opfs_base.specs.declared.locator.Kind.TheVariants as kind
use Rattle.opfs_base.specs.declared.locator.Locator.{Locator}
use Rattle.opfs_hist.specs.declared.op.Mode.{Mode}
use Rattle.opfs_hist.specs.declared.op.Op.{Op}
use Rattle.opfs_hist.specs.declared.op.Op.TheVariants as op
use Rattle.opfs_hist.specs.declared.reply.Refusal.{Refusal}
use Rattle.opfs_hist.specs.declared.reply.Refusal.TheVariants as refusal
use Rattle.opfs_locks.specs.declared.Want.TheVariants as want
use Rattle.opfs_machine.specs.declared.own.HandleOutline.{HandleOutline}
use Rattle.opfs_machine.specs.declared.own.StreamOutline.{StreamOutline}
use Rattle.opfs_machine.specs.declared.own.Own.{Own}
use Rattle.opfs_machine.specs.declared.own.Own.TheVariants as own
use Rattle.opfs_machine.specs.declared.state.Agent.{Agent}
use Rattle.opfs_machine.specs.declared.state.Need.{Need}
use Rattle.opfs_machine.specs.declared.state.Row.{Row}
use Rattle.opfs_machine.specs.declared.state.Sizes.{Sizes}
use Rattle.opfs_machine.specs.declared.state.State.{State}
use Rattle.opfs_machine.specs.Agents.{agent_of, own_of, open_handle, stream_in, handle_in, of_row, is_open_row, others_stuck, waits_for}
use Rattle.opfs_machine.specs.Contents.{in_bytes, outline_of}
use Rattle.opfs_machine.specs.Histories.{may_enter, asks_stuck, is_disk_op, is_own, is_of_origin, is_iterator_of, is_snapshot, is_stream, is_handle, is_open_handle, writes_in}
use Rattle.opfs_machine.specs.Replies.{sizes_of, sizes_in, row_named, bytes_in}
use Rattle.opfs_machine.specs.Rows.{row_at, wants, holds_kind, file_of, first_locked}
use Rattle.opfs_machine.specs.Ruled.{Ruled, ◌>>=◌, ◌>>◌, unless, some_or}
use Rattle.opfs_machine.specs.Rulings.{get_directory_ruling, get_handle_ruling, child_ruling, remove_entry_ruling, none_locked, located_ruling, create_writable_ruling, grow_stream_ruling, stream_ruling, create_sync_ruling, grow_handle_ruling, handle_ruling, persist_ruling, persisted_ruling, estimate_ruling, await_ruling, ruling, locked_by, lock_in, takes_lock, want_of, is_read_write, size_in, size_written, making, reserve_for}
use Rattle.opfs_machine.specs.Sums.{no_need, keeps_blocks, charges}
use Rattle.opfs_base.specs.Measures.{mode_charge, block_charge}
use Rattle.opfs_machine.specs.Victims.{is_callers}
use Rattle.opfs_laws.proofs.separation.Follows.{IsPlain, open-handle-file}
use Rattle.opfs_laws.proofs.OwnFiles.{OwnFiles, HasOwnFile, callers-own}
use Rattle.opfs_laws.proofs.OwnKept.{keeps-row}
use Rattle.opfs_laws.proofs.separation.Reading.{Reads}

-- Two continuations that agree on what is there.
pub bind-some : {A B : Type 0} (o : Option A) (r : Refusal) (f g : A → Ruled B) → ((a : A) → o ≡ Some a → f a ≡ g a) → (some_or o r >>= f) ≡ (some_or o r >>= g)
unfolding ◌>>=◌
bind-some (Some a) r f g same = same a refl
bind-some None r f g same = refl

abbrev stream_of : ℕ → Agent Own → Option StreamOutline
stream_of n a = of_row (λ x. stream_in (outline_of x)) (own_of a n)

abbrev handle_of : ℕ → Agent Own → Option HandleOutline
handle_of n a = of_row (λ x. handle_in (outline_of x)) (own_of a n)

module _ (k : ℕ) (s t : State Text Own) (r : Reads k s t) where
  pub own-at : (at : Locator) → is_own s k at ≡ true → is_callers (agent_of s k).key at.key ≡ true
  own-at at is = sym (callers-own (agent_of s k).key at) ∙ is

  get_directory-same : IsPlain (agent_of s k).key → (name : Text) → get_directory_ruling s k name ≡ get_directory_ruling t k name
  unfolding get_directory_ruling
  get_directory-same plain name =
      bind-some (agent_of s k).key refusal.SecurityError
      (λ origin. unless (is_bucket_name name) refusal.TypeError >> Ok (making kind.Directory (unit_of origin name, []) (row_at s (unit_of origin name, []))))
      (λ origin. unless (is_bucket_name name) refusal.TypeError >> Ok (making kind.Directory (unit_of origin name, []) (row_at t (unit_of origin name, []))))
      (λ origin is. ap (λ old. unless (is_bucket_name name) refusal.TypeError >> Ok (making kind.Directory (unit_of origin name, []) old)) (r.row (unit_of origin name, []) (plain origin name is)))
      ∙ ap (λ a. some_or a.key refusal.SecurityError >>= (λ origin. unless (is_bucket_name name) refusal.TypeError >> Ok (making kind.Directory (unit_of origin name, []) (row_at t (unit_of origin name, []))))) r.agent

  get_handle-same : (kd : Kind) (dir : Locator) (name : Text) (create : Bool) → is_own s k dir ≡ true → get_handle_ruling s kd dir name create ≡ get_handle_ruling t kd dir name create
  unfolding get_handle_ruling
  get_handle-same kd dir name create is =
      let here = r.row (place_of dir) (own-at dir is) in
      let below = r.row (child (place_of dir) name) (own-at dir is) in
      λ i. unless (is_valid_name name) refusal.TypeError
      >> (unless (wants kind.Directory dir && holds_kind kind.Directory (here i)) refusal.NotFoundError
      >> child_ruling kd (child (place_of dir) name) name create (below i))

  remove_entry-same : (dir : Locator) (name : Text) (recursive : Bool) → is_own s k dir ≡ true → remove_entry_ruling s dir name recursive ≡ remove_entry_ruling t dir name recursive
  unfolding remove_entry_ruling
  remove_entry-same dir name recursive is =
      let here = r.row (place_of dir) (own-at dir is) in
      let below = r.row (child (place_of dir) name) (own-at dir is) in
      let has = r.has (child (place_of dir) name) (own-at dir is) in
      let within = r.within (child (place_of dir) name) (own-at dir is) in
      λ i. unless (is_valid_name name) refusal.TypeError
      >> (unless (wants kind.Directory dir && holds_kind kind.Directory (here i)) refusal.NotFoundError
      >> (unless (is_some (below i)) refusal.NotFoundError
      >> (unless (recursive || not (has i)) refusal.InvalidModificationError
      >> (none_locked (first_locked (within i)) >> Ok no_need))))

  located-same : (kd : Kind) (at : Locator) → is_own s k at ≡ true → located_ruling s kd at ≡ located_ruling t kd at
  unfolding located_ruling
  located-same kd at is = ap (λ x. unless (wants kd at && holds_kind kd x) refusal.NotFoundError >> Ok no_need) (r.row (place_of at) (own-at at is))

  create_writable-same : (at : Locator) (keep : Bool) → is_own s k at ≡ true → create_writable_ruling in_bytes s at keep ≡ create_writable_ruling in_bytes t at keep
  unfolding create_writable_ruling
  create_writable-same at keep is =
      ap (λ x. unless (wants kind.File at && holds_kind kind.File x) refusal.NotFoundError
      >> (takes_lock want.Shared (lock_in (file_of x)) >> Ok (keeps_blocks (if keep then blocks (size_in in_bytes (file_of x)) else 0)))) (r.row (place_of at) (own-at at is))

  grow_stream-same : (n size : ℕ) → grow_stream_ruling in_bytes s k n size ≡ grow_stream_ruling in_bytes t k n size
  unfolding grow_stream_ruling
  grow_stream-same n size = ap (λ a. some_or (stream_of n a) refusal.TypeError >>= (λ w. Ok (keeps_blocks (reserve_for w.reserve size - w.reserve)))) r.agent

  stream-same : (n : ℕ) → stream_ruling in_bytes s k n ≡ stream_ruling in_bytes t k n
  unfolding stream_ruling
  stream-same n = ap (λ a. some_or (stream_of n a) refusal.TypeError >>= (λ w. Ok no_need)) r.agent

  create_sync-same : (at : Locator) (m : Mode) → is_own s k at ≡ true → create_sync_ruling s at m ≡ create_sync_ruling t at m
  unfolding create_sync_ruling
  create_sync-same at m is =
      ap (λ x. unless (wants kind.File at && holds_kind kind.File x) refusal.NotFoundError >> (takes_lock (want_of m) (lock_in (file_of x)) >> Ok no_need)) (r.row (place_of at) (own-at at is))

  abbrev grown_in : Sizes → ℕ → HandleOutline → Option (Row Text) → Ruled Need
  grown_in z size h x = unless (is_read_write h.mode) (locked_by (lock_in (file_of x))) >> Ok (record {
    quota = blocks size - blocks z.size;
    pool = reserve_for h.reserve size - h.reserve;
    charge = block_charge * (reserve_for h.reserve size - h.reserve);
  })

  grow_handle-same : OwnFiles s → (z : Sizes) (n size : ℕ) → grow_handle_ruling in_bytes s z k n size ≡ grow_handle_ruling in_bytes t z k n size
  unfolding grow_handle_ruling
  grow_handle-same files z n size =
      bind-some (open_handle in_bytes s k n) refusal.InvalidStateError (λ h. grown_in z size h (row_at s h.file)) (λ h. grown_in z size h (row_at t h.file))
      (λ h is. ap (grown_in z size h) (r.row h.file (open-handle-file s k n h files is)))
      ∙ ap (λ a. some_or (handle_of n a) refusal.InvalidStateError >>= (λ h. grown_in z size h (row_at t h.file))) r.agent

  handle-same : (n : ℕ) → handle_ruling in_bytes s k n ≡ handle_ruling in_bytes t k n
  unfolding handle_ruling
  handle-same n = ap (λ a. some_or (handle_of n a) refusal.InvalidStateError >>= (λ h. Ok no_need)) r.agent

  abbrev persist_in : Text → Bool → Bool → Text → Ruled Need
  persist_in name grant there origin =
      unless (is_bucket_name name) refusal.TypeError >> Ok (if grant && not there then charges (mode_charge (unit_of origin name)) else no_need)

  persist-same : IsPlain (agent_of s k).key → (name : Text) → persist_ruling s k name ≡ persist_ruling t k name
  unfolding persist_ruling
  persist-same plain name =
      bind-some (agent_of s k).key refusal.TypeError
      (λ origin. persist_in name (agent_of s k).grant (is_persistent s (unit_of origin name)) origin)
      (λ origin. persist_in name (agent_of s k).grant (is_persistent t (unit_of origin name)) origin)
      (λ origin is. ap (λ there. persist_in name (agent_of s k).grant there origin) (r.mode (unit_of origin name) (plain origin name is)))
      ∙ ap (λ a. some_or a.key refusal.TypeError >>= (λ origin. persist_in name a.grant (is_persistent t (unit_of origin name)) origin)) r.agent

  persisted-same : (name : Text) → persisted_ruling s k name ≡ persisted_ruling t k name
  unfolding persisted_ruling
  persisted-same name = ap (λ a. some_or a.key refusal.TypeError >>= (λ origin. unless (is_bucket_name name) refusal.TypeError >> Ok no_need)) r.agent

  estimate-same : estimate_ruling s k ≡ estimate_ruling t k
  unfolding estimate_ruling
  estimate-same = ap (λ a. some_or a.key refusal.TypeError >>= (λ origin. Ok no_need)) r.agent

  await-same : (tag : Text) → await_ruling s k tag ≡ await_ruling t k tag
  unfolding await_ruling
  await-same tag = ap (λ b. unless b refusal.Stuck >> Ok no_need) (r.posted tag)

  pub ruling-same : IsPlain (agent_of s k).key → OwnFiles s → (z : Sizes) (o : Op) → may_enter s k o ≡ true → ruling in_bytes s z k o ≡ ruling in_bytes t z k o
  unfolding ruling may_enter
  ruling-same plain files z (op.GetDirectory bucket) may = get_directory-same plain bucket
  ruling-same plain files z (op.GetDirectoryHandle dir name create) may = get_handle-same kind.Directory dir name create may
  ruling-same plain files z (op.GetFileHandle dir name create) may = get_handle-same kind.File dir name create may
  ruling-same plain files z (op.RemoveEntry dir name recursive) may = remove_entry-same dir name recursive may
  ruling-same plain files z (op.Values dir) may = refl
  ruling-same plain files z (op.Next n dir) may = located-same kind.Directory dir (first_so _ _ may)
  ruling-same plain files z (op.Resolve dir entry) may = refl
  ruling-same plain files z (op.IsSameEntry entry to) may = refl
  ruling-same plain files z (op.GetFile at) may = located-same kind.File at may
  ruling-same plain files z (op.Slice n at len) may = refl
  ruling-same plain files z (op.CreateWritable at keep) may = create_writable-same at keep may
  ruling-same plain files z (op.Write n bytes position) may = grow_stream-same n (size_written z position bytes)
  ruling-same plain files z (op.Seek n position) may = stream-same n
  ruling-same plain files z (op.Truncate n size) may = grow_stream-same n size
  ruling-same plain files z (op.Close n) may = stream-same n
  ruling-same plain files z (op.Abort n) may = stream-same n
  ruling-same plain files z (op.CreateSyncAccessHandle at m) may = create_sync-same at m may
  ruling-same plain files z (op.SyncRead n len at) may = handle-same n
  ruling-same plain files z (op.SyncWrite n bytes at) may = grow_handle-same files z n (size_written z at bytes)
  ruling-same plain files z (op.SyncTruncate n size) may = grow_handle-same files z n size
  ruling-same plain files z (op.SyncGetSize n) may = handle-same n
  ruling-same plain files z (op.SyncFlush n) may = handle-same n
  ruling-same plain files z (op.SyncClose n) may = refl
  ruling-same plain files z (op.Persist bucket) may = persist-same plain bucket
  ruling-same plain files z (op.Persisted bucket) may = persisted-same bucket
  ruling-same plain files z op.Estimate may = estimate-same
  ruling-same plain files z (op.Moment ms) may = refl
  ruling-same plain files z (op.Post tag) may = refl
  ruling-same plain files z (op.Await tag) may = await-same tag
  ruling-same plain files z (op.Wait tag) may = refl
  ruling-same plain files z (op.Discard n) may = refl
  ruling-same plain files z op.End may = refl
  ruling-same plain files z (op.Unbound word) may = refl
  ruling-same plain files z (op.Evict unit) may = refl

  sizes-one : (x : Option Own) → ((y : Own) → x ≡ Some y → HasOwnFile (agent_of s k).key y) → sizes_in s x ≡ sizes_in t x
  sizes-one None file = refl
  sizes-one (Some (own.Stream w)) file = refl
  sizes-one (Some (own.Handle h)) file =
      ap (λ x. record { size = length (bytes_in (file_of x)); position = h.cursor }) (r.row h.file (file (own.Handle h) refl))
  sizes-one (Some x) file = refl

  pub sizes-same : OwnFiles s → (o : Op) → sizes_of s k o ≡ sizes_of t k o
  sizes-same files o =
      sizes-one (own_of (agent_of s k) (row_named o)) (λ y is. keeps-row HasOwnFile s k (row_named o) y files is)
      ∙ ap (λ a. sizes_in t (own_of a (row_named o))) r.agent

  pub may-same : (o : Op) → (asks_stuck o ≡ true → others_stuck s k ≡ others_stuck t k) → may_enter s k o ≡ may_enter t k o
  unfolding may_enter
  may-same (op.GetDirectoryHandle dir name create) stuck = ap (λ a. is_of_origin a.key dir) r.agent
  may-same (op.GetFileHandle dir name create) stuck = ap (λ a. is_of_origin a.key dir) r.agent
  may-same (op.RemoveEntry dir name recursive) stuck = ap (λ a. is_of_origin a.key dir) r.agent
  may-same (op.Values dir) stuck = ap (λ a. is_of_origin a.key dir) r.agent
  may-same (op.Next n dir) stuck = ap (λ a. is_of_origin a.key dir && is_iterator_of dir (own_of a n)) r.agent
  may-same (op.GetFile at) stuck = ap (λ a. is_of_origin a.key at) r.agent
  may-same (op.Slice n at len) stuck = ap (λ a. is_snapshot (own_of a n)) r.agent
  may-same (op.CreateWritable at keep) stuck = ap (λ a. is_of_origin a.key at) r.agent
  may-same (op.Write n bytes position) stuck = ap (λ a. is_stream (own_of a n)) r.agent
  may-same (op.Seek n position) stuck = ap (λ a. is_stream (own_of a n)) r.agent
  may-same (op.Truncate n size) stuck = ap (λ a. is_stream (own_of a n)) r.agent
  may-same (op.Close n) stuck = ap (λ a. is_stream (own_of a n)) r.agent
  may-same (op.Abort n) stuck = ap (λ a. is_stream (own_of a n)) r.agent
  may-same (op.CreateSyncAccessHandle at m) stuck = ap (λ a. is_of_origin a.key at) r.agent
  may-same (op.SyncRead n len at) stuck = ap (λ a. is_handle (own_of a n)) r.agent
  may-same (op.SyncWrite n bytes at) stuck = ap (λ a. is_handle (own_of a n)) r.agent
  may-same (op.SyncTruncate n size) stuck = ap (λ a. is_handle (own_of a n)) r.agent
  may-same (op.SyncGetSize n) stuck = ap (λ a. is_handle (own_of a n)) r.agent
  may-same (op.SyncFlush n) stuck = ap (λ a. is_handle (own_of a n)) r.agent
  may-same (op.SyncClose n) stuck = ap (λ a. is_handle (own_of a n)) r.agent
  may-same (op.Discard n) stuck = ap (λ a. is_open_handle (own_of a n)) r.agent
  may-same (op.Await tag) stuck = λ i. r.posted tag i || stuck refl i
  may-same (op.Wait tag) stuck = λ i. not (r.posted tag i) && not (stuck refl i) && not (waits_for (r.agent i).waits tag)
  may-same op.End stuck = ap (λ a. not (list_any (λ x. is_open_row (outline_of x)) a.own)) r.agent
  may-same (op.Evict unit) stuck = refl
  may-same (op.GetDirectory bucket) stuck = refl
  may-same (op.Resolve dir entry) stuck = refl
  may-same (op.IsSameEntry entry to) stuck = refl
  may-same (op.Persist bucket) stuck = refl
  may-same (op.Persisted bucket) stuck = refl
  may-same op.Estimate stuck = refl
  may-same (op.Moment ms) stuck = refl
  may-same (op.Post tag) stuck = refl
  may-same (op.Unbound word) stuck = refl

  writer : (n : ℕ) → writes_in (open_handle in_bytes s k n) ≡ writes_in (open_handle in_bytes t k n)
  writer n = ap (λ a. writes_in (handle_of n a)) r.agent

  pub disk-same : (o : Op) → is_disk_op s k o ≡ is_disk_op t k o
  unfolding is_disk_op
  disk-same (op.SyncWrite n bytes at) = writer n
  disk-same (op.SyncTruncate n size) = writer n
  disk-same (op.SyncFlush n) = writer n
  disk-same (op.SyncClose n) = writer n
  disk-same o = refl
