-- A call's ruling is the same in the other form.
use Rattle.std.proofs.Common.{◌≡◌, ℕ, ◌-◌, ◌*◌, Bool, not, ◌||◌, if◌then◌else◌, [], is_some, Option, Some, None, option_map, Ok, refl, ap, ◌∙◌}
use Rattle.opfs_base.specs.Blocks.{blocks}
use Rattle.opfs_base.specs.Names.{is_valid_name}
use Rattle.opfs_base.specs.Texts.{Text}
use Rattle.opfs_base.specs.Places.{Place, place_of, child}
use Rattle.opfs_base.specs.Units.{is_bucket_name, unit_of}
use Rattle.opfs_base.specs.declared.locator.Kind.{Kind}
use Rattle.opfs_base.specs.declared.locator.Kind.TheVariants as kind
use Rattle.opfs_base.specs.declared.locator.Locator.{Locator}
use Rattle.opfs_hist.specs.declared.op.Mode.{Mode}
use Rattle.opfs_hist.specs.declared.op.Op.{Op}
use Rattle.opfs_hist.specs.declared.op.Op.TheVariants as op
use Rattle.opfs_hist.specs.declared.reply.Refusal.TheVariants as refusal
use Rattle.opfs_locks.specs.declared.Want.TheVariants as want
use Rattle.opfs_machine.specs.declared.state.Row.{Row}
use Rattle.opfs_machine.specs.declared.state.Sizes.{Sizes}
use Rattle.opfs_machine.specs.declared.state.State.{State}
use Rattle.opfs_machine.specs.Contents.{Contents}
use Rattle.opfs_machine.specs.Rows.{row_at, file_at, rows_within, first_locked}
use Rattle.opfs_machine.specs.Ruled.{◌>>=◌, ◌>>◌, unless, some_or}
use Rattle.opfs_machine.specs.Rulings.{get_directory_ruling, get_handle_ruling, child_ruling, remove_entry_ruling, none_locked, located_ruling, create_writable_ruling, grow_stream_ruling, stream_ruling, create_sync_ruling, grow_handle_ruling, handle_ruling, persist_ruling, persisted_ruling, estimate_ruling, await_ruling, ruling, locked_by, size_in, takes_lock, want_of, is_read_write, first_reserve, size_written, making, reserve_for, persisting}
use Rattle.opfs_machine.specs.Sums.{no_need, keeps_blocks}
use Rattle.opfs_base.specs.Measures.{block_charge}
use Rattle.opfs_laws.specs.Lengths.Outlines.{on_row, on_state}
use Rattle.opfs_laws.proofs.lengths.Readers.{Fits, kind-on, first-on, agent-on, key-on, row-on, file-on, located-on, has-on, within-on, lock-at-on, posted-on, size-on, stream-on, handle-on}

module _ {F G : Type 0} (f : F → G) where
  making-on : (k : Kind) (p : Place) (o : Option (Row F)) → making k p (option_map (on_row f) o) ≡ making k p o
  making-on k p None = refl
  making-on k p (Some r) = refl

  child-on : (k : Kind) (p : Place) (name : Text) (create : Bool) (o : Option (Row F)) → child_ruling k p name create (option_map (on_row f) o) ≡ child_ruling k p name create o
  child-on k p name create None = refl
  child-on k p name create (Some r) = ap (λ b. unless b refusal.TypeMismatchError >> Ok no_need) (kind-on f k r)

  some-on : (o : Option (Row F)) → is_some (option_map (on_row f) o) ≡ is_some o
  some-on None = refl
  some-on (Some r) = refl

module _ {F R G Q : Type 0} (c : Contents F R) (d : Contents G Q) (f : F → G) (g : R → Q) (fits : Fits c d f g) (s : State F R) (k : ℕ) where
  abbrev on : State G Q
  on = on_state f g s

  directory-same : (bucket : Text) → get_directory_ruling on k bucket ≡ get_directory_ruling s k bucket
  unfolding get_directory_ruling
  directory-same bucket =
      let here = λ (origin : Text). ap (making kind.Directory (unit_of origin bucket, [])) (row-on f g s (unit_of origin bucket, [])) ∙ making-on f kind.Directory (unit_of origin bucket, []) (row_at s (unit_of origin bucket, [])) in
      λ i. some_or (key-on f g s k i) refusal.SecurityError >>= (λ origin. unless (is_bucket_name bucket) refusal.TypeError >> Ok (here origin i))

  handle-ruled : (kd : Kind) (dir : Locator) (name : Text) (create : Bool) → get_handle_ruling on kd dir name create ≡ get_handle_ruling s kd dir name create
  unfolding get_handle_ruling
  handle-ruled kd dir name create =
      let p = child (place_of dir) name in
      let below = ap (child_ruling kd p name create) (row-on f g s p) ∙ child-on f kd p name create (row_at s p) in
      λ i. unless (is_valid_name name) refusal.TypeError >> (unless (located-on f g s kind.Directory dir i) refusal.NotFoundError >> below i)

  remove-same : (dir : Locator) (name : Text) (recursive : Bool) → remove_entry_ruling on dir name recursive ≡ remove_entry_ruling s dir name recursive
  unfolding remove_entry_ruling
  remove-same dir name recursive =
      let p = child (place_of dir) name in
      let there = ap is_some (row-on f g s p) ∙ some-on f (row_at s p) in
      let locked = ap first_locked (within-on f g s p) ∙ first-on f (rows_within s p) in
      λ i. unless (is_valid_name name) refusal.TypeError
      >> (unless (located-on f g s kind.Directory dir i) refusal.NotFoundError
      >> (unless (there i) refusal.NotFoundError
      >> (unless (recursive || not (has-on f g s p i)) refusal.InvalidModificationError
      >> (none_locked (locked i) >> Ok no_need))))

  located-same : (kd : Kind) (at : Locator) → located_ruling on kd at ≡ located_ruling s kd at
  unfolding located_ruling
  located-same kd at = ap (λ b. unless b refusal.NotFoundError >> Ok no_need) (located-on f g s kd at)

  pub reserve-same : (at : Locator) (keep : Bool) → first_reserve d on at keep ≡ first_reserve c s at keep
  reserve-same at keep = ap (λ n. if keep then blocks n else 0) (ap (size_in d) (file-on f g s (place_of at)) ∙ size-on c d f g fits (file_at s (place_of at)))

  writable-same : (at : Locator) (keep : Bool) → create_writable_ruling d on at keep ≡ create_writable_ruling c s at keep
  unfolding create_writable_ruling
  writable-same at keep =
      λ i. unless (located-on f g s kind.File at i) refusal.NotFoundError
      >> (takes_lock want.Shared (lock-at-on f g s (place_of at) i) >> Ok (keeps_blocks (reserve-same at keep i)))

  grown-same : (n size : ℕ) → grow_stream_ruling d on k n size ≡ grow_stream_ruling c s k n size
  unfolding grow_stream_ruling
  grown-same n size = ap (λ o. some_or o refusal.TypeError >>= (λ w. Ok (keeps_blocks (reserve_for w.reserve size - w.reserve)))) (stream-on c d f g fits s k n)

  stream-same : (n : ℕ) → stream_ruling d on k n ≡ stream_ruling c s k n
  unfolding stream_ruling
  stream-same n = ap (λ o. some_or o refusal.TypeError >>= (λ w. Ok no_need)) (stream-on c d f g fits s k n)

  sync-same : (at : Locator) (m : Mode) → create_sync_ruling on at m ≡ create_sync_ruling s at m
  unfolding create_sync_ruling
  sync-same at m =
      λ i. unless (located-on f g s kind.File at i) refusal.NotFoundError >> (takes_lock (want_of m) (lock-at-on f g s (place_of at) i) >> Ok no_need)

  widened-same : (z : Sizes) (n size : ℕ) → grow_handle_ruling d on z k n size ≡ grow_handle_ruling c s z k n size
  unfolding grow_handle_ruling
  widened-same z n size =
      λ i. some_or (handle-on c d f g fits s k n i) refusal.InvalidStateError >>= (λ h. unless (is_read_write h.mode) (locked_by (lock-at-on f g s h.file i)) >> Ok (record {
        quota = blocks size - blocks z.size;
        pool = reserve_for h.reserve size - h.reserve;
        charge = block_charge * (reserve_for h.reserve size - h.reserve);
      }))

  handle-same : (n : ℕ) → handle_ruling d on k n ≡ handle_ruling c s k n
  unfolding handle_ruling
  handle-same n = ap (λ o. some_or o refusal.InvalidStateError >>= (λ h. Ok no_need)) (handle-on c d f g fits s k n)

  persist-same : (bucket : Text) → persist_ruling on k bucket ≡ persist_ruling s k bucket
  unfolding persist_ruling
  persist-same bucket =
      ap (λ (a : Option Text × Bool). some_or a.0 refusal.TypeError >>= (λ origin. unless (is_bucket_name bucket) refusal.TypeError >> Ok (persisting s a.1 (unit_of origin bucket))))
      (λ i. (key-on f g s k i, (agent-on f g s k i).grant))

  persisted-same : (bucket : Text) → persisted_ruling on k bucket ≡ persisted_ruling s k bucket
  unfolding persisted_ruling
  persisted-same bucket = ap (λ o. some_or o refusal.TypeError >>= (λ origin. unless (is_bucket_name bucket) refusal.TypeError >> Ok no_need)) (key-on f g s k)

  estimate-same : estimate_ruling on k ≡ estimate_ruling s k
  unfolding estimate_ruling
  estimate-same = ap (λ o. some_or o refusal.TypeError >>= (λ origin. Ok no_need)) (key-on f g s k)

  await-same : (tag : Text) → await_ruling on k tag ≡ await_ruling s k tag
  unfolding await_ruling
  await-same tag = ap (λ b. unless b refusal.Stuck >> Ok no_need) (posted-on f g s k tag)

  pub ruling-on : (z : Sizes) (o : Op) → ruling d on z k o ≡ ruling c s z k o
  unfolding ruling
  ruling-on z (op.GetDirectory bucket) = directory-same bucket
  ruling-on z (op.GetDirectoryHandle dir name create) = handle-ruled kind.Directory dir name create
  ruling-on z (op.GetFileHandle dir name create) = handle-ruled kind.File dir name create
  ruling-on z (op.RemoveEntry dir name recursive) = remove-same dir name recursive
  ruling-on z (op.Values dir) = refl
  ruling-on z (op.Next n dir) = located-same kind.Directory dir
  ruling-on z (op.Resolve dir entry) = refl
  ruling-on z (op.IsSameEntry entry to) = refl
  ruling-on z (op.GetFile at) = located-same kind.File at
  ruling-on z (op.Slice n at len) = refl
  ruling-on z (op.CreateWritable at keep) = writable-same at keep
  ruling-on z (op.Write n bytes position) = grown-same n (size_written z position bytes)
  ruling-on z (op.Seek n position) = stream-same n
  ruling-on z (op.Truncate n size) = grown-same n size
  ruling-on z (op.Close n) = stream-same n
  ruling-on z (op.Abort n) = stream-same n
  ruling-on z (op.CreateSyncAccessHandle at m) = sync-same at m
  ruling-on z (op.SyncRead n len at) = handle-same n
  ruling-on z (op.SyncWrite n bytes at) = widened-same z n (size_written z at bytes)
  ruling-on z (op.SyncTruncate n size) = widened-same z n size
  ruling-on z (op.SyncGetSize n) = handle-same n
  ruling-on z (op.SyncFlush n) = handle-same n
  ruling-on z (op.SyncClose n) = refl
  ruling-on z (op.Persist bucket) = persist-same bucket
  ruling-on z (op.Persisted bucket) = persisted-same bucket
  ruling-on z op.Estimate = estimate-same
  ruling-on z (op.Moment ms) = refl
  ruling-on z (op.Post tag) = refl
  ruling-on z (op.Await tag) = await-same tag
  ruling-on z (op.Wait tag) = refl
  ruling-on z (op.Discard n) = refl
  ruling-on z op.End = refl
  ruling-on z (op.Unbound word) = refl
  ruling-on z (op.Evict unit) = refl
