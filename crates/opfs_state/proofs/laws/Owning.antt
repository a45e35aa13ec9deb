-- What a call is about is of its agent's origin.
use Rattle.std.proofs.Common.{◌≡◌, ℕ, Bool, true, false, ◌&&◌, List, [], ◌∷◌, length, Option, Some, None, option_map, refl, sym, ◌∙◌, subst}
use Rattle.std.specs.List.{AllByRecursion}
use Rattle.opfs_base.specs.Texts.{Text}
use Rattle.opfs_base.specs.Units.{unit_of}
use Rattle.opfs_base.specs.declared.locator.Locator.{Locator}
use Rattle.opfs_state_rows.specs.Changes.Asking.{AreOwnUnits, units_of, unit_in, bucket_unit, stream_unit, handle_unit}
use Rattle.opfs_hist.specs.declared.op.Op.{Op}
use Rattle.opfs_hist.specs.declared.op.Op.TheVariants as op
use Rattle.opfs_laws.proofs.OwnFiles.{OwnFiles, callers-own}
use Rattle.opfs_laws.proofs.lengths.Instance.{lengths-fit}
use Rattle.opfs_laws.proofs.lengths.Readers.{key-on, stream-on, handle-on}
use Rattle.opfs_laws.specs.Lengths.Outlines.{in_lengths_of}
use Rattle.opfs_machine.specs.declared.own.HandleOutline.{HandleOutline}
use Rattle.opfs_machine.specs.declared.own.Own.{Own}
use Rattle.opfs_machine.specs.declared.own.StreamOutline.{StreamOutline}
use Rattle.opfs_machine.specs.declared.state.State.{State}
use Rattle.opfs_machine.specs.Agents.{agent_of, open_stream, open_handle}
use Rattle.opfs_machine.specs.Contents.{in_bytes, in_lengths, outline_of}
use Rattle.opfs_machine.specs.Histories.{may_enter, is_own}
use Rattle.opfs_machine.specs.Victims.{is_callers}
use Rattle.opfs_laws.proofs.separation.Follows.{open-stream-file, open-handle-file}
use Rattle.opfs_state.specs.Laws.Room.{HasOwnBuckets}

abbrev AllOwn : Option Text → List Text → Type 0
AllOwn key units = AllByRecursion (λ unit. is_callers key unit ≡ true) units

first-true : (a b : Bool) → (a && b) ≡ true → a ≡ true
first-true true b h = refl
first-true false b h = cc

-- In the words of the shared store, where the keys are the same.
as-known : (s : State Text Own) (k : ℕ) (units : List Text) → AllOwn (agent_of s k).key units → AllOwn (agent_of (in_lengths_of s) k).key units
as-known s k units all = subst (λ key. AllOwn key units) (sym (key-on length outline_of s k)) all

place-owned : (s : State Text Own) (k : ℕ) (at : Locator) → is_own s k at ≡ true → AllOwn (agent_of (in_lengths_of s) k).key (at.key ∷ [])
place-owned s k at mine = as-known s k (at.key ∷ []) (sym (callers-own (agent_of s k).key at) ∙ mine, tt)

bucket-by : (key : Option Text) (bucket : Text) → ((origin bucket : Text) → key ≡ Some origin → is_callers key (unit_of origin bucket) ≡ true) → AllOwn key (unit_in (option_map (λ origin. unit_of origin bucket) key))
bucket-by None bucket plain = tt
bucket-by (Some origin) bucket plain = (plain origin bucket refl, tt)

bucket-owned : (s : State Text Own) (k : ℕ) (bucket : Text) → HasOwnBuckets s k → AllOwn (agent_of (in_lengths_of s) k).key (unit_in (bucket_unit (in_lengths_of s) k bucket))
bucket-owned s k bucket plain =
    subst (λ key. AllOwn key (unit_in (option_map (λ origin. unit_of origin bucket) key))) (sym (key-on length outline_of s k)) (bucket-by (agent_of s k).key bucket plain)

stream-by : (key : Option Text) (o : Option StreamOutline) → ((w : StreamOutline) → o ≡ Some w → is_callers key w.file.0 ≡ true) → AllOwn key (stream_unit o)
stream-by key None all = tt
stream-by key (Some w) all = (all w refl, tt)

handle-by : (key : Option Text) (o : Option HandleOutline) → ((h : HandleOutline) → o ≡ Some h → is_callers key h.file.0 ≡ true) → AllOwn key (handle_unit o)
handle-by key None all = tt
handle-by key (Some h) all = (all h refl, tt)

stream-owned : (s : State Text Own) (k n : ℕ) → OwnFiles s → AllOwn (agent_of (in_lengths_of s) k).key (stream_unit (open_stream in_lengths (in_lengths_of s) k n))
stream-owned s k n files =
    as-known s k _ (subst (λ o. AllOwn (agent_of s k).key (stream_unit o)) (sym (stream-on in_bytes in_lengths length outline_of lengths-fit s k n)) (stream-by (agent_of s k).key (open_stream in_bytes s k n) (λ w is. open-stream-file s k n w files is)))

handle-owned : (s : State Text Own) (k n : ℕ) → OwnFiles s → AllOwn (agent_of (in_lengths_of s) k).key (handle_unit (open_handle in_lengths (in_lengths_of s) k n))
handle-owned s k n files =
    as-known s k _ (subst (λ o. AllOwn (agent_of s k).key (handle_unit o)) (sym (handle-on in_bytes in_lengths length outline_of lengths-fit s k n)) (handle-by (agent_of s k).key (open_handle in_bytes s k n) (λ h is. open-handle-file s k n h files is)))

pub own-units : (s : State Text Own) (k : ℕ) (o : Op) → OwnFiles s → may_enter s k o ≡ true → HasOwnBuckets s k → AreOwnUnits (in_lengths_of s) k o
unfolding may_enter units_of
own-units s k (op.GetDirectory bucket) files may plain = bucket-owned s k bucket plain
own-units s k (op.GetDirectoryHandle dir name create) files may plain = place-owned s k dir may
own-units s k (op.GetFileHandle dir name create) files may plain = place-owned s k dir may
own-units s k (op.RemoveEntry dir name recursive) files may plain = place-owned s k dir may
own-units s k (op.Values dir) files may plain = tt
own-units s k (op.Next n dir) files may plain = place-owned s k dir (first-true _ _ may)
own-units s k (op.Resolve dir entry) files may plain = tt
own-units s k (op.IsSameEntry entry to) files may plain = tt
own-units s k (op.GetFile at) files may plain = place-owned s k at may
own-units s k (op.Slice n at len) files may plain = tt
own-units s k (op.CreateWritable at keep) files may plain = place-owned s k at may
own-units s k (op.Write n bytes position) files may plain = stream-owned s k n files
own-units s k (op.Seek n position) files may plain = tt
own-units s k (op.Truncate n size) files may plain = stream-owned s k n files
own-units s k (op.Close n) files may plain = stream-owned s k n files
own-units s k (op.Abort n) files may plain = stream-owned s k n files
own-units s k (op.CreateSyncAccessHandle at mode) files may plain = place-owned s k at may
own-units s k (op.SyncRead n len at) files may plain = tt
own-units s k (op.SyncWrite n bytes at) files may plain = handle-owned s k n files
own-units s k (op.SyncTruncate n size) files may plain = handle-owned s k n files
own-units s k (op.SyncGetSize n) files may plain = tt
own-units s k (op.SyncFlush n) files may plain = handle-owned s k n files
own-units s k (op.SyncClose n) files may plain = handle-owned s k n files
own-units s k (op.Persist bucket) files may plain = bucket-owned s k bucket plain
own-units s k (op.Persisted bucket) files may plain = tt
own-units s k op.Estimate files may plain = tt
own-units s k (op.Moment ms) files may plain = tt
own-units s k (op.Post tag) files may plain = tt
own-units s k (op.Await tag) files may plain = tt
own-units s k (op.Wait tag) files may plain = tt
own-units s k (op.Discard n) files may plain = handle-owned s k n files
own-units s k op.End files may plain = tt
own-units s k (op.Unbound word) files may plain = tt
own-units s k (op.Evict unit) files may plain = tt
