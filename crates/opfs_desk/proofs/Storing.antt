-- What a call's entries store: the evictions, and one change at most.
use Rattle.std.proofs.Common.{◌≡◌, ℕ, ◌≤◌, true, false, List, [], ◌∷◌, ◌++◌, map, fold, length, Option, Some, None, refl, sym, ap, ◌∙◌, append-nil, append_assoc, arith, if◌then◌else◌, Bool}
use Rattle.std.specs.Prelude.{◌&&◌, not}
use Rattle.opfs_base.specs.Places.{Place, place_of, child}
use Rattle.opfs_base.specs.Texts.{Text}
use Rattle.opfs_base.specs.Units.{unit_of}
use Rattle.opfs_hist.specs.declared.entry.Entry.{Entry}
use Rattle.opfs_hist.specs.declared.op.Op.{Op}
use Rattle.opfs_hist.specs.declared.op.Op.TheVariants.{GetDirectory, GetDirectoryHandle, GetFileHandle, RemoveEntry, Close, SyncFlush, SyncClose, Persist, Evict}
use Rattle.opfs_machine.specs.declared.own.HandleOutline.{HandleOutline}
use Rattle.opfs_machine.specs.declared.own.Own.{Own}
use Rattle.opfs_machine.specs.declared.own.Own.TheVariants as own
use Rattle.opfs_machine.specs.declared.state.FileRow.{FileRow}
use Rattle.opfs_machine.specs.declared.state.Row.{Row}
use Rattle.opfs_machine.specs.declared.state.State.{State}
use Rattle.opfs_machine.specs.Agents.{agent_of, own_of, open_handle}
use Rattle.opfs_laws.specs.Histories.Opened.{added}
use Rattle.opfs_laws.specs.Histories.Unread.{ArePendingFor}
use Rattle.opfs_laws.proofs.histories.Adding.{changes-append}
use Rattle.opfs_desk_steps.proofs.book_steps.Taken.{pending-told}
use Rattle.opfs_machine.specs.Changes.{Change, changes, changes_from, entry_changes, evict, file_stored, handle_stored, make_directory, make_file, make_root, mode_changed, persist, root_made, stored_by, stream_stored, where_missing}
use Rattle.opfs_machine.specs.Contents.{in_bytes}
use Rattle.opfs_machine.specs.Effects.{moment_of}
use Rattle.opfs_machine.specs.Rows.{row_at, file_at}
use Rattle.opfs_machine.specs.Rulings.{is_read_write}
use Rattle.opfs_machine.specs.Histories.{after_entry, state_after}
use Rattle.opfs_machine.specs.Openings.{Opening, begun}
use Rattle.opfs_machine.specs.Runs.{eviction}
use Rattle.opfs_machine.specs.Steps.{evicted, is_refusal}
use Rattle.opfs_machine.specs.Sums.{is_persistent}

missing-few : (r : Option (Row Text)) (change : Change) → length (where_missing r change) ≤ 1
missing-few None change = omega arith
missing-few (Some r) change = omega arith

root-few : (s : State Text Own) (bucket : Text) (key : Option Text) → length (root_made s bucket key) ≤ 1
root-few s bucket None = omega arith
root-few s bucket (Some origin) = missing-few (row_at s (unit_of origin bucket, [])) (make_root (unit_of origin bucket))

stream-few : (stamp : ℕ) (r : Option Own) → length (stream_stored stamp r) ≤ 1
stream-few stamp None = omega arith
stream-few stamp (Some (own.Stream w)) = omega arith
stream-few stamp (Some other) = omega arith

file-few : (file : Place) (r : Option (FileRow Text)) → length (file_stored file r) ≤ 1
file-few file None = omega arith
file-few file (Some f) = omega arith

handle-few : (s : State Text Own) (h : Option HandleOutline) → length (handle_stored s h) ≤ 1
handle-few s None = omega arith
handle-few s (Some h) = elim (is_read_write h.mode) as (λ t. length (elim t as (λ y. List Change) [ true ↦ file_stored h.file (file_at s h.file) | false ↦ [] ]) ≤ 1) [
  | true ↦ file-few h.file (file_at s h.file)
  | false ↦ omega arith
]

mode-few : (s : State Text Own) (grant : Bool) (bucket : Text) (key : Option Text) → length (mode_changed s grant bucket key) ≤ 1
mode-few s grant bucket None = omega arith
mode-few s grant bucket (Some origin) = by-test (grant && not (is_persistent s (unit_of origin bucket)))
  where
    by-test : (t : Bool) → length (if t then persist (unit_of origin bucket) ∷ [] else []) ≤ 1
    by-test true = omega arith
    by-test false = omega arith

stored-few : (s : State Text Own) (k : ℕ) (op : Op) → length (stored_by s k op) ≤ 1
unfolding stored_by
stored-few s k (GetDirectory bucket) = root-few s bucket (agent_of s k).key
stored-few s k (GetDirectoryHandle dir name create) = missing-few (row_at s (child (place_of dir) name)) (make_directory (child (place_of dir) name))
stored-few s k (GetFileHandle dir name create) = missing-few (row_at s (child (place_of dir) name)) (make_file (child (place_of dir) name) (moment_of s k))
stored-few s k (RemoveEntry dir name recursive) = omega arith
stored-few s k (Close n) = stream-few (moment_of s k) (own_of (agent_of s k) n)
stored-few s k (SyncFlush n) = handle-few s (open_handle in_bytes s k n)
stored-few s k (SyncClose n) = handle-few s (open_handle in_bytes s k n)
stored-few s k (Persist bucket) = mode-few s (agent_of s k).grant bucket (agent_of s k).key
stored-few s k (Evict unit) = omega arith
stored-few s k op = omega arith

pub own-few : (s : State Text Own) (e : Entry) → length (entry_changes s e) ≤ 1
own-few s e = elim (is_refusal e.reply) as (λ t. length (elim t as (λ y. List Change) [ true ↦ [] | false ↦ stored_by s e.agent e.op ]) ≤ 1) [
  | true ↦ omega arith
  | false ↦ stored-few s e.agent e.op
]

-- ---- its group

evictions-change : (s : State Text Own) (gone : List Text) → changes_from s (map eviction gone) ≡ map evict gone
unfolding stored_by
evictions-change s [] = refl
evictions-change s (unit ∷ gone) = ap (λ cs. evict unit ∷ cs) (evictions-change (evicted s unit) gone)

evictions-after : (s : State Text Own) (units : List Text) → fold after_entry s (map eviction units) ≡ fold evicted s units
evictions-after s [] = refl
evictions-after s (unit ∷ units) = evictions-after (evicted s unit) units

group-changes : (s : State Text Own) (gone : List Text) (e : Entry) → changes_from s (map eviction gone ++ e ∷ []) ≡ map evict gone ++ entry_changes (fold evicted s gone) e
group-changes s gone e =
    changes-append s (map eviction gone) (e ∷ [])
    ∙ (λ i. evictions-change s gone i ++ (entry_changes (evictions-after s gone i) e ++ []))
    ∙ ap (λ cs. map evict gone ++ cs) (append-nil (entry_changes (fold evicted s gone) e))

-- What an agent's pending calls, its call's evictions and the call store.
pub added-changes : (tells : Type 0) (o : Opening) (h calls : List Entry) (k : ℕ) (gone : List Text) (e : Entry) → ArePendingFor tells (state_after o h) k calls
    → changes o (h ++ added calls gone e) ≡ changes o h ++ (map evict gone ++ entry_changes (fold evicted (state_after o (h ++ calls)) gone) e)
added-changes tells o h calls k gone e pending =
    ap (changes o) (sym (append_assoc h calls (map eviction gone ++ e ∷ [])))
    ∙ (changes-append (begun o) (h ++ calls) (map eviction gone ++ e ∷ [])
    ∙ (λ i. pending-told tells o k h calls (h ++ calls) pending refl i ++ group-changes (state_after o (h ++ calls)) gone e i))
