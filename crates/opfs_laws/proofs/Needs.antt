-- What a call that is not refused needs.
use Rattle.std.proofs.Common.{◌≡◌, ℕ, ◌-◌, ◌*◌, Bool, [], Option, Some, None, Ok, Err, ap}
use Rattle.opfs_base.specs.Places.{Place, place_of, child}
use Rattle.opfs_base.specs.Texts.{Text}
use Rattle.opfs_base.specs.Units.{unit_of}
use Rattle.opfs_base.specs.declared.locator.Kind.{Kind}
use Rattle.opfs_base.specs.declared.locator.Kind.TheVariants as kind
use Rattle.opfs_base.specs.declared.locator.Locator.{Locator}
use Rattle.opfs_hist.specs.declared.op.Mode.{Mode}
use Rattle.opfs_hist.specs.declared.op.Op.{Op}
use Rattle.opfs_hist.specs.declared.op.Op.TheVariants as op
use Rattle.opfs_hist.specs.declared.reply.Refusal.{Refusal}
use Rattle.opfs_machine.specs.declared.own.HandleOutline.{HandleOutline}
use Rattle.opfs_machine.specs.declared.own.StreamOutline.{StreamOutline}
use Rattle.opfs_machine.specs.declared.own.Own.{Own}
use Rattle.opfs_machine.specs.declared.state.Need.{Need}
use Rattle.opfs_machine.specs.declared.state.Row.{Row}
use Rattle.opfs_machine.specs.declared.state.Sizes.{Sizes}
use Rattle.opfs_machine.specs.declared.state.State.{State}
use Rattle.opfs_machine.specs.Agents.{agent_of, open_stream, open_handle}
use Rattle.opfs_machine.specs.Contents.{in_bytes}
use Rattle.opfs_machine.specs.Rows.{row_at}
use Rattle.opfs_machine.specs.Ruled.{Ruled}
use Rattle.opfs_machine.specs.Rulings.{get_directory_ruling, get_handle_ruling, child_ruling, remove_entry_ruling, located_ruling, create_writable_ruling, grow_stream_ruling, stream_ruling, create_sync_ruling, grow_handle_ruling, handle_ruling, persist_ruling, persisted_ruling, estimate_ruling, await_ruling, ruling, making, persisting, first_reserve, reserve_for, size_written}
use Rattle.opfs_machine.specs.Sums.{no_need, keeps_blocks}
use Rattle.opfs_base.specs.Measures.{block_charge}
use Rattle.opfs_laws.proofs.Gone.{then-gave, bind-gave, some-gave}

abbrev Grown : State Text Own → ℕ → ℕ → ℕ → Need → Type 0
Grown s k n size need = (w : StreamOutline) × (open_stream in_bytes s k n ≡ Some w) × (need ≡ keeps_blocks (reserve_for w.reserve size - w.reserve))

abbrev Written : State Text Own → ℕ → ℕ → ℕ → Need → Type 0
Written s k n size need =
    (h : HandleOutline) × (open_handle in_bytes s k n ≡ Some h) × (need.pool ≡ reserve_for h.reserve size - h.reserve) × (need.charge ≡ block_charge * (reserve_for h.reserve size - h.reserve))

abbrev pub Needs : State Text Own → Sizes → ℕ → Op → Need → Type 0
Needs s z k (op.GetDirectory bucket) need =
    (origin : Text) × ((agent_of s k).key ≡ Some origin) × (need ≡ making kind.Directory (unit_of origin bucket, []) (row_at s (unit_of origin bucket, [])))
Needs s z k (op.GetDirectoryHandle dir name create) need = need ≡ making kind.Directory (child (place_of dir) name) (row_at s (child (place_of dir) name))
Needs s z k (op.GetFileHandle dir name create) need = need ≡ making kind.File (child (place_of dir) name) (row_at s (child (place_of dir) name))
Needs s z k (op.CreateWritable at keep) need = need ≡ keeps_blocks (first_reserve in_bytes s at keep)
Needs s z k (op.Write n bytes position) need = Grown s k n (size_written z position bytes) need
Needs s z k (op.Truncate n size) need = Grown s k n size need
Needs s z k (op.SyncWrite n bytes at) need = Written s k n (size_written z at bytes) need
Needs s z k (op.SyncTruncate n size) need = Written s k n size need
Needs s z k (op.Persist bucket) need = (origin : Text) × ((agent_of s k).key ≡ Some origin) × (need ≡ persisting s (agent_of s k).grant (unit_of origin bucket))
Needs s z k o need = need ≡ no_need

same-need : {a b : Need} → ◌≡◌ {A = Ruled Need} (Ok a) (Ok b) → b ≡ a
same-need h = cc

err-need : {r : Refusal} {b : Need} → ◌≡◌ {A = Ruled Need} (Err r) (Ok b) → ⊥
err-need h = cc

directory-needs : (s : State Text Own) (z : Sizes) (k : ℕ) (bucket : Text) (need : Need) → get_directory_ruling s k bucket ≡ Ok need → Needs s z k (op.GetDirectory bucket) need
unfolding get_directory_ruling
directory-needs s z k bucket need h =
    let both = bind-gave _ _ need h in
    (both.0, some-gave _ _ both.0 both.1, same-need (then-gave _ _ need both.2).1)

child-needs : (k : Kind) (p : Place) (name : Text) (create : Bool) (r : Option (Row Text)) (need : Need) → child_ruling k p name create r ≡ Ok need → need ≡ making k p r
child-needs k p name create (Some r) need h = same-need (then-gave _ _ need h).1
child-needs k p name create None need h = same-need (then-gave _ _ need (then-gave _ _ need h).1).1

handle-needs : (s : State Text Own) (k : Kind) (dir : Locator) (name : Text) (create : Bool) (need : Need) → get_handle_ruling s k dir name create ≡ Ok need
    → need ≡ making k (child (place_of dir) name) (row_at s (child (place_of dir) name))
unfolding get_handle_ruling
handle-needs s k dir name create need h =
    child-needs k (child (place_of dir) name) name create (row_at s (child (place_of dir) name)) need (then-gave _ _ need (then-gave _ _ need h).1).1

remove-needs : (s : State Text Own) (dir : Locator) (name : Text) (recursive : Bool) (need : Need) → remove_entry_ruling s dir name recursive ≡ Ok need → need ≡ no_need
unfolding remove_entry_ruling
remove-needs s dir name recursive need h = same-need (then-gave _ _ need (then-gave _ _ need (then-gave _ _ need (then-gave _ _ need (then-gave _ _ need h).1).1).1).1).1

located-needs : (s : State Text Own) (k : Kind) (at : Locator) (need : Need) → located_ruling s k at ≡ Ok need → need ≡ no_need
unfolding located_ruling
located-needs s k at need h = same-need (then-gave _ _ need h).1

writable-needs : (s : State Text Own) (at : Locator) (keep : Bool) (need : Need) → create_writable_ruling in_bytes s at keep ≡ Ok need → need ≡ keeps_blocks (first_reserve in_bytes s at keep)
unfolding create_writable_ruling
writable-needs s at keep need h = same-need (then-gave _ _ need (then-gave _ _ need h).1).1

grow-needs : (s : State Text Own) (k n size : ℕ) (need : Need) → grow_stream_ruling in_bytes s k n size ≡ Ok need → Grown s k n size need
unfolding grow_stream_ruling
grow-needs s k n size need h = let both = bind-gave _ _ need h in (both.0, some-gave _ _ both.0 both.1, same-need both.2)

stream-needs : (s : State Text Own) (k n : ℕ) (need : Need) → stream_ruling in_bytes s k n ≡ Ok need → need ≡ no_need
unfolding stream_ruling
stream-needs s k n need h = same-need (bind-gave _ _ need h).2

sync-needs : (s : State Text Own) (at : Locator) (m : Mode) (need : Need) → create_sync_ruling s at m ≡ Ok need → need ≡ no_need
unfolding create_sync_ruling
sync-needs s at m need h = same-need (then-gave _ _ need (then-gave _ _ need h).1).1

write-needs : (s : State Text Own) (z : Sizes) (k n size : ℕ) (need : Need) → grow_handle_ruling in_bytes s z k n size ≡ Ok need → Written s k n size need
unfolding grow_handle_ruling
write-needs s z k n size need h =
    let both = bind-gave _ _ need h in
    let is = same-need (then-gave _ _ need both.2).1 in
    (both.0, some-gave _ _ both.0 both.1, ap (λ n. n.pool) is, ap (λ n. n.charge) is)

open-needs : (s : State Text Own) (k n : ℕ) (need : Need) → handle_ruling in_bytes s k n ≡ Ok need → need ≡ no_need
unfolding handle_ruling
open-needs s k n need h = same-need (bind-gave _ _ need h).2

persist-needs : (s : State Text Own) (z : Sizes) (k : ℕ) (bucket : Text) (need : Need) → persist_ruling s k bucket ≡ Ok need → Needs s z k (op.Persist bucket) need
unfolding persist_ruling
persist-needs s z k bucket need h =
    let both = bind-gave _ _ need h in
    (both.0, some-gave _ _ both.0 both.1, same-need (then-gave _ _ need both.2).1)

persisted-needs : (s : State Text Own) (k : ℕ) (bucket : Text) (need : Need) → persisted_ruling s k bucket ≡ Ok need → need ≡ no_need
unfolding persisted_ruling
persisted-needs s k bucket need h = same-need (then-gave _ _ need (bind-gave _ _ need h).2).1

estimate-needs : (s : State Text Own) (k : ℕ) (need : Need) → estimate_ruling s k ≡ Ok need → need ≡ no_need
unfolding estimate_ruling
estimate-needs s k need h = same-need (bind-gave _ _ need h).2

await-needs : (s : State Text Own) (k : ℕ) (tag : Text) (need : Need) → await_ruling s k tag ≡ Ok need → need ≡ no_need
unfolding await_ruling
await-needs s k tag need h = same-need (then-gave _ _ need h).1

pub needs : (s : State Text Own) (z : Sizes) (k : ℕ) (o : Op) (need : Need) → ruling in_bytes s z k o ≡ Ok need → Needs s z k o need
unfolding ruling
needs s z k (op.GetDirectory bucket) need h = directory-needs s z k bucket need h
needs s z k (op.GetDirectoryHandle dir name create) need h = handle-needs s kind.Directory dir name create need h
needs s z k (op.GetFileHandle dir name create) need h = handle-needs s kind.File dir name create need h
needs s z k (op.RemoveEntry dir name recursive) need h = remove-needs s dir name recursive need h
needs s z k (op.Next n dir) need h = located-needs s kind.Directory dir need h
needs s z k (op.GetFile at) need h = located-needs s kind.File at need h
needs s z k (op.CreateWritable at keep) need h = writable-needs s at keep need h
needs s z k (op.Write n bytes position) need h = grow-needs s k n (size_written z position bytes) need h
needs s z k (op.Seek n position) need h = stream-needs s k n need h
needs s z k (op.Truncate n size) need h = grow-needs s k n size need h
needs s z k (op.Close n) need h = stream-needs s k n need h
needs s z k (op.Abort n) need h = stream-needs s k n need h
needs s z k (op.CreateSyncAccessHandle at m) need h = sync-needs s at m need h
needs s z k (op.SyncRead n len at) need h = open-needs s k n need h
needs s z k (op.SyncWrite n bytes at) need h = write-needs s z k n (size_written z at bytes) need h
needs s z k (op.SyncTruncate n size) need h = write-needs s z k n size need h
needs s z k (op.SyncGetSize n) need h = open-needs s k n need h
needs s z k (op.SyncFlush n) need h = open-needs s k n need h
needs s z k (op.Persist bucket) need h = persist-needs s z k bucket need h
needs s z k (op.Persisted bucket) need h = persisted-needs s k bucket need h
needs s z k op.Estimate need h = estimate-needs s k need h
needs s z k (op.Await tag) need h = await-needs s k tag need h
needs s z k (op.Unbound word) need h = absurd (err-need h)
needs s z k o need h = same-need h
