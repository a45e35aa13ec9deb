-- A call of an agent without a key asks for no block: what it is about is of its origin.
use Rattle.std.proofs.Common.{◌≡◌, ℕ, Bool, true, false, Option, Some, None, [], Ok, Err, refl, sym, ap, ◌∙◌, subst}
use Rattle.std.specs.Prelude.{if◌then◌else◌}
use Rattle.std.specs.List.{AllByRecursion}
use Rattle.opfs_base.specs.Measures.{mode_charge}
use Rattle.opfs_machine.specs.Sums.{no_need}
use Rattle.opfs_base.specs.Places.{Place, place_of, child}
use Rattle.opfs_base.specs.Texts.{Text}
use Rattle.opfs_base.specs.Units.{unit_of}
use Rattle.opfs_base.specs.declared.locator.Kind.{Kind}
use Rattle.opfs_base.specs.declared.locator.Kind.TheVariants as kind
use Rattle.opfs_base.specs.declared.locator.Locator.{Locator}
use Rattle.opfs_state_rows.proofs.changes.Told.{same-need, grown-told, written-told}
use Rattle.opfs_state_rows.specs.Changes.Asking.{AreOwnUnits, units_of, stream_unit, handle_unit}
use Rattle.opfs_hist.specs.declared.op.Mode.{Mode}
use Rattle.opfs_hist.specs.declared.op.Op.{Op}
use Rattle.opfs_hist.specs.declared.op.Op.TheVariants as op
use Rattle.opfs_hist.specs.declared.reply.Refusal.{Refusal}
use Rattle.opfs_laws.proofs.Gone.{then-gave, bind-gave}
use Rattle.opfs_machine.specs.declared.state.Need.{Need}
use Rattle.opfs_machine.specs.declared.state.Row.{Row}
use Rattle.opfs_machine.specs.declared.state.Sizes.{Sizes}
use Rattle.opfs_machine.specs.Agents.{agent_of}
use Rattle.opfs_machine.specs.Contents.{in_lengths}
use Rattle.opfs_machine.specs.Rows.{row_at}
use Rattle.opfs_machine.specs.Ruled.{Ruled}
use Rattle.opfs_machine.specs.Rulings.{ruling, get_directory_ruling, get_handle_ruling, child_ruling, remove_entry_ruling, located_ruling, stream_ruling, create_sync_ruling, handle_ruling, persist_ruling, persisted_ruling, estimate_ruling, await_ruling, making, size_written}
use Rattle.opfs_machine.specs.Victims.{is_callers}
use Rattle.opfs_state_rows.specs.Standing.Seen.{Machine}

no-need : {r : Refusal} {b : Need} → ◌≡◌ {A = Ruled Need} (Err r) (Ok b) → ⊥
no-need h = cc

keyless-unit : (m : Machine) (k : ℕ) (unit : Text) → (agent_of m k).key ≡ None → is_callers (agent_of m k).key unit ≡ true → ⊥
keyless-unit m k unit none own = false_true (sym (ap (λ key. is_callers key unit) none) ∙ own)
  where
    false_true : false ≡ true → ⊥
    false_true h = cc

made-pool : (k : Kind) (place : Place) (o : Option (Row ℕ)) → (making k place o).pool ≡ 0
made-pool k place None = refl
made-pool k place (Some r) = refl

directory-pool : (m : Machine) (k : ℕ) (bucket : Text) (need : Need) → get_directory_ruling m k bucket ≡ Ok need → need.pool ≡ 0
unfolding get_directory_ruling
directory-pool m k bucket need h =
    let both = bind-gave _ _ need h in
    ap (λ (x : Need). x.pool) (same-need (then-gave _ _ need both.2).1) ∙ made-pool kind.Directory (unit_of both.0 bucket, []) (row_at m (unit_of both.0 bucket, []))

child-pool : (k : Kind) (place : Place) (name : Text) (create : Bool) (o : Option (Row ℕ)) (need : Need) → child_ruling k place name create o ≡ Ok need → need.pool ≡ 0
child-pool k place name create None need h = ap (λ (x : Need). x.pool) (same-need (then-gave _ _ need (then-gave _ _ need h).1).1)
child-pool k place name create (Some r) need h = ap (λ (x : Need). x.pool) (same-need (then-gave _ _ need h).1)

handle-pool : (m : Machine) (k : Kind) (dir : Locator) (name : Text) (create : Bool) (need : Need) → get_handle_ruling m k dir name create ≡ Ok need → need.pool ≡ 0
unfolding get_handle_ruling
handle-pool m k dir name create need h = child-pool k (child (place_of dir) name) name create (row_at m (child (place_of dir) name)) need (then-gave _ _ need (then-gave _ _ need h).1).1

remove-pool : (m : Machine) (dir : Locator) (name : Text) (recursive : Bool) (need : Need) → remove_entry_ruling m dir name recursive ≡ Ok need → need.pool ≡ 0
unfolding remove_entry_ruling
remove-pool m dir name recursive need h =
    ap (λ (x : Need). x.pool) (same-need (then-gave _ _ need (then-gave _ _ need (then-gave _ _ need (then-gave _ _ need (then-gave _ _ need h).1).1).1).1).1)

located-pool : (m : Machine) (k : Kind) (at : Locator) (need : Need) → located_ruling m k at ≡ Ok need → need.pool ≡ 0
unfolding located_ruling
located-pool m k at need h = ap (λ (x : Need). x.pool) (same-need (then-gave _ _ need h).1)

sync-pool : (m : Machine) (at : Locator) (mode : Mode) (need : Need) → create_sync_ruling m at mode ≡ Ok need → need.pool ≡ 0
unfolding create_sync_ruling
sync-pool m at mode need h = ap (λ (x : Need). x.pool) (same-need (then-gave _ _ need (then-gave _ _ need h).1).1)

stream-pool : (m : Machine) (k n : ℕ) (need : Need) → stream_ruling in_lengths m k n ≡ Ok need → need.pool ≡ 0
unfolding stream_ruling
stream-pool m k n need h = ap (λ (x : Need). x.pool) (same-need (bind-gave _ _ need h).2)

open-pool : (m : Machine) (k n : ℕ) (need : Need) → handle_ruling in_lengths m k n ≡ Ok need → need.pool ≡ 0
unfolding handle_ruling
open-pool m k n need h = ap (λ (x : Need). x.pool) (same-need (bind-gave _ _ need h).2)

persisting-pool : (m : Machine) (grant : Bool) (unit : Text) (b : Bool) → (if b then record { quota = 0; pool = 0; charge = mode_charge unit } else no_need).pool ≡ 0
persisting-pool m grant unit true = refl
persisting-pool m grant unit false = refl

persist-pool : (m : Machine) (k : ℕ) (bucket : Text) (need : Need) → persist_ruling m k bucket ≡ Ok need → need.pool ≡ 0
unfolding persist_ruling
persist-pool m k bucket need h =
    let both = bind-gave _ _ need h in
    ap (λ (x : Need). x.pool) (same-need (then-gave _ _ need both.2).1) ∙ persisting-pool m (agent_of m k).grant (unit_of both.0 bucket) _

persisted-pool : (m : Machine) (k : ℕ) (bucket : Text) (need : Need) → persisted_ruling m k bucket ≡ Ok need → need.pool ≡ 0
unfolding persisted_ruling
persisted-pool m k bucket need h = ap (λ (x : Need). x.pool) (same-need (then-gave _ _ need (bind-gave _ _ need h).2).1)

estimate-pool : (m : Machine) (k : ℕ) (need : Need) → estimate_ruling m k ≡ Ok need → need.pool ≡ 0
unfolding estimate_ruling
estimate-pool m k need h = ap (λ (x : Need). x.pool) (same-need (bind-gave _ _ need h).2)

await-pool : (m : Machine) (k : ℕ) (tag : Text) (need : Need) → await_ruling m k tag ≡ Ok need → need.pool ≡ 0
unfolding await_ruling
await-pool m k tag need h = ap (λ (x : Need). x.pool) (same-need (then-gave _ _ need h).1)

pub keyless-asks-nothing : (m : Machine) (z : Sizes) (k : ℕ) (o : Op) → AreOwnUnits m k o → (need : Need) → ruling in_lengths m z k o ≡ Ok need → (agent_of m k).key ≡ None → need.pool ≡ 0
unfolding ruling units_of
keyless-asks-nothing m z k (op.GetDirectory bucket) own need ruled none = directory-pool m k bucket need ruled
keyless-asks-nothing m z k (op.GetDirectoryHandle dir name create) own need ruled none = handle-pool m kind.Directory dir name create need ruled
keyless-asks-nothing m z k (op.GetFileHandle dir name create) own need ruled none = handle-pool m kind.File dir name create need ruled
keyless-asks-nothing m z k (op.RemoveEntry dir name recursive) own need ruled none = remove-pool m dir name recursive need ruled
keyless-asks-nothing m z k (op.Values dir) own need ruled none = ap (λ (x : Need). x.pool) (same-need ruled)
keyless-asks-nothing m z k (op.Next n dir) own need ruled none = located-pool m kind.Directory dir need ruled
keyless-asks-nothing m z k (op.Resolve dir entry) own need ruled none = ap (λ (x : Need). x.pool) (same-need ruled)
keyless-asks-nothing m z k (op.IsSameEntry entry to) own need ruled none = ap (λ (x : Need). x.pool) (same-need ruled)
keyless-asks-nothing m z k (op.GetFile at) own need ruled none = located-pool m kind.File at need ruled
keyless-asks-nothing m z k (op.Slice n at len) own need ruled none = ap (λ (x : Need). x.pool) (same-need ruled)
keyless-asks-nothing m z k (op.CreateWritable at keep) own need ruled none = absurd (keyless-unit m k at.key none own.0)
keyless-asks-nothing m z k (op.Write n bytes position) own need ruled none = let told = grown-told m k n (size_written z position bytes) need ruled in absurd (keyless-unit m k told.0.file.0 none (subst (λ us. AllByRecursion (λ unit. is_callers (agent_of m k).key unit ≡ true) us) (ap stream_unit told.1) own).0)
keyless-asks-nothing m z k (op.Seek n position) own need ruled none = stream-pool m k n need ruled
keyless-asks-nothing m z k (op.Truncate n size) own need ruled none = let told = grown-told m k n size need ruled in absurd (keyless-unit m k told.0.file.0 none (subst (λ us. AllByRecursion (λ unit. is_callers (agent_of m k).key unit ≡ true) us) (ap stream_unit told.1) own).0)
keyless-asks-nothing m z k (op.Close n) own need ruled none = stream-pool m k n need ruled
keyless-asks-nothing m z k (op.Abort n) own need ruled none = stream-pool m k n need ruled
keyless-asks-nothing m z k (op.CreateSyncAccessHandle at mode) own need ruled none = sync-pool m at mode need ruled
keyless-asks-nothing m z k (op.SyncRead n len at) own need ruled none = open-pool m k n need ruled
keyless-asks-nothing m z k (op.SyncWrite n bytes at) own need ruled none = let told = written-told m z k n (size_written z at bytes) need ruled in absurd (keyless-unit m k told.0.file.0 none (subst (λ us. AllByRecursion (λ unit. is_callers (agent_of m k).key unit ≡ true) us) (ap handle_unit told.1) own).0)
keyless-asks-nothing m z k (op.SyncTruncate n size) own need ruled none = let told = written-told m z k n size need ruled in absurd (keyless-unit m k told.0.file.0 none (subst (λ us. AllByRecursion (λ unit. is_callers (agent_of m k).key unit ≡ true) us) (ap handle_unit told.1) own).0)
keyless-asks-nothing m z k (op.SyncGetSize n) own need ruled none = open-pool m k n need ruled
keyless-asks-nothing m z k (op.SyncFlush n) own need ruled none = open-pool m k n need ruled
keyless-asks-nothing m z k (op.SyncClose n) own need ruled none = ap (λ (x : Need). x.pool) (same-need ruled)
keyless-asks-nothing m z k (op.Persist bucket) own need ruled none = persist-pool m k bucket need ruled
keyless-asks-nothing m z k (op.Persisted bucket) own need ruled none = persisted-pool m k bucket need ruled
keyless-asks-nothing m z k op.Estimate own need ruled none = estimate-pool m k need ruled
keyless-asks-nothing m z k (op.Moment ms) own need ruled none = ap (λ (x : Need). x.pool) (same-need ruled)
keyless-asks-nothing m z k (op.Post tag) own need ruled none = ap (λ (x : Need). x.pool) (same-need ruled)
keyless-asks-nothing m z k (op.Await tag) own need ruled none = await-pool m k tag need ruled
keyless-asks-nothing m z k (op.Wait tag) own need ruled none = ap (λ (x : Need). x.pool) (same-need ruled)
keyless-asks-nothing m z k (op.Discard n) own need ruled none = ap (λ (x : Need). x.pool) (same-need ruled)
keyless-asks-nothing m z k op.End own need ruled none = ap (λ (x : Need). x.pool) (same-need ruled)
keyless-asks-nothing m z k (op.Unbound word) own need ruled none = absurd (no-need ruled)
keyless-asks-nothing m z k (op.Evict unit) own need ruled none = ap (λ (x : Need). x.pool) (same-need ruled)
