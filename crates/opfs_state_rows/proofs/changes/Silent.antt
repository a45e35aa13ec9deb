-- Calls that change nothing of what the shared store knows.
use Rattle.std.proofs.Common.{◌≡◌, ℕ, zero, suc, ◌-◌, Bool, true, List, [], ◌∷◌, Option, Some, None, slice_set, refl, sym, ap, ◌∙◌}
use Rattle.std.specs.Prelude.{slice_get}
use Rattle.opfs_base.specs.declared.extents.Extent.{Extent}
use Rattle.opfs_hist.specs.declared.op.Op.{Op}
use Rattle.opfs_hist.specs.declared.op.Op.TheVariants as op
use Rattle.opfs_laws.proofs.OwnSums.{agent-get}
use Rattle.opfs_machine.specs.declared.own.Outline.{Outline}
use Rattle.opfs_machine.specs.declared.own.Outline.TheVariants as outline
use Rattle.opfs_machine.specs.declared.state.Agent.{Agent}
use Rattle.opfs_machine.specs.declared.state.Sizes.{Sizes}
use Rattle.opfs_machine.specs.Agents.{agent_of, own_of, with_agent, with_own, counted}
use Rattle.opfs_machine.specs.Contents.{in_lengths, handle_with}
use Rattle.opfs_machine.specs.Effects.{effect, with_changed}
use Rattle.opfs_machine.specs.Sums.{reserve_of}
use Rattle.opfs_state_rows.proofs.standing.AgentMoves.{number}
use Rattle.opfs_state_rows.specs.Standing.Seen.{Machine, Seen}
use Rattle.opfs_state_rows.proofs.changes.Found.{some-is}
use Rattle.opfs_state_rows.specs.Changes.Asking.{made_at}
use Rattle.opfs_state_rows.specs.Changes.Changed.{IsDone, tree_by}
use Rattle.opfs_state_rows.specs.Changes.Quiet.{is_quiet}
use Rattle.opfs_tree.specs.Rows.{Rows}

set-here : {X : Type 0} (xs : List X) (i : ℕ) (x : X) → slice_get xs i ≡ Some x → slice_set xs i x ≡ xs
set-here [] zero x is = cc
set-here [] (suc i) x is = cc
set-here (y ∷ xs) zero x is = ap (λ z. z ∷ xs) (sym (some-is is))
set-here (y ∷ xs) (suc i) x is = ap (λ zs. y ∷ zs) (set-here xs i x is)

-- A row that is set to what it is.
own-same : (m : Machine) (k n : ℕ) (r : Outline) → own_of (agent_of m k) n ≡ Some r → with_own m k n r ≡ m
own-same m zero zero r is = cc
own-same m zero (suc n) r is = cc
own-same m (suc i) zero r is = cc
own-same m (suc i) (suc n) r is =
    let a = agent_of m (suc i) in
    let rows : slice_set a.own (suc n - 1) r ≡ a.own = ap (λ j. slice_set a.own j r) (number n) ∙ set-here a.own n r is in
    let agents : slice_set m.agents (suc i - 1) a ≡ m.agents = ap (λ j. slice_set m.agents j a) (number i) ∙ set-here m.agents i a (agent-get m i (suc n) r is) in
    ap (λ (own : List Outline). with_agent m (suc i) (record a { own = own })) rows ∙ ap (λ (agents : List (Agent Outline)). record m { agents = agents }) agents

same-changed : (m : Machine) (k n : ℕ) (change : Outline → Outline) → ((r : Outline) → change r ≡ r) → with_changed m k n change ≡ m
unfolding with_changed
same-changed m k n change same =
    elim (own_of (agent_of m k) n) as (λ o. own_of (agent_of m k) n ≡ o → elim o as (λ x. Machine) [ Some r ↦ with_own m k n (change r) | None ↦ m ] ≡ m) [
      | Some r ↦ λ is. ap (with_own m k n) (same r) ∙ own-same m k n r is
      | None ↦ λ is. refl
    ] refl

moves-stays : (r : Outline) → handle_with r (reserve_of r) ≡ r
moves-stays (outline.Stream w) = refl
moves-stays outline.ClosedStream = refl
moves-stays (outline.Handle h) = refl
moves-stays outline.ClosedHandle = refl
moves-stays outline.Snapshot = refl
moves-stays outline.Iterator = refl

quiet-machine : (m : Machine) (z : Sizes) (k : ℕ) (o : Op) → is_quiet o ≡ true → effect in_lengths m z k o ≡ m
unfolding effect
quiet-machine m z k (op.GetDirectory bucket) h = cc
quiet-machine m z k (op.GetDirectoryHandle dir name create) h = cc
quiet-machine m z k (op.GetFileHandle dir name create) h = cc
quiet-machine m z k (op.RemoveEntry dir name recursive) h = cc
quiet-machine m z k (op.Values dir) h = cc
quiet-machine m z k (op.Next n dir) h = same-changed m k n (λ r. r) (λ r. refl)
quiet-machine m z k (op.Resolve dir entry) h = refl
quiet-machine m z k (op.IsSameEntry entry to) h = refl
quiet-machine m z k (op.GetFile at) h = cc
quiet-machine m z k (op.Slice n at len) h = refl
quiet-machine m z k (op.CreateWritable at keep) h = cc
quiet-machine m z k (op.Write n bytes position) h = cc
quiet-machine m z k (op.Seek n position) h = same-changed m k n (λ r. r) (λ r. refl)
quiet-machine m z k (op.Truncate n size) h = cc
quiet-machine m z k (op.Close n) h = cc
quiet-machine m z k (op.Abort n) h = cc
quiet-machine m z k (op.CreateSyncAccessHandle at mode) h = cc
quiet-machine m z k (op.SyncRead n len at) h = same-changed m k n (λ r. handle_with r (reserve_of r)) moves-stays
quiet-machine m z k (op.SyncWrite n bytes at) h = cc
quiet-machine m z k (op.SyncTruncate n size) h = cc
quiet-machine m z k (op.SyncGetSize n) h = refl
quiet-machine m z k (op.SyncFlush n) h = cc
quiet-machine m z k (op.SyncClose n) h = cc
quiet-machine m z k (op.Persist bucket) h = cc
quiet-machine m z k (op.Persisted bucket) h = refl
quiet-machine m z k op.Estimate h = refl
quiet-machine m z k (op.Moment ms) h = cc
quiet-machine m z k (op.Post tag) h = cc
quiet-machine m z k (op.Await tag) h = cc
quiet-machine m z k (op.Wait tag) h = cc
quiet-machine m z k (op.Discard n) h = cc
quiet-machine m z k op.End h = cc
quiet-machine m z k (op.Unbound word) h = refl
quiet-machine m z k (op.Evict unit) h = refl

quiet-tree : (m : Machine) (t : Rows) (z : Sizes) (k : ℕ) (o : Op) (extents : Option (List Extent)) → is_quiet o ≡ true → tree_by m t k o z extents ≡ t
unfolding tree_by made_at
quiet-tree m t z k (op.GetDirectory bucket) extents h = cc
quiet-tree m t z k (op.GetDirectoryHandle dir name create) extents h = cc
quiet-tree m t z k (op.GetFileHandle dir name create) extents h = cc
quiet-tree m t z k (op.RemoveEntry dir name recursive) extents h = cc
quiet-tree m t z k (op.Values dir) extents h = cc
quiet-tree m t z k (op.Next n dir) extents h = refl
quiet-tree m t z k (op.Resolve dir entry) extents h = refl
quiet-tree m t z k (op.IsSameEntry entry to) extents h = refl
quiet-tree m t z k (op.GetFile at) extents h = cc
quiet-tree m t z k (op.Slice n at len) extents h = refl
quiet-tree m t z k (op.CreateWritable at keep) extents h = cc
quiet-tree m t z k (op.Write n bytes position) extents h = cc
quiet-tree m t z k (op.Seek n position) extents h = refl
quiet-tree m t z k (op.Truncate n size) extents h = cc
quiet-tree m t z k (op.Close n) extents h = cc
quiet-tree m t z k (op.Abort n) extents h = cc
quiet-tree m t z k (op.CreateSyncAccessHandle at mode) extents h = cc
quiet-tree m t z k (op.SyncRead n len at) extents h = refl
quiet-tree m t z k (op.SyncWrite n bytes at) extents h = cc
quiet-tree m t z k (op.SyncTruncate n size) extents h = cc
quiet-tree m t z k (op.SyncGetSize n) extents h = refl
quiet-tree m t z k (op.SyncFlush n) extents h = cc
quiet-tree m t z k (op.SyncClose n) extents h = cc
quiet-tree m t z k (op.Persist bucket) extents h = cc
quiet-tree m t z k (op.Persisted bucket) extents h = refl
quiet-tree m t z k op.Estimate extents h = refl
quiet-tree m t z k (op.Moment ms) extents h = cc
quiet-tree m t z k (op.Post tag) extents h = cc
quiet-tree m t z k (op.Await tag) extents h = cc
quiet-tree m t z k (op.Wait tag) extents h = cc
quiet-tree m t z k (op.Discard n) extents h = cc
quiet-tree m t z k op.End extents h = cc
quiet-tree m t z k (op.Unbound word) extents h = refl
quiet-tree m t z k (op.Evict unit) extents h = refl

pub quiet-done : (s new : Seen) (z : Sizes) (k : ℕ) (o : Op) (extents : Option (List Extent)) → is_quiet o ≡ true → new ≡ record s { machine = counted s.machine k } → IsDone s new z k o extents
quiet-done s new z k o extents quiet count = record {
  machine = ap (λ (x : Seen). x.machine) count ∙ ap (λ (m : Machine). counted m k) (sym (quiet-machine s.machine z k o quiet));
  tree = ap (λ (x : Seen). x.tree) count ∙ sym (quiet-tree s.machine s.tree z k o extents quiet);
}
