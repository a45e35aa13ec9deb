-- Access handles whose file is stored for good or set back, and that are closed.
use Rattle.std.proofs.Common.{◌≡◌, ℕ, suc, ◌+◌, ◌-◌, Bool, true, false, List, [], Some, None, Option, option_map, refl, sym, ap, ◌∙◌, subst}
use Rattle.opfs_base.specs.Places.{Place}
use Rattle.opfs_base.specs.declared.extents.Extent.{Extent}
use Rattle.opfs_hist.specs.declared.op.Mode.{Mode}
use Rattle.opfs_hist.specs.declared.op.Mode.TheVariants as mode
use Rattle.opfs_hist.specs.declared.op.Op.TheVariants as op
use Rattle.opfs_machine.specs.declared.own.HandleOutline.{HandleOutline}
use Rattle.opfs_machine.specs.declared.own.Outline.{Outline}
use Rattle.opfs_machine.specs.declared.own.Outline.TheVariants as outline
use Rattle.opfs_machine.specs.declared.state.FileRow.{FileRow as File}
use Rattle.opfs_machine.specs.declared.state.Sizes.{Sizes}
use Rattle.opfs_machine.specs.Agents.{agent_of, own_of, with_own, open_handle, counted}
use Rattle.opfs_machine.specs.Contents.{in_lengths, handle_with}
use Rattle.opfs_machine.specs.Effects.{effect, with_changed, with_written, flushed, undone, unlocked, flushes, closes_handle, discards}
use Rattle.opfs_machine.specs.Rows.{with_file}
use Rattle.opfs_register.specs.Slots.{handle_at}
use Rattle.opfs_state_rows.specs.Standing.Contents.{undone_row}
use Rattle.opfs_state_rows.specs.Standing.Seen.{Machine, Seen}
use Rattle.opfs_state_rows.proofs.changes.Found.{handle-place, handle-own}
use Rattle.opfs_state_rows.proofs.changes.Grown.{changed-row}
use Rattle.opfs_state_rows.proofs.changes.Twice.{row-here}
use Rattle.opfs_state_rows.specs.Changes.Changed.{IsDone, tree_by, freed_in, flushed_by, ended_by, changed_by, flushed_in, handle_frees}
use Rattle.opfs_tree.specs.declared.row.FileRow.{FileRow}
use Rattle.opfs_tree.specs.Rows.{Rows, file_at, change_at}
use Rattle.opfs_tree.specs.Rows.{unlocked as unlocked_row}

pub opened-handle : (m : Machine) (at n : ℕ) (h : HandleOutline) → handle_at m.agents at n ≡ Some h → open_handle in_lengths m (suc at) (suc n) ≡ Some h
opened-handle m at n h found = sym (handle-place m (suc at) at (suc n) n refl refl) ∙ found

-- What an access handle writes leaves all own rows.
own-written : (m : Machine) (k n : ℕ) (mode : Mode) (file : Place) (change : File ℕ → File ℕ) → own_of (agent_of (with_written m mode file change) k) n ≡ own_of (agent_of m k) n
own-written m k n mode.ReadWrite file change = refl
own-written m k n mode.ReadOnly file change = refl

set-written : (m : Machine) (k n : ℕ) (r : Outline) (mode : Mode) (file : Place) (change : File ℕ → File ℕ) → with_written (with_own m k n r) mode file change ≡ with_own (with_written m mode file change) k n r
set-written m k n r mode.ReadWrite file change = refl
set-written m k n r mode.ReadOnly file change = refl

set-released : (m : Machine) (k n : ℕ) (r : Outline) (mode : Mode) (file : Place) (change : File ℕ → File ℕ)
    → with_file (with_written (with_own m k n r) mode file change) file unlocked ≡ with_own (with_file (with_written m mode file change) file unlocked) k n r
set-released m k n r mode.ReadWrite file change = refl
set-released m k n r mode.ReadOnly file change = refl

-- The file in the tree once it is written: its lock stays.
pub changed-there : (t : Rows) (mode : Mode) (file : Place) (change : FileRow → FileRow) (row : FileRow) → ((f : FileRow) → (change f).lock ≡ f.lock) → file_at file t ≡ Some row
    → (x : FileRow) × (file_at file (changed_by t mode file change) ≡ Some x) × (x.lock ≡ row.lock)
changed-there t mode.ReadWrite file change row same found = (change row, row-here file change t ∙ ap (option_map change) found, same row)
changed-there t mode.ReadOnly file change row same found = (row, found, refl)

-- Lengths of agents and numbers of entries stay.
pub written-many : (m : Machine) (mode : Mode) (file : Place) (change : File ℕ → File ℕ) → (with_written m mode file change).agents ≡ m.agents
written-many m mode.ReadWrite file change = refl
written-many m mode.ReadOnly file change = refl

pub written-entries : (m : Machine) (mode : Mode) (file : Place) (change : File ℕ → File ℕ) → (with_written m mode file change).entries ≡ m.entries
written-entries m mode.ReadWrite file change = refl
written-entries m mode.ReadOnly file change = refl

flush-machine : (m : Machine) (z : Sizes) (k n : ℕ) (h : HandleOutline) → open_handle in_lengths m k n ≡ Some h
    → counted (with_written (with_own m k n (outline.Handle (record h { reserve = 0 }))) h.mode h.file flushed) k ≡ counted (effect in_lengths m z k (op.SyncFlush n)) k
unfolding effect
flush-machine m z k n h is =
    ap (λ (x : Machine). counted x k)
    (set-written m k n (outline.Handle (record h { reserve = 0 })) h.mode h.file flushed
    ∙ sym (changed-row (with_written m h.mode h.file flushed) k n (λ r. handle_with r 0) (outline.Handle h) (own-written m k n h.mode h.file flushed ∙ handle-own m k n h is)))
    ∙ ap (λ o. counted (flushes in_lengths m z k n o) k) (sym is)

close-machine : (m : Machine) (z : Sizes) (k n : ℕ) (h : HandleOutline) → open_handle in_lengths m k n ≡ Some h
    → counted (with_file (with_written (with_own m k n outline.ClosedHandle) h.mode h.file flushed) h.file unlocked) k ≡ counted (effect in_lengths m z k (op.SyncClose n)) k
unfolding effect
close-machine m z k n h is = ap (λ (x : Machine). counted x k) (set-released m k n outline.ClosedHandle h.mode h.file flushed) ∙ ap (λ o. counted (closes_handle in_lengths m k n o) k) (sym is)

discard-machine : (m : Machine) (z : Sizes) (k n : ℕ) (h : HandleOutline) → open_handle in_lengths m k n ≡ Some h
    → counted (with_file (with_written (with_own m k n outline.ClosedHandle) h.mode h.file undone) h.file unlocked) k ≡ counted (effect in_lengths m z k (op.Discard n)) k
unfolding effect
discard-machine m z k n h is = ap (λ (x : Machine). counted x k) (set-released m k n outline.ClosedHandle h.mode h.file undone) ∙ ap (λ o. counted (discards in_lengths m k n o) k) (sym is)

module _ (s one two last : Seen) (z : Sizes) (at n : ℕ) (h : HandleOutline) (extents : Option (List Extent)) (found : handle_at s.machine.agents at n ≡ Some h) (same : one.tree ≡ s.tree) where
  is : open_handle in_lengths s.machine (suc at) (suc n) ≡ Some h
  is = opened-handle s.machine at n h found

  pub flushed-done : one.machine ≡ with_own s.machine (suc at) (suc n) (outline.Handle (record h { reserve = 0 })) → two.machine ≡ with_written one.machine h.mode h.file flushed → two.tree ≡ changed_by one.tree h.mode h.file (flushed_in extents)
      → last ≡ record two { machine = counted two.machine (suc at) } → IsDone s last z (suc at) (op.SyncFlush (suc n)) extents
  unfolding tree_by
  flushed-done kept stored tree count = record {
    machine =
        ap (λ (x : Seen). x.machine) count
        ∙ ap (λ (m : Machine). counted m (suc at)) (stored ∙ ap (λ (m : Machine). with_written m h.mode h.file flushed) kept)
        ∙ flush-machine s.machine z (suc at) (suc n) h is;
    tree = ap (λ (x : Seen). x.tree) count ∙ tree ∙ ap (λ (t : Rows). changed_by t h.mode h.file (flushed_in extents)) same ∙ ap (flushed_by s.tree extents) (sym is);
  }

  module _ (three : Seen) (closed : one.machine ≡ with_own s.machine (suc at) (suc n) outline.ClosedHandle) (released : three.machine ≡ with_file two.machine h.file unlocked) (free : three.tree ≡ change_at h.file unlocked_row two.tree)
      (count : last ≡ record three { machine = counted three.machine (suc at) }) where
    pub closed-done : two.machine ≡ with_written one.machine h.mode h.file flushed → two.tree ≡ changed_by one.tree h.mode h.file (flushed_in extents) → IsDone s last z (suc at) (op.SyncClose (suc n)) extents
    unfolding tree_by
    closed-done stored tree = record {
      machine =
          ap (λ (x : Seen). x.machine) count
          ∙ ap (λ (m : Machine). counted m (suc at)) (released ∙ ap (λ (m : Machine). with_file m h.file unlocked) (stored ∙ ap (λ (m : Machine). with_written m h.mode h.file flushed) closed))
          ∙ close-machine s.machine z (suc at) (suc n) h is;
      tree =
          ap (λ (x : Seen). x.tree) count ∙ free
          ∙ ap (λ (t : Rows). change_at h.file unlocked_row t) (tree ∙ ap (λ (t : Rows). changed_by t h.mode h.file (flushed_in extents)) same)
          ∙ ap (ended_by s.tree (flushed_in extents)) (sym is);
    }

    pub discarded-done : two.machine ≡ with_written one.machine h.mode h.file undone → two.tree ≡ changed_by one.tree h.mode h.file undone_row → IsDone s last z (suc at) (op.Discard (suc n)) extents
    unfolding tree_by
    discarded-done stored tree = record {
      machine =
          ap (λ (x : Seen). x.machine) count
          ∙ ap (λ (m : Machine). counted m (suc at)) (released ∙ ap (λ (m : Machine). with_file m h.file unlocked) (stored ∙ ap (λ (m : Machine). with_written m h.mode h.file undone) closed))
          ∙ discard-machine s.machine z (suc at) (suc n) h is;
      tree =
          ap (λ (x : Seen). x.tree) count ∙ free
          ∙ ap (λ (t : Rows). change_at h.file unlocked_row t) (tree ∙ ap (λ (t : Rows). changed_by t h.mode h.file undone_row) same)
          ∙ ap (ended_by s.tree undone_row) (sym is);
    }

-- What such a call lets go.
pub flush-frees : (m : Machine) (t : Rows) (at n : ℕ) (h : HandleOutline) (extents : Option (List Extent)) → handle_at m.agents at n ≡ Some h
    → freed_in m t (suc at) (op.SyncFlush (suc n)) extents ≡ handle_frees t extents (Some h)
unfolding freed_in
flush-frees m t at n h extents found = ap (handle_frees t extents) (opened-handle m at n h found)

pub close-frees : (m : Machine) (t : Rows) (at n : ℕ) (h : HandleOutline) (extents : Option (List Extent)) → handle_at m.agents at n ≡ Some h
    → freed_in m t (suc at) (op.SyncClose (suc n)) extents ≡ handle_frees t extents (Some h)
unfolding freed_in
close-frees m t at n h extents found = ap (handle_frees t extents) (opened-handle m at n h found)

-- A closed access handle changes nothing.
module _ (s last : Seen) (z : Sizes) (k n : ℕ) (extents : Option (List Extent)) (none : open_handle in_lengths s.machine k n ≡ None) (count : last ≡ record s { machine = counted s.machine k }) where
  pub none-closed : IsDone s last z k (op.SyncClose n) extents
  unfolding effect tree_by
  none-closed = record {
    machine = ap (λ (x : Seen). x.machine) count ∙ ap (λ o. counted (closes_handle in_lengths s.machine k n o) k) (sym none);
    tree = ap (λ (x : Seen). x.tree) count ∙ ap (ended_by s.tree (flushed_in extents)) (sym none);
  }

  pub none-discarded : IsDone s last z k (op.Discard n) extents
  unfolding effect tree_by
  none-discarded = record {
    machine = ap (λ (x : Seen). x.machine) count ∙ ap (λ o. counted (discards in_lengths s.machine k n o) k) (sym none);
    tree = ap (λ (x : Seen). x.tree) count ∙ ap (ended_by s.tree undone_row) (sym none);
  }

pub none-freed : (m : Machine) (t : Rows) (k n : ℕ) (extents : Option (List Extent)) → open_handle in_lengths m k n ≡ None → freed_in m t k (op.SyncClose n) extents ≡ []
unfolding freed_in
none-freed m t k n extents none = ap (handle_frees t extents) none
