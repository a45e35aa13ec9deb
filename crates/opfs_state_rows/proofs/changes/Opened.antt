-- Rows of a file that are opened.
use Rattle.std.proofs.Common.{◌≡◌, ℕ, suc, ◌+◌, ◌-◌, ◌^◌, ◌<◌, ◌≤◌, Bool, true, List, Option, Some, None, option_map, refl, sym, ap, ◌∙◌, subst, arith}
use Rattle.std.specs.Prelude.{IsSome, is_some}
use Rattle.opfs_base.specs.Blocks.{blocks}
use Rattle.opfs_base.specs.Places.{Place, place_of}
use Rattle.opfs_base.specs.Units.{origin_of}
use Rattle.opfs_base.specs.declared.extents.Extent.{Extent}
use Rattle.opfs_base.specs.declared.locator.Locator.{Locator}
use Rattle.opfs_hist.specs.declared.op.Mode.{Mode}
use Rattle.opfs_hist.specs.declared.op.Op.TheVariants as op
use Rattle.opfs_laws.proofs.Spots.{file-changed}
use Rattle.opfs_laws.specs.Lengths.Kept.{Kept}
use Rattle.opfs_locks.specs.Taking.{Lock, taken}
use Rattle.opfs_locks.specs.declared.Want.{Want}
use Rattle.opfs_locks.specs.declared.Want.TheVariants as want
use Rattle.opfs_machine.specs.declared.own.HandleOutline.{HandleOutline}
use Rattle.opfs_machine.specs.declared.own.Outline.{Outline}
use Rattle.opfs_machine.specs.declared.own.Outline.TheVariants as outline
use Rattle.opfs_machine.specs.declared.own.StreamOutline.{StreamOutline}
use Rattle.opfs_machine.specs.declared.state.FileRow.{FileRow}
use Rattle.opfs_machine.specs.declared.state.Limits.{Limits}
use Rattle.opfs_machine.specs.declared.state.Sizes.{Sizes}
use Rattle.opfs_machine.specs.Agents.{agent_of, adds_own, counted}
use Rattle.opfs_machine.specs.Contents.{in_lengths}
use Rattle.opfs_machine.specs.Effects.{effect, with_lock, opens_stream}
use Rattle.opfs_machine.specs.Rows.{row_at, file_at, with_file}
use Rattle.opfs_machine.specs.Rulings.{ruling, first_reserve, want_of}
use Rattle.opfs_machine.specs.Sums.{usage, pool}
use Rattle.opfs_state_rows.specs.Standing.Seen.{Machine, Seen}
use Rattle.opfs_state_rows.proofs.changes.Found.{some-is, file-there}
use Rattle.opfs_state_rows.proofs.changes.Reckoned.{file-reckons}
use Rattle.opfs_state_rows.proofs.changes.Told.{IsGiven, sync-told, writable-told}
use Rattle.opfs_state_rows.specs.Changes.Allowed.{MayApply}
use Rattle.opfs_state_rows.specs.Changes.Asking.{target_of}
use Rattle.opfs_state_rows.specs.Changes.Changed.{IsDone, tree_by}
use Rattle.opfs_state_rows.specs.Changes.Growing.{IsLockGiven}
use Rattle.opfs_tree.specs.Rows.{Rows, change_at, locked}

pub given-some : {w held : Want} {o : Option Lock} {l : Lock} → Some held ≡ option_map (λ _. w) o → o ≡ Some l → held ≡ w
given-some {w} {held} {o} {l} h is = some-is (h ∙ ap (option_map (λ (_ : Lock). w)) is)

pub none-given : (w : Want) {o : Option Lock} {l : Lock} → None ≡ option_map (λ _. w) o → o ≡ Some l → ⊥
none-given w {o} {l} h is = none_some (h ∙ ap (option_map (λ (_ : Lock). w)) is)
  where
    none_some : ◌≡◌ {A = Option Want} None (Some w) → ⊥
    none_some e = cc

some-lock : (o : Option Lock) → is_some o ≡ true → (l : Lock) × (o ≡ Some l)
some-lock None h = cc
some-lock (Some l) h = (l, refl)

lock-given : (m : Machine) (at : Locator) (w : Want) → IsGiven m at w → IsLockGiven m (place_of at) w
lock-given m at w g = let l = some-lock (taken w g.file.lock) g.given in record { file = g.file; there = g.there; lock = l.0; gives = l.1 }

pub sync-given : (m : Machine) (z : Sizes) (k : ℕ) (at : Locator) (mode : Mode) → MayApply m z k (op.CreateSyncAccessHandle at mode) → IsLockGiven m (place_of at) (want_of mode)
unfolding ruling
sync-given m z k at mode may = lock-given m at (want_of mode) (sync-told m at mode may.need may.ruled)

pub writable-given : (m : Machine) (z : Sizes) (k : ℕ) (at : Locator) (keep : Bool) → MayApply m z k (op.CreateWritable at keep) → IsLockGiven m (place_of at) want.Shared
unfolding ruling
writable-given m z k at keep may = lock-given m at want.Shared (writable-told m at keep may.need may.ruled).0

pub writable-room : (m : Machine) (z : Sizes) (k : ℕ) (at : Locator) (keep : Bool) → MayApply m z k (op.CreateWritable at keep) → pool in_lengths m + first_reserve in_lengths m at keep ≤ m.limits.blocks
unfolding ruling
writable-room m z k at keep may = omega (arith, may.pool, ap (λ x. x.pool) (writable-told m at keep may.need may.ruled).1)

pub sync-target : (m : Machine) (k : ℕ) (at : Locator) (mode : Mode) (target : Option Place) → target ≡ target_of m k (op.CreateSyncAccessHandle at mode) → target ≡ Some (place_of at)
unfolding target_of
sync-target m k at mode target is = is

pub writable-target : (m : Machine) (k : ℕ) (at : Locator) (keep : Bool) (target : Option Place) → target ≡ target_of m k (op.CreateWritable at keep) → target ≡ Some (place_of at)
unfolding target_of
writable-target m k at keep target is = is

-- Once the lock is taken.
module _ (m one : Machine) (place : Place) (w : Want) (f : FileRow ℕ) (found : file_at m place ≡ Some f) (is : one ≡ with_file m place (with_lock w)) where
  pub locked-there : IsSome (row_at one place)
  locked-there =
      let here = file-changed m place (with_lock w) ∙ ap (option_map (with_lock w)) found in
      is-some (row_at one place) (file-there (row_at one place) (with_lock w f) (ap (λ (x : Machine). file_at x place) is ∙ here))
    where
      is-some : {X : Type 0} (o : Option X) → is_some o ≡ true → IsSome o
      is-some o h = h

  pub locked-usage : usage in_lengths one (origin_of place.0) ≡ usage in_lengths m (origin_of place.0)
  locked-usage = let moves = file-reckons m place (with_lock w) f found in ap (λ (x : Machine). usage in_lengths x (origin_of place.0)) is ∙ omega (arith, moves.usage)

  pub locked-pool : pool in_lengths one ≡ pool in_lengths m
  locked-pool = let moves = file-reckons m place (with_lock w) f found in ap (λ (x : Machine). pool in_lengths x) is ∙ omega (arith, moves.pool)

  pub locked-limit : one.limits.blocks ≡ m.limits.blocks
  locked-limit = ap (λ (x : Machine). x.limits.blocks) is

module _ (s one two last : Seen) (z : Sizes) (at : ℕ) (file : Locator) (extents : Option (List Extent)) where
  pub sync-done : (mode : Mode) → one.machine ≡ with_file s.machine (place_of file) (with_lock (want_of mode)) → one.tree ≡ change_at (place_of file) (locked (want_of mode)) s.tree
      → two.machine ≡ adds_own one.machine (suc at) (outline.Handle (record { file = place_of file; mode = mode; reserve = 0 })) → two.tree ≡ one.tree
      → last ≡ record two { machine = counted two.machine (suc at) } → IsDone s last z (suc at) (op.CreateSyncAccessHandle file mode) extents
  unfolding effect tree_by
  sync-done mode taken tree opened same count = record {
    machine =
        ap (λ (x : Seen). x.machine) count
        ∙ ap (λ (m : Machine). counted m (suc at)) (opened ∙ ap (λ (m : Machine). adds_own m (suc at) (outline.Handle (record { file = place_of file; mode = mode; reserve = 0 }))) taken);
    tree = ap (λ (x : Seen). x.tree) count ∙ same ∙ tree;
  }

  pub writable-done : (keep : Bool) (f : FileRow ℕ) → file_at s.machine (place_of file) ≡ Some f → one.machine ≡ with_file s.machine (place_of file) (with_lock want.Shared) → one.tree ≡ change_at (place_of file) (locked want.Shared) s.tree
      → two.machine ≡ adds_own one.machine (suc at) (outline.Stream (record { file = place_of file; reserve = first_reserve in_lengths s.machine file keep })) → two.tree ≡ one.tree
      → last ≡ record two { machine = counted two.machine (suc at) } → IsDone s last z (suc at) (op.CreateWritable file keep) extents
  unfolding effect tree_by
  writable-done keep f found taken tree opened same count = record {
    machine =
        ap (λ (x : Seen). x.machine) count
        ∙ ap (λ (m : Machine). counted m (suc at)) (opened ∙ ap (λ (m : Machine). adds_own m (suc at) (outline.Stream (record { file = place_of file; reserve = first_reserve in_lengths s.machine file keep }))) taken)
        ∙ ap (λ o. counted (opens_stream in_lengths s.machine (suc at) (place_of file) (first_reserve in_lengths s.machine file keep) keep o) (suc at)) (sym found);
    tree = ap (λ (x : Seen). x.tree) count ∙ same ∙ tree;
  }
