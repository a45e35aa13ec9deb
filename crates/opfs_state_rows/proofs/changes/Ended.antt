-- Streams that end.
use Rattle.std.proofs.Common.{◌≡◌, ℕ, suc, ◌+◌, ◌-◌, ◌^◌, ◌<◌, ◌≤◌, Some, None, Option, List, refl, sym, ap, ◌∙◌, subst, arith}
use Rattle.std.specs.Prelude.{unwrap_or}
use Rattle.opfs_base.specs.Blocks.{blocks}
use Rattle.opfs_base.specs.declared.extents.Extent.{Extent}
use Rattle.opfs_hist.specs.declared.op.Op.TheVariants as op
use Rattle.opfs_machine.specs.declared.own.Outline.{Outline}
use Rattle.opfs_machine.specs.declared.own.Outline.TheVariants as outline
use Rattle.opfs_machine.specs.declared.own.StreamOutline.{StreamOutline}
use Rattle.opfs_machine.specs.declared.state.Sizes.{Sizes}
use Rattle.opfs_machine.specs.Agents.{agent_of, own_of, with_own, open_stream, counted}
use Rattle.opfs_machine.specs.Contents.{in_lengths}
use Rattle.opfs_machine.specs.Effects.{effect, aborts_stream, closes_stream, unlocked, replaced, moment_of, content_of}
use Rattle.opfs_base.specs.Units.{origin_of}
use Rattle.opfs_laws.specs.Lengths.Kept.{Kept}
use Rattle.opfs_machine.specs.Rows.{with_file}
use Rattle.opfs_machine.specs.Sums.{usage, pool}
use Rattle.opfs_machine.specs.declared.state.Limits.{Limits}
use Rattle.opfs_state_rows.proofs.changes.Reckoned.{Reckons, closed-reckons}
use Rattle.opfs_register.specs.Slots.{stream_at}
use Rattle.opfs_state_rows.specs.Standing.Seen.{Machine, Seen}
use Rattle.opfs_state_rows.proofs.changes.Found.{stream-place, stream-own, numbered}
use Rattle.opfs_state_rows.specs.Changes.Changed.{IsDone, tree_by, aborted_by, closed_by, stored_in, freed_in, stream_frees, replaced_at}
use Rattle.opfs_tree.specs.Rows.{Rows, change_at}
use Rattle.opfs_tree.specs.Rows.{unlocked as unlocked_row}

pub opened-stream : (m : Machine) (at n : ℕ) (w : StreamOutline) → stream_at m.agents at n ≡ Some w → open_stream in_lengths m (suc at) (suc n) ≡ Some w
opened-stream m at n w found = sym (stream-place m (suc at) at (suc n) n refl refl) ∙ found

abort-machine : (m : Machine) (z : Sizes) (k row : ℕ) (w : StreamOutline) → open_stream in_lengths m k row ≡ Some w
    → counted (with_file (with_own m k row outline.ClosedStream) w.file unlocked) k ≡ counted (effect in_lengths m z k (op.Abort row)) k
unfolding effect
abort-machine m z k row w is = ap (λ o. counted (aborts_stream in_lengths m k row o) k) (sym is)

abort-tree : (m : Machine) (t : Rows) (z : Sizes) (k row : ℕ) (w : StreamOutline) (extents : Option (List Extent)) → open_stream in_lengths m k row ≡ Some w
    → change_at w.file unlocked_row t ≡ tree_by m t k (op.Abort row) z extents
unfolding tree_by
abort-tree m t z k row w extents is = ap (aborted_by t) (sym is)

module _ (s one two last : Seen) (z : Sizes) (at n : ℕ) (w : StreamOutline) (found : stream_at s.machine.agents at n ≡ Some w)
    (closed : one.machine ≡ with_own s.machine (suc at) (suc n) outline.ClosedStream) (same : one.tree ≡ s.tree) where
  pub aborted : two.machine ≡ with_file one.machine w.file unlocked → two.tree ≡ change_at w.file unlocked_row one.tree
      → last ≡ record two { machine = counted two.machine (suc at) } → (extents : Option (List Extent)) → IsDone s last z (suc at) (op.Abort (suc n)) extents
  aborted machine tree count extents = record {
    machine =
        ap (λ (x : Seen). x.machine) count
        ∙ ap (λ (m : Machine). counted m (suc at)) (machine ∙ ap (λ (m : Machine). with_file m w.file unlocked) closed)
        ∙ abort-machine s.machine z (suc at) (suc n) w (opened-stream s.machine at n w found);
    tree = ap (λ (x : Seen). x.tree) count ∙ tree ∙ ap (λ (t : Rows). change_at w.file unlocked_row t) same ∙ abort-tree s.machine s.tree z (suc at) (suc n) w extents (opened-stream s.machine at n w found);
  }

close-machine : (m : Machine) (z : Sizes) (k row : ℕ) (w : StreamOutline) → open_stream in_lengths m k row ≡ Some w → own_of (agent_of m k) row ≡ Some (outline.Stream w)
    → counted (with_file (with_file (with_own m k row outline.ClosedStream) w.file (replaced z.size (moment_of m k))) w.file unlocked) k ≡ counted (effect in_lengths m z k (op.Close row)) k
unfolding effect
close-machine m z k row w is own =
    ap (λ (size : ℕ). counted (with_file (with_file (with_own m k row outline.ClosedStream) w.file (replaced size (moment_of m k))) w.file unlocked) k) (sym (ap (λ o. content_of in_lengths o z.size) own))
    ∙ ap (λ o. counted (closes_stream in_lengths m z k row o) k) (sym is)

close-tree : (m : Machine) (t : Rows) (z : Sizes) (k row : ℕ) (w : StreamOutline) (extents : Option (List Extent)) → open_stream in_lengths m k row ≡ Some w
    → change_at w.file unlocked_row (change_at w.file (stored_in z.size (moment_of m k) extents) t) ≡ tree_by m t k (op.Close row) z extents
unfolding tree_by
close-tree m t z k row w extents is = ap (closed_by t z.size (moment_of m k) extents) (sym is)

pub close-frees : (m : Machine) (t : Rows) (at n : ℕ) (w : StreamOutline) (extents : Option (List Extent)) → stream_at m.agents at n ≡ Some w
    → freed_in m t (suc at) (op.Close (suc n)) extents ≡ replaced_at t w.file extents
unfolding freed_in
close-frees m t at n w extents found = ap (stream_frees t extents) (opened-stream m at n w found)

module _ (s one two three last : Seen) (z : Sizes) (at n moment : ℕ) (w : StreamOutline) (extents : Option (List Extent)) (found : stream_at s.machine.agents at n ≡ Some w)
    (closed : one.machine ≡ with_own s.machine (suc at) (suc n) outline.ClosedStream) (same : one.tree ≡ s.tree) (clock : moment ≡ moment_of s.machine (suc at)) where
  pub stored-closed : two.machine ≡ with_file one.machine w.file (replaced z.size moment) → two.tree ≡ change_at w.file (stored_in z.size moment extents) one.tree
      → three.machine ≡ with_file two.machine w.file unlocked → three.tree ≡ change_at w.file unlocked_row two.tree
      → last ≡ record three { machine = counted three.machine (suc at) } → IsDone s last z (suc at) (op.Close (suc n)) extents
  stored-closed stored tree released free count =
      let open_now = opened-stream s.machine at n w found in
      record {
        machine =
            ap (λ (x : Seen). x.machine) count
            ∙ ap (λ (m : Machine). counted m (suc at)) (released ∙ ap (λ (m : Machine). with_file m w.file unlocked) (stored ∙ (λ i. with_file (closed i) w.file (replaced z.size (clock i)))))
            ∙ close-machine s.machine z (suc at) (suc n) w open_now (stream-own s.machine (suc at) (suc n) w open_now);
        tree =
            ap (λ (x : Seen). x.tree) count ∙ free
            ∙ ap (λ (t : Rows). change_at w.file unlocked_row t) (tree ∙ (λ i. change_at w.file (stored_in z.size (clock i) extents) (same i)))
            ∙ close-tree s.machine s.tree z (suc at) (suc n) w extents open_now;
      }

-- There is room for what a stream stores: it keeps as many blocks.
module _ (m one : Machine) (at n size : ℕ) (w : StreamOutline) (found : stream_at m.agents at n ≡ Some w) (closed : one ≡ with_own m (suc at) (suc n) outline.ClosedStream) (kept : Kept m) (covers : blocks size ≤ w.reserve) where
  reckons : Reckons m one w.file.0 (record { usage = w.reserve; blocks = w.reserve; charge = 0 }) (record { usage = 0; blocks = 0; charge = 0 })
  reckons = subst (λ (x : Machine). Reckons m x w.file.0 (record { usage = w.reserve; blocks = w.reserve; charge = 0 }) (record { usage = 0; blocks = 0; charge = 0 })) (sym closed) (closed-reckons m at n w found)

  pub close-quota : (held present : ℕ) → held ≡ pool in_lengths m → held < 2 ^ 64 → usage in_lengths one (origin_of w.file.0) + blocks size < 2 ^ 64 + present
  close-quota held present is small = omega (arith, reckons.usage, kept.usage (origin_of w.file.0), covers, is, small)

  pub close-room : (length : ℕ) → pool in_lengths one + blocks size ≤ one.limits.blocks + length
  close-room length = let same : one.limits.blocks ≡ m.limits.blocks = ap (λ (l : Limits). l.blocks) reckons.limits in omega (arith, reckons.pool, kept.pool, covers, same)

-- In the numbers of the call.
pub sized-as : (m : Machine) (z : Sizes) (k at row n : ℕ) (w : StreamOutline) → suc at ≡ k → suc n ≡ row → stream_at m.agents at n ≡ Some w
    → ((x : StreamOutline) → open_stream in_lengths m k row ≡ Some x → blocks z.size ≤ x.reserve) → blocks z.size ≤ w.reserve
sized-as m z k at row n w agent number found sized = sized w (sym (stream-place m k at row n agent number) ∙ found)

pub frees-as : (m : Machine) (t : Rows) (k at row n : ℕ) (w : StreamOutline) (extents : Option (List Extent)) → suc at ≡ k → suc n ≡ row → stream_at m.agents at n ≡ Some w
    → freed_in m t k (op.Close row) extents ≡ replaced_at t w.file extents
frees-as m t k at row n w extents agent number found = numbered (λ k row. freed_in m t k (op.Close row) extents ≡ replaced_at t w.file extents) k at row n agent number (close-frees m t at n w extents found)
