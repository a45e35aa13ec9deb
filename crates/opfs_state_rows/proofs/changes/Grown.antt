-- Open rows that keep more blocks.
use Rattle.std.proofs.Common.{◌≡◌, ℕ, suc, ◌+◌, ◌-◌, ◌^◌, ◌<◌, ◌≤◌, Some, None, Option, List, length, slice_set, refl, sym, ap, ◌∙◌, subst, arith}
use Rattle.std.specs.Prelude.{max}
use Rattle.std.proofs.lemmas.List.{length-set}
use Rattle.opfs_base.specs.Blocks.{blocks}
use Rattle.opfs_base.specs.Units.{origin_of}
use Rattle.opfs_laws.specs.Lengths.Kept.{Kept}
use Rattle.opfs_machine.specs.declared.own.HandleOutline.{HandleOutline}
use Rattle.opfs_machine.specs.declared.own.Outline.{Outline}
use Rattle.opfs_machine.specs.declared.own.Outline.TheVariants as outline
use Rattle.opfs_machine.specs.declared.own.StreamOutline.{StreamOutline}
use Rattle.opfs_machine.specs.Agents.{agent_of, own_of, with_own, open_stream, open_handle, counted}
use Rattle.opfs_machine.specs.Contents.{in_lengths, stream_with, handle_with}
use Rattle.opfs_machine.specs.Effects.{with_changed}
use Rattle.opfs_machine.specs.Rulings.{reserve_for}
use Rattle.opfs_machine.specs.Sums.{reserve_of, usage, pool}
use Rattle.opfs_register.specs.Slots.{stream_at, handle_at}
use Rattle.opfs_state_rows.specs.Standing.Seen.{Machine}
use Rattle.opfs_state_rows.proofs.changes.Found.{some-is, stream-place, handle-place, stream-own, handle-own}

pub changed-row : (m : Machine) (k row : ℕ) (change : Outline → Outline) (r : Outline) → own_of (agent_of m k) row ≡ Some r → with_changed m k row change ≡ with_own m k row (change r)
unfolding with_changed
changed-row m k row change r is = ap (λ o. elim o as (λ x. Machine) [ Some r ↦ with_own m k row (change r) | None ↦ m ]) is

-- How many agents there are stays, and the number of entries.
pub as-many : (m one : Machine) (k row : ℕ) (r : Outline) → one ≡ with_own m k row r → length one.agents ≡ length m.agents
as-many m one k row r is = ap (λ (x : Machine). length x.agents) is ∙ length-set m.agents (k - 1) _

grown-to : (w : StreamOutline) (size more : ℕ) → more ≡ reserve_for w.reserve size - w.reserve → ◌≡◌ {A = Outline} (outline.Stream (record w { reserve = w.reserve + more })) (outline.Stream (record w { reserve = max w.reserve (blocks size) }))
grown-to w size more is = ap (λ (n : ℕ). outline.Stream (record w { reserve = n })) (let same : w.reserve + more ≡ max w.reserve (blocks size) = omega (arith, is) in same)

module _ (m one : Machine) (at n size more : ℕ) (w : StreamOutline) (found : stream_at m.agents at n ≡ Some w) (is : more ≡ reserve_for w.reserve size - w.reserve)
    (grown : (v : StreamOutline) → stream_at m.agents at n ≡ Some v → one ≡ with_own m (suc at) (suc n) (outline.Stream (record v { reserve = v.reserve + more }))) where
  pub stream-grown : one ≡ with_changed m (suc at) (suc n) (λ r. stream_with r (reserve_for (reserve_of r) size))
  stream-grown =
      grown w found ∙ ap (with_own m (suc at) (suc n)) (grown-to w size more is)
      ∙ sym (changed-row m (suc at) (suc n) (λ r. stream_with r (reserve_for (reserve_of r) size)) (outline.Stream w) (stream-own m (suc at) (suc n) w (sym (stream-place m (suc at) at (suc n) n refl refl) ∙ found)))

  pub stream-many : length one.agents ≡ length m.agents
  stream-many = as-many m one (suc at) (suc n) _ (grown w found)

  pub stream-entries : one.entries ≡ m.entries
  stream-entries = ap (λ (x : Machine). x.entries) (grown w found)

-- The stream that is read is the one that grows.
pub same-stream : (m : Machine) (k at row n : ℕ) (w v : StreamOutline) → suc at ≡ k → suc n ≡ row → open_stream in_lengths m k row ≡ Some w → stream_at m.agents at n ≡ Some v → w ≡ v
same-stream m k at row n w v agent number open_now found = some-is (sym open_now ∙ sym (stream-place m k at row n agent number) ∙ found)

pub same-handle : (m : Machine) (k at row n : ℕ) (w v : HandleOutline) → suc at ≡ k → suc n ≡ row → open_handle in_lengths m k row ≡ Some w → handle_at m.agents at n ≡ Some v → w ≡ v
same-handle m k at row n w v agent number open_now found = some-is (sym open_now ∙ sym (handle-place m k at row n agent number) ∙ found)

pub fits-usage : (m : Machine) (unit : List ℕ) (more limit : ℕ) → Kept m → pool in_lengths m + more ≤ m.limits.blocks → limit ≡ m.limits.blocks → limit < 2 ^ 64 → usage in_lengths m unit + more < 2 ^ 64
fits-usage m unit more limit kept room is small = omega (arith, kept.usage unit, room, is, small)
