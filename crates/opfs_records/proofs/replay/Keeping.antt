-- What a replay keeps, as changes of rows are applied.
use Rattle.std.proofs.Common.{refl, ◌≡◌, ℕ, ◌+◌, ◌<◌, ◌≤◌, ◌^◌, Bool, true, ◌&&◌, List, [], length, None, sym, subst, ◌∙◌, arith}
use Rattle.std.specs.Prelude.{nat_lt, nat_le}
use Rattle.std.specs.List.{AllByRecursion}
use Rattle.std.specs.FinMap.Entries.{put}
use Rattle.std.proofs.lemmas.Bool.{and_parts, leb-true, ltb-true}
use Rattle.opfs_base.specs.Places.{Place, place_cmp}
use Rattle.opfs_base.specs.declared.extents.Extent.{Extent}
use Rattle.opfs_shed.specs.Buckets.{Buckets}
use Rattle.opfs_tree.specs.declared.row.Row.{Row}
use Rattle.opfs_tree.specs.Rows.{Rows, row_at, extents_of, without, change_at, stored}
use Rattle.opfs_blocks.specs.Sets.{Used}
use Rattle.opfs_records.specs.Replay.Applying.{can_hold}
use Rattle.opfs_records.specs.Replay.Built.{named, IsSound, IsSoundRow, used_by}
use Rattle.opfs_records.specs.Replay.Kept.{AreMarked, extent_count, IsKept}
use Rattle.opfs_codec.specs.Spelling.{AreExtents}
use Rattle.opfs_records.specs.Checkpoint.Written.{IsWritableRow}
use Rattle.opfs_records.proofs.replay.Writable.{writable_put, writable_without, writable_change}
use Rattle.opfs_records.proofs.replay.Counts.{marked_few, once_from_times, marks_are}
use Rattle.opfs_records.proofs.replay.Holding.{holds, all_of, all_more, is_within_size}
use Rattle.opfs_records.proofs.replay.Rows.{all_filter, all_put, all_change, put_times, put_few, without_few}

module _ (rows : Rows) (used : Used) (buckets : Buckets) (most charge : ℕ) where
  -- A row without blocks is added.
  pub kept_put : (place : Place) (r : Row) → IsKept rows used buckets most charge → row_at place rows ≡ None → extents_of r ≡ [] → IsSoundRow (length used) r → IsWritableRow place r
      → IsKept (put place_cmp place r rows) used buckets most charge
  kept_put place r kept none bare sound good = record {
    files = all_put (IsSoundRow (length used)) place r rows sound kept.files;
    marked = λ k. put_times place r rows none bare k ∙ kept.marked k;
    few = omega (arith, put_few place r rows none bare, kept.few);
    writable = (writable_put place r rows good kept.writable.0 none, kept.writable.1);
    modes = kept.modes;
    ordered = kept.ordered;
    sum = kept.sum;
  }

  -- Rows are taken out.
  pub kept_without : (place : Place) (now : Used) → IsKept rows used buckets most charge → AreMarked now (named (without place rows)) → length now ≡ length used
      → IsKept (without place rows) now buckets most charge
  kept_without place now kept marked same = record {
    files = subst (λ (n : ℕ). AllByRecursion (λ (e : Place × Row). IsSoundRow n e.1) (without place rows)) (sym same) (all_filter (λ (e : Place × Row). IsSoundRow (length used) e.1) _ rows kept.files);
    marked = marked;
    few = omega (arith, without_few place rows, kept.few);
    writable = (writable_without place rows kept.writable.0, kept.writable.1);
    modes = kept.modes;
    ordered = kept.ordered;
    sum = kept.sum;
  }

  -- A file gets other bytes.
  pub kept_stored : (place : Place) (len stamp : ℕ) (extents : List Extent) (now : Used) (others : List ℕ) (sum : ℕ) → IsKept rows used buckets most charge
      → can_hold (length used) others len extents ≡ true → AreMarked now (named (change_at place (stored len stamp extents) rows)) → length now ≡ length used
      → extent_count (change_at place (stored len stamp extents) rows) ≤ extent_count rows + length extents → sum ≡ most + length extents → len < 2 ^ 64 → stamp < 2 ^ 64 → AreExtents extents
      → IsKept (change_at place (stored len stamp extents) rows) now buckets sum charge
  kept_stored place len stamp extents now others sum kept can marked same few is long late good =
      let all = holds (length used) others len extents can in
      let some : AllByRecursion (λ (e : Extent). 0 < e.count) extents = all_more (λ e. is_within_size (length used) e ≡ true) (λ (e : Extent). 0 < e.count) (λ e t. ltb-true 0 e.count (and_parts (nat_lt 0 e.count) (nat_le (e.start + e.count) (length used)) t).0) extents (all_of (is_within_size (length used)) extents all.within) in
      let below : AllByRecursion (λ (e : Extent). e.start + e.count ≤ length used) extents = all_more (λ e. is_within_size (length used) e ≡ true) (λ (e : Extent). e.start + e.count ≤ length used) (λ e t. leb-true (e.start + e.count) (length used) (and_parts (nat_lt 0 e.count) (nat_le (e.start + e.count) (length used)) t).1) extents (all_of (is_within_size (length used)) extents all.within) in
      record {
        files = subst (λ (n : ℕ). AllByRecursion (λ (e : Place × Row). IsSoundRow n e.1) (change_at place (stored len stamp extents) rows)) (sym same)
            (all_change (IsSoundRow (length used)) place (stored len stamp extents) rows (λ f sound. record { some = some; whole = all.sum; below = below; present = refl; present_stamp = refl; unlocked = sound.unlocked }) kept.files);
        marked = marked;
        few = omega (arith, few, is, kept.few);
        writable = (writable_change place len stamp extents long late good rows kept.writable.0, kept.writable.1);
        modes = kept.modes;
        ordered = kept.ordered;
        sum = kept.sum;
      }

  -- What was kept is what is told at the end.
  pub kept_sound : IsKept rows used buckets most charge → IsSound (length used) rows
  kept_sound kept = record { files = kept.files; once = once_from_times (named rows) (marked_few used (named rows) kept.marked) }

  pub kept_used : IsKept rows used buckets most charge → used ≡ used_by (length used) rows
  kept_used kept = marks_are used (named rows) kept.marked

pub can_hold_of : (size : ℕ) (others : List ℕ) (len : ℕ) (extents : List Extent) (there : Bool) (done : Bool) → done ≡ (there && can_hold size others len extents) → done ≡ true → can_hold size others len extents ≡ true
can_hold_of size others len extents there done is told = (and_parts there (can_hold size others len extents) (sym is ∙ told)).1
