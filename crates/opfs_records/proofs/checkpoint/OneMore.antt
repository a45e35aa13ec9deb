-- What is built with one change more: it is sound, and its charge covers what is written.
use Rattle.std.proofs.Common.{◌≡◌, ◌+◌, ◌<◌, ◌≤◌, ℕ, Bool, true, false, cond, not, List, [], ◌∷◌, Option, Some, None, is_some, length, sum_by, inl, inr, refl, sym, ap, ◌∙◌, arith}
use Rattle.std.specs.Prelude.{if◌then◌else◌, nat_lt, nat_le}
use Rattle.std.specs.List.{AllByRecursion, list_any}
use Rattle.std.specs.List.Sorted.{IsStrictlySortedBy}
use Rattle.std.specs.FinMap.Entries.{is_sorted, put, by_order}
use Rattle.std.specs.Ordering.{is_eq}
use Rattle.std.specs.declared.cmp.Ordering.TheVariants.{Less, Equal, Greater}
use Rattle.std.proofs.lemmas.Bool.{and_parts, leb-true, ltb-true, false≢true, true≢false, cases_Bool, not-true}
use Rattle.std.proofs.lemmas.List.Sums.{sum_by-cons}
use Rattle.opfs_base.specs.Texts.{Text, same_text}
use Rattle.opfs_base.specs.Places.{Place, place_cmp}
use Rattle.opfs_base.specs.declared.extents.Extent.{Extent}
use Rattle.opfs_codec.specs.Charges.{charge, unit_bytes}
use Rattle.opfs_codec.specs.Spelling.{spelling, IsChange}
use Rattle.opfs_codec.specs.Fields.{HasFewExtents}
use Rattle.opfs_codec.specs.declared.change.Format.TheVariants.{New}
use Rattle.opfs_codec.specs.declared.change.Change.{Change}
use Rattle.opfs_codec.specs.declared.change.Change.TheVariants.{MakeRoot, MakeDir, MakeFile, Remove, Content, Persist, Evict}
use Rattle.opfs_codec.proofs.WritingLemmas.{spelling_below}
use Rattle.opfs_machine.specs.Ordered.{insert_by}
use Rattle.opfs_shed.specs.Buckets.{Buckets, text_cmp, bucket_at}
use Rattle.opfs_tree.specs.Rows.{Rows, row_at, file_at, without, change_at, stored}
use Rattle.opfs_tree.specs.declared.row.Row.{Row}
use Rattle.opfs_tree.specs.declared.row.Row.TheVariants as row
use Rattle.opfs_records.specs.Replay.Applying.{can_apply, can_hold, applied, tried, with_row, empty_file}
use Rattle.opfs_blocks.specs.Sets.{blocks_of}
use Rattle.opfs_records.specs.Replay.Built.{Built, has_block, named, named_beside, IsSound, IsSoundRow}
use Rattle.opfs_records.specs.Replay.Kept.{times}
use Rattle.opfs_records.specs.Replay.Sums.{charge_of, row_charge, persistent_in}
use Rattle.opfs_records.proofs.replay.Counts.{once_from_times, once_times, times_none, at_each}
use Rattle.opfs_records.proofs.replay.Holding.{holds, all_of, all_more, is_within_size}
use Rattle.opfs_records.proofs.replay.Parents.{has_parent}
use Rattle.opfs_records.proofs.replay.Rows.{all_filter, all_change, without_times, store_times, old_times, found_file}
use Rattle.opfs_records.specs.Checkpoint.After.{is_shown, made_bytes}
use Rattle.opfs_records.proofs.checkpoint.Building.{Builds, builds_nothing, builds_one, builds_same}
use Rattle.opfs_records.proofs.checkpoint.Modes.{mode_in, insert_again, insert_sum}
use Rattle.opfs_records.proofs.checkpoint.Ordered.{keys, persistent_sorted}
use Rattle.opfs_records.proofs.checkpoint.Remaining.{kept_rows}

-- ---- what is left is sound

sound_without : (size : ℕ) (place : Place) (rows : Rows) → IsSound size rows → IsSound size (without place rows)
sound_without size place rows sound = record {
  files = all_filter (λ (e : Place × Row). IsSoundRow size e.1) _ rows sound.files;
  once = once_from_times (named (without place rows)) (λ k. omega (arith, once_times (named rows) sound.once k, without_times k place rows));
}

module _ (size : ℕ) (place : Place) (len stamp : ℕ) (extents : List Extent) (rows : Rows) (sound : IsSound size rows) (sorted : is_sorted place_cmp rows ≡ true) (there : is_some (file_at place rows) ≡ true)
    (can : can_hold size (named_beside place rows) len extents ≡ true) where
  content_once : (k : ℕ) → times k (named (change_at place (stored len stamp extents) rows)) ≤ 1
  content_once k =
      let all = holds size (named_beside place rows) len extents can in
      let new = store_times place len stamp extents rows sorted there k in
      let file = found_file (file_at place rows) there in
      let old = old_times place rows file.0 sorted file.1 k in
      let most = once_times (named rows) sound.once k in
      elim (cases_Bool (has_block (blocks_of extents) k)) [
        | inl has ↦
            let apart = at_each (λ b. not (has_block (named_beside place rows) b) ≡ true) (blocks_of extents) (all_of (λ b. not (has_block (named_beside place rows) b)) (blocks_of extents) all.apart) k has in
            omega (arith, new, once_times (blocks_of extents) all.once k, times_none k (named_beside place rows) (not-true _ apart))
        | inr hasn ↦ omega (arith, new, old, most, times_none k (blocks_of extents) hasn)
      ]

  sound_content : IsSound size (change_at place (stored len stamp extents) rows)
  sound_content =
      let all = holds size (named_beside place rows) len extents can in
      let within = all_of (is_within_size size) extents all.within in
      let some : AllByRecursion (λ (e : Extent). 0 < e.count) extents = all_more (λ e. is_within_size size e ≡ true) (λ (e : Extent). 0 < e.count) (λ e t. ltb-true 0 e.count (and_parts (nat_lt 0 e.count) (nat_le (e.start + e.count) size) t).0) extents within in
      let below : AllByRecursion (λ (e : Extent). e.start + e.count ≤ size) extents = all_more (λ e. is_within_size size e ≡ true) (λ (e : Extent). e.start + e.count ≤ size) (λ e t. leb-true (e.start + e.count) size (and_parts (nat_lt 0 e.count) (nat_le (e.start + e.count) size) t).1) extents within in
      record {
        files = all_change (IsSoundRow size) place (stored len stamp extents) rows (λ f old. record { some = some; whole = all.sum; below = below; present = refl; present_stamp = refl; unlocked = old.unlocked }) sound.files;
        once = once_from_times (named (change_at place (stored len stamp extents) rows)) content_once;
      }

abbrev pub built : Rows → List Text → Built
built rows units = record { rows = rows; persistent = units }

pub told_by : (t : Bool) (x y : Built) → (if t then Some x else None) ≡ Some y → (t ≡ true) × (x ≡ y)
told_by true x y h = (refl, cc)
told_by false x y h = absurd cc

-- ---- the change is made last, unless what is left tells it

abbrev made_by : Bool → Change → List ℕ
made_by t change = if t then [] else spelling New change

abbrev cost_by : Bool → Change → ℕ
cost_by t change = if t then 0 else charge change

put_sum : (g : Place × Row → ℕ) (place : Place) (r : Row) (rows : Rows) → row_at place rows ≡ None → sum_by g (put place_cmp place r rows) ≡ g (place, r) + sum_by g rows
put_sum g place r [] none = sum_by-cons g (place, r) []
put_sum g place r (e ∷ es) none =
    elim (place_cmp place e.0) as (λ o. cond (is_eq o) (Some e.1) (row_at place es) ≡ None → sum_by g (by_order o ((place, r) ∷ e ∷ es) ((e.0, r) ∷ es) (e ∷ put place_cmp place r es)) ≡ g (place, r) + sum_by g (e ∷ es)) [
      | Less ↦ λ h. sum_by-cons g (place, r) (e ∷ es)
      | Equal ↦ λ h. absurd (some_none e.1 h)
      | Greater ↦ λ h. omega (arith, sum_by-cons g e (put place_cmp place r es), sum_by-cons g e es, put_sum g place r es h)
    ] none
  where
    some_none : (x : Row) → ◌≡◌ {A = Option Row} (Some x) None → ⊥
    some_none x e = cc

none_there : (o : Option Row) → not (is_some o) ≡ true → o ≡ None
none_there None h = refl
none_there (Some r) h = absurd (false≢true h)

module _ (size : ℕ) (rows : Rows) (buckets : Buckets) (next : Built) (ordered : IsStrictlySortedBy text_cmp (keys buckets)) where
  abbrev units : List Text
  units = persistent_in buckets

  abbrev Tries : Change → Type 0
  Tries change = tried New size (built rows units) change ≡ Some next

  pub kept_sound : (change : Change) → IsSound size rows → is_sorted place_cmp rows ≡ true → Tries change → IsSound size (kept_rows change rows)
  unfolding can_apply
  kept_sound (MakeRoot unit) sound sorted h = sound
  kept_sound (MakeDir unit path) sound sorted h = sound
  kept_sound (MakeFile unit path stamp) sound sorted h = sound
  kept_sound (Remove unit path) sound sorted h = sound_without size (unit, path) rows sound
  kept_sound (Content unit path stamp len extents) sound sorted h =
      let can = and_parts (is_some (file_at (unit, path) rows)) (can_hold size (named_beside (unit, path) rows) len extents) (told_by (can_apply New size (built rows units) (Content unit path stamp len extents)) _ next h).0 in
      sound_content size (unit, path) len stamp extents rows sound sorted can.0 can.1
  kept_sound (Persist unit) sound sorted h = sound
  kept_sound (Evict unit) sound sorted h = sound_without size (unit, []) rows sound

  module _ (unit : Text) (h : Tries (Persist unit)) where
    persist_next : built rows (insert_by text_cmp unit units) ≡ next
    unfolding applied
    persist_next = (told_by (can_apply New size (built rows units) (Persist unit)) _ next h).1

    persist_again : (bucket_at buckets unit).persistent ≡ true → built rows units ≡ next
    persist_again is = ap (built rows) (sym (insert_again unit units (persistent_sorted buckets ordered) (sym (mode_in unit buckets ordered) ∙ is))) ∙ persist_next

  shown_next : (change : Change) → Tries change → applied (built rows units) change ≡ next
  shown_next change h = (told_by (can_apply New size (built rows units) change) _ next h).1

  pub last_builds : (change : Change) → IsChange New change → Tries change → Builds size (made_bytes buckets change) (built (kept_rows change rows) units) next
  unfolding is_shown applied
  last_builds (MakeRoot unit) good h = builds_one size (MakeRoot unit) (built rows units) next good h
  last_builds (MakeDir unit path) good h = builds_one size (MakeDir unit path) (built rows units) next good h
  last_builds (MakeFile unit path stamp) good h = builds_one size (MakeFile unit path stamp) (built rows units) next good h
  last_builds (Remove unit path) good h = builds_same size [] [] _ _ next refl (shown_next (Remove unit path) h) (builds_nothing size _)
  last_builds (Content unit path stamp len extents) good h = builds_same size [] [] _ _ next refl (shown_next (Content unit path stamp len extents) h) (builds_nothing size _)
  last_builds (Persist unit) good h =
      elim (bucket_at buckets unit).persistent as (λ t. (bucket_at buckets unit).persistent ≡ t → Builds size (made_by t (Persist unit)) (built rows units) next) [
        | true ↦ λ is. builds_same size [] [] _ _ next refl (persist_again unit h is) (builds_nothing size _)
        | false ↦ λ is. builds_one size (Persist unit) (built rows units) next good h
      ] refl
  last_builds (Evict unit) good h = builds_same size [] [] _ _ next refl (shown_next (Evict unit) h) (builds_nothing size _)

  row_put : (place : Place) (r : Row) → row_at place rows ≡ None → charge_of New (with_row (built rows units) place r) ≡ row_charge New place r + charge_of New (built rows units)
  unfolding charge_of
  row_put place r none = omega (arith, put_sum (λ (e : Place × Row). row_charge New e.0 e.1) place r rows none)

  unit_put : (unit : Text) → list_any (same_text unit) units ≡ false → charge_of New (built rows (insert_by text_cmp unit units)) ≡ (3 + unit_bytes unit) + charge_of New (built rows units)
  unfolding charge_of
  unit_put unit none = omega (arith, insert_sum (λ (x : Text). 3 + unit_bytes x) unit units none)

  same_charge : (x : Built) (c : ℕ) → x ≡ next → charge_of New x ≡ c → charge_of New next ≡ c
  same_charge x c is h = ap (charge_of New) (sym is) ∙ h

  -- What is left and the change are charged no more than what is built.
  pub last_charge : (change : Change) → Tries change → charge_of New (built (kept_rows change rows) units) + (if is_shown buckets change then 0 else charge change) ≤ charge_of New next
  unfolding is_shown applied can_apply charge
  last_charge (MakeRoot unit) h =
      let told = told_by (can_apply New size (built rows units) (MakeRoot unit)) _ next h in
      omega (arith, same_charge _ _ told.1 (row_put (unit, []) row.Dir (none_there _ told.0)))
  last_charge (MakeDir unit []) h = absurd (false≢true (told_by (can_apply New size (built rows units) (MakeDir unit [])) (applied (built rows units) (MakeDir unit [])) next h).0)
  last_charge (MakeDir unit (first ∷ more)) h =
      let told = told_by (can_apply New size (built rows units) (MakeDir unit (first ∷ more))) _ next h in
      omega (arith, same_charge _ _ told.1 (row_put (unit, first ∷ more) row.Dir (has_parent unit (first ∷ more) rows told.0).0))
  last_charge (MakeFile unit path stamp) h =
      let told = told_by (can_apply New size (built rows units) (MakeFile unit path stamp)) _ next h in
      omega (arith, same_charge _ _ told.1 (row_put (unit, path) (empty_file stamp) (has_parent unit path rows told.0).0))
  last_charge (Remove unit path) h = omega (arith, ap (charge_of New) (shown_next (Remove unit path) h))
  last_charge (Content unit path stamp len extents) h = omega (arith, ap (charge_of New) (shown_next (Content unit path stamp len extents) h))
  last_charge (Persist unit) h =
      elim (bucket_at buckets unit).persistent as (λ t. (bucket_at buckets unit).persistent ≡ t → charge_of New (built rows units) + (if t then 0 else 3 + unit_bytes unit) ≤ charge_of New next) [
        | true ↦ λ is. omega (arith, ap (charge_of New) (persist_again unit h is))
        | false ↦ λ is. omega (arith, same_charge _ _ (persist_next unit h) (unit_put unit (sym (mode_in unit buckets ordered) ∙ is)))
      ] refl
  last_charge (Evict unit) h = omega (arith, ap (charge_of New) (shown_next (Evict unit) h))

-- The bytes of the change itself.
pub made_below : (buckets : Buckets) (change : Change) → length (made_bytes buckets change) ≤ (if is_shown buckets change then 0 else charge change)
unfolding is_shown HasFewExtents
made_below buckets (MakeRoot unit) = spelling_below (MakeRoot unit) tt
made_below buckets (MakeDir unit path) = spelling_below (MakeDir unit path) tt
made_below buckets (MakeFile unit path stamp) = spelling_below (MakeFile unit path stamp) tt
made_below buckets (Remove unit path) = omega arith
made_below buckets (Content unit path stamp len extents) = omega arith
made_below buckets (Persist unit) = elim (bucket_at buckets unit).persistent as (λ t. length (made_by t (Persist unit)) ≤ cost_by t (Persist unit)) [ true ↦ omega arith | false ↦ spelling_below (Persist unit) tt ]
made_below buckets (Evict unit) = omega arith

-- A change that is written itself has few extents.
pub few_made : (buckets : Buckets) (change : Change) → is_shown buckets change ≡ false → HasFewExtents change
unfolding is_shown HasFewExtents
few_made buckets (MakeRoot unit) h = tt
few_made buckets (MakeDir unit path) h = tt
few_made buckets (MakeFile unit path stamp) h = tt
few_made buckets (Remove unit path) h = absurd (true≢false h)
few_made buckets (Content unit path stamp len extents) h = absurd (true≢false h)
few_made buckets (Persist unit) h = tt
few_made buckets (Evict unit) h = absurd (true≢false h)
