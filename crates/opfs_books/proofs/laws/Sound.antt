-- What is built with one change more is sound and can be written, and has at most one root more.
use Rattle.std.proofs.Common.{◌≡◌, ◌+◌, ◌<◌, ◌≤◌, ℕ, Bool, true, false, cond, not, List, [], ◌∷◌, Option, Some, None, is_some, length, inl, inr, refl, sym, ap, ◌∙◌, subst, arith}
use Rattle.std.specs.Prelude.{if◌then◌else◌, nat_lt, nat_le}
use Rattle.std.specs.List.{AllByRecursion, count_by, sum_by}
use Rattle.std.specs.FinMap.Entries.{is_sorted, put, by_order}
use Rattle.std.specs.Ordering.{is_eq}
use Rattle.std.specs.Cmp.Lexicographic.{slice_cmp}
use Rattle.std.specs.Ordering.{nat_cmp}
use Rattle.std.specs.declared.cmp.Ordering.TheVariants.{Less, Equal, Greater}
use Rattle.std.proofs.lemmas.Bool.{and_parts, leb-true, ltb-true, false≢true, cases_Bool, not-true}
use Rattle.opfs_base.specs.Measures.{is_root}
use Rattle.opfs_base.specs.Texts.{Text}
use Rattle.opfs_base.specs.Places.{Place, place_cmp, is_within}
use Rattle.opfs_base.specs.Names.{is_valid_name, fits_limits}
use Rattle.opfs_base.specs.declared.extents.Extent.{Extent}
use Rattle.opfs_blocks.specs.Sets.{blocks_of}
use Rattle.opfs_codec.specs.Spelling.{IsChange, IsKey}
use Rattle.opfs_codec.specs.declared.change.Format.TheVariants.{New}
use Rattle.opfs_codec.specs.declared.change.Change.{Change}
use Rattle.opfs_codec.specs.declared.change.Change.TheVariants.{MakeRoot, MakeDir, MakeFile, Remove, Content, Persist, Evict}
use Rattle.opfs_machine.specs.Ordered.{insert_by}
use Rattle.opfs_tree.specs.Rows.{Rows, row_at, file_at, without, change_at, changed_row, stored}
use Rattle.opfs_tree.specs.declared.row.FileRow.{FileRow}
use Rattle.opfs_tree.specs.declared.row.Row.{Row}
use Rattle.opfs_tree.specs.declared.row.Row.TheVariants as row
use Rattle.opfs_records.specs.Replay.Applying.{can_apply, can_hold, can_make, can_make_named, parted, is_directory, is_persistent, applied, tried, empty_file}
use Rattle.opfs_records.specs.Replay.Built.{Built, has_block, named, named_beside, IsSound, IsSoundRow}
use Rattle.opfs_records.specs.Replay.Kept.{times}
use Rattle.opfs_records.specs.Replay.Sums.{charge_of, row_charge}
use Rattle.opfs_tree.proofs.ready.Clear.{same_place, within_itself}
use Rattle.std.proofs.lemmas.List.Sums.{sum_by-cons}
use Rattle.opfs_records.proofs.replay.Counts.{once_from_times, once_times, times_none, at_each}
use Rattle.opfs_records.proofs.replay.Holding.{holds, all_of, all_more, is_within_size, four}
use Rattle.opfs_records.proofs.replay.Parents.{has_parent}
use Rattle.opfs_records.proofs.replay.Rows.{all_filter, all_put, all_change, put_times, without_times, store_times, old_times, found_file}
use Rattle.opfs_records.specs.Checkpoint.Written.{AreWritable, IsWritableRow}
use Rattle.opfs_books.specs.Laws.Books.{roots}
use Rattle.opfs_books.proofs.laws.Counting.{one_if, count-cons}

told_by : (t : Bool) (x y : Built) → (if t then Some x else None) ≡ Some y → (t ≡ true) × (x ≡ y)
told_by true x y h = (refl, cc)
told_by false x y h = absurd cc

nothing_there : (o : Option Row) → not (is_some o) ≡ true → o ≡ None
nothing_there None h = refl
nothing_there (Some r) h = absurd (false≢true h)

sound_put : (size : ℕ) (place : Place) (r : Row) (rows : Rows) → IsSound size rows → row_at place rows ≡ None → IsSoundRow size r → (named-none : ((k : ℕ) → times k (named (put place_cmp place r rows)) ≡ times k (named rows))) → IsSound size (put place_cmp place r rows)
sound_put size place r rows sound none good same = record {
  files = all_put (IsSoundRow size) place r rows good sound.files;
  once = once_from_times (named (put place_cmp place r rows)) (λ k. omega (arith, once_times (named rows) sound.once k, same k));
}

sound_without : (size : ℕ) (place : Place) (rows : Rows) → IsSound size rows → IsSound size (without place rows)
sound_without size place rows sound = record {
  files = all_filter (λ (e : Place × Row). IsSoundRow size e.1) _ rows sound.files;
  once = once_from_times (named (without place rows)) (λ k. omega (arith, once_times (named rows) sound.once k, without_times k place rows));
}

module _ (size : ℕ) (place : Place) (len stamp : ℕ) (extents : List Extent) (rows : Rows) (sound : IsSound size rows) (sorted : is_sorted place_cmp rows ≡ true) (there : is_some (file_at place rows) ≡ true)
    (can : can_hold size (named_beside place rows) len extents ≡ true) where
  content_once : (k : ℕ) → times k (named (change_at place (stored len stamp extents) rows)) ≤ 1
  content_once k =
      let all = holds size (named_beside place rows) len extents can in
      let new = store_times place len stamp extents rows sorted there k in
      let file = found_file (file_at place rows) there in
      let old = old_times place rows file.0 sorted file.1 k in
      let most = once_times (named rows) sound.once k in
      elim (cases_Bool (has_block (blocks_of extents) k)) [
        | inl has ↦
            let apart = at_each (λ b. not (has_block (named_beside place rows) b) ≡ true) (blocks_of extents) (all_of (λ b. not (has_block (named_beside place rows) b)) (blocks_of extents) all.apart) k has in
            omega (arith, new, once_times (blocks_of extents) all.once k, times_none k (named_beside place rows) (not-true _ apart))
        | inr hasn ↦ omega (arith, new, old, most, times_none k (blocks_of extents) hasn)
      ]

  sound_content : IsSound size (change_at place (stored len stamp extents) rows)
  sound_content =
      let all = holds size (named_beside place rows) len extents can in
      let within = all_of (is_within_size size) extents all.within in
      let some : AllByRecursion (λ (e : Extent). 0 < e.count) extents = all_more (λ e. is_within_size size e ≡ true) (λ (e : Extent). 0 < e.count) (λ e t. ltb-true 0 e.count (and_parts (nat_lt 0 e.count) (nat_le (e.start + e.count) size) t).0) extents within in
      let below : AllByRecursion (λ (e : Extent). e.start + e.count ≤ size) extents = all_more (λ e. is_within_size size e ≡ true) (λ (e : Extent). e.start + e.count ≤ size) (λ e t. leb-true (e.start + e.count) size (and_parts (nat_lt 0 e.count) (nat_le (e.start + e.count) size) t).1) extents within in
      record {
        files = all_change (IsSoundRow size) place (stored len stamp extents) rows (λ f old. record { some = some; whole = all.sum; below = below; present = refl; present_stamp = refl; unlocked = old.unlocked }) sound.files;
        once = once_from_times (named (change_at place (stored len stamp extents) rows)) content_once;
      }

-- ---- rows that can be written

writable_put : (place : Place) (r : Row) (rows : Rows) → IsWritableRow place r → AllByRecursion (λ e. IsWritableRow e.0 e.1) rows → row_at place rows ≡ None → AllByRecursion (λ e. IsWritableRow e.0 e.1) (put place_cmp place r rows)
writable_put place r [] here all none = (here, tt)
writable_put place r (e ∷ es) here all none =
    elim (place_cmp place e.0) as (λ o. cond (is_eq o) (Some e.1) (row_at place es) ≡ None → AllByRecursion (λ (x : Place × Row). IsWritableRow x.0 x.1) (by_order o ((place, r) ∷ e ∷ es) ((e.0, r) ∷ es) (e ∷ put place_cmp place r es))) [
      | Less ↦ λ h. (here, all)
      | Equal ↦ λ h. absurd (some_none e.1 h)
      | Greater ↦ λ h. (all.0, writable_put place r es here all.1 h)
    ] none
  where
    some_none : (x : Row) → ◌≡◌ {A = Option Row} (Some x) None → ⊥
    some_none x e = cc

module _ (place : Place) (len stamp : ℕ) (extents : List Extent) where
  writable_row : (unit : Text) (path : List Text) (at : Place) (r : Row) → IsChange New (Content unit path stamp len extents) → IsWritableRow at r → IsWritableRow at (changed_row (stored len stamp extents) r)
  unfolding IsChange
  writable_row unit path at row.Dir again good = good
  writable_row unit path at (row.File f) again good = (good.0, (good.1.0, again.2, again.3, again.4))

  writable_change : (unit : Text) (path : List Text) (rows : Rows) → IsChange New (Content unit path stamp len extents) → AllByRecursion (λ e. IsWritableRow e.0 e.1) rows
      → AllByRecursion (λ e. IsWritableRow e.0 e.1) (change_at place (stored len stamp extents) rows)
  writable_change unit path [] again all = tt
  writable_change unit path (e ∷ es) again all =
      elim (is_eq (place_cmp place e.0)) as (λ t. AllByRecursion (λ (x : Place × Row). IsWritableRow x.0 x.1) (elim t [ true ↦ (e.0, changed_row (stored len stamp extents) e.1) ∷ es | false ↦ e ∷ change_at place (stored len stamp extents) es ])) [
        | true ↦ (writable_row unit path e.0 e.1 again all.0, all.1)
        | false ↦ (all.0, writable_change unit path es again all.1)
      ]

insert_all : (P : Text → Type 0) (unit : Text) (units : List Text) → P unit → AllByRecursion P units → AllByRecursion P (insert_by (slice_cmp nat_cmp) unit units)
insert_all P unit [] here all = (here, tt)
insert_all P unit (u ∷ us) here all =
    elim (slice_cmp nat_cmp unit u) as (λ o. AllByRecursion P (by_order o (unit ∷ u ∷ us) (u ∷ us) (u ∷ insert_by (slice_cmp nat_cmp) unit us))) [
      | Less ↦ (here, all)
      | Equal ↦ all
      | Greater ↦ (all.0, insert_all P unit us here all.1)
    ]

-- A path where a row can be made has 32 names at most.
short_by : (unit : Text) (path : List Text) (rows : Rows) (o : Option (List Text × Text)) → can_make_named unit path rows o ≡ true → length path ≤ 32
short_by unit path rows None can = absurd (false≢true can)
short_by unit path rows (Some p) can =
    let all = four (is_directory (row_at (unit, p.0) rows)) (not (is_some (row_at (unit, path) rows))) (is_valid_name p.1) (fits_limits p.1 path) can in
    leb-true (length path) 32 (and_parts (nat_le (length p.1) 255) (nat_le (length path) 32) all.3).1

short : (unit : Text) (path : List Text) (rows : Rows) → can_make unit path rows ≡ true → length path ≤ 32
short unit path rows can = short_by unit path rows (parted path) can

nonempty : (unit : Text) (path : List Text) (rows : Rows) → can_make unit path rows ≡ true → 0 < length path
nonempty unit [] rows can = absurd (false≢true can)
nonempty unit (name ∷ names) rows can = omega arith

-- ---- roots

roots_without : (place : Place) (rows : Rows) → count_by (λ e. is_root e.0) (without place rows) ≤ count_by (λ e. is_root e.0) rows
roots_without place [] = omega arith
roots_without place (e ∷ es) =
    let rest = without place es in
    elim (is_within place e.0) as (λ t. count_by (λ (x : Place × Row). is_root x.0) (cond (not t) (e ∷ rest) rest) ≤ count_by (λ (x : Place × Row). is_root x.0) (e ∷ es)) [
      | true ↦ omega (arith, roots_without place es, count-cons (λ (x : Place × Row). is_root x.0) e es)
      | false ↦ omega (arith, roots_without place es, count-cons (λ (x : Place × Row). is_root x.0) e es, count-cons (λ (x : Place × Row). is_root x.0) e rest)
    ]

roots_put : (place : Place) (r : Row) (rows : Rows) → count_by (λ e. is_root e.0) (put place_cmp place r rows) ≤ count_by (λ e. is_root e.0) rows + 1
roots_put place r [] = omega (arith, count-cons (λ (x : Place × Row). is_root x.0) (place, r) [], most (is_root place))
  where
    most : (t : Bool) → one_if t ≤ 1
    most true = omega arith
    most false = omega arith
roots_put place r (e ∷ es) =
    elim (place_cmp place e.0) as (λ o. count_by (λ (x : Place × Row). is_root x.0) (by_order o ((place, r) ∷ e ∷ es) ((e.0, r) ∷ es) (e ∷ put place_cmp place r es)) ≤ count_by (λ (x : Place × Row). is_root x.0) (e ∷ es) + 1) [
      | Less ↦ omega (arith, count-cons (λ (x : Place × Row). is_root x.0) (place, r) (e ∷ es), most (is_root place))
      | Equal ↦ omega (arith, count-cons (λ (x : Place × Row). is_root x.0) (e.0, r) es, count-cons (λ (x : Place × Row). is_root x.0) e es)
      | Greater ↦ omega (arith, roots_put place r es, count-cons (λ (x : Place × Row). is_root x.0) e es, count-cons (λ (x : Place × Row). is_root x.0) e (put place_cmp place r es))
    ]
  where
    most : (t : Bool) → one_if t ≤ 1
    most true = omega arith
    most false = omega arith

roots_change : (place : Place) (change : FileRow → FileRow) (rows : Rows) → count_by (λ e. is_root e.0) (change_at place change rows) ≡ count_by (λ e. is_root e.0) rows
roots_change place change [] = refl
roots_change place change (e ∷ es) =
    elim (is_eq (place_cmp place e.0)) as (λ t. count_by (λ (x : Place × Row). is_root x.0) (elim t [ true ↦ (e.0, changed_row change e.1) ∷ es | false ↦ e ∷ change_at place change es ]) ≡ count_by (λ (x : Place × Row). is_root x.0) (e ∷ es)) [
      | true ↦ count-cons (λ (x : Place × Row). is_root x.0) (e.0, changed_row change e.1) es ∙ sym (count-cons (λ (x : Place × Row). is_root x.0) e es)
      | false ↦ omega (arith, roots_change place change es, count-cons (λ (x : Place × Row). is_root x.0) e es, count-cons (λ (x : Place × Row). is_root x.0) e (change_at place change es))
    ]

-- ---- all of it, by the change

module _ (size : ℕ) (b next : Built) where
  abbrev pub Tries : Change → Type 0
  Tries change = tried New size b change ≡ Some next

  parts_of : (change : Change) → Tries change → (can_apply New size b change ≡ true) × (applied b change ≡ next)
  parts_of change h = told_by (can_apply New size b change) (applied b change) next h

  abbrev IsGood : Built → Type 0
  IsGood x = IsSound size x.rows × AreWritable x.rows x.persistent

  pub next_good : (change : Change) → IsSound size b.rows → AreWritable b.rows b.persistent → is_sorted place_cmp b.rows ≡ true → IsChange New change → Tries change → IsGood next
  unfolding can_apply applied IsChange
  next_good (MakeRoot unit) sound good sorted again h =
      let p = parts_of (MakeRoot unit) h in
      let none = nothing_there _ p.0 in
      subst IsGood p.1 (
        sound_put size (unit, []) row.Dir b.rows sound none tt (λ k. put_times (unit, []) row.Dir b.rows none refl k),
        (writable_put (unit, []) row.Dir b.rows (again, (omega arith, tt), omega arith) good.0 none, good.1),
      )
  next_good (MakeDir unit path) sound good sorted again h =
      let p = parts_of (MakeDir unit path) h in
      let none = (has_parent unit path b.rows p.0).0 in
      subst IsGood p.1 (
        sound_put size (unit, path) row.Dir b.rows sound none tt (λ k. put_times (unit, path) row.Dir b.rows none refl k),
        (writable_put (unit, path) row.Dir b.rows (again.0, again.1, short unit path b.rows p.0) good.0 none, good.1),
      )
  next_good (MakeFile unit path stamp) sound good sorted again h =
      let p = parts_of (MakeFile unit path stamp) h in
      let none = (has_parent unit path b.rows p.0).0 in
      subst IsGood p.1 (
        sound_put size (unit, path) (empty_file stamp) b.rows sound none (record { some = tt; whole = refl; below = tt; present = refl; present_stamp = refl; unlocked = refl }) (λ k. put_times (unit, path) (empty_file stamp) b.rows none refl k),
        (writable_put (unit, path) (empty_file stamp) b.rows ((again.0, again.1, short unit path b.rows p.0), (nonempty unit path b.rows p.0, again.2, omega arith, (omega arith, tt))) good.0 none, good.1),
      )
  next_good (Remove unit path) sound good sorted again h =
      let p = parts_of (Remove unit path) h in
      subst IsGood p.1 (sound_without size (unit, path) b.rows sound, (all_filter (λ (e : Place × Row). IsWritableRow e.0 e.1) _ b.rows good.0, good.1))
  next_good (Content unit path stamp len extents) sound good sorted again h =
      let p = parts_of (Content unit path stamp len extents) h in
      let can = and_parts (is_some (file_at (unit, path) b.rows)) (can_hold size (named_beside (unit, path) b.rows) len extents) p.0 in
      subst IsGood p.1 (sound_content size (unit, path) len stamp extents b.rows sound sorted can.0 can.1, (writable_change (unit, path) len stamp extents unit path b.rows again good.0, good.1))
  next_good (Persist unit) sound good sorted again h =
      let p = parts_of (Persist unit) h in
      subst IsGood p.1 (sound, (good.0, insert_all (IsKey New) unit b.persistent again good.1))
  next_good (Evict unit) sound good sorted again h =
      let p = parts_of (Evict unit) h in
      subst IsGood p.1 (sound_without size (unit, []) b.rows sound, (all_filter (λ (e : Place × Row). IsWritableRow e.0 e.1) _ b.rows good.0, good.1))

  pub next_roots : (change : Change) → Tries change → roots next ≤ roots b + 1
  unfolding can_apply applied
  next_roots (MakeRoot unit) h = subst (λ (x : Built). roots x ≤ roots b + 1) (parts_of (MakeRoot unit) h).1 (roots_put (unit, []) row.Dir b.rows)
  next_roots (MakeDir unit path) h = subst (λ (x : Built). roots x ≤ roots b + 1) (parts_of (MakeDir unit path) h).1 (roots_put (unit, path) row.Dir b.rows)
  next_roots (MakeFile unit path stamp) h = subst (λ (x : Built). roots x ≤ roots b + 1) (parts_of (MakeFile unit path stamp) h).1 (roots_put (unit, path) (empty_file stamp) b.rows)
  next_roots (Remove unit path) h = subst (λ (x : Built). roots x ≤ roots b + 1) (parts_of (Remove unit path) h).1 (omega (arith, roots_without (unit, path) b.rows))
  next_roots (Content unit path stamp len extents) h = subst (λ (x : Built). roots x ≤ roots b + 1) (parts_of (Content unit path stamp len extents) h).1 (omega (arith, roots_change (unit, path) (stored len stamp extents) b.rows))
  next_roots (Persist unit) h = subst (λ (x : Built). roots x ≤ roots b + 1) (parts_of (Persist unit) h).1 (omega arith)
  next_roots (Evict unit) h = subst (λ (x : Built). roots x ≤ roots b + 1) (parts_of (Evict unit) h).1 (omega (arith, roots_without (unit, []) b.rows))

-- A unit that is cleared had a root, and its rows are charged no more.
roots_gone : (place : Place) (rows : Rows) → is_root place ≡ true → is_some (row_at place rows) ≡ true → count_by (λ e. is_root e.0) (without place rows) + 1 ≤ count_by (λ e. is_root e.0) rows
roots_gone place [] root there = absurd (false≢true there)
roots_gone place (e ∷ es) root there =
    let rest = without place es in
    elim (is_eq (place_cmp place e.0)) as (λ t. is_eq (place_cmp place e.0) ≡ t → is_some (cond t (Some e.1) (row_at place es)) ≡ true
    → count_by (λ (x : Place × Row). is_root x.0) (cond (not (is_within place e.0)) (e ∷ rest) rest) + 1 ≤ count_by (λ (x : Place × Row). is_root x.0) (e ∷ es)) [
      | true ↦ λ is h.
          let same : place ≡ e.0 = same_place place e.0 is in
          let inside : is_within place e.0 ≡ true = ap (is_within place) (sym same) ∙ within_itself place in
          let here : one_if (is_root e.0) ≡ 1 = ap (λ p. one_if (is_root p)) (sym same) ∙ ap one_if root in
          let left : count_by (λ (x : Place × Row). is_root x.0) (cond (not (is_within place e.0)) (e ∷ rest) rest) ≡ count_by (λ (x : Place × Row). is_root x.0) rest = ap (λ t. count_by (λ (x : Place × Row). is_root x.0) (cond (not t) (e ∷ rest) rest)) inside in
          omega (arith, left, here, roots_without place es, count-cons (λ (x : Place × Row). is_root x.0) e es)
      | false ↦ λ is h.
          elim (is_within place e.0) as (λ t. count_by (λ (x : Place × Row). is_root x.0) (cond (not t) (e ∷ rest) rest) + 1 ≤ count_by (λ (x : Place × Row). is_root x.0) (e ∷ es)) [
            | true ↦ omega (arith, roots_gone place es root h, count-cons (λ (x : Place × Row). is_root x.0) e es)
            | false ↦ omega (arith, roots_gone place es root h, count-cons (λ (x : Place × Row). is_root x.0) e es, count-cons (λ (x : Place × Row). is_root x.0) e rest)
          ]
    ] refl there

sum_without : (g : Place × Row → ℕ) (place : Place) (rows : Rows) → sum_by g (without place rows) ≤ sum_by g rows
sum_without g place [] = omega arith
sum_without g place (e ∷ es) =
    let rest = without place es in
    elim (is_within place e.0) as (λ t. sum_by g (cond (not t) (e ∷ rest) rest) ≤ sum_by g (e ∷ es)) [
      | true ↦ omega (arith, sum_without g place es, sum_by-cons g e es)
      | false ↦ omega (arith, sum_without g place es, sum_by-cons g e es, sum_by-cons g e rest)
    ]

pub evicted_roots : (size : ℕ) (b next : Built) (unit : Text) → Tries size b next (Evict unit) → roots next + 1 ≤ roots b
unfolding can_apply applied
evicted_roots size b next unit h =
    let p = parts_of size b next (Evict unit) h in
    subst (λ (x : Built). roots x + 1 ≤ roots b) p.1 (roots_gone (unit, []) b.rows refl (and_parts (is_some (row_at (unit, []) b.rows)) (not (is_persistent b unit)) p.0).0)

pub evicted_charge : (size : ℕ) (b next : Built) (unit : Text) → Tries size b next (Evict unit) → charge_of New next ≤ charge_of New b
unfolding can_apply applied charge_of
evicted_charge size b next unit h =
    let p = parts_of size b next (Evict unit) h in
    subst (λ (x : Built). charge_of New x ≤ charge_of New b) p.1 (omega (arith, sum_without (λ (e : Place × Row). row_charge New e.0 e.1) (unit, []) b.rows))
