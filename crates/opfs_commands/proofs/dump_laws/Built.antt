-- What an image's records build is sound, in order and closed, and each of its rows and units has a spelling that is read.
use Rattle.std.proofs.Common.{T, ◌≡◌, ◌+◌, ℕ, zero, suc, Bool, true, false, ◌&&◌, not, List, [], ◌∷◌, length, Option, Some, None, Ok, Err, Result, is_some, refl, sym, ap, ◌∙◌, subst, arith, length-append}
use Rattle.std.specs.Prelude.{if◌then◌else◌, nat_le}
use Rattle.std.specs.List.{AllByRecursion}
use Rattle.std.specs.Cmp.{IsTotalOrder}
use Rattle.std.specs.Cmp.Lexicographic.{nat_list_cmp_total}
use Rattle.std.specs.FinMap.Entries.{is_sorted, is_sorted-put, put, by_order}
use Rattle.std.specs.Ordering.{is_lt, ordering_reverse}
use Rattle.std.specs.declared.cmp.Ordering.{Ordering}
use Rattle.std.specs.declared.cmp.Ordering.TheVariants.{Less, Equal, Greater}
use Rattle.std.proofs.lemmas.Bool.{and_parts, and_from, false≢true, true≢false}
use Rattle.opfs_base.specs.Places.{Place, place_cmp}
use Rattle.opfs_base.specs.Texts.{Text}
use Rattle.opfs_codec.proofs.ChangeLemmas.{change_takes}
use Rattle.opfs_codec.proofs.FieldLemmas.{IsBytes, IsBytes-drop}
use Rattle.opfs_codec.specs.Reading.{◌>>=◌, change_at}
use Rattle.opfs_codec.specs.Spelling.{IsChange}
use Rattle.opfs_codec.specs.declared.change.Change.{Change}
use Rattle.opfs_codec.specs.declared.change.Change.TheVariants.{MakeRoot, MakeDir, MakeFile, Remove, Content, Persist, Evict}
use Rattle.opfs_codec.specs.declared.change.Format.TheVariants.{New}
use Rattle.opfs_image.specs.Layers.{IsLayered}
use Rattle.opfs_image.specs.Reading.{Image}
use Rattle.opfs_image.specs.Superblock.{areas_of}
use Rattle.opfs_journal.specs.Format.{Chain, Stored, begin_of, chain, chosen_in, is_open, number_at, opened, read_chosen, stored_if_ok, stored_in, with_body}
use Rattle.opfs_journal.specs.declared.areas.Areas.{Areas}
use Rattle.opfs_journal.specs.declared.refusal.OpenRefusal.{OpenRefusal}
use Rattle.opfs_machine.specs.Ordered.{insert_by}
use Rattle.opfs_outside.specs.Bytes.{window}
use Rattle.opfs_records.specs.Replay.Applying.{applied, built_by, built_by_all, built_within, can_apply, tried, empty_file}
use Rattle.opfs_records.specs.Replay.Built.{Built, IsSound, nothing_built}
use Rattle.opfs_records.proofs.replay.Parents.{has_parent}
use Rattle.opfs_records.proofs.checkpoint.Remaining.{kept_order, kept_closed}
use Rattle.opfs_records.specs.Checkpoint.Written.{AreWritable}
use Rattle.opfs_tree.proofs.Closed.{closed_put}
use Rattle.opfs_tree.proofs.Orders.{place_total}
use Rattle.opfs_tree.specs.Rows.{Rows, HasParent, IsClosed, row_at}
use Rattle.opfs_tree.specs.Units.{text_cmp}
use Rattle.opfs_tree.specs.declared.row.Row.{Row}
use Rattle.opfs_tree.specs.declared.row.Row.TheVariants as row
use Rattle.opfs_books.proofs.laws.Sound.{next_good}
use Rattle.opfs_dump.specs.Text.Limits.{is_rising}

pub record IsGood (size : ℕ) (b : Built) : Type 0 where
  pub sound : IsSound size b.rows
  pub writable : AreWritable b.rows b.persistent
  pub ordered : is_sorted place_cmp b.rows ≡ true
  pub closed : IsClosed b.rows
  pub rising : is_rising b.persistent ≡ true

-- ---- a unit that is put among others

text_total : IsTotalOrder text_cmp
text_total = nat_list_cmp_total

less-back : (a b : Text) → text_cmp a b ≡ Greater → text_cmp b a ≡ Less
less-back a b is = text_total.antisymm b a ∙ ap ordering_reverse is

inserted : Ordering → Text → Text → List Text → List Text
inserted o x y ys = by_order o (x ∷ y ∷ ys) (y ∷ ys) (y ∷ insert_by text_cmp x ys)

rising-behind : (a x : Text) (ys : List Text) → text_cmp a x ≡ Less → is_rising (a ∷ ys) ≡ true → is_rising (a ∷ insert_by text_cmp x ys) ≡ true
rising-behind a x [] less h = ap (λ o. is_lt o && true) less
rising-behind a x (y ∷ ys) less h =
    let parts = and_parts (is_lt (text_cmp a y)) (is_rising (y ∷ ys)) h in
    elim (text_cmp x y) as (λ o. text_cmp x y ≡ o → is_rising (a ∷ by_order o (x ∷ y ∷ ys) (y ∷ ys) (y ∷ insert_by text_cmp x ys)) ≡ true) [
      | Less ↦ λ is. and_from (is_lt (text_cmp a x)) _ (ap is_lt less) (and_from (is_lt (text_cmp x y)) _ (ap is_lt is) parts.1)
      | Equal ↦ λ is. h
      | Greater ↦ λ is. and_from (is_lt (text_cmp a y)) _ parts.0 (rising-behind y x ys (less-back x y is) parts.1)
    ] refl

rising-insert : (x : Text) (ys : List Text) → is_rising ys ≡ true → is_rising (insert_by text_cmp x ys) ≡ true
rising-insert x [] h = refl
rising-insert x (y ∷ ys) h =
    elim (text_cmp x y) as (λ o. text_cmp x y ≡ o → is_rising (by_order o (x ∷ y ∷ ys) (y ∷ ys) (y ∷ insert_by text_cmp x ys)) ≡ true) [
      | Less ↦ λ is. and_from (is_lt (text_cmp x y)) _ (ap is_lt is) h
      | Equal ↦ λ is. h
      | Greater ↦ λ is. rising-behind y x ys (less-back x y is) h
    ] refl

-- ---- one change

told : (b : Bool) → b ≡ true → T b
told true h = tt
told false h = absurd (true≢false (sym h))

tell : (b : Bool) → T b → b ≡ true
tell true h = refl
tell false h = absurd h

told_by : (t : Bool) (x y : Built) → (if t then Some x else None) ≡ Some y → (t ≡ true) × (x ≡ y)
told_by true x y h = (refl, cc)
told_by false x y h = absurd cc

nothing_there : (o : Option Row) → not (is_some o) ≡ true → o ≡ None
nothing_there None h = refl
nothing_there (Some r) h = absurd (false≢true h)

order-put : (place : Place) (r : Row) (rows : Rows) → is_sorted place_cmp rows ≡ true → is_sorted place_cmp (put place_cmp place r rows) ≡ true
order-put place r rows h = tell _ (is_sorted-put place_cmp place_total place r rows (told _ h))

-- A root has no directory.
root-parent : (unit : Text) (rows : Rows) → HasParent (unit, []) rows
root-parent unit rows dir name is =
    let none : 0 ≡ length dir.1 + 1 = ap (λ (p : Place). length p.1) is ∙ length-append dir.1 (name ∷ []) in
    absurd (omega (arith, none))

-- In order, closed, and the units rising.
abbrev IsShaped : Built → Type 0
IsShaped b = (is_sorted place_cmp b.rows ≡ true) × IsClosed b.rows × (is_rising b.persistent ≡ true)

module _ (size : ℕ) (b next : Built) (good : IsGood size b) where
  made-shaped : (place : Place) (r : Row) → row_at place b.rows ≡ None → HasParent place b.rows → IsShaped (record b { rows = put place_cmp place r b.rows })
  made-shaped place r none parent = (order-put place r b.rows good.ordered, closed_put place r b.rows none parent good.closed, good.rising)

  shaped : (change : Change) → tried New size b change ≡ Some next → IsShaped next
  unfolding can_apply applied
  shaped (MakeRoot unit) h =
      let p = told_by (can_apply New size b (MakeRoot unit)) (applied b (MakeRoot unit)) next h in
      subst IsShaped p.1 (made-shaped (unit, []) row.Dir (nothing_there _ p.0) (root-parent unit b.rows))
  shaped (MakeDir unit path) h =
      let p = told_by (can_apply New size b (MakeDir unit path)) (applied b (MakeDir unit path)) next h in
      let has = has_parent unit path b.rows p.0 in
      subst IsShaped p.1 (made-shaped (unit, path) row.Dir has.0 has.1)
  shaped (MakeFile unit path stamp) h =
      let p = told_by (can_apply New size b (MakeFile unit path stamp)) (applied b (MakeFile unit path stamp)) next h in
      let has = has_parent unit path b.rows p.0 in
      subst IsShaped p.1 (made-shaped (unit, path) (empty_file stamp) has.0 has.1)
  shaped (Remove unit path) h =
      let p = told_by (can_apply New size b (Remove unit path)) (applied b (Remove unit path)) next h in
      subst IsShaped p.1 (kept_order (Remove unit path) b.rows good.ordered, kept_closed (Remove unit path) b.rows good.closed, good.rising)
  shaped (Content unit path stamp len extents) h =
      let p = told_by (can_apply New size b (Content unit path stamp len extents)) (applied b (Content unit path stamp len extents)) next h in
      subst IsShaped p.1 (kept_order (Content unit path stamp len extents) b.rows good.ordered, kept_closed (Content unit path stamp len extents) b.rows good.closed, good.rising)
  shaped (Persist unit) h =
      let p = told_by (can_apply New size b (Persist unit)) (applied b (Persist unit)) next h in
      subst IsShaped p.1 (good.ordered, good.closed, rising-insert unit b.persistent good.rising)
  shaped (Evict unit) h =
      let p = told_by (can_apply New size b (Evict unit)) (applied b (Evict unit)) next h in
      subst IsShaped p.1 (kept_order (Evict unit) b.rows good.ordered, kept_closed (Evict unit) b.rows good.closed, good.rising)

  good-next : (change : Change) → IsChange New change → tried New size b change ≡ Some next → IsGood size next
  good-next change again h =
      let both = next_good size b next change good.sound good.writable good.ordered again h in
      let shape = shaped change h in
      record { sound = both.0; writable = both.1; ordered = shape.0; closed = shape.1; rising = shape.2 }

-- ---- many changes, and many records

module _ (size : ℕ) where
  some-then : {A B : Type 0} (f : A → Option B) (o : Option A) (b : B) → (o >>= f) ≡ Some b → (a : A) × (o ≡ Some a) × (f a ≡ Some b)
  some-then f None b h = absurd cc
  some-then f (Some a) b h = (a, refl, h)

  good-within : (most : ℕ) (bytes : List ℕ) (b out : Built) → IsBytes bytes → IsGood size b → built_within most New size bytes b ≡ Some out → IsGood size out
  unfolding built_within
  good-within most [] b out fits good h = let same : b ≡ out = cc in subst (IsGood size) same good
  good-within zero (byte ∷ bytes) b out fits good h = absurd cc
  good-within (suc most) (byte ∷ bytes) b out fits good h =
      let read = some-then (λ (change : Change × List ℕ). tried New size b change.0 >>= λ next. built_within most New size change.1 next) (change_at New (byte ∷ bytes)) out h in
      let next = some-then (λ (next : Built). built_within most New size read.0.1 next) (tried New size b read.0.0) out read.2 in
      let takes = change_takes New (byte ∷ bytes) read.0 fits read.1 in
      good-within most read.0.1 next.0 out takes.0.rest_fits (good-next size b next.0 good read.0.0 takes.1 next.1) next.2

  good-all : (bodies : List (List ℕ)) (b out : Built) → AllByRecursion IsBytes bodies → IsGood size b → built_by_all New size bodies b ≡ Some out → IsGood size out
  unfolding built_by_all
  good-all [] b out fits good h = let same : b ≡ out = cc in subst (IsGood size) same good
  good-all (body ∷ more) b out fits good h =
      let next = some-then (λ (next : Built). built_by_all New size more next) (built_by New size body b) out h in
      good-all more next.0 out fits.1 (good-within (length body) body b next.0 fits.0 good next.1) next.2

  good-nothing : IsGood size nothing_built
  good-nothing = record {
    sound = record { files = tt; once = refl };
    writable = (tt, tt);
    ordered = refl;
    closed = λ place some. absurd cc;
    rising = refl;
  }

-- ---- the bytes of records

module _ (c : List ℕ) (fits : IsBytes c) where
  pub window-bytes : (at n : ℕ) → IsBytes (window c at n)
  window-bytes at zero i = omega arith
  window-bytes at (suc n) zero = fits at
  window-bytes at (suc n) (suc i) = window-bytes (at + 1) n i

  abbrev HaveBytes : Result Chain ℕ → Type 0
  HaveBytes (Ok found) = AllByRecursion IsBytes found.bodies
  HaveBytes (Err place) = Unit {0}

  with-bytes : (body : List ℕ) (r : Result Chain ℕ) → IsBytes body → HaveBytes r → HaveBytes (with_body body r)
  with-bytes body (Ok found) one all = (one, all)
  with-bytes body (Err place) one all = tt

  chain-bytes : (most gate stop : ℕ) → HaveBytes (chain most c gate stop)
  chain-bytes zero gate stop = tt
  chain-bytes (suc most) gate stop =
      let body = window c (gate + 5) (number_at c (gate + 1)) in
      let rest = chain most c (gate + 5 + number_at c (gate + 1)) stop in
      elim (is_open c gate) as (λ t. HaveBytes (if t then (if nat_le (gate + 6 + number_at c (gate + 1)) stop then with_body body rest else Err gate) else Ok (record { bodies = []; tail = gate }))) [
        | true ↦ elim (nat_le (gate + 6 + number_at c (gate + 1)) stop) as (λ t. HaveBytes (if t then with_body body rest else Err gate)) [
          | true ↦ with-bytes body rest (window-bytes (gate + 5) (number_at c (gate + 1))) (chain-bytes most (gate + 5 + number_at c (gate + 1)) stop)
          | false ↦ tt
        ]
        | false ↦ tt
      ]

  stored-bytes : (bodies : List (List ℕ)) → AllByRecursion IsBytes bodies → AllByRecursion IsBytes (stored_in bodies).records
  stored-bytes [] all = tt
  stored-bytes (first ∷ more) all = (IsBytes-drop 1 first all.0, all.1)

  opened-bytes : (second : Bool) (r : Result Chain ℕ) → HaveBytes r → (stored : Stored) → stored_if_ok (opened second r) ≡ Some stored → AllByRecursion IsBytes stored.records
  opened-bytes second (Ok found) all stored h =
      let same : stored_in found.bodies ≡ stored = cc in
      subst (λ (s : Stored). AllByRecursion IsBytes s.records) same (stored-bytes found.bodies all)
  opened-bytes second (Err place) all stored h = absurd cc

  chosen-bytes : (a : Areas) (r : Result Bool OpenRefusal) (stored : Stored) → stored_if_ok (read_chosen a c r) ≡ Some stored → AllByRecursion IsBytes stored.records
  chosen-bytes a (Ok second) stored h = opened-bytes second (chain a.bytes c (begin_of a second) (begin_of a second + a.bytes)) (chain-bytes a.bytes (begin_of a second) (begin_of a second + a.bytes)) stored h
  chosen-bytes a (Err refusal) stored h = absurd cc

  -- What an image's records build is good.
  pub good-image : (counted : Rattle.opfs_codec.specs.declared.change.Format.Format) (image : Image) → IsLayered New counted c image → IsGood image.geometry.blocks image.built
  good-image counted image is =
      good-all image.geometry.blocks is.stored.records nothing_built image.built (chosen-bytes (areas_of image.geometry) (chosen_in (areas_of image.geometry) c) is.stored is.records)
      (good-nothing image.geometry.blocks) is.built
