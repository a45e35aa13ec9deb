-- What an image stands for is dumpable.
use Rattle.std.proofs.Common.{◌≡◌, ◌+◌, ◌-◌, ◌≤◌, ℕ, zero, suc, Bool, true, false, cond, ◌&&◌, ◌==◌, not, take, List, [], ◌∷◌, ◌++◌, length, map, Option, Some, None, Ok, Err, Result, is_some, option_map, refl, sym, ap, ◌∙◌, subst, arith, append_assoc, length-append}
use Rattle.std.specs.Prelude.{if◌then◌else◌, nat_le, slice_get, sum_by}
use Rattle.std.specs.List.{AllByRecursion, flat_map, list_all, list_any, IsDistinct}
use Rattle.std.specs.FinMap.Entries.{is_sorted}
use Rattle.std.specs.Ordering.{is_eq, is_lt}
use Rattle.std.specs.Str.{IsUtf8}
use Rattle.std.specs.declared.cmp.Ordering.TheVariants.{Less}
use Rattle.std.proofs.lemmas.Bool.{and_from, and_parts, le-leb, not-true, true≢false, false≢true}
use Rattle.std.proofs.lemmas.List.Sums.{sum_by-cons}
use Rattle.std.proofs.lemmas.Str.{IsUtf8-append, IsUtf8-from_is_utf8}
use Rattle.json.proofs.Printed.Utf8.{IsUtf8-are_ascii}
use Rattle.opfs_base.specs.Blocks.{blocks}
use Rattle.opfs_base.specs.Keys.{is_origin}
use Rattle.opfs_base.specs.Names.{fits_limits, is_valid_name}
use Rattle.opfs_base.specs.Places.{Place, place_cmp}
use Rattle.opfs_base.specs.Texts.{Text, same_text}
use Rattle.opfs_base.specs.Units.{hash_sign, default_bucket, is_bucket_name, unit_of, origin_of, bucket_of}
use Rattle.opfs_blocks.specs.Sets.{blocks_of}
use Rattle.opfs_base.specs.declared.extents.Extent.{Extent}
use Rattle.opfs_codec.proofs.FieldLemmas.{IsBytes}
use Rattle.opfs_codec.specs.Spelling.{IsKey, IsName, is_key_text}
use Rattle.opfs_codec.specs.declared.change.Format.TheVariants.{New}
use Rattle.opfs_data.specs.Places.{run_bytes, run_place, run_room}
use Rattle.opfs_image.specs.Filling.{Stands, filled, filled_row, map_of}
use Rattle.opfs_image.specs.Reading.{Image, read_as}
use Rattle.opfs_image.specs.Superblock.{data_base, geometry_by, geometry_in, geometry_of, has_magic, has_version, image_size, is_in_range}
use Rattle.opfs_image.specs.declared.geometry.Geometry.{Geometry}
use Rattle.opfs_image.specs.declared.refusal.ImageRefusal.{ImageRefusal}
use Rattle.opfs_image.specs.declared.refusal.ImageRefusal.TheVariants as refusal
use Rattle.opfs_image.proofs.Layering.{layered}
use Rattle.opfs_machine.specs.Openings.{Map, Stored}
use Rattle.opfs_books.proofs.openings.Begun.{length-bytes}
use Rattle.opfs_books.proofs.openings.Counted.{blocks-append, length-blocks, named-fit}
use Rattle.opfs_records.specs.Replay.Applying.{can_make, can_make_named, is_directory, parted}
use Rattle.opfs_records.specs.Replay.Built.{IsSoundRow, all_extents, named}
use Rattle.opfs_records.specs.Replay.Sums.{charge_of, row_charge}
use Rattle.opfs_records.proofs.replay.Parents.{parted_push}
use Rattle.opfs_records.specs.Checkpoint.Written.{IsWritablePlace, IsWritableRow}
use Rattle.opfs_records.proofs.checkpoint.Last.{AllBefore, all_before, before_child, find_front, find_here, find_none}
use Rattle.opfs_tree.specs.Rows.{Rows, IsClosed, extents_of, row_at}
use Rattle.opfs_tree.specs.declared.row.Row.{Row}
use Rattle.opfs_tree.specs.declared.row.Row.TheVariants as row
use Rattle.opfs_dump.specs.Text.Limits.{is_unit, is_behind, last_of, places_of, may_follow, can_stand, bare_row, bare_rows, blocks_needed, stored_blocks}
use Rattle.opfs_dump.specs.Text.Reading.{most_bytes, reads_dump}
use Rattle.opfs_dump.specs.Text.Texts.{dump_text}
use Rattle.opfs_commands.specs.DumpLaws.Dumpable.{IsNamed, IsToldRow, AllFollow, IsDumpable}
use Rattle.opfs_commands.proofs.dump_laws.Built.{good-image, window-bytes}
use Rattle.opfs_commands.proofs.dump_laws.Texts.{text-back}

-- ---- units

-- A text without the sign is its own origin.
no-sign : (unit : Text) → is_origin unit ≡ true → unit_of (origin_of unit) (bucket_of unit) ≡ unit → origin_of unit ≡ unit
no-sign unit is whole =
    let none : list_any (λ byte. byte == hash_sign) unit ≡ false = not-true _ is in
    let bucket : bucket_of unit ≡ default_bucket = ap (λ t. elim t [ true ↦ Rattle.std.specs.Prelude.drop (length (origin_of unit) + 1) unit | false ↦ default_bucket ]) none in
    ap (unit_of (origin_of unit)) (sym bucket) ∙ whole

unit-ok : (unit : Text) → IsKey New unit → is_unit unit ≡ true
unit-ok unit key =
    let origin = and_parts (is_key_text (origin_of unit)) (is_origin (origin_of unit)) key.0.0.1 in
    elim (is_origin unit) as (λ t. is_origin unit ≡ t → (if t then is_key_text unit else (is_key_text (origin_of unit) && is_bucket_name (bucket_of unit) && not (same_text (bucket_of unit) default_bucket))) ≡ true) [
      | true ↦ λ is. ap is_key_text (sym (no-sign unit is key.2)) ∙ origin.0
      | false ↦ λ is.
          let other : not (same_text (bucket_of unit) default_bucket) ≡ true =
          elim (same_text (bucket_of unit) default_bucket) as (λ t. same_text (bucket_of unit) default_bucket ≡ t → not t ≡ true) [
            | true ↦ λ same.
                let whole : origin_of unit ≡ unit = ap (λ t. elim t [ true ↦ origin_of unit | false ↦ origin_of unit ++ hash_sign ∷ bucket_of unit ]) (sym same) ∙ key.2 in
                absurd (true≢false (sym origin.1 ∙ ap is_origin whole ∙ is))
            | false ↦ λ same. refl
          ] refl in
          and_from _ _ (and_from (is_key_text (origin_of unit)) _ origin.0 key.1.0.1) other
    ] refl

unit-text : (unit : Text) → IsKey New unit → IsUtf8 unit
unit-text unit key =
    let origin : IsUtf8 (origin_of unit) = IsUtf8-from_is_utf8 _ key.0.0.0 in
    let bucket : IsUtf8 (bucket_of unit) = IsUtf8-from_is_utf8 _ key.1.0.0 in
    subst IsUtf8 key.2
    (elim (same_text (bucket_of unit) default_bucket) as (λ t. IsUtf8 (elim t [ true ↦ origin_of unit | false ↦ origin_of unit ++ hash_sign ∷ bucket_of unit ])) [
      | true ↦ origin
      | false ↦ IsUtf8-append (origin_of unit) _ origin (IsUtf8-append (hash_sign ∷ []) _ (IsUtf8-are_ascii (hash_sign ∷ []) refl) bucket)
    ])

units-ok : (units : List Text) → AllByRecursion (IsKey New) units → list_all is_unit units ≡ true
units-ok [] all = refl
units-ok (u ∷ more) all = and_from (is_unit u) _ (unit-ok u all.0) (units-ok more all.1)

units-text : (units : List Text) → AllByRecursion (IsKey New) units → AllByRecursion IsUtf8 units
units-text [] all = tt
units-text (u ∷ more) all = (unit-text u all.0, units-text more all.1)

-- ---- rows

names-ok : (names : List Text) → AllByRecursion IsName names → AllByRecursion IsNamed names
names-ok [] all = tt
names-ok (n ∷ more) all = ((IsUtf8-from_is_utf8 n all.0.0.0, all.0.0.1), names-ok more all.1)

place-of : (place : Place) (r : Row) → IsWritableRow place r → IsWritablePlace place
place-of place row.Dir good = good
place-of place (row.File f) good = good.0

bytes-take : (n : ℕ) (xs : List ℕ) → IsBytes xs → IsBytes (take n xs)
bytes-take zero xs fits i = omega arith
bytes-take (suc n) [] fits i = omega arith
bytes-take (suc n) (x ∷ xs) fits zero = fits 0
bytes-take (suc n) (x ∷ xs) fits (suc i) = bytes-take n xs (λ j. fits (suc j)) i

bytes-append : (xs ys : List ℕ) → IsBytes xs → IsBytes ys → IsBytes (xs ++ ys)
bytes-append [] ys first second i = second i
bytes-append (x ∷ xs) ys first second zero = first 0
bytes-append (x ∷ xs) ys first second (suc i) = bytes-append xs ys (λ j. first (suc j)) second i

module _ (base : ℕ) (c : List ℕ) (fits : IsBytes c) where
  runs-bytes : (extents : List Extent) → IsBytes (flat_map (run_bytes c base) extents)
  runs-bytes [] i = omega arith
  runs-bytes (e ∷ more) i = bytes-append (run_bytes c base e) _ (window-bytes c fits (run_place base e) (run_room e)) (runs-bytes more) i

  abbrev told_row : Place × Row → Place × Stored
  told_row e = (e.0, filled_row base c e.1)

  row-told : (e : Place × Row) → IsWritableRow e.0 e.1 → IsToldRow (told_row e)
  row-told (place, row.Dir) good = (unit-text place.0 good.0, names-ok place.1 good.1.1, tt)
  row-told (place, row.File f) good =
      (unit-text place.0 good.0.0, names-ok place.1 good.0.1.1, (bytes-take f.length _ (runs-bytes f.extents), good.1.1))

  rows-told : (rows : Rows) → AllByRecursion (λ e. IsWritableRow e.0 e.1) rows → AllByRecursion IsToldRow (map told_row rows)
  rows-told [] all = tt
  rows-told (e ∷ more) all = (row-told e all.0, rows-told more all.1)

  -- ---- sums

  row-needs : (size : ℕ) (r : Row) → IsSoundRow size r → stored_blocks (filled_row base c r) ≡ length (blocks_of (extents_of r))
  row-needs size row.Dir sound = refl
  row-needs size (row.File f) sound = ap blocks (length-bytes base c f.extents f.length sound.whole) ∙ sym sound.whole ∙ sym (length-blocks f.extents)

  -- The files take the blocks that they name.
  needed-named : (size : ℕ) (rows : Rows) → AllByRecursion (λ e. IsSoundRow size e.1) rows → blocks_needed (map told_row rows) ≡ length (named rows)
  needed-named size [] all = refl
  needed-named size (e ∷ more) all =
      let here : stored_blocks (filled_row base c e.1) ≡ length (blocks_of (extents_of e.1)) = row-needs size e.1 all.0 in
      sum_by-cons (λ (x : Place × Stored). stored_blocks x.1) (told_row e) (map told_row more)
      ∙ omega (arith, here, needed-named size more all.1, length-append (blocks_of (extents_of e.1)) (named more), ap length (blocks-append (extents_of e.1) (all_extents more)))

  charge-same : (size : ℕ) (place : Place) (r : Row) → IsSoundRow size r → row_charge New place (bare_row (filled_row base c r)) ≡ row_charge New place r
  charge-same size (unit, []) row.Dir sound = refl
  charge-same size (unit, name ∷ names) row.Dir sound = refl
  charge-same size (unit, []) (row.File f) sound = ap (λ n. row_charge New (unit, []) (row.File (record f { length = n }))) (length-bytes base c f.extents f.length sound.whole)
  charge-same size (unit, name ∷ names) (row.File f) sound = ap (λ n. row_charge New (unit, name ∷ names) (row.File (record f { length = n }))) (length-bytes base c f.extents f.length sound.whole)

  charges-same : (size : ℕ) (rows : Rows) → AllByRecursion (λ e. IsSoundRow size e.1) rows
      → sum_by (λ e. row_charge New e.0 e.1) (bare_rows (map told_row rows)) ≡ sum_by (λ e. row_charge New e.0 e.1) rows
  charges-same size [] all = refl
  charges-same size (e ∷ more) all =
      sum_by-cons (λ (x : Place × Row). row_charge New x.0 x.1) (e.0, bare_row (filled_row base c e.1)) (bare_rows (map told_row more))
      ∙ omega (arith, charge-same size e.0 e.1 all.0, charges-same size more all.1, sum_by-cons (λ (x : Place × Row). row_charge New x.0 x.1) e more)

  -- ---- what may follow

  row-in : (place : Place) (rows : Rows) → row_at place (bare_rows (map told_row rows)) ≡ option_map (λ r. bare_row (filled_row base c r)) (row_at place rows)
  row-in place [] = refl
  row-in place (e ∷ more) =
      elim (is_eq (place_cmp place e.0)) as (λ t. cond t (Some (bare_row (filled_row base c e.1))) (row_at place (bare_rows (map told_row more))) ≡ option_map (λ r. bare_row (filled_row base c r)) (cond t (Some e.1) (row_at place more))) [
        | true ↦ refl
        | false ↦ row-in place more
      ]

  dir-same : (o : Option Row) → is_directory (option_map (λ r. bare_row (filled_row base c r)) o) ≡ is_directory o
  dir-same None = refl
  dir-same (Some row.Dir) = refl
  dir-same (Some (row.File f)) = refl

  some-same : (o : Option Row) → is_some (option_map (λ r. bare_row (filled_row base c r)) o) ≡ is_some o
  some-same None = refl
  some-same (Some r) = refl

  make-same : (unit : Text) (path : List Text) (rows : Rows) (o : Option (List Text × Text)) → can_make_named unit path (bare_rows (map told_row rows)) o ≡ can_make_named unit path rows o
  make-same unit path rows None = refl
  make-same unit path rows (Some p) =
      let dir = ap is_directory (row-in (unit, p.0) rows) ∙ dir-same (row_at (unit, p.0) rows) in
      let there = ap is_some (row-in (unit, path) rows) ∙ some-same (row_at (unit, path) rows) in
      λ i. dir i && not (there i) && is_valid_name p.1 && fits_limits p.1 path

  places-same : (rows : Rows) → places_of (map told_row rows) ≡ places_of rows
  places-same [] = refl
  places-same (e ∷ more) = ap (λ ps. e.0 ∷ ps) (places-same more)

  behind-last : (place : Place) (rows : Rows) → AllBefore place rows → is_behind (last_of (places_of rows)) place ≡ true
  behind-last place [] all = refl
  behind-last place (e ∷ []) all = ap is_lt all.0
  behind-last place (e ∷ f ∷ more) all =
      let ps = places_of more in
      let down : suc (suc (length ps)) - 1 ≡ suc (length ps) = omega arith in
      let up : length ps ≡ suc (length ps) - 1 = omega arith in
      ap (λ n. is_behind (slice_get (e.0 ∷ f.0 ∷ ps) n) place) down ∙ ap (λ n. is_behind (slice_get (f.0 ∷ ps) n) place) up ∙ behind-last place (f ∷ more) all.1

  last-name : (front : List Text) (name : Text) → AllByRecursion IsName (front ++ name ∷ []) → IsName name
  last-name [] name all = all.0
  last-name (first ∷ front) name all = last-name front name all.1

  parts-of : (first : Text) (more : List Text) → (front : List Text) × (name : Text) × (first ∷ more ≡ front ++ name ∷ [])
  parts-of first [] = ([], first, refl)
  parts-of first (second ∷ more) = let rest = parts-of second more in (first ∷ rest.0, rest.1, ap (λ xs. first ∷ xs) rest.2)

  four : (a b d e : Bool) → a ≡ true → b ≡ true → d ≡ true → e ≡ true → (a && b && d && e) ≡ true
  four true true true true x y z w = refl
  four false b d e x y z w = absurd (false≢true x)
  four true false d e x y z w = absurd (false≢true y)
  four true true false e x y z w = absurd (false≢true z)
  four true true true false x y z w = absurd (false≢true w)

  module _ (done : Rows) (e : Place × Row) (rest : Rows) (order : is_sorted place_cmp (done ++ e ∷ rest) ≡ true) (closed : IsClosed (done ++ e ∷ rest)) (good : IsWritablePlace e.0) where
    before : AllBefore e.0 done
    before = all_before done e rest order

    -- Behind the rows before it a row of a directory can be made.
    can-follow : (first : Text) (more : List Text) → e.0.1 ≡ first ∷ more → can_make e.0.0 e.0.1 done ≡ true
    can-follow first more at =
        let unit = e.0.0 in
        let path = e.0.1 in
        let last = parts-of first more in
        let split : path ≡ last.0 ++ last.1 ∷ [] = at ∙ last.2 in
        let parts : parted path ≡ Some (last.0, last.1) = ap parted split ∙ parted_push last.0 last.1 in
        let here : row_at e.0 (done ++ e ∷ rest) ≡ Some e.1 = find_here e.0 e.1 done rest before in
        let less : place_cmp (unit, last.0) e.0 ≡ Less = subst (λ (p : List Text). place_cmp (unit, last.0) (unit, p) ≡ Less) (sym split) (before_child unit last.0 last.1) in
        let parent : row_at (unit, last.0) (done ++ e ∷ rest) ≡ Some row.Dir = closed e.0 (ap is_some here) (unit, last.0) last.1 (λ i. (unit, split i)) in
        let dir : row_at (unit, last.0) done ≡ Some row.Dir = sym (find_front (unit, last.0) done e rest less order) ∙ parent in
        let name : IsName last.1 = last-name last.0 last.1 (subst (AllByRecursion IsName) split good.1.1) in
        let limits : fits_limits last.1 path ≡ true = and_from (nat_le (length last.1) 255) (nat_le (length path) 32) (le-leb (length last.1) 255 (omega (arith, name.1))) (le-leb (length path) 32 good.2) in
        ap (can_make_named unit path done) parts
        ∙ four _ _ _ _ (ap is_directory dir) (ap (λ o. not (is_some o)) (find_none e.0 e.1 done before)) name.0.1 limits

  may-by : (done : Rows) (e : Place × Row) → IsWritablePlace e.0 → AllBefore e.0 done → can_stand (bare_rows (map told_row done)) e.0 (filled_row base c e.1) ≡ true → may_follow (map told_row done) (told_row e) ≡ true
  unfolding may_follow
  may-by done e good before stands =
      and_from _ _ (and_from (is_behind (last_of (places_of (map told_row done))) e.0) _ (ap (λ ps. is_behind (last_of ps) e.0) (places-same done) ∙ behind-last e.0 done before) (unit-ok e.0.0 good.0)) stands

  may-stand : (done : Rows) (e : Place × Row) (rest : Rows) → is_sorted place_cmp (done ++ e ∷ rest) ≡ true → IsClosed (done ++ e ∷ rest) → IsWritableRow e.0 e.1
      → can_stand (bare_rows (map told_row done)) e.0 (filled_row base c e.1) ≡ true
  may-stand done ((unit, []), row.Dir) rest order closed good =
      ap not (ap is_some (row-in (unit, []) done) ∙ some-same (row_at (unit, []) done)) ∙ ap (λ o. not (is_some o)) (find_none (unit, []) row.Dir done (all_before done ((unit, []), row.Dir) rest order))
  may-stand done ((unit, []), row.File f) rest order closed good = absurd (omega (arith, good.1.0))
  may-stand done ((unit, name ∷ names), r) rest order closed good =
      make-same unit (name ∷ names) done (parted (name ∷ names)) ∙ can-follow done ((unit, name ∷ names), r) rest order closed (place-of (unit, name ∷ names) r good) name names refl

  map-push : (done : Rows) (e : Place × Row) → map told_row (done ++ e ∷ []) ≡ map told_row done ++ told_row e ∷ []
  map-push [] e = refl
  map-push (d ∷ done) e = ap (λ xs. told_row d ∷ xs) (map-push done e)

  all-follow : (done rest : Rows) → is_sorted place_cmp (done ++ rest) ≡ true → IsClosed (done ++ rest) → AllByRecursion (λ e. IsWritableRow e.0 e.1) rest → AllFollow (map told_row done) (map told_row rest)
  all-follow done [] order closed all = tt
  all-follow done (e ∷ rest) order closed all =
      let good = place-of e.0 e.1 all.0 in
      let moved : done ++ e ∷ rest ≡ (done ++ e ∷ []) ++ rest = sym (append_assoc done (e ∷ []) rest) in (
        may-by done e good (all_before done e rest order) (may-stand done e rest order closed all.0),
        subst (λ (d : List (Place × Stored)). AllFollow d (map told_row rest)) (map-push done e)
            (all-follow (done ++ e ∷ []) rest (subst (λ (rows : Rows). is_sorted place_cmp rows ≡ true) moved order) (subst IsClosed moved closed) all.1),
      )

-- ---- the image

-- The sizes that a superblock gives are in range.
range-by : (head : List ℕ) (len : ℕ) (g : Geometry) → geometry_by head len ≡ Ok g → is_in_range g ≡ true
range-by head len g h = go (has_magic head) (has_version head && is_in_range (geometry_in head)) (Rattle.std.specs.Prelude.nat_lt len (image_size (geometry_in head))) refl h
  where
    go : (magic sized short : Bool) → (has_version head && is_in_range (geometry_in head)) ≡ sized
        → (if not magic then Err refusal.Magic else (if not sized then Err refusal.Geometry else (if short then Err refusal.Short else Ok (geometry_in head)))) ≡ Ok g → is_in_range g ≡ true
    go false sized short is h = absurd cc
    go true false short is h = absurd cc
    go true true true is h = absurd cc
    go true true false is h = let same : geometry_in head ≡ g = cc in ap is_in_range (sym same) ∙ (and_parts (has_version head) (is_in_range (geometry_in head)) is).1

range-of : (c : List ℕ) (g : Geometry) → geometry_of c ≡ Ok g → is_in_range g ≡ true
range-of c g h = go (Rattle.std.specs.Prelude.nat_lt (length c) 4096) h
  where
    go : (short : Bool) → (if short then Err refusal.Short else geometry_by c (length c)) ≡ Ok g → is_in_range g ≡ true
    go true h = absurd cc
    go false h = range-by c (length c) g h

module _ (c : List ℕ) (fits : IsBytes c) where
  -- What an image's records build is dumpable, with the bytes that the image has.
  dumpable : (image : Image) → read_as New New c ≡ Ok image → IsDumpable image.geometry (filled (data_base image.geometry) c image.built)
  unfolding charge_of
  dumpable image read =
      let base = data_base image.geometry in
      let size = image.geometry.blocks in
      let b = image.built in
      let layers = layered New New c image read in
      let good = good-image c fits New image layers in
      let needed = needed-named base c fits size b.rows good.sound.files in
      let charge = charges-same base c fits size b.rows good.sound.files in
      record {
        range = range-of c image.geometry layers.geometry;
        units = and_from _ _ (units-ok b.persistent good.writable.1) good.rising;
        texts = units-text b.persistent good.writable.1;
        rows = rows-told base c fits b.rows good.writable.0;
        follow = all-follow base c fits [] b.rows good.ordered good.closed good.writable.0;
        blocks = omega (arith, needed, named-fit size b.rows good.sound);
        room = omega (arith, layers.fits, charge);
      }

  by-image : (r : Result Image ImageRefusal) (g : Geometry) (m : Map) → read_as New New c ≡ r → geometry_of c ≡ Ok g → map_of c r ≡ Some m → IsDumpable g m
  by-image (Err why) g m read at h = absurd cc
  by-image (Ok image) g m read at h =
      let same : filled (data_base image.geometry) c image.built ≡ m = cc in
      let layers = layered New New c image read in
      let sizes : image.geometry ≡ g = ok-same image.geometry g (geometry_of c) layers.geometry at in
      subst (λ (x : Geometry). IsDumpable x m) sizes (subst (λ (x : Map). IsDumpable image.geometry x) same (dumpable image read))
    where
      geometry-in : Geometry → Result Geometry ImageRefusal → Geometry
      geometry-in other (Ok x) = x
      geometry-in other (Err why) = other

      ok-same : (a b : Geometry) (r : Result Geometry ImageRefusal) → r ≡ Ok a → r ≡ Ok b → a ≡ b
      ok-same a b r first second = ap (geometry-in a) (sym first ∙ second)

pub images-read-back : (c : List ℕ) (g : Geometry) (m : Map) → IsBytes c → geometry_of c ≡ Ok g → Stands c m → length (dump_text g m) ≤ most_bytes
    → reads_dump (dump_text g m) ≡ Ok (record { geometry = g; map = m })
images-read-back c g m fits at stands short = text-back g m (by-image c fits (read_as New New c) g m refl at stands) short
