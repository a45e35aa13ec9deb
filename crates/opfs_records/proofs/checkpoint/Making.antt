-- What the bytes of rows build.
use Rattle.std.proofs.Common.{◌≡◌, ◌==◌, ◌++◌, ℕ, Bool, true, false, not, List, [], ◌∷◌, length, Some, None, is_some, option_map, refl, sym, ap, subst, ◌∙◌, append_assoc, arith}
use Rattle.std.proofs.lemmas.List.{append-nil}
use Rattle.std.proofs.lemmas.Bool.{and_from, le-leb, eqb-true}
use Rattle.std.specs.Prelude.{if◌then◌else◌, nat_le}
use Rattle.std.specs.List.{AllByRecursion}
use Rattle.std.specs.FinMap.Entries.{is_sorted}
use Rattle.opfs_base.specs.Texts.{Text}
use Rattle.opfs_base.specs.Names.{fits_limits}
use Rattle.opfs_base.specs.Places.{Place, place_cmp}
use Rattle.opfs_base.specs.Blocks.{blocks}
use Rattle.std.specs.declared.cmp.Ordering.TheVariants.{Less}
use Rattle.opfs_codec.specs.Spelling.{spelling, IsKey, IsName, IsPath, IsChange}
use Rattle.opfs_codec.specs.declared.change.Format.TheVariants.{New}
use Rattle.opfs_codec.specs.declared.change.Change.{Change}
use Rattle.opfs_codec.specs.declared.change.Change.TheVariants.{MakeRoot, MakeDir, MakeFile, Content}
use Rattle.opfs_locks.specs.Taking.{open_lock}
use Rattle.opfs_tree.specs.Rows.{Rows, row_at, file_of, stored, IsClosed}
use Rattle.opfs_tree.specs.declared.row.FileRow.{FileRow}
use Rattle.opfs_tree.specs.declared.row.Row.{Row}
use Rattle.opfs_tree.specs.declared.row.Row.TheVariants as row
use Rattle.opfs_records.specs.Replay.Built.{Built, named, is_once, IsSoundFile, IsSoundRow}
use Rattle.opfs_records.specs.Replay.Applying.{parted, is_directory, can_make_named, can_make, can_hold, can_apply, applied, tried, empty_file}
use Rattle.opfs_records.specs.Checkpoint.Written.{file_bytes, row_bytes, rows_bytes, IsWritablePlace, IsWritableFile, IsWritableRow}
use Rattle.opfs_records.proofs.checkpoint.Building.{Builds, builds_nothing, builds_one, builds_both, builds_same}
use Rattle.opfs_records.proofs.checkpoint.Holding.{named_split, no_extents, four, holds}
use Rattle.opfs_records.proofs.checkpoint.Last.{AllBefore, all_before, put_last, find_none, find_here, change_last, beside_last, find_front, before_child}

abbrev pub rows_built : Rows → Built
rows_built rows = record { rows = rows; persistent = [] }

found : (size : ℕ) (b next : Built) (c : Change) → can_apply New size b c ≡ true → applied b c ≡ next → tried New size b c ≡ Some next
found size b next c can is = ap (λ t. if t then Some (applied b c) else None) can ∙ ap (λ (x : Built). Some x) is

-- ---- a path's directory and last name

parted_more : (first : Text) (front : List Text) (name : Text) → parted (first ∷ (front ++ name ∷ [])) ≡ option_map (λ p. (first ∷ p.0, p.1)) (parted (front ++ name ∷ []))
parted_more first [] name = refl
parted_more first (second ∷ front) name = refl

parted_push : (front : List Text) (name : Text) → parted (front ++ name ∷ []) ≡ Some (front, name)
parted_push [] name = refl
parted_push (first ∷ front) name = parted_more first front name ∙ ap (option_map (λ (p : List Text × Text). (first ∷ p.0, p.1))) (parted_push front name)

last_of : (first : Text) (more : List Text) → (front : List Text) × (name : Text) × (first ∷ more ≡ front ++ name ∷ [])
last_of first [] = ([], first, refl)
last_of first (second ∷ more) = let rest = last_of second more in (first ∷ rest.0, rest.1, ap (λ xs. first ∷ xs) rest.2)

last_name : (front : List Text) (name : Text) → AllByRecursion IsName (front ++ name ∷ []) → IsName name
last_name [] name all = all.0
last_name (first ∷ front) name all = last_name front name all.1

-- ---- a row that can be made

module _ (done : Rows) (unit : Text) (r : Row) (es : Rows) where
  -- Behind the rows before it a row of a directory can be made.
  can_make_last : (first : Text) (more : List Text) → is_sorted place_cmp (done ++ ((unit, first ∷ more), r) ∷ es) ≡ true → IsClosed (done ++ ((unit, first ∷ more), r) ∷ es) → IsWritablePlace (unit, first ∷ more)
      → can_make unit (first ∷ more) done ≡ true
  can_make_last first more order closed good =
      let path = first ∷ more in
      let place : Place = (unit, path) in
      let last = last_of first more in
      let parts : parted path ≡ Some (last.0, last.1) = ap parted last.2 ∙ parted_push last.0 last.1 in
      let before : AllBefore place done = all_before done (place, r) es order in
      let here : row_at place (done ++ (place, r) ∷ es) ≡ Some r = find_here place r done es before in
      let less : place_cmp (unit, last.0) place ≡ Less = subst (λ (p : List Text). place_cmp (unit, last.0) (unit, p) ≡ Less) (sym last.2) (before_child unit last.0 last.1) in
      let parent : row_at (unit, last.0) (done ++ (place, r) ∷ es) ≡ Some row.Dir = closed place (ap is_some here) (unit, last.0) last.1 (λ i. (unit, last.2 i)) in
      let dir : row_at (unit, last.0) done ≡ Some row.Dir = sym (find_front (unit, last.0) done (place, r) es less order) ∙ parent in
      let name : IsName last.1 = last_name last.0 last.1 (subst (AllByRecursion IsName) last.2 good.1.1) in
      let limits : fits_limits last.1 path ≡ true = and_from (nat_le (length last.1) 255) (nat_le (length path) 32) (le-leb (length last.1) 255 (omega (arith, name.1))) (le-leb (length path) 32 good.2) in
      ap (can_make_named unit path done) parts
      ∙ four _ _ _ _ (ap is_directory dir) (ap (λ o. not (is_some o)) (find_none place r done before)) name.0.1 limits

-- ---- each row

again_root : (unit : Text) → IsKey New unit → IsChange New (MakeRoot unit)
unfolding IsChange
again_root unit good = good

again_dir : (unit : Text) (path : List Text) → IsKey New unit → IsPath path → IsChange New (MakeDir unit path)
unfolding IsChange
again_dir unit path key names = (key, names)

again_file : (unit : Text) (path : List Text) (f : FileRow) → IsKey New unit → IsPath path → IsWritableFile path f → IsChange New (MakeFile unit path f.stamp)
unfolding IsChange
again_file unit path f key names good = (key, names, good.1)

again_content : (unit : Text) (path : List Text) (f : FileRow) → IsKey New unit → IsPath path → IsWritableFile path f → IsChange New (Content unit path f.stamp f.length f.extents)
unfolding IsChange
again_content unit path f key names good = (key, names, good.1, good.2, good.3)

module _ (size : ℕ) (done : Rows) (unit : Text) (es : Rows) where
  makes_root : is_sorted place_cmp (done ++ ((unit, []), row.Dir) ∷ es) ≡ true → tried New size (rows_built done) (MakeRoot unit) ≡ Some (rows_built (done ++ ((unit, []), row.Dir) ∷ []))
  unfolding can_apply applied
  makes_root order =
      let place : Place = (unit, []) in
      let before : AllBefore place done = all_before done (place, row.Dir) es order in
      found size (rows_built done) _ (MakeRoot unit) (ap (λ o. not (is_some o)) (find_none place row.Dir done before)) (ap rows_built (put_last place row.Dir done before))

  makes_dir : (path : List Text) → is_sorted place_cmp (done ++ ((unit, path), row.Dir) ∷ es) ≡ true → can_make unit path done ≡ true → tried New size (rows_built done) (MakeDir unit path) ≡ Some (rows_built (done ++ ((unit, path), row.Dir) ∷ []))
  unfolding can_apply applied
  makes_dir path order can =
      found size (rows_built done) _ (MakeDir unit path) can (ap rows_built (put_last (unit, path) row.Dir done (all_before done ((unit, path), row.Dir) es order)))

  makes_file : (path : List Text) (stamp : ℕ) → AllBefore (unit, path) done → can_make unit path done ≡ true → tried New size (rows_built done) (MakeFile unit path stamp) ≡ Some (rows_built (done ++ ((unit, path), empty_file stamp) ∷ []))
  unfolding can_apply applied
  makes_file path stamp before can = found size (rows_built done) _ (MakeFile unit path stamp) can (ap rows_built (put_last (unit, path) (empty_file stamp) done before))

  module _ (path : List Text) (f : FileRow) (before : AllBefore (unit, path) done) (sound : IsSoundFile size f) where
    -- A file without bytes is as it was made.
    stays_empty : f.length ≡ 0 → empty_file f.stamp ≡ row.File f
    stays_empty none =
        let no_blocks = no_extents f.extents sound.some (sound.whole ∙ ap blocks none) in
        λ i. row.File (record { length = sym none i; stamp = f.stamp; present = sym (sound.present ∙ none) i; present_stamp = sym sound.present_stamp i; extents = sym no_blocks i; lock = sym sound.unlocked i })

    gets_content : is_once (named (done ++ ((unit, path), row.File f) ∷ es)) ≡ true
        → tried New size (rows_built (done ++ ((unit, path), empty_file f.stamp) ∷ [])) (Content unit path f.stamp f.length f.extents) ≡ Some (rows_built (done ++ ((unit, path), row.File f) ∷ []))
    unfolding can_apply applied
    gets_content once =
        let place : Place = (unit, path) in
        let old = empty_file f.stamp in
        let there = ap (λ o. is_some (file_of o)) (find_here place old done [] before) in
        let room : can_hold size (named done) f.length f.extents ≡ true = holds size f (named done) (named es) sound (ap is_once (sym (named_split done (place, row.File f) es)) ∙ once) in
        let beside = ap (λ rows. can_hold size (named rows) f.length f.extents) (beside_last place old done before) ∙ room in
        let whole : row.File (record { length = f.length; stamp = f.stamp; present = f.length; present_stamp = f.stamp; extents = f.extents; lock = open_lock }) ≡ row.File f = λ i. row.File (record { length = f.length; stamp = f.stamp; present = sym sound.present i; present_stamp = sym sound.present_stamp i; extents = f.extents; lock = sym sound.unlocked i }) in
        found size (rows_built (done ++ (place, old) ∷ [])) _ (Content unit path f.stamp f.length f.extents) (and_from _ _ there beside)
        (ap rows_built (change_last place old (stored f.length f.stamp f.extents) done before) ∙ ap (λ (x : Row). rows_built (done ++ (place, x) ∷ [])) whole)

abbrev content_by : Bool → Text → List Text → FileRow → List ℕ
content_by t unit path f = if t then [] else spelling New (Content unit path f.stamp f.length f.extents)

builds_file : (size : ℕ) (done : Rows) (unit : Text) (path : List Text) (f : FileRow) (es : Rows) → is_sorted place_cmp (done ++ ((unit, path), row.File f) ∷ es) ≡ true → IsClosed (done ++ ((unit, path), row.File f) ∷ es)
    → is_once (named (done ++ ((unit, path), row.File f) ∷ es)) ≡ true → IsSoundFile size f → IsWritablePlace (unit, path) → IsWritableFile path f
    → Builds size (file_bytes unit path f) (rows_built done) (rows_built (done ++ ((unit, path), row.File f) ∷ []))
builds_file size done unit [] f es order closed once sound good file = absurd (omega (arith, file.0))
builds_file size done unit (first ∷ more) f es order closed once sound good file =
    let path = first ∷ more in
    let before : AllBefore (unit, path) done = all_before done ((unit, path), row.File f) es order in
    let can = can_make_last done unit (row.File f) es first more order closed good in
    let made = rows_built (done ++ ((unit, path), empty_file f.stamp) ∷ []) in
    let next = rows_built (done ++ ((unit, path), row.File f) ∷ []) in
    let make = builds_one size (MakeFile unit path f.stamp) (rows_built done) made (again_file unit path f good.0 good.1 file) (makes_file size done unit es path f.stamp before can) in
    let fill : Builds size (content_by (f.length == 0) unit path f) made next =
    elim (f.length == 0) as (λ t. (f.length == 0) ≡ t → Builds size (content_by t unit path f) made next) [
      | true ↦ λ is.
          builds_same size [] [] made made next refl (ap (λ (x : Row). rows_built (done ++ ((unit, path), x) ∷ [])) (stays_empty size done unit es path f before sound (eqb-true f.length 0 is))) (builds_nothing size made)
      | false ↦ λ is.
          builds_one size (Content unit path f.stamp f.length f.extents) made next (again_content unit path f good.0 good.1 file) (gets_content size done unit es path f before sound once)
    ] refl in
    builds_both size (spelling New (MakeFile unit path f.stamp)) (content_by (f.length == 0) unit path f) _ made next make fill

builds_row : (size : ℕ) (done : Rows) (e : Place × Row) (es : Rows) → is_sorted place_cmp (done ++ e ∷ es) ≡ true → IsClosed (done ++ e ∷ es) → is_once (named (done ++ e ∷ es)) ≡ true → IsSoundRow size e.1 → IsWritableRow e.0 e.1
    → Builds size (row_bytes e.0 e.1) (rows_built done) (rows_built (done ++ e ∷ []))
builds_row size done ((unit, []), row.Dir) es order closed once sound good =
    builds_one size (MakeRoot unit) (rows_built done) _ (again_root unit good.0) (makes_root size done unit es order)
builds_row size done ((unit, first ∷ more), row.Dir) es order closed once sound good =
    builds_one size (MakeDir unit (first ∷ more)) (rows_built done) _ (again_dir unit (first ∷ more) good.0 good.1)
    (makes_dir size done unit es (first ∷ more) order (can_make_last done unit row.Dir es first more order closed good))
builds_row size done ((unit, path), row.File f) es order closed once sound good = builds_file size done unit path f es order closed once sound good.0 good.1

-- Rows in order are built one after another.
pub builds_rows : (size : ℕ) (done rest : Rows) → is_sorted place_cmp (done ++ rest) ≡ true → IsClosed (done ++ rest) → is_once (named (done ++ rest)) ≡ true
    → AllByRecursion (λ e. IsSoundRow size e.1) rest → AllByRecursion (λ e. IsWritableRow e.0 e.1) rest → Builds size (rows_bytes rest) (rows_built done) (rows_built (done ++ rest))
builds_rows size done [] order closed once sound good = builds_same size [] [] (rows_built done) _ _ refl (ap rows_built (sym (append-nil done))) (builds_nothing size (rows_built done))
builds_rows size done (e ∷ es) order closed once sound good =
    let regroup : (done ++ e ∷ []) ++ es ≡ done ++ e ∷ es = append_assoc done (e ∷ []) es in
    let first = builds_row size done e es order closed once sound.0 good.0 in
    let later = builds_rows size (done ++ e ∷ []) es (subst (λ (rows : Rows). is_sorted place_cmp rows ≡ true) (sym regroup) order) (subst IsClosed (sym regroup) closed)
    (subst (λ (rows : Rows). is_once (named rows) ≡ true) (sym regroup) once) sound.1 good.1 in
    builds_same size _ _ (rows_built done) _ _ refl (ap rows_built regroup) (builds_both size (row_bytes e.0 e.1) (rows_bytes es) _ _ _ first later)
