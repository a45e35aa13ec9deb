-- Rows that come one behind another.
use Rattle.std.proofs.Common.{◌≡◌, ℕ, suc, ◌+◌, ◌-◌, Bool, true, false, not, ◌&&◌, ◌<◌, ◌==◌, List, [], ◌∷◌, ◌++◌, length, Option, Some, None, option_map, is_some, refl, sym, ap, ◌∙◌, length-append, take, drop, get_or, arith}
use Rattle.std.specs.Prelude.{map, slice_get}
use Rattle.std.specs.FinMap.Entries.{put, is_sorted, below_all}
use Rattle.std.specs.Ordering.{is_lt, ordering_index}
use Rattle.std.specs.declared.cmp.Ordering.TheVariants.{Less, Equal, Greater}
use Rattle.std.proofs.lemmas.Bool.{and_parts}
use Rattle.opfs_base.specs.Texts.{Text}
use Rattle.opfs_base.specs.Places.{Place, place_cmp}
use Rattle.opfs_machine.specs.Openings.{Stored, folder, document}
use Rattle.opfs_records.specs.Replay.Applying.{can_make}
use Rattle.opfs_records.proofs.replay.Parents.{has_parent}
use Rattle.std.specs.Cmp.{IsTotalOrder, on_total, then_total}
use Rattle.std.specs.Cmp.Lexicographic.{nat_list_cmp_total, lists_total}
use Rattle.std.proofs.lemmas.List.{length-map, drop_more, take_more, map-append}
use Rattle.std.proofs.lemmas.Option.{slice_get-map}
use Rattle.std.specs.declared.cmp.Ordering.{Ordering}
use Rattle.opfs_records.proofs.checkpoint.Last.{AllBefore, put_last}
use Rattle.opfs_records.proofs.checkpoint.Ordered.{lt_less}
use Rattle.opfs_tree.specs.declared.row.Row.{Row}
use Rattle.opfs_tree.specs.Rows.{Rows, row_at, HasParent}
use Rattle.opfs_dump.specs.Text.Limits.{places_of, last_of, is_behind, is_unit, can_stand, may_follow, bare_row, bare_rows}
use Rattle.opfs_dump.specs.Text.Seen.{row_of}
use Rattle.opfs_dump.specs.declared.text.dumped.DumpedRow.{DumpedRow}

-- one item more of a list
pub drop_next : {X : Type 0} (xs : List X) (i : ℕ) (r : X) → r ≡ get_or xs i r → i < length xs → drop i xs ≡ r ∷ drop (i + 1) xs
drop_next xs i r is lt = drop_more xs i r lt ∙ ap (λ x. x ∷ drop (i + 1) xs) (sym is)

pub take_next : {X : Type 0} (xs : List X) (i : ℕ) (r : X) → r ≡ get_or xs i r → i < length xs → take (i + 1) xs ≡ take i xs ++ r ∷ []
take_next xs i r is lt = take_more xs i r lt ∙ ap (λ x. take i xs ++ x ∷ []) (sym is)

pub rows_next : (xs : List DumpedRow) (i : ℕ) (r : DumpedRow) → r ≡ get_or xs i r → i < length xs → map row_of (take (i + 1) xs) ≡ map row_of (take i xs) ++ row_of r ∷ []
rows_next xs i r is lt = ap (map row_of) (take_next xs i r is lt) ∙ map-append row_of (take i xs) (r ∷ [])

pub less_is : (o : Ordering) → (ordering_index o == 0) ≡ is_lt o
less_is Less = refl
less_is Equal = refl
less_is Greater = refl

place_total : IsTotalOrder place_cmp
place_total = then_total (on_total (λ (p : Place). p.0) nat_list_cmp_total) (on_total (λ (p : Place). p.1) (lists_total nat_list_cmp_total))

-- the place of the last row
pub last_place : (rows : List DumpedRow) (r : DumpedRow) → slice_get rows (length rows - 1) ≡ Some r → last_of (places_of (map row_of rows)) ≡ Some r.place
last_place rows r is =
    let size : length (places_of (map row_of rows)) ≡ length rows = length-map (map row_of rows) (λ (e : Place × Stored). e.0) ∙ length-map rows row_of in
    let at : length (places_of (map row_of rows)) - 1 ≡ length rows - 1 = omega (arith, size) in
    ap (slice_get (places_of (map row_of rows))) at
    ∙ (slice_get-map (λ (e : Place × Stored). e.0) (map row_of rows) (length rows - 1)
    ∙ (ap (option_map (λ (e : Place × Stored). e.0)) (slice_get-map row_of rows (length rows - 1))
    ∙ ap (λ (o : Option DumpedRow). option_map (λ (e : Place × Stored). e.0) (option_map row_of o)) is))

-- the last place behind another
last_more : (a b : Place) (more : List Place) → last_of (a ∷ b ∷ more) ≡ last_of (b ∷ more)
last_more a b more =
    let first : length (a ∷ b ∷ more) - 1 ≡ suc (length more) = omega arith in
    let second : length (b ∷ more) - 1 ≡ length more = omega arith in
    ap (slice_get (a ∷ b ∷ more)) first ∙ sym (ap (slice_get (b ∷ more)) second)

-- rows in order whose last one stands before a place all do
pub before_by_last : (p : Place) (rows : Rows) → is_sorted place_cmp rows ≡ true → is_behind (last_of (places_of rows)) p ≡ true → AllBefore p rows
before_by_last p [] sorted h = tt
before_by_last p (e ∷ []) sorted h = (lt_less (place_cmp e.0 p) h, tt)
before_by_last p (e ∷ f ∷ more) sorted h =
    let parts = and_parts (below_all place_cmp e.0 (f ∷ more)) (is_sorted place_cmp (f ∷ more)) sorted in
    let rest = before_by_last p (f ∷ more) parts.1 (ap (λ o. is_behind o p) (sym (last_more e.0 f.0 (places_of more))) ∙ h) in
    let next : place_cmp e.0 f.0 ≡ Less = lt_less _ (and_parts (is_lt (place_cmp e.0 f.0)) (below_all place_cmp e.0 more) parts.0).0 in
    (place_total.trans e.0 f.0 p next rest.0, rest)

bare_places : (done : List (Place × Stored)) → places_of (bare_rows done) ≡ places_of done
bare_places [] = refl
bare_places (e ∷ es) = ap (λ (xs : List Place). e.0 ∷ xs) (bare_places es)

bare_more : (done : List (Place × Stored)) (e : Place × Stored) → bare_rows (done ++ e ∷ []) ≡ bare_rows done ++ (e.0, bare_row e.1) ∷ []
bare_more [] e = refl
bare_more (d ∷ ds) e = ap (λ (xs : Rows). (d.0, bare_row d.1) ∷ xs) (bare_more ds e)

-- one row more without its bytes
pub bare_put : (done : List (Place × Stored)) (e : Place × Stored) (rows new : Rows) → rows ≡ bare_rows done → is_sorted place_cmp rows ≡ true → is_behind (last_of (places_of done)) e.0 ≡ true
    → new ≡ put place_cmp e.0 (bare_row e.1) rows → new ≡ bare_rows (done ++ e ∷ [])
bare_put done e rows new is sorted behind made =
    let all = before_by_last e.0 rows sorted (ap (λ (x : Rows). is_behind (last_of (places_of x)) e.0) is ∙ (ap (λ (x : List Place). is_behind (last_of x) e.0) (bare_places done) ∙ behind)) in
    made ∙ (put_last e.0 (bare_row e.1) rows all ∙ (ap (λ (x : Rows). x ++ (e.0, bare_row e.1) ∷ []) is ∙ sym (bare_more done e)))

nothing_by : (o : Option Row) → not (is_some o) ≡ true → o ≡ None
nothing_by None h = refl
nothing_by (Some r) h = absurd cc

no_name : (unit : Text) (rows : Rows) → HasParent (unit, []) rows
no_name unit rows dir name at =
    let short : 0 ≡ length (dir.1 ++ name ∷ []) = ap (λ (q : Place). length q.1) at in
    absurd (omega (arith, short, length-append dir.1 (name ∷ [])))

-- where a row can stand, nothing is and its directory is there
pub standing : (rows : Rows) (place : Place) (stored : Stored) → can_stand rows place stored ≡ true → (row_at place rows ≡ None) × HasParent place rows
standing rows (unit, []) folder h = (nothing_by (row_at (unit, []) rows) h, no_name unit rows)
standing rows (unit, []) (document bytes stamp) h = absurd cc
standing rows (unit, name ∷ names) stored h = has_parent unit (name ∷ names) rows h

-- a row that is no root
pub child_stands : (rows : Rows) (unit : Text) (path : List Text) (stored : Stored) → (length path ≡ 0 → ⊥) → can_stand rows (unit, path) stored ≡ can_make unit path rows
child_stands rows unit [] stored some = absurd (some refl)
child_stands rows unit (name ∷ names) stored some = refl

-- what a row that may follow others is
pub not_behind : (done : List (Place × Stored)) (e : Place × Stored) → is_behind (last_of (places_of done)) e.0 ≡ false → may_follow done e ≡ false
unfolding may_follow
not_behind done e h = ap (λ (t : Bool). t && is_unit e.0.0 && can_stand (bare_rows done) e.0 e.1) h

second_false : (a c : Bool) → (a && false && c) ≡ false
second_false true c = refl
second_false false c = refl

pub not_unit : (done : List (Place × Stored)) (e : Place × Stored) → is_unit e.0.0 ≡ false → may_follow done e ≡ false
unfolding may_follow
not_unit done e h =
    ap (λ (t : Bool). is_behind (last_of (places_of done)) e.0 && t && can_stand (bare_rows done) e.0 e.1) h
    ∙ second_false (is_behind (last_of (places_of done)) e.0) (can_stand (bare_rows done) e.0 e.1)

pub follows_as : (done : List (Place × Stored)) (e : Place × Stored) (rows : Rows) → rows ≡ bare_rows done → is_behind (last_of (places_of done)) e.0 ≡ true → is_unit e.0.0 ≡ true → may_follow done e ≡ can_stand rows e.0 e.1
unfolding may_follow
follows_as done e rows is behind unit =
    ap (λ (t : Bool). t && is_unit e.0.0 && can_stand (bare_rows done) e.0 e.1) behind
    ∙ (ap (λ (t : Bool). t && can_stand (bare_rows done) e.0 e.1) unit ∙ ap (λ (x : Rows). can_stand x e.0 e.1) (sym is))

all_three : (a b c : Bool) → (a && b && c) ≡ true → (a ≡ true) × (c ≡ true)
all_three true true c h = (refl, h)
all_three true false c h = absurd cc
all_three false b c h = absurd cc

pub follower : (done : List (Place × Stored)) (e : Place × Stored) → may_follow done e ≡ true → (is_behind (last_of (places_of done)) e.0 ≡ true) × (can_stand (bare_rows done) e.0 e.1 ≡ true)
unfolding may_follow
follower done e h = all_three (is_behind (last_of (places_of done)) e.0) (is_unit e.0.0) (can_stand (bare_rows done) e.0 e.1) h
