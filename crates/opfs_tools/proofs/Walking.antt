-- Walks over rows and over persistent units.
use Rattle.std.proofs.Common.{◌≡◌, ◌&&◌, Bool, true, false, cond, List, [], ◌∷◌, ◌++◌, Option, Some, None, option_map, filter, find, refl, sym, ap, ◌∙◌, append_assoc}
use Rattle.std.specs.Prelude.{map, IfSome, IsSomeAnd}
use Rattle.std.specs.List.{AllByRecursion}
use Rattle.std.specs.List.Sorted.{IsStrictlySortedBy}
use Rattle.std.specs.Ordering.{is_lt, ordering_reverse}
use Rattle.std.specs.declared.cmp.Ordering.{Ordering}
use Rattle.std.specs.declared.cmp.Ordering.TheVariants.{Less, Equal, Greater}
use Rattle.std.specs.Cmp.{tied_itself}
use Rattle.std.specs.Cmp.Lexicographic.{nat_list_cmp_total}
use Rattle.std.proofs.lemmas.List.{append-nil}
use Rattle.std.proofs.lemmas.Map.Keys.{sorted_head, sorted_tail}
use Rattle.opfs_base.specs.Texts.{Text}
use Rattle.opfs_base.specs.Places.{Place}
use Rattle.opfs_shed.specs.declared.shed.Bucket.{Bucket}
use Rattle.opfs_shed.specs.Buckets.{Buckets, text_cmp, is_past, persistent_past}
use Rattle.opfs_tree.specs.Rows.{Rows, rows_above}
use Rattle.opfs_tree.specs.declared.row.Row.{Row}
use Rattle.opfs_tools.specs.Sights.{Sights, sights_in, sight_in}

-- one row more was seen
pub seen_more : (new : Option Place) (rows above : Rows) (r : Row) (key : Text) (path : List Text) (done whole : Sights)
    → IsSomeAnd new (λ place. above ≡ (place, r) ∷ rows_above (Some place) rows) → IfSome new (λ p. key ≡ p.0) → IfSome new (λ p. path ≡ p.1)
    → done ++ sights_in above ≡ whole → (done ++ ((key, path), sight_in r) ∷ []) ++ sights_in (rows_above new rows) ≡ whole
seen_more None rows above r key path done whole is k q so_far = absurd is
seen_more (Some p) rows above r key path done whole is k q so_far =
    append_assoc done (((key, path), sight_in r) ∷ []) (sights_in (rows_above (Some p) rows))
    ∙ (ap (λ x. done ++ ((x, path), sight_in r) ∷ sights_in (rows_above (Some p) rows)) k
    ∙ (ap (λ x. done ++ ((p.0, x), sight_in r) ∷ sights_in (rows_above (Some p) rows)) q
    ∙ (ap (λ xs. done ++ sights_in xs) (sym is) ∙ so_far)))

-- the persistent units past another, or all
abbrev pub is_wanted : Option Text → Text × Bucket → Bool
is_wanted last e = is_past last e.0 && e.1.persistent

abbrev pub persistent_behind : Option Text → Buckets → List Text
persistent_behind last buckets = map (λ e. e.0) (filter (is_wanted last) buckets)

lt_of : (o : Ordering) → is_lt o ≡ true → o ≡ Less
lt_of Less h = refl
lt_of Equal h = cc
lt_of Greater h = cc

past_more : (last : Option Text) (a b : Text) → is_past last a ≡ true → text_cmp a b ≡ Less → is_past last b ≡ true
past_more None a b h lt = refl
past_more (Some k) a b h lt = ap is_lt (nat_list_cmp_total.trans k a b (lt_of (text_cmp k a) h) lt)

and_first : (a b : Bool) → (a && b) ≡ true → a ≡ true
and_first true b h = refl
and_first false b h = h

both_past : (last : Option Text) (a : Text) (es : Buckets) → is_past last a ≡ true → AllByRecursion (λ y. text_cmp a y ≡ Less) (map (λ e. e.0) es)
    → filter (is_wanted last) es ≡ filter (is_wanted (Some a)) es
both_past last a [] h all = refl
both_past last a (e ∷ es) h all =
    let first : is_past last e.0 ≡ true = past_more last a e.0 h all.0 in
    let second : is_past (Some a) e.0 ≡ true = ap is_lt all.0 in
    let more = both_past last a es h all.1 in
    ap (λ t. cond (t && e.1.persistent) (e ∷ filter (is_wanted last) es) (filter (is_wanted last) es)) (first ∙ sym second)
    ∙ ap (λ xs. cond (is_wanted (Some a) e) (e ∷ xs) xs) more

found_past : (last : Option Text) (a : Text) (es : Buckets) (e : Text × Bucket) → AllByRecursion (λ y. text_cmp a y ≡ Less) (map (λ x. x.0) es)
    → find (is_wanted last) es ≡ Some e → text_cmp a e.0 ≡ Less
found_past last a [] e all h = cc
found_past last a (x ∷ es) e all h =
    elim (is_wanted last x) as (λ t. cond t (Some x) (find (is_wanted last) es) ≡ Some e → text_cmp a e.0 ≡ Less) [
      | true ↦ λ g. let same : x ≡ e = cc in ap (λ (y : Text × Bucket). text_cmp a y.0) (sym same) ∙ all.0
      | false ↦ λ g. found_past last a es e all.1 g
    ] h

not_itself : (a : Text) → is_past (Some a) a ≡ false
not_itself a = ap is_lt (tied_itself nat_list_cmp_total a)

not_before : (a b : Text) → text_cmp a b ≡ Less → is_past (Some b) a ≡ false
not_before a b h = ap is_lt (nat_list_cmp_total.antisymm b a ∙ ap ordering_reverse h)

pub next_wanted : (last : Option Text) (es : Buckets) (e : Text × Bucket) → IsStrictlySortedBy text_cmp (map (λ x. x.0) es) → find (is_wanted last) es ≡ Some e
    → filter (is_wanted last) es ≡ e ∷ filter (is_wanted (Some e.0)) es
next_wanted last [] e sorted h = cc
next_wanted last (x ∷ es) e sorted h =
    let head = sorted_head text_cmp x.0 (map (λ (y : Text × Bucket). y.0) es) sorted in
    let tail = sorted_tail text_cmp x.0 (map (λ (y : Text × Bucket). y.0) es) sorted in
    elim (is_wanted last x) as (λ t. is_wanted last x ≡ t → cond t (Some x) (find (is_wanted last) es) ≡ Some e
    → cond t (x ∷ filter (is_wanted last) es) (filter (is_wanted last) es) ≡ e ∷ filter (is_wanted (Some e.0)) (x ∷ es)) [
      | true ↦ λ is g.
          let same : x ≡ e = cc in
          let past = both_past last x.0 es (and_first (is_past last x.0) x.1.persistent is) head in
          let out : filter (is_wanted (Some x.0)) (x ∷ es) ≡ filter (is_wanted (Some x.0)) es
          = ap (λ t. cond (t && x.1.persistent) (x ∷ filter (is_wanted (Some x.0)) es) (filter (is_wanted (Some x.0)) es)) (not_itself x.0) in
          ap (λ xs. x ∷ xs) (past ∙ sym out) ∙ ap (λ (y : Text × Bucket). y ∷ filter (is_wanted (Some y.0)) (x ∷ es)) same
      | false ↦ λ is g.
          let out : filter (is_wanted (Some e.0)) (x ∷ es) ≡ filter (is_wanted (Some e.0)) es
          = ap (λ t. cond (t && x.1.persistent) (x ∷ filter (is_wanted (Some e.0)) es) (filter (is_wanted (Some e.0)) es)) (not_before x.0 e.0 (found_past last x.0 es e head g)) in
          next_wanted last es e tail g ∙ ap (λ xs. e ∷ xs) (sym out)
    ] refl h

none_wanted : (last : Option Text) (es : Buckets) → find (is_wanted last) es ≡ None → filter (is_wanted last) es ≡ []
none_wanted last [] h = refl
none_wanted last (x ∷ es) h =
    elim (is_wanted last x) as (λ t. cond t (Some x) (find (is_wanted last) es) ≡ None → cond t (x ∷ filter (is_wanted last) es) (filter (is_wanted last) es) ≡ []) [
      | true ↦ λ g. cc
      | false ↦ λ g. none_wanted last es g
    ] h

more_by : (last : Option Text) (es : Buckets) (key : Text) (o : Option (Text × Bucket)) → IsStrictlySortedBy text_cmp (map (λ x. x.0) es) → find (is_wanted last) es ≡ o
    → Some key ≡ option_map (λ e. e.0) o → persistent_behind last es ≡ key ∷ persistent_behind (Some key) es
more_by last es key None sorted f h = cc
more_by last es key (Some e) sorted f h =
    let same : e.0 ≡ key = cc in
    ap (map (λ (y : Text × Bucket). y.0)) (next_wanted last es e sorted f) ∙ ap (λ k. k ∷ persistent_behind (Some k) es) same

none_by : (last : Option Text) (es : Buckets) (o : Option (Text × Bucket)) → find (is_wanted last) es ≡ o → None ≡ option_map (λ e. e.0) o → persistent_behind last es ≡ []
none_by last es None f h = ap (map (λ (y : Text × Bucket). y.0)) (none_wanted last es f)
none_by last es (Some e) f h = cc

-- one persistent unit more, or none
pub persistent_more : (last : Option Text) (es : Buckets) (key : Text) → IsStrictlySortedBy text_cmp (map (λ x. x.0) es) → Some key ≡ persistent_past last es
    → persistent_behind last es ≡ key ∷ persistent_behind (Some key) es
persistent_more last es key sorted h = more_by last es key (find (is_wanted last) es) sorted refl h

pub persistent_done : (last : Option Text) (es : Buckets) → None ≡ persistent_past last es → persistent_behind last es ≡ []
persistent_done last es h = none_by last es (find (is_wanted last) es) refl h

-- one thing more was gathered, and all
pub gathered_more : {X : Type 0} (done left rest whole now : List X) (x y : X) → x ≡ y → now ≡ done ++ x ∷ [] → left ≡ y ∷ rest → done ++ left ≡ whole → now ++ rest ≡ whole
gathered_more done left rest whole now x y same is next so_far =
    ap (λ xs. xs ++ rest) is ∙ (append_assoc done (x ∷ []) rest ∙ (ap (λ z. done ++ z ∷ rest) same ∙ (ap (λ xs. done ++ xs) (sym next) ∙ so_far)))

pub gathered_all : {X : Type 0} (done left whole : List X) → left ≡ [] → done ++ left ≡ whole → done ≡ whole
gathered_all done left whole none so_far = sym (append-nil done) ∙ (ap (λ xs. done ++ xs) (sym none) ∙ so_far)
