-- Which file has which block.
use Rattle.std.proofs.Common.{◌≡◌, ℕ, ◌⊎◌, ◌++◌, ◌||◌, ◌&&◌, not, nat_eq, cond, Bool, true, false, Option, Some, None, List, [], ◌∷◌, length, option_map, refl, sym, ap, subst, ◌∙◌, inl, inr, arith}
use Rattle.std.specs.List.{AllByRecursion, sum_by, range_with_len}
use Rattle.std.specs.FinMap.Entries.{is_sorted, below_all, find-where_key}
use Rattle.std.specs.Ordering.{is_eq, is_lt}
use Rattle.std.specs.declared.cmp.Ordering.{Ordering}
use Rattle.std.specs.declared.cmp.Ordering.TheVariants.{Less, Equal, Greater}
use Rattle.std.specs.Cmp.{tied_itself}
use Rattle.std.proofs.lemmas.Bool.{cases_eq, eqb-true}
use Rattle.std.proofs.lemmas.List.{length-append}
use Rattle.std.proofs.lemmas.List.FromFn.{length-range_with_len}
use Rattle.std.proofs.lemmas.List.Sums.{sum_by-cons}
use Rattle.std.proofs.lemmas.Map.Lookups.{exact_pairs}
use Rattle.opfs_base.specs.Places.{Place, place_cmp, is_within}
use Rattle.opfs_base.specs.declared.extents.Extent.{Extent}
use Rattle.opfs_blocks.specs.Sets.{blocks_of}
use Rattle.opfs_blocks.proofs.SetLemmas.{blocks_of-append}
use Rattle.opfs_records.specs.Replay.Built.{has_block, is_once, named, all_extents, block_count}
use Rattle.opfs_space.specs.Files.{extents_in, blocks_at, file_has, IsChangedAt}
use Rattle.opfs_space.proofs.Keeping.{both}
use Rattle.opfs_space.proofs.Others.{member_left, member_right}
use Rattle.opfs_tree.proofs.Orders.{place_total, exact_texts, exact_paths}
use Rattle.opfs_tree.specs.Rows.{Rows, row_at, file_of, file_at, extents_of, change_at, changed_row, stored, without, durable_blocks}
use Rattle.opfs_tree.specs.Units.{text_cmp, path_cmp}
use Rattle.opfs_tree.specs.declared.row.FileRow.{FileRow}
use Rattle.opfs_tree.specs.declared.row.Row.{Row}
use Rattle.opfs_tree.specs.declared.row.Row.TheVariants as row

split : (xs ys : List ℕ) (b : ℕ) → has_block (xs ++ ys) b ≡ true → (has_block xs b ≡ true) ⊎ (has_block ys b ≡ true)
split [] ys b is = inr is
split (x ∷ xs) ys b is = by_test (nat_eq b x) (split xs ys b) is where
  by_test : (t : Bool) → (has_block (xs ++ ys) b ≡ true → (has_block xs b ≡ true) ⊎ (has_block ys b ≡ true)) → (t || has_block (xs ++ ys) b) ≡ true → ((t || has_block xs b) ≡ true) ⊎ (has_block ys b ≡ true)
  by_test true f h = inl refl
  by_test false f h = f h

-- what an entry's file has, and the rest
named_first : (e : Place × Row) (es : Rows) → named (e ∷ es) ≡ blocks_of (extents_of e.1) ++ named es
named_first e es = blocks_of-append (extents_of e.1) (all_extents es)

in_first : (e : Place × Row) (es : Rows) (b : ℕ) → has_block (blocks_of (extents_of e.1)) b ≡ true → has_block (named (e ∷ es)) b ≡ true
in_first e es b is = ap (λ (xs : List ℕ). has_block xs b) (named_first e es) ∙ member_left (blocks_of (extents_of e.1)) (named es) b is

in_rest : (e : Place × Row) (es : Rows) (b : ℕ) → has_block (named es) b ≡ true → has_block (named (e ∷ es)) b ≡ true
in_rest e es b is = ap (λ (xs : List ℕ). has_block xs b) (named_first e es) ∙ member_right (blocks_of (extents_of e.1)) (named es) b is

-- ---- a file's blocks are named

at_place : (place : Place) (rows : Rows) (b : ℕ) → has_block (blocks_of (extents_in (row_at place rows))) b ≡ true → has_block (named rows) b ≡ true
at_place place [] b is = absurd cc
at_place place (e ∷ es) b is =
    elim (is_eq (place_cmp place e.0)) as (λ t. has_block (blocks_of (extents_in (cond t (Some e.1) (row_at place es)))) b ≡ true → has_block (named (e ∷ es)) b ≡ true) [
      | true ↦ λ h. in_first e es b h
      | false ↦ λ h. in_rest e es b (at_place place es b h)
    ] is

pub has_named : (rows : Rows) (f : Option Place) (b : ℕ) → file_has rows f b ≡ true → has_block (named rows) b ≡ true
has_named rows None b is = absurd cc
has_named rows (Some place) b is = at_place place rows b is

-- ---- and each named block is a file's

tied : (o : Ordering) → is_eq o ≡ true → o ≡ Equal
tied Less h = absurd cc
tied Equal h = refl
tied Greater h = absurd cc

less_of : (o : Ordering) → is_lt o ≡ true → o ≡ Less
less_of Less h = refl
less_of Equal h = absurd cc
less_of Greater h = absurd cc

exact_place : (a b : Place) → place_cmp a b ≡ Equal → a ≡ b
exact_place a b is = exact_pairs text_cmp path_cmp exact_texts exact_paths a b is

same_place : (a b : Place) → is_eq (place_cmp a b) ≡ true → a ≡ b
same_place a b is = exact_place a b (tied (place_cmp a b) is)

both_first : (a b : Bool) → (a && b) ≡ true → a ≡ true
both_first true b is = refl
both_first false b is = absurd cc

both_second : (a b : Bool) → (a && b) ≡ true → b ≡ true
both_second true b is = is
both_second false b is = absurd cc

absent : (k : Place) (es : Rows) → below_all place_cmp k es ≡ true → row_at k es ≡ None
absent k [] is = refl
absent k (e ∷ es) is =
    ap (λ o. cond (is_eq o) (Some e.1) (row_at k es)) (less_of (place_cmp k e.0) (both_first (is_lt (place_cmp k e.0)) (below_all place_cmp k es) is))
    ∙ absent k es (both_second (is_lt (place_cmp k e.0)) (below_all place_cmp k es) is)

row_here : (e : Place × Row) (es : Rows) → row_at e.0 (e ∷ es) ≡ Some e.1
row_here e es = ap (λ o. cond (is_eq o) (Some e.1) (row_at e.0 es)) (tied_itself place_total e.0)

-- a row that has a block among the later ones has it among all
later_has : (e : Place × Row) (es : Rows) (f : Option Place) (b : ℕ) → is_sorted place_cmp (e ∷ es) ≡ true → file_has es f b ≡ true → file_has (e ∷ es) f b ≡ true
later_has e es None b order is = absurd cc
later_has e es (Some place) b order is =
    elim (is_eq (place_cmp place e.0)) as (λ t. is_eq (place_cmp place e.0) ≡ t → has_block (blocks_of (extents_in (cond t (Some e.1) (row_at place es)))) b ≡ true) [
      | false ↦ λ out. is
      | true ↦ λ same.
          let none : row_at place es ≡ None = ap (λ (p : Place). row_at p es) (same_place place e.0 same) ∙ absent e.0 es (both_first (below_all place_cmp e.0 es) (is_sorted place_cmp es) order) in
          absurd (both (has_block (blocks_of (extents_in (row_at place es))) b) is (ap (λ (o : Option Row). has_block (blocks_of (extents_in o)) b) none))
    ] refl

pub named_has : (rows : Rows) (b : ℕ) → is_sorted place_cmp rows ≡ true → has_block (named rows) b ≡ true → (f : Option Place) × (file_has rows f b ≡ true)
named_has [] b order is = absurd cc
named_has (e ∷ es) b order is = elim (split (blocks_of (extents_of e.1)) (named es) b (sym (ap (λ (xs : List ℕ). has_block xs b) (named_first e es)) ∙ is)) [
  | inl first ↦ (Some e.0, ap (λ (o : Option Row). has_block (blocks_of (extents_in o)) b) (row_here e es) ∙ first)
  | inr rest ↦ let found = named_has es b (both_second (below_all place_cmp e.0 es) (is_sorted place_cmp es) order) rest in (found.0, later_has e es found.0 b order found.1)
]

-- ---- no two files have a block

not_twice : (xs ys : List ℕ) (b : ℕ) → is_once (xs ++ ys) ≡ true → has_block xs b ≡ true → has_block ys b ≡ true → ⊥
not_twice [] ys b once is also = absurd cc
not_twice (x ∷ xs) ys b once is also = elim (cases_eq b x) [
  | inl same ↦ both (has_block (xs ++ ys) x) (member_right xs ys x (ap (λ (n : ℕ). has_block ys n) (sym same) ∙ also)) (from_not (has_block (xs ++ ys) x) (both_first (not (has_block (xs ++ ys) x)) (is_once (xs ++ ys)) once))
  | inr apart ↦ not_twice xs ys b (both_second (not (has_block (xs ++ ys) x)) (is_once (xs ++ ys)) once) (either (nat_eq b x) (has_block xs b) (not_same b x apart) is) also
] where
  from_not : (t : Bool) → not t ≡ true → t ≡ false
  from_not true h = absurd cc
  from_not false h = refl

  either : (s t : Bool) → s ≡ false → (s || t) ≡ true → t ≡ true
  either true t out h = absurd cc
  either false t out h = h

  not_same : (a c : ℕ) → (a ≡ c → ⊥) → nat_eq a c ≡ false
  not_same a c apart = by_test (nat_eq a c) refl where
    by_test : (t : Bool) → nat_eq a c ≡ t → nat_eq a c ≡ false
    by_test true h = absurd (apart (eqb-true a c h))
    by_test false h = h

rest_once : (xs ys : List ℕ) → is_once (xs ++ ys) ≡ true → is_once ys ≡ true
rest_once [] ys once = once
rest_once (x ∷ xs) ys once = rest_once xs ys (both_second (not (has_block (xs ++ ys) x)) (is_once (xs ++ ys)) once)

place_once : (p q : Place) (rows : Rows) (b : ℕ) → is_once (named rows) ≡ true → file_has rows (Some p) b ≡ true → file_has rows (Some q) b ≡ true → p ≡ q
place_once p q [] b once is also = absurd cc
place_once p q (e ∷ es) b once is also =
    let apart = subst (λ (xs : List ℕ). is_once xs ≡ true) (named_first e es) once in
    let first = blocks_of (extents_of e.1) in
    elim (is_eq (place_cmp p e.0)) as (λ t. is_eq (place_cmp p e.0) ≡ t → has_block (blocks_of (extents_in (cond t (Some e.1) (row_at p es)))) b ≡ true → p ≡ q) [
      | true ↦ λ p_is mine.
          elim (is_eq (place_cmp q e.0)) as (λ t. is_eq (place_cmp q e.0) ≡ t → has_block (blocks_of (extents_in (cond t (Some e.1) (row_at q es)))) b ≡ true → p ≡ q) [
            | true ↦ λ q_is yours. same_place p e.0 p_is ∙ sym (same_place q e.0 q_is)
            | false ↦ λ q_is yours. absurd (not_twice first (named es) b apart mine (at_place q es b yours))
          ] refl also
      | false ↦ λ p_is mine.
          elim (is_eq (place_cmp q e.0)) as (λ t. is_eq (place_cmp q e.0) ≡ t → has_block (blocks_of (extents_in (cond t (Some e.1) (row_at q es)))) b ≡ true → p ≡ q) [
            | true ↦ λ q_is yours. absurd (not_twice first (named es) b apart yours (at_place p es b mine))
            | false ↦ λ q_is yours. place_once p q es b (rest_once first (named es) apart) mine yours
          ] refl also
    ] refl is

pub has_once : (rows : Rows) (f g : Option Place) (b : ℕ) → is_once (named rows) ≡ true → file_has rows f b ≡ true → file_has rows g b ≡ true → f ≡ g
has_once rows None g b once is also = absurd cc
has_once rows (Some p) None b once is also = absurd cc
has_once rows (Some p) (Some q) b once is also = ap Some (place_once p q rows b once is also)

-- ---- a file with another content

module _ (place : Place) (change : FileRow → FileRow) where
  row_changed : (rows : Rows) → row_at place (change_at place change rows) ≡ option_map (changed_row change) (row_at place rows)
  row_changed [] = refl
  row_changed (e ∷ es) =
      elim (is_eq (place_cmp place e.0)) as (λ t. is_eq (place_cmp place e.0) ≡ t
      → row_at place (elim t as (λ x. Rows) [ true ↦ (e.0, changed_row change e.1) ∷ es | false ↦ e ∷ change_at place change es ]) ≡ option_map (changed_row change) (cond t (Some e.1) (row_at place es))) [
        | true ↦ λ is. ap (λ t. cond t (Some (changed_row change e.1)) (row_at place es)) is
        | false ↦ λ is. ap (λ t. cond t (Some e.1) (row_at place (change_at place change es))) is ∙ row_changed es
      ] refl

  row_other : (q : Place) (rows : Rows) → is_eq (place_cmp q place) ≡ false → row_at q (change_at place change rows) ≡ row_at q rows
  row_other q [] other = refl
  row_other q (e ∷ es) other =
      elim (is_eq (place_cmp place e.0)) as (λ t. is_eq (place_cmp place e.0) ≡ t
      → row_at q (elim t as (λ x. Rows) [ true ↦ (e.0, changed_row change e.1) ∷ es | false ↦ e ∷ change_at place change es ]) ≡ cond (is_eq (place_cmp q e.0)) (Some e.1) (row_at q es)) [
        | true ↦ λ is.
            let here : is_eq (place_cmp q e.0) ≡ false = ap (λ (p : Place). is_eq (place_cmp q p)) (sym (same_place place e.0 is)) ∙ other in
            ap (λ t. cond t (Some (changed_row change e.1)) (row_at q es)) here ∙ sym (ap (λ t. cond t (Some e.1) (row_at q es)) here)
        | false ↦ λ is. ap (cond (is_eq (place_cmp q e.0)) (Some e.1)) (row_other q es other)
      ] refl

file_blocks : (o : Option Row) (f : FileRow) (len stamp : ℕ) (extents : List Extent) → file_of o ≡ Some f → extents_in (option_map (changed_row (stored len stamp extents)) o) ≡ extents
file_blocks None f len stamp extents is = absurd cc
file_blocks (Some row.Dir) f len stamp extents is = absurd cc
file_blocks (Some (row.File g)) f len stamp extents is = refl

which_file : (q place : Place) → (q ≡ place) ⊎ (is_eq (place_cmp q place) ≡ false)
which_file q place = by_test (is_eq (place_cmp q place)) refl where
  by_test : (t : Bool) → is_eq (place_cmp q place) ≡ t → (q ≡ place) ⊎ (is_eq (place_cmp q place) ≡ false)
  by_test true is = inl (same_place q place is)
  by_test false is = inr is

pub content_changed : (rows : Rows) (place : Place) (f : FileRow) (len stamp : ℕ) (extents : List Extent) → file_at place rows ≡ Some f
    → IsChangedAt place (blocks_of extents) rows (change_at place (stored len stamp extents) rows)
content_changed rows place f len stamp extents there = record { came = came; here = here; only = only; stays = stays } where
  new : Rows
  new = change_at place (stored len stamp extents) rows

  now : blocks_at (Some place) new ≡ blocks_of extents
  now = ap (λ (o : Option Row). blocks_of (extents_in o)) (row_changed place (stored len stamp extents) rows) ∙ ap blocks_of (file_blocks (row_at place rows) f len stamp extents there)

  here : (b : ℕ) → has_block (blocks_of extents) b ≡ true → file_has new (Some place) b ≡ true
  here b is = ap (λ (xs : List ℕ). has_block xs b) now ∙ is

  only : (b : ℕ) → file_has new (Some place) b ≡ true → has_block (blocks_of extents) b ≡ true
  only b is = sym (ap (λ (xs : List ℕ). has_block xs b) now) ∙ is

  other : (q : Place) (b : ℕ) → is_eq (place_cmp q place) ≡ false → file_has new (Some q) b ≡ file_has rows (Some q) b
  other q b apart = ap (λ (o : Option Row). has_block (blocks_of (extents_in o)) b) (row_other place (stored len stamp extents) q rows apart)

  came : (g : Option Place) (b : ℕ) → file_has new g b ≡ true → ((g ≡ Some place) × (has_block (blocks_of extents) b ≡ true)) ⊎ (file_has rows g b ≡ true)
  came None b is = absurd cc
  came (Some q) b is = elim (which_file q place) [
    | inl same ↦ inl (ap Some same, sym (ap (λ (xs : List ℕ). has_block xs b) now) ∙ (ap (λ (p : Place). file_has new (Some p) b) (sym same) ∙ is))
    | inr apart ↦ inr (sym (other q b apart) ∙ is)
  ]

  stays : (g : Option Place) (b : ℕ) → file_has rows g b ≡ true → (g ≡ Some place) ⊎ (file_has new g b ≡ true)
  stays None b is = absurd cc
  stays (Some q) b is = elim (which_file q place) [
    | inl same ↦ inl (ap Some same)
    | inr apart ↦ inr (other q b apart ∙ is)
  ]

-- ---- something removed

row_without : (place q : Place) (rows : Rows) → row_at q (without place rows) ≡ cond (not (is_within place q)) (row_at q rows) None
row_without place q rows = find-where_key place_cmp (λ x. not (is_within place x)) q (λ x is. ap (λ y. not (is_within place y)) (sym (exact_place q x is))) rows

pub less_has : (rows : Rows) (place : Place) (f : Option Place) (b : ℕ) → file_has (without place rows) f b ≡ true → file_has rows f b ≡ true
less_has rows place None b is = absurd cc
less_has rows place (Some q) b is = by_test (not (is_within place q)) (sym (ap (λ (o : Option Row). has_block (blocks_of (extents_in o)) b) (row_without place q rows)) ∙ is) where
  by_test : (t : Bool) → has_block (blocks_of (extents_in (cond t (row_at q rows) None))) b ≡ true → file_has rows (Some q) b ≡ true
  by_test true h = h
  by_test false h = absurd cc

pub stays_has : (rows : Rows) (place q : Place) (b : ℕ) → is_within place q ≡ false → file_has rows (Some q) b ≡ true → file_has (without place rows) (Some q) b ≡ true
stays_has rows place q b out is =
    ap (λ (o : Option Row). has_block (blocks_of (extents_in o)) b) (row_without place q rows ∙ ap (λ t. cond (not t) (row_at q rows) None) out) ∙ is

-- ---- how many they are

run_count : (extents : List Extent) → length (blocks_of extents) ≡ block_count extents
run_count [] = refl
run_count (e ∷ more) = omega (arith, length-append (range_with_len e.start e.count) (blocks_of more), length-range_with_len e.start e.count, run_count more, sum_by-cons (λ (x : Extent). x.count) e more)

pub all_counted : (rows : Rows) → AllByRecursion (λ e. block_count (extents_of e.1) ≡ durable_blocks e.1) rows → length (named rows) ≡ sum_by (λ e. durable_blocks e.1) rows
all_counted [] all = refl
all_counted (e ∷ es) all =
    omega (arith, ap (λ (xs : List ℕ). length xs) (named_first e es), length-append (blocks_of (extents_of e.1)) (named es), run_count (extents_of e.1), all.0, all_counted es all.1, sum_by-cons (λ (x : Place × Row). durable_blocks x.1) e es)
