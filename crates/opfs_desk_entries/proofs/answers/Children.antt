-- The children of a directory, by the rows of the tree and by the machine's.
use Rattle.std.proofs.Common.{◌≡◌, Bool, true, false, not, cond, List, [], ◌∷◌, ◌++◌, Option, Some, None, option_map, refl, sym, ap, ◌∙◌, inl, inr}
use Rattle.std.proofs.lemmas.Bool.{cases_Bool, true≢false}
use Rattle.std.specs.Ordering.{eq_by_cmp, is_lt, nat_cmp}
use Rattle.std.specs.FinMap.Entries.{find as find_row}
use Rattle.std.specs.Cmp.Lexicographic.{slice_cmp}
use Rattle.std.specs.List.{AllByRecursion, cons_option, filter_map, list_any}
use Rattle.opfs_base.specs.Places.{Place, child, child_name, only_name, place_cmp, rest_below}
use Rattle.opfs_base.specs.Texts.{Text, same_text}
use Rattle.opfs_base.specs.declared.locator.Kind.{Kind}
use Rattle.opfs_laws.proofs.Spots.{place_apart, place_itself}
use Rattle.opfs_machine.specs.Contents.{next_of}
use Rattle.opfs_state_rows.specs.Standing.Seen.{lines_of}
use Rattle.opfs_state_rows.proofs.standing.Units.{same_unit, unit_itself}
use Rattle.opfs_tree.specs.Rows.{Rows as Tree, children_of, kind_of, least_above, least_not_in}
use Rattle.opfs_tree.specs.declared.row.Row.{Row}
use Rattle.opfs_desk_steps.specs.Iterating.Reached.{AreGivenUpTo}
use Rattle.opfs_desk_steps.proofs.iterating.Names.{child-is, child-named}
use Rattle.opfs_desk_entries.specs.Answers.Next.{names_in}

-- ---- the least child that was not given

abbrev is_new : List Text → Text → Bool
is_new past name = not (list_any (same_text name) past)

-- Its name is the machine's.
abbrev names_on : List Text → Place → Tree → Kind → Option Text → Type 0
names_on past dir rows k o =
    next_of past (cons_option o (filter_map (λ e. child_name dir e.0) (lines_of rows)))
    ≡ option_map (λ (c : Text × Kind). c.0) (least_not_in past (cons_option (option_map (λ name. (name, k)) o) (children_of dir rows)))

abbrev names_by : List Text → Place → Tree → Kind → Text → Bool → Type 0
names_by past dir rows k name b =
    cond b (Some name) (next_of past (filter_map (λ e. child_name dir e.0) (lines_of rows)))
    ≡ option_map (λ (c : Text × Kind). c.0) (cond b (Some (name, k)) (least_not_in past (children_of dir rows)))

pub least-name : (past : List Text) (dir : Place) (rows : Tree) → next_of past (filter_map (λ e. child_name dir e.0) (lines_of rows)) ≡ option_map (λ (c : Text × Kind). c.0) (least_not_in past (children_of dir rows))
least-name past dir [] = refl
least-name past dir (e ∷ rows) =
    elim (child_name dir e.0) as (names_on past dir rows (kind_of e.1)) [
      | None ↦ least-name past dir rows
      | Some name ↦ elim (is_new past name) as (names_by past dir rows (kind_of e.1) name) [ true ↦ refl | false ↦ least-name past dir rows ]
    ]

-- It is new.
pub least-new : (past : List Text) (children : List (Text × Kind)) (c : Text × Kind) → least_not_in past children ≡ Some c → is_new past c.0 ≡ true
least-new past [] c is = cc
least-new past (x ∷ children) c is = elim (cases_Bool (is_new past x.0)) [
  | inl new ↦ let same : x ≡ c = some-is (sym (ap (λ b. cond b (Some x) (least_not_in past children)) new) ∙ is) in ap (λ (y : Text × Kind). is_new past y.0) (sym same) ∙ new
  | inr old ↦ least-new past children c (sym (ap (λ b. cond b (Some x) (least_not_in past children)) old) ∙ is)
]
  where
    some-is : ◌≡◌ {A = Option (Text × Kind)} (Some x) (Some c) → x ≡ c
    some-is h = cc

-- Its kind is that of its row.
abbrev pub KindAt : Place → Tree → Text × Kind → Type 0
KindAt dir rows c = option_map kind_of (find_row place_cmp (child dir c.0) rows) ≡ Some c.1

passed : (dir : Place) (e : Place × Row) (rows : Tree) (c : Text × Kind) → eq_by_cmp place_cmp (child dir c.0) e.0 ≡ false → KindAt dir rows c → KindAt dir (e ∷ rows) c
passed dir e rows c other rest = ap (λ b. option_map kind_of (cond b (Some e.1) (find_row place_cmp (child dir c.0) rows))) other ∙ rest

here : (dir : Place) (e : Place × Row) (rows : Tree) (c : Text × Kind) → eq_by_cmp place_cmp (child dir c.0) e.0 ≡ true → kind_of e.1 ≡ c.1 → KindAt dir (e ∷ rows) c
here dir e rows c same is = ap (λ b. option_map kind_of (cond b (Some e.1) (find_row place_cmp (child dir c.0) rows))) same ∙ ap Some is

some-text : (a b : Text) → ◌≡◌ {A = Option Text} (Some a) (Some b) → a ≡ b
some-text a b is = cc

some-child : (a b : Text × Kind) → ◌≡◌ {A = Option (Text × Kind)} (Some a) (Some b) → a ≡ b
some-child a b is = cc

none-name : (a : Text) → ◌≡◌ {A = Option Text} None (Some a) → ⊥
none-name a is = cc

-- A row that is not the child's is passed.
apart : (dir place : Place) (name : Text) → (child_name dir place ≡ Some name → ⊥) → eq_by_cmp place_cmp (child dir name) place ≡ false
apart dir place name never = place_apart (child dir name) place (λ same. never (ap (child_name dir) (sym same) ∙ child-named dir name))

-- The first row is its own, or the child's is among the others.
abbrev pub Goes : List Text → Place → Tree → Text × Kind → Type 0
Goes past dir rows c = least_not_in past (children_of dir rows) ≡ Some c → KindAt dir rows c

kind-given : (past : List Text) (dir : Place) (e : Place × Row) (rows : Tree) (c : Text × Kind) (name : Text) → Goes past dir rows c → child_name dir e.0 ≡ Some name → least_not_in past ((name, kind_of e.1) ∷ children_of dir rows) ≡ Some c
    → KindAt dir (e ∷ rows) c
kind-given past dir e rows c name goes named found = elim (cases_Bool (is_new past name)) [
  | inl new ↦
      let same = some-child (name, kind_of e.1) c (sym (ap (λ b. cond b (Some (name, kind_of e.1)) (least_not_in past (children_of dir rows))) new) ∙ found) in
      here dir e rows c (ap (λ (x : Place). eq_by_cmp place_cmp (child dir c.0) x) (child-is dir e.0 name named ∙ ap (λ (y : Text × Kind). child dir y.0) same) ∙ place_itself (child dir c.0)) (ap (λ (y : Text × Kind). y.1) same)
  | inr old ↦
      let rest = sym (ap (λ b. cond b (Some (name, kind_of e.1)) (least_not_in past (children_of dir rows))) old) ∙ found in
      let never : child_name dir e.0 ≡ Some c.0 → ⊥ =
      λ again. true≢false (sym (least-new past (children_of dir rows) c rest) ∙ (ap (is_new past) (some-text c.0 name (sym again ∙ named)) ∙ old)) in
      passed dir e rows c (apart dir e.0 c.0 never) (goes rest)
]

kind-by : (past : List Text) (dir : Place) (e : Place × Row) (rows : Tree) (c : Text × Kind) (o : Option Text) → Goes past dir rows c → child_name dir e.0 ≡ o
    → least_not_in past (cons_option (option_map (λ name. (name, kind_of e.1)) o) (children_of dir rows)) ≡ Some c → KindAt dir (e ∷ rows) c
kind-by past dir e rows c None goes none found = passed dir e rows c (apart dir e.0 c.0 (λ named. none-name c.0 (sym none ∙ named))) (goes found)
kind-by past dir e rows c (Some name) goes named found = kind-given past dir e rows c name goes named found

pub least-kind : (past : List Text) (dir : Place) (rows : Tree) (c : Text × Kind) → Goes past dir rows c
least-kind past dir [] c is = absurd (none is)
  where
    none : ◌≡◌ {A = Option (Text × Kind)} None (Some c) → ⊥
    none x = cc
least-kind past dir (e ∷ rows) c is = kind-by past dir e rows c (child_name dir e.0) (least-kind past dir rows c) refl is

-- ---- the least child above a name up to which all was given

not-twice : (b : Bool) → not (not b) ≡ b
not-twice true = refl
not-twice false = refl

pub least-up-to : (past : List Text) (last : Text) (dir : Place) (rows : Tree) → AreGivenUpTo past last (names_in rows dir) → least_above last (children_of dir rows) ≡ least_not_in past (children_of dir rows)
least-up-to past last dir [] all = refl
least-up-to past last dir (e ∷ rows) all =
    let names = names_in rows dir in
    let children = children_of dir rows in
    let k = kind_of e.1 in
    elim (child_name dir e.0) as (λ o. AllByRecursion (λ name. list_any (same_text name) past ≡ not (is_lt (slice_cmp nat_cmp last name))) (cons_option o names)
    → least_above last (cons_option (option_map (λ name. (name, k)) o) children) ≡ least_not_in past (cons_option (option_map (λ name. (name, k)) o) children)) [
      | None ↦ λ a. least-up-to past last dir rows a
      | Some name ↦ λ a.
          let above : is_lt (slice_cmp nat_cmp last name) ≡ is_new past name = sym (ap not a.0 ∙ not-twice (is_lt (slice_cmp nat_cmp last name))) in
          ap (λ b. cond b (Some (name, k)) (least_above last children)) above
          ∙ ap (cond (is_new past name) (Some (name, k))) (least-up-to past last dir rows a.1)
    ] all
