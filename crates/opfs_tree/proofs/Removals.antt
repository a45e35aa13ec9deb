-- Taking the rows at a path and below it out one by one, and the set of paths beside the rows.
use Rattle.std.proofs.Common.{◌≡◌, ◌&&◌, Bool, true, false, cond, not, List, [], ◌∷◌, filter, Option, Some, None, refl, sym, ap, ◌∙◌, subst}
use Rattle.std.specs.List.Sorted.{IsStrictlySortedBy}
use Rattle.std.specs.Map.{keys_of, lookup, remove_entry}
use Rattle.std.specs.Set.{remove_key}
use Rattle.std.specs.BTreeMap.{insert_entry, is_at}
use Rattle.std.specs.BTreeSet.{insert_key}
use Rattle.std.specs.Ordering.{is_eq, is_le, match_ordering}
use Rattle.std.specs.declared.cmp.Ordering.{Ordering}
use Rattle.std.specs.declared.cmp.Ordering.TheVariants.{Less, Equal, Greater}
use Rattle.std.specs.Cmp.{IsTotalOrder, tied_itself}
use Rattle.std.proofs.lemmas.Map.Keys.{sorted_head, sorted_tail}
use Rattle.opfs_base.specs.Texts.{Text}
use Rattle.opfs_base.specs.Places.{begins_with}
use Rattle.opfs_tree.specs.declared.row.Row.{Row}
use Rattle.opfs_tree.specs.Units.{UnitRows, path_cmp, below, beside, values, when_below, first_key}
use Rattle.opfs_tree.proofs.Orders.{begins_le, exact_paths, path_total}
use Rattle.opfs_tree.proofs.Ranges.{none_after, both_ways}

-- The keys after an insertion and after a removal.
pub keys_insert : {K X : Type 0} (R : K → K → Ordering) (es : List (K × X)) (k : K) (v : X) → keys_of (insert_entry R es k v) ≡ insert_key R (keys_of es) k
keys_insert R [] k v = refl
keys_insert R (e ∷ es) k v =
    elim (R k e.0) as (λ o. keys_of (match_ordering o ((k, v) ∷ e ∷ es) ((e.0, v) ∷ es) (e ∷ insert_entry R es k v))
    ≡ match_ordering o (k ∷ e.0 ∷ keys_of es) (e.0 ∷ keys_of es) (e.0 ∷ insert_key R (keys_of es) k)) [
      | Less ↦ refl
      | Equal ↦ refl
      | Greater ↦ ap (λ ks. e.0 ∷ ks) (keys_insert R es k v)
    ]

pub keys_remove : {K X : Type 0} (t : K → Bool) (es : List (K × X)) → keys_of (remove_entry t es) ≡ remove_key t (keys_of es)
keys_remove t [] = refl
keys_remove t (e ∷ es) =
    elim (t e.0) as (λ b. keys_of (cond b es (e ∷ remove_entry t es)) ≡ cond b (keys_of es) (e.0 ∷ remove_key t (keys_of es))) [
      | true ↦ refl
      | false ↦ ap (λ ks. e.0 ∷ ks) (keys_remove t es)
    ]

-- A new key that goes again.
pub undone : {K X : Type 0} (R : K → K → Ordering) (o : IsTotalOrder R) (k : K) (es : List (K × X)) → lookup (is_at (R k)) es ≡ None
    → remove_key (is_at (R k)) (insert_key R (keys_of es) k) ≡ keys_of es
undone R o k [] h = ap (λ r. cond (is_eq r) [] (k ∷ [])) (tied_itself o k)
undone R o k (e ∷ es) h =
    let ks = keys_of es in
    let t = is_at (R k) in
    elim (R k e.0) as (λ r. R k e.0 ≡ r → cond (is_eq r) (Some e.1) (lookup t es) ≡ None → remove_key t (match_ordering r (k ∷ e.0 ∷ ks) (e.0 ∷ ks) (e.0 ∷ insert_key R ks k)) ≡ e.0 ∷ ks) [
      | Less ↦ λ is n. ap (λ r. cond (is_eq r) (e.0 ∷ ks) (k ∷ remove_key t (e.0 ∷ ks))) (tied_itself o k)
      | Equal ↦ λ is n. cc
      | Greater ↦ λ is n. ap (λ r. cond (is_eq r) (insert_key R ks k) (e.0 ∷ remove_key t (insert_key R ks k))) is ∙ ap (λ xs. e.0 ∷ xs) (undone R o k es n)
    ] refl h

module _ (k again : List Text) (ks left : List (List Text)) (inner : UnitRows) (keys : ks ≡ keys_of inner) (same : again ≡ k) (added : left ≡ insert_key path_cmp ks again) where
  added_from : left ≡ insert_key path_cmp (keys_of inner) k
  added_from = added ∙ (ap (insert_key path_cmp ks) same ∙ ap (λ xs. insert_key path_cmp xs k) keys)

  -- The paths once the row was added, and where that failed and its path went again.
  pub added_keys : (r : Row) (new : UnitRows) → new ≡ insert_entry path_cmp inner k r → left ≡ keys_of new
  added_keys r new is = added_from ∙ (sym (keys_insert path_cmp inner k r) ∙ ap keys_of (sym is))

  pub undone_keys : (q : List Text) (gone : List (List Text)) (new : UnitRows) → q ≡ k → gone ≡ remove_key (is_at (path_cmp q)) left → new ≡ inner
      → lookup (is_at (path_cmp k)) inner ≡ None → gone ≡ keys_of new
  undone_keys q gone new told went kept absent =
      went ∙ (ap (λ x. remove_key (is_at (path_cmp x)) left) told
      ∙ (ap (remove_key (is_at (path_cmp k))) added_from ∙ (undone path_cmp path_total k inner absent ∙ ap keys_of (sym kept))))

-- The first path that is found is at the path or below it.
key_begins : (p k : List Text) (ks : List (List Text)) → when_below p ks ≡ Some k → begins_with p k ≡ true
key_begins p k [] h = cc
key_begins p k (x ∷ ks) h =
    elim (begins_with p x) as (λ b. begins_with p x ≡ b → elim b [ true ↦ Some x | false ↦ None ] ≡ Some k → begins_with p k ≡ true) [
      | true ↦ λ is n. let same : k ≡ x = cc in ap (begins_with p) same ∙ is
      | false ↦ λ is n. cc
    ] refl h

-- What is known once a row was taken out.
pub record Popped (p k : List Text) (es : UnitRows) : Type 0 where
  pub row : Row
  pub found : lookup (is_at (path_cmp k)) es ≡ Some row
  pub inside : below p es ≡ (k, row) ∷ below p (remove_entry (is_at (path_cmp k)) es)
  pub outside : beside p (remove_entry (is_at (path_cmp k)) es) ≡ beside p es

popped_later : (p k : List Text) (e : List Text × Row) (es : UnitRows) → is_eq (path_cmp k e.0) ≡ false → begins_with p e.0 ≡ false → Popped p k es → Popped p k (e ∷ es)
popped_later p k e es apart out more =
    let t = is_at (path_cmp k) in
    let skips : remove_entry t (e ∷ es) ≡ e ∷ remove_entry t es = ap (λ b. cond b es (e ∷ remove_entry t es)) apart in
    record {
      row = more.row;
      found = ap (λ b. cond b (Some e.1) (lookup t es)) apart ∙ more.found;
      inside = ap (λ b. cond b (e ∷ below p es) (below p es)) out
          ∙ (more.inside ∙ ap (λ xs. (k, more.row) ∷ xs) (sym (ap (below p) skips ∙ ap (λ b. cond b (e ∷ below p (remove_entry t es)) (below p (remove_entry t es))) out)));
      outside = ap (beside p) skips
          ∙ (ap (λ b. cond (not b) (e ∷ beside p (remove_entry t es)) (beside p (remove_entry t es))) out
          ∙ (ap (λ xs. e ∷ xs) more.outside ∙ sym (ap (λ b. cond (not b) (e ∷ beside p es) (beside p es)) out)));
    }

popped_here : (p k : List Text) (e : List Text × Row) (es : UnitRows) → e.0 ≡ k → begins_with p e.0 ≡ true → Popped p k (e ∷ es)
popped_here p k e es same within =
    let t = is_at (path_cmp k) in
    let ties : is_eq (path_cmp k e.0) ≡ true = ap (λ x. is_eq (path_cmp k x)) same ∙ ap is_eq (tied_itself path_total k) in
    let skips : remove_entry t (e ∷ es) ≡ es = ap (λ b. cond b es (e ∷ remove_entry t es)) ties in
    record {
      row = e.1;
      found = ap (λ b. cond b (Some e.1) (lookup t es)) ties;
      inside = ap (λ b. cond b (e ∷ below p es) (below p es)) within ∙ (ap (λ x. (x, e.1) ∷ below p es) same ∙ ap (λ xs. (k, e.1) ∷ below p xs) (sym skips));
      outside = ap (beside p) skips ∙ sym (ap (λ b. cond (not b) (e ∷ beside p es) (beside p es)) within);
    }

-- A row before the path is not below it.
before : (p a : List Text) → is_le (path_cmp p a) ≡ false → begins_with p a ≡ false
before p a h =
    elim (begins_with p a) as (λ b. begins_with p a ≡ b → b ≡ false) [
      | true ↦ λ is. absurd (both_ways (is_le (path_cmp p a)) (begins_le p a is) h)
      | false ↦ λ is. refl
    ] refl

apart_from : (p k a : List Text) → is_le (path_cmp p a) ≡ false → begins_with p k ≡ true → is_eq (path_cmp k a) ≡ false
apart_from p k a early within =
    elim (path_cmp k a) as (λ r. path_cmp k a ≡ r → is_eq r ≡ false) [
      | Less ↦ λ is. refl
      | Equal ↦ λ is. absurd (both_ways (is_le (path_cmp p a)) (ap (λ x. is_le (path_cmp p x)) (sym (exact_paths k a is)) ∙ begins_le p k within) early)
      | Greater ↦ λ is. refl
    ] refl

-- The first row that was found, and the rows without it.
pub popped : (p k : List Text) (es : UnitRows) → IsStrictlySortedBy path_cmp (keys_of es) → first_key p (keys_of es) ≡ Some k → Popped p k es
popped p k [] sorted h = let e : None ≡ Some k = h in cc
popped p k (e ∷ es) sorted h =
    let later = filter (λ other. is_le (path_cmp p other) && true) (keys_of es) in
    elim (is_le (path_cmp p e.0)) as (λ b. is_le (path_cmp p e.0) ≡ b → when_below p (cond (b && true) (e.0 ∷ later) later) ≡ Some k → Popped p k (e ∷ es)) [
      | true ↦ λ is n.
          elim (begins_with p e.0) as (λ b. begins_with p e.0 ≡ b → elim b [ true ↦ Some e.0 | false ↦ None ] ≡ Some k → Popped p k (e ∷ es)) [
            | true ↦ λ within g. popped_here p k e es (let same : e.0 ≡ k = cc in same) within
            | false ↦ λ within g. cc
          ] refl n
      | false ↦ λ is n.
          popped_later p k e es (apart_from p k e.0 is (key_begins p k later n)) (before p e.0 is) (popped p k es (sorted_tail path_cmp e.0 (keys_of es) sorted) n)
    ] refl h

some_none : (k : List Text) → Some k ≡ None → ⊥
some_none k h = cc

-- Where none was found there is none.
pub none_left : (p : List Text) (es : UnitRows) → IsStrictlySortedBy path_cmp (keys_of es) → first_key p (keys_of es) ≡ None → below p es ≡ []
none_left p [] sorted h = refl
none_left p (e ∷ es) sorted h =
    let later = filter (λ other. is_le (path_cmp p other) && true) (keys_of es) in
    elim (is_le (path_cmp p e.0)) as (λ b. is_le (path_cmp p e.0) ≡ b → when_below p (cond (b && true) (e.0 ∷ later) later) ≡ None → below p (e ∷ es) ≡ []) [
      | true ↦ λ is n.
          elim (begins_with p e.0) as (λ b. begins_with p e.0 ≡ b → ◌≡◌ {A = Option (List Text)} (elim b [ true ↦ Some e.0 | false ↦ None ]) None → cond b (e ∷ below p es) (below p es) ≡ []) [
            | true ↦ λ within g. absurd (some_none e.0 g)
            | false ↦ λ within g. none_after p e.0 es is within (sorted_head path_cmp e.0 (keys_of es) sorted)
          ] refl n
      | false ↦ λ is n.
          ap (λ b. cond b (e ∷ below p es) (below p es)) (before p e.0 is) ∙ none_left p es (sorted_tail path_cmp e.0 (keys_of es) sorted) n
    ] refl h

module _ (p : List Text) (ks : List (List Text)) (inner rows : UnitRows) (keys : ks ≡ keys_of inner) (same : inner ≡ rows) (sorted : IsStrictlySortedBy path_cmp ks) where
  sorted_inner : IsStrictlySortedBy path_cmp (keys_of inner)
  sorted_inner = let P = λ (xs : List (List Text)). IsStrictlySortedBy path_cmp xs in subst P keys sorted

  pub nothing_within : None ≡ first_key p ks → below p rows ≡ []
  nothing_within h = ap (below p) (sym same) ∙ none_left p inner sorted_inner (ap (first_key p) (sym keys) ∙ sym h)

  module _ (k : List Text) (found : Some k ≡ first_key p ks) where
    popped_inner : Popped p k inner
    popped_inner = popped p k inner sorted_inner (ap (first_key p) (sym keys) ∙ sym found)

    pub popped_row : (r : Row) (new : UnitRows) → Some r ≡ lookup (is_at (path_cmp k)) inner → new ≡ remove_entry (is_at (path_cmp k)) inner → values (below p rows) ≡ r ∷ values (below p new)
    popped_row r new is removed =
        let told : popped_inner.row ≡ r = let e : Some popped_inner.row ≡ Some r = sym popped_inner.found ∙ sym is in cc in
        ap (λ es. values (below p es)) (sym same)
        ∙ (ap values popped_inner.inside ∙ (ap (λ x. x ∷ values (below p (remove_entry (is_at (path_cmp k)) inner))) told ∙ ap (λ es. r ∷ values (below p es)) (sym removed)))

    pub popped_rest : (new : UnitRows) → new ≡ remove_entry (is_at (path_cmp k)) inner → beside p new ≡ beside p rows
    popped_rest new removed = ap (beside p) removed ∙ (popped_inner.outside ∙ ap (beside p) same)

    pub popped_some : None ≡ lookup (is_at (path_cmp k)) inner → ⊥
    popped_some is = let e : None ≡ Some popped_inner.row = is ∙ popped_inner.found in cc

    pub popped_keys : (q : List Text) (left : List (List Text)) (new : UnitRows) → path_cmp k q ≡ Equal → left ≡ remove_key (is_at (path_cmp q)) ks
        → new ≡ remove_entry (is_at (path_cmp k)) inner → left ≡ keys_of new
    popped_keys q left new ties gone removed =
        gone ∙ (ap (λ x. remove_key (is_at (path_cmp x)) ks) (sym (exact_paths k q ties))
        ∙ (ap (remove_key (is_at (path_cmp k))) keys ∙ (sym (keys_remove (is_at (path_cmp k)) inner) ∙ ap keys_of (sym removed))))

no_values : (es : UnitRows) → [] ≡ values es → es ≡ []
no_values [] h = refl
no_values (e ∷ es) h = cc

all_beside : (p : List Text) (es : UnitRows) → below p es ≡ [] → es ≡ beside p es
all_beside p [] h = refl
all_beside p (e ∷ es) h =
    elim (begins_with p e.0) as (λ b. cond b (e ∷ below p es) (below p es) ≡ [] → e ∷ es ≡ cond (not b) (e ∷ beside p es) (beside p es)) [
      | true ↦ λ n. cc
      | false ↦ λ n. ap (λ xs. e ∷ xs) (all_beside p es n)
    ] h

-- Once none is left, the others are.
pub all_gone : (p : List Text) (old new first : UnitRows) → values (below p old) ≡ values (below p new) → below p old ≡ [] → beside p new ≡ beside p old → beside p old ≡ beside p first → new ≡ beside p first
all_gone p old new first rows none rest before_ =
    all_beside p new (no_values (below p new) (ap values (sym none) ∙ rows)) ∙ (rest ∙ before_)
