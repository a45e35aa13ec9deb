-- The last uses, as one is said.
use Rattle.std.proofs.Common.{◌≡◌, ◌<◌, ◌==◌, ℕ, Bool, true, false, cond, not, List, [], ◌∷◌, Option, Some, None, is_some, unwrap_or, refl, sym, ap, ◌∙◌, arith}
use Rattle.std.proofs.lemmas.Map.Lookups.{exact_bytes}
use Rattle.std.specs.BTreeMap.{is_at, insert_entry}
use Rattle.std.proofs.lemmas.Cmp.{nat_list_cmp_total}
use Rattle.std.specs.FinMap.Entries.{find, put, by_order}
use Rattle.std.specs.List.{AllByRecursion}
use Rattle.std.specs.List.Sorted.{IsStrictlySortedBy}
use Rattle.std.specs.Map.{lookup, set_value, keys_of}
use Rattle.std.specs.Ordering.{match_ordering, is_eq}
use Rattle.std.specs.declared.cmp.Ordering.{Ordering}
use Rattle.std.specs.declared.cmp.Ordering.TheVariants.{Less, Equal, Greater}
use Rattle.opfs_base.specs.Texts.{Text}
use Rattle.opfs_register.specs.LastUses.{text_cmp, Counts, is_used, used_in}

-- A key below all others comes first.
put-first : (k : Text) (v : ℕ) (es : Counts) → AllByRecursion (λ y. text_cmp k y ≡ Less) (keys_of es) → put text_cmp k v (used_in es) ≡ (k, v) ∷ used_in es
put-first k v [] all = refl
put-first k v (e ∷ es) all =
    elim (is_used e) as (λ t. put text_cmp k v (cond t (e ∷ used_in es) (used_in es)) ≡ (k, v) ∷ cond t (e ∷ used_in es) (used_in es)) [
      | true ↦ ap (λ o. by_order o ((k, v) ∷ e ∷ used_in es) ((e.0, v) ∷ used_in es) (e ∷ put text_cmp k v (used_in es))) all.0
      | false ↦ put-first k v es all.1
    ]

none-above : (k : Text) (es : Counts) → AllByRecursion (λ y. text_cmp k y ≡ Less) (keys_of es) → lookup (is_at (text_cmp k)) es ≡ None
none-above k [] all = refl
none-above k (e ∷ es) all = ap (λ o. cond (is_eq o) (Some e.1) (lookup (is_at (text_cmp k)) es)) all.0 ∙ none-above k es all.1

all-above : (k e : Text) (ks : List Text) → text_cmp k e ≡ Less → AllByRecursion (λ y. text_cmp e y ≡ Less) ks → AllByRecursion (λ y. text_cmp k y ≡ Less) ks
all-above k e [] below all = all
all-above k e (x ∷ xs) below all = (nat_list_cmp_total.trans k e x below all.0, all-above k e xs below all.1)

new-used : (v : ℕ) → 0 < v → not (v == 0) ≡ true
new-used v some = grind (arith, some)

put-step : (k : Text) (v : ℕ) (e : Text × ℕ) (es : Counts) (o : Ordering) → o ≡ text_cmp k e.0 → 0 < v → AllByRecursion (λ y. text_cmp e.0 y ≡ Less) (keys_of es)
    → is_some (cond (is_eq o) (Some e.1) (lookup (is_at (text_cmp k)) es)) ≡ true
    → (is_some (lookup (is_at (text_cmp k)) es) ≡ true → used_in (set_value (is_at (text_cmp k)) es v) ≡ put text_cmp k v (used_in es))
    → used_in (cond (is_eq o) ((e.0, v) ∷ es) (e ∷ set_value (is_at (text_cmp k)) es v)) ≡ put text_cmp k v (used_in (e ∷ es))
put-step k v e es Less told some all there tail =
    let none : lookup (is_at (text_cmp k)) es ≡ None = none-above k es (all-above k e.0 (keys_of es) (sym told) all) in
    absurd (none-there (sym (ap is_some none) ∙ there))
  where
    none-there : is_some {T = ℕ} None ≡ true → ⊥
    none-there h = cc
put-step k v e es Equal told some all there tail =
    let same : k ≡ e.0 = exact_bytes k e.0 (sym told) in
    ap (λ t. cond t ((e.0, v) ∷ used_in es) (used_in es)) (new-used v some)
    ∙ elim (is_used e) as (λ t. (e.0, v) ∷ used_in es ≡ put text_cmp k v (cond t (e ∷ used_in es) (used_in es))) [
      | true ↦ ap (λ o. by_order o ((k, v) ∷ e ∷ used_in es) ((e.0, v) ∷ used_in es) (e ∷ put text_cmp k v (used_in es))) told
      | false ↦ sym (rw same (put-first e.0 v es all))
    ]
put-step k v e es Greater told some all there tail =
    elim (is_used e) as (λ t. cond t (e ∷ used_in (set_value (is_at (text_cmp k)) es v)) (used_in (set_value (is_at (text_cmp k)) es v)) ≡ put text_cmp k v (cond t (e ∷ used_in es) (used_in es))) [
      | true ↦ ap (λ (r : Counts). e ∷ r) (tail there) ∙ ap (λ o. by_order o ((k, v) ∷ e ∷ used_in es) ((e.0, v) ∷ used_in es) (e ∷ put text_cmp k v (used_in es))) told
      | false ↦ tail there
    ]

pub put-used : (k : Text) (v : ℕ) (es : Counts) → 0 < v → IsStrictlySortedBy text_cmp (keys_of es) → is_some (lookup (is_at (text_cmp k)) es) ≡ true
    → used_in (set_value (is_at (text_cmp k)) es v) ≡ put text_cmp k v (used_in es)
unfolding IsStrictlySortedBy
put-used k v [] some sorted there = absurd cc
put-used k v (e ∷ es) some sorted there = put-step k v e es (text_cmp k e.0) refl some sorted.0 there (λ tail. put-used k v es some sorted.1 tail)

-- An origin that comes without a use.
pub used-insert : (k : Text) (es : Counts) → lookup (is_at (text_cmp k)) es ≡ None → used_in (insert_entry text_cmp es k 0) ≡ used_in es
used-insert k [] none = refl
used-insert k (e ∷ es) none =
    let P = λ (o : Ordering). cond (is_eq o) (Some e.1) (lookup (is_at (text_cmp k)) es) ≡ None → used_in (match_ordering o ((k, 0) ∷ e ∷ es) ((e.0, 0) ∷ es) (e ∷ insert_entry text_cmp es k 0)) ≡ used_in (e ∷ es) in
    elim (text_cmp k e.0) as P [
      | Less ↦ λ none. refl
      | Equal ↦ λ none. cc
      | Greater ↦ λ none. ap (λ (r : Counts). cond (is_used e) (e ∷ r) r) (used-insert k es none)
    ] none

-- The last use of an origin, found among those that were used.
none-used : (k : Text) (es : Counts) → AllByRecursion (λ y. text_cmp k y ≡ Less) (keys_of es) → find text_cmp k (used_in es) ≡ None
none-used k [] all = refl
none-used k (e ∷ es) all =
    elim (is_used e) as (λ t. find text_cmp k (cond t (e ∷ used_in es) (used_in es)) ≡ None) [
      | true ↦ ap (λ o. cond (is_eq o) (Some e.1) (find text_cmp k (used_in es))) all.0 ∙ none-used k es all.1
      | false ↦ none-used k es all.1
    ]

unused : (n : ℕ) → false ≡ not (n == 0) → 0 ≡ n
unused n is = grind (arith, is)

last-step : (k : Text) (e : Text × ℕ) (es : Counts) (o : Ordering) (t : Bool) → o ≡ text_cmp k e.0 → t ≡ is_used e → AllByRecursion (λ y. text_cmp e.0 y ≡ Less) (keys_of es)
    → unwrap_or (lookup (is_at (text_cmp k)) es) 0 ≡ unwrap_or (find text_cmp k (used_in es)) 0
    → unwrap_or (cond (is_eq o) (Some e.1) (lookup (is_at (text_cmp k)) es)) 0 ≡ unwrap_or (find text_cmp k (cond t (e ∷ used_in es) (used_in es))) 0
last-step k e es Equal true told is all tail = ap (λ o. unwrap_or (cond (is_eq o) (Some e.1) (find text_cmp k (used_in es))) 0) told
last-step k e es Equal false told is all tail =
    sym (ap (λ (u : Text). unwrap_or (find text_cmp u (used_in es)) 0) (exact_bytes k e.0 (sym told)) ∙ ap (λ (o : Option ℕ). unwrap_or o 0) (none-used e.0 es all) ∙ unused e.1 is)
last-step k e es Less true told is all tail = tail ∙ ap (λ o. unwrap_or (cond (is_eq o) (Some e.1) (find text_cmp k (used_in es))) 0) told
last-step k e es Less false told is all tail = tail
last-step k e es Greater true told is all tail = tail ∙ ap (λ o. unwrap_or (cond (is_eq o) (Some e.1) (find text_cmp k (used_in es))) 0) told
last-step k e es Greater false told is all tail = tail

pub last-used : (k : Text) (es : Counts) → IsStrictlySortedBy text_cmp (keys_of es) → unwrap_or (lookup (is_at (text_cmp k)) es) 0 ≡ unwrap_or (find text_cmp k (used_in es)) 0
unfolding IsStrictlySortedBy
last-used k [] sorted = refl
last-used k (e ∷ es) sorted = last-step k e es (text_cmp k e.0) (is_used e) refl refl sorted.0 (last-used k es sorted.1)
