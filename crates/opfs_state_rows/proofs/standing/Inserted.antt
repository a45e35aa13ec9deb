-- An entry that comes new to a map by texts, and a text that comes to a list in order.
use Rattle.std.proofs.Common.{◌≡◌, ℕ, ◌+◌, Bool, true, false, cond, ◌||◌, List, [], ◌∷◌, filter, sum_by, Some, None, refl, sym, ap, subst, ◌∙◌, arith}
use Rattle.std.proofs.lemmas.List.Sums.{sum_by-cons}
use Rattle.std.proofs.lemmas.Map.Keys.{sorted_head, sorted_tail}
use Rattle.std.specs.List.{AllByRecursion, list_any}
use Rattle.std.specs.List.Sorted.{IsStrictlySortedBy}
use Rattle.std.specs.Map.{keys_of, lookup}
use Rattle.std.specs.BTreeMap.{is_at, insert_entry}
use Rattle.std.specs.FinMap.Entries.{by_order}
use Rattle.std.specs.Ordering.{is_eq, match_ordering}
use Rattle.std.specs.declared.cmp.Ordering.{Ordering}
use Rattle.std.specs.declared.cmp.Ordering.TheVariants.{Less, Equal, Greater}
use Rattle.std.specs.Cmp.Lexicographic.{texts_ties}
use Rattle.opfs_base.specs.Texts.{Text, same_text}
use Rattle.opfs_machine.specs.Ordered.{insert_by}
use Rattle.opfs_shed.specs.Buckets.{text_cmp}
use Rattle.opfs_tree.proofs.Orders.{text_total}
use Rattle.opfs_state_rows.proofs.standing.Units.{same_unit, unit_itself}

true_false : true ≡ false → ⊥
true_false h = cc

some_none : {X : Type 0} (x : X) → Some x ≡ None → ⊥
some_none x h = cc

-- Keys that tie are the same.
tied : (a b : Text) → is_at (text_cmp a) b ≡ true → a ≡ b
tied a b h = same_unit a b (texts_ties a b ∙ h)

module _ {X : Type 0} (k : Text) (v : X) where
  none_here : (e : Text × X) (es : List (Text × X)) → lookup (is_at (text_cmp k)) (e ∷ es) ≡ None → is_at (text_cmp k) e.0 ≡ false
  none_here e es h =
      elim (is_at (text_cmp k) e.0) as (λ b. cond b (Some e.1) (lookup (is_at (text_cmp k)) es) ≡ None → b ≡ false) [ true ↦ λ n. absurd (some_none e.1 n) | false ↦ λ n. refl ] h

  none_behind : (e : Text × X) (es : List (Text × X)) → lookup (is_at (text_cmp k)) (e ∷ es) ≡ None → lookup (is_at (text_cmp k)) es ≡ None
  none_behind e es h = ap (λ b. cond b (Some e.1) (lookup (is_at (text_cmp k)) es)) (sym (none_here e es h)) ∙ h

  pub lookup-inserted : (u : Text) (es : List (Text × X)) → lookup (is_at (text_cmp k)) es ≡ None → lookup (is_at (text_cmp u)) (insert_entry text_cmp es k v) ≡ cond (is_at (text_cmp u) k) (Some v) (lookup (is_at (text_cmp u)) es)
  lookup-inserted u [] none = refl
  lookup-inserted u (e ∷ es) none =
      let at = λ (x : Text). is_at (text_cmp u) x in
      elim (text_cmp k e.0) as (λ o. text_cmp k e.0 ≡ o → lookup (is_at (text_cmp u)) (match_ordering o ((k, v) ∷ e ∷ es) ((e.0, v) ∷ es) (e ∷ insert_entry text_cmp es k v)) ≡ cond (at k) (Some v) (cond (at e.0) (Some e.1) (lookup (is_at (text_cmp u)) es))) [
        | Less ↦ λ is. refl
        | Equal ↦ λ is. absurd (true_false (sym (ap is_eq is) ∙ none_here e es none))
        | Greater ↦ λ is.
            ap (cond (at e.0) (Some e.1)) (lookup-inserted u es (none_behind e es none))
            ∙ (elim (at e.0) as (λ b. at e.0 ≡ b → cond b (Some e.1) (cond (at k) (Some v) (lookup (is_at (text_cmp u)) es)) ≡ cond (at k) (Some v) (cond b (Some e.1) (lookup (is_at (text_cmp u)) es))) [
              | true ↦ λ here.
                  elim (at k) as (λ b. at k ≡ b → Some e.1 ≡ cond b (Some v) (Some e.1)) [
                    | true ↦ λ there. absurd (true_false (sym (ap (is_at (text_cmp k)) (sym (tied u e.0 here)) ∙ (sym (texts_ties k u) ∙ unit_itself k u (sym (tied u k there)))) ∙ none_here e es none))
                    | false ↦ λ there. refl
                  ] refl
              | false ↦ λ here. refl
            ] refl)
      ] refl

  -- Keys of which the new one is not kept.
  pub keys-inserted : (f : Text → Bool) → f k ≡ false → (es : List (Text × X)) → lookup (is_at (text_cmp k)) es ≡ None → filter f (keys_of (insert_entry text_cmp es k v)) ≡ filter f (keys_of es)
  keys-inserted f out [] none = ap (λ b. cond b (k ∷ []) []) out
  keys-inserted f out (e ∷ es) none =
      elim (text_cmp k e.0) as (λ o. text_cmp k e.0 ≡ o → filter f (keys_of (match_ordering o ((k, v) ∷ e ∷ es) ((e.0, v) ∷ es) (e ∷ insert_entry text_cmp es k v))) ≡ filter f (e.0 ∷ keys_of es)) [
        | Less ↦ λ is. ap (λ b. cond b (k ∷ filter f (e.0 ∷ keys_of es)) (filter f (e.0 ∷ keys_of es))) out
        | Equal ↦ λ is. absurd (true_false (sym (ap is_eq is) ∙ none_here e es none))
        | Greater ↦ λ is. ap (λ xs. cond (f e.0) (e.0 ∷ xs) xs) (keys-inserted f out es (none_behind e es none))
      ] refl

-- ---- texts in order

all_filtered : (P : Text → Type 0) (f : Text → Bool) (xs : List Text) → AllByRecursion P xs → AllByRecursion P (filter f xs)
all_filtered P f [] all = tt
all_filtered P f (x ∷ xs) all = elim (f x) as (λ b. AllByRecursion P (cond b (x ∷ filter f xs) (filter f xs))) [ true ↦ (all.0, all_filtered P f xs all.1) | false ↦ all_filtered P f xs all.1 ]

insert_first : (k : Text) (xs : List Text) → AllByRecursion (λ x. text_cmp k x ≡ Less) xs → insert_by text_cmp k xs ≡ k ∷ xs
insert_first k [] all = refl
insert_first k (x ∷ xs) all = ap (λ o. by_order o (k ∷ x ∷ xs) (x ∷ xs) (x ∷ insert_by text_cmp k xs)) all.0

pub none_ahead : (k : Text) (xs : List Text) → AllByRecursion (λ x. text_cmp k x ≡ Less) xs → list_any (same_text k) xs ≡ false
none_ahead k [] all = refl
none_ahead k (x ∷ xs) all = ap (λ b. b || list_any (same_text k) xs) (texts_ties k x ∙ ap is_eq all.0) ∙ none_ahead k xs all.1

module _ (k : Text) (f g : Text → Bool) (now : g k ≡ true) (same : (u : Text) → same_text k u ≡ false → g u ≡ f u) where
  apart : (x : Text) (o : Ordering) → text_cmp k x ≡ o → is_eq o ≡ false → same_text k x ≡ false
  apart x o is ties = texts_ties k x ∙ (ap is_eq is ∙ ties)

  filter_ahead : (xs : List Text) → AllByRecursion (λ x. text_cmp k x ≡ Less) xs → filter g xs ≡ filter f xs
  filter_ahead [] all = refl
  filter_ahead (x ∷ xs) all = ap (λ b. cond b (x ∷ filter g xs) (filter g xs)) (same x (apart x Less all.0 refl)) ∙ ap (λ ys. cond (f x) (x ∷ ys) ys) (filter_ahead xs all.1)

  ahead : (x : Text) (xs : List Text) → k ≡ x → IsStrictlySortedBy text_cmp (x ∷ xs) → AllByRecursion (λ y. text_cmp k y ≡ Less) xs
  ahead x xs is sorted = let P = λ (t : Text). AllByRecursion (λ y. text_cmp t y ≡ Less) xs in subst P (sym is) (sorted_head text_cmp x xs sorted)

  -- One more of the texts passes.
  pub filter-inserted : (xs : List Text) → IsStrictlySortedBy text_cmp xs → list_any (same_text k) xs ≡ true → filter g xs ≡ insert_by text_cmp k (filter f xs)
  filter-inserted [] sorted there = absurd (true_false (sym there))
  filter-inserted (x ∷ xs) sorted there =
      elim (text_cmp k x) as (λ o. text_cmp k x ≡ o → filter g (x ∷ xs) ≡ insert_by text_cmp k (filter f (x ∷ xs))) [
        | Less ↦ λ is. absurd (true_false (sym there ∙ (ap (λ b. b || list_any (same_text k) xs) (apart x Less is refl) ∙ none_ahead k xs (below x xs is sorted))))
        | Equal ↦ λ is.
            let one : k ≡ x = tied k x (ap is_eq is) in
            let rest = ahead x xs one sorted in
            ap (λ b. cond b (x ∷ filter g xs) (filter g xs)) (ap g (sym one) ∙ now)
            ∙ (ap (λ ys. x ∷ ys) (filter_ahead xs rest)
            ∙ (elim (f x) as (λ b. x ∷ filter f xs ≡ insert_by text_cmp k (cond b (x ∷ filter f xs) (filter f xs))) [
              | true ↦ sym (ap (λ o. by_order o (k ∷ x ∷ filter f xs) (x ∷ filter f xs) (x ∷ insert_by text_cmp k (filter f xs))) is)
              | false ↦ ap (λ y. y ∷ filter f xs) (sym one) ∙ sym (insert_first k (filter f xs) (all_filtered (λ x. text_cmp k x ≡ Less) f xs rest))
            ]))
        | Greater ↦ λ is.
            let other = apart x Greater is refl in
            let behind : list_any (same_text k) xs ≡ true = ap (λ b. b || list_any (same_text k) xs) (sym other) ∙ there in
            ap (λ b. cond b (x ∷ filter g xs) (filter g xs)) (same x other)
            ∙ (ap (λ ys. cond (f x) (x ∷ ys) ys) (filter-inserted xs (sorted_tail text_cmp x xs sorted) behind)
            ∙ (elim (f x) as (λ b. cond b (x ∷ insert_by text_cmp k (filter f xs)) (insert_by text_cmp k (filter f xs)) ≡ insert_by text_cmp k (cond b (x ∷ filter f xs) (filter f xs))) [
              | true ↦ sym (ap (λ o. by_order o (k ∷ x ∷ filter f xs) (x ∷ filter f xs) (x ∷ insert_by text_cmp k (filter f xs))) is)
              | false ↦ refl
            ]))
      ] refl
    where
      below : (x : Text) (xs : List Text) → text_cmp k x ≡ Less → IsStrictlySortedBy text_cmp (x ∷ xs) → AllByRecursion (λ y. text_cmp k y ≡ Less) xs
      below x xs is sorted = past xs (sorted_head text_cmp x xs sorted)
        where
          past : (ys : List Text) → AllByRecursion (λ y. text_cmp x y ≡ Less) ys → AllByRecursion (λ y. text_cmp k y ≡ Less) ys
          past [] all = tt
          past (y ∷ ys) all = (text_total.trans k x y is all.0, past ys all.1)

  -- What it adds to a sum.
  pub sum-inserted : (w : Text → ℕ) (xs : List Text) → IsStrictlySortedBy text_cmp xs → list_any (same_text k) xs ≡ true → sum_by w (filter g xs) ≡ sum_by w (filter f xs) + cond (f k) 0 (w k)
  sum-inserted w [] sorted there = absurd (true_false (sym there))
  sum-inserted w (x ∷ xs) sorted there =
      elim (same_text k x) as (λ b. same_text k x ≡ b → sum_by w (filter g (x ∷ xs)) ≡ sum_by w (filter f (x ∷ xs)) + cond (f k) 0 (w k)) [
        | true ↦ λ is.
            let one : k ≡ x = same_unit k x is in
            let rest = ap (sum_by w) (filter_ahead xs (ahead x xs one sorted)) in
            let left : sum_by w (filter g (x ∷ xs)) ≡ w x + sum_by w (filter g xs) = ap (λ b. sum_by w (cond b (x ∷ filter g xs) (filter g xs))) (ap g (sym one) ∙ now) ∙ sum_by-cons w x (filter g xs) in
            let here : (b : Bool) → sum_by w (cond b (x ∷ filter f xs) (filter f xs)) + cond b 0 (w x) ≡ w x + sum_by w (filter f xs) = λ b. elim b as (λ t. sum_by w (cond t (x ∷ filter f xs) (filter f xs)) + cond t 0 (w x) ≡ w x + sum_by w (filter f xs)) [
              | true ↦ let front = sum_by-cons w x (filter f xs) in omega (arith, front)
              | false ↦ omega arith
            ] in
            let right : sum_by w (filter f (x ∷ xs)) + cond (f k) 0 (w k) ≡ w x + sum_by w (filter f xs) = ap (λ t. sum_by w (filter f (x ∷ xs)) + cond (f t) 0 (w t)) one ∙ here (f x) in
            omega (arith, left, rest, right)
        | false ↦ λ is.
            let behind : list_any (same_text k) xs ≡ true = ap (λ b. b || list_any (same_text k) xs) (sym is) ∙ there in
            let rest = sum-inserted w xs (sorted_tail text_cmp x xs sorted) behind in
            ap (λ b. sum_by w (cond b (x ∷ filter g xs) (filter g xs))) (same x is)
            ∙ (elim (f x) as (λ b. sum_by w (cond b (x ∷ filter g xs) (filter g xs)) ≡ sum_by w (cond b (x ∷ filter f xs) (filter f xs)) + cond (f k) 0 (w k)) [
              | true ↦ let a = sum_by-cons w x (filter g xs) in let b = sum_by-cons w x (filter f xs) in omega (arith, a, b, rest)
              | false ↦ rest
            ])
      ] refl
