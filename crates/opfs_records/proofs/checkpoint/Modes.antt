-- One persistent unit more, or one that is persistent already.
use Rattle.std.proofs.Common.{◌≡◌, ◌+◌, ◌||◌, ℕ, true, false, cond, List, [], ◌∷◌, filter, Some, sum_by, unwrap_or, refl, sym, ap, subst, ◌∙◌, arith}
use Rattle.std.specs.List.{list_any}
use Rattle.std.specs.List.Sorted.{IsStrictlySortedBy}
use Rattle.std.specs.Map.{lookup}
use Rattle.std.specs.FinMap.Entries.{by_order}
use Rattle.std.specs.Ordering.{is_eq}
use Rattle.std.specs.declared.cmp.Ordering.{Ordering}
use Rattle.std.specs.declared.cmp.Ordering.TheVariants.{Less, Equal, Greater}
use Rattle.std.specs.Cmp.Lexicographic.{texts_ties}
use Rattle.std.proofs.lemmas.Bool.{true≢false, false≢true}
use Rattle.std.proofs.lemmas.List.Sums.{sum_by-cons}
use Rattle.opfs_base.specs.Texts.{Text, same_text}
use Rattle.opfs_machine.specs.Ordered.{insert_by}
use Rattle.opfs_shed.specs.declared.shed.Bucket.{Bucket}
use Rattle.opfs_shed.specs.Buckets.{Buckets, text_cmp, is_unit, bucket_at, first_bucket}
use Rattle.opfs_tree.proofs.Orders.{exact_texts, text_total}
use Rattle.opfs_records.specs.Replay.Sums.{persistent_in}
use Rattle.opfs_records.proofs.checkpoint.Ordered.{AllPast, keys, past_persistent}

pub equal_is : (o : Ordering) → is_eq o ≡ true → o ≡ Equal
equal_is Less h = absurd (false≢true h)
equal_is Equal h = refl
equal_is Greater h = absurd (false≢true h)

-- A unit is not among those that are all past it.
none_past : (u : Text) (xs : List Text) → AllPast u xs → list_any (same_text u) xs ≡ false
none_past u [] all = refl
none_past u (x ∷ xs) all = ap (λ t. t || list_any (same_text u) xs) (texts_ties u x ∙ ap is_eq all.0) ∙ none_past u xs all.1

past_more : (u x : Text) (xs : List Text) → text_cmp u x ≡ Less → AllPast x xs → AllPast u xs
past_more u x [] less all = tt
past_more u x (y ∷ ys) less all = (text_total.trans u x y less all.0, past_more u x ys less all.1)

-- The mode of a unit's bucket is whether it is among the persistent ones.
pub mode_in : (u : Text) (es : Buckets) → IsStrictlySortedBy text_cmp (keys es) → (bucket_at es u).persistent ≡ list_any (same_text u) (persistent_in es)
unfolding IsStrictlySortedBy
mode_in u [] sorted = refl
mode_in u (e ∷ es) sorted =
    let rest = filter (λ (x : Text × Bucket). x.1.persistent) es in
    elim (is_unit u e.0) as (λ t. is_unit u e.0 ≡ t → (unwrap_or (cond t (Some e.1) (lookup (is_unit u) es)) first_bucket).persistent ≡ list_any (same_text u) (keys (cond e.1.persistent (e ∷ rest) rest))) [
      | true ↦ λ is.
          let same : u ≡ e.0 = exact_texts u e.0 (equal_is _ is) in
          let tie : same_text u e.0 ≡ true = texts_ties u e.0 ∙ is in
          let none : list_any (same_text u) (persistent_in es) ≡ false = none_past u (persistent_in es) (past_persistent u es (subst (λ (x : Text). AllPast x (keys es)) (sym same) sorted.0)) in
          elim e.1.persistent as (λ p. p ≡ list_any (same_text u) (keys (cond p (e ∷ rest) rest))) [
            | true ↦ sym (ap (λ t. t || list_any (same_text u) (persistent_in es)) tie)
            | false ↦ sym none
          ]
      | false ↦ λ is.
          let tie : same_text u e.0 ≡ false = texts_ties u e.0 ∙ is in
          mode_in u es sorted.1
          ∙ (elim e.1.persistent as (λ p. list_any (same_text u) (persistent_in es) ≡ list_any (same_text u) (keys (cond p (e ∷ rest) rest))) [
            | true ↦ sym (ap (λ t. t || list_any (same_text u) (persistent_in es)) tie)
            | false ↦ refl
          ])
    ] refl

pub insert_again : (u : Text) (xs : List Text) → IsStrictlySortedBy text_cmp xs → list_any (same_text u) xs ≡ true → insert_by text_cmp u xs ≡ xs
unfolding IsStrictlySortedBy
insert_again u [] sorted there = absurd (false≢true there)
insert_again u (x ∷ xs) sorted there =
    elim (text_cmp u x) as (λ o. text_cmp u x ≡ o → (is_eq o || list_any (same_text u) xs) ≡ true → by_order o (u ∷ x ∷ xs) (x ∷ xs) (x ∷ insert_by text_cmp u xs) ≡ x ∷ xs) [
      | Less ↦ λ told h. absurd (false≢true (sym (none_past u xs (past_more u x xs told sorted.0)) ∙ h))
      | Equal ↦ λ told h. refl
      | Greater ↦ λ told h. ap (λ ys. x ∷ ys) (insert_again u xs sorted.1 h)
    ] refl (ap (λ t. t || list_any (same_text u) xs) (sym (texts_ties u x)) ∙ there)

pub insert_sum : (g : Text → ℕ) (u : Text) (xs : List Text) → list_any (same_text u) xs ≡ false → sum_by g (insert_by text_cmp u xs) ≡ g u + sum_by g xs
insert_sum g u [] none = sum_by-cons g u []
insert_sum g u (x ∷ xs) none =
    elim (text_cmp u x) as (λ o. (is_eq o || list_any (same_text u) xs) ≡ false → sum_by g (by_order o (u ∷ x ∷ xs) (x ∷ xs) (x ∷ insert_by text_cmp u xs)) ≡ g u + sum_by g (x ∷ xs)) [
      | Less ↦ λ h. sum_by-cons g u (x ∷ xs)
      | Equal ↦ λ h. absurd (true≢false h)
      | Greater ↦ λ h. omega (arith, sum_by-cons g x (insert_by text_cmp u xs), sum_by-cons g x xs, insert_sum g u xs h)
    ] (ap (λ t. t || list_any (same_text u) xs) (sym (texts_ties u x)) ∙ none)
