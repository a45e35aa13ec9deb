-- What the units of an origin use is what its rows use.
use Rattle.std.proofs.Common.{◌≡◌, ℕ, ◌+◌, Bool, true, false, cond, not, [], ◌∷◌, filter, sum_by, Option, Some, None, is_some, unwrap_or, refl, sym, ap, ◌∙◌, arith}
use Rattle.std.proofs.lemmas.List.Sums.{sum_by-cons}
use Rattle.std.proofs.lemmas.Map.Keys.{sorted_head, sorted_tail}
use Rattle.std.specs.List.Sorted.{IsStrictlySortedBy}
use Rattle.std.specs.Map.{keys_of, lookup}
use Rattle.opfs_base.specs.Places.{Place}
use Rattle.opfs_base.specs.Texts.{Text, same_text}
use Rattle.opfs_machine.specs.declared.state.Row.{Row as Line}
use Rattle.opfs_machine.specs.Rows.{Rows as Lines}
use Rattle.opfs_shed.specs.declared.shed.Bucket.{Bucket}
use Rattle.opfs_shed.specs.Buckets.{Buckets, text_cmp, is_unit, bucket_at, first_bucket, usage_of}
use Rattle.opfs_shed.proofs.Usages.{usage_of-cons, usage_of-none}
use Rattle.opfs_state_rows.specs.Standing.Sums.{where_unit, of_origin}
use Rattle.opfs_state_rows.proofs.standing.Inserted.{none_ahead}
use Rattle.opfs_state_rows.proofs.standing.Lines.{known_key}
use Rattle.opfs_state_rows.proofs.standing.Units.{same_unit, unit_itself}
use Rattle.std.specs.Cmp.Lexicographic.{texts_ties}

module _ (w : Line ℕ → ℕ) where
  abbrev others : Text → Lines ℕ → Lines ℕ
  others k rows = filter (λ (e : Place × Line ℕ). not (same_text k e.0.0)) rows

  -- The rows of a unit, and those of all others.
  split_unit : (p : Text → Bool) (k : Text) (rows : Lines ℕ) → sum_by (where_unit p w) rows ≡ cond (p k) (sum_by (where_unit (same_text k) w) rows) 0 + sum_by (where_unit p w) (others k rows)
  split_unit p k [] = elim (p k) as (λ t. ◌≡◌ {A = ℕ} 0 (cond t 0 0 + 0)) [ true ↦ refl | false ↦ refl ]
  split_unit p k (e ∷ es) =
      let f = where_unit p w in
      let g = where_unit (same_text k) w in
      let rest = split_unit p k es in
      let whole = sum_by-cons f e es in
      let mine = sum_by-cons g e es in
      elim (same_text k e.0.0) as (λ t. same_text k e.0.0 ≡ t → sum_by f (e ∷ es) ≡ cond (p k) (sum_by g (e ∷ es)) 0 + sum_by f (cond (not t) (e ∷ others k es) (others k es))) [
        | true ↦ λ is.
            let here : f e ≡ cond (p k) (w e.1) 0 = ap (λ u. cond (p u) (w e.1) 0) (sym (same_unit k e.0.0 is)) in
            let one : g e ≡ w e.1 = ap (λ t. cond t (w e.1) 0) is in
            cases (p k) (f e) (w e.1) (sum_by g es) (sum_by g (e ∷ es)) (sum_by f (e ∷ es)) (sum_by f es) (sum_by f (others k es)) here (mine ∙ ap (λ n. n + sum_by g es) one) whole rest
        | false ↦ λ is.
            let one : g e ≡ 0 = ap (λ t. cond t (w e.1) 0) is in
            let more = sum_by-cons f e (others k es) in
            let same : cond (p k) (sum_by g (e ∷ es)) 0 ≡ cond (p k) (sum_by g es) 0 = ap (λ n. cond (p k) n 0) (mine ∙ ap (λ n. n + sum_by g es) one ∙ zero (sum_by g es)) in
            omega (arith, whole, more, rest, same)
      ] refl
    where
      zero : (n : ℕ) → 0 + n ≡ n
      zero n = omega arith

      cases : (t : Bool) (fe we ge gall fall fes foth : ℕ) → fe ≡ cond t we 0 → gall ≡ we + ge → fall ≡ fe + fes → fes ≡ cond t ge 0 + foth → fall ≡ cond t gall 0 + foth
      cases true fe we ge gall fall fes foth a b c d = omega arith
      cases false fe we ge gall fall fes foth a b c d = omega arith

  other_unit : (u k : Text) (rows : Lines ℕ) → same_text u k ≡ false → sum_by (where_unit (same_text u) w) (others k rows) ≡ sum_by (where_unit (same_text u) w) rows
  other_unit u k rows apart =
      let split = split_unit (same_text u) k rows in
      let none : cond (same_text u k) (sum_by (where_unit (same_text k) w) rows) 0 ≡ 0 = ap (λ t. cond t (sum_by (where_unit (same_text k) w) rows) 0) apart in
      omega (arith, split, none)

  own_unit : (k : Text) (rows : Lines ℕ) → sum_by (where_unit (same_text k) w) (others k rows) ≡ 0
  own_unit k rows =
      let split = split_unit (same_text k) k rows in
      let all : cond (same_text k k) (sum_by (where_unit (same_text k) w) rows) 0 ≡ sum_by (where_unit (same_text k) w) rows = ap (λ t. cond t (sum_by (where_unit (same_text k) w) rows) 0) (unit_itself k k refl) in
      omega (arith, split, all)

  -- Where no unit uses anything.
  nothing : (p : Text → Bool) (rows : Lines ℕ) → ((u : Text) → sum_by (where_unit (same_text u) w) rows ≡ 0) → sum_by (where_unit p w) rows ≡ 0
  nothing p [] none = refl
  nothing p (e ∷ es) none =
      let own : sum_by (where_unit (same_text e.0.0) w) (e ∷ es) ≡ w e.1 + sum_by (where_unit (same_text e.0.0) w) es =
      sum_by-cons (where_unit (same_text e.0.0) w) e es ∙ ap (λ t. cond t (w e.1) 0 + sum_by (where_unit (same_text e.0.0) w) es) (unit_itself e.0.0 e.0.0 refl) in
      let free : w e.1 ≡ 0 = omega (arith, own, none e.0.0) in
      let here : where_unit p w e ≡ 0 = ap (λ n. cond (p e.0.0) n 0) free ∙ (elim (p e.0.0) as (λ t. ◌≡◌ {A = ℕ} (cond t 0 0) 0) [ true ↦ refl | false ↦ refl ]) in
      let rest = nothing p es (λ u. let cons = sum_by-cons (where_unit (same_text u) w) e es in omega (arith, cons, none u)) in
      let whole = sum_by-cons (where_unit p w) e es in
      omega (arith, whole, here, rest)

none_of : {X : Type 0} (o : Option X) → is_some o ≡ false → o ≡ None
none_of None h = refl
none_of (Some x) h = cc

-- The usage of each bucket but the first.
module _ (e : Text × Bucket) (es : Buckets) (sorted : IsStrictlySortedBy text_cmp (keys_of (e ∷ es))) where
  absent : bucket_at es e.0 ≡ first_bucket
  absent = ap (λ o. unwrap_or o first_bucket) (none_of (lookup (is_unit e.0) es) (sym (known_key e.0 es) ∙ none_ahead e.0 (keys_of es) (sorted_head text_cmp e.0 (keys_of es) sorted)))

  first_here : bucket_at (e ∷ es) e.0 ≡ e.1
  first_here = ap (λ t. unwrap_or (cond t (Some e.1) (lookup (is_unit e.0) es)) first_bucket) (sym (texts_ties e.0 e.0) ∙ unit_itself e.0 e.0 refl)

  others_there : (u : Text) → same_text u e.0 ≡ false → bucket_at (e ∷ es) u ≡ bucket_at es u
  others_there u apart = ap (λ t. unwrap_or (cond t (Some e.1) (lookup (is_unit u) es)) first_bucket) (sym (texts_ties u e.0) ∙ apart)

pub usages-of-units : (w : Line ℕ → ℕ) (origin : Text) (es : Buckets) (rows : Lines ℕ) → IsStrictlySortedBy text_cmp (keys_of es)
    → ((u : Text) → (bucket_at es u).usage ≡ sum_by (where_unit (same_text u) w) rows) → usage_of origin es ≡ sum_by (where_unit (of_origin origin) w) rows
usages-of-units w origin [] rows sorted each = usage_of-none origin ∙ sym (nothing w (of_origin origin) rows (λ u. sym (each u)))
usages-of-units w origin (e ∷ es) rows sorted each =
    let rest = usages-of-units w origin es (others w e.0 rows) (sorted_tail text_cmp e.0 (keys_of es) sorted)
    (λ u. elim (same_text u e.0) as (λ t. same_text u e.0 ≡ t → (bucket_at es u).usage ≡ sum_by (where_unit (same_text u) w) (others w e.0 rows)) [
      | true ↦ λ is.
          ap (λ (x : Text). (bucket_at es x).usage) (same_unit u e.0 is)
          ∙ (ap (λ (b : Bucket). b.usage) (absent e es sorted) ∙ (sym (own_unit w e.0 rows) ∙ ap (λ (x : Text). sum_by (where_unit (same_text x) w) (others w e.0 rows)) (sym (same_unit u e.0 is))))
      | false ↦ λ is. ap (λ (b : Bucket). b.usage) (sym (others_there e es sorted u is)) ∙ (each u ∙ sym (other_unit w u e.0 rows is))
    ] refl) in
    let here : e.1.usage ≡ sum_by (where_unit (same_text e.0) w) rows = ap (λ (b : Bucket). b.usage) (sym (first_here e es sorted)) ∙ each e.0 in
    let split = split_unit w (of_origin origin) e.0 rows in
    let own : cond (of_origin origin e.0) e.1.usage 0 ≡ cond (of_origin origin e.0) (sum_by (where_unit (same_text e.0) w) rows) 0 = ap (λ n. cond (of_origin origin e.0) n 0) here in
    usage_of-cons origin e es ∙ (omega (arith, rest, split, own))
