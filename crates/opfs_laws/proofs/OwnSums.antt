-- Sums over the own rows of all agents, after an agent is changed.
use Rattle.std.proofs.Common.{◌≡◌, ◌≢◌, ℕ, ◌+◌, ◌-◌, ◌<◌, ◌≤◌, zero, suc, List, [], ◌∷◌, ◌++◌, length, get_or, sum_by, flat_map, Some, None, unwrap_or, refl, sym, ap, ◌∙◌, slice_set, arith}
use Rattle.std.specs.Prelude.{slice_get}
use Rattle.std.proofs.lemmas.List.Sums.{sum_by-append, sum_by-cons, sum_by-set}
use Rattle.std.proofs.lemmas.Option.{unwrap_or-slice_get, slice_get_within, get_or_from_slice_get}
use Rattle.opfs_machine.specs.declared.state.Agent.{Agent}
use Rattle.opfs_machine.specs.declared.state.State.{State}
use Rattle.opfs_machine.specs.Agents.{agent_of, own_of, nobody, with_agent, with_own, adds_own}
use Rattle.opfs_machine.specs.Sums.{all_own}
use Rattle.opfs_laws.proofs.Numbers.{IsNumber}

abbrev pub own_sum : {F R : Type 0} → (R → ℕ) → State F R → ℕ
own_sum f s = sum_by f (all_own s)

abbrev rows_sum : {R : Type 0} → (R → ℕ) → Agent R → ℕ
rows_sum f a = sum_by f a.own

sum_by-flat : {R : Type 0} (f : R → ℕ) (agents : List (Agent R)) → sum_by f (flat_map (λ a. a.own) agents) ≡ sum_by (rows_sum f) agents
sum_by-flat f [] = refl
sum_by-flat f (a ∷ agents) =
    sum_by-append f a.own (flat_map (λ a. a.own) agents) ∙ ap (λ n. sum_by f a.own + n) (sum_by-flat f agents) ∙ sym (sum_by-cons (rows_sum f) a agents)

one_same : {X : Type 0} {x y : X} → Some x ≡ Some y → x ≡ y
one_same h = cc

module _ {R : Type 0} (f : R → ℕ) where
  pub sum-agent : {F : Type 0} (s : State F R) (k : ℕ) (a : Agent R) → IsNumber s k
      → own_sum f (with_agent s k a) + sum_by f (agent_of s k).own ≡ own_sum f s + sum_by f a.own
  sum-agent s zero a h = absurd (omega (arith, h.is))
  sum-agent s (suc i) a h =
      let at : suc i - 1 ≡ i = omega arith in
      let within : i < length s.agents = omega (arith, h.is, h.within) in
      let new : own_sum f (with_agent s (suc i) a) ≡ sum_by (rows_sum f) (slice_set s.agents i a) = sum_by-flat f (slice_set s.agents (suc i - 1) a) ∙ ap (λ j. sum_by (rows_sum f) (slice_set s.agents j a)) at in
      let old : own_sum f s ≡ sum_by (rows_sum f) s.agents = sum_by-flat f s.agents in
      let set = sum_by-set (rows_sum f) s.agents i a nobody within in
      let here : rows_sum f (agent_of s (suc i)) ≡ rows_sum f (get_or s.agents i nobody) = ap (rows_sum f) (unwrap_or-slice_get s.agents i nobody) in
      omega (arith, new, old, set, here)

  pub sum-adds : {F : Type 0} (s : State F R) (k : ℕ) (r : R) → IsNumber s k → own_sum f (adds_own s k r) ≡ own_sum f s + f r
  sum-adds s k r h =
      let a = record (agent_of s k) { own = (agent_of s k).own ++ r ∷ [] } in
      let whole = sum-agent s k a h in
      let more = sum_by-append f (agent_of s k).own (r ∷ []) in
      omega (arith, whole, more)

  pub sum-sets : {F : Type 0} (s : State F R) (k n : ℕ) (r new : R) → IsNumber s k → own_of (agent_of s k) n ≡ Some r → own_sum f (with_own s k n new) + f r ≡ own_sum f s + f new
  sum-sets s k zero r new h is = cc
  sum-sets s k (suc n) r new h is =
      let rows = (agent_of s k).own in
      let at : suc n - 1 ≡ n = omega arith in
      let a = record (agent_of s k) { own = slice_set rows (suc n - 1) new } in
      let whole = sum-agent s k a h in
      let same : sum_by f (slice_set rows (suc n - 1) new) ≡ sum_by f (slice_set rows n new) = ap (λ j. sum_by f (slice_set rows j new)) at in
      let set = sum_by-set f rows n new r (slice_get_within rows n r is) in
      let here : f (get_or rows n r) ≡ f r = ap f (get_or_from_slice_get rows n r r is) in
      omega (arith, whole, same, set, here)

  pub sum-same : {F : Type 0} (s : State F R) (k : ℕ) (a : Agent R) → IsNumber s k → a.own ≡ (agent_of s k).own → own_sum f (with_agent s k a) ≡ own_sum f s
  sum-same s k a h same =
      let whole = sum-agent s k a h in
      let rows : sum_by f a.own ≡ sum_by f (agent_of s k).own = ap (sum_by f) same in
      omega (arith, whole, rows)

-- An item's part of a sum, and that of two.
pub part_of : {X : Type 0} (f : X → ℕ) (xs : List X) (n : ℕ) (x : X) → slice_get xs n ≡ Some x → f x ≤ sum_by f xs
part_of f [] n x is = cc
part_of f (y ∷ xs) zero x is = let same : f y ≡ f x = ap f (one_same is) in let whole = sum_by-cons f y xs in omega (arith, same, whole)
part_of f (y ∷ xs) (suc n) x is = let rest = part_of f xs n x is in let whole = sum_by-cons f y xs in omega (arith, rest, whole)

pub parts_of : {X : Type 0} (f : X → ℕ) (xs : List X) (n m : ℕ) (x y : X) → slice_get xs n ≡ Some x → slice_get xs m ≡ Some y → n ≢ m → f x + f y ≤ sum_by f xs
parts_of f [] n m x y is too apart = cc
parts_of f (z ∷ xs) zero zero x y is too apart = absurd (apart refl)
parts_of f (z ∷ xs) zero (suc m) x y is too apart =
    let same : f z ≡ f x = ap f (one_same is) in let rest = part_of f xs m y too in let whole = sum_by-cons f z xs in omega (arith, same, rest, whole)
parts_of f (z ∷ xs) (suc n) zero x y is too apart =
    let same : f z ≡ f y = ap f (one_same too) in let rest = part_of f xs n x is in let whole = sum_by-cons f z xs in omega (arith, same, rest, whole)
parts_of f (z ∷ xs) (suc n) (suc m) x y is too apart =
    let rest = parts_of f xs n m x y is too (λ e. apart (ap suc e)) in let whole = sum_by-cons f z xs in omega (arith, rest, whole)

pub agent-get : {F R : Type 0} (s : State F R) (i n : ℕ) (r : R) → own_of (agent_of s (suc i)) n ≡ Some r → slice_get s.agents i ≡ Some (agent_of s (suc i))
agent-get {F} {R} s i n r is =
    elim (slice_get s.agents i) as (λ o. own_of (unwrap_or o nobody) n ≡ Some r → o ≡ Some (unwrap_or o nobody)) [
      | Some a ↦ λ h. refl
      | None ↦ λ h. absurd (nobody_none n h)
    ] is
  where
    nobody_none : (n : ℕ) → own_of {R = R} nobody n ≡ Some r → ⊥
    nobody_none zero h = cc
    nobody_none (suc m) h = cc

own-part : {R : Type 0} (f : R → ℕ) (a : Agent R) (n : ℕ) (r : R) → own_of a n ≡ Some r → f r ≤ rows_sum f a
own-part f a zero r is = cc
own-part f a (suc n) r is = part_of f a.own n r is

-- A row's part of a sum over all own rows.
pub row-part : {F R : Type 0} (f : R → ℕ) (s : State F R) (k n : ℕ) (r : R) → own_of (agent_of s k) n ≡ Some r → f r ≤ own_sum f s
row-part f s zero zero r is = cc
row-part f s zero (suc n) r is = cc
row-part f s (suc i) n r is =
    let row = own-part f (agent_of s (suc i)) n r is in
    let whole = part_of (rows_sum f) s.agents i (agent_of s (suc i)) (agent-get s i n r is) in
    omega (arith, row, whole, sum_by-flat f s.agents)

-- The rows of two agents.
pub two-parts : {F R : Type 0} (f : R → ℕ) (s : State F R) (k j n m : ℕ) (r q : R) → own_of (agent_of s k) n ≡ Some r → own_of (agent_of s j) m ≡ Some q → k ≢ j → f r + f q ≤ own_sum f s
two-parts f s zero j zero m r q is too apart = cc
two-parts f s zero j (suc n) m r q is too apart = cc
two-parts f s (suc i) zero n zero r q is too apart = cc
two-parts f s (suc i) zero n (suc m) r q is too apart = cc
two-parts f s (suc i) (suc j) n m r q is too apart =
    let row = own-part f (agent_of s (suc i)) n r is in
    let other = own-part f (agent_of s (suc j)) m q too in
    let whole = parts_of (rows_sum f) s.agents i j (agent_of s (suc i)) (agent_of s (suc j)) (agent-get s i n r is) (agent-get s j m q too) (λ e. apart (ap suc e)) in
    omega (arith, row, other, whole, sum_by-flat f s.agents)
