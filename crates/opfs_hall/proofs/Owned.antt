-- The entries of one owner in a list that grows.
use Rattle.std.proofs.Common.{◌≡◌, ◌≢◌, ◌⊎◌, ℕ, List, [], ◌∷◌, ◌++◌, length, sym, refl, ap, ◌∙◌, ⊎_elim, inl, arith, Bool, true, false, cond, append_assoc, length-append, eq-eqb, ne_eqb}
use Rattle.std.specs.Prelude.{All, count_by, map, Contains, nat_eq}
use Rattle.std.proofs.lemmas.List.{append-nil, nil_from_length}
use Rattle.std.proofs.lemmas.List.Elements.{filter-append, All-nil, All-cons, All-head, All-tail, All-weaker, All-map, All-contains}
use Rattle.std.proofs.lemmas.List.Sums.{sum_by-cons}
use mathlib.Core.Logic.{dite}
use native.Mathlib.Decide.{ℕ_discrete}
use Rattle.opfs_hall.specs.History.{IsPrefix, owned, GrowsByOthers, Adds, HasEnded, Onward}
use Rattle.opfs_hall.specs.Turns.{SameOwn}
use Rattle.opfs_hall.proofs.Sums.{counts_same, counts_other}

module _ {E : Type 0} where
  pub prefix_refl : (list : List E) → IsPrefix list list
  prefix_refl list = ([], sym (append-nil list))

  pub prefix_trans : (base log list : List E) → IsPrefix base log → IsPrefix log list → IsPrefix base list
  prefix_trans base log list p q = (p.0 ++ q.0, q.1 ∙ (ap (λ l. l ++ q.0) p.1 ∙ append_assoc base p.0 q.0))

-- going on, with all that there was
module _ {X E : Type 0} (entries : X → List E) (goes : X → X → Type 0) where
  pub onward_stays : ((x : X) → goes x x) → (x : X) → Onward entries goes x x
  onward_stays stays x = (stays x, prefix_refl (entries x))

  pub onward_lasts : ((x y z : X) → goes x y → goes y z → goes x z) → (x y z : X) → Onward entries goes x y → Onward entries goes y z → Onward entries goes x z
  onward_lasts lasts x y z first second = (lasts x y z first.0 second.0, prefix_trans (entries x) (entries y) (entries z) first.1 second.1)

module _ {E : Type 0} (owner : E → ℕ) where
  pub owned-append : (k : ℕ) (xs ys : List E) → owned owner k (xs ++ ys) ≡ owned owner k xs ++ owned owner k ys
  owned-append k xs ys = filter-append (λ e. nat_eq (owner e) k) xs ys

  -- where no entry is k's, none is kept
  pub owned-others : (k : ℕ) (xs : List E) → All (λ e. owner e ≢ k) xs → owned owner k xs ≡ []
  owned-others k [] none = refl
  owned-others k (x ∷ xs) none = rw (ne_eqb (owner x) k (All-head (λ e. owner e ≢ k) x xs none)) (owned-others k xs (All-tail (λ e. owner e ≢ k) x xs none))

  -- and the other way round
  pub others_only : (k : ℕ) (xs : List E) → owned owner k xs ≡ [] → All (λ e. owner e ≢ k) xs
  others_only k [] none = All-nil (λ e. owner e ≢ k)
  others_only k (x ∷ xs) none = dite (ℕ_discrete (owner x) k)
      (λ is. let some_entry = rw (eq-eqb (owner x) k is) at none in absurd cc)
      (λ other. All-cons (λ e. owner e ≢ k) x xs other (others_only k xs (rw (ne_eqb (owner x) k other) at none)))

  -- a prefix of a list without entries of k has none either
  pub owned-prefix : (k : ℕ) (base log : List E) → IsPrefix base log → owned owner k log ≡ [] → owned owner k base ≡ []
  owned-prefix k base log p none = let whole = ap length (sym (owned-append k base p.0) ∙ (ap (owned owner k) (sym p.1) ∙ none)) in
      nil_from_length (owned owner k base) (omega (arith, whole, length-append (owned owner k base) (owned owner k p.0)))

  -- where the list has no more entries of k than the base, it grew by others
  pub grows_by_others : (k : ℕ) (base log : List E) → IsPrefix base log → SameOwn owner k log base → GrowsByOthers owner k base log
  grows_by_others k base log p same = (
    p.0,
    p.1,
    λ real. let whole = ap length (sym (owned-append k base p.0) ∙ (ap (owned owner k) (sym p.1) ∙ same real)) in
        others_only k p.0 (nil_from_length (owned owner k p.0) (omega (arith, whole, length-append (owned owner k base) (owned owner k p.0)))),
  )

  -- and then it has the same entries of k
  pub owned-grows : (k : ℕ) (base list : List E) → k ≢ 0 → GrowsByOthers owner k base list → owned owner k list ≡ owned owner k base
  owned-grows k base list real grows = ap (owned owner k) grows.1 ∙ (owned-append k base grows.0
      ∙ (ap (λ es. owned owner k base ++ es) (owned-others k grows.0 (grows.2 real)) ∙ append-nil (owned owner k base)))

  -- what an agent adds has no entry of another agent
  pub owned-adds : (k agent : ℕ) (log list : List E) → Adds owner agent log list → k ≢ agent → k ≢ 0 → owned owner k list ≡ owned owner k log
  owned-adds k agent log list adds other real = let none : owned owner k adds.0 ≡ [] = owned-others k adds.0 (All-weaker (λ e. (owner e ≡ agent) ⊎ (owner e ≡ 0)) (λ e. owner e ≢ k)
      (λ e h is. ⊎_elim (λ a. other (sym is ∙ a)) (λ z. real (sym is ∙ z)) h) adds.0 adds.2) in
      ap (owned owner k) adds.1 ∙ (owned-append k log adds.0 ∙ (ap (λ es. owned owner k log ++ es) none ∙ append-nil (owned owner k log)))

  -- for callers of `leave`: an agent that adds nothing, one entry of its own, or one of the two
  pub adds_none : (agent : ℕ) (base list : List E) → list ≡ base → Adds owner agent base list
  adds_none agent base list is = ([], is ∙ sym (append-nil base), All-nil (λ e. (owner e ≡ agent) ⊎ (owner e ≡ 0)))

  pub adds_one : (agent : ℕ) (base list : List E) (e : E) → owner e ≡ agent → list ≡ base ++ e ∷ [] → Adds owner agent base list
  adds_one agent base list e own is = let Own : E → Type 0 = λ x. (owner x ≡ agent) ⊎ (owner x ≡ 0) in
      (e ∷ [], is, All-cons Own e [] (inl own) (All-nil Own))

  pub adds_if : (agent : ℕ) (added : Bool) (base list : List E) (e : E) → owner e ≡ agent → list ≡ cond added (base ++ e ∷ []) base → Adds owner agent base list
  adds_if agent false base list e own is = adds_none agent base list is
  adds_if agent true base list e own is = adds_one agent base list e own is

  -- what ended stays ended while another agent adds
  pub ended_stays : (agent : ℕ) (log list : List E) (p : ℕ × List E) → Adds owner agent log list → p.0 ≢ agent → p.0 ≢ 0 → HasEnded owner log p → HasEnded owner list p
  ended_stays agent log list p adds other real h = (prefix_trans p.1 log list h.0 (adds.0, adds.1), owned-adds p.0 agent log list adds other real ∙ h.1)

-- the pairs of passes that ended
module _ {E : Type 0} where
  -- a number that is counted nowhere is that of none
  pub not_named : (k : ℕ) (ended : List (ℕ × List E)) → count_by (λ p. nat_eq p.0 k) ended ≡ 0 → All (λ p. p.0 ≢ k) ended
  not_named k [] none = All-nil (λ p. p.0 ≢ k)
  not_named k (x ∷ xs) none = let split = sum_by-cons (λ (p : ℕ × List E). cond (nat_eq p.0 k) 1 0) x xs in dite (ℕ_discrete x.0 k)
      (λ is. let one = counts_same x.0 k is in absurd (omega arith))
      (λ other. All-cons (λ p. p.0 ≢ k) x xs other (not_named k xs (let zero = counts_other x.0 k other in omega arith)))

  -- a number among them is counted
  pub named : (k : ℕ) (ended : List (ℕ × List E)) → Contains (map (λ p. p.0) ended) k → count_by (λ p. nat_eq p.0 k) ended ≢ 0
  named k ended there none = All-contains (λ j. j ≢ k) (map (λ p. p.0) ended) k (All-map (λ j. j ≢ k) (λ p. p.0) ended (not_named k ended none)) there refl
