-- Agents and own rows by their numbers.
use Rattle.std.proofs.Common.{◌≡◌, ◌≢◌, ℕ, ◌-◌, ◌<◌, zero, suc, true, List, [], ◌∷◌, length, Option, Some, None, unwrap_or, refl, sym, ap, ◌∙◌, slice_set, arith, IsTrue}
use Rattle.std.specs.Prelude.{slice_get}
use Rattle.std.specs.List.{filter_map, cons_option}
use Rattle.std.proofs.lemmas.Grind.{get_or-set_at}
use Rattle.std.proofs.lemmas.List.{get_or-set_other}
use Rattle.std.proofs.lemmas.Option.{unwrap_or-slice_get, slice_get_within}
use Rattle.opfs_machine.specs.declared.state.Agent.{Agent}
use Rattle.opfs_machine.specs.declared.state.State.{State}
use Rattle.opfs_machine.specs.Agents.{agent_of, nobody, with_agent}

-- There is an agent of this number.
pub record IsNumber {F R : Type 0} (s : State F R) (k : ℕ) : Type 0 where
  pub index : ℕ
  pub is : k ≡ suc index
  pub within : index < length s.agents

pub number-of : {F R : Type 0} (s : State F R) (k : ℕ) → IsTrue (agent_of s k).live → IsNumber s k
number-of s zero live = cc
number-of s (suc i) live =
    elim (slice_get s.agents i) as (λ o. slice_get s.agents i ≡ o → (unwrap_or o nobody).live ≡ true → IsNumber s (suc i)) [
      | Some a ↦ λ is live. record { index = i; is = refl; within = slice_get_within s.agents i a is }
      | None ↦ λ is live. cc
    ] refl live

pub agent-set : {F R : Type 0} (s : State F R) (k : ℕ) (a : Agent R) → IsNumber s k → agent_of (with_agent s k a) k ≡ a
agent-set s zero a h = absurd (omega (arith, h.is))
agent-set s (suc i) a h =
    let same : i ≡ suc i - 1 = omega arith in
    let at : suc i - 1 < length s.agents = omega (arith, h.is, h.within) in
    unwrap_or-slice_get (slice_set s.agents (suc i - 1) a) i nobody ∙ get_or-set_at s.agents (suc i - 1) i a nobody same at

pub agent-other : {F R : Type 0} (s : State F R) (k j : ℕ) (a : Agent R) → IsNumber s k → j ≢ k → agent_of (with_agent s k a) j ≡ agent_of s j
agent-other s k zero a h apart = refl
agent-other s k (suc i) a h apart =
    let other : i ≢ k - 1 = λ e. apart (omega (arith, h.is)) in
    unwrap_or-slice_get (slice_set s.agents (k - 1) a) i nobody
    ∙ get_or-set_other s.agents (k - 1) i a nobody other
    ∙ sym (unwrap_or-slice_get s.agents i nobody)

-- A row that is changed to one that is seen alike.
pub filter_map-set : {X Y : Type 0} (f : X → Option Y) (xs : List X) (i : ℕ) (x y : X) → slice_get xs i ≡ Some x → f y ≡ f x
    → filter_map f (slice_set xs i y) ≡ filter_map f xs
filter_map-set f [] i x y is alike = refl
filter_map-set f (z ∷ zs) zero x y is alike = ap (λ o. cons_option o (filter_map f zs)) (alike ∙ ap f (sym (same is)))
  where
    same : Some z ≡ Some x → z ≡ x
    same e = cc
filter_map-set f (z ∷ zs) (suc i) x y is alike = ap (cons_option (f z)) (filter_map-set f zs i x y is alike)

pub filter_map-alike : {X Y : Type 0} (f g : X → Option Y) (xs : List X) → ((i : ℕ) (x : X) → slice_get xs i ≡ Some x → f x ≡ g x) → filter_map f xs ≡ filter_map g xs
filter_map-alike f g [] h = refl
filter_map-alike f g (x ∷ xs) h = ap (λ o. cons_option o (filter_map f xs)) (h zero x refl) ∙ ap (cons_option (g x)) (filter_map-alike f g xs (λ i y is. h (suc i) y is))
