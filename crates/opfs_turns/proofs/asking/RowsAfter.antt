-- An own row after it was set, or one was added.
use Rattle.std.proofs.Common.{◌≡◌, ◌≢◌, ℕ, ◌-◌, zero, suc, List, [], ◌∷◌, ◌++◌, length, slice_set, Option, Some, None, refl, ap, ◌∙◌, arith}
use Rattle.std.specs.Prelude.{slice_get}
use Rattle.std.proofs.lemmas.List.{length-append}
use Rattle.opfs_base.specs.Texts.{Text}
use Rattle.opfs_hist.specs.declared.entry.Entry.{Entry}
use Rattle.opfs_machine.specs.declared.own.Own.{Own}
use Rattle.opfs_machine.specs.declared.state.Agent.{Agent}
use Rattle.opfs_machine.specs.declared.state.State.{State}
use Rattle.opfs_machine.specs.Agents.{agent_of, own_of, with_own, adds_own}
use Rattle.opfs_machine.specs.Effects.{with_changed}
use Rattle.opfs_machine.specs.Openings.{Opening}
use Rattle.opfs_laws.proofs.Numbers.{IsNumber, agent-set}
use Rattle.opfs_store.specs.Acts.Acting.{StandsForLeft}
use Rattle.opfs_store.specs.Acts.Asking.{IsHandedIn}
use Rattle.opfs_store.specs.Copies.Copies.{StandsFor}
use Rattle.opfs_work.specs.Works.{WorkingCopy}

get-set : {X : Type 0} (xs : List X) (i : ℕ) (x y : X) → slice_get xs i ≡ Some x → slice_get (slice_set xs i y) i ≡ Some y
get-set [] i x y is = cc
get-set (z ∷ xs) zero x y is = refl
get-set (z ∷ xs) (suc i) x y is = get-set xs i x y is

last-get : {X : Type 0} (xs : List X) (x : X) → slice_get (xs ++ x ∷ []) (length xs) ≡ Some x
last-get [] x = refl
last-get (y ∷ xs) x = last-get xs x

less_one : (i : ℕ) → suc i - 1 ≡ i
less_one i = omega arith

pub some-same : {X : Type 0} {x y : X} → Some x ≡ Some y → x ≡ y
some-same e = cc

set-own : (a : Agent Own) (n : ℕ) (old new : Own) → own_of a n ≡ Some old → own_of (record a { own = slice_set a.own (n - 1) new }) n ≡ Some new
set-own a zero old new is = cc
set-own a (suc i) old new is = ap (λ j. slice_get (slice_set a.own j new) i) (less_one i) ∙ get-set a.own i old new is

module _ (t : State Text Own) (k : ℕ) (number : IsNumber t k) where
  module _ (n : ℕ) (r : Own) (is : own_of (agent_of t k) n ≡ Some r) where
    pub own-set : (new : Own) → own_of (agent_of (with_own t k n new) k) n ≡ Some new
    own-set new =
        ap (λ (a : Agent Own). own_of a n) (agent-set t k (record (agent_of t k) { own = slice_set (agent_of t k).own (n - 1) new }) number)
        ∙ set-own (agent_of t k) n r new is

    changed-by : (change : Own → Own) (o : Option Own) → o ≡ Some r → own_of (agent_of (elim o as (λ x. State Text Own) [ Some x ↦ with_own t k n (change x) | None ↦ t ]) k) n ≡ Some (change r)
    changed-by change None same = cc
    changed-by change (Some x) same = own-set (change x) ∙ ap (λ y. Some (change y)) (some-same same)

    pub own-changed : (change : Own → Own) → own_of (agent_of (with_changed t k n change) k) n ≡ Some (change r)
    unfolding with_changed
    own-changed change = changed-by change (own_of (agent_of t k) n) is

  pub own-added : (r : Own) → (agent_of (adds_own t k r) k).own ≡ (agent_of t k).own ++ r ∷ []
  own-added r = ap (λ (a : Agent Own). a.own) (agent-set t k (record (agent_of t k) { own = (agent_of t k).own ++ r ∷ [] }) number)

pub last-own : (a : Agent Own) (xs : List Own) (r : Own) → a.own ≡ xs ++ r ∷ [] → own_of a (length a.own) ≡ Some r
last-own a xs r is =
    let count : length a.own ≡ suc (length xs) = ap length is ∙ length-append xs (r ∷ []) ∙ omega arith in
    ap (own_of a) count ∙ ap (λ ys. slice_get ys (length xs)) is ∙ last-get xs r

pub last-number : (xs ys : List Own) (r : Own) → ys ≡ xs ++ r ∷ [] → length ys ≢ 0
last-number xs ys r is none = let n = ap length is ∙ length-append xs (r ∷ []) in absurd (omega (arith, n, none))

-- A row that is left open has its working copy.
pub left-stands : (tells : Type 0) (o : Opening) (h : List Entry) (k n : ℕ) (work : WorkingCopy) → n ≢ 0 → StandsForLeft tells o h k n work → StandsFor tells o h k n work
left-stands tells o h k zero work some left = absurd (some refl)
left-stands tells o h k (suc n) work some left = left

-- No row has the number 0.
pub some-number : (a : Agent Own) (n : ℕ) (r : Own) → own_of a n ≡ Some r → n ≢ 0
some-number a zero r is = absurd cc
some-number a (suc n) r is = λ none. absurd (omega (arith, none))

-- A working copy that stands for a row may be handed in with it.
pub handed-row : (tells : Type 0) (o : Opening) (h : List Entry) (k n : ℕ) (work : WorkingCopy) → StandsFor tells o h k n work → IsHandedIn tells o h k n work
handed-row tells o h k zero work stands = absurd (none-there stands.there)
  where
    none-there : None ≡ Some stands.row → ⊥
    none-there e = cc
handed-row tells o h k (suc n) work stands = stands
