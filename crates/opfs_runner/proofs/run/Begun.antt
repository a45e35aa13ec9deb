-- Agents that are made of the passes of a hall.
use Rattle.std.proofs.Common.{◌≡◌, ℕ, zero, suc, ◌+◌, ◌<◌, map, List, [], ◌∷◌, ◌++◌, length, Option, Some, inl, inr, refl, sym, ap, ◌∙◌, subst, arith, length-append}
use Rattle.std.specs.Prelude.{slice_get, unwrap_or}
use Rattle.std.proofs.lemmas.Bool.{cases_lt}
use Rattle.std.proofs.lemmas.List.{length-map}
use Rattle.std.proofs.lemmas.Option.{slice_get_within}
use Rattle.opfs_base.specs.Texts.{Text}
use Rattle.opfs_hall.specs.Seen.{HallSeen, PassSeen, new_pass, AreNew}
use Rattle.opfs_hist.specs.declared.entry.Entry.{Entry}
use Rattle.opfs_machine.specs.Agents.{agent_of, nobody}
use Rattle.opfs_machine.specs.Openings.{Opening, agent_begun, begun}
use Rattle.opfs_runner.specs.Runs.{IsReadyFor}
use Rattle.opfs_script.specs.Scripts.{Asked}
use Rattle.opfs_script_run.specs.Stage.Openings.{who_of}
use Rattle.opfs_turns.specs.Agents.{AgentSeen}
use Rattle.opfs_turns.specs.Calls.{MayBegin, new_agent}
use Rattle.opfs_runner.specs.declared.run.agents.Starter.{Starter}
use Rattle.opfs_runner.specs.Run.Begun.{AreAgentsOf, AreBegun, MayBeginAll}

-- ---- lists

pub get-front : {A : Type 0} (xs : List A) (x : A) (i : ℕ) → i < length xs → slice_get (xs ++ x ∷ []) i ≡ slice_get xs i
get-front [] x i within = absurd (omega (arith, within))
get-front (y ∷ ys) x zero within = refl
get-front (y ∷ ys) x (suc i) within = get-front ys x i (omega (arith, within))

pub get-last : {A : Type 0} (xs : List A) (x : A) → slice_get (xs ++ x ∷ []) (length xs) ≡ Some x
get-last [] x = refl
get-last (y ∷ ys) x = get-last ys x

pub map-last : {A B : Type 0} (f : A → B) (xs : List A) (x : A) → map f (xs ++ x ∷ []) ≡ map f xs ++ f x ∷ []
map-last f [] x = refl
map-last f (y ∷ ys) x = ap (λ zs. f y ∷ zs) (map-last f ys x)

pub get-map : {A B : Type 0} (f : A → B) (xs : List A) (i : ℕ) (x : A) → slice_get xs i ≡ Some x → slice_get (map f xs) i ≡ Some (f x)
get-map f [] i x is = absurd cc
get-map f (y ∷ ys) zero x is = let same : y ≡ x = cc in ap (λ z. Some (f z)) same
get-map f (y ∷ ys) (suc i) x is = get-map f ys i x is

pub map-get : {A B : Type 0} (f : A → B) (xs : List A) (i : ℕ) (y : B) → slice_get (map f xs) i ≡ Some y → (x : A) × (slice_get xs i ≡ Some x) × (f x ≡ y)
map-get f [] i y is = absurd cc
map-get f (x ∷ xs) zero y is = (x, refl, cc)
map-get f (x ∷ xs) (suc i) y is = map-get f xs i y is

pub one-of : {A : Type 0} (xs : List A) (x : A) → length xs ≡ 1 → slice_get xs 0 ≡ Some x → xs ≡ x ∷ []
one-of [] x one is = absurd (omega (arith, one))
one-of (y ∷ []) x one is = let same : y ≡ x = cc in ap (λ z. z ∷ []) same
one-of (y ∷ z ∷ more) x one is = absurd (omega (arith, one))

pub none-of : {A : Type 0} (xs : List A) → length xs ≡ 0 → xs ≡ []
none-of [] none = refl
none-of (x ∷ xs) none = absurd (omega (arith, none))

-- ---- passes

module _ {O : Type 0} where
  pub new-front : (of : HallSeen O) (n : ℕ) (passes : List (PassSeen O Entry)) (p : PassSeen O Entry) → AreNew of (n + 1) (passes ++ p ∷ []) → AreNew of n passes
  new-front of n passes p new =
      let count : length passes ≡ n = omega (arith, new.0, length-append passes (p ∷ [])) in
      (count, λ k below. sym (get-front passes p k (omega (arith, count, below))) ∙ new.1 k (omega (arith, below)))

  pub new-last : (of : HallSeen O) (n : ℕ) (passes : List (PassSeen O Entry)) (p : PassSeen O Entry) → AreNew of (n + 1) (passes ++ p ∷ []) → p ≡ new_pass of n []
  new-last of n passes p new =
      let count : length passes ≡ n = omega (arith, new.0, length-append passes (p ∷ [])) in
      let here : Some p ≡ Some (new_pass of n []) = sym (get-last passes p) ∙ (ap (slice_get (passes ++ p ∷ [])) count ∙ new.1 n (omega arith)) in
      cc

  module _ (opened : O → Opening) where
    pub may-front : (keys : List (Option Text)) (key : Option Text) (passes : List (PassSeen O Entry)) (p : PassSeen O Entry) → length passes ≡ length keys + 1
        → MayBeginAll opened (keys ++ key ∷ []) (passes ++ p ∷ []) → MayBeginAll opened keys passes
    may-front keys key passes p count may i k is =
        let within : i < length keys = slice_get_within keys i k is in
        let has = may i k (get-front keys key i within ∙ is) in
        (has.0, sym (get-front passes p (suc i) (omega (arith, within, count))) ∙ has.1, has.2)

    pub may-last : (keys : List (Option Text)) (key : Option Text) (passes : List (PassSeen O Entry)) (p : PassSeen O Entry) → length passes ≡ length keys + 1
        → MayBeginAll opened (keys ++ key ∷ []) (passes ++ p ∷ []) → MayBegin opened p key
    may-last keys key passes p count may =
        let has = may (length keys) key (get-last keys key) in
        let place : length passes ≡ suc (length keys) = omega (arith, count) in
        let same : Some p ≡ Some has.0 = sym (get-last passes p) ∙ (ap (slice_get (passes ++ p ∷ [])) place ∙ has.1) in
        let is : has.0 ≡ p = cc in
        subst (λ (x : PassSeen O Entry). MayBegin opened x key) is has.2

    pub begun-more : (of : HallSeen O) (keys : List (Option Text)) (key : Option Text) (agents : List (AgentSeen O)) (a : AgentSeen O) → AreBegun opened of keys agents → a ≡ new_agent opened (new_pass of (length keys + 1) []) key
        → AreBegun opened of (keys ++ key ∷ []) (agents ++ a ∷ [])
    begun-more of keys key agents a are is = record {
      count = length-append agents (a ∷ []) ∙ omega (arith, are.count, length-append keys (key ∷ []));
      each = each;
    }
      where
        each : (i : ℕ) (k : Option Text) → slice_get (keys ++ key ∷ []) i ≡ Some k → slice_get (agents ++ a ∷ []) i ≡ Some (new_agent opened (new_pass of (suc i) []) k)
        each i k at = elim (cases_lt i (length keys)) [
          | inl below ↦ get-front agents a i (omega (arith, below, are.count)) ∙ are.each i k (sym (get-front keys key i below) ∙ at)
          | inr past ↦
              let within : i < length (keys ++ key ∷ []) = slice_get_within (keys ++ key ∷ []) i k at in
              let last : i ≡ length keys = omega (arith, past, within, length-append keys (key ∷ [])) in
              let same : Some key ≡ Some k = sym (get-last keys key) ∙ (ap (slice_get (keys ++ key ∷ [])) (sym last) ∙ at) in
              let is-key : key ≡ k = cc in
              let place : length keys + 1 ≡ suc i = omega (arith, last) in
              let agent-last : i ≡ length agents = omega (arith, last, are.count) in
              ap (slice_get (agents ++ a ∷ [])) agent-last ∙ get-last agents a ∙ ap Some is
              ∙ (λ j. Some (new_agent opened (new_pass of (place j) []) (is-key j)))
        ]

-- ---- one agent more

abbrev pub keys_of : List Starter → List (Option Text)
keys_of starters = map (λ s. s.key) starters

module _ {O : Type 0} (starters rest : List Starter) (s : Starter) (passes front : List (PassSeen O Entry)) (p : PassSeen O Entry) (split : starters ≡ rest ++ s ∷ []) (parted : passes ≡ front ++ p ∷ [])
    (count : length passes ≡ length starters + 1) where
  pub starters-count : length starters ≡ length rest + 1
  starters-count = ap length split ∙ length-append rest (s ∷ [])

  pub front-count : length front ≡ length rest + 1
  front-count = omega (arith, count, starters-count, ap length parted, length-append front (p ∷ []))

  keys-count : length front ≡ length (keys_of rest) + 1
  keys-count = front-count ∙ ap (λ n. n + 1) (sym (length-map rest (λ x. x.key)))

  module _ (opened : O → Opening) where
    may-split : MayBeginAll opened (keys_of starters) passes → MayBeginAll opened (keys_of rest ++ s.key ∷ []) (front ++ p ∷ [])
    may-split may =
        subst (λ (ks : List (Option Text)). MayBeginAll opened ks (front ++ p ∷ [])) (ap keys_of split ∙ map-last (λ (x : Starter). x.key) rest s)
        (subst (λ (ps : List (PassSeen O Entry)). MayBeginAll opened (keys_of starters) ps) parted may)

    pub may-rest : MayBeginAll opened (keys_of starters) passes → MayBeginAll opened (keys_of rest) front
    may-rest may = may-front opened (keys_of rest) s.key front p keys-count (may-split may)

    pub may-this : MayBeginAll opened (keys_of starters) passes → MayBegin opened p s.key
    may-this may = may-last opened (keys_of rest) s.key front p keys-count (may-split may)

  module _ (of : HallSeen O) (new : AreNew of (length starters + 1) passes) where
    new-split : AreNew of (length rest + 1 + 1) (front ++ p ∷ [])
    new-split = subst (λ (ps : List (PassSeen O Entry)). AreNew of (length rest + 1 + 1) ps) parted (subst (λ n. AreNew of (n + 1) passes) starters-count new)

    pub new-rest : AreNew of (length rest + 1) front
    new-rest = new-front of (length rest + 1) front p new-split

    pub begun-this : (opened : O → Opening) (agents : List (AgentSeen O)) (a : AgentSeen O) → AreBegun opened of (keys_of rest) agents → a ≡ new_agent opened p s.key → AreBegun opened of (keys_of starters) (agents ++ a ∷ [])
    begun-this opened agents a are is =
        let place : length rest + 1 ≡ length (keys_of rest) + 1 = ap (λ n. n + 1) (sym (length-map rest (λ x. x.key))) in
        let last : p ≡ new_pass of (length (keys_of rest) + 1) [] = new-last of (length rest + 1) front p new-split ∙ ap (λ n. new_pass of n []) place in
        subst (λ (ks : List (Option Text)). AreBegun opened of ks (agents ++ a ∷ [])) (sym (ap keys_of split ∙ map-last (λ (x : Starter). x.key) rest s))
        (begun-more opened of (keys_of rest) s.key agents a are (is ∙ ap (λ x. new_agent opened x s.key) last))

-- ---- the agents of scripts

length-keys : (scripts : List Asked) → length (map (λ (s : Asked). s.key) scripts) ≡ length scripts
length-keys [] = refl
length-keys (s ∷ more) = ap suc (length-keys more)

module _ {O : Type 0} (opened : O → Opening) (of : HallSeen O) (scripts : List Asked) (agents-of : AreAgentsOf (opened of.opening) scripts) where
  abbrev keys : List (Option Text)
  keys = map (λ (s : Asked). s.key) scripts

  pub may-all : (passes : List (PassSeen O Entry)) → AreNew of (length scripts + 1) passes → MayBeginAll opened keys passes
  may-all passes new i key is =
      let found = map-get (λ (s : Asked). s.key) scripts i key is in
      let within : i < length scripts = slice_get_within scripts i found.0 found.1 in
      let agents : slice_get (map agent_begun (opened of.opening).agents) i ≡ Some (agent_begun (who_of found.0)) =
      ap (λ ws. slice_get (map agent_begun ws) i) agents-of ∙ get-map agent_begun (map who_of scripts) i (who_of found.0) (get-map who_of scripts i found.0 found.1) in
      let agent : agent_of (begun (opened of.opening)) (suc i) ≡ agent_begun (who_of found.0) = ap (λ o. unwrap_or o nobody) agents in (
        new_pass of (suc i) [],
        new.1 (suc i) (omega (arith, within)),
        record {
          idle = refl;
          real = λ none. omega (arith, none);
          fresh = refl;
          live = ap (λ a. a.live) agent;
          own_key = ap (λ a. a.key) agent ∙ found.2;
        },
      )

  pub ready-all : (agents : List (AgentSeen O)) → AreBegun opened of keys agents → IsReadyFor of scripts agents
  ready-all agents are = record {
    few = omega (arith, are.count, length-keys scripts);
    each = λ i a s at script.
        let key : slice_get keys i ≡ Some s.key = get-map (λ (x : Asked). x.key) scripts i s script in
        let same : Some a ≡ Some (new_agent opened (new_pass of (suc i) []) s.key) = sym at ∙ are.each i s.key key in
        let is : a ≡ new_agent opened (new_pass of (suc i) []) s.key = cc in
        subst (λ (x : AgentSeen O). (x.pass.agent ≡ suc i) × Rattle.opfs_runner.specs.Runs.IsReady of s x) (sym is)
        (refl, record { hall = refl; fresh = refl; pending = refl; ended = refl; number = refl; entries = refl; rows = refl; key = refl });
  }

-- ---- what stands ready for a run

module _ {O : Type 0} (opened : O → Opening) (of : HallSeen O) (scripts : List Asked) (agents-of : AreAgentsOf (opened of.opening) scripts) (starters : List Starter)
    (same : keys_of starters ≡ map (λ s. s.key) scripts) (passes : List (PassSeen O Entry)) (new : AreNew of (length scripts + 1) passes) where
  starters-all : length starters ≡ length scripts
  starters-all = sym (length-map starters (λ s. s.key)) ∙ ap length same ∙ length-keys scripts

  pub may-begin : MayBeginAll opened (keys_of starters) passes
  may-begin = subst (λ (ks : List (Option Text)). MayBeginAll opened ks passes) (sym same) (may-all opened of scripts agents-of passes new)

  pub new-starters : AreNew of (length starters + 1) passes
  new-starters = subst (λ n. AreNew of (n + 1) passes) (sym starters-all) new

  pub ready : (agents : List (AgentSeen O)) → AreBegun opened of (keys_of starters) agents → IsReadyFor of scripts agents
  ready agents are = ready-all opened of scripts agents-of agents (subst (λ (ks : List (Option Text)). AreBegun opened of ks agents) same are)

  pub agents-count : (agents : List (AgentSeen O)) → length agents ≡ length starters → length agents ≡ length scripts
  agents-count agents is = is ∙ starters-all
