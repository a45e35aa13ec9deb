-- What a turn, an agent's turns and a join leave.
use Rattle.std.proofs.Common.{◌≡◌, ◌≢◌, ℕ, zero, suc, ◌+◌, ◌≤◌, Bool, true, false, cond, ◌&&◌, Option, Some, List, [], ◌∷◌, ◌++◌, get_or, drop, sym, refl, ap, ◌∙◌, subst, ⊎_elim, arith, add-one, eq-eqb}
use Rattle.std.specs.Prelude.{map, All, Contains, slice_get}
use Rattle.std.specs.Option.{option_map_or}
use Rattle.std.proofs.lemmas.List.Elements.{All-nil, All-cons, All-append, All-map, All-contains, Contains-append_left, Contains-append_right, Contains-append_cases}
use Rattle.std.proofs.lemmas.Option.{get_or_from_slice_get}
use mathlib.Core.List.{map-append}
use lib.ListN.{length-map}
use Rattle.opfs_hall.specs.History.{GrowsByOthers, HasEnded}
use Rattle.opfs_hall.specs.Seen.{HallSeen, new_pass, AreNew, joined, HasAll}
use Rattle.opfs_hall.proofs.Owned.{owned-append, owned-grows}
use Rattle.opfs_hall_tests.specs.declared.marks.Mark.{Mark}
use Rattle.opfs_hall_tests.specs.declared.marks.Start.{Start}
use Rattle.opfs_hall_tests.specs.Runs.{Seen, mark, own_marks, marks_of, HasRun, IsSamePass, IsReady, pairs, HasRunAll}

-- an agent's own mark is its own
own_marks-mark : (agent count : ℕ) → own_marks agent (mark agent count ∷ []) ≡ mark agent count ∷ []
own_marks-mark agent count = ap (λ (b : Bool). cond b (mark agent count ∷ []) []) (eq-eqb agent agent refl)

-- after a turn the agent's own marks are those before it, and the one that it left
pub own_marks-turn : (agent count : ℕ) (marked : Bool) (base list after : List Mark) → agent ≢ 0 → GrowsByOthers (λ (m : Mark). m.agent) agent base list
    → after ≡ cond marked (list ++ mark agent count ∷ []) list → own_marks agent after ≡ cond marked (own_marks agent base ++ mark agent count ∷ []) (own_marks agent base)
own_marks-turn agent count false base list after real grows is = ap (own_marks agent) is ∙ owned-grows (λ (m : Mark). m.agent) agent base list real grows
own_marks-turn agent count true base list after real grows is = ap (own_marks agent) is ∙ (owned-append (λ (m : Mark). m.agent) agent list (mark agent count ∷ [])
    ∙ (λ i. owned-grows (λ (m : Mark). m.agent) agent base list real grows i ++ own_marks-mark agent count i))

-- one more turn
pub has_run_more : (agent count : ℕ) (marked complete : Bool) (old new : List Mark)
    → own_marks agent new ≡ cond marked (own_marks agent old ++ mark agent count ∷ []) (own_marks agent old)
    → (complete ≡ true → own_marks agent old ≡ marks_of agent count) → (marked && complete) ≡ true → own_marks agent new ≡ marks_of agent (count + 1)
has_run_more agent count false complete old new turn before both = absurd cc
has_run_more agent count true false old new turn before both = absurd cc
has_run_more agent count true true old new turn before both = turn ∙ (ap (λ ms. ms ++ mark agent count ∷ []) (before refl) ∙ ap (marks_of agent) (sym (add-one count)))

-- the number of a pass that was just joined is among the pairs
contains_first : (k : ℕ) (ks : List ℕ) → Contains (k ∷ ks) k
contains_first k ks = (0, omega arith, refl)

module _ (of : HallSeen Start) (turns : ℕ) (before after : Seen) (complete : Bool) (ready : IsReady of before) (same : IsSamePass before after)
    (own : complete ≡ true → HasRun turns (before.agent, after.base)) where
  agent_is : after.agent ≡ before.agent
  agent_is = ap (λ (p : Seen). p.agent) same

  ended_is : after.ended ≡ []
  ended_is = ap (λ (p : Seen). p.ended) same ∙ ready.ended

  own_pairs : complete ≡ true → All (HasRun turns) (pairs after)
  own_pairs done = All-cons (HasRun turns) (after.agent, after.base) after.ended (subst (λ (a : ℕ). HasRun turns (a, after.base)) (sym agent_is) (own done))
      (subst (All (HasRun turns)) (sym ended_is) (All-nil (HasRun turns)))

  own_named : (k : ℕ) → Contains (before.agent ∷ []) k → Contains (map (λ p. p.0) (pairs after)) k
  own_named k there = All-contains (Contains (map (λ p. p.0) (pairs after))) (before.agent ∷ []) k
      (All-cons (Contains (map (λ p. p.0) (pairs after))) before.agent [] (subst (Contains (map (λ p. p.0) (pairs after))) agent_is (contains_first after.agent (map (λ p. p.0) after.ended)))
      (All-nil (Contains (map (λ p. p.0) (pairs after))))) there

  -- one agent ran
  pub has_run_one : (passes : List Seen) → passes ≡ before ∷ [] → HasRunAll of turns passes after complete
  has_run_one passes is = record {
    hall = ap (λ (p : Seen). p.hall) same ∙ ready.hall;
    agent = λ zero_is. ready.agent (sym agent_is ∙ zero_is);
    idle = ap (λ (p : Seen). p.busy) same ∙ ready.idle;
    named = λ k there. own_named k (subst (λ (ps : List Seen). Contains (map (λ p. p.agent) ps) k) is there);
    own = own_pairs;
  }

  -- and is joined into the others
  pub has_run_joined : (passes rest : List Seen) (others : Seen) (all : Bool) → passes ≡ rest ++ before ∷ [] → HasRunAll of turns rest others all
      → HasRunAll of turns passes (joined others after) (all && complete)
  has_run_joined passes rest others all is ran = record {
    hall = ran.hall;
    agent = ran.agent;
    idle = ran.idle;
    named = λ k there.
        let split : Contains (map (λ p. p.agent) rest ++ before.agent ∷ []) k =
        subst (λ (ks : List ℕ). Contains ks k) (ap (map (λ (p : Seen). p.agent)) is ∙ map-append (λ (p : Seen). p.agent) rest (before ∷ [])) there in
        let names : map (λ p. p.0) (pairs (joined others after)) ≡ map (λ p. p.0) (pairs others) ++ map (λ p. p.0) (pairs after) = map-append (λ (p : ℕ × List Mark). p.0) (pairs others) (pairs after) in
        subst (λ (ks : List ℕ). Contains ks k) (sym names) (⊎_elim
        (λ earlier. Contains-append_left (map (λ p. p.0) (pairs others)) (map (λ p. p.0) (pairs after)) k (ran.named k earlier))
        (λ last. Contains-append_right (map (λ p. p.0) (pairs others)) (map (λ p. p.0) (pairs after)) k (own_named k last))
        (Contains-append_cases (map (λ p. p.agent) rest) (before.agent ∷ []) k split));
    own = λ both. All-append (HasRun turns) (pairs others) (pairs after) (ran.own (left_true all complete both)) (own_pairs (right_true all complete both));
  } where
    left_true : (a b : Bool) → (a && b) ≡ true → a ≡ true
    left_true true b e = refl
    left_true false b e = e

    right_true : (a b : Bool) → (a && b) ≡ true → b ≡ true
    right_true true b e = e
    right_true false b e = absurd cc

-- the passes of a new hall: the owner's, and those of agents
module _ (of : HallSeen Start) where
  ready_is : (j : ℕ) → IsReady of (new_pass of (suc j) [])
  ready_is j = record { hall = refl; agent = λ e. absurd (omega arith); base = refl; ended = refl; idle = refl }

  agent_at : (passes : List Seen) (j d : ℕ) (p : Seen) → slice_get passes j ≡ Some p → get_or (map (λ q. q.agent) passes) j d ≡ p.agent
  agent_at [] j d p at = absurd cc
  agent_at (x ∷ xs) zero d p at = ap (λ (o : Option Seen). option_map_or (λ q. q.agent) o d) at
  agent_at (x ∷ xs) (suc j) d p at = agent_at xs j d p at

  pub new-owner : (n : ℕ) (passes : List Seen) (d : Seen) → AreNew of (n + 1) passes → get_or passes 0 d ≡ new_pass of 0 []
  new-owner n passes d new = get_or_from_slice_get passes 0 (new_pass of 0 []) d (new.1 0 (omega arith))

  pub new-ready : (n : ℕ) (passes : List Seen) → AreNew of (n + 1) passes → All (IsReady of) (drop 1 passes)
  new-ready n [] new = All-nil (IsReady of)
  new-ready n (x ∷ xs) new = λ k d below. let long = new.0 in
      subst (IsReady of) (sym (get_or_from_slice_get xs k (new_pass of (suc k) []) d (new.1 (suc k) (omega arith)))) (ready_is k)

  pub new-named : (n : ℕ) (passes : List Seen) → AreNew of (n + 1) passes → (k : ℕ) → k ≢ 0 → k ≤ n → Contains (map (λ p. p.agent) (drop 1 passes)) k
  new-named n [] new k real small = absurd (omega (arith, new.0))
  new-named n (x ∷ xs) new zero real small = absurd (real refl)
  new-named n (x ∷ xs) new (suc j) real small = let long = new.0 in
      (j, omega (arith, length-map xs (λ (p : Seen). p.agent)), agent_at xs j (suc j) (new_pass of (suc j) []) (new.1 (suc j) (omega arith)))

-- what stands at the end is what each agent did
pub has_run_end : (turns k : ℕ) (list : List Mark) (ended : List (ℕ × List Mark)) → All (HasEnded (λ (m : Mark). m.agent) list) ended → All (HasRun turns) ended
    → Contains (map (λ p. p.0) ended) k → HasRun turns (k, list)
has_run_end turns k list ended stands own there = All-contains (λ j. HasRun turns (j, list)) (map (λ p. p.0) ended) k
    (All-map (λ j. HasRun turns (j, list)) (λ p. p.0) ended (λ i d short. (stands i d short).1 ∙ own i d short)) there

-- the owner has all, once the agents' pass is joined into its own
pub has_all_joined : (of : HallSeen Start) (turns agents : ℕ) (passes : List Seen) (pass : Seen) (complete : Bool) → of.agents ≡ agents → HasRunAll of turns passes pass complete
    → ((k : ℕ) → k ≢ 0 → k ≤ agents → Contains (map (λ p. p.agent) passes) k) → HasAll (joined (new_pass of 0 []) pass)
has_all_joined of turns agents passes pass complete same ran named k small other = ran.named k (named k other (omega (arith, same)))

-- an owner that has collected two agents has all of a hall of two
pub has_all_two : (pass : Seen) → pass.hall.agents ≡ 2 → pass.agent ≡ 0 → map (λ p. p.0) pass.ended ≡ 1 ∷ 2 ∷ [] → HasAll pass
has_all_two pass two owner ended k small other = subst (λ (ks : List ℕ). Contains ks k) (sym ended) (among k small other) where
  among : (j : ℕ) → j ≤ pass.hall.agents → j ≢ pass.agent → Contains (1 ∷ 2 ∷ []) j
  among zero small' other' = absurd (other' (sym owner))
  among (suc zero) small' other' = (0, omega arith, refl)
  among (suc (suc zero)) small' other' = (1, omega arith, refl)
  among (suc (suc (suc j))) small' other' = absurd (omega arith)
