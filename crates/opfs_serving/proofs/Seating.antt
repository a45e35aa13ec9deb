-- Seats, as their agents are asked for steps, and end.
use Rattle.std.proofs.Common.{◌≡◌, ◌≢◌, ◌⊎◌, ℕ, zero, suc, ◌<◌, ◌≤◌, Bool, true, false, Some, None, Option, List, [], ◌∷◌, ◌++◌, length, refl, sym, ap, ◌∙◌, subst, inl, inr, arith, slice_set}
use Rattle.std.specs.Prelude.{map, All, Contains, slice_get}
use Rattle.std.proofs.lemmas.Bool.{cases_eq}
use Rattle.std.proofs.lemmas.List.Elements.{All-get_or, All-push, All-weaker, Contains-append_left, Contains-push}
use Rattle.std.proofs.lemmas.Option.{get_or_from_slice_get, slice_get_within}
use mathlib.Core.List.{map-append}
use Rattle.opfs_hall.specs.History.{HasEnded}
use Rattle.opfs_hall.specs.Seen.{HallSeen, HasAll, PassSeen}
use Rattle.opfs_hist.specs.declared.entry.Entry.{Entry}
use Rattle.opfs_runner.proofs.Joining.{make-history}
use Rattle.opfs_runner.specs.Runs.{AllRan, HasEntries}
use Rattle.opfs_script.specs.Scripts.{Asked}
use Rattle.opfs_script.specs.declared.step.Step.{Step}
use Rattle.opfs_script_run.specs.Runs.Running.{entries_of}
use Rattle.opfs_script_run.specs.Stage.Runs.{EachCut, EachRuns}
use Rattle.opfs_serving.specs.Exchanges.{add_step}
use Rattle.opfs_serving.specs.Seats.{AreSeated, EndsAt, IsAt, SeatSeen, with_steps}
use Rattle.opfs_turns.specs.Agents.{AgentSeen}

some-same : {X : Type 0} {x y : X} → Some x ≡ Some y → x ≡ y
some-same e = cc

none-some : {X : Type 0} (o : Option X) (x : X) → o ≡ None → o ≡ Some x → ⊥
none-some o x none some = cc

-- ---- one step more

pub length-add_step : (n : ℕ) (step : Step) (scripts : List Asked) → length (add_step n step scripts) ≡ length scripts
length-add_step n step [] = refl
length-add_step zero step (s ∷ more) = refl
length-add_step (suc n) step (s ∷ more) = ap suc (length-add_step n step more)

pub get-add_step : (n : ℕ) (step : Step) (scripts : List Asked) (s : Asked) → slice_get scripts n ≡ Some s → slice_get (add_step n step scripts) n ≡ Some (with_steps s (s.steps ++ step ∷ []))
get-add_step n step [] s is = absurd cc
get-add_step zero step (t ∷ more) s is = ap (λ (u : Asked). Some (with_steps u (u.steps ++ step ∷ []))) (some-same is)
get-add_step (suc n) step (t ∷ more) s is = get-add_step n step more s is

pub get-add_step_other : (n : ℕ) (step : Step) (scripts : List Asked) (k : ℕ) → k ≢ n → slice_get (add_step n step scripts) k ≡ slice_get scripts k
get-add_step_other n step [] k other = refl
get-add_step_other zero step (s ∷ more) zero other = absurd (other refl)
get-add_step_other zero step (s ∷ more) (suc k) other = refl
get-add_step_other (suc n) step (s ∷ more) zero other = refl
get-add_step_other (suc n) step (s ∷ more) (suc k) other = get-add_step_other n step more k (λ e. other (ap suc e))

-- ---- another seat at a place

module _ {X : Type 0} where
  pub length-set : (xs : List X) (i : ℕ) (y : X) → length (slice_set xs i y) ≡ length xs
  length-set [] i y = refl
  length-set (x ∷ xs) zero y = refl
  length-set (x ∷ xs) (suc i) y = ap suc (length-set xs i y)

  pub get-set : (xs : List X) (i : ℕ) (x y z : X) → slice_get xs i ≡ Some x → slice_get (slice_set xs i y) i ≡ Some z → z ≡ y
  get-set [] i x y z there is = absurd cc
  get-set (w ∷ xs) zero x y z there is = some-same (sym is)
  get-set (w ∷ xs) (suc i) x y z there is = get-set xs i x y z there is

  pub get-set_other : (xs : List X) (i k : ℕ) (y : X) → k ≢ i → slice_get (slice_set xs i y) k ≡ slice_get xs k
  get-set_other [] i k y other = refl
  get-set_other (x ∷ xs) zero zero y other = absurd (other refl)
  get-set_other (x ∷ xs) zero (suc k) y other = refl
  get-set_other (x ∷ xs) (suc i) zero y other = refl
  get-set_other (x ∷ xs) (suc i) (suc k) y other = get-set_other xs i k y (λ e. other (ap suc e))

  -- what is at a place: the new one, or one that was there
  pub place : (xs : List X) (i : ℕ) (x y : X) → slice_get xs i ≡ Some x → (k : ℕ) (z : X) → slice_get (slice_set xs i y) k ≡ Some z → ((k ≡ i) × (z ≡ y)) ⊎ ((k ≢ i) × (slice_get xs k ≡ Some z))
  place xs i x y there k z is = by (cases_eq k i)
    where
      by : (k ≡ i) ⊎ (k ≢ i) → ((k ≡ i) × (z ≡ y)) ⊎ ((k ≢ i) × (slice_get xs k ≡ Some z))
      by (inl same) = inl (same, get-set xs i x y z there (ap (slice_get (slice_set xs i y)) (sym same) ∙ is))
      by (inr other) = inr (other, sym (get-set_other xs i k y other) ∙ is)

  pub get-within : (xs : List X) (i : ℕ) → i < length xs → (x : X) × (slice_get xs i ≡ Some x)
  get-within [] i less = absurd (omega (arith, less))
  get-within (x ∷ xs) zero less = (x, refl)
  get-within (x ∷ xs) (suc i) less = get-within xs i (omega (arith, less))

  pub at-place : (P : X → Type 0) (xs : List X) (i : ℕ) (x : X) → All P xs → slice_get xs i ≡ Some x → P x
  at-place P xs i x all is = subst P (get_or_from_slice_get xs i x x is) (All-get_or P xs i x (slice_get_within xs i x is) all)

-- Less is said where fewer are whole.
less-whole : (asked : Asked) (es : List Entry) (whole less : Bool) → (less ≡ true → whole ≡ true) → HasEntries asked whole es → HasEntries asked less es
less-whole asked es whole less fewer h = record { cut = h.cut; run = λ e. h.run (fewer e) }

-- What an ended agent's number and entries are.
abbrev Ran : {O : Type 0} → Bool → List Asked → List (SeatSeen O) → ℕ × List Entry → Type 0
Ran {O} whole scripts seats p = (i : ℕ) (x : SeatSeen O) (s : Asked) → p.0 ≡ suc i → slice_get seats i ≡ Some x → slice_get scripts i ≡ Some s → (x.agent ≡ None) × HasEntries s whole (entries_of p.0 p.1)

abbrev numbers : List (ℕ × List Entry) → List ℕ
numbers ended = map (λ p. p.0) ended

module _ {O : Type 0} (tells : Type 0) (of : HallSeen O) where
  -- All are there, and none has ended.
  pub seated-begins : (sound : Type 0) (whole : Bool) (scripts : List Asked) (seats : List (SeatSeen O)) → length seats ≡ length scripts
      → ((i : ℕ) (x : SeatSeen O) (s : Asked) → slice_get seats i ≡ Some x → slice_get scripts i ≡ Some s
      → (a : AgentSeen O) × (x.agent ≡ Some a) × EndsAt tells of (suc i) s false x a × (sound → IsAt tells of (suc i) s x a))
      → AreSeated tells of sound whole scripts seats []
  seated-begins sound whole scripts seats count each = record {
    count = count;
    ends = λ i x a s seat here script. let found = each i x s seat script in
        subst (λ c. EndsAt tells of (suc i) s false x c) (some-same (sym found.1 ∙ here)) found.2;
    midway = λ well i x a s seat here script. let found = each i x s seat script in
        subst (λ c. IsAt tells of (suc i) s x c) (some-same (sym found.1 ∙ here)) (found.3 well);
    gone = λ i x seat none. absurd (
        let within = slice_get_within seats i x seat in
        let script = get-within scripts i (omega (arith, within, count)) in
        let found = each i x script.0 seat script.1 in
        none-some x.agent found.0 none found.1);
    ran = λ i d within. absurd (omega (arith, within));
  }

  -- Less is said where less is well, or fewer are whole.
  pub seated-weaker : (sound sound' : Type 0) (whole whole' : Bool) (scripts : List Asked) (seats : List (SeatSeen O)) (ended : List (ℕ × List Entry)) → (sound' → sound) → (whole' ≡ true → whole ≡ true)
      → AreSeated tells of sound whole scripts seats ended → AreSeated tells of sound' whole' scripts seats ended
  seated-weaker sound sound' whole whole' scripts seats ended as_well as_whole h = record {
    count = h.count;
    ends = h.ends;
    midway = λ well. h.midway (as_well well);
    gone = h.gone;
    ran = All-weaker (Ran whole scripts seats) (Ran whole' scripts seats)
        (λ p r i x s is seat script. ((r i x s is seat script).0, less-whole s (entries_of p.0 p.1) whole whole' as_whole (r i x s is seat script).1)) ended h.ran;
  }

  module _ (sound : Type 0) (whole : Bool) (scripts : List Asked) (seats : List (SeatSeen O)) (ended : List (ℕ × List Entry)) (h : AreSeated tells of sound whole scripts seats ended) where
    -- A seat has a script, and a script a seat.
    pub seated-script : (i : ℕ) (x : SeatSeen O) → slice_get seats i ≡ Some x → (s : Asked) × (slice_get scripts i ≡ Some s)
    seated-script i x seat = let within = slice_get_within seats i x seat in let count = h.count in get-within scripts i (omega (arith, within, count))

    pub seated-seat : (i : ℕ) → i < length scripts → (x : SeatSeen O) × (slice_get seats i ≡ Some x)
    seated-seat i within = let count = h.count in get-within seats i (omega (arith, within, count))

    module _ (i : ℕ) (x : SeatSeen O) (a : AgentSeen O) (s : Asked) (seat-is : slice_get seats i ≡ Some x) (here : x.agent ≡ Some a) (script-is : slice_get scripts i ≡ Some s) where
      -- an agent that is there is not among those that ended
      not-ended : (p : ℕ × List Entry) → Ran whole scripts seats p → p.0 ≡ suc i → ⊥
      not-ended p r is = none-some x.agent a (r i x s is seat-is script-is).0 here

      -- Its seat is another one, and its script, where an agent still is.
      pub seated-put : (sound' : Type 0) (whole' : Bool) (scripts' : List Asked) (s' : Asked) (x' : SeatSeen O) (b : AgentSeen O) → (sound' → sound) → (whole' ≡ true → whole ≡ true)
          → length scripts' ≡ length scripts → slice_get scripts' i ≡ Some s' → ((k : ℕ) → k ≢ i → slice_get scripts' k ≡ slice_get scripts k)
          → x'.agent ≡ Some b → EndsAt tells of (suc i) s' false x' b → (sound' → IsAt tells of (suc i) s' x' b)
          → AreSeated tells of sound' whole' scripts' (slice_set seats i x') ended
      seated-put sound' whole' scripts' s' x' b as_well as_whole long script' others there ends at = record {
        count = length-set seats i x' ∙ (h.count ∙ sym long);
        ends = λ k y c t seat agent script. ends-by k y c t agent script (place seats i x x' seat-is k y seat);
        midway = λ well k y c t seat agent script. midway-by well k y c t agent script (place seats i x x' seat-is k y seat);
        gone = λ k y seat none. gone-by k y none (place seats i x x' seat-is k y seat);
        ran = All-weaker (Ran whole scripts seats) (Ran whole' scripts' (slice_set seats i x')) (λ p r k y t is seat script. ran-by p r k y t is script (place seats i x x' seat-is k y seat)) ended h.ran;
      }
        where
          -- what holds of the new ones holds of those that stand at the place
          moved : (Q : ℕ → Asked → SeatSeen O → AgentSeen O → Type 0) → Q i s' x' b → (k : ℕ) (y : SeatSeen O) (c : AgentSeen O) (t : Asked) → k ≡ i → y ≡ x' → y.agent ≡ Some c → slice_get scripts' k ≡ Some t → Q k t y c
          moved Q q k y c t same is agent script =
              let agent-is : b ≡ c = some-same (sym there ∙ ap (λ (z : SeatSeen O). z.agent) (sym is) ∙ agent) in
              let script-same : s' ≡ t = some-same (sym script' ∙ ap (slice_get scripts') (sym same) ∙ script) in
              subst (λ n. Q n t y c) (sym same) (subst (λ z. Q i t z c) (sym is) (subst (λ u. Q i u x' c) script-same (subst (λ d. Q i s' x' d) agent-is q)))

          ends-by : (k : ℕ) (y : SeatSeen O) (c : AgentSeen O) (t : Asked) → y.agent ≡ Some c → slice_get scripts' k ≡ Some t → ((k ≡ i) × (y ≡ x')) ⊎ ((k ≢ i) × (slice_get seats k ≡ Some y)) → EndsAt tells of (suc k) t false y c
          ends-by k y c t agent script (inl is) = moved (λ n u z d. EndsAt tells of (suc n) u false z d) ends k y c t is.0 is.1 agent script
          ends-by k y c t agent script (inr is) = h.ends k y c t is.1 agent (sym (others k is.0) ∙ script)

          midway-by : sound' → (k : ℕ) (y : SeatSeen O) (c : AgentSeen O) (t : Asked) → y.agent ≡ Some c → slice_get scripts' k ≡ Some t → ((k ≡ i) × (y ≡ x')) ⊎ ((k ≢ i) × (slice_get seats k ≡ Some y)) → IsAt tells of (suc k) t y c
          midway-by well k y c t agent script (inl is) = moved (λ n u z d. IsAt tells of (suc n) u z d) (at well) k y c t is.0 is.1 agent script
          midway-by well k y c t agent script (inr is) = h.midway (as_well well) k y c t is.1 agent (sym (others k is.0) ∙ script)

          gone-by : (k : ℕ) (y : SeatSeen O) → y.agent ≡ None → ((k ≡ i) × (y ≡ x')) ⊎ ((k ≢ i) × (slice_get seats k ≡ Some y)) → Contains (numbers ended) (suc k)
          gone-by k y none (inl is) = absurd (none-some y.agent b none (ap (λ (z : SeatSeen O). z.agent) is.1 ∙ there))
          gone-by k y none (inr is) = h.gone k y is.1 none

          ran-by : (p : ℕ × List Entry) → Ran whole scripts seats p → (k : ℕ) (y : SeatSeen O) (t : Asked) → p.0 ≡ suc k → slice_get scripts' k ≡ Some t
              → ((k ≡ i) × (y ≡ x')) ⊎ ((k ≢ i) × (slice_get seats k ≡ Some y)) → (y.agent ≡ None) × HasEntries t whole' (entries_of p.0 p.1)
          ran-by p r k y t number script (inl is) = absurd (not-ended p r (number ∙ ap suc is.0))
          ran-by p r k y t number script (inr is) =
              let old = r k y t number is.1 (sym (others k is.0) ∙ script) in (old.0, less-whole t (entries_of p.0 p.1) whole whole' as_whole old.1)

      -- It was asked for a step, and made it or began to await.
      pub seated-asked : (step : Step) (x' : SeatSeen O) (b : AgentSeen O) → x'.agent ≡ Some b → IsAt tells of (suc i) (with_steps s (s.steps ++ step ∷ [])) x' b
          → EndsAt tells of (suc i) (with_steps s (s.steps ++ step ∷ [])) false x' b → AreSeated tells of sound whole (add_step i step scripts) (slice_set seats i x') ended
      seated-asked step x' b there at ends =
          seated-put sound whole (add_step i step scripts) (with_steps s (s.steps ++ step ∷ [])) x' b (λ well. well) (λ e. e)
          (length-add_step i step scripts) (get-add_step i step scripts s script-is) (λ k other. get-add_step_other i step scripts k other) there ends (λ well. at)

      -- It goes on with the steps that it was asked for.
      pub seated-polled : (x' : SeatSeen O) (b : AgentSeen O) → x'.agent ≡ Some b → IsAt tells of (suc i) s x' b → EndsAt tells of (suc i) s false x' b
          → AreSeated tells of sound whole scripts (slice_set seats i x') ended
      seated-polled x' b there at ends =
          seated-put sound whole scripts s x' b (λ well. well) (λ e. e) refl script-is (λ k other. refl) there ends (λ well. at)

      -- It has ended, with its entries.
      pub seated-ended : (sound' : Type 0) (whole' : Bool) → (sound' → sound) → (whole' ≡ true → whole ≡ true) → (x' : SeatSeen O) (base : List Entry) → x'.agent ≡ None
          → HasEntries s whole' (entries_of (suc i) base) → AreSeated tells of sound' whole' scripts (slice_set seats i x') (ended ++ (suc i, base) ∷ [])
      seated-ended sound' whole' as_well as_whole x' base none has = record {
        count = length-set seats i x' ∙ h.count;
        ends = λ k y c t seat agent script. ends-by k y c t agent script (place seats i x x' seat-is k y seat);
        midway = λ well k y c t seat agent script. midway-by well k y c t agent script (place seats i x x' seat-is k y seat);
        gone = λ k y seat gone. gone-by k y gone (place seats i x x' seat-is k y seat);
        ran = All-push (Ran whole' scripts (slice_set seats i x')) ended (suc i, base)
            (All-weaker (Ran whole scripts seats) (Ran whole' scripts (slice_set seats i x')) (λ p r k y t is seat script. ran-by p r k y t is script (place seats i x x' seat-is k y seat)) ended h.ran)
            (λ k y t is seat script. own k y t is script (place seats i x x' seat-is k y seat));
      }
        where
          no-agent : (y : SeatSeen O) (c : AgentSeen O) → y ≡ x' → y.agent ≡ Some c → ⊥
          no-agent y c is agent = none-some y.agent c (ap (λ (z : SeatSeen O). z.agent) is ∙ none) agent

          ends-by : (k : ℕ) (y : SeatSeen O) (c : AgentSeen O) (t : Asked) → y.agent ≡ Some c → slice_get scripts k ≡ Some t → ((k ≡ i) × (y ≡ x')) ⊎ ((k ≢ i) × (slice_get seats k ≡ Some y)) → EndsAt tells of (suc k) t false y c
          ends-by k y c t agent script (inl is) = absurd (no-agent y c is.1 agent)
          ends-by k y c t agent script (inr is) = h.ends k y c t is.1 agent script

          midway-by : sound' → (k : ℕ) (y : SeatSeen O) (c : AgentSeen O) (t : Asked) → y.agent ≡ Some c → slice_get scripts k ≡ Some t → ((k ≡ i) × (y ≡ x')) ⊎ ((k ≢ i) × (slice_get seats k ≡ Some y)) → IsAt tells of (suc k) t y c
          midway-by well k y c t agent script (inl is) = absurd (no-agent y c is.1 agent)
          midway-by well k y c t agent script (inr is) = h.midway (as_well well) k y c t is.1 agent script

          names : numbers (ended ++ (suc i, base) ∷ []) ≡ numbers ended ++ suc i ∷ []
          names = map-append (λ (p : ℕ × List Entry). p.0) ended ((suc i, base) ∷ [])

          gone-by : (k : ℕ) (y : SeatSeen O) → y.agent ≡ None → ((k ≡ i) × (y ≡ x')) ⊎ ((k ≢ i) × (slice_get seats k ≡ Some y)) → Contains (numbers (ended ++ (suc i, base) ∷ [])) (suc k)
          gone-by k y gone (inl is) =
              subst (λ (ks : List ℕ). Contains ks (suc k)) (sym names) (subst (λ n. Contains (numbers ended ++ suc i ∷ []) (suc n)) (sym is.0) (Contains-push (numbers ended) (suc i)))
          gone-by k y gone (inr is) = subst (λ (ks : List ℕ). Contains ks (suc k)) (sym names) (Contains-append_left (numbers ended) (suc i ∷ []) (suc k) (h.gone k y is.1 gone))

          ran-by : (p : ℕ × List Entry) → Ran whole scripts seats p → (k : ℕ) (y : SeatSeen O) (t : Asked) → p.0 ≡ suc k → slice_get scripts k ≡ Some t
              → ((k ≡ i) × (y ≡ x')) ⊎ ((k ≢ i) × (slice_get seats k ≡ Some y)) → (y.agent ≡ None) × HasEntries t whole' (entries_of p.0 p.1)
          ran-by p r k y t number script (inl is) = absurd (not-ended p r (number ∙ ap suc is.0))
          ran-by p r k y t number script (inr is) = let old = r k y t number is.1 script in (old.0, less-whole t (entries_of p.0 p.1) whole whole' as_whole old.1)

          own : (k : ℕ) (y : SeatSeen O) (t : Asked) → suc i ≡ suc k → slice_get scripts k ≡ Some t → ((k ≡ i) × (y ≡ x')) ⊎ ((k ≢ i) × (slice_get seats k ≡ Some y))
              → (y.agent ≡ None) × HasEntries t whole' (entries_of (suc i) base)
          own k y t number script (inl is) = (
            ap (λ (z : SeatSeen O). z.agent) is.1 ∙ none,
            subst (λ u. HasEntries u whole' (entries_of (suc i) base)) (some-same (sym script-is ∙ ap (slice_get scripts) (sym is.0) ∙ script)) has,
          )
          own k y t number script (inr is) = let other = is.0 in absurd (omega (arith, number, other))

    -- ---- all have ended

    module _ (none : (i : ℕ) (x : SeatSeen O) → slice_get seats i ≡ Some x → x.agent ≡ None) where
      pub seated-all : AllRan scripts (length scripts) whole ended
      seated-all = record {
        named = λ k within. let found = seated-seat k within in h.gone k found.0 found.1 (none k found.0 found.1);
        ran = λ n d within k s is script. let found = seated-seat k (slice_get_within scripts k s script) in (h.ran n d within k found.0 s is found.1 script).1;
      }

      pub seated-cut : (history : List Entry) → All (HasEnded (λ (e : Entry). e.agent) history) ended → EachCut scripts history
      seated-cut history each = make-history.cut scripts ended whole history seated-all each

      pub seated-run : (history : List Entry) → All (HasEnded (λ (e : Entry). e.agent) history) ended → whole ≡ true → EachRuns scripts history
      seated-run history each is = make-history.run scripts ended history (subst (λ b. AllRan scripts (length scripts) b ended) is seated-all) each

      pub seated-named : (k : ℕ) → k ≤ length scripts → k ≢ 0 → Contains (map (λ p. p.0) ended) k
      seated-named zero within real = absurd (real refl)
      seated-named (suc k) within real = seated-all.named k (omega (arith, within))

      -- The owner's pass that has collected them has all.
      pub seated-has_all : (pass : PassSeen O Entry) → pass.hall ≡ of → pass.agent ≡ 0 → of.agents ≡ length scripts → pass.ended ≡ ended → HasAll pass
      seated-has_all pass hall owner count collected k within other =
          let agents : pass.hall.agents ≡ length scripts = ap (λ (g : HallSeen O). g.agents) hall ∙ count in
          subst (λ (ps : List (ℕ × List Entry)). Contains (map (λ p. p.0) ps) k) (sym collected)
          (seated-named k (omega (arith, within, agents)) (λ e. other (e ∙ sym owner)))

-- No agent is there, where each seat has none.
pub none-there : {O : Type 0} (seats : List (SeatSeen O)) → All (λ x. x.agent ≡ None) seats → (i : ℕ) (x : SeatSeen O) → slice_get seats i ≡ Some x → x.agent ≡ None
none-there {O} seats all i x seat = at-place (λ (y : SeatSeen O). y.agent ≡ None) seats i x all seat
