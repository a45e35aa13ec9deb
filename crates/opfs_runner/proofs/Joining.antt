-- Runs that are joined, and the history that they make.
use Rattle.std.proofs.Common.{◌≡◌, ◌≢◌, ◌⊎◌, ℕ, zero, suc, ◌+◌, ◌<◌, Bool, true, false, ◌&&◌, Some, List, [], ◌∷◌, ◌++◌, length, get_or, refl, sym, ap, ◌∙◌, subst, inl, inr, arith}
use Rattle.std.specs.Prelude.{map, All, Contains, slice_get}
use Rattle.std.proofs.lemmas.Bool.{cases_eq}
use Rattle.std.proofs.lemmas.List.{length-append}
use Rattle.std.proofs.lemmas.List.Elements.{All-nil, All-cons, All-append, All-map, All-contains, Contains-append_left, Contains-append_right}
use Rattle.std.proofs.lemmas.Option.{slice_get_within}
use mathlib.Core.List.{map-append}
use Rattle.opfs_hall.specs.History.{HasEnded}
use Rattle.opfs_hall.specs.Seen.{HallSeen, PassSeen, new_pass, joined, HasAll}
use Rattle.opfs_hist.specs.declared.entry.Entry.{Entry}
use Rattle.opfs_turns.specs.Agents.{AgentSeen}
use Rattle.opfs_script_run.specs.Runs.Running.{entries_of}
use Rattle.opfs_script.specs.Scripts.{Asked}
use Rattle.opfs_script_run.specs.Stage.Runs.{EachRuns, EachCut}
use Rattle.opfs_runner.specs.Laws.{ScriptsMakeTheHistory}
use Rattle.opfs_runner.specs.Runs.{HasEntries, IsReady, IsReadyFor, HasRun, RanOf, AllRan, HasRunAll, pairs}

left_true : (a b : Bool) → (a && b) ≡ true → a ≡ true
left_true true b e = refl
left_true false b e = e

right_true : (a b : Bool) → (a && b) ≡ true → b ≡ true
right_true true b e = e
right_true false b e = absurd cc

some-same : {X : Type 0} {x y : X} → Some x ≡ Some y → x ≡ y
some-same e = cc

-- Less is said where fewer are whole.
less-whole : (asked : Asked) (es : List Entry) (whole less : Bool) → (less ≡ true → whole ≡ true) → HasEntries asked whole es → HasEntries asked less es
less-whole asked es whole less fewer h = record { cut = h.cut; run = λ e. h.run (fewer e) }

ran-less : (scripts : List Asked) (whole less : Bool) → (less ≡ true → whole ≡ true) → (ps : List (ℕ × List Entry)) → All (RanOf scripts whole) ps → All (RanOf scripts less) ps
ran-less scripts whole less fewer ps all = λ k d within i s is there. less-whole s _ whole less fewer (all k d within i s is there)

contains_first : (k : ℕ) (ks : List ℕ) → Contains (k ∷ ks) k
contains_first k ks = (0, omega arith, refl)

module _ {O : Type 0} (of : HallSeen O) (scripts : List Asked) (a : AgentSeen O) (s : Asked) (n : ℕ) (there : slice_get scripts n ≡ Some s) (number : a.pass.agent ≡ suc n)
    (after : PassSeen O Entry) (whole : Bool) (ran : HasRun of s a.pass.agent after whole) where
  is-number : after.agent ≡ suc n
  is-number = ran.agent_is ∙ number

  one-ran : RanOf scripts whole (after.agent, after.base)
  one-ran i x is at =
      let place : i ≡ n = omega (arith, is, is-number) in
      let same : s ≡ x = some-same (sym there ∙ ap (slice_get scripts) (sym place) ∙ at) in
      subst (λ k. HasEntries x whole (entries_of k after.base)) (sym ran.agent_is) (subst (λ y. HasEntries y whole (entries_of a.pass.agent after.base)) same ran.entries)

  own-pairs : All (RanOf scripts whole) (pairs after)
  own-pairs =
      All-cons (RanOf scripts whole) (after.agent, after.base) after.ended one-ran
      (subst (All (RanOf scripts whole)) (sym ran.ended) (All-nil (RanOf scripts whole)))

  own-named : Contains (map (λ p. p.0) (pairs after)) (suc n)
  own-named = subst (Contains (map (λ p. p.0) (pairs after))) is-number (contains_first after.agent (map (λ p. p.0) after.ended))

  -- One agent ran.
  pub run-one : (count : ℕ) → count ≡ 1 → n ≡ 0 → HasRunAll of scripts count after whole
  run-one count is first = record {
    hall = ran.hall;
    agent = λ zero_is. ran.real (sym ran.agent_is ∙ zero_is);
    idle = ran.idle;
    all = record { named = λ k small. subst (Contains (map (λ p. p.0) (pairs after))) (omega (arith, small, is, first)) own-named; ran = own-pairs };
  }

  -- It is joined into the others.
  pub run-joined : (others : PassSeen O Entry) (all : Bool) (count : ℕ) → count ≡ n + 1 → HasRunAll of scripts n others all → HasRunAll of scripts count (joined others after) (all && whole)
  run-joined others all count is h = record {
    hall = h.hall;
    agent = h.agent;
    idle = h.idle;
    all = record {
      named = λ k small. named_by k small (cases_eq k n);
      ran =
          All-append (RanOf scripts (all && whole)) (pairs others) (pairs after)
          (ran-less scripts all (all && whole) (left_true all whole) (pairs others) h.all.ran)
          (ran-less scripts whole (all && whole) (right_true all whole) (pairs after) own-pairs);
    };
  }
    where
      names : map (λ p. p.0) (pairs (joined others after)) ≡ map (λ p. p.0) (pairs others) ++ map (λ p. p.0) (pairs after)
      names = map-append (λ (p : ℕ × List Entry). p.0) (pairs others) (pairs after)

      named_by : (k : ℕ) → k < count → (k ≡ n) ⊎ (k ≢ n) → Contains (map (λ p. p.0) (pairs (joined others after))) (suc k)
      named_by k small (inl same) =
          subst (λ (ks : List ℕ). Contains ks (suc k)) (sym names)
          (Contains-append_right (map (λ p. p.0) (pairs others)) (map (λ p. p.0) (pairs after)) (suc k) (subst (λ m. Contains (map (λ p. p.0) (pairs after)) (suc m)) (sym same) own-named))
      named_by k small (inr other) =
          subst (λ (ks : List ℕ). Contains ks (suc k)) (sym names)
          (Contains-append_left (map (λ p. p.0) (pairs others)) (map (λ p. p.0) (pairs after)) (suc k) (h.all.named k (omega (arith, small, other, is))))

-- ---- the agents of a run

get-append : {X : Type 0} (xs ys : List X) (i : ℕ) (x : X) → slice_get xs i ≡ Some x → slice_get (xs ++ ys) i ≡ Some x
get-append [] ys i x is = absurd cc
get-append (y ∷ xs) ys zero x is = is
get-append (y ∷ xs) ys (suc i) x is = get-append xs ys i x is

get-last : {X : Type 0} (xs : List X) (x : X) → slice_get (xs ++ x ∷ []) (length xs) ≡ Some x
get-last [] x = refl
get-last (y ∷ xs) x = get-last xs x

get-there : {X : Type 0} (xs : List X) (i : ℕ) (d : X) → i < length xs → slice_get xs i ≡ Some (get_or xs i d)
get-there [] i d less = absurd (omega (arith, less))
get-there (x ∷ xs) zero d less = refl
get-there (x ∷ xs) (suc i) d less = get-there xs i d (omega (arith, less))

module _ {O : Type 0} (of : HallSeen O) (scripts : List Asked) (agents rest : List (AgentSeen O)) (a : AgentSeen O) (split : agents ≡ rest ++ a ∷ []) (ready : IsReadyFor of scripts agents) where
  long : length agents ≡ length rest + 1
  long = ap length split ∙ length-append rest (a ∷ [])

  pub last-within : length rest < length scripts
  last-within = let few = ready.few in omega (arith, few, long)

  pub last-count : length agents ≡ length rest + 1
  last-count = long

  pub rest-ready : IsReadyFor of scripts rest
  rest-ready = record {
    few = let few = ready.few in omega (arith, few, long);
    each = λ i x s is there. ready.each i x s (ap (λ xs. slice_get xs i) split ∙ get-append rest (a ∷ []) i x is) there;
  }

  pub last-ready : (s : Asked) → slice_get scripts (length rest) ≡ Some s → (a.pass.agent ≡ suc (length rest)) × IsReady of s a
  last-ready s there = ready.each (length rest) a s (ap (λ xs. slice_get xs (length rest)) split ∙ get-last rest a) there

  pub last-script : (s d : Asked) → s ≡ get_or scripts (length rest) d → slice_get scripts (length rest) ≡ Some s
  last-script s d is = get-there scripts (length rest) d last-within ∙ ap Some (sym is)

-- ---- the history

find-pair : (P : ℕ × List Entry → Type 0) (ps : List (ℕ × List Entry)) (k : ℕ) → Contains (map (λ p. p.0) ps) k → All P ps → (p : ℕ × List Entry) × (p.0 ≡ k) × P p
find-pair P ps k there all = All-contains (λ j. (p : ℕ × List Entry) × (p.0 ≡ j) × P p) (map (λ p. p.0) ps) k
    (All-map (λ j. (p : ℕ × List Entry) × (p.0 ≡ j) × P p) (λ p. p.0) ps (λ i d within. (get_or ps i d, refl, all i d within))) there

module _ (scripts : List Asked) (ps : List (ℕ × List Entry)) (whole : Bool) (history : List Entry) (h : AllRan scripts (length scripts) whole ps)
    (ended : All (HasEnded (λ (e : Entry). e.agent) history) ps) where
  each : (k : ℕ) (a : Asked) → slice_get scripts k ≡ Some a → HasEntries a whole (entries_of (k + 1) history)
  each k a there =
      let both : All (λ p. HasEnded (λ (e : Entry). e.agent) history p × RanOf scripts whole p) ps = λ i d within. (ended i d within, h.ran i d within) in
      let found = find-pair (λ p. HasEnded (λ (e : Entry). e.agent) history p × RanOf scripts whole p) ps (suc k) (h.named k (slice_get_within scripts k a there)) both in
      let number : found.0.0 ≡ k + 1 = omega (arith, found.1) in
      subst (λ n. HasEntries a whole (entries_of n history)) number
      (subst (HasEntries a whole) (sym found.2.0.1) (found.2.1 k a found.1 there))

  history-cut : EachCut scripts history
  history-cut k a there = (each k a there).cut

  history-run : whole ≡ true → EachRuns scripts history
  history-run all k a there = (each k a there).run all

pub make-history : ScriptsMakeTheHistory
make-history = record {
  cut = λ scripts ps whole history h ended. history-cut scripts ps whole history h ended;
  run = λ scripts ps history h ended. history-run scripts ps true history h ended refl;
}

-- ---- the end of the hall

-- The owner's pass that has collected the agents' has all.
pub has-all : {O : Type 0} (of : HallSeen O) (scripts : List Asked) (owner pass : PassSeen O Entry) (whole : Bool) → owner ≡ new_pass of 0 [] → of.agents ≡ length scripts
    → HasRunAll of scripts (length scripts) pass whole → HasAll (joined owner pass)
has-all {O} of scripts owner pass whole is count h = subst (λ (o : PassSeen O Entry). HasAll (joined o pass)) (sym is) all
  where
    all : HasAll (joined (new_pass of 0 []) pass)
    all zero small other = absurd (other refl)
    all (suc j) small other = h.all.named j (omega (arith, small, count))

pub owners : (owner : Entry → ℕ) → ((e : Entry) → owner e ≡ e.agent) → (history : List Entry) (ps : List (ℕ × List Entry)) → All (HasEnded owner history) ps → All (HasEnded (λ e. e.agent) history) ps
owners owner same history ps all = subst (λ (f : Entry → ℕ). All (HasEnded f history) ps) (λ i e. same e i) all

module _ {O : Type 0} (of : HallSeen O) (scripts : List Asked) (owner pass last : PassSeen O Entry) (whole : Bool) (fresh : owner ≡ new_pass of 0 []) (ran : HasRunAll of scripts (length scripts) pass whole)
    (joins : last ≡ joined owner pass) (whose : Entry → ℕ) (same : (e : Entry) → whose e ≡ e.agent) (history : List Entry) (ended : All (HasEnded whose history) last.ended) where
  all-ended : All (HasEnded (λ (e : Entry). e.agent) history) (pairs pass)
  all-ended =
      owners whose same history (pairs pass)
      (subst (All (HasEnded whose history)) (ap (λ (p : PassSeen O Entry). p.ended) (joins ∙ ap (λ o. joined o pass) fresh)) ended)

  pub closed-cut : EachCut scripts history
  closed-cut = history-cut scripts (pairs pass) whole history ran.all all-ended

  pub closed-run : whole ≡ true → EachRuns scripts history
  closed-run = history-run scripts (pairs pass) whole history ran.all all-ended
