-- How a conversation begins.
use Rattle.std.proofs.Common.{◌≡◌, ℕ, zero, suc, ◌≤◌, true, false, Option, Some, None, List, [], ◌∷◌, ◌++◌, length, map, refl, sym, ap, ◌∙◌, subst, arith}
use Rattle.std.specs.Prelude.{slice_get}
use Rattle.std.proofs.lemmas.Bool.{false≢true}
use Rattle.std.proofs.lemmas.Option.{slice_get_within}
use lib.ListN.{length-map}
use Rattle.opfs_hall.specs.History.{IsPrefix}
use Rattle.opfs_hall.specs.Seen.{HallSeen, PassSeen, WatchSeen, at_rest, new_pass}
use Rattle.opfs_hist.specs.declared.entry.Entry.{Entry}
use Rattle.opfs_machine.specs.Openings.{Opening}
use Rattle.opfs_runner.proofs.Way.{no-table}
use Rattle.opfs_runner.proofs.run_laws.Stepped.{begins}
use Rattle.opfs_runner.specs.Run.Begun.{AreAgentsOf}
use Rattle.opfs_runner.specs.Runs.{IsReady, IsReadyFor}
use Rattle.opfs_runner.specs.Stepping.{own_entries}
use Rattle.opfs_script.specs.Limits.{is_origin_key}
use Rattle.opfs_script.specs.Scripts.{Asked}
use Rattle.opfs_script.specs.declared.step.Step.{Step}
use Rattle.opfs_script_run.proofs.runs.Cuts.{cuts_begin}
use Rattle.opfs_script_run.specs.Runs.Cuts.{Cuts}
use Rattle.opfs_script_run.specs.Runs.Running.{empty_hand, entries_of}
use Rattle.opfs_script_run.specs.Stage.Openings.{who_of}
use Rattle.opfs_script_run.specs.declared.runs.hand.Hand.{Hand}
use Rattle.opfs_turns.specs.Agents.{AgentSeen, IsAgent}
use Rattle.opfs_serving.specs.Seats.{AreSeated, EndsAt, IsAt, IsMidway, SeatSeen, with_steps}
use Rattle.opfs_serving.specs.Served.{AreSeatsOf, AreTold, HasNoScripts, IsSilent, Words}
use Rattle.opfs_serving.specs.declared.progress.Progress.{Progress}
use Rattle.opfs_serving.specs.declared.progress.State.TheVariants as state
use Rattle.opfs_serving.proofs.Midway.{midway-ends}
use Rattle.opfs_serving.proofs.Seating.{at-place, get-within, seated-begins}
use Rattle.opfs_serving.proofs.Placing.{new_seat}
use Rattle.opfs_serving.proofs.Talking.{talk-begins}

some-same : {X : Type 0} {x y : X} → Some x ≡ Some y → x ≡ y
some-same e = cc

some-none : {X : Type 0} (o : Option X) (x : X) → o ≡ Some x → o ≡ None → ⊥
some-none o x some none = cc

get-map : {A B : Type 0} (f : A → B) (xs : List A) (i : ℕ) (x : A) → slice_get xs i ≡ Some x → slice_get (map f xs) i ≡ Some (f x)
get-map f [] i x is = absurd cc
get-map f (y ∷ ys) zero x is = ap (λ z. Some (f z)) (some-same is)
get-map f (y ∷ ys) (suc i) x is = get-map f ys i x is

-- There are as many agents as scripts.
pub people-of : (o : Opening) (scripts : List Asked) → AreAgentsOf o scripts → length o.agents ≡ length scripts
people-of o scripts are = ap length are ∙ length-map scripts who_of

-- An agent without steps is midway.
midway-begins : {O : Type 0} (tells : Type 0) (of : HallSeen O) (k : ℕ) (s : Asked) (a : AgentSeen O) → IsReady of s a → a.pass.agent ≡ k → IsAgent tells a → s.steps ≡ [] → is_origin_key s.key ≡ true
    → IsMidway tells of k s a [] (empty_hand s.key) None
midway-begins tells of k s a r agent kept none key = record {
  done = [];
  waited = false;
  steps = none;
  cuts = λ more.
      subst (λ (x : List Step × List Entry × ℕ). Cuts (with_steps s x.0) x.1 (empty_hand s.key) x.2 false 0 more)
      (sym (λ i. (none i ++ more, own_none i, r.number i))) (cuts_begin (with_steps s more));
  idle = λ awaits. refl;
  waits = λ tag is w. absurd (false≢true w);
  number = let number = r.number in omega (arith, number);
  key = key;
  hand_key = refl;
  own_key = r.key;
  agrees = begins s.key;
  table = no-table tells a [] r.rows refl;
  few = let entries = r.entries in omega (arith, entries);
  fewer = omega arith;
  pending = r.pending;
  kept = kept;
  hall = r.hall;
  agent = agent;
  alone = r.ended;
}
  where
    own_none : own_entries a ≡ []
    own_none = (λ i. entries_of a.pass.agent (r.fresh i ++ r.pending i))

module _ {T O P : Type 0} (w : Words T O P) (of : HallSeen O) (scripts : List Asked) (agents : List (AgentSeen O)) (hands : List Hand) (seats : List (SeatSeen O)) (placed : AreSeatsOf w.reads agents hands seats)
    (hands-are : hands ≡ map (λ (s : Asked). empty_hand s.key) scripts) (ready : IsReadyFor of scripts agents) (count : length agents ≡ length scripts) (alone : HasNoScripts scripts) where
  seat-at : (i : ℕ) (x : SeatSeen O) (s : Asked) → slice_get seats i ≡ Some x → slice_get scripts i ≡ Some s → (a : AgentSeen O) × (slice_get agents i ≡ Some a) × (x ≡ new_seat a (empty_hand s.key))
  seat-at i x s seat script =
      let within = slice_get_within scripts i s script in
      let found = get-within agents i (omega (arith, within, count)) in
      let hand : slice_get hands i ≡ Some (empty_hand s.key) = ap (λ (hs : List Hand). slice_get hs i) hands-are ∙ get-map (λ (t : Asked). empty_hand t.key) scripts i s script in
      (found.0, found.1, some-same (sym seat ∙ placed.each i found.0 (empty_hand s.key) found.1 hand))

  midway-at : (i : ℕ) (x : SeatSeen O) (s : Asked) → slice_get seats i ≡ Some x → slice_get scripts i ≡ Some s → (a : AgentSeen O) × (x.agent ≡ Some a) × IsAt w.reads of (suc i) s x a
  midway-at i x s seat script =
      let found = seat-at i x s seat script in
      let known = ready.each i found.0 s found.1 script in
      let asked = at-place (λ (t : Asked). (t.steps ≡ []) × (is_origin_key t.key ≡ true)) scripts i s alone script in (
        found.0,
        ap (λ (y : SeatSeen O). y.agent) found.2,
        subst (λ (y : SeatSeen O). IsAt w.reads of (suc i) s y found.0) (sym found.2)
            (midway-begins w.reads of (suc i) s found.0 known.1 known.0 (placed.kept i found.0 found.1) asked.0 asked.1),
      )

  begun-at : (sound : Type 0) (i : ℕ) (x : SeatSeen O) (s : Asked) → slice_get seats i ≡ Some x → slice_get scripts i ≡ Some s
      → (a : AgentSeen O) × (x.agent ≡ Some a) × EndsAt w.reads of (suc i) s false x a × (sound → IsAt w.reads of (suc i) s x a)
  begun-at sound i x s seat script =
      let found = midway-at i x s seat script in
      (found.0, found.1, midway-ends w.reads of (suc i) s found.0 x.rows x.hand x.awaits found.2, λ well. found.2)

  seats-count : length seats ≡ length scripts
  seats-count = placed.count ∙ count

  script-at : (i : ℕ) (x : SeatSeen O) → slice_get seats i ≡ Some x → (s : Asked) × (slice_get scripts i ≡ Some s)
  script-at i x seat = let within = slice_get_within seats i x seat in get-within scripts i (omega (arith, within, seats-count))

  -- Nothing was entered yet, and nobody has ended.
  all-told : AreTold seats []
  all-told = record {
    over = λ i x seat gone.
        let script = script-at i x seat in let found = seat-at i x script.0 seat script.1 in
        absurd (some-none x.agent found.0 (ap (λ (y : SeatSeen O). y.agent) found.2) gone);
    shown = λ i x a seat here free.
        let script = script-at i x seat in let found = seat-at i x script.0 seat script.1 in
        let known = ready.each i found.0 script.0 found.1 script.1 in
        let same : found.0 ≡ a = some-same (sym (ap (λ (y : SeatSeen O). y.agent) found.2) ∙ here) in
        let own : own_entries a ≡ [] = ap (λ (b : AgentSeen O). own_entries b) (sym same) ∙ (λ j. entries_of found.0.pass.agent (known.1.fresh j ++ known.1.pending j)) in
        subst (λ l. IsPrefix l []) (sym own) ([], refl);
  }

  pub serving-begins : (port : P) (watch : WatchSeen O Entry T) (owner : PassSeen O Entry) (p : Progress) → length scripts ≤ 64 → of.agents ≡ length scripts → length (w.opened of.opening).agents ≡ length scripts → owner ≡ new_pass of 0 []
      → watch.pass ≡ at_rest owner (w.entries watch.last) → w.opening watch.last ≡ of.opening → p.count ≡ 0 → IsSilent w of scripts port watch seats p
  serving-begins port watch owner p few all people fresh rests opened none =
      let talk = talk-begins (w.opened of.opening) w.entries w.keeps w.goes w.tells w.said scripts port port watch.last (p.state ≡ state.On) refl in
      record {
        stands = record {
          scripts = scripts;
          told = [];
          talk = talk.0;
          seated = subst (λ (ended : List (ℕ × List Entry)). AreSeated w.reads of (p.state ≡ state.On) p.whole scripts seats ended) (sym (ap (λ (x : PassSeen O Entry). x.ended) pass-is))
              (seated-begins w.reads of (p.state ≡ state.On) p.whole scripts seats seats-count (begun-at (p.state ≡ state.On)));
          emptied = λ i x seat gone. let script = script-at i x seat in ap (λ (y : SeatSeen O). y.rows) (seat-at i x script.0 seat script.1).2;
          counted = λ on. none;
          hall = ap (λ (x : PassSeen O Entry). x.hall) pass-is;
          owner = ap (λ (x : PassSeen O Entry). x.agent) pass-is;
          all = all;
          people = people;
          few = few;
          opened = opened;
        };
        none = talk.1;
        all_told = all-told;
      }
    where
      pass-is : watch.pass ≡ at_rest (new_pass of 0 []) (w.entries watch.last)
      pass-is = rests ∙ ap (λ (o : PassSeen O Entry). at_rest o (w.entries watch.last)) fresh
