-- How a conversation stands once a step was made, or was not.
use Rattle.std.proofs.Common.{◌≡◌, ◌⊎◌, ℕ, suc, ◌-◌, ◌+◌, ◌<◌, ◌≤◌, Bool, true, false, Some, None, Option, Ok, List, [], ◌∷◌, ◌++◌, length, length-append, drop, refl, sym, ap, ◌∙◌, subst, inl, inr, arith, append_assoc, append-nil, slice_index_or, slice_set}
use Rattle.std.specs.Prelude.{◌≢◌, slice_get}
use Rattle.std.proofs.lemmas.Option.{get_or_from_slice_get}
use Rattle.opfs_base.specs.Texts.{Text}
use Rattle.opfs_hall.proofs.Owned.{prefix_refl, prefix_trans}
use Rattle.opfs_hall.specs.History.{IsPrefix}
use Rattle.opfs_hall.specs.Seen.{HallSeen, PassSeen, WatchSeen}
use Rattle.opfs_hist.specs.declared.entry.Entry.{Entry}
use Rattle.opfs_machine.specs.Histories.{state_after}
use Rattle.opfs_port.specs.Said.{Said, heard}
use Rattle.opfs_runner.specs.Stepping.{own_entries}
use Rattle.opfs_script.specs.Lines.{asked_by}
use Rattle.opfs_script.specs.Reading.{Read}
use Rattle.opfs_script.specs.Scripts.{Asked}
use Rattle.opfs_script.specs.declared.lines.Asking.{Asking}
use Rattle.opfs_script.specs.declared.lines.Asking.TheVariants as asking
use Rattle.opfs_script.specs.declared.step.Step.{Step}
use Rattle.opfs_script.specs.declared.step.Step.TheVariants as step
use Rattle.opfs_script_run.specs.Runs.Running.{entries_of}
use Rattle.opfs_serving.specs.Exchanges.{Answer, Call, Exchange, add_step, entered, entries_told, told_by, with_call}
use Rattle.opfs_serving.specs.Lines.{AsksNext, IsAsked, IsAskedFor, Names, calls}
use Rattle.opfs_serving.specs.Requests.{IsFree, IsOf, IsRequest}
use Rattle.opfs_serving.specs.Seats.{AreSeated, IsAt, IsLeftOpen, SeatSeen, open_step, with_steps}
use Rattle.opfs_serving.specs.Served.{AreTold, HasHeard, IsQuiet, IsServing, IsStanding, Words}
use Rattle.opfs_serving.specs.Stepping.{HasMade, HasMissed, noted}
use Rattle.opfs_serving.specs.Talks.{AreLookedAfter, HasAnswer, IsExchange, IsTalk, WaitsFor}
use Rattle.opfs_serving.specs.Turns.{GoesOut, HasToldMore, HasTurned}
use Rattle.opfs_serving.specs.declared.progress.Progress.{Progress}
use Rattle.opfs_serving.specs.declared.progress.State.{State}
use Rattle.opfs_serving.specs.declared.progress.State.TheVariants as state
use Rattle.opfs_serving.proofs.Faulted.{FaultsOn, faulted-more, faults-on, faults-short, faults-told}
use Rattle.opfs_serving.proofs.Midway.{midway-ends}
use Rattle.opfs_serving.proofs.Quiet.{at-rest, number-grows, number-is}
use Rattle.opfs_serving.proofs.Seating.{get-add_step, get-add_step_other, length-add_step, place, seated-asked, seated-put, seated-script, seated-weaker}
use Rattle.opfs_serving.proofs.Showing.{shown-base, told-set}
use Rattle.opfs_serving.proofs.Talking.{front-drop, talk-lost, talk-more, talk-perhaps, with_call-at}
use Rattle.opfs_turns.specs.Agents.{AgentSeen, next_number}

some-same : {X : Type 0} {x y : X} → Some x ≡ Some y → x ≡ y
some-same e = cc

some-none : {X : Type 0} (o : Option X) (x : X) → o ≡ None → o ≡ Some x → ⊥
some-none o x none some = cc

pub short-on : (s : State) → s ≡ state.Short → s ≡ state.On → ⊥
short-on s short on = cc

failed-on : (s : State) → s ≡ state.Failed → s ≡ state.On → ⊥
failed-on s failed on = cc

-- What an agent that has made its steps, or awaits the last, has entered answers them.
module _ {O : Type 0} (tells : Type 0) (of : HallSeen O) (k : ℕ) (asked : Asked) (s : Step) (x : SeatSeen O) (b : AgentSeen O) (base list : List Entry)
    (at : IsAt tells of k asked x b) (seen : b.pass.base ≡ base) (front : IsPrefix base list) where
  number-of : b.number ≡ next_number k base
  number-of = number-is tells of k asked x b at ∙ ap (next_number k) seen

  pub answered-by : (awaits : Option Text) → asked.steps ≡ at.done ++ open_step awaits → IsLeftOpen s awaits
      → (length asked.steps < next_number k list) ⊎ ((tag : Text) × (s ≡ step.Await tag) × (length asked.steps ≤ next_number k list))
  answered-by None steps open_is =
      let number = number-of in let next = at.number in let grows = number-grows k base list front in
      let long : length asked.steps ≡ length at.done = ap length (steps ∙ append-nil at.done) in
      inl (omega (arith, number, next, grows, long))
  answered-by (Some tag) steps open_is =
      let number = number-of in let next = at.number in let grows = number-grows k base list front in
      let long : length asked.steps ≡ length at.done + 1 = ap length steps ∙ length-append at.done (step.Await tag ∷ []) in
      inr (tag, open_is, omega (arith, number, next, grows, long))

pub length-with_call : (scripts : List Asked) (call : Option Call) → length (with_call scripts call) ≡ length scripts
length-with_call scripts None = refl
length-with_call scripts (Some c) = length-add_step (c.agent - 1) c.step scripts

-- ---- a step of a seat, as it was made

module _ {T O P : Type 0} (w : Words T O P) (of : HallSeen O) (s : Step) (old mid new : SeatSeen O) (before shown after : WatchSeen O Entry T) (port now : P) (p q : Progress) where
  abbrev Goes : Type 0
  Goes = (k : ℕ) (asked : Asked) (a : AgentSeen O) → old.agent ≡ Some a → IsAt w.reads of k asked old a
      → (b : AgentSeen O) × (mid.agent ≡ Some b) × IsAt w.reads of k (with_steps asked (asked.steps ++ s ∷ [])) mid b

  pub has-made : (k : ℕ) (asked : Asked) (a : AgentSeen O) → old.agent ≡ Some a → IsAt w.reads of k asked old a → Goes → new ≡ mid
      → ((b : AgentSeen O) → mid.agent ≡ Some b → shown.pass ≡ record before.pass { base = b.pass.base }) → shown.last ≡ before.last → IsLeftOpen s mid.awaits
      → HasTurned w.opening w.entries w.keeps w.goes of shown after → HasToldMore w.entries w.tells w.said w.faults after.last port now p q
      → HasMade w of s old new before after port now p q
  has-made k asked a there at goes same shows last awaits turned told =
      let first = goes k asked a there at in
      let shown-is : shown ≡ noted first.0.pass.base before = (λ i. record { pass = shows first.0 first.1 i; last = last i }) in
      record {
        base = first.0.pass.base;
        at = λ n script c here is.
            let found = goes n script c here is in
            subst (λ x. (b : AgentSeen O) × (x.agent ≡ Some b) × IsAt w.reads of n (with_steps script (script.steps ++ s ∷ [])) x b × (b.pass.base ≡ first.0.pass.base)) (sym same)
            (found.0, found.1, found.2, ap (λ (b : AgentSeen O). b.pass.base) (some-same (sym found.1 ∙ first.1)));
        awaits = subst (λ (x : SeatSeen O). IsLeftOpen s x.awaits) (sym same) awaits;
        turned = subst (λ x. HasTurned w.opening w.entries w.keeps w.goes of x after) shown-is turned;
        told = told;
      }

-- The pass is of the same hall, and the same one, whatever it took note of.
pub shown-pass : {T O : Type 0} (tells : Type 0) (of : HallSeen O) (k : ℕ) (asked : Asked) (mid : SeatSeen O) (before shown : WatchSeen O Entry T) → (before.pass.hall ≡ of) × (before.pass.agent ≡ 0)
    → ((b : AgentSeen O) → mid.agent ≡ Some b → shown.pass ≡ record before.pass { base = b.pass.base }) → (b : AgentSeen O) × (mid.agent ≡ Some b) × IsAt tells of k asked mid b
    → (shown.pass.hall ≡ of) × (shown.pass.agent ≡ 0)
shown-pass {T} {O} tells of k asked mid before shown own shows found = (
  ap (λ (y : PassSeen O Entry). y.hall) (shows found.0 found.1) ∙ own.0,
  ap (λ (y : PassSeen O Entry). y.agent) (shows found.0 found.1) ∙ own.1,
)

-- ---- the seat that a line asks

pub at-seat : {O : Type 0} (line : Text) (seats : List (SeatSeen O)) (i : ℕ) (asks : Asking) (x : SeatSeen O) → IsRequest line seats i asks → x ≡ slice_index_or seats i x → (slice_get seats i ≡ Some x) × IsFree x
at-seat line seats i asks x r is =
    let same : r.seat ≡ x = sym (is ∙ get_or_from_slice_get seats i r.seat x r.at.there) in
    (r.at.there ∙ ap Some same, subst IsFree same r.free)

-- It is midway, where all is well.
pub midway-at : {T O P : Type 0} (w : Words T O P) (of : HallSeen O) (agents : List Asked) (begun before : P) (watch : WatchSeen O Entry T) (seats : List (SeatSeen O)) (p : Progress)
    → IsServing w of agents begun before watch seats p → p.state ≡ state.On → (i : ℕ) (x : SeatSeen O) (a : AgentSeen O) → slice_get seats i ≡ Some x → x.agent ≡ Some a
    → (k : ℕ) × (asked : Asked) × IsAt w.reads of k asked x a
midway-at w of agents begun before watch seats p v on i x a there here =
    let script = seated-script w.reads of (p.state ≡ state.On) p.whole v.stands.scripts seats watch.pass.ended v.stands.seated i x there in
    (suc i, script.0, v.stands.seated.midway on i x a script.0 there here script.1)

-- What a line asks of an agent, it asks as the next step of what that was asked for.
pub asks-next : {T O P : Type 0} (w : Words T O P) (of : HallSeen O) (agents : List Asked) (begun before : P) (watch : WatchSeen O Entry T) (seats : List (SeatSeen O)) (p : Progress)
    (v : IsStanding w of agents begun before watch seats p) → p.state ≡ state.On → (line : Text) (i : ℕ) (x : SeatSeen O) (rest : Text) (free : IsFree x) → IsOf line seats i x rest → (found : Read Asking)
    → asked_by (suc i) free.agent.number rest ≡ found
    → (asked : Asked) × Names (length v.scripts) line (suc i) rest × IsAskedFor v.scripts (suc i) asked × AsksNext (suc i) asked rest found
asks-next w of agents begun before watch seats p v on line i x rest free of_line found asks =
    let script = seated-script w.reads of (p.state ≡ state.On) p.whole v.scripts seats watch.pass.ended v.seated i x of_line.there in
    let at = v.seated.midway on i x free.agent script.0 of_line.there free.there script.1 in
    let first : suc i - 1 ≡ i = omega arith in
    let steps : length script.0.steps ≡ length at.done = ap length (at.steps ∙ ap (λ o. at.done ++ open_step o) free.free ∙ append-nil at.done) in
    let number : free.agent.number ≡ length script.0.steps + 1 = at.number ∙ ap (λ n. n + 1) (sym steps) in (
      script.0,
      subst (λ n. Names n line (suc i) rest) v.seated.count of_line.names,
      ap (slice_get v.scripts) first ∙ script.1,
      subst (λ n. asked_by (suc i) n rest ≡ found) number asks,
    )

-- ---- a conversation, once an answer was made

module _ {T O P : Type 0} (w : Words T O P) (lasts : (a b c : T) → w.goes a b → w.goes b c → w.goes a c) (stays : (a : T) → w.goes a a) (of : HallSeen O) (agents : List Asked) (begun before port : P)
    (watch : WatchSeen O Entry T) (seats : List (SeatSeen O)) (p : Progress) (u : IsServing w of agents begun before watch seats p) (on : p.state ≡ state.On) (line : Text) (came : HasHeard w line before port)
    (quiet : IsQuiet w watch seats) where
  -- as it stands before
  abbrev v : IsStanding w of agents begun before watch seats p
  v = u.stands

  -- so many answers went out
  abbrev pub many : ℕ
  many = length v.talk.talk

  abbrev exchange : Option Call → Answer → T → Exchange T
  exchange call answer at = record { line = Some line; call = call; answer = answer; at = at }

  -- It is not the first.
  pub not-first : {X : Type 0} → many ≡ 0 → X
  not-first none = let some = u.greeted on in absurd (omega (arith, none, some))

  -- Each await was looked after.
  pub looked-after : (at : T) → IsPrefix (w.entries watch.last) (w.entries at) → AreLookedAfter (w.opened of.opening) v.scripts v.told (w.entries at)
  looked-after at front k tag awaits = record {
    front = w.entries watch.last;
    all = v.talk.front;
    before = front;
    waits = subst (λ o. WaitsFor (state_after (w.opened o) (w.entries watch.last)) k tag) v.opened (at-rest w of agents begun before watch seats p u on quiet k tag awaits);
  }

  then-told : (now : P) (more : List (Said T)) → w.tells → w.said now ≡ w.said port ++ more → w.said now ≡ w.said before ++ (heard line ∷ more)
  then-told now more t is = is ∙ ap (λ l. l ++ more) (came.said t) ∙ append_assoc (w.said before) (heard line ∷ []) more

  -- What was told then, and that something was said.
  abbrev pub Talked : P → Option Call → Answer → T → Progress → Type 0
  Talked now call answer at q = (told : List Entry) × (t : IsTalk (w.opened of.opening) w.entries w.keeps w.goes w.tells w.said agents begun now at (q.state ≡ state.On) (with_call v.scripts call) told)
      × (q.state ≡ state.On → (0 < length t.talk) × (told ≡ v.told ++ entries_told answer))

  perhaps : (now : P) (call : Option Call) (answer : Answer) (at : T) (q : Progress) → IsExchange (w.opened of.opening) w.entries w.keeps many v.scripts v.told (exchange call answer at)
      → w.goes watch.last at → IsPrefix (w.entries watch.last) (w.entries at) → (q.state ≡ state.On → ⊥)
      → (w.tells → (w.said now ≡ w.said port) ⊎ (w.said now ≡ w.said port ++ told_by answer at)) → Talked now call answer at q
  perhaps now call answer at q one goes front ill out = (
    v.told,
    talk-perhaps (w.opened of.opening) w.entries w.keeps w.goes w.tells w.said agents begun lasts stays before watch.last (p.state ≡ state.On) v.scripts v.told v.talk on now (exchange call answer at) (q.state ≡ state.On)
        (λ t. by t (out t)) one goes front ill,
    λ well. absurd (ill well),
  )
    where
      by : w.tells → (w.said now ≡ w.said port) ⊎ (w.said now ≡ w.said port ++ told_by answer at)
          → (w.said now ≡ w.said before ++ heard line ∷ []) ⊎ (w.said now ≡ w.said before ++ (heard line ∷ told_by answer at))
      by t (inl is) = inl (is ∙ came.said t)
      by t (inr is) = inr (then-told now (told_by answer at) t is)

  -- The answer went out, where all is well; else it may have.
  pub talk-by : (now : P) (call : Option Call) (answer : Answer) (at : T) (q : Progress) → IsExchange (w.opened of.opening) w.entries w.keeps many v.scripts v.told (exchange call answer at)
      → w.goes watch.last at → IsPrefix (w.entries watch.last) (w.entries at) → (s : State) → q.state ≡ s → GoesOut w.tells w.said (told_by answer at) port now s → Talked now call answer at q
  talk-by now call answer at q one goes front state.On is out =
      let talk = talk-more (w.opened of.opening) w.entries w.keeps w.goes w.tells w.said agents begun lasts stays before watch.last (p.state ≡ state.On) v.scripts v.told v.talk on now (exchange call answer at) (q.state ≡ state.On)
      (λ t. then-told now (told_by answer at) t (out t)) one goes front in
      let long = ap length talk.1 ∙ length-append v.talk.talk (exchange call answer at ∷ []) in
      (v.told ++ entries_told answer, talk.0, λ well. (omega (arith, long), refl))
  talk-by now call answer at q one goes front state.Failed is out = perhaps now call answer at q one goes front (failed-on q.state is) out
  talk-by now call answer at q one goes front state.Short is out = perhaps now call answer at q one goes front (short-on q.state is) out

  -- Nothing of an answer went out.
  pub talk-silent : (call : Option Call) (q : Progress) → q.state ≡ state.Short
      → IsTalk (w.opened of.opening) w.entries w.keeps w.goes w.tells w.said agents begun port watch.last (q.state ≡ state.On) (with_call v.scripts call) v.told
  talk-silent call q is =
      talk-lost (w.opened of.opening) w.entries w.keeps w.goes w.tells w.said agents begun lasts stays before watch.last (p.state ≡ state.On) v.scripts v.told v.talk on port (exchange call (entered []) watch.last) (q.state ≡ state.On)
      came.said (stays watch.last) (prefix_refl (w.entries watch.last)) (short-on q.state is)

  -- All entries were told that there are.
  pub all-told : (list : List Entry) → IsPrefix (w.entries watch.last) list → v.told ++ drop p.count list ≡ list
  all-told list front = sym (front-drop v.told list p.count (prefix_trans v.told (w.entries watch.last) list v.talk.front front) (sym (v.counted on)))

  -- What was told then, all that there is.
  abbrev pub Entered : P → Option Call → T → Progress → Type 0
  Entered now call at q = (told : List Entry) × (t : IsTalk (w.opened of.opening) w.entries w.keeps w.goes w.tells w.said agents begun now at (q.state ≡ state.On) (with_call v.scripts call) told)
      × (q.state ≡ state.On → (q.count ≡ length told) × (0 < length t.talk) × IsPrefix v.told told × (told ≡ w.entries at))

  pub talk-entered : (now : P) (call : Option Call) (at : T) (q : Progress) → ((es : List Entry) → v.told ++ es ≡ w.entries at → IsAsked many v.scripts v.told (Some line) call (entered es)) → w.keeps at
      → HasAnswer (with_call v.scripts call) call (w.entries at) → w.goes watch.last at → IsPrefix (w.entries watch.last) (w.entries at) → HasToldMore w.entries w.tells w.said w.faults at port now p q
      → Entered now call at q
  talk-entered now call at q asks kept answered goes front more =
      let list = w.entries at in
      let whole : v.told ++ drop p.count list ≡ list = all-told list front in
      let found = talk-by now call (entered (drop p.count list)) at q
      (record {
        asked = asks (drop p.count list) whole;
        first = λ none. not-first none;
        front = subst (λ l. IsPrefix l list) (sym whole) (prefix_refl list);
        kept = kept;
        looked = λ heard is. looked-after at front;
        answered = subst (HasAnswer (with_call v.scripts call) call) (sym whole) answered;
      })
      goes front q.state refl (more.told on) in
      (found.0, found.1, λ well. (more.count on well ∙ ap length (sym ((found.2 well).1 ∙ whole)), (found.2 well).0, (drop p.count list, (found.2 well).1), (found.2 well).1 ∙ whole))

  -- What holds of the seats, the pass and the talk, as one.
  pub serves : (now : P) (after : WatchSeen O Entry T) (q : Progress) (then : List (SeatSeen O)) (call : Option Call) (told : List Entry)
      → (t : IsTalk (w.opened of.opening) w.entries w.keeps w.goes w.tells w.said agents begun now after.last (q.state ≡ state.On) (with_call v.scripts call) told)
      → AreSeated w.reads of (q.state ≡ state.On) q.whole (with_call v.scripts call) then after.pass.ended
      → ((i : ℕ) (x : SeatSeen O) → slice_get then i ≡ Some x → x.agent ≡ None → x.rows ≡ []) → (q.state ≡ state.On → (q.count ≡ length told) × (0 < length t.talk) × AreTold then told)
      → after.pass.hall ≡ of → after.pass.agent ≡ 0 → w.opening after.last ≡ of.opening → FaultsOn (w.faults port) (w.faults now) p.state q.state
      → IsServing w of agents begun now after then q
  serves now after q then call told talk seated emptied well hall owner opened faults = record {
    stands = record {
      scripts = with_call v.scripts call;
      told = told;
      talk = talk;
      seated = seated;
      emptied = emptied;
      counted = λ is. (well is).0;
      hall = hall;
      owner = owner;
      all = v.all ∙ sym (length-with_call v.scripts call);
      people = v.people ∙ sym (length-with_call v.scripts call);
      few = subst (λ n. n ≤ 64) (sym (length-with_call v.scripts call)) v.few;
      opened = opened;
    };
    greeted = λ is. (well is).1;
    all_told = λ is. (well is).2;
    faulted = faulted-more (w.faults begun) (w.faults port) (w.faults now) p.state q.state
        (faulted-more (w.faults begun) (w.faults before) (w.faults port) p.state p.state u.faulted (faults-on (w.faults before) (w.faults port) p.state p.state came.later on)) faults;
  }

  -- The seats without an agent have no rows, where another seat is at a place.
  pub emptied-set : (i : ℕ) (x y : SeatSeen O) → slice_get seats i ≡ Some x → (y.agent ≡ None → y.rows ≡ []) → (k : ℕ) (z : SeatSeen O) → slice_get (slice_set seats i y) k ≡ Some z → z.agent ≡ None → z.rows ≡ []
  emptied-set i x y there fine k z is none = by (place seats i x y there k z is)
    where
      by : ((k ≡ i) × (z ≡ y)) ⊎ ((k ≢ i) × (slice_get seats k ≡ Some z)) → z.rows ≡ []
      by (inl is) = ap (λ (s : SeatSeen O). s.rows) is.1 ∙ fine (ap (λ (s : SeatSeen O). s.agent) (sym is.1) ∙ none)
      by (inr is) = v.emptied k z is.1 none

  -- ---- a step of the agent at a place

  module _ (i : ℕ) (s : Step) (r : IsRequest line seats i (asking.Step s)) (x x' : SeatSeen O) (there : slice_get seats i ≡ Some x) where
    abbrev call : Call
    call = record { agent = suc i; step = s }

    free : IsFree x
    free = subst IsFree (some-same (sym r.at.there ∙ there)) r.free

    script : (t : Asked) × (slice_get v.scripts i ≡ Some t)
    script = seated-script w.reads of (p.state ≡ state.On) p.whole v.scripts seats watch.pass.ended v.seated i x there

    abbrev more-steps : Asked
    more-steps = with_steps script.0 (script.0.steps ++ s ∷ [])

    at : IsAt w.reads of (suc i) script.0 x free.agent
    at = v.seated.midway on i x free.agent script.0 there free.there script.1

    asks : (es : List Entry) → IsAsked many v.scripts v.told (Some line) (Some call) (entered es)
    asks es =
        let n = asks-next w of agents begun before watch seats p v on line i r.seat r.rest r.free r.at (Ok (asking.Step s)) r.asks in
        calls line (suc i) n.0 r.rest s es n.1 n.2 n.3

    scripts-are : with_call v.scripts (Some call) ≡ add_step i s v.scripts
    scripts-are = with_call-at v.scripts (suc i) i s refl

    answered : (b : AgentSeen O) (base list : List Entry) → IsAt w.reads of (suc i) more-steps x' b → b.pass.base ≡ base → IsPrefix base list → IsLeftOpen s x'.awaits
        → HasAnswer (with_call v.scripts (Some call)) (Some call) list
    answered b base list then seen front open_is a is =
        let first : suc i - 1 ≡ i = omega arith in
        let same : more-steps ≡ a = some-same (sym (get-add_step i s v.scripts script.0 script.1) ∙ (λ j. slice_get (sym scripts-are j) (sym first j)) ∙ is) in
        subst (λ (t : Asked). (length t.steps < next_number (suc i) list) ⊎ ((tag : Text) × (s ≡ step.Await tag) × (length t.steps ≤ next_number (suc i) list))) same
        (answered-by w.reads of (suc i) more-steps s x' b base list then seen front x'.awaits then.steps open_is)

    pub step-made : (now : P) (after : WatchSeen O Entry T) (q : Progress) → HasMade w of s x x' watch after port now p q → IsServing w of agents begun now after (slice_set seats i x') q
    step-made now after q m =
        let found = m.at (suc i) script.0 free.agent free.there at in
        let talk = talk-entered now (Some call) after.last q (λ es is. asks es) m.turned.kept (answered found.0 m.base (w.entries after.last) found.2 found.3 m.turned.noted m.awaits) m.turned.goes_on m.turned.front m.told in
        let seated = seated-asked w.reads of (p.state ≡ state.On) p.whole v.scripts seats watch.pass.ended v.seated i x free.agent script.0 there free.there script.1 s x' found.0 found.1 found.2
        (midway-ends w.reads of (suc i) more-steps found.0 x'.rows x'.hand x'.awaits found.2) in
        serves now after q (slice_set seats i x') (Some call) talk.0 talk.1
        (subst (λ l. AreSeated w.reads of (q.state ≡ state.On) q.whole l (slice_set seats i x') after.pass.ended) (sym scripts-are)
        (subst (λ (y : Bool × List (ℕ × List Entry)). AreSeated w.reads of (q.state ≡ state.On) y.0 (add_step i s v.scripts) (slice_set seats i x') y.1)
        (λ j. (sym m.told.whole j, sym (ap (λ (y : PassSeen O Entry). y.ended) m.turned.pass) j))
        (seated-weaker w.reads of (p.state ≡ state.On) (q.state ≡ state.On) p.whole p.whole (add_step i s v.scripts) (slice_set seats i x') watch.pass.ended (λ well. on) (λ e. e) seated)))
        (emptied-set i x x' there (λ none. absurd (some-none x'.agent found.0 none found.1)))
        (λ well. let told = talk.2 well in (
          told.0,
          told.1,
          told-set v.told talk.0 told.2 seats (u.all_told on) i x x' there (λ none. absurd (some-none x'.agent found.0 none found.1))
              (λ a here open_is. subst (λ (b : AgentSeen O). IsPrefix (own_entries b) (entries_of (suc i) talk.0)) (some-same (sym found.1 ∙ here))
              (shown-base (suc i) found.0 m.base talk.0 found.2.pending found.2.agent found.3 (subst (IsPrefix m.base) (sym told.3) m.turned.noted))),
        ))
        (ap (λ (y : PassSeen O Entry). y.hall) m.turned.pass ∙ v.hall)
        (ap (λ (y : PassSeen O Entry). y.agent) m.turned.pass ∙ v.owner)
        m.turned.opened
        (faults-told w.entries w.tells w.said w.faults after.last port now p q m.told)

    pub step-missed : (now : P) (after : WatchSeen O Entry T) (q : Progress) → HasMissed w of s x x' watch after port now p q → IsServing w of agents begun now after (slice_set seats i x') q
    step-missed now after q m =
        let found = m.ends (suc i) script.0 free.agent free.there at in
        let short : q.state ≡ state.Short = ap (λ (y : Progress). y.state) m.progress in
        let same : p.whole ≡ q.whole = sym (ap (λ (y : Progress). y.whole) m.progress) in
        subst (λ (y : P × WatchSeen O Entry T). IsServing w of agents begun y.0 y.1 (slice_set seats i x') q) (λ j. (sym m.port_is j, sym m.watch j))
        (serves port watch q (slice_set seats i x') (Some call) v.told (talk-silent (Some call) q short)
        (subst (λ l. AreSeated w.reads of (q.state ≡ state.On) q.whole l (slice_set seats i x') watch.pass.ended) (sym scripts-are)
        (seated-put w.reads of (p.state ≡ state.On) p.whole v.scripts seats watch.pass.ended v.seated i x free.agent script.0 there free.there script.1 (q.state ≡ state.On) q.whole (add_step i s v.scripts) more-steps x' found.0
        (λ well. on) (λ e. same ∙ e) (length-add_step i s v.scripts) (get-add_step i s v.scripts script.0 script.1) (λ k other. get-add_step_other i s v.scripts k other)
        found.1 found.2 (λ well. absurd (short-on q.state short well))))
        (emptied-set i x x' there (λ none. absurd (some-none x'.agent found.0 none found.1)))
        (λ well. absurd (short-on q.state short well)) v.hall v.owner v.opened (faults-short (w.faults port) p.state q.state short))

    -- One or the other.
    pub step-turned : (now : P) (after : WatchSeen O Entry T) (q : Progress) (done : Bool) → (done ≡ true → HasMade w of s x x' watch after port now p q) → (done ≡ false → HasMissed w of s x x' watch after port now p q)
        → IsServing w of agents begun now after (slice_set seats i x') q
    step-turned now after q true made missed = step-made now after q (made refl)
    step-turned now after q false made missed = step-missed now after q (missed refl)
