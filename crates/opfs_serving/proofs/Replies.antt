-- How a conversation stands once a line was refused, an agent ended, or memory was wanting for an answer.
use Rattle.std.proofs.Common.{◌≡◌, ◌≢◌, ◌⊎◌, inl, inr, ℕ, suc, ◌-◌, ◌+◌, Bool, true, Option, Some, None, Ok, Err, List, [], ◌∷◌, ◌++◌, length, length-append, arith, refl, sym, ap, ◌∙◌, subst, append-nil, slice_index_or, slice_set}
use Rattle.std.proofs.lemmas.Option.{get_or_from_slice_get}
use Rattle.std.specs.Prelude.{codes, slice_get}
use Rattle.opfs_base.specs.Texts.{Text}
use Rattle.opfs_hall.specs.History.{IsPrefix}
use Rattle.opfs_hall.specs.Seen.{HallSeen, PassSeen, WatchSeen}
use Rattle.opfs_hist.specs.declared.entry.Entry.{Entry}
use Rattle.opfs_port.specs.Said.{Said, told}
use Rattle.opfs_script.specs.Scripts.{Asked}
use Rattle.opfs_script.specs.Lines.{named_agent}
use Rattle.opfs_script.specs.declared.lines.Asking.TheVariants as asking
use Rattle.opfs_script.specs.declared.step.Step.TheVariants as step
use Rattle.opfs_script_run.specs.Runs.Running.{entries_of}
use Rattle.opfs_serving.specs.Endings.{HasLeft}
use Rattle.opfs_serving.specs.Exchanges.{entered, refused}
use Rattle.opfs_serving.specs.Lines.{IsAsked, IsRefusal, Names, ended, ends, has_end, long, nobody, refusal_text, refuses, too_many, unread, waiting}
use Rattle.opfs_serving.specs.Requests.{IsAwaiting, IsFree, IsOf, IsRefusedAt, IsRequest}
use Rattle.opfs_serving.specs.Requests as cause
use Rattle.opfs_serving.specs.Seats.{AreSeated, EndsAt, HasBegunToWait, IsAt, IsMidway, SeatSeen, open_step}
use Rattle.opfs_serving.specs.Served.{AreTold, HasHeard, IsAtRest, IsQuiet, IsServing, IsStanding, Words, opens}
use Rattle.opfs_serving.specs.Turns.{GoesOut, HasSaid, HasToldMore, HasTurned}
use Rattle.opfs_serving.specs.declared.progress.Progress.{Progress}
use Rattle.opfs_serving.specs.declared.progress.State.{State}
use Rattle.opfs_serving.specs.declared.progress.State.TheVariants as state
use Rattle.opfs_serving.specs.declared.refusal.LineRefusal.{LineRefusal}
use Rattle.opfs_serving.specs.declared.refusal.LineRefusal.TheVariants as refusal
use Rattle.opfs_serving.proofs.Awaiting.{still-midway}
use Rattle.opfs_serving.proofs.Faulted.{faults-said, faults-short, faults-told}
use Rattle.opfs_serving.proofs.Leaves.{left-over, left-told}
use Rattle.opfs_serving.proofs.Midway.{midway-whole}
use Rattle.opfs_serving.proofs.Polls.{serving-polled, set-there, stands-midway}
use Rattle.opfs_serving.proofs.Seating.{length-set, place, seated-ended, seated-script, seated-weaker}
use Rattle.opfs_serving.proofs.Showing.{many-told, told-set}
use Rattle.opfs_serving.proofs.Quiet.{number-grows, number-is, waits-on}
use Rattle.opfs_serving.proofs.Steps.{asks-next, emptied-set, looked-after, not-first, serves, short-on, talk-by, talk-entered, talk-silent}
use Rattle.opfs_serving.proofs.Talking.{front-none}
use Rattle.opfs_hall.proofs.Owned.{prefix_trans}
use Rattle.opfs_turns.specs.Agents.{AgentSeen, IsAgent}
use Rattle.opfs_turns.specs.Calls.{HasLooked}

none-some : {X : Type 0} (o : Option X) (x : X) → o ≡ None → o ≡ Some x → ⊥
none-some o x none some = cc

-- What is said of a text that was told, by how all stands.
out-by : {T P : Type 0} (tells : Type 0) (said : P → List (Said T)) (faults : P → ℕ) (text : Text) (at : T) (old new : P) (p q : Progress) → HasSaid tells said faults text at old new p q → (s : State) → q.state ≡ s
    → GoesOut tells said (told text at ∷ []) old new s
out-by tells said faults text at old new p q h state.On is = h.on is
out-by tells said faults text at old new p q h state.Failed is = h.off
out-by tells said faults text at old new p q h state.Short is = h.off

-- The agent of a seat that is free may end, with all of its script.
module _ {O : Type 0} (tells : Type 0) (of : HallSeen O) (k : ℕ) (asked : Asked) (x : SeatSeen O) (a : AgentSeen O) where
  pub free-ends : IsMidway tells of k asked a x.rows x.hand x.awaits → x.awaits ≡ None → EndsAt tells of k asked true x a
  free-ends m free = midway-whole tells of k asked a x.rows x.hand (subst (IsMidway tells of k asked a x.rows x.hand) free m)

-- So may the one of which a line asks that.
pub may-end : {T O P : Type 0} (w : Words T O P) (of : HallSeen O) (agents : List Asked) (begun before : P) (watch : WatchSeen O Entry T) (seats : List (SeatSeen O)) (p : Progress)
    → IsServing w of agents begun before watch seats p → p.state ≡ state.On → (i : ℕ) (x : SeatSeen O) (a : AgentSeen O) → slice_get seats i ≡ Some x → x.agent ≡ Some a → x.awaits ≡ None
    → (k : ℕ) × (asked : Asked) × (whole : Bool) × EndsAt w.reads of k asked whole x a
may-end w of agents begun before watch seats p v on i x a there here free =
    let script = seated-script w.reads of (p.state ≡ state.On) p.whole v.stands.scripts seats watch.pass.ended v.stands.seated i x there in
    (suc i, script.0, true, free-ends w.reads of (suc i) script.0 x a (v.stands.seated.midway on i x a script.0 there here script.1) free)

-- The pass that has collected one is of the same hall.
pub left-hall : {T O : Type 0} (list : T → List Entry) (tells : Type 0) (of : HallSeen O) (x : SeatSeen O) (a : AgentSeen O) (before after : WatchSeen O Entry T) → HasLeft list tells of x a before after → before.pass.hall ≡ of → after.pass.hall ≡ of
left-hall {T} {O} list tells of x a before after l hall = ap (λ (y : PassSeen O Entry). y.hall) l.pass ∙ hall

-- ---- a line is refused for its cause

module _ {T O P : Type 0} (w : Words T O P) (of : HallSeen O) (agents : List Asked) (begun before : P) (watch : WatchSeen O Entry T) (seats : List (SeatSeen O)) (p : Progress)
    (u : IsServing w of agents begun before watch seats p) (on : p.state ≡ state.On) (line : Text) where
  abbrev v : IsStanding w of agents begun before watch seats p
  v = u.stands

  names-script : (i : ℕ) (x : SeatSeen O) (rest : Text) → IsOf line seats i x rest → Names (length v.scripts) line (suc i) rest
  names-script i x rest of_line = subst (λ n. Names n line (suc i) rest) v.seated.count of_line.names

  pub refusal-is : (why : LineRefusal) → IsRefusedAt (w.entries watch.last) line seats why → IsRefusal v.scripts v.told line why
  refusal-is why (cause.long most) = long most
  refusal-is why (cause.nobody none) = nobody (subst (λ n. named_agent n line ≡ None) v.seated.count none)
  refusal-is why (cause.unread i x rest free reason r of_line asks is) =
      let n = asks-next w of agents begun before watch seats p v on line i x rest free of_line (Err reason) asks in
      unread (suc i) n.0 rest reason r n.1 n.2 n.3 is
  refusal-is why (cause.waiting i x rest awaits of_line seen) =
      let script = seated-script w.reads of (p.state ≡ state.On) p.whole v.scripts seats watch.pass.ended v.seated i x of_line.there in
      let m = v.seated.midway on i x awaits.agent script.0 of_line.there awaits.there script.1 in
      let first : suc i - 1 ≡ i = omega arith in
      let steps : script.0.steps ≡ m.done ++ step.Await awaits.tag ∷ [] = m.steps ∙ ap (λ o. m.done ++ open_step o) awaits.awaits in
      let long : length script.0.steps ≡ length m.done + 1 = ap length steps ∙ length-append m.done (step.Await awaits.tag ∷ []) in
      let number = number-is w.reads of (suc i) script.0 x awaits.agent m in
      let next = m.number in
      let grows = number-grows (suc i) v.told awaits.agent.pass.base (prefix_trans v.told (w.entries watch.last) awaits.agent.pass.base v.talk.front seen) in
      waiting (suc i) script.0 rest m.done awaits.tag (names-script i x rest of_line) (ap (slice_get v.scripts) first ∙ script.1) steps (omega (arith, long, number, next, grows))
  refusal-is why (cause.ended i x rest of_line gone) = ended (suc i) rest (names-script i x rest of_line) ((u.all_told on).over i x of_line.there gone)
  refusal-is why (cause.too_many i x rest of_line full) =
      let script = seated-script w.reads of (p.state ≡ state.On) p.whole v.scripts seats watch.pass.ended v.seated i x of_line.there in
      let m = v.seated.midway on i x full.agent script.0 of_line.there full.there script.1 in
      too_many (suc i) rest (names-script i x rest of_line)
      (many-told full.agent (length x.rows) (entries_of (suc i) v.told) m.kept.counted m.fewer ((u.all_told on).shown i x full.agent of_line.there full.there full.free) full.many)

module _ {T O P : Type 0} (w : Words T O P) (lasts : (a b c : T) → w.goes a b → w.goes b c → w.goes a c) (stays : (a : T) → w.goes a a) (of : HallSeen O) (agents : List Asked) (begun before port : P)
    (watch : WatchSeen O Entry T) (seats : List (SeatSeen O)) (p : Progress) (u : IsServing w of agents begun before watch seats p) (on : p.state ≡ state.On) (line : Text) (came : HasHeard w line before port)
    (quiet : IsQuiet w watch seats) where
  abbrev here : IsStanding w of agents begun before watch seats p
  here = u.stands

  seated-well : (sound : Type 0) (whole : Bool) (ended : List (ℕ × List Entry)) → p.whole ≡ whole → watch.pass.ended ≡ ended → AreSeated w.reads of sound whole here.scripts seats ended
  seated-well sound whole gone same kept =
      subst (λ (y : Bool × List (ℕ × List Entry)). AreSeated w.reads of sound y.0 here.scripts seats y.1) (λ j. (same j, kept j))
      (seated-weaker w.reads of (p.state ≡ state.On) sound p.whole p.whole here.scripts seats watch.pass.ended (λ well. on) (λ e. e) here.seated)

  -- There was no memory for an answer, nor for what the line asks.
  pub kept-silent : (q : Progress) → q ≡ record p { state = state.Short } → IsServing w of agents begun port watch seats q
  kept-silent q is =
      let short : q.state ≡ state.Short = ap (λ (y : Progress). y.state) is in
      serves w lasts stays of agents begun before port watch seats p u on line came quiet port watch q seats None here.told
      (talk-silent w lasts stays of agents begun before port watch seats p u on line came quiet None q short)
      (seated-well (q.state ≡ state.On) q.whole watch.pass.ended (sym (ap (λ (y : Progress). y.whole) is)) refl)
      here.emptied (λ well. absurd (short-on q.state short well)) here.hall here.owner here.opened (faults-short (w.faults port) p.state q.state short)

  -- The line was refused.
  pub line-refused : (why : LineRefusal) → IsRefusedAt (w.entries watch.last) line seats why → (now : P) (after : WatchSeen O Entry T) (q : Progress) (text : Text) → text ≡ codes "? " ++ refusal_text why
      → HasTurned w.opening w.entries w.keeps w.goes of watch after → HasSaid w.tells w.said w.faults text after.last port now p q → IsServing w of agents begun now after seats q
  line-refused why refusal now after q text is turned said =
      let talk = talk-by w lasts stays of agents begun before port watch seats p u on line came quiet now None (refused (refusal_text why)) after.last q
      (record {
        asked = refuses line why (refusal-is w of agents begun before watch seats p u on line why refusal);
        first = λ none. not-first w lasts stays of agents begun before port watch seats p u on line came quiet none;
        front = front-none here.told (w.entries after.last) (prefix_trans here.told (w.entries watch.last) (w.entries after.last) here.talk.front turned.front);
        kept = turned.kept;
        looked = λ heard is. looked-after w lasts stays of agents begun before port watch seats p u on line came quiet after.last turned.front;
        answered = tt;
      })
      turned.goes_on turned.front q.state refl
      (out-by w.tells w.said w.faults (codes "? " ++ refusal_text why) after.last port now p q (subst (λ t. HasSaid w.tells w.said w.faults t after.last port now p q) is said) q.state refl) in
      serves w lasts stays of agents begun before port watch seats p u on line came quiet now after q seats None talk.0 talk.1
      (seated-well (q.state ≡ state.On) q.whole after.pass.ended (sym said.whole) (sym (ap (λ (y : PassSeen O Entry). y.ended) turned.pass)))
      here.emptied
      (λ well. let same : talk.0 ≡ here.told = (talk.2 well).1 ∙ append-nil here.told in (
        said.count ∙ here.counted on ∙ ap length (sym same),
        (talk.2 well).0,
        subst (AreTold seats) (sym same) (u.all_told on),
      ))
      (ap (λ (y : PassSeen O Entry). y.hall) turned.pass ∙ here.hall)
      (ap (λ (y : PassSeen O Entry). y.agent) turned.pass ∙ here.owner)
      turned.opened
      (faults-said w.tells w.said w.faults text after.last port now p q said)

  -- ---- the agent at a place has ended

  module _ (i : ℕ) (r : IsRequest line seats i asking.End) (x x' : SeatSeen O) (there : slice_get seats i ≡ Some x) (free : IsFree x) where
    script : (t : Asked) × (slice_get here.scripts i ≡ Some t)
    script = seated-script w.reads of (p.state ≡ state.On) p.whole here.scripts seats watch.pass.ended here.seated i x there

    asks : (es : List Entry) → has_end (suc i) es ≡ true → IsAsked (length here.talk.talk) here.scripts here.told (Some line) None (entered es)
    asks es over =
        let n = asks-next w of agents begun before watch seats p here on line i r.seat r.rest r.free r.at (Ok asking.End) r.asks in
        ends line (suc i) n.0 r.rest es n.1 n.2 n.3 over

    may : EndsAt w.reads of (suc i) script.0 true x free.agent
    may = free-ends w.reads of (suc i) script.0 x free.agent (here.seated.midway on i x free.agent script.0 there free.there script.1) free.free

    pub agent-ended : (left after : WatchSeen O Entry T) (now : P) (q : Progress) → HasLeft w.entries w.reads of x free.agent watch left → x'.agent ≡ None → x'.rows ≡ []
        → HasTurned w.opening w.entries w.keeps w.goes of left after → HasToldMore w.entries w.tells w.said w.faults after.last port now p q → IsServing w of agents begun now after (slice_set seats i x') q
    agent-ended left after now q l none empty turned more =
        let goes : w.goes watch.last after.last = subst (λ t. w.goes t after.last) l.last turned.goes_on in
        let front : IsPrefix (w.entries watch.last) (w.entries after.last) = subst (λ t. IsPrefix (w.entries t) (w.entries after.last)) l.last turned.front in
        let over : has_end (suc i) (w.entries after.last) ≡ true = left-over w.entries w.reads of i x free.agent watch left (w.entries after.last) l may.agent turned.noted in
        let talk = talk-entered w lasts stays of agents begun before port watch seats p u on line came quiet now None after.last q
        (λ es is. asks es (left-told w.entries w.reads of i x free.agent watch left (w.entries after.last) l may.agent turned.noted here.told es here.talk.front is)) turned.kept tt goes front more in
        let has = l.entries (suc i) script.0 true may in
        let gone : watch.pass.ended ++ (suc i, l.base) ∷ [] ≡ after.pass.ended =
        sym (ap (λ (y : PassSeen O Entry). y.ended) turned.pass ∙ ap (λ (y : PassSeen O Entry). y.ended) l.pass ∙ ap (λ k. watch.pass.ended ++ (k, l.base) ∷ []) may.agent) in
        serves w lasts stays of agents begun before port watch seats p u on line came quiet now after q (slice_set seats i x') None talk.0 talk.1
        (subst (λ (y : Bool × List (ℕ × List Entry)). AreSeated w.reads of (q.state ≡ state.On) y.0 here.scripts (slice_set seats i x') y.1) (λ j. (sym more.whole j, gone j))
        (seated-ended w.reads of (p.state ≡ state.On) p.whole here.scripts seats watch.pass.ended here.seated i x free.agent script.0 there free.there script.1 (q.state ≡ state.On) p.whole (λ well. on) (λ e. e) x' l.base none
        (record { cut = has.cut; run = λ e. has.run refl })))
        (emptied-set w lasts stays of agents begun before port watch seats p u on line came quiet i x x' there (λ e. empty))
        (λ well. let told = talk.2 well in (
          told.0,
          told.1,
          told-set here.told talk.0 told.2 seats (u.all_told on) i x x' there (λ e. subst (λ l. has_end (suc i) l ≡ true) (sym told.3) over) (λ a is open_is. absurd (none-some x'.agent a none is)),
        ))
        (ap (λ (y : PassSeen O Entry). y.hall) turned.pass ∙ ap (λ (y : PassSeen O Entry). y.hall) l.pass ∙ here.hall)
        (ap (λ (y : PassSeen O Entry). y.agent) turned.pass ∙ ap (λ (y : PassSeen O Entry). y.agent) l.pass ∙ here.owner)
        turned.opened
        (faults-told w.entries w.tells w.said w.faults after.last port now p q more)

-- ---- an agent that awaits, and has looked

module _ {O : Type 0} (tells : Type 0) (of : HallSeen O) (k : ℕ) (asked : Asked) (x x' : SeatSeen O) (a b : AgentSeen O) (tag : Text) (awaits : x.awaits ≡ Some tag) (same : x' ≡ record x { agent = Some b }) where
  pub looked-at : HasLooked a b → IsAgent tells b → IsAt tells of k asked x a → IsAt tells of k asked x' b
  looked-at looked kept at =
      subst (λ (y : SeatSeen O). IsAt tells of k asked y b) (sym same)
      (subst (IsMidway tells of k asked b x.rows x.hand) (sym awaits)
      (still-midway tells of k asked a b x.rows x.hand tag (subst (IsMidway tells of k asked a x.rows x.hand) awaits at) kept looked))

-- The agent of a seat has looked behind the owner's pass.
abbrev pub HasSeen : {T O P : Type 0} → Words T O P → WatchSeen O Entry T → SeatSeen O → SeatSeen O → Type 0
HasSeen {T} {O} {P} w watch x x' =
    (a : AgentSeen O) → x.agent ≡ Some a → (b : AgentSeen O) × (x' ≡ record x { agent = Some b }) × HasLooked a b × IsAgent w.reads b × IsPrefix (w.entries watch.last) b.pass.base

pub of-seat : {O : Type 0} (line : Text) (seats : List (SeatSeen O)) (i : ℕ) (x y : SeatSeen O) (rest : Text) → IsOf line seats i x rest → y ≡ slice_index_or seats i y → x ≡ y
of-seat line seats i x y rest of_line is = sym (is ∙ get_or_from_slice_get seats i x y of_line.there)

module _ {T O P : Type 0} (w : Words T O P) (lasts : (a b c : T) → w.goes a b → w.goes b c → w.goes a c) (stays : (a : T) → w.goes a a) (of : HallSeen O) (agents : List Asked) (begun before : P)
    (watch : WatchSeen O Entry T) (seats : List (SeatSeen O)) (p : Progress) (u : IsServing w of agents begun before watch seats p) (on : p.state ≡ state.On) (line : Text)
    (i : ℕ) (x x' : SeatSeen O) (rest : Text) (of_line : IsOf line seats i x rest) (awaits : IsAwaiting x) where
  pub awaits-there : (y : SeatSeen O) → x ≡ y → (a : AgentSeen O) × (y.agent ≡ Some a) × (a.pass.hall ≡ of)
  awaits-there y same =
      let m = stands-midway w lasts stays of agents begun before watch seats p u.stands i x of_line.there on awaits.agent awaits.there in
      (awaits.agent, ap (λ (z : SeatSeen O). z.agent) (sym same) ∙ awaits.there, m.2.hall)

  module _ (seen : HasSeen w watch x x') where
    found : (b : AgentSeen O) × (x' ≡ record x { agent = Some b }) × HasLooked awaits.agent b × IsAgent w.reads b × IsPrefix (w.entries watch.last) b.pass.base
    found = seen awaits.agent awaits.there

    still-awaits : x'.awaits ≡ Some awaits.tag
    still-awaits = ap (λ (y : SeatSeen O). y.awaits) found.1 ∙ awaits.awaits

    pub serving-looked : IsServing w of agents begun before watch (slice_set seats i x') p
    serving-looked =
        serving-polled w lasts stays of agents begun before watch seats p u i x of_line.there on x'
        (λ k asked a here at. let f = seen a here in (f.0, ap (λ (y : SeatSeen O). y.agent) f.1, looked-at w.reads of k asked x x' a f.0 awaits.tag awaits.awaits f.1 f.2 f.3 at))
        (λ none. absurd (none-some x.agent awaits.agent none awaits.there))
        (λ none. absurd (none-some x'.awaits awaits.tag none still-awaits))

    pub quiet-looked : IsQuiet w watch seats → IsQuiet w watch (slice_set seats i x')
    quiet-looked quiet = record { begun = λ k y at. waiting-at k y (place seats i x x' of_line.there k y at); rest = λ k y at. rest-at k y (place seats i x x' of_line.there k y at) }
      where
        waiting-at : (k : ℕ) (y : SeatSeen O) → ((k ≡ i) × (y ≡ x')) ⊎ ((k ≢ i) × (slice_get seats k ≡ Some y)) → HasBegunToWait y
        waiting-at k y (inl same) = subst (λ (z : SeatSeen O). HasBegunToWait z) (sym same.1) (waits-on x x' awaits.agent found.0 awaits.there found.1 found.2 (quiet.begun i x of_line.there))
        waiting-at k y (inr other) = quiet.begun k y other.1

        rest-at : (k : ℕ) (y : SeatSeen O) → ((k ≡ i) × (y ≡ x')) ⊎ ((k ≢ i) × (slice_get seats k ≡ Some y)) → IsAtRest (opens w watch.last) (w.entries watch.last) (suc k) y
        rest-at k y (inl same) =
            λ a tag there is. quiet.rest k x (ap (slice_get seats) same.0 ∙ of_line.there) awaits.agent tag awaits.there (ap (λ (z : SeatSeen O). z.awaits) (sym found.1 ∙ sym same.1) ∙ is)
        rest-at k y (inr other) = quiet.rest k y other.1

    pub refused-looked : IsRefusedAt (w.entries watch.last) line (slice_set seats i x') refusal.Waiting
    refused-looked =
        cause.waiting i x' rest (record { agent = found.0; there = ap (λ (y : SeatSeen O). y.agent) found.1; tag = awaits.tag; awaits = still-awaits })
        (record { there = set-there seats i x x' of_line.there; names = subst (λ n. Names n line (suc i) rest) (sym (length-set seats i x')) of_line.names })
        found.4
