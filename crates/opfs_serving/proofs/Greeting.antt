-- How a conversation stands on, from its first answer to what it leaves.
use Rattle.std.proofs.Common.{◌≡◌, ◌⊎◌, ℕ, Some, None, List, [], ◌∷◌, ◌++◌, zero, suc, ◌<◌, append-nil, length, length-append, get_or, drop, codes, decimal, refl, sym, ap, ◌∙◌, subst, inl, inr, arith}
use Rattle.std.specs.Prelude.{All, slice_get}
use Rattle.opfs_base.specs.Texts.{Text}
use Rattle.opfs_hall.proofs.Owned.{prefix_trans}
use Rattle.opfs_hall.specs.History.{HasEnded, IsPrefix}
use Rattle.opfs_hall.specs.Seen.{HallSeen, HasAll, PassSeen, WatchSeen}
use Rattle.opfs_hist.specs.declared.entry.Entry.{Entry}
use Rattle.opfs_machine.specs.Openings.{Opening}
use Rattle.opfs_port.specs.Said.{WentOut, told as told_line}
use Rattle.opfs_script.specs.Scripts.{Asked}
use Rattle.opfs_serving.specs.Exchanges.{Exchange, entered, ready, told_by}
use Rattle.opfs_serving.specs.Lines.{begins, unasked}
use Rattle.opfs_serving.specs.Seats.{AreSeated, SeatSeen}
use Rattle.opfs_serving.specs.Served.{AreTold, IsServed, IsServing, IsSilent, IsStanding, Words, opens}
use Rattle.opfs_serving.specs.Talks.{IsExchange, IsTalk}
use Rattle.opfs_serving.specs.Turns.{GoesOut, HasSaid, HasToldMore, HasTurned}
use Rattle.opfs_serving.specs.declared.progress.Progress.{Progress}
use Rattle.opfs_serving.specs.declared.progress.State.{State}
use Rattle.opfs_serving.specs.declared.progress.State.TheVariants as state
use Rattle.opfs_serving.proofs.Cleared.{IsGone}
use Rattle.opfs_serving.proofs.Faulted.{faulted-more, faulted-none, faults-said, faults-told}
use Rattle.opfs_serving.proofs.Seating.{none-there, seated-cut, seated-has_all, seated-run, seated-weaker}
use Rattle.opfs_serving.proofs.Talking.{front-drop, front-none, front-told, talk-more, talk-perhaps, talk-stands}

get-there : {X : Type 0} (xs : List X) (i : ℕ) (d : X) → i < length xs → slice_get xs i ≡ Some (get_or xs i d)
get-there [] i d less = absurd (omega (arith, less))
get-there (x ∷ xs) zero d less = refl
get-there (x ∷ xs) (suc i) d less = get-there xs i d (omega (arith, less))

no-line : {X : Type 0} {x : X} → None ≡ Some x → ⊥
no-line e = cc

failed-not-on : state.Failed ≡ state.On → ⊥
failed-not-on e = cc

short-not-on : state.Short ≡ state.On → ⊥
short-not-on e = cc

short-not-failed : state.Short ≡ state.Failed → ⊥
short-not-failed e = cc

on-not-failed : (s : State) → s ≡ state.On → s ≡ state.Failed → ⊥
on-not-failed s on failed = cc

module _ {T O P : Type 0} (w : Words T O P) (lasts : (u v x : T) → w.goes u v → w.goes v x → w.goes u x) (stays : (v : T) → w.goes v v) (of : HallSeen O) (agents : List Asked) (now : P)
    (watch : WatchSeen O Entry T) (seats : List (SeatSeen O)) (p : Progress) (u : IsSilent w of agents now watch seats p) where
  abbrev v : IsStanding w of agents now now watch seats p
  v = u.stands

  -- There was no memory for the first answer.
  pub serving-less : (q : Progress) → q ≡ record p { state = state.Short } → IsServing w of agents now now watch seats q
  serving-less q is = subst (IsServing w of agents now now watch seats) (sym is) record {
    stands = record {
      scripts = v.scripts;
      told = v.told;
      talk = (talk-stands (w.opened of.opening) w.entries w.keeps w.goes w.tells w.said agents now lasts now now watch.last watch.last (p.state ≡ state.On) (state.Short ≡ state.On) v.scripts v.told
          v.talk (λ t. refl) (stays watch.last) ([], sym (append-nil (w.entries watch.last))) (λ well. absurd (short-not-on well))).0;
      seated = seated-weaker w.reads of (p.state ≡ state.On) (state.Short ≡ state.On) p.whole p.whole v.scripts seats watch.pass.ended (λ well. absurd (short-not-on well)) (λ e. e) v.seated;
      emptied = v.emptied;
      counted = λ well. absurd (short-not-on well);
      hall = v.hall;
      owner = v.owner;
      all = v.all;
      people = v.people;
      few = v.few;
      opened = v.opened;
    };
    greeted = λ well. absurd (short-not-on well);
    all_told = λ well. absurd (short-not-on well);
    faulted = faulted-none (w.faults now) state.Short short-not-failed;
  }

  -- ---- how many agents there are

  module _ (on : p.state ≡ state.On) (then : P) (later : WatchSeen O Entry T) (q : Progress) (text : Text) (n : ℕ) (count : n ≡ length seats) (text-is : text ≡ codes "ready " ++ decimal n)
      (turned : HasTurned w.opening w.entries w.keeps w.goes of watch later) (said : HasSaid w.tells w.said w.faults text later.last now then p q) where
    -- It stands on, with what was said in a turn.
    serving-turned : (told : List Entry) (t : IsTalk (w.opened of.opening) w.entries w.keeps w.goes w.tells w.said agents now then later.last (q.state ≡ state.On) v.scripts told)
        → (q.state ≡ state.On → (q.count ≡ length told) × (0 < length t.talk) × (told ≡ v.told)) → IsServing w of agents now then later seats q
    serving-turned told talk well = record {
      stands = record {
        scripts = v.scripts;
        told = told;
        talk = talk;
        seated = subst (λ (ended : List (ℕ × List Entry)). AreSeated w.reads of (q.state ≡ state.On) q.whole v.scripts seats ended)
            (sym (ap (λ (x : PassSeen O Entry). x.ended) turned.pass))
            (seated-weaker w.reads of (p.state ≡ state.On) (q.state ≡ state.On) p.whole q.whole v.scripts seats watch.pass.ended (λ is. on) (λ e. sym said.whole ∙ e) v.seated);
        emptied = v.emptied;
        counted = λ is. (well is).0;
        hall = ap (λ (x : PassSeen O Entry). x.hall) turned.pass ∙ v.hall;
        owner = ap (λ (x : PassSeen O Entry). x.agent) turned.pass ∙ v.owner;
        all = v.all;
        people = v.people;
        few = v.few;
        opened = turned.opened;
      };
      greeted = λ is. (well is).1;
      all_told = λ is. subst (AreTold seats) (sym (well is).2) u.all_told;
      faulted = faulted-more (w.faults now) (w.faults now) (w.faults then) p.state q.state (faulted-none (w.faults now) p.state (on-not-failed p.state on))
          (faults-said w.tells w.said w.faults text later.last now then p q said);
    }

    abbrev greeted : Exchange T
    greeted = record { line = None; call = None; answer = ready (length v.scripts); at = later.last }

    text-told : text ≡ codes "ready " ++ decimal (length v.scripts)
    text-told = text-is ∙ ap (λ k. codes "ready " ++ decimal k) (count ∙ v.seated.count)

    went : WentOut text later.last (w.said now) (w.said then) → w.said then ≡ w.said now ++ told_by (ready (length v.scripts)) later.last
    went out = out ∙ ap (λ t. w.said now ++ told_line t later.last ∷ []) text-told

    one : IsExchange (w.opened of.opening) w.entries w.keeps (length v.talk.talk) v.scripts v.told greeted
    one = record {
      asked = begins (ap length u.none);
      first = λ none. refl;
      front = front-none v.told (w.entries later.last) (prefix_trans v.told (w.entries watch.last) (w.entries later.last) v.talk.front turned.front);
      kept = turned.kept;
      looked = λ line is. absurd (no-line is);
      answered = tt;
    }

    off : (q.state ≡ state.On → ⊥) → IsServing w of agents now then later seats q
    off ill = serving-turned v.told
        (talk-perhaps (w.opened of.opening) w.entries w.keeps w.goes w.tells w.said agents now lasts stays now watch.last (p.state ≡ state.On) v.scripts v.told v.talk on then greeted (q.state ≡ state.On)
        (λ t. perhaps (said.off t)) one turned.goes_on turned.front ill)
        (λ well. absurd (ill well))
      where
        perhaps : (w.said then ≡ w.said now) ⊎ WentOut text later.last (w.said now) (w.said then)
            → (w.said then ≡ w.said now ++ []) ⊎ (w.said then ≡ w.said now ++ told_by (ready (length v.scripts)) later.last)
        perhaps (inl same) = inl (same ∙ sym (append-nil (w.said now)))
        perhaps (inr out) = inr (went out)

    by : (st : State) → q.state ≡ st → IsServing w of agents now then later seats q
    by state.On is =
        let talk = talk-more (w.opened of.opening) w.entries w.keeps w.goes w.tells w.said agents now lasts stays now watch.last (p.state ≡ state.On) v.scripts v.told v.talk on then greeted (q.state ≡ state.On)
        (λ t. went (said.on is t)) one turned.goes_on turned.front in
        let long = ap length talk.1 ∙ length-append v.talk.talk (greeted ∷ []) in
        serving-turned (v.told ++ []) talk.0 (λ well. (said.count ∙ v.counted on ∙ ap length (sym (append-nil v.told)), omega (arith, long), append-nil v.told))
    by state.Failed is = off (λ well. failed-not-on (sym is ∙ well))
    by state.Short is = off (λ well. short-not-on (sym is ∙ well))

    pub serving-greeted : IsServing w of agents now then later seats q
    serving-greeted = by q.state refl

module _ {T O P : Type 0} (w : Words T O P) (lasts : (u v x : T) → w.goes u v → w.goes v x → w.goes u x) (stays : (v : T) → w.goes v v) (of : HallSeen O) (agents : List Asked) (begun now : P) where
  module _ (watch : WatchSeen O Entry T) (seats : List (SeatSeen O)) (p : Progress) (u : IsServing w of agents begun now watch seats p) where
    abbrev s : IsStanding w of agents begun now watch seats p
    s = u.stands

    -- ---- its end

    module _ (none : All (λ x. x.agent ≡ None) seats) where
      gone-there : (i : ℕ) (x : SeatSeen O) → slice_get seats i ≡ Some x → x.agent ≡ None
      gone-there = none-there seats none

      pub serving-gone : All IsGone seats
      serving-gone k d within = (none k d within, s.emptied k (get_or seats k d) (get-there seats k d within) (none k d within))

      pub serving-has_all : HasAll watch.pass
      serving-has_all = seated-has_all w.reads of (p.state ≡ state.On) p.whole s.scripts seats watch.pass.ended s.seated gone-there watch.pass s.hall s.owner s.all refl

      module _ (store : T) (opening : w.opening store ≡ of.opening) (goes : w.goes watch.last store) (front : IsPrefix (w.entries watch.last) (w.entries store)) (kept : w.keeps store)
          (ended : All (HasEnded (λ (e : Entry). e.agent) (w.entries store)) watch.pass.ended) (then : P) (q : Progress) (more : HasToldMore w.entries w.tells w.said w.faults store now then p q) where
        abbrev ServedFrom : Opening → List Entry → Type 0
        ServedFrom o told = (t : IsTalk o w.entries w.keeps w.goes w.tells w.said agents begun then store (q.state ≡ state.On) s.scripts told) × (q.state ≡ state.On → (0 < length t.talk) × (told ≡ w.entries store))

        abbrev Served : List Entry → Type 0
        Served told = ServedFrom (w.opened of.opening) told

        told-front : IsPrefix s.told (w.entries store)
        told-front = prefix_trans s.told (w.entries watch.last) (w.entries store) s.talk.front front

        module _ (on : p.state ≡ state.On) where
          abbrev rest : List Entry
          rest = drop p.count (w.entries store)

          whole-is : w.entries store ≡ s.told ++ rest
          whole-is = front-drop s.told (w.entries store) p.count told-front (sym (s.counted on))

          abbrev last : Exchange T
          last = record { line = None; call = None; answer = entered rest; at = store }

          entered-last : IsExchange (w.opened of.opening) w.entries w.keeps (length s.talk.talk) s.scripts s.told last
          entered-last = record {
            asked = unasked rest;
            first = λ none. let some = u.greeted on in absurd (omega (arith, none, some));
            front = front-told s.told (w.entries store) p.count told-front (sym (s.counted on));
            kept = kept;
            looked = λ line is. absurd (no-line is);
            answered = tt;
          }

          ends-on : q.state ≡ state.On → Served (s.told ++ rest)
          ends-on is =
              let talk = talk-more (w.opened of.opening) w.entries w.keeps w.goes w.tells w.said agents begun lasts stays now watch.last (p.state ≡ state.On) s.scripts s.told s.talk on then last (q.state ≡ state.On)
              (λ t. subst (GoesOut w.tells w.said (told_by (entered rest) store) now then) is (more.told on) t) entered-last goes front in
              let long = ap length talk.1 ∙ length-append s.talk.talk (last ∷ []) in
              (talk.0, λ well. (omega (arith, long), sym whole-is))

          may-have : (w.said then ≡ w.said now) ⊎ (w.said then ≡ w.said now ++ told_by (entered rest) store)
              → (w.said then ≡ w.said now ++ []) ⊎ (w.said then ≡ w.said now ++ told_by (entered rest) store)
          may-have (inl same) = inl (same ∙ sym (append-nil (w.said now)))
          may-have (inr out) = inr out

          ends-off : (q.state ≡ state.On → ⊥) → (w.tells → (w.said then ≡ w.said now) ⊎ (w.said then ≡ w.said now ++ told_by (entered rest) store)) → Served s.told
          ends-off ill out = (
            talk-perhaps (w.opened of.opening) w.entries w.keeps w.goes w.tells w.said agents begun lasts stays now watch.last (p.state ≡ state.On) s.scripts s.told s.talk on then last (q.state ≡ state.On)
                (λ t. may-have (out t)) entered-last goes front ill,
            λ well. absurd (ill well),
          )

          ends-by : (st : State) → q.state ≡ st → (told : List Entry) × Served told
          ends-by state.On is = (s.told ++ rest, ends-on is)
          ends-by state.Failed is = (s.told, ends-off (λ well. failed-not-on (sym is ∙ well)) (subst (GoesOut w.tells w.said (told_by (entered rest) store) now then) is (more.told on)))
          ends-by state.Short is = (s.told, ends-off (λ well. short-not-on (sym is ∙ well)) (subst (GoesOut w.tells w.said (told_by (entered rest) store) now then) is (more.told on)))

        -- Where it was off before, nothing more is told.
        ends-still : (p.state ≡ state.On → ⊥) → Served s.told
        ends-still ill =
            let off = more.off ill in
            let still : (q.state ≡ state.On → ⊥) = λ well. ill (sym (ap (λ (x : Progress). x.state) off.1) ∙ well) in (
              (talk-stands (w.opened of.opening) w.entries w.keeps w.goes w.tells w.said agents begun lasts now then watch.last store (p.state ≡ state.On) (q.state ≡ state.On) s.scripts s.told
                  s.talk (λ t. ap w.said off.0) goes front (λ well. absurd (still well))).0,
              λ well. absurd (still well),
            )

        ends : (st : State) → p.state ≡ st → (told : List Entry) × Served told
        ends state.On is = ends-by is q.state refl
        ends state.Failed is = (s.told, ends-still (λ well. failed-not-on (sym is ∙ well)))
        ends state.Short is = (s.told, ends-still (λ well. short-not-on (sym is ∙ well)))

        served-here : IsServed w agents begun then store q.whole q.state
        served-here =
            let e = ends p.state refl in
            let held : ServedFrom (opens w store) e.0 = subst (λ o. ServedFrom (w.opened o) e.0) (sym opening) e.1 in
            record {
              scripts = s.scripts;
              told = e.0;
              talk = held.0;
              greeted = λ well. (held.1 well).0;
              cut = seated-cut w.reads of (p.state ≡ state.On) p.whole s.scripts seats watch.pass.ended s.seated gone-there (w.entries store) ended;
              runs = λ whole. seated-run w.reads of (p.state ≡ state.On) p.whole s.scripts seats watch.pass.ended s.seated gone-there (w.entries store) ended (sym more.whole ∙ whole);
              all = λ well. (held.1 well).1;
              faulted = faulted-more (w.faults begun) (w.faults now) (w.faults then) p.state q.state u.faulted (faults-told w.entries w.tells w.said w.faults store now then p q more);
            }

      -- The store that the hall gave is the one that told what was left.
      pub serving-ends : (closed store : T) → store ≡ closed → w.opening closed ≡ of.opening → w.goes watch.last closed → IsPrefix (w.entries watch.last) (w.entries closed) → w.keeps closed
          → All (HasEnded (λ (e : Entry). e.agent) (w.entries closed)) watch.pass.ended → (then : P) (q : Progress) → HasToldMore w.entries w.tells w.said w.faults store now then p q
          → IsServed w agents begun then store q.whole q.state
      serving-ends closed store same opening goes front kept ended then q more =
          subst (λ v. IsServed w agents begun then v q.whole q.state) (sym same)
          (served-here closed opening goes front kept ended then q (subst (λ v. HasToldMore w.entries w.tells w.said w.faults v now then p q) same more))
