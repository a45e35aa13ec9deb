-- A turn of the owner's pass in a conversation: an await that is looked after, and what is told.
use Rattle.std.proofs.Common.{◌≡◌, ◌≢◌, ◌⊎◌, ℕ, zero, suc, ◌<◌, ◌≤◌, Bool, true, Some, None, Option, List, [], ◌∷◌, ◌++◌, length, length-append, drop, refl, sym, ap, ◌∙◌, subst, inl, inr, slice_index_or, slice_set, append-nil, false, arith}
use Rattle.std.specs.Prelude.{slice_get}
use Rattle.std.proofs.lemmas.Option.{get_or_from_slice_get}
use Rattle.opfs_hall.proofs.Owned.{prefix_refl, prefix_trans}
use Rattle.opfs_hall.specs.History.{IsPrefix}
use Rattle.opfs_hall.specs.Seen.{HallSeen, PassSeen, WatchSeen}
use Rattle.opfs_hist.specs.declared.entry.Entry.{Entry}
use Rattle.opfs_runner.specs.Stepping.{own_entries}
use Rattle.opfs_script.specs.Scripts.{Asked}
use Rattle.opfs_script_run.specs.Runs.Running.{entries_of}
use Rattle.opfs_serving.specs.Exchanges.{Exchange, entered, told_by}
use Rattle.opfs_serving.specs.Lines.{has_end, unasked}
use Rattle.opfs_serving.specs.Seats.{AreSeated, EndsAt, IsAt, SeatSeen}
use Rattle.opfs_serving.specs.Served.{AreTold, IsServing, IsStanding, Serves, ServesOn, Words}
use Rattle.opfs_serving.specs.Talks.{IsExchange, IsTalk}
use Rattle.opfs_serving.specs.Turns.{GoesOut, HasToldMore, HasTurned}
use Rattle.opfs_serving.specs.declared.progress.Progress.{Progress}
use Rattle.opfs_serving.specs.declared.progress.State.{State}
use Rattle.opfs_serving.specs.declared.progress.State.TheVariants as state
use Rattle.opfs_turns.specs.Agents.{AgentSeen}
use Rattle.opfs_serving.proofs.Faulted.{FaultsOn, faulted-more, faults-same, faults-short, faults-told}
use Rattle.opfs_serving.proofs.Midway.{midway-ends}
use Rattle.opfs_serving.proofs.Seating.{place, seated-polled, seated-script, seated-weaker}
use Rattle.opfs_serving.proofs.Showing.{shown-base, told-set}
use Rattle.opfs_serving.proofs.Talking.{front-drop, front-told, talk-more, talk-perhaps, talk-stands}

some-same : {X : Type 0} {x y : X} → Some x ≡ Some y → x ≡ y
some-same e = cc

none-some : {X : Type 0} (o : Option X) (x : X) → o ≡ None → o ≡ Some x → ⊥
none-some o x none some = cc

no-line : {X : Type 0} {x : X} → None ≡ Some x → ⊥
no-line e = cc

failed-on : (s : State) → s ≡ state.Failed → s ≡ state.On → ⊥
failed-on s failed on = cc

short-on : (s : State) → s ≡ state.Short → s ≡ state.On → ⊥
short-on s short on = cc

-- ---- a place of a list

module _ {X : Type 0} where
  pub set-same : (xs : List X) (i : ℕ) (x : X) → slice_get xs i ≡ Some x → slice_set xs i x ≡ xs
  set-same [] i x is = refl
  set-same (y ∷ xs) zero x is = ap (λ z. z ∷ xs) (some-same (sym is))
  set-same (y ∷ xs) (suc i) x is = ap (λ l. y ∷ l) (set-same xs i x is)

  pub set-there : (xs : List X) (i : ℕ) (x y : X) → slice_get xs i ≡ Some x → slice_get (slice_set xs i y) i ≡ Some y
  set-there [] i x y is = absurd cc
  set-there (z ∷ xs) zero x y is = refl
  set-there (z ∷ xs) (suc i) x y is = set-there xs i x y is

  -- Once more, with the one that is there.
  pub set-again : (xs : List X) (i : ℕ) (x y z z' : X) → slice_get xs i ≡ Some x → z ≡ slice_index_or (slice_set xs i y) i z → z' ≡ z → (z ≡ y) × (slice_set (slice_set xs i y) i z' ≡ slice_set xs i y)
  set-again xs i x y z z' there is same =
      let at = set-there xs i x y there in
      let first : z ≡ y = is ∙ get_or_from_slice_get (slice_set xs i y) i y z at in
      (first, set-same (slice_set xs i y) i z' (at ∙ ap Some (sym (same ∙ first))))

-- ---- the owner's pass

-- The owner's pass has gone on.
pub record HasGone {T O P : Type 0} (w : Words T O P) (of : HallSeen O) (a b : WatchSeen O Entry T) : Type 0 where
  pub goes : w.goes a.last b.last
  pub front : IsPrefix (w.entries a.last) (w.entries b.last)
  pub opened : w.opening b.last ≡ of.opening
  pub ended : b.pass.ended ≡ a.pass.ended
  pub hall : b.pass.hall ≡ a.pass.hall
  pub owner : b.pass.agent ≡ a.pass.agent

module _ {T O P : Type 0} (w : Words T O P) (of : HallSeen O) where
  pub gone-turned : (a b : WatchSeen O Entry T) → HasTurned w.opening w.entries w.keeps w.goes of a b → HasGone w of a b
  gone-turned a b t = record {
    goes = t.goes_on;
    front = t.front;
    opened = t.opened;
    ended = ap (λ (p : PassSeen O Entry). p.ended) t.pass;
    hall = ap (λ (p : PassSeen O Entry). p.hall) t.pass;
    owner = ap (λ (p : PassSeen O Entry). p.agent) t.pass;
  }

  pub gone-none : ((v : T) → w.goes v v) → (a : WatchSeen O Entry T) → w.opening a.last ≡ of.opening → HasGone w of a a
  gone-none stays a opened = record { goes = stays a.last; front = prefix_refl (w.entries a.last); opened = opened; ended = refl; hall = refl; owner = refl }

-- ---- a conversation

-- An agent that is there is not gone.
there-none : {O : Type 0} (x x' : SeatSeen O) → ((a : AgentSeen O) → x.agent ≡ Some a → (b : AgentSeen O) × (x'.agent ≡ Some b)) → x'.agent ≡ None → x.agent ≡ None
there-none {O} x x' goes none = by x.agent refl
  where
    by : (o : Option (AgentSeen O)) → x.agent ≡ o → x.agent ≡ None
    by (Some a) is = absurd (none-some x'.agent (goes a is).0 none (goes a is).1)
    by None is = is

module _ {T O P : Type 0} (w : Words T O P) (lasts : (u v x : T) → w.goes u v → w.goes v x → w.goes u x) (stays : (v : T) → w.goes v v) (of : HallSeen O) (agents : List Asked) (begun now : P)
    (watch : WatchSeen O Entry T) (seats : List (SeatSeen O)) (p : Progress) where
  module _ (v : IsStanding w of agents begun now watch seats p) where
    -- Nothing was said, and the pass has gone on.
    pub stands-still : (later : P) (after : WatchSeen O Entry T) (q : Progress) → (w.tells → w.said later ≡ w.said now) → HasGone w of watch after
        → (q.state ≡ state.On → p.state ≡ state.On) → (q.state ≡ state.On → q.count ≡ p.count) → (q.whole ≡ true → p.whole ≡ true)
        → (s : IsStanding w of agents begun later after seats q) × (s.told ≡ v.told) × (s.talk.talk ≡ v.talk.talk)
    stands-still later after q same m as_well count whole =
        let talk = talk-stands (w.opened of.opening) w.entries w.keeps w.goes w.tells w.said agents begun lasts now later watch.last after.last (p.state ≡ state.On) (q.state ≡ state.On) v.scripts v.told v.talk same m.goes m.front as_well in (
          record {
            scripts = v.scripts;
            told = v.told;
            talk = talk.0;
            seated = subst (AreSeated w.reads of (q.state ≡ state.On) q.whole v.scripts seats) (sym m.ended)
                (seated-weaker w.reads of (p.state ≡ state.On) (q.state ≡ state.On) p.whole q.whole v.scripts seats watch.pass.ended as_well whole v.seated);
            emptied = v.emptied;
            counted = λ on. count on ∙ v.counted (as_well on);
            hall = m.hall ∙ v.hall;
            owner = m.owner ∙ v.owner;
            all = v.all;
            people = v.people;
            few = v.few;
            opened = m.opened;
          },
          refl,
          talk.1,
        )

    -- What was entered is told in a turn.
    module _ (later : P) (after : WatchSeen O Entry T) (q : Progress) (begins : p.state ≡ state.On → 0 < length v.talk.talk)
        (turned : HasTurned w.opening w.entries w.keeps w.goes of watch after) (told : HasToldMore w.entries w.tells w.said w.faults after.last now later p q) where
      -- It stands, and all is told.
      abbrev pub Stood : Type 0
      Stood = (s : IsStanding w of agents begun later after seats q) × (q.state ≡ state.On → (p.state ≡ state.On) × (0 < length s.talk.talk) × IsPrefix v.told s.told × (s.told ≡ w.entries after.last))

      as_whole : q.whole ≡ true → p.whole ≡ true
      as_whole e = sym told.whole ∙ e

      module _ (on : p.state ≡ state.On) where
        abbrev what : List Entry
        what = drop p.count (w.entries after.last)

        abbrev exchange : Exchange T
        exchange = record { line = None; call = None; answer = entered what; at = after.last }

        front : IsPrefix v.told (w.entries after.last)
        front = prefix_trans v.told (w.entries watch.last) (w.entries after.last) v.talk.front turned.front

        is-exchange : IsExchange (w.opened of.opening) w.entries w.keeps (length v.talk.talk) v.scripts v.told exchange
        is-exchange = record {
          asked = unasked what;
          first = λ none. let some = begins on in absurd (omega (arith, none, some));
          front = front-told v.told (w.entries after.last) p.count front (sym (v.counted on));
          kept = turned.kept;
          looked = λ line is. absurd (no-line is);
          answered = tt;
        }

        all-is : w.entries after.last ≡ v.told ++ what
        all-is = front-drop v.told (w.entries after.last) p.count front (sym (v.counted on))

        seated-after : AreSeated w.reads of (q.state ≡ state.On) q.whole v.scripts seats after.pass.ended
        seated-after = subst (AreSeated w.reads of (q.state ≡ state.On) q.whole v.scripts seats) (sym (ap (λ (r : PassSeen O Entry). r.ended) turned.pass))
            (seated-weaker w.reads of (p.state ≡ state.On) (q.state ≡ state.On) p.whole q.whole v.scripts seats watch.pass.ended (λ e. on) as_whole v.seated)

        stands-with : (es : List Entry) → IsTalk (w.opened of.opening) w.entries w.keeps w.goes w.tells w.said agents begun later after.last (q.state ≡ state.On) v.scripts es → (q.state ≡ state.On → q.count ≡ length es)
            → IsStanding w of agents begun later after seats q
        stands-with es talk count =
            let m = gone-turned w of watch after turned in
            record {
              scripts = v.scripts;
              told = es;
              talk = talk;
              seated = seated-after;
              emptied = v.emptied;
              counted = count;
              hall = m.hall ∙ v.hall;
              owner = m.owner ∙ v.owner;
              all = v.all;
              people = v.people;
              few = v.few;
              opened = m.opened;
            }

        went-out : q.state ≡ state.On → (w.tells → w.said later ≡ w.said now ++ told_by (entered what) after.last) → Stood
        went-out then said =
            let talk = talk-more (w.opened of.opening) w.entries w.keeps w.goes w.tells w.said agents begun lasts stays now watch.last (p.state ≡ state.On) v.scripts v.told v.talk on later exchange (q.state ≡ state.On) said is-exchange
            turned.goes_on turned.front in
            let one = length-append v.talk.talk (exchange ∷ []) in
            let long = ap length talk.1 in (
              record {
                scripts = v.scripts;
                told = v.told ++ what;
                talk = talk.0;
                seated = seated-after;
                emptied = v.emptied;
                counted = λ e. told.count on then ∙ ap length all-is;
                hall = ap (λ (r : PassSeen O Entry). r.hall) turned.pass ∙ v.hall;
                owner = ap (λ (r : PassSeen O Entry). r.agent) turned.pass ∙ v.owner;
                all = v.all;
                people = v.people;
                few = v.few;
                opened = turned.opened;
              },
              λ e. (on, omega (arith, one, long), (what, refl), sym all-is),
            )

        may-have : (q.state ≡ state.On → ⊥) → (w.tells → (w.said later ≡ w.said now) ⊎ (w.said later ≡ w.said now ++ told_by (entered what) after.last)) → Stood
        may-have ill said = (
          stands-with v.told
              (talk-perhaps (w.opened of.opening) w.entries w.keeps w.goes w.tells w.said agents begun lasts stays now watch.last (p.state ≡ state.On) v.scripts v.told v.talk on later exchange (q.state ≡ state.On)
              (λ b. by (said b)) is-exchange turned.goes_on turned.front ill)
              (λ e. absurd (ill e)),
          λ e. absurd (ill e),
        )
          where
            by : (w.said later ≡ w.said now) ⊎ (w.said later ≡ w.said now ++ told_by (entered what) after.last) → (w.said later ≡ w.said now ++ []) ⊎ (w.said later ≡ w.said now ++ told_by (entered what) after.last)
            by (inl is) = inl (is ∙ sym (append-nil (w.said now)))
            by (inr is) = inr is

        by-state : (s : State) → q.state ≡ s → GoesOut w.tells w.said (told_by (entered what) after.last) now later s → Stood
        by-state state.On is out = went-out is out
        by-state state.Failed is out = may-have (failed-on q.state is) out
        by-state state.Short is out = may-have (short-on q.state is) out

        tells-on : Stood
        tells-on = by-state q.state refl (told.told on)

      tells-off : (p.state ≡ state.On → ⊥) → Stood
      tells-off ill =
          let off = told.off ill in
          let still : q.state ≡ state.On → p.state ≡ state.On = λ e. sym (ap (λ (r : Progress). r.state) off.1) ∙ e in (
            (stands-still later after q (λ b. ap w.said off.0) (gone-turned w of watch after turned) still (λ e. ap (λ (r : Progress). r.count) off.1) as_whole).0,
            λ e. absurd (ill (still e)),
          )

      tells-by : (s : State) → p.state ≡ s → Stood
      tells-by state.On is = tells-on is
      tells-by state.Failed is = tells-off (failed-on p.state is)
      tells-by state.Short is = tells-off (short-on p.state is)

      pub stands-told : Stood
      stands-told = tells-by p.state refl

    -- ---- the agent of a seat

    module _ (i : ℕ) (x : SeatSeen O) (seat-is : slice_get seats i ≡ Some x) where
      pub stands-midway : p.state ≡ state.On → (a : AgentSeen O) → x.agent ≡ Some a → (asked : Asked) × (slice_get v.scripts i ≡ Some asked) × IsAt w.reads of (suc i) asked x a
      stands-midway on a here =
          let s = seated-script w.reads of (p.state ≡ state.On) p.whole v.scripts seats watch.pass.ended v.seated i x seat-is in
          (s.0, s.1, v.seated.midway on i x a s.0 seat-is here s.1)

      -- It stands with another seat there, and as much was told.
      abbrev pub Set : SeatSeen O → Type 0
      Set x' = (s : IsStanding w of agents begun now watch (slice_set seats i x') p) × (s.told ≡ v.told) × (s.talk.talk ≡ v.talk.talk)

      -- It is another one, with as much of its script.
      pub stands-polled : p.state ≡ state.On → (x' : SeatSeen O) → ((k : ℕ) (asked : Asked) (a : AgentSeen O) → x.agent ≡ Some a → IsAt w.reads of k asked x a → (b : AgentSeen O) × (x'.agent ≡ Some b) × IsAt w.reads of k asked x' b)
          → (x.agent ≡ None → x' ≡ x) → Set x'
      stands-polled on x' goes gone = by x.agent refl
        where
          empty : (b : AgentSeen O) → x'.agent ≡ Some b → (k : ℕ) (y : SeatSeen O) → y.agent ≡ None → ((k ≡ i) × (y ≡ x')) ⊎ ((k ≢ i) × (slice_get seats k ≡ Some y)) → y.rows ≡ []
          empty b is k y none (inl same) = absurd (none-some x'.agent b (ap (λ (z : SeatSeen O). z.agent) (sym same.1) ∙ none) is)
          empty b is k y none (inr other) = v.emptied k y other.1 none

          there : (a : AgentSeen O) → x.agent ≡ Some a → Set x'
          there a here =
              let m = stands-midway on a here in
              let new = goes (suc i) m.0 a here m.2 in (
                record {
                  scripts = v.scripts;
                  told = v.told;
                  talk = v.talk;
                  seated = seated-polled w.reads of (p.state ≡ state.On) p.whole v.scripts seats watch.pass.ended v.seated i x a m.0 seat-is here m.1 x' new.0 new.1 new.2
                      (midway-ends w.reads of (suc i) m.0 new.0 x'.rows x'.hand x'.awaits new.2);
                  emptied = λ k y seat none. empty new.0 new.1 k y none (place seats i x x' seat-is k y seat);
                  counted = v.counted;
                  hall = v.hall;
                  owner = v.owner;
                  all = v.all;
                  people = v.people;
                  few = v.few;
                  opened = v.opened;
                },
                refl,
                refl,
              )

          by : (o : Option (AgentSeen O)) → x.agent ≡ o → Set x'
          by (Some a) here = there a here
          by None none = subst (λ (xs : List (SeatSeen O)). (s : IsStanding w of agents begun now watch xs p) × (s.told ≡ v.told) × (s.talk.talk ≡ v.talk.talk))
              (sym (ap (slice_set seats i) (gone none) ∙ set-same seats i x seat-is)) (v, refl, refl)

  -- ---- and all was told

  module _ (v : IsServing w of agents begun now watch seats p) where
    -- It stands on, and no more was said.
    as-told : (later : P) (after : WatchSeen O Entry T) (then_seats : List (SeatSeen O)) (q : Progress) → (q.state ≡ state.On → p.state ≡ state.On)
        → (s : IsStanding w of agents begun later after then_seats q) × (s.told ≡ v.stands.told) × (s.talk.talk ≡ v.stands.talk.talk)
        → (q.state ≡ state.On → AreTold then_seats v.stands.told) → FaultsOn (w.faults now) (w.faults later) p.state q.state → IsServing w of agents begun later after then_seats q
    as-told later after then_seats q as_well s told faults = record {
      stands = s.0;
      greeted = λ on. subst (λ (l : List (Exchange T)). 0 < length l) (sym s.2) (v.greeted (as_well on));
      all_told = λ on. subst (AreTold then_seats) (sym s.1) (told on);
      faulted = faulted-more (w.faults begun) (w.faults now) (w.faults later) p.state q.state v.faulted faults;
    }

    pub serving-stands : (later : P) (after : WatchSeen O Entry T) (q : Progress) → (w.tells → w.said later ≡ w.said now) → HasGone w of watch after
        → (q.state ≡ state.On → p.state ≡ state.On) → (q.state ≡ state.On → q.count ≡ p.count) → (q.whole ≡ true → p.whole ≡ true) → FaultsOn (w.faults now) (w.faults later) p.state q.state
        → IsServing w of agents begun later after seats q
    serving-stands later after q same m as_well count whole faults = as-told later after seats q as_well (stands-still v.stands later after q same m as_well count whole) (λ on. v.all_told (as_well on)) faults

    -- The same, in no turn.
    pub serving-waits : (later : P) (q : Progress) → (w.tells → w.said later ≡ w.said now) → (q.state ≡ state.On → p.state ≡ state.On) → (q.state ≡ state.On → q.count ≡ p.count) → (q.whole ≡ true → p.whole ≡ true)
        → FaultsOn (w.faults now) (w.faults later) p.state q.state → IsServing w of agents begun later watch seats q
    serving-waits later q same as_well count whole faults = serving-stands later watch q same (gone-none w of stays watch v.stands.opened) as_well count whole faults

    -- No more is told.
    pub serving-stops : (later : P) (q : Progress) → (w.tells → w.said later ≡ w.said now) → q.state ≢ state.On → q.whole ≡ p.whole → FaultsOn (w.faults now) (w.faults later) p.state q.state
        → IsServing w of agents begun later watch seats q
    serving-stops later q same ill whole faults = serving-waits later q same (λ on. absurd (ill on)) (λ on. absurd (ill on)) (λ e. sym whole ∙ e) faults

    -- There are few seats, each with an agent of the store.
    pub serving-few : (length seats ≤ 64) × (length seats ≤ length (w.opened of.opening).agents)
    serving-few = let count = v.stands.seated.count in let few = v.stands.few in let people = v.stands.people in (omega (arith, count, few), omega (arith, count, people))

    module _ (i : ℕ) (x : SeatSeen O) (seat-is : slice_get seats i ≡ Some x) where
      pub serving-midway : p.state ≡ state.On → (a : AgentSeen O) → x.agent ≡ Some a → (k : ℕ) × (asked : Asked) × IsAt w.reads of k asked x a
      serving-midway on a here = let m = stands-midway v.stands i x seat-is on a here in (suc i, m.0, m.2)

      pub serving-ends : (a : AgentSeen O) → x.agent ≡ Some a → (k : ℕ) × (asked : Asked) × (whole : Bool) × EndsAt w.reads of k asked whole x a
      serving-ends a here =
          let s = seated-script w.reads of (p.state ≡ state.On) p.whole v.stands.scripts seats watch.pass.ended v.stands.seated i x seat-is in
          (suc i, s.0, false, v.stands.seated.ends i x a s.0 seat-is here s.1)

      -- Its await is looked after.
      module _ (on : p.state ≡ state.On) (x' : SeatSeen O)
          (goes : (k : ℕ) (asked : Asked) (a : AgentSeen O) → x.agent ≡ Some a → IsAt w.reads of k asked x a → (b : AgentSeen O) × (x'.agent ≡ Some b) × IsAt w.reads of k asked x' b)
          (gone : x.agent ≡ None → x' ≡ x) where
        over-there : x'.agent ≡ None → has_end (suc i) v.stands.told ≡ true
        over-there none =
            (v.all_told on).over i x seat-is
            (there-none x x' (λ a here. let m = stands-midway v.stands i x seat-is on a here in let new = goes (suc i) m.0 a here m.2 in (new.0, new.1)) none)

        -- It is not answered.
        pub serving-polled : (x'.awaits ≡ None → x' ≡ x) → IsServing w of agents begun now watch (slice_set seats i x') p
        serving-polled same = as-told now watch (slice_set seats i x') p (λ e. e) (stands-polled v.stands i x seat-is on x' goes gone)
            (λ e. told-set v.stands.told v.stands.told (prefix_refl v.stands.told) seats (v.all_told on) i x x' seat-is over-there
            (λ a here free. (v.all_told on).shown i x a seat-is (ap (λ (y : SeatSeen O). y.agent) (sym (same free)) ∙ here) (ap (λ (y : SeatSeen O). y.awaits) (sym (same free)) ∙ free)))
            (faults-same (w.faults now) p.state)

        -- There was no memory for that.
        pub serving-unpolled : (q : Progress) → q ≡ record p { state = state.Short } → IsServing w of agents begun now watch (slice_set seats i x') q
        serving-unpolled q is =
            let ill : q.state ≡ state.On → ⊥ = short-on q.state (ap (λ (r : Progress). r.state) is) in
            let s = stands-polled v.stands i x seat-is on x' goes gone in
            record {
              stands = (stands-still' (slice_set seats i x') s.0 q (λ e. ill e) (ap (λ (r : Progress). r.whole) is)).0;
              greeted = λ e. absurd (ill e);
              all_told = λ e. absurd (ill e);
              faulted = faulted-more (w.faults begun) (w.faults now) (w.faults now) p.state q.state v.faulted (faults-short (w.faults now) p.state q.state (ap (λ (r : Progress). r.state) is));
            }
          where
            stands-still' : (xs : List (SeatSeen O)) (s : IsStanding w of agents begun now watch xs p) (q : Progress) → (q.state ≡ state.On → ⊥) → q.whole ≡ p.whole → (u : IsStanding w of agents begun now watch xs q) × (u.told ≡ s.told)
            stands-still' xs s q ill whole = (
              record {
                scripts = s.scripts;
                told = s.told;
                talk = (talk-stands (w.opened of.opening) w.entries w.keeps w.goes w.tells w.said agents begun lasts now now watch.last watch.last (p.state ≡ state.On) (q.state ≡ state.On) s.scripts s.told s.talk (λ t. refl) (stays watch.last)
                    (prefix_refl (w.entries watch.last)) (λ e. on)).0;
                seated = seated-weaker w.reads of (p.state ≡ state.On) (q.state ≡ state.On) p.whole q.whole s.scripts xs watch.pass.ended (λ e. on) (λ e. sym whole ∙ e) s.seated;
                emptied = s.emptied;
                counted = λ e. absurd (ill e);
                hall = s.hall;
                owner = s.owner;
                all = s.all;
                people = s.people;
                few = s.few;
                opened = s.opened;
              },
              refl,
            )

-- It is answered; the pass took note of what its agent has seen, and all was told behind that.
module _ {T O P : Type 0} (w : Words T O P) (lasts : (u v x : T) → w.goes u v → w.goes v x → w.goes u x) (stays : (v : T) → w.goes v v) (of : HallSeen O) (agents : List Asked) (begun now : P)
    (watch shown : WatchSeen O Entry T) (seats : List (SeatSeen O)) (p : Progress) (v : IsServing w of agents begun now watch seats p) (i : ℕ) (x : SeatSeen O) (seat-is : slice_get seats i ≡ Some x) (on : p.state ≡ state.On) (x' : SeatSeen O)
    (goes : (k : ℕ) (asked : Asked) (a : AgentSeen O) → x.agent ≡ Some a → IsAt w.reads of k asked x a → (b : AgentSeen O) × (x'.agent ≡ Some b) × IsAt w.reads of k asked x' b)
    (here : (a : AgentSeen O) × (x.agent ≡ Some a)) where
  -- its agent, as it is then
  pub polled-at : (asked : Asked) × (b : AgentSeen O) × (x'.agent ≡ Some b) × IsAt w.reads of (suc i) asked x' b
  polled-at = let m = stands-midway w lasts stays of agents begun now watch seats p v.stands i x seat-is on here.0 here.1 in let new = goes (suc i) m.0 here.0 here.1 m.2 in (m.0, new.0, new.1, new.2)

  module _ (shows : (b : AgentSeen O) → x'.agent ≡ Some b → shown.pass ≡ record watch.pass { base = b.pass.base }) (last : shown.last ≡ watch.last) where
    gone-noted : HasGone w of watch shown
    gone-noted =
        let pass = shows polled-at.1 polled-at.2 in
        record {
          goes = subst (w.goes watch.last) (sym last) (stays watch.last);
          front = subst (λ t. IsPrefix (w.entries watch.last) (w.entries t)) (sym last) (prefix_refl (w.entries watch.last));
          opened = ap w.opening last ∙ v.stands.opened;
          ended = ap (λ (r : PassSeen O Entry). r.ended) pass;
          hall = ap (λ (r : PassSeen O Entry). r.hall) pass;
          owner = ap (λ (r : PassSeen O Entry). r.agent) pass;
        }

    pub polled-pass : (shown.pass.hall ≡ of) × (shown.pass.agent ≡ 0)
    polled-pass = (gone-noted.hall ∙ v.stands.hall, gone-noted.owner ∙ v.stands.owner)

    pub serving-answered : (later : P) (after : WatchSeen O Entry T) (q : Progress) → HasTurned w.opening w.entries w.keeps w.goes of shown after → HasToldMore w.entries w.tells w.said w.faults after.last now later p q
        → IsServing w of agents begun later after (slice_set seats i x') q
    serving-answered later after q turned told =
        let polled = stands-polled w lasts stays of agents begun now watch seats p v.stands i x seat-is on x' goes (λ none. absurd (none-some x.agent here.0 none here.1)) in
        let noted = stands-still w lasts stays of agents begun now watch (slice_set seats i x') p polled.0 now shown p (λ t. refl) gone-noted (λ e. e) (λ e. refl) (λ e. e) in
        let same : noted.0.told ≡ v.stands.told = noted.1 ∙ polled.1 in
        let then = stands-told w lasts stays of agents begun now shown (slice_set seats i x') p noted.0 later after q
        (λ e. subst (λ (l : List (Exchange T)). 0 < length l) (sym (noted.2 ∙ polled.2)) (v.greeted on)) turned told in
        let at = polled-at in
        let base : shown.pass.base ≡ at.1.pass.base = ap (λ (r : PassSeen O Entry). r.base) (shows at.1 at.2) in
        record {
          stands = then.0;
          greeted = λ e. (then.1 e).1;
          faulted = faulted-more (w.faults begun) (w.faults now) (w.faults later) p.state q.state v.faulted (faults-told w.entries w.tells w.said w.faults after.last now later p q told);
          all_told = λ e. told-set v.stands.told then.0.told (subst (λ l. IsPrefix l then.0.told) same (then.1 e).2) seats (v.all_told on) i x x' seat-is (λ none. absurd (none-some x'.agent at.1 none at.2))
              (λ a is free. subst (λ (b : AgentSeen O). IsPrefix (own_entries b) (entries_of (suc i) then.0.told)) (some-same (sym at.2 ∙ is))
              (shown-base (suc i) at.1 at.1.pass.base then.0.told at.3.pending at.3.agent refl
              (subst (λ l. IsPrefix at.1.pass.base l) (sym (then.1 e).3) (subst (λ l. IsPrefix l (w.entries after.last)) base turned.noted))));
        }

-- ---- from one moment to another

-- It stands on where a turn was taken, and nothing was said.
pub serving-turned : {T O P : Type 0} (w : Words T O P) (lasts : (u v x : T) → w.goes u v → w.goes v x → w.goes u x) (stays : (v : T) → w.goes v v) (of : HallSeen O) (now : P) (watch after : WatchSeen O Entry T)
    (seats : List (SeatSeen O)) (p : Progress) → HasTurned w.opening w.entries w.keeps w.goes of watch after → ServesOn w of now now watch after seats seats p p
serving-turned w lasts stays of now watch after seats p turned agents begun v =
    serving-stands w lasts stays of agents begun now watch seats p v now after p (λ t. refl) (gone-turned w of watch after turned) (λ e. e) (λ e. refl) (λ e. e) (faults-same (w.faults now) p.state)

-- It stands, and stands on since a moment.
pub record GoesServing {T O P : Type 0} (w : Words T O P) (of : HallSeen O) (before now : P) (watch later : WatchSeen O Entry T) (seats then_seats : List (SeatSeen O)) (p q : Progress) : Type 0 where
  pub serves : Serves w of now later then_seats q
  pub on_with : ServesOn w of before now watch later seats then_seats p q

module _ {T O P : Type 0} (w : Words T O P) (of : HallSeen O) where
  pub going-none : (now : P) (watch : WatchSeen O Entry T) (seats : List (SeatSeen O)) (p : Progress) → Serves w of now watch seats p → GoesServing w of now now watch watch seats seats p p
  going-none now watch seats p s = record { serves = s; on_with = λ agents begun v. v }

  pub going-more : (before mid now : P) (watch then later : WatchSeen O Entry T) (seats mid_seats last : List (SeatSeen O)) (p q r : Progress)
      → GoesServing w of before mid watch then seats mid_seats p q → ServesOn w of mid now then later mid_seats last q r → GoesServing w of before now watch later seats last p r
  going-more before mid now watch then later seats mid_seats last p q r g on = record {
    serves = record { agents = g.serves.agents; begun = g.serves.begun; is = on g.serves.agents g.serves.begun g.serves.is };
    on_with = λ agents begun v. on agents begun (g.on_with agents begun v);
  }

  -- A turn was taken, and nothing was said.
  pub going-turned : ((u v x : T) → w.goes u v → w.goes v x → w.goes u x) → ((v : T) → w.goes v v) → (before now : P) (watch then later : WatchSeen O Entry T) (seats last : List (SeatSeen O)) (p q : Progress)
      → GoesServing w of before now watch then seats last p q → HasTurned w.opening w.entries w.keeps w.goes of then later → GoesServing w of before now watch later seats last p q
  going-turned lasts stays before now watch then later seats last p q g turned =
      going-more before now now watch then later seats last last p q q g (serving-turned w lasts stays of now then later last q turned)
