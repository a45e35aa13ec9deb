-- The agent of a seat ends in a conversation.
use Rattle.std.proofs.Common.{◌≡◌, ◌≢◌, ◌⊎◌, ℕ, suc, Bool, true, false, Some, None, Option, List, [], ◌∷◌, ◌++◌, refl, sym, ap, ◌∙◌, subst, inl, inr, slice_set, slice_index_or, length, ◌<◌, ◌+◌, arith, append_assoc, drop}
use Rattle.std.specs.Prelude.{All, slice_get}
use Rattle.std.proofs.lemmas.Bool.{cases_eq}
use Rattle.std.proofs.lemmas.List.{drop_at}
use Rattle.std.proofs.lemmas.Option.{slice_get-get_or}
use Rattle.opfs_hall.proofs.Owned.{prefix_refl}
use Rattle.opfs_hall.specs.History.{IsPrefix}
use Rattle.opfs_hall.specs.Seen.{HallSeen, PassSeen, WatchSeen}
use Rattle.opfs_hist.specs.declared.entry.Entry.{Entry}
use Rattle.opfs_runner.specs.Runs.{HasEntries}
use Rattle.opfs_script.specs.Scripts.{Asked}
use Rattle.opfs_script_run.specs.Runs.Running.{entries_of}
use Rattle.opfs_serving.specs.Endings.{EndsBehind, HasLeft}
use Rattle.opfs_serving.specs.Exchanges.{Exchange}
use Rattle.opfs_serving.specs.Lines.{has_end}
use Rattle.opfs_serving.specs.Seats.{AreSeated, EndsAt, IsMidway, SeatSeen}
use Rattle.opfs_serving.specs.Served.{IsServing, IsStanding, Words}
use Rattle.opfs_serving.specs.Turns.{HasToldMore, HasTurned}
use Rattle.opfs_serving.specs.declared.progress.Progress.{Progress}
use Rattle.opfs_serving.specs.declared.progress.State.TheVariants as state
use Rattle.opfs_turns.specs.Agents.{AgentSeen}
use Rattle.opfs_serving.proofs.Faulted.{faulted-more, faults-told}
use Rattle.opfs_serving.proofs.Midway.{midway-whole}
use Rattle.opfs_serving.proofs.Polls.{gone-none, set-same, stands-midway, stands-still, stands-told}
use Rattle.opfs_serving.proofs.Seating.{place, seated-ended, seated-script}
use Rattle.opfs_serving.proofs.Showing.{over-behind, over-more, told-set}
use Rattle.opfs_serving.proofs.Talking.{talk-stands}

some-same : {X : Type 0} {x y : X} → Some x ≡ Some y → x ≡ y
some-same e = cc

none-some : {X : Type 0} (o : Option X) (x : X) → o ≡ None → o ≡ Some x → ⊥
none-some o x none some = cc

module _ {T O P : Type 0} (w : Words T O P) (lasts : (u v x : T) → w.goes u v → w.goes v x → w.goes u x) (stays : (v : T) → w.goes v v) (of : HallSeen O) (agents : List Asked) (begun now : P)
    (watch after : WatchSeen O Entry T) (seats : List (SeatSeen O)) (p q : Progress) (v : IsStanding w of agents begun now watch seats p)
    (i : ℕ) (x x' : SeatSeen O) (seat-is : slice_get seats i ≡ Some x) (left : x'.agent ≡ None)
    (as_well : q.state ≡ p.state) (count : q.count ≡ p.count) (whole : q.whole ≡ true → (p.whole ≡ true) × (p.state ≡ state.On) × (x.awaits ≡ None)) where
  -- Its entries are those of its script, or of a front of it where it is not whole.
  has-entries : (a : AgentSeen O) → x.agent ≡ Some a → (s : Asked) → slice_get v.scripts i ≡ Some s → HasLeft w.entries w.reads of x a watch after → (base : List Entry)
      → ((k : ℕ) (asked : Asked) (b : Bool) → EndsAt w.reads of k asked b x a → HasEntries asked b (entries_of k base)) → (b : Bool) → q.whole ≡ b → HasEntries s b (entries_of (suc i) base)
  has-entries a here s script l base entries false is = entries (suc i) s false (v.seated.ends i x a s seat-is here script)
  has-entries a here s script l base entries true is =
      let m = whole is in
      entries (suc i) s true (midway-whole w.reads of (suc i) s a x.rows x.hand (subst (IsMidway w.reads of (suc i) s a x.rows x.hand) m.2 (v.seated.midway m.1 i x a s seat-is here script)))

  emptied-by : ((a : AgentSeen O) → x.agent ≡ Some a → x'.rows ≡ []) → (a : AgentSeen O) → x.agent ≡ Some a → (k : ℕ) (y : SeatSeen O) → y.agent ≡ None
      → ((k ≡ i) × (y ≡ x')) ⊎ ((k ≢ i) × (slice_get seats k ≡ Some y)) → y.rows ≡ []
  emptied-by rows a here k y none (inl same) = ap (λ (z : SeatSeen O). z.rows) same.1 ∙ rows a here
  emptied-by rows a here k y none (inr other) = v.emptied k y other.1 none

  -- It stands, and what was told is the same.
  abbrev pub Stood : Type 0
  Stood = (s : IsStanding w of agents begun now after (slice_set seats i x') q) × (s.told ≡ v.told) × (s.talk.talk ≡ v.talk.talk)

  leaves : ((a : AgentSeen O) → x.agent ≡ Some a → x'.rows ≡ []) → (a : AgentSeen O) → x.agent ≡ Some a → HasLeft w.entries w.reads of x a watch after → Stood
  leaves rows a here l =
      let s = seated-script w.reads of (p.state ≡ state.On) p.whole v.scripts seats watch.pass.ended v.seated i x seat-is in
      let e = v.seated.ends i x a s.0 seat-is here s.1 in
      let on : q.state ≡ state.On → p.state ≡ state.On = λ well. sym as_well ∙ well in
      let goes : w.goes watch.last after.last = subst (w.goes watch.last) (sym l.last) (stays watch.last) in
      let front : IsPrefix (w.entries watch.last) (w.entries after.last) = subst (λ t. IsPrefix (w.entries watch.last) (w.entries t)) (sym l.last) (prefix_refl (w.entries watch.last)) in
      let talk = talk-stands (w.opened of.opening) w.entries w.keeps w.goes w.tells w.said agents begun lasts now now watch.last after.last (p.state ≡ state.On) (q.state ≡ state.On) v.scripts v.told v.talk (λ b. refl) goes front on in (
        record {
          scripts = v.scripts;
          told = v.told;
          talk = talk.0;
          seated = subst (AreSeated w.reads of (q.state ≡ state.On) q.whole v.scripts (slice_set seats i x'))
              (sym (ap (λ (r : PassSeen O Entry). r.ended) l.pass ∙ ap (λ k. watch.pass.ended ++ (k, l.base) ∷ []) e.agent))
              (seated-ended w.reads of (p.state ≡ state.On) p.whole v.scripts seats watch.pass.ended v.seated i x a s.0 seat-is here s.1 (q.state ≡ state.On) q.whole on (λ is. (whole is).0) x' l.base left
              (has-entries a here s.0 s.1 l l.base l.entries q.whole refl));
          emptied = λ k y seat none. emptied-by rows a here k y none (place seats i x x' seat-is k y seat);
          counted = λ well. count ∙ v.counted (on well);
          hall = ap (λ (r : PassSeen O Entry). r.hall) l.pass ∙ v.hall;
          owner = ap (λ (r : PassSeen O Entry). r.agent) l.pass ∙ v.owner;
          all = v.all;
          people = v.people;
          few = v.few;
          opened = ap w.opening l.last ∙ v.opened;
        },
        refl,
        talk.1,
      )

  -- No agent is there, and nothing is left.
  stays-gone : (after ≡ watch) × (x' ≡ x) → Stood
  stays-gone same =
      subst (λ (y : WatchSeen O Entry T × List (SeatSeen O)). (s : IsStanding w of agents begun now y.0 y.1 q) × (s.told ≡ v.told) × (s.talk.talk ≡ v.talk.talk))
      (sym (λ i'. (same.0 i', (ap (slice_set seats i) same.1 ∙ set-same seats i x seat-is) i')))
      (stands-still w lasts stays of agents begun now watch seats p v now watch q (λ b. refl) (gone-none w of stays watch v.opened) (λ on. sym as_well ∙ on) (λ on. count) (λ is. (whole is).0))

  pub stands-left : ((a : AgentSeen O) → x.agent ≡ Some a → x'.rows ≡ []) → (x.agent ≡ None → (after ≡ watch) × (x' ≡ x)) → ((a : AgentSeen O) → x.agent ≡ Some a → HasLeft w.entries w.reads of x a watch after) → Stood
  stands-left rows none has = by x.agent refl
    where
      by : (o : Option (AgentSeen O)) → x.agent ≡ o → Stood
      by (Some a) here = leaves rows a here (has a here)
      by None gone = stays-gone (none gone)

-- Its end is among what is told behind that, and behind what was told before.
module _ {T O : Type 0} (entries : T → List Entry) (tells : Type 0) (of : HallSeen O) (i : ℕ) (x : SeatSeen O) (a : AgentSeen O) (before after : WatchSeen O Entry T) (list : List Entry)
    (l : HasLeft entries tells of x a before after) (agent : a.pass.agent ≡ suc i) (noted : IsPrefix after.pass.base list) where
  over : EndsBehind (entries before.last) (suc i) l.base
  over = subst (λ k. EndsBehind (entries before.last) k l.base) agent l.over

  later : IsPrefix l.base list
  later = subst (λ es. IsPrefix es list) (ap (λ (r : PassSeen O Entry). r.base) l.pass) noted

  pub left-over : has_end (suc i) list ≡ true
  left-over = over-more (suc i) l.base list later (ap (has_end (suc i)) over.1 ∙ over-behind (suc i) (entries before.last) over.0 over.2)

  pub left-told : (told es : List Entry) → IsPrefix told (entries before.last) → told ++ es ≡ list → has_end (suc i) es ≡ true
  left-told told es seen is =
      let more = over.0 ++ later.0 in
      let whole : list ≡ told ++ (seen.0 ++ more) =
      later.1
      ∙ ap (λ xs. xs ++ later.0) over.1
      ∙ append_assoc (entries before.last) over.0 later.0
      ∙ ap (λ xs. xs ++ more) seen.1
      ∙ append_assoc told seen.0 more in
      let same : es ≡ seen.0 ++ more = sym (drop_at told es (length told) refl) ∙ ap (drop (length told)) (is ∙ whole) ∙ drop_at told (seen.0 ++ more) (length told) refl in
      ap (has_end (suc i)) same ∙ over-behind (suc i) seen.0 more (over-more (suc i) over.0 more (later.0, refl) over.2)

-- Then what was entered is told. Of the seat it was asked whether its agent awaits.
module _ {T O P : Type 0} (w : Words T O P) (lasts : (u v x : T) → w.goes u v → w.goes v x → w.goes u x) (stays : (v : T) → w.goes v v) (of : HallSeen O) (agents : List Asked) (begun now : P)
    (watch : WatchSeen O Entry T) (seats : List (SeatSeen O)) (p : Progress) (v : IsServing w of agents begun now watch seats p) (i : ℕ) (x : SeatSeen O) (seat-is : slice_get seats i ≡ Some x) where
  pub serving-left_told : (y x' : SeatSeen O) → slice_get seats i ≡ Some y → x'.agent ≡ None → (b : Bool) → (b ≡ true → (p.whole ≡ true) × (p.state ≡ state.On) × (y.awaits ≡ None)) → (after : WatchSeen O Entry T)
      → ((a : AgentSeen O) → x.agent ≡ Some a → x'.rows ≡ []) → (x.agent ≡ None → (after ≡ watch) × (x' ≡ x)) → ((a : AgentSeen O) → x.agent ≡ Some a → HasLeft w.entries w.reads of x a watch after)
      → (later : P) (last : WatchSeen O Entry T) (q : Progress) → HasTurned w.opening w.entries w.keeps w.goes of after last → HasToldMore w.entries w.tells w.said w.faults last.last now later (record p { whole = b }) q
      → IsServing w of agents begun later last (slice_set seats i x') q
  serving-left_told y x' same left b whole after rows none has later last q turned told =
      let same : y ≡ x = some-same (sym same ∙ seat-is) in
      let mid = stands-left w lasts stays of agents begun now watch after seats p (record p { whole = b }) v.stands i x x' seat-is left refl refl
      (λ is. let m = whole is in (m.0, m.1, ap (λ (z : SeatSeen O). z.awaits) (sym same) ∙ m.2)) rows none has in
      let then = stands-told w lasts stays of agents begun now after (slice_set seats i x') (record p { whole = b }) mid.0 later last q
      (λ on. subst (λ (l : List (Exchange T)). 0 < length l) (sym mid.2) (v.greeted on)) turned told in
      let front : q.state ≡ state.On → IsPrefix v.stands.told then.0.told = λ on. subst (λ l. IsPrefix l then.0.told) mid.1 (then.1 on).2 in
      record {
        stands = then.0;
        greeted = λ on. (then.1 on).1;
        faulted = faulted-more (w.faults begun) (w.faults now) (w.faults later) p.state q.state v.faulted
            (faults-told w.entries w.tells w.said w.faults last.last now later (record p { whole = b }) q told);
        all_told = λ on. told-set v.stands.told then.0.told (front on) seats (v.all_told (then.1 on).0) i x x' seat-is
            (λ gone. over-by (then.1 on).0 then.0.told (front on) (subst (λ l. IsPrefix after.pass.base l) (sym (then.1 on).3) turned.noted) x.agent refl)
            (λ a here free. absurd (none-some x'.agent a left here));
      }
    where
      over-by : p.state ≡ state.On → (list : List Entry) → IsPrefix v.stands.told list → IsPrefix after.pass.base list → (o : Option (AgentSeen O)) → x.agent ≡ o → has_end (suc i) list ≡ true
      over-by on list front noted (Some a) here =
          let m = stands-midway w lasts stays of agents begun now watch seats p v.stands i x seat-is on a here in
          left-over w.entries w.reads of i x a watch after list (has a here) m.2.agent noted
      over-by on list front noted None gone = over-more (suc i) v.stands.told list front ((v.all_told on).over i x seat-is gone)

  -- The owner's pass stays of its hall, and the owner's.
  pub left-hall : (x' : SeatSeen O) (after : WatchSeen O Entry T) → (x.agent ≡ None → (after ≡ watch) × (x' ≡ x)) → ((a : AgentSeen O) → x.agent ≡ Some a → HasLeft w.entries w.reads of x a watch after)
      → (after.pass.hall ≡ of) × (after.pass.agent ≡ 0)
  left-hall x' after none has = by x.agent refl
    where
      by : (o : Option (AgentSeen O)) → x.agent ≡ o → (after.pass.hall ≡ of) × (after.pass.agent ≡ 0)
      by (Some a) here = let l = has a here in (ap (λ (r : PassSeen O Entry). r.hall) l.pass ∙ v.stands.hall, ap (λ (r : PassSeen O Entry). r.agent) l.pass ∙ v.stands.owner)
      by None gone = let same = (none gone).0 in (ap (λ (r : WatchSeen O Entry T). r.pass.hall) same ∙ v.stands.hall, ap (λ (r : WatchSeen O Entry T). r.pass.agent) same ∙ v.stands.owner)

-- ---- all agents end, in order

pub gone-more : {O : Type 0} (seats next : List (SeatSeen O)) (k : ℕ) → ((i : ℕ) (x : SeatSeen O) → i < k → slice_get seats i ≡ Some x → x.agent ≡ None) → ((x : SeatSeen O) → slice_get next k ≡ Some x → x.agent ≡ None)
    → ((i : ℕ) → i ≢ k → slice_get next i ≡ slice_get seats i) → (i : ℕ) (x : SeatSeen O) → i < k + 1 → slice_get next i ≡ Some x → x.agent ≡ None
gone-more {O} seats next k gone ended others i x less is = by (cases_eq i k)
  where
    by : (i ≡ k) ⊎ (i ≢ k) → x.agent ≡ None
    by (inl same) = ended x (ap (slice_get next) (sym same) ∙ is)
    by (inr other) = gone i x (omega (arith, less, other)) (sym (others i other) ∙ is)

pub all-gone : {O : Type 0} (seats : List (SeatSeen O)) (k : ℕ) → length seats ≡ k → ((i : ℕ) (x : SeatSeen O) → i < k → slice_get seats i ≡ Some x → x.agent ≡ None) → All (λ x. x.agent ≡ None) seats
all-gone seats k long gone i d within = gone i (slice_index_or seats i d) (omega (arith, within, long)) (slice_get-get_or seats i d within)
