-- What is awaited while all is quiet: each agent waits for what is not due.
use Rattle.std.proofs.Common.{◌≡◌, ◌≢◌, ◌⊎◌, inl, inr, ℕ, zero, suc, ◌-◌, ◌+◌, ◌<◌, ◌≤◌, ◌==◌, ◌&&◌, not, Bool, true, false, Some, None, Option, List, [], ◌∷◌, ◌++◌, filter, length, length-append, refl, sym, ap, ◌∙◌, subst, arith, append-nil}
use Rattle.std.specs.Prelude.{count_by, slice_get}
use Rattle.std.proofs.lemmas.Bool.{cases_eq, false≢true}
use Rattle.std.proofs.lemmas.List.Sums.{sum_by-append, sum_by-cons}
use Rattle.std.proofs.lemmas.Option.{slice_get_within}
use mathlib.Core.Bool.{cond}
use Rattle.opfs_base.specs.Texts.{Text}
use Rattle.opfs_hall.specs.History.{IsPrefix}
use Rattle.opfs_hall.specs.Seen.{HallSeen, WatchSeen}
use Rattle.opfs_hist.specs.declared.entry.Entry.{Entry}
use Rattle.opfs_machine.specs.Agents.{waits_for}
use Rattle.opfs_machine.specs.Histories.{state_after}
use Rattle.opfs_machine.specs.Openings.{Opening}
use Rattle.opfs_runner.specs.Stepping.{own_entries}
use Rattle.opfs_script.specs.Scripts.{Asked}
use Rattle.opfs_script.specs.declared.step.Step.TheVariants as step
use Rattle.opfs_script_run.specs.Runs.Running.{entries_of}
use Rattle.opfs_serving.specs.Lines.{Awaits}
use Rattle.opfs_serving.specs.Seats.{HasBegunToWait, IsAt, SeatSeen, open_step}
use Rattle.opfs_serving.specs.Served.{AreAtRest, AreWaiting, IsAtRest, IsQuiet, IsServing, IsStanding, Words, opens}
use Rattle.opfs_serving.specs.Talks.{WaitsFor}
use Rattle.opfs_serving.specs.declared.progress.Progress.{Progress}
use Rattle.opfs_serving.specs.declared.progress.State.TheVariants as state
use Rattle.opfs_turns.specs.Agents.{AgentSeen, is_wait, next_number}
use Rattle.opfs_turns.specs.Calls.{HasLooked}
use Rattle.opfs_serving.proofs.Seating.{get-within}

-- ---- an agent's next number, as more is entered

count-grows : {X : Type 0} (f : X → Bool) (xs ys : List X) → count_by f xs ≤ count_by f (xs ++ ys)
count-grows f xs ys =
    let both : count_by f (xs ++ ys) ≡ count_by f xs + count_by f ys = sum_by-append (λ x. cond (f x) 1 0) xs ys in
    subst (λ n. count_by f xs ≤ n) (sym both) (omega arith)

pub number-grows : (k : ℕ) (base list : List Entry) → IsPrefix base list → next_number k base ≤ next_number k list
number-grows k base list front =
    let more = count-grows (λ (e : Entry). (e.agent == k) && not (is_wait e.op)) base front.0 in
    subst (λ l. next_number k base ≤ next_number k l) (sym front.1) (omega (arith, more))

-- The number of an agent that is midway is the next behind what it has seen.
pub number-is : {O : Type 0} (tells : Type 0) (of : HallSeen O) (k : ℕ) (asked : Asked) (x : SeatSeen O) (b : AgentSeen O) → IsAt tells of k asked x b → b.number ≡ next_number k b.pass.base
number-is tells of k asked x b at = at.kept.numbered ∙ (λ i. next_number (at.agent i) (b.pass.base ++ at.pending i)) ∙ ap (next_number k) (append-nil b.pass.base)

-- It is that of its own entries.
abbrev one-if : Bool → ℕ
one-if b = cond b 1 0

count-own : {X : Type 0} (g f : X → Bool) (xs : List X) → count_by (λ x. g x && f x) (filter g xs) ≡ count_by (λ x. g x && f x) xs
count-own g f [] = refl
count-own {X} g f (x ∷ xs) =
    let both : X → Bool = λ y. g y && f y in
    let rest = count-own g f xs in
    let whole : count_by both (x ∷ xs) ≡ one-if (both x) + count_by both xs = sum_by-cons (λ y. one-if (both y)) x xs in
    elim (g x) as (λ b. g x ≡ b → count_by both (cond b (x ∷ filter g xs) (filter g xs)) ≡ count_by both (x ∷ xs)) [
      | true ↦ λ is.
          let own : count_by both (x ∷ filter g xs) ≡ one-if (both x) + count_by both (filter g xs) = sum_by-cons (λ y. one-if (both y)) x (filter g xs) in
          omega (arith, own, rest, whole)
      | false ↦ λ is. let none : one-if (both x) ≡ 0 = ap (λ b. one-if (b && f x)) is in omega (arith, none, rest, whole)
    ] refl

number-own : (k : ℕ) (es : List Entry) → next_number k (entries_of k es) ≡ next_number k es
number-own k es = ap (λ n. 1 + n) (count-own (λ (e : Entry). e.agent == k) (λ (e : Entry). not (is_wait e.op)) es)

-- ---- an await that is not answered

some-same : {X : Type 0} {x y : X} → Some x ≡ Some y → x ≡ y
some-same e = cc

await-same : {x y : Text} → step.Await x ≡ step.Await y → x ≡ y
await-same e = cc

head-same : {X : Type 0} {x y : X} {xs ys : List X} → x ∷ xs ≡ y ∷ ys → x ≡ y
head-same e = cc

tail-same : {X : Type 0} {x y : X} {xs ys : List X} → x ∷ xs ≡ y ∷ ys → xs ≡ ys
tail-same e = cc

-- Two lists that are the same end with the same.
last-same : {X : Type 0} (xs ys : List X) (x y : X) → xs ++ x ∷ [] ≡ ys ++ y ∷ [] → x ≡ y
last-same [] [] x y is = head-same is
last-same [] (z ∷ ys) x y is = let long = ap length is ∙ ap suc (length-append ys (y ∷ [])) in absurd (omega (arith, long))
last-same (z ∷ xs) [] x y is = let long = sym (ap length is) ∙ ap suc (length-append xs (x ∷ [])) in absurd (omega (arith, long))
last-same (z ∷ xs) (u ∷ ys) x y is = last-same xs ys x y (tail-same is)

module _ {T O P : Type 0} (w : Words T O P) (of : HallSeen O) (agents : List Asked) (begun before : P) (watch : WatchSeen O Entry T) (seats : List (SeatSeen O)) (p : Progress)
    (u : IsServing w of agents begun before watch seats p) (on : p.state ≡ state.On) (quiet : IsQuiet w watch seats) where
  abbrev v : IsStanding w of agents begun before watch seats p
  v = u.stands

  abbrev Rests : ℕ → Text → Type 0
  Rests k tag = WaitsFor (state_after (opens w watch.last) (w.entries watch.last)) k tag

  module _ (i : ℕ) (tag : Text) (a : Awaits v.scripts v.told (suc i) tag) (x : SeatSeen O) (seat : slice_get seats i ≡ Some x) (script : slice_get v.scripts i ≡ Some a.asked) where
    -- It awaits nothing: its answers were told.
    answered : (b : AgentSeen O) → x.agent ≡ Some b → x.awaits ≡ None → ⊥
    answered b here free =
        let m : IsAt w.reads of (suc i) a.asked x b = v.seated.midway on i x b a.asked seat here script in
        let steps : length a.asked.steps ≡ length m.done = ap length (m.steps ∙ ap (λ o. m.done ++ open_step o) free ∙ append-nil m.done) in
        let number = number-is w.reads of (suc i) a.asked x b m in
        let next = m.number in
        let own : own_entries b ≡ entries_of (suc i) b.pass.base = (λ j. entries_of (m.agent j) (b.pass.base ++ m.pending j)) ∙ ap (entries_of (suc i)) (append-nil b.pass.base) in
        let shown : IsPrefix (entries_of (suc i) b.pass.base) (entries_of (suc i) v.told) = subst (λ es. IsPrefix es (entries_of (suc i) v.told)) own ((u.all_told on).shown i x b seat here free) in
        let grows = number-grows (suc i) (entries_of (suc i) b.pass.base) (entries_of (suc i) v.told) shown in
        let seen = number-own (suc i) b.pass.base in
        let told = number-own (suc i) v.told in
        let few = a.unanswered in
        omega (arith, steps, number, next, grows, seen, told, few)

    waits : (b : AgentSeen O) → x.agent ≡ Some b → (o : Option Text) → x.awaits ≡ o → Rests (suc i) tag
    waits b here None free = absurd (answered b here free)
    waits b here (Some other) awaits =
        let m : IsAt w.reads of (suc i) a.asked x b = v.seated.midway on i x b a.asked seat here script in
        let same : other ≡ tag = await-same (last-same m.done a.done (step.Await other) (step.Await tag) (sym (m.steps ∙ ap (λ o. m.done ++ open_step o) awaits) ∙ a.steps)) in
        subst (Rests (suc i)) same (quiet.rest i x seat b other here awaits)

    by-agent : (o : Option (AgentSeen O)) → x.agent ≡ o → Rests (suc i) tag
    by-agent None gone = absurd (false≢true (sym a.stays ∙ (u.all_told on).over i x seat gone))
    by-agent (Some b) here = waits b here x.awaits refl

  -- An agent waits for what it awaits, which is not due.
  pub at-rest : (k : ℕ) (tag : Text) → Awaits v.scripts v.told k tag → Rests k tag
  at-rest zero tag a = let real = a.real in absurd (omega (arith, real))
  at-rest (suc i) tag a =
      let first : suc i - 1 ≡ i = omega arith in
      let script : slice_get v.scripts i ≡ Some a.asked = ap (slice_get v.scripts) (sym first) ∙ a.of in
      let within = slice_get_within v.scripts i a.asked script in
      let count = v.seated.count in
      let seat = get-within seats i (omega (arith, within, count)) in
      by-agent i tag a seat.0 seat.1 script seat.0.agent refl

-- ---- seat by seat

-- Each of the first seats is at rest after these entries.
abbrev pub AreAtRestBelow : {O : Type 0} → Opening → List Entry → List (SeatSeen O) → ℕ → Type 0
AreAtRestBelow {O} o es seats k = (i : ℕ) (x : SeatSeen O) → i < k → slice_get seats i ≡ Some x → IsAtRest o es (suc i) x

module _ {O : Type 0} (o : Opening) (es : List Entry) (seats : List (SeatSeen O)) where
  pub rest-more : (k : ℕ) (x : SeatSeen O) → slice_get seats k ≡ Some x → AreAtRestBelow o es seats k → IsAtRest o es (k + 1) x → AreAtRestBelow o es seats (k + 1)
  rest-more k x there below one i y less at = by (cases_eq i k)
    where
      by : (i ≡ k) ⊎ (i ≢ k) → IsAtRest o es (suc i) y
      by (inl same) =
          let number : k + 1 ≡ suc i = omega (arith, same) in
          let seat : x ≡ y = some-same (sym there ∙ ap (slice_get seats) (sym same) ∙ at) in
          subst (IsAtRest o es (suc i)) seat (subst (λ n. IsAtRest o es n x) number one)
      by (inr other) = below i y (omega (arith, less, other)) at

  pub rest-all : (k : ℕ) → length seats ≤ k → AreAtRestBelow o es seats k → AreAtRest o es seats
  rest-all k long below i x at = let within = slice_get_within seats i x at in below i x (omega (arith, long, within)) at

  -- Where each is at rest, one is.
  pub rest-at : (i k : ℕ) (x : SeatSeen O) → slice_get seats i ≡ Some x → k ≡ suc i → AreAtRest o es seats → IsAtRest o es k x
  rest-at i k x at number none = subst (λ n. IsAtRest o es n x) (sym number) (none i x at)

-- Each of the first seats has begun to wait, where one more has.
pub begun-more : {O : Type 0} (seats next : List (SeatSeen O)) (k : ℕ) → ((i : ℕ) (x : SeatSeen O) → i < k → slice_get seats i ≡ Some x → HasBegunToWait x)
    → ((x : SeatSeen O) → slice_get next k ≡ Some x → HasBegunToWait x) → ((i : ℕ) → i ≢ k → slice_get next i ≡ slice_get seats i)
    → (i : ℕ) (x : SeatSeen O) → i < k + 1 → slice_get next i ≡ Some x → HasBegunToWait x
begun-more {O} seats next k below one others i x less at = by (cases_eq i k)
  where
    by : (i ≡ k) ⊎ (i ≢ k) → HasBegunToWait x
    by (inl same) = one x (ap (slice_get next) (sym same) ∙ at)
    by (inr other) = below i x (omega (arith, less, other)) (sym (others i other) ∙ at)

pub begun-all : {O : Type 0} (seats : List (SeatSeen O)) (k : ℕ) → length seats ≡ k → ((i : ℕ) (x : SeatSeen O) → i < k → slice_get seats i ≡ Some x → HasBegunToWait x) → AreWaiting seats
begun-all seats k long below i x at = let within = slice_get_within seats i x at in below i x (omega (arith, within, long)) at

-- An agent that looked waits on.
pub waits-on : {O : Type 0} (x x' : SeatSeen O) (a b : AgentSeen O) → x.agent ≡ Some a → x' ≡ record x { agent = Some b } → HasLooked a b → HasBegunToWait x → HasBegunToWait x'
waits-on {O} x x' a b here is looked begun c tag there awaits =
    let same : b ≡ c = some-same (sym (ap (λ (y : SeatSeen O). y.agent) is) ∙ there) in
    ap (λ (y : AgentSeen O). waits_for y.waiting tag) (sym same)
    ∙ ap (λ (y : AgentSeen O). waits_for y.waiting tag) looked.rest
    ∙ begun a tag here (ap (λ (y : SeatSeen O). y.awaits) (sym is) ∙ awaits)
