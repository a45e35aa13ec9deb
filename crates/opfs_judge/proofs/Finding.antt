-- A script's transcript is settled by reading it.
use Rattle.std.proofs.Common.{◌≡◌, ◌==◌, ◌+◌, ◌<◌, ◌≤◌, ◌&&◌, ◌||◌, ℕ, zero, suc, Bool, true, false, cond, not, List, [], ◌∷◌, drop, take, length, map, All, IsTrue, Option, Some, None, slice_get, ◌⊎◌, inl, inr, refl, sym, ap, IfSome, ◌-◌, ◌∙◌, subst, arith}
use Rattle.std.specs.List.{list_any}
use Rattle.std.proofs.lemmas.Bool.{and_parts}
use Rattle.std.proofs.lemmas.List.{drop-drop, drop_all, length-drop, length-map}
use Rattle.std.proofs.lemmas.List.Elements.{All-nil, All-cons, All-head, All-tail, All-map}
use Rattle.opfs_base.specs.Keys.{is_origin, is_one_line}
use Rattle.opfs_base.specs.Texts.{Text}
use Rattle.opfs_hist.specs.declared.entry.Entry.{Entry}
use Rattle.opfs_machine.specs.declared.own.Own.{Own}
use Rattle.opfs_machine.specs.declared.state.State.{State}
use Rattle.opfs_machine.specs.Openings.{begun}
use Rattle.opfs_script_run.specs.Runs.Running.{entries_of, is_wait, IsRun}
use Rattle.opfs_script.specs.Limits.{is_origin_key, is_short_key}
use Rattle.opfs_script.specs.Scripts.{Asked}
use Rattle.opfs_laws.specs.Separation.Apart.{IsInOrder, has_origin_key}
use Rattle.opfs_script_run.specs.Stage.Openings.{trial_opening, who_of}
use Rattle.opfs_script_run.specs.Stage.Runs.{EachRuns}
use Rattle.opfs_transcripts.specs.Told.Goings.{Going, gone, has_no, is_line, IsGoing}
use Rattle.opfs_transcripts.specs.Told.Reading.{tells_room_or_stuck}
use Rattle.opfs_transcripts.specs.Told.Turns.{HasRest, HasTurn}
use Rattle.opfs_transcripts.proofs.told.PlainTexts.{settled-plain}
use Rattle.opfs_transcripts.specs.Waiting.Fixed.{IsInLines, has_await}
use Rattle.opfs_transcripts.specs.Waiting.Waiting.{IsHistory, without_waits}
use Rattle.opfs_transcripts.proofs.waiting.Cleared.{histories-are-fixed, nobody-beyond, nobody-waits-unasked}
use Rattle.opfs_transcripts.proofs.waiting.Deciding.{waits-decide-nothing}
use Rattle.opfs_judge.specs.Judging.{IsFound, IsReached, IsRead}
use Rattle.opfs_judge.specs.Players.{going_at, goings_of, starting}
use Rattle.opfs_judge.specs.Turns.{IsTurn}
use Rattle.opfs_judge.specs.Verdicts.{IsJudged, IsTextOf, is_unsettled, verdict_of}
use Rattle.opfs_judge.proofs.Calling.{rest-is}
use Rattle.opfs_judge.proofs.Reading.{Reading, reading-next}

-- ---- one group more of a text

turn-of : (s t : State Text Own) (gs hs : List Going) (text : Text) (at used : ℕ) → IsTurn s t gs hs (take (length text - at) (drop at text)) used → IsTurn s t gs hs (drop at text) used
turn-of s t gs hs text at used turn = subst (λ rest. IsTurn s t gs hs rest used) (rest-is text at) turn

pub reads-on : (s t u : State Text Own) (before after more : List Going) (text : Text) (at used : ℕ) → Reading s before text t after (drop at text) → IsTurn t u after more (take (length text - at) (drop at text)) used
    → Reading s before text u more (drop (at + used) text)
reads-on s t u before after more text at used h turn =
    subst (Reading s before text u more) (drop-drop used at text) (reading-next s t u before after more text (drop at text) used h (turn-of t u after more text at used turn))

some-found : (P : ℕ → Type 0) (found : Option ℕ) (used : ℕ) → found ≡ Some used → IfSome found P → P used
some-found P found used is h = subst (λ o. IfSome o P) is h

pub some-turn : (s t : State Text Own) (gs hs : List Going) (text : Text) (at used : ℕ) (found : Option ℕ) → found ≡ Some used → IfSome found (IsTurn s t gs hs (take (length text - at) (drop at text)))
    → IsTurn s t gs hs (take (length text - at) (drop at text)) used
some-turn s t gs hs text at used found is h = some-found (IsTurn s t gs hs (take (length text - at) (drop at text))) found used is h

pub turn-fits : (s t : State Text Own) (gs hs : List Going) (text : Text) (at used : ℕ) → at < length text → IsTurn s t gs hs (take (length text - at) (drop at text)) used → at + used ≤ length text
turn-fits s t gs hs text at used below turn =
    let within = turn.within in
    let long = ap length (rest-is text at) in
    let left = length-drop at text in
    omega (arith, below, within, long, left)

-- Where something is left, a text is not at its end.
pub wants-turn : (text : Text) (at : ℕ) → at < length text → drop at text ≡ [] → ⊥
wants-turn text at below none = let left = length-drop at text in let empty = ap length none in omega (arith, below, left, empty)

pub nothing-left : (text : Text) (at : ℕ) → length text ≤ at → drop at text ≡ []
nothing-left text at all = drop_all at text all

pub none-left : (s : State Text Own) (gs : List Going) (text : Text) (at : ℕ) (found : Option ℕ) → found ≡ None → (found ≡ None → HasTurn s (goings_of gs) (take (length text - at) (drop at text)) → ⊥)
    → HasTurn s (goings_of gs) (drop at text) → ⊥
none-left s gs text at found is none h = none is (subst (HasTurn s (goings_of gs)) (sym (rest-is text at)) h)

-- ---- what a script begins with

one-line : (key : Text) → is_one_line key ≡ true → has_no 10 key ≡ true
one-line [] h = refl
one-line (c ∷ key) h = by (c == 10) (list_any (λ byte. byte == 10) key) (has_no 10 key) h (one-line key)
  where
    by : (a b m : Bool) → not (a || b) ≡ true → (not b ≡ true → m ≡ true) → (not a && m) ≡ true
    by true b m h more = cc
    by false b m h more = more h

key-line : (key : Option Text) → IsTrue (is_origin_key key) → is_line key ≡ true
key-line None h = refl
key-line (Some key) h = one-line key (and_parts (is_origin key) (is_one_line key) (and_parts (is_origin key && is_one_line key) (is_short_key key) h).0).1

origin-key : (key : Option Text) → IsTrue (is_origin_key key) → IsTrue (has_origin_key key)
origin-key None h = h
origin-key (Some key) h = (and_parts (is_origin key) (is_one_line key) (and_parts (is_origin key && is_one_line key) (is_short_key key) h).0).0

origin-keys : (script : List Asked) → All (λ a. IsTrue (is_origin_key a.key)) script → All (λ a. IsTrue (has_origin_key (who_of a).key)) script
origin-keys [] h = All-nil (λ a. IsTrue (has_origin_key (who_of a).key))
origin-keys (a ∷ script) h =
    All-cons (λ a. IsTrue (has_origin_key (who_of a).key)) a script (origin-key a.key (All-head (λ a. IsTrue (is_origin_key a.key)) a script h))
    (origin-keys script (All-tail (λ a. IsTrue (is_origin_key a.key)) a script h))

key-lines : (script : List Asked) → All (λ a. IsTrue (is_origin_key a.key)) script → All (λ a. is_line (who_of a).key ≡ true) script
key-lines [] h = All-nil (λ a. is_line (who_of a).key ≡ true)
key-lines (a ∷ script) h =
    All-cons (λ a. is_line (who_of a).key ≡ true) a script (key-line a.key (All-head (λ a. IsTrue (is_origin_key a.key)) a script h))
    (key-lines script (All-tail (λ a. IsTrue (is_origin_key a.key)) a script h))

module _ (script : List Asked) (keys : All (λ a. IsTrue (is_origin_key a.key)) script) (few : length script ≤ 64) where
  in-order : IsInOrder (trial_opening script)
  in-order = record { rows = refl; keys = All-map (λ who. IsTrue (has_origin_key who.key)) who_of script (origin-keys script keys) }

  many : length (trial_opening script).agents ≡ length script
  many = length-map script who_of

  in-lines : IsInLines (trial_opening script)
  in-lines = record {
    rows = All-nil (λ e. has_no 10 e.0.0 ≡ true);
    keys = All-map (λ who. is_line who.key ≡ true) who_of script (key-lines script keys);
    few = let same = many in omega (arith, few, same);
  }

-- ---- where the agents begin

abbrev Placed : List Asked → ℕ → Type 0
Placed script i = ((a : Asked) × (slice_get script i ≡ Some a) × (going_at (map starting script) i ≡ starting a)) ⊎ ((length script ≤ i) × (going_at (map starting script) i ≡ gone))

placed : (script : List Asked) (i : ℕ) → Placed script i
placed [] i = inr (omega arith, refl)
placed (a ∷ script) zero = inl (a, refl, refl)
placed (a ∷ script) (suc i) = elim (placed script i) as (λ p. Placed (a ∷ script) (suc i)) [
  | inl here ↦ inl here
  | inr beyond ↦ let far = beyond.0 in inr (omega (arith, far), beyond.1)
]

starts-at : (script : List Asked) (i : ℕ) (a : Asked) → slice_get script i ≡ Some a → going_at (map starting script) i ≡ starting a
starts-at [] i a is = absurd (none-some a is)
  where
    none-some : (a : Asked) → None ≡ Some a → ⊥
    none-some a h = cc
starts-at (b ∷ script) zero a is = ap starting (some-same b a is)
  where
    some-same : (b a : Asked) → Some b ≡ Some a → b ≡ a
    some-same b a h = cc
starts-at (b ∷ script) (suc i) a is = starts-at script i a is

next-number : (i : ℕ) → i + 1 ≡ suc i
next-number i = omega arith

each-runs : (script : List Asked) (es : List Entry) → ((i : ℕ) → IsGoing (going_at (map starting script) i) (entries_of (suc i) es)) → EachRuns script es
each-runs script es runs = λ k a is.
    subst (λ j. IsRun a (entries_of j es)) (sym (next-number k)) (subst (λ g. IsGoing g (entries_of (suc k) es)) (starts-at script k a is) (runs k))

each-goes : (script : List Asked) (es : List Entry) → EachRuns script es → ((i : ℕ) → length script ≤ i → entries_of (suc i) es ≡ []) → (i : ℕ) → IsGoing (going_at (map starting script) i) (entries_of (suc i) es)
each-goes script es runs beyond i = elim (placed script i) as (λ p. IsGoing (going_at (map starting script) i) (entries_of (suc i) es)) [
  | inl here ↦
      subst (λ g. IsGoing g (entries_of (suc i) es)) (sym here.2)
      (subst (λ j. IsRun here.0 (entries_of j es)) (next-number i) (runs i here.0 here.1))
  | inr far ↦ subst (λ g. IsGoing g (entries_of (suc i) es)) (sym far.1) (beyond i far.0)
]

-- ---- histories without waits

abbrev Moves : Entry → Type 0
Moves e = is_wait e.op ≡ false

no-waits : (es : List Entry) → All Moves (without_waits es)
no-waits [] = All-nil Moves
no-waits (e ∷ es) =
    elim (is_wait e.op) as (λ b. is_wait e.op ≡ b → All Moves (cond (not b) (e ∷ without_waits es) (without_waits es))) [
      | true ↦ λ is. no-waits es
      | false ↦ λ is. All-cons Moves e (without_waits es) is (no-waits es)
    ] refl

-- A history of a script in which nobody begins to wait.
record Moving (script : List Asked) (text : Text) : Type 0 where
  entries : List Entry
  is : IsTextOf script text entries
  moves : All Moves entries

settled-by : (a b : Bool) → (a && b) ≡ false → a ≡ true → b ≡ false
settled-by true b h is = h
settled-by false b h is = cc

module _ (script : List Asked) (keys : All (λ a. IsTrue (is_origin_key a.key)) script) (few : length script ≤ 64) where
  moving : (text : Text) (es : List Entry) → is_unsettled script text ≡ false → IsTextOf script text es → Moving script text
  moving text es settled h =
      let history : IsHistory (trial_opening script) script es = record { legal = h.legal; runs = h.runs } in
      elim (list_any has_await script) as (λ b. list_any has_await script ≡ b → Moving script text) [
        | true ↦ λ awaits.
            let plain = settled-plain es (ap tells_room_or_stuck (sym h.printed) ∙ settled-by (list_any has_await script) (tells_room_or_stuck text) settled awaits) in
            let without = waits-decide-nothing (trial_opening script) script es (in-order script keys few) (many script keys few) plain history in
            record {
              entries = without_waits es;
              is = record { legal = without.0.legal; runs = without.0.runs; printed = h.printed ∙ sym without.1 };
              moves = no-waits es;
            }
        | false ↦ λ none. record {
          entries = es;
          is = h;
          moves = nobody-waits-unasked (trial_opening script) script es (in-order script keys few) (in-lines script keys few) (many script keys few) none history;
        }
      ] refl

  has-rest : (text : Text) → Moving script text → HasRest (begun (trial_opening script)) (goings_of (map starting script)) text
  has-rest text m = record {
    entries = m.entries;
    rest = record {
      legal = m.is.legal;
      runs = each-goes script m.entries m.is.runs (λ i beyond.
          let same = many script keys few in
          nobody-beyond (trial_opening script) m.entries (in-order script keys few) (in-lines script keys few) m.is.legal i (omega (arith, beyond, same)));
      fixed = histories-are-fixed (trial_opening script) m.entries (in-order script keys few) (in-lines script keys few) m.is.legal m.moves;
      printed = sym m.is.printed;
    };
  }

  pub judged : (text : Text) (found : Bool) → is_unsettled script text ≡ false → IsRead (begun (trial_opening script)) (map starting script) text found → IsJudged script text (verdict_of found)
  judged text found settled h =
      let o = trial_opening script in
      let reached : IsReached o (begun o) = record { entries = []; legal = refl; moves = All-nil Moves; present = refl } in
      by found (h o (in-order script keys few) (in-lines script keys few) reached)
    where
      by : (found : Bool) → IsFound (begun (trial_opening script)) (map starting script) text found → IsJudged script text (verdict_of found)
      by true there = (
        settled,
        (
          there.entries,
          record {
            legal = there.rest.legal;
            runs = each-runs script there.entries there.rest.runs;
            printed = sym there.rest.printed;
          },
        ),
      )
      by false none = (settled, λ es h. none (has-rest text (moving text es settled h)))
