-- In a legal history no unit that is cleared has a line feed.
use Rattle.std.proofs.Common.{◌≡◌, ◌+◌, ◌<◌, ◌≤◌, ◌^◌, ◌==◌, ◌||◌, ℕ, zero, suc, Bool, true, false, List, [], ◌∷◌, ◌++◌, append_assoc, length, map, fold, slice_get, All, Option, Some, None, refl, sym, ap, ◌∙◌, subst, inl, inr, arith}
use Rattle.std.proofs.lemmas.Bool.{false≢true}
use Rattle.std.proofs.lemmas.Bool.Decides.{nat_tests}
use Rattle.std.specs.List.{list_any}
use Rattle.std.proofs.lemmas.List.Elements.{All-nil, All-cons, All-head, All-tail}
use Rattle.opfs_base.specs.Places.{Place}
use Rattle.opfs_base.specs.Texts.{Text}
use Rattle.opfs_hist.specs.declared.entry.Entry.{Entry}
use Rattle.opfs_hist.specs.declared.op.Op.{Op}
use Rattle.opfs_hist.specs.declared.op.Op.TheVariants as op
use Rattle.opfs_machine.specs.declared.own.Own.{Own}
use Rattle.opfs_machine.specs.declared.state.State.{State}
use Rattle.opfs_machine.specs.Agents.{agent_of}
use Rattle.opfs_machine.specs.Histories.{evicted_by, IsCall, IsEviction, IsFront, Legal, LegalFrom}
use Rattle.opfs_machine.specs.Openings.{Opening, Stored, Who, agent_begun, begun, row_of}
use Rattle.opfs_machine.specs.Replies.{sizes_of}
use Rattle.opfs_machine.specs.Steps.{after_reply, evicted, is_refusal}
use Rattle.opfs_machine.specs.Victims.{candidates}
use Rattle.opfs_script_run.specs.declared.runs.hand.Hand.{Hand}
use Rattle.opfs_script_run.specs.declared.runs.hand.Open.{Open}
use Rattle.opfs_script_run.specs.declared.runs.hand.Open.TheVariants as opened
use Rattle.opfs_script_run.specs.Runs.Running.{empty_hand, ending, entries_of, hand_then, is_wait, IsEnd, IsRun, IsRunFrom, IsStep, IsWait}
use Rattle.opfs_script.specs.declared.step.Step.{Step}
use Rattle.opfs_script.specs.declared.step.Step.TheVariants as step
use Rattle.opfs_script.specs.Scripts.{Asked}
use Rattle.opfs_laws.proofs.Gone.{ran-by}
use Rattle.opfs_laws.proofs.OwnFiles.{may-after}
use Rattle.opfs_laws.proofs.Wholes.{call-placed}
use Rattle.opfs_laws.specs.Separation.Apart.{IsInOrder}
use Rattle.opfs_laws.proofs.separation.Calls.{Kept, kept-after, kept-evicted, live-above}
use Rattle.opfs_laws.proofs.separation.Follows.{IsPlain}
use Rattle.opfs_laws.proofs.separation.Fronts.{call-front, front-fine}
use Rattle.opfs_laws.proofs.separation.Numbered.{agent_at}
use Rattle.opfs_laws.proofs.separation.Separation.{begun-kept, keys-plain}
use Rattle.opfs_transcripts.specs.Told.Goings.{IsFixed, has_no, is_line}
use Rattle.opfs_transcripts.proofs.told.Goes.{nobody-here, other-entry, own-entry, self-here}
use Rattle.opfs_transcripts.specs.Waiting.Fixed.{HistoriesAreFixed, IsInLines, NobodyWaitsUnasked, has_await, is_await}
use Rattle.opfs_transcripts.proofs.waiting.Deciding.{length-begun, size-after, live-within}
use Rattle.opfs_transcripts.proofs.waiting.Lines.{InLines, IsLine, IsNamed, named, changed-lines-kept, line-root, lines-without}

-- What is known of a state within a history.
record Now (keys : ℕ → Option Text) (n : ℕ) (s : State Text Own) : Type 0 where
  kept : Kept keys s
  size : length s.agents ≡ n
  lines : InLines s.rows

abbrev Next : State Text Own → List Text → Entry → List Entry → Option Text → Type 0
Next s gone e es (Some unit) = IsEviction unit e × LegalFrom s (gone ++ unit ∷ []) es
Next s gone e es None = IsCall s gone e × LegalFrom (after_reply (fold evicted s gone) e.agent e.op e.reply) [] es

abbrev Pending : State Text Own → List Text → Type 0
Pending s gone = (caller : Option Text) × IsFront gone (candidates s caller)

-- What was cleared before the next call is a front of some caller's candidates.
pending : (s : State Text Own) (gone : List Text) (es : List Entry) → LegalFrom s gone es → Pending s gone
pending s gone [] ends = (None, subst (λ g. IsFront g (candidates s None)) (sym ends) (candidates s None, refl))
pending s gone (e ∷ es) legal =
    elim (evicted_by e.op) as (λ told. Next s gone e es told → Pending s gone) [
      | Some unit ↦ λ next.
          let more = pending s (gone ++ unit ∷ []) es next.1 in
          (more.0, ((unit ∷ []) ++ more.1.0, more.1.1 ∙ append_assoc gone (unit ∷ []) more.1.0))
      | None ↦ λ next. ((agent_of s e.agent).key, call-front s gone e next.0)
    ] legal

-- A unit that is cleared has no line feed.
cleared-line : (s : State Text Own) (gone : List Text) (unit : Text) (es : List Entry) → InLines s.rows → LegalFrom s (gone ++ unit ∷ []) es → IsLine unit
cleared-line s gone unit es lines legal =
    let front = pending s (gone ++ unit ∷ []) es legal in
    line-root unit s.rows lines (front-fine s front.0 gone unit [] front.1).may.root

cleared-now : (keys : ℕ → Option Text) (n : ℕ) (gone : List Text) (s : State Text Own) → Now keys n s → Now keys n (fold evicted s gone)
cleared-now keys n [] s h = h
cleared-now keys n (unit ∷ units) s h = cleared-now keys n units (evicted s unit) (record {
  kept = kept-evicted keys (unit ∷ []) s h.kept;
  size = h.size;
  lines = lines-without (unit, []) s.rows h.lines;
})

call-named : (s : State Text Own) (gone : List Text) (e : Entry) → IsCall s gone e → is_refusal e.reply ≡ false → IsNamed e.op
call-named s gone e call accepted =
    elim (ran-by s gone e call) as (λ r. IsNamed e.op) [
      | inl refused_call ↦ absurd (false≢true (sym accepted ∙ ap is_refusal refused_call.told))
      | inr done ↦ elim done as (λ r. IsNamed e.op) [
        | inl given ↦ named s (sizes_of s e.agent e.op) e.agent e.op given.given.need given.given.ruled
        | inr fault ↦ absurd (false≢true (sym accepted ∙ fault.refused))
      ]
    ]

-- No entry of these begins to wait.
abbrev AllMove : List Entry → Type 0
AllMove [] = Unit {0}
AllMove (e ∷ es) = (is_wait e.op ≡ false) × AllMove es

nobody : (k i : ℕ) → k ≡ 0 → (k == suc i) ≡ false
nobody k i is = ap (λ j. j == suc i) is ∙ nobody-here i

another : (k j i : ℕ) → k ≡ suc j → j < i → (k == suc i) ≡ false
another k j i is less = grind (arith, nat_tests)

no-wait : (o : Op) (unit : Text) → evicted_by o ≡ Some unit → is_wait o ≡ false
no-wait (op.Evict told) unit is = refl
no-wait (op.Wait tag) unit is = cc
no-wait o unit is = cc

ending-moves : (o : Open) → is_wait (ending o) ≡ false
ending-moves (opened.Stream n) = refl
ending-moves (opened.Handle n) = refl

end-moves : (n : ℕ) (rows : List Open) (es : List Entry) → IsEnd n rows es → AllMove es
end-moves n rows [] h = tt
end-moves n [] (e ∷ es) h = (ap is_wait h.1, subst AllMove (sym h.2) tt)
end-moves n (o ∷ rows) (e ∷ es) h = (ap is_wait h.1 ∙ ending-moves o, end-moves (n + 1) rows es h.2)

no-await : (h : Hand) (n : ℕ) (s : Step) (e : Entry) → is_await s ≡ false → IsWait h n s e → ⊥
no-await h n (step.Await tag) e is w = false≢true (sym is)
no-await h n s e is w = w

abbrev RunBy : Hand → ℕ → Bool → Step → List Step → Entry → List Entry → Bool → Type 0
RunBy h n waited s steps e es waits = elim waits [
  | true ↦ (waited ≡ false) × IsWait h n s e × IsRunFrom h n true (s ∷ steps) es
  | false ↦ IsStep h n s e × IsRunFrom (hand_then h s e.op e.reply) (n + 1) false steps es
]

run-moves : (h : Hand) (n : ℕ) (waited : Bool) (steps : List Step) (es : List Entry) → list_any is_await steps ≡ false → IsRunFrom h n waited steps es → AllMove es
run-moves h n waited steps [] none run = tt
run-moves h n waited [] (e ∷ es) none run = end-moves n h.opened (e ∷ es) run
run-moves h n waited (s ∷ steps) (e ∷ es) none run =
    elim (is_wait e.op) as (λ b. is_wait e.op ≡ b → RunBy h n waited s steps e es b → (is_wait e.op ≡ false) × AllMove es) [
      | true ↦ λ is by. absurd (no-await h n s e (first-not (is_await s) (list_any is_await steps) none) by.1)
      | false ↦ λ is by. (is, run-moves (hand_then h s e.op e.reply) (n + 1) false steps es (second-not (is_await s) (list_any is_await steps) none) by.1)
    ] refl run
  where
    first-not : (a b : Bool) → (a || b) ≡ false → a ≡ false
    first-not true b h = cc
    first-not false b h = refl

    second-not : (a b : Bool) → (a || b) ≡ false → b ≡ false
    second-not true b h = cc
    second-not false b h = h

found-script : (script : List Asked) (i : ℕ) → i < length script → list_any has_await script ≡ false → (a : Asked) × (slice_get script i ≡ Some a) × (has_await a ≡ false)
found-script [] i h none = absurd (omega (arith, h))
found-script (a ∷ script) zero h none = (a, refl, first-not (has_await a) (list_any has_await script) none)
  where
    first-not : (a b : Bool) → (a || b) ≡ false → a ≡ false
    first-not true b h = cc
    first-not false b h = refl
found-script (a ∷ script) (suc i) h none = found-script script i (omega (arith, h)) (second-not (has_await a) (list_any has_await script) none)
  where
    second-not : (a b : Bool) → (a || b) ≡ false → b ≡ false
    second-not true b h = cc
    second-not false b h = h

module _ (keys : ℕ → Option Text) (plain : (k : ℕ) → IsPlain (keys k)) (key_lines : (k : ℕ) → is_line (keys k) ≡ true) (n : ℕ) (few : n < 2 ^ 64) where
  called : (s : State Text Own) (gone : List Text) (e : Entry) → IsCall s gone e → Now keys n s → Now keys n (after_reply (fold evicted s gone) e.agent e.op e.reply)
  called s gone e call h =
      let k = e.agent in
      let now = fold evicted s gone in
      let before = cleared-now keys n gone s h in
      let above = live-above s k call.live in
      let may = may-after gone s k e.op ∙ call.fitting in
      record {
        kept = kept-after keys now k e.op e.reply above (plain k) may before.kept;
        size = size-after keys now k e.op e.reply above (plain k) may before.kept ∙ before.size;
        lines = changed-lines-kept now k e.op e.reply (λ accepted. (call-placed s gone e call accepted, call-named s gone e call accepted))
            (ap is_line (before.kept.keyed k) ∙ key_lines k) before.lines;
      }

  few-agent : (s : State Text Own) (gone : List Text) (e : Entry) → IsCall s gone e → Now keys n s → e.agent < 2 ^ 64
  few-agent s gone e call h =
      let above = live-above s e.agent call.live in
      let inside : above.0 < n = subst (λ m. above.0 < m) h.size (live-within s e.agent above call.live) in
      omega (arith, above.1, inside, few)

  abbrev FixedBy : State Text Own → List Text → Entry → List Entry → Option Text → Type 0
  FixedBy s gone e es told = evicted_by e.op ≡ told → Next s gone e es told → All IsFixed (e ∷ es)

  fixed-from : (s : State Text Own) (gone : List Text) (es : List Entry) → LegalFrom s gone es → Now keys n s → All (λ e. is_wait e.op ≡ false) es → All IsFixed es
  fixed-from s gone [] legal h moves = All-nil IsFixed
  fixed-from s gone (e ∷ es) legal h moves =
      let here = All-head (λ x. is_wait x.op ≡ false) e es moves in
      let more = All-tail (λ x. is_wait x.op ≡ false) e es moves in
      elim (evicted_by e.op) as (FixedBy s gone e es) [
        | Some unit ↦ λ is next.
            All-cons IsFixed e es (record { moves = here; few = omega (arith, next.0.agent); line = ap is_line is ∙ cleared-line s gone unit es h.lines next.1 })
            (fixed-from s (gone ++ unit ∷ []) es next.1 h more)
        | None ↦ λ is next.
            All-cons IsFixed e es (record { moves = here; few = few-agent s gone e next.0 h; line = ap is_line is })
            (fixed-from (after_reply (fold evicted s gone) e.agent e.op e.reply) [] es next.1 (called s gone e next.0 h) more)
      ] refl legal

  -- Where no run begins to wait, no entry does.
  moves-from : (s : State Text Own) (gone : List Text) (es : List Entry) → LegalFrom s gone es → Now keys n s → ((i : ℕ) → i < n → AllMove (entries_of (suc i) es)) → All (λ e. is_wait e.op ≡ false) es
  moves-from s gone [] legal h runs = All-nil (λ e. is_wait e.op ≡ false)
  moves-from s gone (e ∷ es) legal h runs =
      elim (evicted_by e.op) as (λ told. evicted_by e.op ≡ told → Next s gone e es told → All (λ x. is_wait x.op ≡ false) (e ∷ es)) [
        | Some unit ↦ λ is next.
            All-cons (λ x. is_wait x.op ≡ false) e es (no-wait e.op unit is)
            (moves-from s (gone ++ unit ∷ []) es next.1 h (λ i below. subst AllMove (other-entry (suc i) e es (nobody e.agent i next.0.agent)) (runs i below)))
        | None ↦ λ is next.
            let above = live-above s e.agent next.0.live in
            let inside : above.0 < n = subst (λ m. above.0 < m) h.size (live-within s e.agent above next.0.live) in
            let own : AllMove (e ∷ entries_of (suc above.0) es) =
            subst AllMove (own-entry (suc above.0) e es (ap (λ k. k == suc above.0) above.1 ∙ self-here (suc above.0))) (runs above.0 inside) in
            All-cons (λ x. is_wait x.op ≡ false) e es own.0
            (moves-from (after_reply (fold evicted s gone) e.agent e.op e.reply) [] es next.1 (called s gone e next.0 h)
            (λ i below.
            elim (e.agent == suc i) as (λ b. (e.agent == suc i) ≡ b → AllMove (entries_of (suc i) es)) [
              | true ↦ λ mine. (subst AllMove (own-entry (suc i) e es mine) (runs i below)).1
              | false ↦ λ other. subst AllMove (other-entry (suc i) e es other) (runs i below)
            ] refl))
      ] refl legal

  -- Nobody behind the last agent has an entry.
  within-from : (s : State Text Own) (gone : List Text) (es : List Entry) → LegalFrom s gone es → Now keys n s → (i : ℕ) → n ≤ i → entries_of (suc i) es ≡ []
  within-from s gone [] legal h i beyond = refl
  within-from s gone (e ∷ es) legal h i beyond =
      elim (evicted_by e.op) as (λ told. Next s gone e es told → entries_of (suc i) (e ∷ es) ≡ []) [
        | Some unit ↦ λ next. other-entry (suc i) e es (nobody e.agent i next.0.agent) ∙ within-from s (gone ++ unit ∷ []) es next.1 h i beyond
        | None ↦ λ next.
            let above = live-above s e.agent next.0.live in
            let inside : above.0 < n = subst (λ m. above.0 < m) h.size (live-within s e.agent above next.0.live) in
            other-entry (suc i) e es (another e.agent above.0 i above.1 (omega (arith, inside, beyond)))
            ∙ within-from (after_reply (fold evicted s gone) e.agent e.op e.reply) [] es next.1 (called s gone e next.0 h) i beyond
      ] legal

begun-lines : (rows : List (Place × Stored)) → All (λ e. has_no 10 e.0.0 ≡ true) rows → InLines (map (λ e. (e.0, row_of e.1)) rows)
begun-lines [] h = tt
begun-lines (e ∷ es) h = (All-head (λ x. has_no 10 x.0.0 ≡ true) e es h, begun-lines es (All-tail (λ x. has_no 10 x.0.0 ≡ true) e es h))

key-line : (agents : List Who) (i : ℕ) → All (λ who. is_line who.key ≡ true) agents → is_line (agent_at (map agent_begun agents) i).key ≡ true
key-line [] i h = refl
key-line (w ∷ agents) zero h = All-head (λ who. is_line who.key ≡ true) w agents h
key-line (w ∷ agents) (suc i) h = key-line agents i (All-tail (λ who. is_line who.key ≡ true) w agents h)

keys-lines : (o : Opening) → All (λ who. is_line who.key ≡ true) o.agents → (k : ℕ) → is_line (agent_of (begun o) k).key ≡ true
keys-lines o h zero = refl
keys-lines o h (suc i) = key-line o.agents i h

pub histories-are-fixed : HistoriesAreFixed
histories-are-fixed o es order lines legal moves =
    fixed-from (λ k. (agent_of (begun o) k).key) (keys-plain o order) (keys-lines o lines.keys) (length o.agents) lines.few (begun o) [] es legal
    (record { kept = begun-kept o order; size = length-begun o.agents; lines = begun-lines o.stored.rows lines.rows }) moves

pub nobody-waits-unasked : NobodyWaitsUnasked
nobody-waits-unasked o script es order lines same none h =
    moves-from (λ k. (agent_of (begun o) k).key) (keys-plain o order) (keys-lines o lines.keys) (length o.agents) lines.few (begun o) [] es h.legal
    (record { kept = begun-kept o order; size = length-begun o.agents; lines = begun-lines o.stored.rows lines.rows })
    (λ i below.
    let found = found-script script i (omega (arith, below, same)) none in
    let run : IsRun found.0 (entries_of (suc i) es) = subst (λ k. IsRun found.0 (entries_of k es)) (next i) (h.runs i found.0 found.1) in
    run-moves (empty_hand found.0.key) 1 false found.0.steps (entries_of (suc i) es) found.2 run)
  where
    next : (i : ℕ) → i + 1 ≡ suc i
    next i = omega arith

pub nobody-beyond : (o : Opening) (es : List Entry) → IsInOrder o → IsInLines o → Legal o es → (i : ℕ) → length o.agents ≤ i → entries_of (suc i) es ≡ []
nobody-beyond o es order lines legal i beyond =
    within-from (λ k. (agent_of (begun o) k).key) (keys-plain o order) (keys-lines o lines.keys) (length o.agents) lines.few (begun o) [] es legal
    (record { kept = begun-kept o order; size = length-begun o.agents; lines = begun-lines o.stored.rows lines.rows }) i beyond
