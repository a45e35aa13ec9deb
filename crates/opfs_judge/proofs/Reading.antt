-- A transcript is read group after group.
use Rattle.std.proofs.Common.{◌≡◌, ◌&&◌, ℕ, zero, suc, Bool, true, false, List, [], ◌∷◌, ◌++◌, append_assoc, append-nil, codes, drop, map, fold, All, None, refl, sym, ap, ◌∙◌, subst}
use Rattle.std.specs.List.{list_all}
use Rattle.std.proofs.lemmas.Bool.{false≢true, and_parts}
use Rattle.std.proofs.lemmas.List.Sums.{fold-append}
use Rattle.std.proofs.lemmas.List.Elements.{All-nil, All-cons, All-head, All-tail, All-append}
use Rattle.opfs_base.specs.Texts.{Text}
use Rattle.opfs_hist.specs.declared.entry.Entry.{Entry}
use Rattle.opfs_machine.specs.declared.own.Own.{Own}
use Rattle.opfs_machine.specs.declared.state.State.{State}
use Rattle.opfs_machine.specs.Histories.{evicted_by, after_entry, after_op, IsCall, LegalFrom}
use Rattle.opfs_machine.specs.Openings.{Opening, begun}
use Rattle.opfs_machine.specs.Runs.{eviction}
use Rattle.opfs_machine.specs.Steps.{after_reply, evicted}
use Rattle.opfs_machine.proofs.GoOn.{legal-append}
use Rattle.opfs_print.specs.Lines.{text_of}
use Rattle.opfs_script_run.specs.Runs.Running.{entries_of, is_wait}
use Rattle.opfs_laws.specs.Separation.Apart.{IsInOrder}
use Rattle.opfs_transcripts.specs.Told.Goings.{Going, stepping, closing, gone, has_no, IsFixed, IsGoing}
use Rattle.opfs_transcripts.specs.Told.Turns.{AreLines, HasRest, HasTurn}
use Rattle.opfs_transcripts.proofs.told.Apart.{no-text}
use Rattle.opfs_transcripts.proofs.told.Fixing.{Line, of_unit, of_call, NextIs, agent-line, behind_agent, call-text, line-is, unit-text}
use Rattle.opfs_transcripts.proofs.told.Turning.{turn-back, turn-first, turn-on}
use Rattle.opfs_transcripts.specs.Waiting.Fixed.{IsInLines}
use Rattle.opfs_transcripts.proofs.waiting.Cleared.{histories-are-fixed}
use Rattle.opfs_judge.proofs.Entering.{not-evict}
use Rattle.opfs_judge.specs.Judging.{IsFound, IsReached, IsRead}
use Rattle.opfs_judge.specs.Players.{going_at, goings_of, is_gone}
use Rattle.opfs_judge.specs.Turns.{ClearsLines, IsTurn}

-- ---- groups in a history

-- A call that may stand is no eviction.
plain-call : (s : State Text Own) (units : List Text) (e : Entry) → IsCall s units e → evicted_by e.op ≡ None
plain-call s units e call = not-evict s e.agent e.op call.fitting

group-legal : (s : State Text Own) (before units : List Text) (e : Entry) → evicted_by e.op ≡ None → IsCall s (before ++ units) e → LegalFrom s before (map eviction units ++ e ∷ [])
group-legal s before [] e plain call = subst (NextIs s before e []) (sym plain) (subst (λ g. IsCall s g e) (append-nil before) call, refl)
group-legal s before (unit ∷ units) e plain call = (
  record { agent = refl; number = refl; told = refl },
  group-legal s (before ++ unit ∷ []) units e plain (subst (λ g. IsCall s g e) (sym (append_assoc before (unit ∷ []) units)) call),
)

evictions-after : (s : State Text Own) (units : List Text) → fold after_entry s (map eviction units) ≡ fold evicted s units
evictions-after s [] = refl
evictions-after s (unit ∷ units) = evictions-after (evicted s unit) units

group-after : (s : State Text Own) (units : List Text) (e : Entry) → evicted_by e.op ≡ None → fold after_entry s (map eviction units ++ e ∷ []) ≡ after_reply (fold evicted s units) e.agent e.op e.reply
group-after s units e plain =
    fold-append after_entry s (map eviction units) (e ∷ [])
    ∙ ap (λ t. after_entry t e) (evictions-after s units)
    ∙ ap (after_op (fold evicted s units) e) plain

group-moves : (units : List Text) (e : Entry) → is_wait e.op ≡ false → All (λ x. is_wait x.op ≡ false) (map eviction units ++ e ∷ [])
group-moves [] e moves = All-cons (λ x. is_wait x.op ≡ false) e [] moves (All-nil (λ x. is_wait x.op ≡ false))
group-moves (unit ∷ units) e moves = All-cons (λ x. is_wait x.op ≡ false) (eviction unit) (map eviction units ++ e ∷ []) refl (group-moves units e moves)

fixed-behind : (es fs : List Entry) → All IsFixed (es ++ fs) → All IsFixed fs
fixed-behind [] fs h = h
fixed-behind (e ∷ es) fs h = fixed-behind es fs (All-tail IsFixed e (es ++ fs) h)

lines-of : (units : List Text) (e : Entry) → All IsFixed (map eviction units ++ e ∷ []) → AreLines units
lines-of [] e h = All-nil (λ unit. has_no 10 unit ≡ true)
lines-of (unit ∷ units) e h =
    All-cons (λ unit. has_no 10 unit ≡ true) unit units (All-head IsFixed (eviction unit) (map eviction units ++ e ∷ []) h).line
    (lines-of units e (All-tail IsFixed (eviction unit) (map eviction units ++ e ∷ []) h))

module _ (o : Opening) (order : IsInOrder o) (in_lines : IsInLines o) where
  -- A history goes on with a group.
  longer : (s : State Text Own) (reached : IsReached o s) (units : List Text) (e : Entry) → evicted_by e.op ≡ None → IsCall s units e → LegalFrom (begun o) [] (reached.entries ++ (map eviction units ++ e ∷ []))
  longer s reached units e plain call =
      legal-append (begun o) [] reached.entries (map eviction units ++ e ∷ []) reached.legal
      (subst (λ t. LegalFrom t [] (map eviction units ++ e ∷ [])) reached.present (group-legal s [] units e plain call))

  moves-on : (s : State Text Own) (reached : IsReached o s) (units : List Text) (e : Entry) → is_wait e.op ≡ false → All (λ x. is_wait x.op ≡ false) (reached.entries ++ (map eviction units ++ e ∷ []))
  moves-on s reached units e moves = All-append (λ x. is_wait x.op ≡ false) reached.entries (map eviction units ++ e ∷ []) reached.moves (group-moves units e moves)

  clears-lines : (s : State Text Own) → IsReached o s → ClearsLines s
  clears-lines s reached units e moves call =
      lines-of units e (fixed-behind reached.entries (map eviction units ++ e ∷ [])
      (histories-are-fixed o (reached.entries ++ (map eviction units ++ e ∷ [])) order in_lines (longer s reached units e (plain-call s units e call) call) (moves-on s reached units e moves)))

  reached-on : (s t : State Text Own) → IsReached o s → (units : List Text) (e : Entry) → evicted_by e.op ≡ None → is_wait e.op ≡ false → IsCall s units e
      → t ≡ after_reply (fold evicted s units) e.agent e.op e.reply → IsReached o t
  reached-on s t reached units e plain moves call is = record {
    entries = reached.entries ++ (map eviction units ++ e ∷ []);
    legal = longer s reached units e plain call;
    moves = moves-on s reached units e moves;
    present =
        is
        ∙ sym (group-after s units e plain)
        ∙ ap (λ x. fold after_entry x (map eviction units ++ e ∷ [])) reached.present
        ∙ sym (fold-append after_entry (begun o) reached.entries (map eviction units ++ e ∷ []));
  }

-- What is known after some groups: there is a rest from here exactly where there is one from the start.
pub record Reads (o : Opening) (s t : State Text Own) (before after : List Going) (text rest : Text) : Type 0 where
  pub reached : IsReached o t
  pub on : HasRest s (goings_of before) text → HasRest t (goings_of after) rest
  pub back : HasRest t (goings_of after) rest → HasRest s (goings_of before) text

abbrev pub Reading : State Text Own → List Going → Text → State Text Own → List Going → Text → Type 0
Reading s before text t after rest = (o : Opening) → IsInOrder o → IsInLines o → IsReached o s → Reads o s t before after text rest

pub reading-first : (s : State Text Own) (goings : List Going) (text : Text) → Reading s goings text s goings text
reading-first s goings text o order in_lines reached = record { reached = reached; on = λ h. h; back = λ h. h }

pub reading-next : (s t u : State Text Own) (before after more : List Going) (text rest : Text) (used : ℕ) → Reading s before text t after rest → IsTurn t u after more rest used → Reading s before text u more (drop used rest)
reading-next s t u before after more text rest used h turn o order in_lines reached =
    let now = h o order in_lines reached in
    let turned = turn.turned (clears-lines o order in_lines t now.reached) in
    record {
      reached = reached-on o order in_lines t u now.reached turned.gone turned.entry turned.plain turned.moves turned.call turned.state;
      on = λ left. turn-on t u (goings_of after) (goings_of more) rest (drop used rest) turned (now.on left);
      back = λ left. now.back (turn-back t u (goings_of after) (goings_of more) rest (drop used rest) turned left);
    }

pub reading-stops : (s t : State Text Own) (before after : List Going) (text rest : Text) → Reading s before text t after rest → (rest ≡ [] → ⊥) → (HasTurn t (goings_of after) rest → ⊥) → IsRead s before text false
reading-stops s t before after text rest h some none o order in_lines reached = λ left.
    none (turn-first t (goings_of after) rest ((h o order in_lines reached).on left) some)

-- ---- the end

entry-some : (e : Entry) (es : List Entry) → IsFixed e → text_of (e ∷ es) ≡ [] → ⊥
entry-some e es h is = by-line (line-is e h.moves)
  where
    by-line : Line e → ⊥
    by-line (of_unit unit it) = absurd (no-word (unit ++ 10 ∷ text_of es) (sym (unit-text e unit es it) ∙ is))
      where
        no-word : (x : Text) → codes "evict " ++ x ≡ [] → ⊥
        no-word x h = cc
    by-line (of_call it) = no-text e.agent (46 ∷ (behind_agent e ++ text_of es)) h.few (sym (agent-line e (text_of es)) ∙ sym (call-text e es it) ∙ is)

no-line : (es : List Entry) → All IsFixed es → text_of es ≡ [] → es ≡ []
no-line [] h is = refl
no-line (e ∷ es) h is = absurd (entry-some e es (All-head IsFixed e es h) is)

gone-at : (goings : List Going) (i : ℕ) → list_all is_gone goings ≡ true → going_at goings i ≡ gone
gone-at [] i h = refl
gone-at (gone ∷ goings) zero h = refl
gone-at (stepping hand n steps ∷ goings) zero h = absurd (false≢true h)
gone-at (closing n rows ∷ goings) zero h = absurd (false≢true h)
gone-at (g ∷ goings) (suc i) h = gone-at goings i (and_parts (is_gone g) (list_all is_gone goings) h).1

ended : (g : Going) → IsGoing g [] → is_gone g ≡ true
ended (stepping h n []) run = absurd run
ended (stepping h n (s ∷ steps)) run = absurd run
ended (closing n []) run = absurd run
ended (closing n (r ∷ rows)) run = absurd run
ended gone run = refl

all-ended : (goings : List Going) → ((i : ℕ) → IsGoing (going_at goings i) []) → list_all is_gone goings ≡ true
all-ended [] h = refl
all-ended (g ∷ goings) h = λ i. ended g (h zero) i && all-ended goings (λ j. h (suc j)) i

pub reading-ends : (s t : State Text Own) (before after : List Going) (text rest : Text) (found : Bool) → Reading s before text t after rest → rest ≡ [] → found ≡ list_all is_gone after → IsRead s before text found
reading-ends s t before after text rest found h empty is o order in_lines reached =
    let now = h o order in_lines reached in
    elim found as (λ b. found ≡ b → IsFound s before text b) [
      | true ↦ λ yes_is. now.back (record {
        entries = [];
        rest = record {
          legal = refl;
          runs = λ i. subst (λ g. IsGoing g []) (sym (gone-at after i (sym is ∙ yes_is))) refl;
          fixed = All-nil IsFixed;
          printed = sym empty;
        };
      })
      | false ↦ λ no_is left.
          let there = now.on left in
          let none = no-line there.entries there.rest.fixed (there.rest.printed ∙ empty) in
          false≢true (sym no_is ∙ is ∙ all-ended after (λ i. subst (λ es. IsGoing (going_at after i) (entries_of (suc i) es)) none (there.rest.runs i)))
    ] refl
