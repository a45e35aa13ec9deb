-- A transcript is read group after group.
use Rattle.std.proofs.Common.{◌≡◌, ℕ, suc, ◌==◌, ◌<◌, ◌^◌, true, false, List, [], ◌∷◌, ◌++◌, append_assoc, append-nil, map, fold, codes, decimal, All, Some, None, refl, sym, ap, subst, ◌∙◌, arith}
use Rattle.std.proofs.lemmas.List.Elements.{All-nil, All-cons, All-head, All-tail}
use Rattle.std.proofs.lemmas.Grind.{flat_map-append}
use Rattle.opfs_base.specs.Texts.{Text}
use Rattle.opfs_hist.specs.declared.entry.Entry.{Entry}
use Rattle.opfs_machine.specs.declared.own.Own.{Own}
use Rattle.opfs_machine.specs.declared.state.State.{State}
use Rattle.opfs_machine.specs.Histories.{evicted_by, IsCall, LegalFrom}
use Rattle.opfs_machine.specs.Runs.{eviction}
use Rattle.opfs_machine.specs.Steps.{after_reply, evicted}
use Rattle.opfs_print.specs.Lines.{call_text, line_of, text_of}
use Rattle.opfs_script_run.specs.Runs.Running.{entries_of, is_wait}
use Rattle.opfs_transcripts.specs.Told.Goings.{Going, IsGoing, asked, going_on, moved, has_no, is_line, IsFixed, IsRest}
use Rattle.opfs_transcripts.specs.Told.Turns.{AreLines, TurnedFrom, Turned, HasTurn, front_text, HasFront, HasRest, TextsAreReadInTurns}
use Rattle.opfs_transcripts.proofs.told.Apart.{front-same, same-number, no-letter, no-text}
use Rattle.opfs_transcripts.proofs.told.Fixing.{IsCallLine, Line, of_unit, of_call, line-is, agent-line, behind_agent, unit-line, unit-text, call-text, drop-word, NextIs, rest-evicted, rest-called, rest-asked, same-call, unit-plain}
use Rattle.opfs_transcripts.proofs.told.Goes.{this_call, comes, own-entry, other-entry, nobody-here, from-test}

-- An entry with a line of its own is a call with one.
call-line-is : (e : Entry) → evicted_by e.op ≡ None → is_wait e.op ≡ false → IsCallLine e
call-line-is e plain moves = by-kind (line-is e moves)
  where
    by-kind : Line e → IsCallLine e
    by-kind (of_call is) = is
    by-kind (of_unit unit is) = absurd (none-some (sym plain ∙ ap evicted_by is))
      where
        none-some : {u : Text} → None ≡ Some u → ⊥
        none-some h = cc

-- ---- back

legal-group : (s : State Text Own) (before gone : List Text) (e : Entry) (es : List Entry) → evicted_by e.op ≡ None → IsCall s (before ++ gone) e
    → LegalFrom (after_reply (fold evicted s (before ++ gone)) e.agent e.op e.reply) [] es → LegalFrom s before (map eviction gone ++ e ∷ es)
legal-group s before [] e es plain call rest =
    let same : before ++ [] ≡ before = append-nil before in
    subst (NextIs s before e es) (sym plain)
    (subst (λ g. IsCall s g e) same call, subst (λ g. LegalFrom (after_reply (fold evicted s g) e.agent e.op e.reply) [] es) same rest)
legal-group s before (unit ∷ gone) e es plain call rest =
    let same : before ++ unit ∷ gone ≡ (before ++ unit ∷ []) ++ gone = sym (append_assoc before (unit ∷ []) gone) in (
      record { agent = refl; number = refl; told = refl },
      legal-group s (before ++ unit ∷ []) gone e es plain (subst (λ g. IsCall s g e) same call)
          (subst (λ g. LegalFrom (after_reply (fold evicted s g) e.agent e.op e.reply) [] es) same rest),
    )

entries-group : (k : ℕ) (gone : List Text) (es : List Entry) (i : ℕ) → k ≡ suc i → entries_of k (map eviction gone ++ es) ≡ entries_of k es
entries-group k [] es i is = refl
entries-group k (unit ∷ gone) es i is = other-entry k (eviction unit) (map eviction gone ++ es) (ap (λ k. 0 == k) is ∙ nobody-here i) ∙ entries-group k gone es i is

runs-back : (goings : ℕ → Going) (gone : List Text) (e : Entry) (es : List Entry) → is_wait e.op ≡ false → asked (goings e.agent) ≡ this_call e.number e.op
    → ((i : ℕ) → IsGoing (moved goings e.agent e.reply (suc i)) (entries_of (suc i) es)) → (i : ℕ) → IsGoing (goings (suc i)) (entries_of (suc i) (map eviction gone ++ e ∷ es))
runs-back goings gone e es moves asks runs i =
    subst (IsGoing (goings (suc i))) (sym (entries-group (suc i) gone (e ∷ es) i refl))
    (elim (e.agent == suc i) as (λ b. (e.agent == suc i) ≡ b → IsGoing (elim b [ true ↦ going_on (goings (suc i)) e.reply | false ↦ goings (suc i) ]) (entries_of (suc i) es)
    → IsGoing (goings (suc i)) (entries_of (suc i) (e ∷ es))) [
      | true ↦ λ own rest.
          subst (IsGoing (goings (suc i))) (sym (own-entry (suc i) e es own))
          (comes (goings (suc i)) e (entries_of (suc i) es) moves (sym (ap (λ k. asked (goings k)) (from-test e.agent (suc i) own)) ∙ asks) rest)
      | false ↦ λ other rest. subst (IsGoing (goings (suc i))) (sym (other-entry (suc i) e es other)) rest
    ] refl (runs i))

fixed-group : (gone : List Text) (e : Entry) (es : List Entry) → AreLines gone → IsFixed e → All IsFixed es → All IsFixed (map eviction gone ++ e ∷ es)
fixed-group [] e es lines here rest = All-cons IsFixed e es here rest
fixed-group (unit ∷ gone) e es lines here rest =
    All-cons IsFixed (eviction unit) (map eviction gone ++ e ∷ es)
    (record { moves = refl; few = omega arith; line = All-head (λ unit. has_no 10 unit ≡ true) unit gone lines })
    (fixed-group gone e es (All-tail (λ unit. has_no 10 unit ≡ true) unit gone lines) here rest)

text-group : (gone : List Text) (e : Entry) (es : List Entry) → text_of (map eviction gone ++ e ∷ es) ≡ text_of (map eviction gone ++ e ∷ []) ++ text_of es
text-group gone e es =
    ap text_of (sym (append_assoc (map eviction gone) (e ∷ []) es)) ∙ flat_map-append line_of (map eviction gone ++ e ∷ []) es

plain-line : (e : Entry) → evicted_by e.op ≡ None → is_line (evicted_by e.op) ≡ true
plain-line e plain = ap is_line plain

pub turn-back : (s t : State Text Own) (goings after : ℕ → Going) (text more : Text) → Turned s t goings after text more → HasRest t after more → HasRest s goings text
turn-back s t goings after text more turn left =
    let e = turn.entry in
    let es = left.entries in
    let here : IsFixed e = record { moves = turn.moves; few = turn.few; line = plain-line e turn.plain } in
    record {
      entries = map eviction turn.gone ++ e ∷ es;
      rest = record {
        legal = legal-group s [] turn.gone e es turn.plain turn.call (subst (λ x. LegalFrom x [] es) turn.state left.rest.legal);
        runs = runs-back goings turn.gone e es turn.moves turn.asks (λ i. subst (λ g. IsGoing g (entries_of (suc i) es)) (turn.runs (suc i)) (left.rest.runs i));
        fixed = fixed-group turn.gone e es turn.lines here left.rest.fixed;
        printed = text-group turn.gone e es ∙ ap (λ x. text_of (map eviction turn.gone ++ e ∷ []) ++ x) left.rest.printed ∙ sym turn.begins;
      };
    }

-- ---- on

-- The rest behind a group, whose first evictions are read already.
on-from : (s t : State Text Own) (before gone : List Text) (goings after : ℕ → Going) (text more : Text) (e : Entry) (fs : List Entry)
    → AreLines gone → IsFixed e → IsCallLine e → IsCall s (before ++ gone) e → asked (goings e.agent) ≡ this_call e.number e.op
    → t ≡ after_reply (fold evicted s (before ++ gone)) e.agent e.op e.reply → ((j : ℕ) → after j ≡ moved goings e.agent e.reply j)
    → text ≡ text_of (map eviction gone ++ e ∷ []) ++ more → IsRest s before goings text fs → HasRest t after more
on-from s t before gone goings after text more e [] lines here is call asks state runs begins rest = absurd (no gone (sym begins ∙ sym rest.printed))
  where
    no : (gone : List Text) → text_of (map eviction gone ++ e ∷ []) ++ more ≡ [] → ⊥
    no [] h = no-text e.agent (46 ∷ (behind_agent e ++ more)) here.few (sym (agent-line e more) ∙ sym (ap (λ l. (l ++ []) ++ more) is.line ∙ ap (λ l. l ++ more) (append-nil (call_text e))) ∙ h)
    no (unit ∷ gone) h = cc
on-from s t before [] goings after text more e (f ∷ fs) lines here is call asks state runs begins rest =
    let there = All-head IsFixed f fs rest.fixed in
    let at : text_of (f ∷ fs) ≡ call_text e ++ more = rest.printed ∙ begins ∙ ap (λ l. (l ++ []) ++ more) is.line ∙ ap (λ l. l ++ more) (append-nil (call_text e)) in
    by-line (line-is f there.moves) there at
  where
    by-line : Line f → IsFixed f → text_of (f ∷ fs) ≡ call_text e ++ more → HasRest t after more
    by-line (of_unit unit it) there at =
        absurd (no-letter e.agent 101 (46 ∷ (behind_agent e ++ more)) (codes "vict " ++ (unit ++ 10 ∷ text_of fs)) here.few (omega arith)
        (sym (sym (unit-text f unit fs it) ∙ at ∙ agent-line e more)))
    by-line (of_call it) there at =
        let left = rest-called s before goings text f fs it rest in
        let same : before ++ [] ≡ before = append-nil before in
        let all = same-call s before goings f e (text_of fs) more left.0 (subst (λ g. IsCall s g e) same call) there here (rest-asked s before goings text f fs it rest) asks
        (sym (call-text f fs it) ∙ at) in
        let moved_on : IsRest (after_reply (fold evicted s before) e.agent e.op e.reply) [] (moved goings e.agent e.reply) more fs =
        subst (λ (x : Text × Entry). IsRest (after_reply (fold evicted s before) x.1.agent x.1.op x.1.reply) [] (moved goings x.1.agent x.1.reply) x.0 fs)
        (λ i. (all.more i, record { agent = all.agent i; number = all.number i; op = all.op i; reply = all.reply i; turn = true })) left.1 in
        record {
          entries = fs;
          rest = record {
            legal = subst (λ x. LegalFrom x [] fs) (ap (λ g. after_reply (fold evicted s g) e.agent e.op e.reply) (sym same) ∙ sym state) moved_on.legal;
            runs = λ i. subst (λ g. IsGoing g (entries_of (suc i) fs)) (sym (runs (suc i))) (moved_on.runs i);
            fixed = moved_on.fixed;
            printed = moved_on.printed;
          };
        }
on-from s t before (unit ∷ gone) goings after text more e (f ∷ fs) lines here is call asks state runs begins rest =
    let there = All-head IsFixed f fs rest.fixed in
    let behind = text_of (map eviction gone ++ e ∷ []) ++ more in
    let at : text_of (f ∷ fs) ≡ codes "evict " ++ (unit ++ 10 ∷ behind) =
    rest.printed ∙ begins ∙ append_assoc (codes "evict " ++ (unit ++ codes "\n")) (text_of (map eviction gone ++ e ∷ [])) more ∙ unit-line unit behind in
    by-line (λ text after_one. on-from s t (before ++ unit ∷ []) gone goings after text more e fs (All-tail (λ unit. has_no 10 unit ≡ true) unit gone lines) here is
    (subst (λ g. IsCall s g e) (sym (append_assoc before (unit ∷ []) gone)) call) asks
    (state ∙ ap (λ g. after_reply (fold evicted s g) e.agent e.op e.reply) (sym (append_assoc before (unit ∷ []) gone))) runs after_one)
    (line-is f there.moves) there at
  where
    by-line : ((text : Text) → text ≡ text_of (map eviction gone ++ e ∷ []) ++ more → IsRest s (before ++ unit ∷ []) goings text fs → HasRest t after more)
        → Line f → IsFixed f → text_of (f ∷ fs) ≡ codes "evict " ++ (unit ++ 10 ∷ (text_of (map eviction gone ++ e ∷ []) ++ more)) → HasRest t after more
    by-line again (of_call it) there at =
        absurd (no-letter f.agent 101 (46 ∷ (behind_agent f ++ text_of fs)) (codes "vict " ++ (unit ++ 10 ∷ (text_of (map eviction gone ++ e ∷ []) ++ more))) there.few (omega arith)
        (sym (call-text f fs it ∙ agent-line f (text_of fs)) ∙ at))
    by-line again (of_unit other it) there at =
        let behind = text_of (map eviction gone ++ e ∷ []) ++ more in
        let words = drop-word (other ++ 10 ∷ text_of fs) (unit ++ 10 ∷ behind) (sym (unit-text f other fs it) ∙ at) in
        let both = front-same 10 other unit (text_of fs) behind (unit-plain f other it there) (All-head (λ unit. has_no 10 unit ≡ true) unit gone lines) words in
        let left = rest-evicted s before goings text f fs other it rest in
        again (text_of fs) both.1 (subst (λ u. IsRest s (before ++ u ∷ []) goings (text_of fs) fs) both.0 left.1)

pub turn-on : (s t : State Text Own) (goings after : ℕ → Going) (text more : Text) → Turned s t goings after text more → HasRest s goings text → HasRest t after more
turn-on s t goings after text more turn left =
    on-from s t [] turn.gone goings after text more turn.entry left.entries turn.lines
    (record { moves = turn.moves; few = turn.few; line = plain-line turn.entry turn.plain }) (call-line-is turn.entry turn.plain turn.moves)
    turn.call turn.asks turn.state turn.runs turn.begins left.rest

-- ---- first

-- Some group, where units were cleared for its call already.
record HasTurnFrom (s : State Text Own) (before : List Text) (goings : ℕ → Going) (text : Text) : Type 0 where
  state : State Text Own
  after : ℕ → Going
  more : Text
  turn : TurnedFrom s state before goings after text more

first-from : (s : State Text Own) (before : List Text) (goings : ℕ → Going) (text : Text) (es : List Entry) → IsRest s before goings text es → (es ≡ [] → ⊥) → HasTurnFrom s before goings text
first-from s before goings text [] rest some = absurd (some refl)
first-from s before goings text (e ∷ es) rest some =
    let here = All-head IsFixed e es rest.fixed in
    by-line (λ unit left more_there. first-from s (before ++ unit ∷ []) goings (text_of es) es left more_there) (line-is e here.moves) here
  where
    not-empty : (unit : Text) → before ++ unit ∷ [] ≡ [] → ⊥
    not-empty unit h = no before h
      where
        no : (xs : List Text) → xs ++ unit ∷ [] ≡ [] → ⊥
        no [] h = cc
        no (x ∷ xs) h = cc

    by-line : ((unit : Text) → IsRest s (before ++ unit ∷ []) goings (text_of es) es → (es ≡ [] → ⊥) → HasTurnFrom s (before ++ unit ∷ []) goings (text_of es))
        → Line e → IsFixed e → HasTurnFrom s before goings text
    by-line again (of_unit unit is) here =
        let left = rest-evicted s before goings text e es unit is rest in
        let found = again unit left.1 (λ none. not-empty unit (subst (λ xs. LegalFrom s (before ++ unit ∷ []) xs) none left.1.legal)) in
        let turn = found.turn in
        let same : (before ++ unit ∷ []) ++ turn.gone ≡ before ++ unit ∷ turn.gone = append_assoc before (unit ∷ []) turn.gone in
        record {
          state = found.state;
          after = found.after;
          more = found.more;
          turn = record {
            gone = unit ∷ turn.gone;
            entry = turn.entry;
            lines = All-cons (λ unit. has_no 10 unit ≡ true) unit turn.gone (unit-plain e unit is here) turn.lines;
            few = turn.few;
            plain = turn.plain;
            moves = turn.moves;
            call = subst (λ g. IsCall s g turn.entry) same turn.call;
            asks = turn.asks;
            state = turn.state ∙ ap (λ g. after_reply (fold evicted s g) turn.entry.agent turn.entry.op turn.entry.reply) same;
            runs = turn.runs;
            begins = sym rest.printed ∙ unit-text e unit es is ∙ sym (unit-line unit (text_of es)) ∙ ap (λ x. (codes "evict " ++ (unit ++ codes "\n")) ++ x) turn.begins
                ∙ sym (append_assoc (codes "evict " ++ (unit ++ codes "\n")) (text_of (map eviction turn.gone ++ turn.entry ∷ [])) found.more);
          };
        }
    by-line again (of_call is) here =
        let left = rest-called s before goings text e es is rest in
        let same : before ++ [] ≡ before = append-nil before in
        record {
          state = after_reply (fold evicted s before) e.agent e.op e.reply;
          after = moved goings e.agent e.reply;
          more = text_of es;
          turn = record {
            gone = [];
            entry = e;
            lines = All-nil (λ unit. has_no 10 unit ≡ true);
            few = here.few;
            plain = is.call;
            moves = here.moves;
            call = subst (λ g. IsCall s g e) (sym same) left.0;
            asks = rest-asked s before goings text e es is rest;
            state = ap (λ g. after_reply (fold evicted s g) e.agent e.op e.reply) (sym same);
            runs = λ j. refl;
            begins = sym rest.printed ∙ sym (ap (λ l. l ++ text_of es) (append-nil (line_of e)));
          };
        }

pub turn-first : (s : State Text Own) (goings : ℕ → Going) (text : Text) → HasRest s goings text → (text ≡ [] → ⊥) → HasTurn s goings text
turn-first s goings text left some =
    let found = first-from s [] goings text left.entries left.rest (λ none. some (sym left.rest.printed ∙ ap text_of none)) in
    record { state = found.state; after = found.after; more = found.more; turn = found.turn }

-- ---- fronts

pub turn-front : (s t : State Text Own) (goings after : ℕ → Going) (text more : Text) (turn : Turned s t goings after text more) → HasFront text turn.gone turn.entry.agent
turn-front s t goings after text more turn =
    let e = turn.entry in
    let gone = text_of (map eviction turn.gone) in
    let is = call-line-is e turn.plain turn.moves in
    record {
      rest = behind_agent e ++ more;
      is = turn.begins ∙ ap (λ x. x ++ more) (flat_map-append line_of (map eviction turn.gone) (e ∷ [])) ∙ append_assoc gone (line_of e ++ []) more
          ∙ ap (λ x. gone ++ x) (ap (λ l. (l ++ []) ++ more) is.line ∙ ap (λ l. l ++ more) (append-nil (call_text e)) ∙ agent-line e more);
    }

front-unit : (unit : Text) (units : List Text) (k : ℕ) (x : Text) → front_text (unit ∷ units) k x ≡ codes "evict " ++ (unit ++ 10 ∷ front_text units k x)
front-unit unit units k x = append_assoc (codes "evict " ++ (unit ++ codes "\n")) (text_of (map eviction units)) (decimal k ++ 46 ∷ x) ∙ unit-line unit (front_text units k x)

pub one-front : (units fled : List Text) (k j : ℕ) (x y : Text) → AreLines units → AreLines fled → k < 2 ^ 64 → j < 2 ^ 64 → front_text units k x ≡ front_text fled j y
    → (units ≡ fled) × (k ≡ j) × (x ≡ y)
one-front [] [] k j x y hu hf hk hj e = let both = same-number k j x y hk hj e in (refl, both.0, both.1)
one-front [] (fled ∷ rest) k j x y hu hf hk hj e =
    absurd (no-letter k 101 (46 ∷ x) (codes "vict " ++ (fled ++ 10 ∷ front_text rest j y)) hk (omega arith) (e ∙ front-unit fled rest j y))
one-front (unit ∷ units) [] k j x y hu hf hk hj e =
    absurd (no-letter j 101 (46 ∷ y) (codes "vict " ++ (unit ++ 10 ∷ front_text units k x)) hj (omega arith) (sym e ∙ front-unit unit units k x))
one-front (unit ∷ units) (fled ∷ rest) k j x y hu hf hk hj e =
    let words = drop-word (unit ++ 10 ∷ front_text units k x) (fled ++ 10 ∷ front_text rest j y) (sym (front-unit unit units k x) ∙ e ∙ front-unit fled rest j y) in
    let both = front-same 10 unit fled (front_text units k x) (front_text rest j y)
    (All-head (λ unit. has_no 10 unit ≡ true) unit units hu) (All-head (λ unit. has_no 10 unit ≡ true) fled rest hf) words in
    let more = one-front units rest k j x y (All-tail (λ unit. has_no 10 unit ≡ true) unit units hu) (All-tail (λ unit. has_no 10 unit ≡ true) fled rest hf) hk hj both.1 in
    ((λ i. both.0 i ∷ more.0 i), more.1, more.2)

pub in-turns : TextsAreReadInTurns
in-turns = record {
  on = turn-on;
  back = turn-back;
  first = turn-first;
  front = turn-front;
  one = one-front;
}
