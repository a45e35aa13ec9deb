-- One group of a transcript, read or not there.
use Rattle.std.proofs.Common.{◌≡◌, ◌+◌, ◌<◌, ◌≤◌, ◌-◌, ◌^◌, ◌==◌, ℕ, zero, suc, Bool, true, false, List, [], ◌∷◌, ◌++◌, drop, take, length, append-nil, map, decimal, slice_get, slice_set, Option, Some, None, IfSome, is_some, refl, sym, ap, ◌∙◌, subst, arith}
use Rattle.std.proofs.Math.Seq.{drop-append_seam}
use Rattle.std.proofs.lemmas.Bool.{false≢true}
use Rattle.std.proofs.lemmas.Bool.Decides.{nat_tests}
use Rattle.std.proofs.lemmas.Grind.{flat_map-append}
use Rattle.std.proofs.lemmas.List.{length-append, length-set}
use Rattle.opfs_base.specs.Texts.{Text}
use Rattle.opfs_hist.specs.declared.entry.Entry.{Entry}
use Rattle.opfs_hist.specs.declared.op.Op.{Op}
use Rattle.opfs_hist.specs.declared.reply.Reply.{Reply}
use Rattle.opfs_machine.specs.declared.own.Own.{Own}
use Rattle.opfs_machine.specs.declared.state.State.{State}
use Rattle.opfs_machine.specs.Agents.{agent_of}
use Rattle.opfs_machine.specs.Histories.{may_enter, Agrees, IsCall}
use Rattle.opfs_machine.specs.Runs.{Call, eviction}
use Rattle.opfs_machine.specs.Steps.{step}
use Rattle.opfs_print.specs.Lines.{call_text, line_of, text_of}
use Rattle.opfs_script_run.specs.Runs.Running.{is_wait}
use Rattle.opfs_transcripts.specs.Told.Goings.{Going, asked, going_on, gone, moved}
use Rattle.opfs_transcripts.specs.Told.Reading.{begins}
use Rattle.opfs_transcripts.specs.Told.Turns.{HasTurn}
use Rattle.opfs_transcripts.proofs.told.Apart.{number-first}
use Rattle.opfs_transcripts.proofs.told.Goes.{from-test}
use Rattle.opfs_judge.specs.declared.asking.Asking.{Asking}
use Rattle.opfs_judge.specs.Asking.{IsAsking, IsAskedBy}
use Rattle.opfs_judge.specs.Players.{going_at, goings_of}
use Rattle.opfs_judge.specs.Turns.{IsEnteredAs, IsGroup, IsToldCall, IsToldGroup, IsTurn, call_asked, entry_with}
use Rattle.opfs_judge.proofs.Calling.{rest-is}
use Rattle.opfs_judge.proofs.Entering.{call-line-is, not-evict}
use Rattle.opfs_judge.proofs.Texts.{begins-front, begins-true}

-- A text that begins with another goes on behind it.
pub goes-on : (front text : Text) → begins front text ≡ true → text ≡ front ++ drop (length front) text
goes-on front text begun =
    let found = begins-true front text begun in
    found.1 ∙ ap (λ x. front ++ x) (sym (drop-append_seam front found.0)) ∙ ap (λ t. front ++ drop (length front) t) (sym found.1)

last-at : (xs : List Entry) (e : Entry) → slice_get (xs ++ e ∷ []) (length xs) ≡ Some e
last-at [] e = refl
last-at (x ∷ xs) e = last-at xs e

last-is : (xs : List Entry) (e : Entry) → slice_get (xs ++ e ∷ []) (length (xs ++ e ∷ []) - 1) ≡ Some e
last-is xs e =
    let long = length-append xs (e ∷ []) in
    let place : length (xs ++ e ∷ []) - 1 ≡ length xs = omega (arith, long) in
    ap (slice_get (xs ++ e ∷ [])) place ∙ last-at xs e

inside-entry : (a b : Entry) → Some a ≡ Some b → a ≡ b
inside-entry a b h = cc

-- The last entry of what was entered is that of the call.
last-answer : (s t : State Text Own) (c : Call) (group : List Entry) (last : Entry) (done : IsEnteredAs s t c group) → Some last ≡ slice_get group (length group - 1) → last ≡ entry_with c done.answered
last-answer s t c group last done is =
    inside-entry last (entry_with c done.answered) (is ∙ (λ i. slice_get (done.told i) (length (done.told i) - 1)) ∙ last-is (map eviction done.gone) (entry_with c done.answered))

-- A group that was entered, and stands in front of a text.
pub group-entered : (s t : State Text Own) (before after : List Going) (c : Call) (index : ℕ) (group : List Entry) (text printed : Text) (used : ℕ) (last : Entry)
    → IsEnteredAs s t c group → printed ≡ text_of group → begins printed text ≡ true → used ≡ length printed → Some last ≡ slice_get group (length group - 1) → after ≡ slice_set before index (going_on (going_at before index) last.reply)
    → IsGroup s t before after c index text used
group-entered s t before after c index group text printed used last done is begun long place run =
    let same : printed ≡ text_of (map eviction done.gone ++ entry_with c done.answered ∷ []) = is ∙ ap text_of done.told in
    record {
      gone = done.gone;
      answered = done.answered;
      call = done.call;
      state = done.state;
      begins = goes-on printed text begun ∙ (λ i. same i ++ drop (sym long i) text);
      long = long ∙ ap length same;
      run = run ∙ ap (λ (e : Entry). slice_set before index (going_on (going_at before index) e.reply)) (last-answer s t c group last done place);
    }

-- A text that tells of a group begins with what was entered for it.
pub group-told : (s : State Text Own) (c : Call) (evictions front : ℕ) (text printed : Text) (group : List Entry) → (told : IsToldGroup s c evictions front text)
    → group ≡ map eviction told.told.gone ++ entry_with c told.told.answered ∷ [] → printed ≡ text_of group → begins printed text ≡ true
group-told s c evictions front text printed group told is same =
    ap (begins printed) told.begins ∙ (λ i. begins ((same ∙ ap text_of is) i) (text_of (map eviction told.told.gone ++ entry_with c told.told.answered ∷ []) ++ told.told.more))
    ∙ begins-front (text_of (map eviction told.told.gone ++ entry_with c told.told.answered ∷ [])) told.told.more

-- A call that is told of, of the text behind the evictions.
abbrev pub told-in : (s : State Text Own) (c : Call) (evictions front : ℕ) (text : Text) → IsToldGroup s c evictions front text → IsToldCall s c evictions (take (length text - front) (drop front text))
told-in s c evictions front text told = record {
  gone = told.told.gone;
  many = told.told.many;
  answered = told.told.answered;
  more = told.told.more;
  call = told.told.call;
  begins = rest-is text front ∙ told.told.begins;
}

-- ---- turns

-- What an agent's run asks, as a call with its own answer.
asked-call : (s : State Text Own) (goings : ℕ → Going) (text : Text) (h : HasTurn s goings text) (a : Asking) → h.turn.entry.agent ≡ a.index + 1 → h.turn.entry.op ≡ a.op
    → IsCall s h.turn.gone (entry_with (call_asked a) h.turn.entry.reply)
asked-call s goings text h a agent called = record {
  live = ap (λ k. (agent_of s k).live) (sym agent) ∙ h.turn.call.live;
  fitting = (λ i. may_enter s (sym agent i) (sym called i)) ∙ h.turn.call.fitting;
  agrees = subst (λ (x : ℕ × Op). Agrees s h.turn.gone x.0 x.1 h.turn.entry.reply (step s x.0 x.1)) (λ i. (agent i, called i)) h.turn.call.agrees;
}

pub turn-told : (s : State Text Own) (goings : ℕ → Going) (text : Text) (h : HasTurn s goings text) (found : Option Asking) (a : Asking) → IsAskedBy text h found → found ≡ Some a → is_wait a.op ≡ false → may_enter s (a.index + 1) a.op ≡ true
    → IsToldGroup s (call_asked a) a.evictions a.front text
turn-told s goings text h found a by is moves fitting =
    let e = h.turn.entry in
    let same : by.asking ≡ a = some-same by.asking a (sym by.is ∙ is) in
    let agent : e.agent ≡ a.index + 1 = by.agent ∙ ap (λ (x : Asking). x.index + 1) same in
    let number : e.number ≡ a.number = by.number ∙ ap (λ (x : Asking). x.number) same in
    let called : e.op ≡ a.op = by.op ∙ ap (λ (x : Asking). x.op) same in
    let line : line_of e ≡ line_of (entry_with (call_asked a) e.reply) =
    call-line-is e h.turn.plain h.turn.moves ∙ (λ i. call_text (record { agent = agent i; number = number i; op = called i; reply = e.reply; turn = true }))
    ∙ sym (call-line-is (entry_with (call_asked a) e.reply) (not-evict s (a.index + 1) a.op fitting) moves) in
    record {
      told = record {
        gone = h.turn.gone;
        many = by.evictions ∙ ap (λ (x : Asking). x.evictions) same;
        answered = e.reply;
        more = h.more;
        call = asked-call s goings text h a agent called;
        begins = ap (λ (x : Asking). drop x.front text) (sym same) ∙ by.told ∙ ap (λ l. l ++ h.more) line;
      };
      begins =
          h.turn.begins
          ∙ ap (λ x. x ++ h.more) (flat_map-append line_of (map eviction h.turn.gone) (e ∷ []))
          ∙ (λ i. (text_of (map eviction h.turn.gone) ++ (line i ++ [])) ++ h.more)
          ∙ ap (λ x. x ++ h.more) (sym (flat_map-append line_of (map eviction h.turn.gone) (entry_with (call_asked a) e.reply ∷ [])));
    }
  where
    some-same : (x y : Asking) → Some x ≡ Some y → x ≡ y
    some-same x y h = cc

none-asked : (a : Asking) → None ≡ Some a → ⊥
none-asked a h = cc

pub asked-none : (s : State Text Own) (goings : ℕ → Going) (text : Text) (h : HasTurn s goings text) (found : Option Asking) → IsAskedBy text h found → found ≡ None → ⊥
asked-none s goings text h found by is = none-asked by.asking (sym is ∙ by.is)

some-found : (s : State Text Own) (gs : List Going) (text : Text) (a : Asking) (found : Option Asking) → found ≡ Some a → IfSome found (IsAsking s gs text) → IsAsking s gs text a
some-found s gs text a found is are = subst (λ o. IfSome o (IsAsking s gs text)) is are

pub told-again : (s : State Text Own) (gs hs : List Going) (text : Text) (found : Option Asking) → gs ≡ hs → ((h : HasTurn s (goings_of gs) text) → IsAskedBy text h found)
    → (h : HasTurn s (goings_of hs) text) → IsAskedBy text h found
told-again s gs hs text found same told = subst (λ xs. (h : HasTurn s (goings_of xs) text) → IsAskedBy text h found) same told

-- The runs after one agent's run goes on.
same-test : (i j : ℕ) → (i == j) ≡ (suc i == suc j)
same-test i j = grind (arith, nat_tests)

other-test : (j : ℕ) → (0 == suc j) ≡ false
other-test j = grind (arith, nat_tests)

first-test : (j : ℕ) → (suc j == 0) ≡ false
first-test j = grind (arith, nat_tests)

abbrev set_by : List Going → Going → ℕ → Bool → Going
set_by gs g j b = elim b [ true ↦ g | false ↦ going_at gs j ]

going-set : (gs : List Going) (i j : ℕ) (g : Going) → i < length gs → going_at (slice_set gs i g) j ≡ set_by gs g j (i == j)
going-set [] i j g h = absurd (omega (arith, h))
going-set (x ∷ gs) zero zero g h = refl
going-set (x ∷ gs) zero (suc j) g h = sym (ap (set_by (x ∷ gs) g (suc j)) (other-test j))
going-set (x ∷ gs) (suc i) zero g h = sym (ap (set_by (x ∷ gs) g zero) (first-test i))
going-set (x ∷ gs) (suc i) (suc j) g h = going-set gs i j g (omega (arith, h)) ∙ ap (set_by gs g j) (same-test i j)

runs-set : (gs : List Going) (i : ℕ) (answered : Reply) → i < length gs → (j : ℕ) → goings_of (slice_set gs i (going_on (going_at gs i) answered)) j ≡ moved (goings_of gs) (i + 1) answered j
runs-set gs i answered h zero = sym (ap (λ b. elim b [ true ↦ going_on gone answered | false ↦ gone ]) (first-is i))
  where
    first-is : (i : ℕ) → (i + 1 == 0) ≡ false
    first-is i = grind (arith, nat_tests)
runs-set gs i answered h (suc j) =
    going-set gs i j (going_on (going_at gs i) answered) h
    ∙ (elim (i == j) as (λ b. (i == j) ≡ b → set_by gs (going_on (going_at gs i) answered) j b ≡ elim b [ true ↦ going_on (going_at gs j) answered | false ↦ going_at gs j ]) [
      | true ↦ λ is. ap (λ k. going_on (going_at gs k) answered) (from-test i j is)
      | false ↦ λ is. refl
    ] refl)
    ∙ ap (λ b. elim b [ true ↦ going_on (going_at gs j) answered | false ↦ going_at gs j ]) (next-is i j)
  where
    next-is : (i j : ℕ) → (i == j) ≡ (i + 1 == suc j)
    next-is i j = grind (arith, nat_tests)

goings-next : (gs : List Going) (i : ℕ) → goings_of gs (i + 1) ≡ going_at gs i
goings-next gs i = let next : i + 1 ≡ suc i = omega arith in ap (goings_of gs) next

-- A line has a byte.
line-some : (k : ℕ) (x : Text) → k < 2 ^ 64 → 0 < length (decimal k ++ x)
line-some k x few = let first = number-first k few in subst (λ t. 0 < length (t ++ x)) (sym first.is) (omega arith)

group-some : (units : List Text) (e : Entry) → line_of e ≡ call_text e → e.agent < 2 ^ 64 → 0 < length (text_of (map eviction units ++ e ∷ []))
group-some units e line few =
    let whole = ap length (flat_map-append line_of (map eviction units) (e ∷ [])) in
    let parts = length-append (text_of (map eviction units)) (line_of e ++ []) in
    let some : 0 < length (line_of e ++ []) = subst (λ l. 0 < length (l ++ [])) (sym line) (subst (λ l. 0 < length l) (sym (append-nil (call_text e))) (line-some e.agent _ few)) in
    omega (arith, whole, parts, some)

pub group-turned : (s t : State Text Own) (before after : List Going) (a : Asking) (text : Text) (used : ℕ) → a.index < length before → a.index < 64 → may_enter s (a.index + 1) a.op ≡ true → is_wait a.op ≡ false
    → asked (going_at before a.index) ≡ Some (a.number, a.op) → IsGroup s t before after (call_asked a) a.index text used → IsTurn s t before after text used
group-turned s t before after a text used inside small fitting moves asks g =
    let e = entry_with (call_asked a) g.answered in
    let plain = not-evict s (a.index + 1) a.op fitting in
    let few : a.index + 1 < 2 ^ 64 = omega (arith, small) in
    let long = g.long in
    let some = group-some g.gone e (call-line-is e plain moves) few in
    let whole = ap length g.begins in
    let parts = length-append (text_of (map eviction g.gone ++ e ∷ [])) (drop used text) in
    record {
      some = omega (arith, long, some);
      within = omega (arith, long, whole, parts);
      turned = λ clears. record {
        gone = g.gone;
        entry = e;
        lines = clears g.gone e moves g.call;
        few = few;
        plain = plain;
        moves = moves;
        call = g.call;
        asks = ap asked (goings-next before a.index) ∙ asks;
        state = g.state;
        runs = λ j. ap (λ xs. goings_of xs j) g.run ∙ runs-set before a.index g.answered inside j;
        begins = g.begins;
      };
      many = ap length g.run ∙ length-set before a.index (going_on (going_at before a.index) g.answered);
    }

-- The same of an answer.
pub turned-by : (s t : State Text Own) (before after seen : List Going) (a : Asking) (text : Text) (found : Option Asking) (used : Option ℕ) → seen ≡ before → length before ≤ 64 → found ≡ Some a
    → IfSome found (IsAsking s seen text) → IfSome used (IsGroup s t before after (call_asked a) a.index text) → IfSome used (IsTurn s t before after text)
turned-by s t before after seen a text found None same few is are g = tt
turned-by s t before after seen a text found (Some used) same few is are g =
    let asking : IsAsking s before text a = subst (λ gs. IsAsking s gs text a) same (some-found s seen text a found is are) in
    let inside = asking.within in
    group-turned s t before after a text used inside (omega (arith, inside, few)) asking.fitting asking.moves asking.asks g

pub none-by : (s : State Text Own) (before seen : List Going) (a : Asking) (text : Text) (found : Option Asking) (used : Option ℕ) → seen ≡ before → found ≡ Some a
    → IfSome found (IsAsking s seen text) → ((h : HasTurn s (goings_of seen) text) → IsAskedBy text h found)
    → ((told : IsToldGroup s (call_asked a) a.evictions a.front text) → is_some used ≡ true) → used ≡ None → HasTurn s (goings_of before) text → ⊥
none-by s before seen a text found used same is are asked_by told none h =
    let asking = some-found s seen text a found is are in
    false≢true (sym (ap is_some none) ∙ told (turn-told s (goings_of before) text h found a (told-again s seen before text found same asked_by h) is asking.moves asking.fitting))
