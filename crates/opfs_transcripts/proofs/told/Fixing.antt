-- A transcript fixes the history that it is the text of.
use Rattle.std.proofs.Common.{◌≡◌, ℕ, zero, suc, true, false, List, [], ◌∷◌, ◌++◌, append_assoc, map, fold, codes, decimal, Option, Some, None, IsTrue, refl, sym, ap, subst, ◌∙◌, arith, inl, inr}
use Rattle.std.proofs.lemmas.List.{append_cancel_left}
use Rattle.std.proofs.lemmas.List.Elements.{All-head, All-tail}
use Rattle.opfs_base.specs.Texts.{Text}
use Rattle.opfs_hist.specs.declared.entry.Entry.{Entry}
use Rattle.opfs_hist.specs.declared.op.Op.{Op}
use Rattle.opfs_hist.specs.declared.op.Op.TheVariants as op
use Rattle.opfs_hist.specs.declared.reply.Reply.{Reply}
use Rattle.opfs_hist.specs.declared.reply.Reply.TheVariants as reply
use Rattle.opfs_machine.specs.declared.own.Own.{Own}
use Rattle.opfs_machine.specs.declared.state.State.{State}
use Rattle.opfs_machine.specs.Agents.{agent_of}
use Rattle.opfs_machine.specs.Histories.{evicted_by, Agrees, IsCall, IsEviction, LegalFrom}
use Rattle.opfs_machine.specs.Steps.{after_reply, evicted, step}
use Rattle.opfs_print.specs.Lines.{call_text, line_by, line_of, op_text, reply_text, text_of}
use Rattle.opfs_script_run.specs.Runs.Running.{is_wait}
use Rattle.opfs_transcripts.specs.Told.Goings.{Going, asked, moved, has_no, is_line, IsFixed, IsRest, as_told, TextsFixHistories}
use Rattle.opfs_transcripts.proofs.told.Apart.{front-same, same-number, no-letter, no-text, true-false, tail-same}
use Rattle.opfs_transcripts.proofs.told.CallKinds.{Kind, kind_of, a_wait, an_eviction, an_await, a_call}
use Rattle.opfs_transcripts.proofs.told.Goes.{this_call, number-of, op-of, runs-evicted, runs-moved, run-asked}
use Rattle.opfs_transcripts.proofs.told.Replies.{is_said, step-said, fault-apart}

-- The kinds of entries that have a line: an eviction, or a call with its own line.
pub record IsCallLine (e : Entry) : Type 0 where
  pub line : line_of e ≡ call_text e
  pub call : evicted_by e.op ≡ None

pub data Line : Entry → Type 0 where
  of_unit : {e : Entry} (unit : Text) → e.op ≡ op.Evict unit → Line e
  of_call : {e : Entry} → IsCallLine e → Line e

line-kind : (e : Entry) (o : Op) → Kind o → e.op ≡ o → is_wait o ≡ false → Line e
line-kind e _ (a_wait tag) is moves = absurd (true-false moves)
line-kind e _ (an_eviction unit) is moves = of_unit unit is
line-kind e _ (an_await tag) is moves = of_call (record { line = ap (λ o. line_by o e) is; call = ap evicted_by is })
line-kind e o (a_call t) is moves = of_call (record { line = ap (λ o. line_by o e) is ∙ t.line e; call = ap evicted_by is ∙ t.call })

pub line-is : (e : Entry) → is_wait e.op ≡ false → Line e
line-is e moves = line-kind e e.op (kind_of e.op) refl moves

-- What stands behind a call's agent, its number, and its word.
pub behind_agent : Entry → Text
behind_agent e = decimal e.number ++ (codes " " ++ (op_text e.op ++ (codes " " ++ (reply_text e.reply ++ 10 ∷ []))))

pub agent-line : (e : Entry) (more : Text) → call_text e ++ more ≡ decimal e.agent ++ 46 ∷ (behind_agent e ++ more)
unfolding behind_agent
agent-line e more = append_assoc (decimal e.agent) _ more

pub reply-line : (e : Entry) (more : Text) → behind_agent e ++ more ≡ (decimal e.number ++ (codes " " ++ (op_text e.op ++ codes " "))) ++ (reply_text e.reply ++ 10 ∷ more)
unfolding behind_agent
reply-line e more = simp append_assoc

pub unit-line : (unit more : Text) → (codes "evict " ++ (unit ++ codes "\n")) ++ more ≡ codes "evict " ++ (unit ++ 10 ∷ more)
unit-line unit more = ap (λ t. codes "evict " ++ t) (append_assoc unit (10 ∷ []) more)

pub drop-word : (x y : Text) → codes "evict " ++ x ≡ codes "evict " ++ y → x ≡ y
drop-word x y e = append_cancel_left (codes "evict ") x y e

abbrev pub NextIs : State Text Own → List Text → Entry → List Entry → Option Text → Type 0
NextIs s gone e es (Some unit) = IsEviction unit e × LegalFrom s (gone ++ unit ∷ []) es
NextIs s gone e es None = IsCall s gone e × LegalFrom (after_reply (fold evicted s gone) e.agent e.op e.reply) [] es

pub next-is : (s : State Text Own) (gone : List Text) (e : Entry) (es : List Entry) (told : Option Text) → evicted_by e.op ≡ told → LegalFrom s gone (e ∷ es) → NextIs s gone e es told
next-is s gone e es told is legal = subst (NextIs s gone e es) is legal

-- An agent that may call has a number above 0.
pub agent-above : (s : State Text Own) (k : ℕ) → IsTrue (agent_of s k).live → (i : ℕ) × (k ≡ suc i)
agent-above s zero live = absurd (true-false (sym live))
agent-above s (suc i) live = (i, refl)

-- Two calls after the same evictions that ask the same, and whose replies begin the same text, are answered alike.
same-answer : (s : State Text Own) (gone : List Text) (k : ℕ) (o : Op) (a b : Reply) (x y : Text)
    → Agrees s gone k o a (step s k o) → Agrees s gone k o b (step s k o) → reply_text a ++ x ≡ reply_text b ++ y → a ≡ b
same-answer s gone k o a b x y (inl p) (inl q) e = p.same_reply ∙ sym q.same_reply
same-answer s gone k o a b x y (inr p) (inr q) e = p.told ∙ sym q.told
same-answer s gone k o a b x y (inl p) (inr q) e =
    absurd (fault-apart a x y (ap is_said p.same_reply ∙ step-said s k o q.accepted) (e ∙ ap (λ r. reply_text r ++ y) q.told))
same-answer s gone k o a b x y (inr p) (inl q) e =
    absurd (fault-apart b y x (ap is_said q.same_reply ∙ step-said s k o p.accepted) (sym e ∙ ap (λ r. reply_text r ++ x) p.told))

told-same : (e f : Entry) → e.agent ≡ f.agent → e.number ≡ f.number → e.op ≡ f.op → e.reply ≡ f.reply → as_told e ≡ as_told f
told-same e f a n o r = λ i. record { agent = a i; number = n i; op = o i; reply = r i; turn = true }

-- Two calls that the same rest of a transcript begins with.
pub record AreSame (e f : Entry) (x y : Text) : Type 0 where
  pub agent : e.agent ≡ f.agent
  pub number : e.number ≡ f.number
  pub op : e.op ≡ f.op
  pub reply : e.reply ≡ f.reply
  pub more : x ≡ y

pub same-call : (s : State Text Own) (gone : List Text) (goings : ℕ → Going) (e f : Entry) (x y : Text) → IsCall s gone e → IsCall s gone f → IsFixed e → IsFixed f
    → asked (goings e.agent) ≡ this_call e.number e.op → asked (goings f.agent) ≡ this_call f.number f.op
    → call_text e ++ x ≡ call_text f ++ y → AreSame e f x y
same-call s gone goings e f x y ce cf he hf ae af same =
    let texts = sym (agent-line e x) ∙ same ∙ agent-line f y in
    let agents = same-number e.agent f.agent (behind_agent e ++ x) (behind_agent f ++ y) he.few hf.few texts in
    let asks : this_call e.number e.op ≡ this_call f.number f.op = sym ae ∙ ap (λ k. asked (goings k)) agents.0 ∙ af in
    let numbers = number-of e.number f.number e.op f.op asks in
    let ops = op-of e.number f.number e.op f.op asks in
    let front = decimal f.number ++ (codes " " ++ (op_text f.op ++ codes " ")) in
    let fronts : decimal e.number ++ (codes " " ++ (op_text e.op ++ codes " ")) ≡ front = λ i. decimal (numbers i) ++ (codes " " ++ (op_text (ops i) ++ codes " ")) in
    let behind : front ++ (reply_text e.reply ++ 10 ∷ x) ≡ front ++ (reply_text f.reply ++ 10 ∷ y) =
    sym (ap (λ t. t ++ (reply_text e.reply ++ 10 ∷ x)) fronts) ∙ sym (reply-line e x) ∙ agents.1 ∙ reply-line f y in
    let replies = append_cancel_left front (reply_text e.reply ++ 10 ∷ x) (reply_text f.reply ++ 10 ∷ y) behind in
    let agrees : Agrees s gone f.agent f.op e.reply (step s f.agent f.op) =
    subst (λ (p : ℕ × Op). Agrees s gone p.0 p.1 e.reply (step s p.0 p.1)) (λ i. (agents.0 i, ops i)) ce.agrees in
    let answers = same-answer s gone f.agent f.op e.reply f.reply (10 ∷ x) (10 ∷ y) agrees cf.agrees replies in
    let ends : reply_text f.reply ++ 10 ∷ x ≡ reply_text f.reply ++ 10 ∷ y = sym (ap (λ r. reply_text r ++ 10 ∷ x) answers) ∙ replies in
    record {
      agent = agents.0;
      number = numbers;
      op = ops;
      reply = answers;
      more = tail-same 10 10 x y (append_cancel_left (reply_text f.reply) (10 ∷ x) (10 ∷ y) ends);
    }

-- ---- the rest behind an entry

pub unit-told : (e : Entry) (unit : Text) → e.op ≡ op.Evict unit → line_of e ≡ codes "evict " ++ (unit ++ codes "\n")
unit-told e unit is = ap (λ o. line_by o e) is

-- A text of evictions and calls behind one of a unit.
pub unit-text : (e : Entry) (unit : Text) (es : List Entry) → e.op ≡ op.Evict unit → text_of (e ∷ es) ≡ codes "evict " ++ (unit ++ 10 ∷ text_of es)
unit-text e unit es is = ap (λ l. l ++ text_of es) (unit-told e unit is) ∙ unit-line unit (text_of es)

pub call-text : (e : Entry) (es : List Entry) → IsCallLine e → text_of (e ∷ es) ≡ call_text e ++ text_of es
call-text e es is = ap (λ l. l ++ text_of es) is.line

-- The rest behind an eviction.
pub rest-evicted : (s : State Text Own) (before : List Text) (goings : ℕ → Going) (text : Text) (e : Entry) (es : List Entry) (unit : Text) → e.op ≡ op.Evict unit
    → IsRest s before goings text (e ∷ es) → IsEviction unit e × IsRest s (before ++ unit ∷ []) goings (text_of es) es
rest-evicted s before goings text e es unit is rest =
    let next = next-is s before e es (Some unit) (ap evicted_by is) rest.legal in (
      next.0,
      record {
        legal = next.1;
        runs = runs-evicted goings e es next.0.agent rest.runs;
        fixed = All-tail IsFixed e es rest.fixed;
        printed = refl;
      },
    )

-- The rest behind a call.
pub rest-called : (s : State Text Own) (before : List Text) (goings : ℕ → Going) (text : Text) (e : Entry) (es : List Entry) → IsCallLine e
    → IsRest s before goings text (e ∷ es)
    → IsCall s before e × IsRest (after_reply (fold evicted s before) e.agent e.op e.reply) [] (moved goings e.agent e.reply) (text_of es) es
rest-called s before goings text e es is rest =
    let next = next-is s before e es None is.call rest.legal in
    let fixed = All-head IsFixed e es rest.fixed in (
      next.0,
      record {
        legal = next.1;
        runs = runs-moved goings e es fixed.moves rest.runs;
        fixed = All-tail IsFixed e es rest.fixed;
        printed = refl;
      },
    )

pub rest-asked : (s : State Text Own) (before : List Text) (goings : ℕ → Going) (text : Text) (e : Entry) (es : List Entry) → IsCallLine e
    → IsRest s before goings text (e ∷ es) → asked (goings e.agent) ≡ this_call e.number e.op
rest-asked s before goings text e es is rest =
    let next = next-is s before e es None is.call rest.legal in
    let fixed = All-head IsFixed e es rest.fixed in
    let above = agent-above s e.agent next.0.live in
    run-asked goings e es above.0 above.1 fixed.moves rest.runs

pub with-text : (s : State Text Own) (before : List Text) (goings : ℕ → Going) (a b : Text) (es : List Entry) → a ≡ b → IsRest s before goings a es → IsRest s before goings b es
with-text s before goings a b es is rest = subst (λ t. IsRest s before goings t es) is rest

pub some-line : (e : Entry) (es : List Entry) → Line e → IsFixed e → text_of (e ∷ es) ≡ [] → ⊥
some-line e es (of_unit unit is) fixed none = no (sym (unit-text e unit es is) ∙ none)
  where
    no : codes "evict " ++ (unit ++ 10 ∷ text_of es) ≡ [] → ⊥
    no h = cc
some-line e es (of_call is) fixed none = no-text e.agent (46 ∷ (behind_agent e ++ text_of es)) fixed.few (sym (agent-line e (text_of es)) ∙ sym (call-text e es is) ∙ none)

-- An eviction is told from a call by its first letter.
pub unit-no-call : (e f : Entry) (es fs : List Entry) (unit : Text) → e.op ≡ op.Evict unit → IsCallLine f → IsFixed f → text_of (e ∷ es) ≡ text_of (f ∷ fs) → ⊥
unit-no-call e f es fs unit is call fixed same =
    no-letter f.agent 101 (46 ∷ (behind_agent f ++ text_of fs)) (codes "vict " ++ (unit ++ 10 ∷ text_of es)) fixed.few (omega arith)
    (sym (sym (unit-text e unit es is) ∙ same ∙ call-text f fs call ∙ agent-line f (text_of fs)))

units-same : (e f : Entry) (unit other : Text) → e.op ≡ op.Evict unit → f.op ≡ op.Evict other → IsEviction unit e → IsEviction other f → unit ≡ other → as_told e ≡ as_told f
units-same e f unit other is it he hf same =
    told-same e f (he.agent ∙ sym hf.agent) (he.number ∙ sym hf.number) (is ∙ ap op.Evict same ∙ sym it) (he.told ∙ ap reply.Gone same ∙ sym hf.told)

pub unit-plain : (e : Entry) (unit : Text) → e.op ≡ op.Evict unit → IsFixed e → has_no 10 unit ≡ true
unit-plain e unit is fixed = sym (ap (λ o. is_line (evicted_by o)) is) ∙ fixed.line

-- Two entries that the same rest begins with, and what is behind them.
by-lines : (s : State Text Own) (before : List Text) (goings : ℕ → Going) (text : Text) (e f : Entry) (es fs : List Entry)
    → ((s : State Text Own) (before : List Text) (goings : ℕ → Going) (text : Text) → IsRest s before goings text es → IsRest s before goings text fs → map as_told es ≡ map as_told fs)
    → IsRest s before goings text (e ∷ es) → IsRest s before goings text (f ∷ fs)
    → Line e → Line f → IsFixed e → IsFixed f → text_of (e ∷ es) ≡ text_of (f ∷ fs) → map as_told (e ∷ es) ≡ map as_told (f ∷ fs)
by-lines s before goings text e f es fs again a b (of_unit unit is) (of_unit other it) he hf same =
    let behind = drop-word (unit ++ 10 ∷ text_of es) (other ++ 10 ∷ text_of fs) (sym (unit-text e unit es is) ∙ same ∙ unit-text f other fs it) in
    let both = front-same 10 unit other (text_of es) (text_of fs) (unit-plain e unit is he) (unit-plain f other it hf) behind in
    let left = rest-evicted s before goings text e es unit is a in
    let right = rest-evicted s before goings text f fs other it b in
    let right_too : IsRest s (before ++ unit ∷ []) goings (text_of es) fs =
    subst (λ u. IsRest s (before ++ u ∷ []) goings (text_of es) fs) (sym both.0) (with-text s (before ++ other ∷ []) goings (text_of fs) (text_of es) fs (sym both.1) right.1) in
    let first = units-same e f unit other is it left.0 right.0 both.0 in
    let rest = again s (before ++ unit ∷ []) goings (text_of es) left.1 right_too in
    λ i. first i ∷ rest i
by-lines s before goings text e f es fs again a b (of_unit unit is) (of_call it) he hf same = absurd (unit-no-call e f es fs unit is it hf same)
by-lines s before goings text e f es fs again a b (of_call is) (of_unit other it) he hf same = absurd (unit-no-call f e fs es other it is he (sym same))
by-lines s before goings text e f es fs again a b (of_call is) (of_call it) he hf same =
    let left = rest-called s before goings text e es is a in
    let right = rest-called s before goings text f fs it b in
    let all = same-call s before goings e f (text_of es) (text_of fs) left.0 right.0 he hf (rest-asked s before goings text e es is a) (rest-asked s before goings text f fs it b)
    (sym (call-text e es is) ∙ same ∙ call-text f fs it) in
    let right_too : IsRest (after_reply (fold evicted s before) e.agent e.op e.reply) [] (moved goings e.agent e.reply) (text_of es) fs =
    subst (λ (x : Text × Entry). IsRest (after_reply (fold evicted s before) x.1.agent x.1.op x.1.reply) [] (moved goings x.1.agent x.1.reply) x.0 fs)
    (λ i. (sym all.more i, record { agent = sym all.agent i; number = sym all.number i; op = sym all.op i; reply = sym all.reply i; turn = true })) right.1 in
    let first = told-same e f all.agent all.number all.op all.reply in
    let rest = again (after_reply (fold evicted s before) e.agent e.op e.reply) [] (moved goings e.agent e.reply) (text_of es) left.1 right_too in
    λ i. first i ∷ rest i

-- One text is that of one history alone.
pub texts-fix : TextsFixHistories
texts-fix s before goings text [] [] a b = refl
texts-fix s before goings text [] (f ∷ fs) a b =
    let fixed = All-head IsFixed f fs b.fixed in
    absurd (some-line f fs (line-is f fixed.moves) fixed (b.printed ∙ sym a.printed))
texts-fix s before goings text (e ∷ es) [] a b =
    let fixed = All-head IsFixed e es a.fixed in
    absurd (some-line e es (line-is e fixed.moves) fixed (a.printed ∙ sym b.printed))
texts-fix s before goings text (e ∷ es) (f ∷ fs) a b =
    let he = All-head IsFixed e es a.fixed in
    let hf = All-head IsFixed f fs b.fixed in
    by-lines s before goings text e f es fs (λ s before goings text. texts-fix s before goings text es fs) a b (line-is e he.moves) (line-is f hf.moves) he hf (a.printed ∙ sym b.printed)
