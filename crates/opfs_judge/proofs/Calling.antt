-- Which call a transcript's front is of.
use Rattle.std.proofs.Common.{◌≡◌, ◌+◌, ◌<◌, ◌≤◌, ◌^◌, ◌==◌, ◌-◌, ◌&&◌, ℕ, zero, suc, Bool, true, false, not, List, [], ◌∷◌, ◌++◌, append_assoc, append-nil, drop, take, length, map, decimal, get_or, None, sym, ap, ◌∙◌, arith}
use Rattle.std.proofs.Math.Seq.{drop-append_seam}
use Rattle.std.proofs.lemmas.Bool.Decides.{nat_tests}
use Rattle.std.proofs.lemmas.Bool.{false≢true, and_parts}
use Rattle.std.proofs.lemmas.List.{length-drop, take_all}
use Rattle.std.proofs.lemmas.Grind.{flat_map-append}
use Rattle.opfs_base.specs.Texts.{Text}
use Rattle.opfs_hist.specs.declared.op.Op.{Op}
use Rattle.opfs_machine.specs.declared.own.Own.{Own}
use Rattle.opfs_machine.specs.declared.state.State.{State}
use Rattle.opfs_machine.specs.Agents.{agent_of}
use Rattle.opfs_machine.specs.Histories.{may_enter}
use Rattle.opfs_machine.specs.Runs.{eviction}
use Rattle.opfs_print.specs.Lines.{line_of, text_of}
use Rattle.opfs_transcripts.specs.Told.Goings.{Going, asked}
use Rattle.opfs_transcripts.specs.Told.Reading.{begins}
use Rattle.opfs_transcripts.specs.Told.Turns.{HasTurn}
use Rattle.opfs_transcripts.proofs.told.Apart.{number-first, same-number}
use Rattle.opfs_transcripts.proofs.told.Goes.{this_call}
use Rattle.opfs_transcripts.proofs.told.Turning.{turn-front}
use Rattle.opfs_judge.specs.Agents.{AreFronts, front_of}
use Rattle.opfs_judge.specs.Fronts.{is_other, IsScanned}
use Rattle.opfs_judge.specs.Players.{going_at, goings_of}
use Rattle.opfs_judge.proofs.Texts.{begins-front, begins-true}

-- Whose run asks for a call is one of the agents.
pub record Seated (gs : List Going) (k n : ℕ) (o : Op) : Type 0 where
  pub index : ℕ
  pub is : k ≡ index + 1
  pub within : index < length gs
  pub asks : asked (going_at gs index) ≡ this_call n o

pub none-call : (n : ℕ) (o : Op) → None ≡ this_call n o → ⊥
none-call n o h = cc

seated-at : (gs : List Going) (i n : ℕ) (o : Op) → asked (going_at gs i) ≡ this_call n o → i < length gs
seated-at [] i n o h = absurd (none-call n o h)
seated-at (g ∷ gs) zero n o h = omega arith
seated-at (g ∷ gs) (suc i) n o h = let more = seated-at gs i n o h in omega (arith, more)

pub seated : (gs : List Going) (k n : ℕ) (o : Op) → asked (goings_of gs k) ≡ this_call n o → Seated gs k n o
seated gs zero n o h = absurd (none-call n o h)
seated gs (suc i) n o h = record { index = i; is = omega arith; within = seated-at gs i n o h; asks = h }

digit-other : (d : ℕ) → 48 ≤ d → d ≤ 57 → not (d == 101) ≡ true
digit-other d low high = grind (arith, nat_tests)

number-other : (k : ℕ) (x : Text) → k < 2 ^ 64 → is_other (decimal k ++ x) ≡ true
number-other k x few =
    let first = number-first k few in
    ap (λ t. is_other (t ++ x)) first.is ∙ digit-other first.digit first.low first.high

-- What stands behind the evictions.
pub record Behind {s : State Text Own} {goings : ℕ → Going} (text : Text) (h : HasTurn s goings text) (found : ℕ × ℕ) : Type 0 where
  pub rest : Text
  pub many : found.0 ≡ length h.turn.gone
  pub number : drop found.1 text ≡ decimal h.turn.entry.agent ++ 46 ∷ rest
  pub line : drop found.1 text ≡ line_of h.turn.entry ++ h.more

pub behind : (s : State Text Own) (goings : ℕ → Going) (text : Text) (h : HasTurn s goings text) (found : ℕ × ℕ) → IsScanned text found → Behind text h found
behind s goings text h found scanned =
    let e = h.turn.entry in
    let evictions = text_of (map eviction h.turn.gone) in
    let front = turn-front s h.state goings h.after text h.more h.turn in
    let other = number-other e.agent (46 ∷ front.rest) h.turn.few in
    let pair = scanned h.turn.gone (decimal e.agent ++ 46 ∷ front.rest) h.turn.lines other front.is in
    let bytes : found.1 ≡ length evictions = ap (λ (p : ℕ × ℕ). p.1) pair in
    let whole : text ≡ evictions ++ (line_of e ++ h.more) =
    h.turn.begins
    ∙ ap (λ x. x ++ h.more) (flat_map-append line_of (map eviction h.turn.gone) (e ∷ []))
    ∙ append_assoc evictions (line_of e ++ []) h.more
    ∙ ap (λ l. evictions ++ (l ++ h.more)) (append-nil (line_of e)) in
    record {
      rest = front.rest;
      many = ap (λ (p : ℕ × ℕ). p.0) pair;
      number = (λ i. drop (bytes i) (front.is i)) ∙ drop-append_seam evictions (decimal e.agent ++ 46 ∷ front.rest);
      line = (λ i. drop (bytes i) (whole i)) ∙ drop-append_seam evictions (line_of e ++ h.more);
    }

-- The front of an agent's number begins it, and no other does.
number-begins : (k : ℕ) (x : Text) → begins (front_of k) (decimal k ++ 46 ∷ x) ≡ true
number-begins k x = ap (begins (front_of k)) (sym (append_assoc (decimal k) (46 ∷ []) x)) ∙ begins-front (front_of k) x

number-one : (k j : ℕ) (x : Text) → k < 2 ^ 64 → j < 2 ^ 64 → begins (front_of j) (decimal k ++ 46 ∷ x) ≡ true → k ≡ j
number-one k j x hk hj begun =
    let found = begins-true (front_of j) (decimal k ++ 46 ∷ x) begun in
    (same-number k j x found.0 hk hj (found.1 ∙ append_assoc (decimal j) (46 ∷ []) found.0)).0

module _ (s : State Text Own) (gs : List Going) (text : Text) (fronts : List Text) (found : ℕ × ℕ) (are : AreFronts (length gs) fronts) (few : length gs ≤ 64) (scanned : IsScanned text found) where
  pub no-caller : HasTurn s (goings_of gs) text → ((index : ℕ) → index < length fronts → begins (get_or fronts index []) (drop found.1 text) ≡ false) → ⊥
  no-caller h none =
      let e = h.turn.entry in
      let at = behind s (goings_of gs) text h found scanned in
      let seat = seated gs e.agent e.number e.op h.turn.asks in
      let many = are.many in
      let within = seat.within in
      let begun : begins (get_or fronts seat.index []) (drop found.1 text) ≡ true =
      (λ i. begins (are.each seat.index seat.within i) (at.number i)) ∙ ap (λ k. begins (front_of k) (decimal e.agent ++ 46 ∷ at.rest)) (sym seat.is) ∙ number-begins e.agent at.rest in
      false≢true (sym (none seat.index (omega (arith, many, within))) ∙ begun)

  -- The agent whose front stands there is the group's.
  pub record Called (h : HasTurn s (goings_of gs) text) (index : ℕ) : Type 0 where
    pub agent : h.turn.entry.agent ≡ index + 1
    pub asks : asked (going_at gs index) ≡ this_call h.turn.entry.number h.turn.entry.op

  pub called-by : (h : HasTurn s (goings_of gs) text) (index : ℕ) → index < length fronts → begins (get_or fronts index []) (drop found.1 text) ≡ true → Called h index
  called-by h index below begun =
      let e = h.turn.entry in
      let at = behind s (goings_of gs) text h found scanned in
      let seat = seated gs e.agent e.number e.op h.turn.asks in
      let many = are.many in
      let inside : index < length gs = omega (arith, many, below) in
      let told : begins (front_of (index + 1)) (decimal e.agent ++ 46 ∷ at.rest) ≡ true = sym (λ i. begins (are.each index inside i) (at.number i)) ∙ begun in
      let agent = number-one e.agent (index + 1) at.rest h.turn.few (omega (arith, inside, few)) told in
      let place = seat.is in
      let same : seat.index ≡ index = omega (arith, agent, place) in
      record { agent = agent; asks = ap (λ i. asked (going_at gs i)) (sym same) ∙ seat.asks }

  -- The same of the text behind the evictions.
  pub no-caller-in : (rest : Text) → rest ≡ drop found.1 text → HasTurn s (goings_of gs) text → ((index : ℕ) → index < length fronts → begins (get_or fronts index []) rest ≡ false) → ⊥
  no-caller-in rest is h none = no-caller h (λ index below. ap (begins (get_or fronts index [])) (sym is) ∙ none index below)

  pub called-in : (rest : Text) → rest ≡ drop found.1 text → (h : HasTurn s (goings_of gs) text) (index : ℕ) → index < length fronts → begins (get_or fronts index []) rest ≡ true → Called h index
  called-in rest is h index below begun = called-by h index below (ap (begins (get_or fronts index [])) (sym is) ∙ begun)

-- What is left of a text behind some bytes.
pub rest-is : (text : Text) (n : ℕ) → take (length text - n) (drop n text) ≡ drop n text
rest-is text n = let left = length-drop n text in take_all (length text - n) (drop n text) (omega (arith, left))

-- The run of an agent within the list.
pub going-got : (gs : List Going) (i : ℕ) (g : Going) → i < length gs → g ≡ get_or gs i g → going_at gs i ≡ g
going-got [] i g h is = absurd (omega (arith, h))
going-got (x ∷ gs) zero g h is = sym is
going-got (x ∷ gs) (suc i) g h is = going-got gs i g (omega (arith, h)) is

-- A call that is asked and stands may not be refused.
pub stands-so : (s : State Text Own) (k j : ℕ) (o p : Op) → k ≡ j → o ≡ p → (agent_of s k).live ≡ true → may_enter s k o ≡ true → ((agent_of s j).live && may_enter s j p) ≡ true
stands-so s k j o p agents ops live fitting = (λ i. (agent_of s (sym agents i)).live && may_enter s (sym agents i) (sym ops i)) ∙ (λ i. live i && fitting i)

pub both-so : (a b : Bool) → true ≡ (a && b) → (a ≡ true) × (b ≡ true)
both-so a b h = let parts = and_parts a b (sym h) in (parts.0, parts.1)
