-- A call is entered as a text tells it.
use Rattle.std.proofs.Common.{◌≡◌, ℕ, Bool, true, false, List, [], ◌∷◌, ◌++◌, append_assoc, length, map, fold, codes, decimal, Some, None, Result, Ok, Err, IfOk, refl, sym, ap, ◌∙◌, inl, inr, IsTrue, arith}
use Rattle.std.proofs.lemmas.Bool.{false≢true}
use Rattle.opfs_base.specs.Texts.{Text}
use Rattle.opfs_hist.specs.declared.entry.Entry.{Entry}
use Rattle.opfs_hist.specs.declared.op.Op.{Op}
use Rattle.opfs_hist.specs.declared.op.Op.TheVariants as op
use Rattle.opfs_hist.specs.declared.reply.Refusal.TheVariants as refusal
use Rattle.opfs_hist.specs.declared.reply.Reply.{Reply}
use Rattle.opfs_hist.specs.declared.reply.Reply.TheVariants as reply
use Rattle.opfs_machine.specs.declared.own.Own.{Own}
use Rattle.opfs_machine.specs.declared.state.State.{State}
use Rattle.opfs_machine.specs.Agents.{agent_of}
use Rattle.opfs_machine.specs.Histories.{may_enter, evicted_by, Agrees, IsFault, IsAnswer, IsFront}
use Rattle.opfs_machine.specs.Ruled.{Ruled}
use Rattle.opfs_machine.specs.Runs.{Call, eviction, group_of}
use Rattle.opfs_machine.specs.Steps.{after_reply, evicted, outcome_of, step}
use Rattle.opfs_print.specs.Lines.{call_text, line_of, op_text, reply_text}
use Rattle.opfs_plain.specs.Faults.{IsFaulted, MayFault}
use Rattle.opfs_script_run.specs.Runs.Running.{is_wait}
use Rattle.opfs_transcripts.specs.Told.Reading.{begins}
use Rattle.opfs_transcripts.proofs.told.Fixing.{Line, of_unit, of_call, line-is}
use Rattle.opfs_judge.specs.Turns.{IsEnteredAs, IsToldCall, entry_with}
use Rattle.opfs_judge.proofs.Apart.{answer-apart}
use Rattle.opfs_judge.proofs.Texts.{begins-front, begins-true, same-front}

-- ---- what was entered

pub fault-entered : (s t : State Text Own) (c : Call) (group : List Entry) (count : ℕ) → IsTrue (agent_of s c.agent).live → IsTrue (may_enter s c.agent c.op)
    → IsFaulted s t [] group count c → IsEnteredAs s t c group
fault-entered s t c group count live fitting f = record {
  gone = f.gone;
  answered = reply.No refusal.DiskFault;
  call = record { live = live; fitting = fitting; agrees = inr f.fault };
  state = f.state;
  told = f.told;
}

outcome-after : (s : State Text Own) (k : ℕ) (o : Op) (ruled : Ruled (List Text))
    → (outcome_of s k o ruled).after ≡ after_reply (fold evicted s (outcome_of s k o ruled).victims) k o (outcome_of s k o ruled).answered
unfolding outcome_of
outcome-after s k o (Ok units) = refl
outcome-after s k o (Err refusal) = refl

step-after : (s : State Text Own) (k : ℕ) (o : Op) → (step s k o).after ≡ after_reply (fold evicted s (step s k o).victims) k o (step s k o).answered
unfolding step
step-after s k o = outcome-after s k o _

pub own-entered : (s t : State Text Own) (c : Call) (group : List Entry) → IsTrue (agent_of s c.agent).live → IsTrue (may_enter s c.agent c.op)
    → t ≡ (step s c.agent c.op).after → group ≡ group_of s c (step s c.agent c.op) → IsEnteredAs s t c group
own-entered s t c group live fitting state told = record {
  gone = (step s c.agent c.op).victims;
  answered = (step s c.agent c.op).answered;
  call = record { live = live; fitting = fitting; agrees = inl (record { same_reply = refl; victims = refl }) };
  state = state ∙ step-after s c.agent c.op;
  told = told;
}

-- ---- the lines of a call with two answers

pub call-line-is : (e : Entry) → evicted_by e.op ≡ None → is_wait e.op ≡ false → line_of e ≡ call_text e
call-line-is e plain moves = by-kind (line-is e moves)
  where
    by-kind : Line e → line_of e ≡ call_text e
    by-kind (of_call is) = is.line
    by-kind (of_unit unit is) = absurd (none-some (sym plain ∙ ap evicted_by is))
      where
        none-some : {u : Text} → None ≡ Some u → ⊥
        none-some h = cc

replies-same : (c : Call) (a b : Reply) (m n : Text) → call_text (entry_with c a) ++ m ≡ call_text (entry_with c b) ++ n → reply_text a ++ 10 ∷ m ≡ reply_text b ++ 10 ∷ n
replies-same c a b m n e =
    let tail : Reply → Text = λ r. reply_text r ++ codes "\n" in
    let six : Reply → Text = λ r. codes " " ++ tail r in
    let five : Reply → Text = λ r. op_text c.op ++ six r in
    let four : Reply → Text = λ r. codes " " ++ five r in
    let three : Reply → Text = λ r. decimal c.number ++ four r in
    let two : Reply → Text = λ r. codes "." ++ three r in
    let e1 = same-front (decimal c.agent) (two a) (two b) m n e in
    let e2 = same-front (codes ".") (three a) (three b) m n e1 in
    let e3 = same-front (decimal c.number) (four a) (four b) m n e2 in
    let e4 = same-front (codes " ") (five a) (five b) m n e3 in
    let e5 = same-front (op_text c.op) (six a) (six b) m n e4 in
    let e6 = same-front (codes " ") (tail a) (tail b) m n e5 in
    sym (append_assoc (reply_text a) (codes "\n") m) ∙ e6 ∙ append_assoc (reply_text b) (codes "\n") n

-- ---- what a text tells

-- Two fronts of a list that are as long are the same.
heads : (a b : Text) (x y : List Text) → a ∷ x ≡ b ∷ y → a ≡ b
heads a b x y e = cc

tails : (a b : Text) (x y : List Text) → a ∷ x ≡ b ∷ y → x ≡ y
tails a b x y e = cc

fronts-same : (xs ys whole : List Text) → IsFront xs whole → IsFront ys whole → length xs ≡ length ys → xs ≡ ys
fronts-same [] [] whole f g h = refl
fronts-same [] (y ∷ ys) whole f g h = absurd (omega (arith, h))
fronts-same (x ∷ xs) [] whole f g h = absurd (omega (arith, h))
fronts-same (x ∷ xs) (y ∷ ys) [] f g h = absurd (let no = f.1 in cc)
fronts-same (x ∷ xs) (y ∷ ys) (w ∷ whole) f g h =
    let rest = fronts-same xs ys whole (f.0, tails w x whole (xs ++ f.0) f.1) (g.0, tails w y whole (ys ++ g.0) g.1) (omega (arith, h)) in
    let first : x ≡ y = sym (heads w x whole (xs ++ f.0) f.1) ∙ heads w y whole (ys ++ g.0) g.1 in
    λ i. first i ∷ rest i

pub not-evict : (s : State Text Own) (k : ℕ) (o : Op) → may_enter s k o ≡ true → evicted_by o ≡ None
unfolding may_enter
not-evict s k (op.Evict unit) h = cc
not-evict s k o h = refl

abbrev failed : Reply
failed = reply.No refusal.DiskFault

module _ (s : State Text Own) (c : Call) (fitting : may_enter s c.agent c.op ≡ true) (moves : is_wait c.op ≡ false) where
  line-of : (r : Reply) → line_of (entry_with c r) ≡ call_text (entry_with c r)
  line-of r = call-line-is (entry_with c r) (not-evict s c.agent c.op fitting) moves

  -- A line with the machine's answer is no line of a disk that failed.
  own-line : (gone : List Text) (r : Reply) (text more : Text) → IsAnswer gone r (step s c.agent c.op) → text ≡ line_of (entry_with c r) ++ more → begins (line_of (entry_with c failed)) text ≡ true → ⊥
  own-line gone r text more answer is begun =
      let other = begins-true (line_of (entry_with c failed)) text begun in
      answer-apart s c.agent c.op (10 ∷ more) (10 ∷ other.0)
      (ap (λ a. reply_text a ++ 10 ∷ more) (sym answer.same_reply)
      ∙ replies-same c r failed more other.0 (ap (λ l. l ++ more) (sym (line-of r)) ∙ sym is ∙ other.1 ∙ ap (λ l. l ++ other.0) (line-of failed)))

  fault-line : (r : Reply) (text more : Text) → r ≡ failed → text ≡ line_of (entry_with c r) ++ more → begins (line_of (entry_with c failed)) text ≡ true
  fault-line r text more failing is = ap (begins (line_of (entry_with c failed))) (is ∙ ap (λ a. line_of (entry_with c a) ++ more) failing) ∙ begins-front (line_of (entry_with c failed)) more

  abbrev Entered : Bool → List Entry → List Text → Reply → Type 0
  Entered stands group gone answered = (stands ≡ true) × (group ≡ map eviction gone ++ entry_with c answered ∷ [])

  -- Where the text does not tell of a failed disk, the machine's own answer is entered.
  pub told-own : (group : List Entry) (evictions : ℕ) (text : Text) → begins (line_of (entry_with c failed)) text ≡ false → group ≡ group_of s c (step s c.agent c.op)
      → (told : IsToldCall s c evictions text) → Entered true group told.gone told.answered
  told-own group evictions text not_begun entered told = by told.call.agrees
    where
      by : Agrees s told.gone c.agent c.op told.answered (step s c.agent c.op) → Entered true group told.gone told.answered
      by (inl a) = (refl, entered ∙ λ i. map eviction (sym a.victims i) ++ entry_with c (sym a.same_reply i) ∷ [])
      by (inr f) = absurd (false≢true (sym not_begun ∙ fault-line told.answered text told.more f.told told.begins))

  -- Where it does, and the call may fail, that is entered.
  pub told-fault : (t : State Text Own) (stands : Bool) (before group : List Entry) (evictions : ℕ) (text : Text) → begins (line_of (entry_with c failed)) text ≡ true → before ≡ []
      → (stands ≡ true → IsFaulted s t before group evictions c) → (stands ≡ false → MayFault s evictions c.agent c.op → ⊥)
      → (told : IsToldCall s c evictions text) → Entered stands group told.gone told.answered
  told-fault t stands before group evictions text begun first may may_not told = by told.call.agrees
    where
      by : Agrees s told.gone c.agent c.op told.answered (step s c.agent c.op) → Entered stands group told.gone told.answered
      by (inl a) = absurd (own-line told.gone told.answered text told.more a told.begins begun)
      by (inr f) =
          let fails : IsFault s told.gone c.agent c.op failed (step s c.agent c.op) = record { told = refl; accepted = f.accepted; disk = f.disk; front = f.front } in
          elim stands as (λ b. stands ≡ b → Entered b group told.gone told.answered) [
            | true ↦ λ is.
                let faulted = may is in
                let same = fronts-same told.gone faulted.gone (step s c.agent c.op).victims f.front faulted.fault.front (told.many ∙ sym faulted.many) in
                (refl, faulted.told ∙ (λ i. first i ++ (map eviction (sym same i) ++ entry_with c (sym f.told i) ∷ [])))
            | false ↦ λ is. absurd (may_not is (record { gone = told.gone; many = told.many; fault = fails }))
          ] refl

  -- The same of an answer that may want memory.
  pub told-fault-by : {E : Type 0} (t : State Text Own) (r : Result Bool E) (before group : List Entry) (evictions : ℕ) (text : Text) → begins (line_of (entry_with c failed)) text ≡ true → before ≡ []
      → IfOk r (λ stands. stands ≡ true → IsFaulted s t before group evictions c) → IfOk r (λ stands. stands ≡ false → MayFault s evictions c.agent c.op → ⊥)
      → IfOk r (λ stands. (told : IsToldCall s c evictions text) → Entered stands group told.gone told.answered)
  told-fault-by t (Ok stands) before group evictions text begun first may may_not = told-fault t stands before group evictions text begun first may may_not
  told-fault-by t (Err e) before group evictions text begun first may may_not = tt
