-- One entry more of an agent's run.
use Rattle.std.proofs.Common.{◌≡◌, ℕ, suc, ◌+◌, ◌==◌, Bool, true, false, cond, List, [], ◌∷◌, Option, Some, None, refl, sym, ap, subst, ◌∙◌, arith}
use Rattle.std.proofs.lemmas.Bool.Decides.{nat_tests}
use Rattle.opfs_hist.specs.declared.entry.Entry.{Entry}
use Rattle.opfs_hist.specs.declared.op.Op.{Op}
use Rattle.opfs_hist.specs.declared.op.Op.TheVariants as op
use Rattle.opfs_script_run.specs.declared.runs.hand.Hand.{Hand}
use Rattle.opfs_script_run.specs.declared.runs.hand.Open.{Open}
use Rattle.opfs_script_run.specs.Runs.Running.{ending, entries_of, hand_then, is_wait, op_of, IsEnd, IsRunFrom, IsStep, IsWait}
use Rattle.opfs_script.specs.declared.step.Step.{Step}
use Rattle.opfs_transcripts.specs.Told.Goings.{Going, stepping, closing, gone, IsGoing, asked, asked_end, after_end, going_on, moved}

-- A number and a call.
abbrev pub this_call : ℕ → Op → Option (ℕ × Op)
this_call n o = Some (n, o)

pair-is : (n m : ℕ) (o p : Op) → m ≡ n → p ≡ o → this_call n o ≡ this_call m p
pair-is n m o p a b = λ i. this_call (sym a i) (sym b i)

inside : {A : Type 0} (a b : A) → Some a ≡ Some b → a ≡ b
inside a b e = cc

pub number-of : (n m : ℕ) (o p : Op) → this_call n o ≡ this_call m p → n ≡ m
number-of n m o p e = let left : ℕ × Op = (n, o) in let right : ℕ × Op = (m, p) in ap (λ (x : ℕ × Op). x.0) (inside left right e)

pub op-of : (n m : ℕ) (o p : Op) → this_call n o ≡ this_call m p → o ≡ p
op-of n m o p e = let left : ℕ × Op = (n, o) in let right : ℕ × Op = (m, p) in ap (λ (x : ℕ × Op). x.1) (inside left right e)

pub record Goes (g : Going) (e : Entry) (es : List Entry) : Type 0 where
  pub asks : asked g ≡ this_call e.number e.op
  pub rest : IsGoing (going_on g e.reply) es

goes-end : (n : ℕ) (rows : List Open) (e : Entry) (es : List Entry) → IsEnd n rows (e ∷ es)
    → (asked_end n rows ≡ this_call e.number e.op) × IsGoing (after_end n rows) es
goes-end n [] e es h = (pair-is n e.number op.End e.op h.0 h.1, h.2)
goes-end n (o ∷ rows) e es h = (pair-is n e.number (ending o) e.op h.0 h.1, h.2)

abbrev StepBy : Hand → ℕ → Step → List Step → Entry → List Entry → Bool → Type 0
StepBy h n s steps e es waits = elim waits [
  | true ↦ (false ≡ false) × IsWait h n s e × IsRunFrom h n true (s ∷ steps) es
  | false ↦ IsStep h n s e × IsRunFrom (hand_then h s e.op e.reply) (n + 1) false steps es
]

pub goes : (g : Going) (e : Entry) (es : List Entry) → is_wait e.op ≡ false → IsGoing g (e ∷ es) → Goes g e es
goes (stepping h n []) e es moves run = let both = goes-end n h.opened e es run in record { asks = both.0; rest = both.1 }
goes (stepping h n (s ∷ steps)) e es moves run =
    let step : StepBy h n s steps e es false = subst (StepBy h n s steps e es) moves run in
    record {
      asks = pair-is n e.number (op_of h s) e.op step.0.0 step.0.1;
      rest = subst (λ o. IsRunFrom (hand_then h s o e.reply) (n + 1) false steps es) step.0.1 step.1;
    }
goes (closing n rows) e es moves run = let both = goes-end n rows e es run in record { asks = both.0; rest = both.1 }
goes gone e es moves run = absurd (no run)
  where
    no : (e ∷ es) ≡ [] → ⊥
    no h = cc

-- And back.
comes-end : (n : ℕ) (rows : List Open) (e : Entry) (es : List Entry) → asked_end n rows ≡ this_call e.number e.op → IsGoing (after_end n rows) es → IsEnd n rows (e ∷ es)
comes-end n [] e es asks rest = (sym (number-of n e.number op.End e.op asks), sym (op-of n e.number op.End e.op asks), rest)
comes-end n (o ∷ rows) e es asks rest = (sym (number-of n e.number (ending o) e.op asks), sym (op-of n e.number (ending o) e.op asks), rest)

pub comes : (g : Going) (e : Entry) (es : List Entry) → is_wait e.op ≡ false → asked g ≡ this_call e.number e.op → IsGoing (going_on g e.reply) es → IsGoing g (e ∷ es)
comes (stepping h n []) e es moves asks rest = comes-end n h.opened e es asks rest
comes (stepping h n (s ∷ steps)) e es moves asks rest =
    let number : e.number ≡ n = sym (number-of n e.number (op_of h s) e.op asks) in
    let called : e.op ≡ op_of h s = sym (op-of n e.number (op_of h s) e.op asks) in
    subst (StepBy h n s steps e es) (sym moves)
    ((number, called), subst (λ o. IsRunFrom (hand_then h s o e.reply) (n + 1) false steps es) (sym called) rest)
comes (closing n rows) e es moves asks rest = comes-end n rows e es asks rest
comes gone e es moves asks rest = absurd (none-not e.number e.op asks)
  where
    none-not : (n : ℕ) (o : Op) → None ≡ this_call n o → ⊥
    none-not n o h = cc

-- The entries of an agent, with one more in front.
abbrev taken_by : Bool → Entry → List Entry → List Entry
taken_by b e es = cond b (e ∷ es) es

pub own-entry : (k : ℕ) (e : Entry) (es : List Entry) → (e.agent == k) ≡ true → entries_of k (e ∷ es) ≡ e ∷ entries_of k es
own-entry k e es own = ap (λ b. taken_by b e (entries_of k es)) own

pub other-entry : (k : ℕ) (e : Entry) (es : List Entry) → (e.agent == k) ≡ false → entries_of k (e ∷ es) ≡ entries_of k es
other-entry k e es other = ap (λ b. taken_by b e (entries_of k es)) other

pub nobody-here : (i : ℕ) → (0 == suc i) ≡ false
nobody-here i = grind (arith, nat_tests)

pub self-here : (k : ℕ) → (k == k) ≡ true
self-here k = grind (arith, nat_tests)

pub from-test : (k j : ℕ) → (k == j) ≡ true → k ≡ j
from-test k j h = grind (arith, nat_tests)

-- An eviction is of no agent's run.
pub runs-evicted : (goings : ℕ → Going) (e : Entry) (es : List Entry) → e.agent ≡ 0 → ((i : ℕ) → IsGoing (goings (suc i)) (entries_of (suc i) (e ∷ es)))
    → (i : ℕ) → IsGoing (goings (suc i)) (entries_of (suc i) es)
runs-evicted goings e es zero_is runs i =
    subst (IsGoing (goings (suc i))) (other-entry (suc i) e es (ap (λ k. k == suc i) zero_is ∙ nobody-here i)) (runs i)

-- A call moves its agent's run.
pub runs-moved : (goings : ℕ → Going) (e : Entry) (es : List Entry) → is_wait e.op ≡ false → ((i : ℕ) → IsGoing (goings (suc i)) (entries_of (suc i) (e ∷ es)))
    → (i : ℕ) → IsGoing (moved goings e.agent e.reply (suc i)) (entries_of (suc i) es)
runs-moved goings e es moves runs i =
    elim (e.agent == suc i) as (λ b. (e.agent == suc i) ≡ b → IsGoing (elim b [ true ↦ going_on (goings (suc i)) e.reply | false ↦ goings (suc i) ]) (entries_of (suc i) es)) [
      | true ↦ λ own. (goes (goings (suc i)) e (entries_of (suc i) es) moves (subst (IsGoing (goings (suc i))) (own-entry (suc i) e es own) (runs i))).rest
      | false ↦ λ other. subst (IsGoing (goings (suc i))) (other-entry (suc i) e es other) (runs i)
    ] refl

-- And its agent asked it.
pub run-asked : (goings : ℕ → Going) (e : Entry) (es : List Entry) (i : ℕ) → e.agent ≡ suc i → is_wait e.op ≡ false → ((i : ℕ) → IsGoing (goings (suc i)) (entries_of (suc i) (e ∷ es)))
    → asked (goings e.agent) ≡ this_call e.number e.op
run-asked goings e es i is moves runs =
    let own : (e.agent == suc i) ≡ true = ap (λ k. k == suc i) is ∙ self-here (suc i) in
    ap (λ k. asked (goings k)) is
    ∙ (goes (goings (suc i)) e (entries_of (suc i) es) moves (subst (IsGoing (goings (suc i))) (own-entry (suc i) e es own) (runs i))).asks
