-- An agent alone in its party runs as its own machine does.
use Rattle.std.proofs.Common.{◌≡◌, ℕ, ◌+◌, ◌==◌, Bool, true, false, cond, List, [], ◌∷◌, map, All, Option, Some, None, Ok, Err, refl, sym, ap, ◌∙◌, subst}
use Rattle.std.proofs.lemmas.Bool.{false≢true}
use Rattle.std.proofs.lemmas.List.Elements.{All-nil, All-cons, All-head, All-tail}
use Rattle.opfs_base.specs.Texts.{Text}
use Rattle.opfs_hist.specs.declared.entry.Entry.{Entry}
use Rattle.opfs_hist.specs.declared.op.Op.{Op}
use Rattle.opfs_hist.specs.declared.op.Op.TheVariants as op
use Rattle.opfs_hist.specs.declared.reply.Refusal.{Refusal}
use Rattle.opfs_hist.specs.declared.reply.Refusal.TheVariants as refusal
use Rattle.opfs_hist.specs.declared.reply.Reply.{Reply}
use Rattle.opfs_hist.specs.declared.reply.Reply.TheVariants as reply
use Rattle.opfs_machine.specs.declared.own.Own.{Own}
use Rattle.opfs_machine.specs.declared.state.Need.{Need}
use Rattle.opfs_machine.specs.declared.state.Party.{Party}
use Rattle.opfs_machine.specs.declared.state.State.{State}
use Rattle.opfs_machine.specs.Agents.{party_with}
use Rattle.opfs_machine.specs.Alone.{AcceptedAlone, AgreesAlone, AloneFrom, IsCallAlone, IsEvictionAlone, begun_alone, is_partys_entry, judged_alone, project}
use Rattle.opfs_machine.specs.Histories.{evicted_by}
use Rattle.opfs_machine.specs.Openings.{Opening}
use Rattle.opfs_machine.specs.Ruled.{Ruled}
use Rattle.opfs_machine.specs.Steps.{after_reply, evicted}
use Rattle.opfs_script_run.specs.declared.runs.hand.Hand.{Hand}
use Rattle.opfs_script_run.specs.declared.runs.hand.Open.{Open}
use Rattle.opfs_script_run.specs.Runs.Running.{empty_hand, ending, entries_of, hand_then, op_of, IsEnd, IsRunFrom, IsStep, IsWait}
use Rattle.opfs_script.specs.declared.step.Step.{Step}
use Rattle.opfs_script.specs.Scripts.{Asked}
use Rattle.opfs_laws.specs.Separation.Apart.{is_shared}
use Rattle.opfs_laws.proofs.separation.Separation.{each-alone}
use Rattle.opfs_transcripts.specs.Told.Goings.{as_told}
use Rattle.opfs_transcripts.proofs.told.Goes.{from-test}
use Rattle.opfs_transcripts.specs.Lone.Lone.{IsLone, IsOwnEntry, LoneRunsAreTheirOwn, answered_by, own_end, own_entry, own_reply, own_steps}

-- ---- a reply that tells nothing of what is shared is the machine's own

accepted-no : (s : State Text Own) (k : ℕ) (o : Op) (need : Need) (r : Refusal) → is_shared (reply.No r) ≡ false → AcceptedAlone s k o need (reply.No r) → reply.No r ≡ answered_by s k o (Ok need)
accepted-no s k o need (refusal.MetaFull charge growth area) own told = absurd (false≢true (sym own))
accepted-no s k o need (refusal.DataFull pool wanted blocks) own told = absurd (false≢true (sym own))
accepted-no s k o need refusal.DiskFault own told = absurd (false≢true (sym own))
accepted-no s k o need r own told = told

accepted-own : (s : State Text Own) (k : ℕ) (o : Op) (need : Need) (a : Reply) → is_shared a ≡ false → AcceptedAlone s k o need a → a ≡ answered_by s k o (Ok need)
accepted-own s k o need (reply.No r) own told = accepted-no s k o need r own told
accepted-own s k o need a own told = told

agreed-own : (s : State Text Own) (k : ℕ) (o : Op) (a : Reply) (ruled : Ruled Need) → is_shared a ≡ false → AgreesAlone s k o a ruled → a ≡ answered_by s k o ruled
agreed-own s k o a (Ok need) own told = accepted-own s k o need a own told
agreed-own s k o a (Err r) own told = told

-- ---- one call of the run

abbrev OwnBy : State Text Own → Entry → List Entry → Option Text → Type 0
OwnBy s e es told = elim told [
  | Some unit ↦ IsEvictionAlone s unit e × AloneFrom (evicted s unit) es
  | None ↦ IsCallAlone s e × AloneFrom (after_reply s e.agent e.op e.reply) es
]

call-of : (s : State Text Own) (e : Entry) (es : List Entry) → evicted_by e.op ≡ None → AloneFrom s (e ∷ es) → IsCallAlone s e × AloneFrom (after_reply s e.agent e.op e.reply) es
call-of s e es stays alone = subst (OwnBy s e es) stays alone

-- What is known of the entries of one agent.
record Mine (k : ℕ) (e : Entry) : Type 0 where
  agent : e.agent ≡ k
  own : IsOwnEntry e

-- The entry is the one that the agent's own machine adds, and the machine goes on so behind it.
record Owns (s : State Text Own) (k n : ℕ) (o : Op) (e : Entry) (es : List Entry) : Type 0 where
  told : as_told e ≡ own_entry s k n o
  reply : e.reply ≡ own_reply s k o
  rest : AloneFrom (after_reply s k o (own_reply s k o)) es

owns : (s : State Text Own) (k n : ℕ) (o : Op) (e : Entry) (es : List Entry) → Mine k e → e.number ≡ n → e.op ≡ o → AloneFrom s (e ∷ es) → Owns s k n o e es
owns s k n o e es mine number called alone =
    let both = call-of s e es mine.own.stays alone in
    let replied : e.reply ≡ own_reply s e.agent e.op = agreed-own s e.agent e.op e.reply (judged_alone s e.agent e.op) mine.own.own both.0.agrees in
    let here : e.reply ≡ own_reply s k o = replied ∙ (λ i. own_reply s (mine.agent i) (called i)) in
    record {
      told = λ i. record { agent = mine.agent i; number = number i; op = called i; reply = here i; turn = true };
      reply = here;
      rest = subst (λ t. AloneFrom t es) (λ i. after_reply s (mine.agent i) (called i) (here i)) both.1;
    }

-- ---- the end, and the steps

lone-end : (s : State Text Own) (k n : ℕ) (rows : List Open) (es : List Entry) → All (Mine k) es → IsEnd n rows es → AloneFrom s es → map as_told es ≡ own_end s k n rows
lone-end s k n rows [] mine end alone = absurd end
lone-end s k n [] (e ∷ es) mine end alone =
    let one = owns s k n op.End e es (All-head (Mine k) e es mine) end.0 end.1 alone in
    λ i. one.told i ∷ map as_told (end.2 i)
lone-end s k n (row ∷ rows) (e ∷ es) mine end alone =
    let one = owns s k n (ending row) e es (All-head (Mine k) e es mine) end.0 end.1 alone in
    let more = lone-end (after_reply s k (ending row) (own_reply s k (ending row))) k (n + 1) rows es (All-tail (Mine k) e es mine) end.2 one.rest in
    λ i. one.told i ∷ more i

abbrev RunBy : Hand → ℕ → Step → List Step → Entry → List Entry → Bool → Type 0
RunBy h n x steps e es waits = elim waits [
  | true ↦ (false ≡ false) × IsWait h n x e × IsRunFrom h n true (x ∷ steps) es
  | false ↦ IsStep h n x e × IsRunFrom (hand_then h x e.op e.reply) (n + 1) false steps es
]

lone-steps : (s : State Text Own) (k : ℕ) (h : Hand) (n : ℕ) (steps : List Step) (es : List Entry) → All (Mine k) es → IsRunFrom h n false steps es → AloneFrom s es → map as_told es ≡ own_steps s k h n steps
lone-steps s k h n steps [] mine run alone = absurd run
lone-steps s k h n [] (e ∷ es) mine run alone = lone-end s k n h.opened (e ∷ es) mine run alone
lone-steps s k h n (x ∷ steps) (e ∷ es) mine run alone =
    let here = All-head (Mine k) e es mine in
    let step : RunBy h n x steps e es false = subst (RunBy h n x steps e es) here.own.moves run in
    let one = owns s k n (op_of h x) e es here step.0.0 step.0.1 alone in
    let rest : IsRunFrom (hand_then h x (op_of h x) (own_reply s k (op_of h x))) (n + 1) false steps es =
    subst (λ g. IsRunFrom g (n + 1) false steps es) (λ i. hand_then h x (step.0.1 i) (one.reply i)) step.1 in
    let more = lone-steps (after_reply s k (op_of h x) (own_reply s k (op_of h x))) k (hand_then h x (op_of h x) (own_reply s k (op_of h x))) (n + 1) steps es
    (All-tail (Mine k) e es mine) rest one.rest in
    λ i. one.told i ∷ more i

-- ---- the party's part of a history is the agent's

module _ (o : Opening) (k : ℕ) (a : Asked) (lone : IsLone o k a) where
  abbrev party : Party
  party = party_with a.key k

  is-mine : (e : Entry) → evicted_by e.op ≡ None → is_partys_entry o party e (evicted_by e.op) ≡ (e.agent == k)
  is-mine e stays = ap (is_partys_entry o party e) stays ∙ lone e.agent

  projected : (es : List Entry) → All IsOwnEntry es → project o party es ≡ entries_of k es
  projected [] own = refl
  projected (e ∷ es) own = λ i. cond (is-mine e (All-head IsOwnEntry e es own).stays i) (e ∷ projected es (All-tail IsOwnEntry e es own) i) (projected es (All-tail IsOwnEntry e es own) i)

mine-of : (k : ℕ) (es : List Entry) → All IsOwnEntry es → All (Mine k) (entries_of k es)
mine-of k [] own = All-nil (Mine k)
mine-of k (e ∷ es) own =
    let more = mine-of k es (All-tail IsOwnEntry e es own) in
    elim (e.agent == k) as (λ b. (e.agent == k) ≡ b → All (Mine k) (cond b (e ∷ entries_of k es) (entries_of k es))) [
      | true ↦ λ is. All-cons (Mine k) e (entries_of k es) (record { agent = from-test e.agent k is; own = All-head IsOwnEntry e es own }) more
      | false ↦ λ is. more
    ] refl

pub lone-runs-are-their-own : LoneRunsAreTheirOwn
lone-runs-are-their-own o es k a order legal own lone run =
    let p = party_with a.key k in
    let alone : AloneFrom (begun_alone o p) (entries_of k es) = subst (AloneFrom (begun_alone o p)) (projected o k a lone es own) (each-alone o p es order legal) in
    lone-steps (begun_alone o p) k (empty_hand a.key) 1 a.steps (entries_of k es) (mine-of k es own) run alone
