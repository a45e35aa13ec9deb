-- A legal history without disk faults is what the machine makes of its calls.
use Rattle.std.proofs.Common.{◌≡◌, ℕ, true, List, [], ◌∷◌, ◌++◌, map, fold, Option, Some, None, Ok, Err, refl, sym, ap, ◌∙◌, append_assoc, inl, inr}
use Rattle.opfs_base.specs.Texts.{Text}
use Rattle.opfs_hist.specs.declared.entry.Entry.{Entry}
use Rattle.opfs_hist.specs.declared.op.Op.{Op}
use Rattle.opfs_hist.specs.declared.op.Op.TheVariants.{Evict}
use Rattle.opfs_hist.specs.declared.reply.Reply.TheVariants as reply
use Rattle.opfs_machine.specs.Histories.{evicted_by, IsCall, IsEviction, LegalFrom}
use Rattle.opfs_machine.specs.Runs.{Call, eviction, group_of, run}
use Rattle.opfs_machine.specs.Ruled.{Ruled}
use Rattle.opfs_machine.specs.Steps.{step, outcome_of, judged, evicted, after_reply}
use Rattle.opfs_machine.specs.declared.own.Own.{Own}
use Rattle.opfs_machine.specs.declared.state.State.{State}
use Rattle.opfs_examples.specs.Determined.{calls_of, HasNoFault, told_by}

-- Evictions and then entries, but for their turns.
abbrev told_after : List Text → List Entry → List Entry
told_after units es = map eviction units ++ map told_by es

-- A legal history from an entry on, whose eviction is told.
abbrev NextFrom : State Text Own → List Text → Entry → List Entry → Option Text → Type 0
NextFrom s gone e es (Some unit) = IsEviction unit e × LegalFrom s (gone ++ unit ∷ []) es
NextFrom s gone e es None = IsCall s gone e × LegalFrom (after_reply (fold evicted s gone) e.agent e.op e.reply) [] es

outcome-after : (s : State Text Own) (k : ℕ) (op : Op) (ruled : Ruled (List Text))
    → (outcome_of s k op ruled).after ≡ after_reply (fold evicted s (outcome_of s k op ruled).victims) k op (outcome_of s k op ruled).answered
unfolding outcome_of
outcome-after s k op (Ok units) = refl
outcome-after s k op (Err refusal) = refl

step-after : (s : State Text Own) (k : ℕ) (op : Op)
    → (step s k op).after ≡ after_reply (fold evicted s (step s k op).victims) k op (step s k op).answered
unfolding step
step-after s k op = outcome-after s k op (judged s k op)

evicts : (op : Op) (unit : Text) → evicted_by op ≡ Some unit → op ≡ Evict unit
evicts (Evict other) unit e = cc
evicts op unit e = cc

told_eviction : (unit : Text) (e : Entry) → evicted_by e.op ≡ Some unit → IsEviction unit e → told_by e ≡ eviction unit
told_eviction unit e is told =
    let same : e.op ≡ Evict unit = evicts e.op unit is in
    let agent : e.agent ≡ 0 = told.agent in
    let number : e.number ≡ 0 = told.number in
    let answered : e.reply ≡ reply.Gone unit = told.told in cc

one_more : (gone : List Text) (unit : Text) (rest : List Entry)
    → map eviction gone ++ eviction unit ∷ rest ≡ map eviction (gone ++ unit ∷ []) ++ rest
one_more [] unit rest = refl
one_more (first ∷ gone) unit rest = ap (λ es. eviction first ∷ es) (one_more gone unit rest)

-- A call as the machine answers it, and what follows.
called : (s : State Text Own) (gone : List Text) (e : Entry) (rest : List Entry) (cs : List Call)
    → e.reply ≡ (step s e.agent e.op).answered → gone ≡ (step s e.agent e.op).victims
    → rest ≡ run (after_reply (fold evicted s gone) e.agent e.op e.reply) cs
    → map eviction gone ++ told_by e ∷ rest ≡ run s (record { agent = e.agent; number = e.number; op = e.op } ∷ cs)
called s gone e rest cs same_reply victims follows =
    let done = step s e.agent e.op in
    let asked : Call = record { agent = e.agent; number = e.number; op = e.op } in
    let state : after_reply (fold evicted s gone) e.agent e.op e.reply ≡ done.after =
    ap (λ g. after_reply (fold evicted s g) e.agent e.op e.reply) victims
    ∙ ap (λ r. after_reply (fold evicted s done.victims) e.agent e.op r) same_reply
    ∙ sym (step-after s e.agent e.op) in
    sym (append_assoc (map eviction gone) (told_by e ∷ []) rest)
    ∙ ap (λ g. (map eviction g ++ told_by e ∷ []) ++ rest) victims
    ∙ ap (λ r. (map eviction done.victims ++ record { agent = e.agent; number = e.number; op = e.op; reply = r; turn = true } ∷ []) ++ rest) same_reply
    ∙ ap (λ es. group_of s asked done ++ es) (follows ∙ ap (λ t. run t cs) state)

pub made : (s : State Text Own) (gone : List Text) (es : List Entry) → LegalFrom s gone es → HasNoFault es
    → told_after gone es ≡ run s (calls_of es)
made s gone [] legal sound = ap (λ g. told_after g []) legal
made s gone (e ∷ es) legal sound =
    elim (evicted_by e.op) as
    (λ o. evicted_by e.op ≡ o → NextFrom s gone e es o
    → told_after gone (e ∷ es) ≡ run s (elim o [ Some unit ↦ calls_of es | None ↦ record { agent = e.agent; number = e.number; op = e.op } ∷ calls_of es ])) [
      | Some unit ↦ λ is next.
          ap (λ x. map eviction gone ++ x ∷ map told_by es) (told_eviction unit e is next.0)
          ∙ one_more gone unit (map told_by es)
          ∙ made s (gone ++ unit ∷ []) es next.1 sound.1
      | None ↦ λ is next. elim next.0.agrees [
        | inl a ↦ called s gone e (map told_by es) (calls_of es) a.same_reply a.victims
            (made (after_reply (fold evicted s gone) e.agent e.op e.reply) [] es next.1 sound.1)
        | inr f ↦ absurd (sound.0 f.told)
      ]
    ] refl legal
