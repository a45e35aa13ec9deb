-- Legal histories go on: with a call's evictions and its entry, answered as the machine answers.
use Rattle.std.proofs.Common.{◌≡◌, ℕ, true, List, [], ◌∷◌, ◌++◌, map, fold, Option, Some, None, Ok, Err, refl, sym, ap, ◌∙◌, subst, append_assoc, append-nil, inl, IsTrue}
use Rattle.std.proofs.lemmas.List.Sums.{fold-append}
use Rattle.opfs_base.specs.Texts.{Text}
use Rattle.opfs_hist.specs.declared.entry.Entry.{Entry}
use Rattle.opfs_hist.specs.declared.op.Op.{Op}
use Rattle.opfs_hist.specs.declared.op.Op.TheVariants.{Evict}
use Rattle.opfs_machine.specs.declared.own.Own.{Own}
use Rattle.opfs_machine.specs.declared.state.State.{State}
use Rattle.opfs_machine.specs.Agents.{agent_of}
use Rattle.opfs_machine.specs.Histories.{may_enter, evicted_by, IsEviction, IsCall, LegalFrom, after_op, after_entry}
use Rattle.opfs_machine.specs.Runs.{Call, eviction, entry_of, group_of}
use Rattle.opfs_machine.specs.Ruled.{Ruled}
use Rattle.opfs_machine.specs.Steps.{outcome_of, step, evicted, after_reply}

-- A call that may have an entry is no eviction.
not_evict : (s : State Text Own) (k : ℕ) (op : Op) → may_enter s k op ≡ true → evicted_by op ≡ None
unfolding may_enter
not_evict s k (Evict unit) h = cc
not_evict s k op h = refl

-- A legal history from an entry on, whose eviction is told.
abbrev NextFrom : State Text Own → List Text → Entry → List Entry → Option Text → Type 0
NextFrom s gone e es (Some unit) = IsEviction unit e × LegalFrom s (gone ++ unit ∷ []) es
NextFrom s gone e es None = IsCall s gone e × LegalFrom (after_reply (fold evicted s gone) e.agent e.op e.reply) [] es

abbrev GoesOn : State Text Own → List Text → Entry → List Entry → List Entry → Option Text → Type 0
GoesOn s gone e es more o =
    NextFrom s gone e es o → LegalFrom (fold after_entry (after_op (fold evicted s gone) e o) es) [] more → NextFrom s gone e (es ++ more) o

abbrev MoreFrom : State Text Own → List Entry → List Text → Type 0
MoreFrom s more g = LegalFrom (fold evicted s g) [] more → LegalFrom s g more

-- What follows a legal history from its state follows it in the history.
pub legal-append : (s : State Text Own) (gone : List Text) (es more : List Entry)
    → LegalFrom s gone es → LegalFrom (fold after_entry (fold evicted s gone) es) [] more → LegalFrom s gone (es ++ more)
legal-append s gone [] more ends legal = subst (MoreFrom s more) (sym ends) (λ h. h) legal
legal-append s gone (e ∷ es) more begins legal =
    elim (evicted_by e.op) as (GoesOn s gone e es more) [
      | Some unit ↦ λ h rest. (
        h.0,
        legal-append s (gone ++ unit ∷ []) es more h.1
            (subst (λ t. LegalFrom (fold after_entry t es) [] more) (sym (fold-append evicted s gone (unit ∷ []))) rest),
      )
      | None ↦ λ h rest. (h.0, legal-append (after_reply (fold evicted s gone) e.agent e.op e.reply) [] es more h.1 rest)
    ] begins legal

-- A call's evictions and its entry are legal where the call is.
group-legal : (s : State Text Own) (gone units : List Text) (e : Entry)
    → evicted_by e.op ≡ None → IsCall s (gone ++ units) e → LegalFrom s gone (map eviction units ++ e ∷ [])
group-legal s gone [] e plain call =
    let last : NextFrom s gone e [] None = (subst (λ g. IsCall s g e) (append-nil gone) call, refl) in
    subst (NextFrom s gone e []) (sym plain) last
group-legal s gone (unit ∷ units) e plain call = (
  record { agent = refl; number = refl; told = refl },
  group-legal s (gone ++ unit ∷ []) units e plain (subst (λ g. IsCall s g e) (sym (append_assoc gone (unit ∷ []) units)) call),
)

evictions-after : (s : State Text Own) (units : List Text) → fold after_entry s (map eviction units) ≡ fold evicted s units
evictions-after s [] = refl
evictions-after s (unit ∷ units) = evictions-after (evicted s unit) units

outcome-after : (s : State Text Own) (k : ℕ) (op : Op) (ruled : Ruled (List Text))
    → (outcome_of s k op ruled).after ≡ after_reply (fold evicted s (outcome_of s k op ruled).victims) k op (outcome_of s k op ruled).answered
unfolding outcome_of
outcome-after s k op (Ok units) = refl
outcome-after s k op (Err refusal) = refl

-- The state after a call's group is that of its outcome.
pub group-after : (s : State Text Own) (c : Call) (ruled : Ruled (List Text)) → may_enter s c.agent c.op ≡ true
    → fold after_entry s (group_of s c (outcome_of s c.agent c.op ruled)) ≡ (outcome_of s c.agent c.op ruled).after
group-after s c ruled fitting =
    let done = outcome_of s c.agent c.op ruled in
    let e = entry_of s c done in
    fold-append after_entry s (map eviction done.victims) (e ∷ [])
    ∙ ap (λ t. after_entry t e) (evictions-after s done.victims)
    ∙ ap (after_op (fold evicted s done.victims) e) (not_evict s c.agent c.op fitting)
    ∙ sym (outcome-after s c.agent c.op ruled)

-- A legal history goes on with the group of a call that the machine answers.
pub legal-group : (start : State Text Own) (es : List Entry) (s : State Text Own) (c : Call)
    → s ≡ fold after_entry start es → LegalFrom start [] es
    → IsTrue (agent_of s c.agent).live → may_enter s c.agent c.op ≡ true
    → LegalFrom start [] (es ++ group_of s c (step s c.agent c.op))
legal-group start es s c is legal live fitting =
    legal-append start [] es (group_of s c (step s c.agent c.op)) legal
    (subst (λ t. LegalFrom t [] (group_of s c (step s c.agent c.op))) is
    (group-legal s [] (step s c.agent c.op).victims (entry_of s c (step s c.agent c.op)) (not_evict s c.agent c.op fitting)
    (record { live = live; fitting = fitting; agrees = inl (record { same_reply = refl; victims = refl }) })))
