-- Legal histories, joined and cut.
use Rattle.std.proofs.Common.{◌≡◌, ℕ, true, List, [], ◌∷◌, ◌++◌, map, fold, Option, Some, None, refl, sym, ap, ◌∙◌, subst, append_assoc, append-nil, IsTrue}
use Rattle.std.specs.Prelude.{is_none}
use Rattle.std.proofs.lemmas.List.Sums.{fold-append}
use Rattle.opfs_base.specs.Texts.{Text}
use Rattle.opfs_hist.specs.declared.entry.Entry.{Entry}
use Rattle.opfs_hist.specs.declared.op.Op.{Op}
use Rattle.opfs_hist.specs.declared.op.Op.TheVariants.{Evict}
use Rattle.opfs_machine.specs.declared.own.Own.{Own}
use Rattle.opfs_machine.specs.declared.state.State.{State}
use Rattle.opfs_machine.specs.Histories.{may_enter, evicted_by, IsEviction, IsCall, LegalFrom, Legal, after_op, after_entry, state_after}
use Rattle.opfs_machine.specs.Openings.{Opening, begun}
use Rattle.opfs_machine.specs.Runs.{Call, eviction, group_of}
use Rattle.opfs_machine.specs.Steps.{step, judged, evicted, after_reply}
use Rattle.opfs_machine.proofs.GoOn.{legal-append, legal-group, group-after}
use Rattle.opfs_laws.specs.GoingOn.{ends_with_call, IsCallable, with_group}

-- A call that may have an entry is no eviction.
pub not_evict : (s : State Text Own) (k : ℕ) (op : Op) → may_enter s k op ≡ true → evicted_by op ≡ None
unfolding may_enter
not_evict s k (Evict unit) h = cc
not_evict s k op h = refl

-- A legal history from an entry on, whose eviction is told.
abbrev pub NextFrom : State Text Own → List Text → Entry → List Entry → Option Text → Type 0
NextFrom s gone e es (Some unit) = IsEviction unit e × LegalFrom s (gone ++ unit ∷ []) es
NextFrom s gone e es None = IsCall s gone e × LegalFrom (after_reply (fold evicted s gone) e.agent e.op e.reply) [] es

-- A call's evictions and its entry are legal where the call is.
pub group-legal : (s : State Text Own) (gone units : List Text) (e : Entry)
    → evicted_by e.op ≡ None → IsCall s (gone ++ units) e → LegalFrom s gone (map eviction units ++ e ∷ [])
group-legal s gone [] e plain call =
    let last : NextFrom s gone e [] None = (subst (λ g. IsCall s g e) (append-nil gone) call, refl) in
    subst (NextFrom s gone e []) (sym plain) last
group-legal s gone (unit ∷ units) e plain call = (
  record { agent = refl; number = refl; told = refl },
  group-legal s (gone ++ unit ∷ []) units e plain (subst (λ g. IsCall s g e) (sym (append_assoc gone (unit ∷ []) units)) call),
)

evictions-after : (s : State Text Own) (units : List Text) → fold after_entry s (map eviction units) ≡ fold evicted s units
evictions-after s [] = refl
evictions-after s (unit ∷ units) = evictions-after (evicted s unit) units

-- The state after evictions and a call.
pub call-after : (s : State Text Own) (units : List Text) (e : Entry) → evicted_by e.op ≡ None
    → fold after_entry s (map eviction units ++ e ∷ []) ≡ after_reply (fold evicted s units) e.agent e.op e.reply
call-after s units e plain =
    fold-append after_entry s (map eviction units) (e ∷ [])
    ∙ ap (λ t. after_entry t e) (evictions-after s units)
    ∙ ap (after_op (fold evicted s units) e) plain

pub go-on : (o : Opening) (h more : List Entry) → Legal o h → LegalFrom (state_after o h) [] more
    → Legal o (h ++ more) × (state_after o (h ++ more) ≡ fold after_entry (state_after o h) more)
go-on o h more legal next = (legal-append (begun o) [] h more legal next, fold-append after_entry (begun o) h more)

pub answered : (o : Opening) (h : List Entry) (gone : List Text) (e : Entry) → Legal o h → IsCall (state_after o h) gone e
    → Legal o (h ++ (map eviction gone ++ e ∷ []))
    × (state_after o (h ++ (map eviction gone ++ e ∷ [])) ≡ after_reply (fold evicted (state_after o h) gone) e.agent e.op e.reply)
answered o h gone e legal call =
    let plain = not_evict (state_after o h) e.agent e.op call.fitting in
    let both = go-on o h (map eviction gone ++ e ∷ []) legal (group-legal (state_after o h) [] gone e plain call) in
    (both.0, both.1 ∙ call-after (state_after o h) gone e plain)

pub called : (o : Opening) (h : List Entry) (c : Call) → Legal o h → IsCallable (state_after o h) c
    → Legal o (with_group (state_after o h) h c) × (state_after o (with_group (state_after o h) h c) ≡ (step (state_after o h) c.agent c.op).after)
unfolding step
called o h c legal may = (
  legal-group (begun o) h (state_after o h) c refl legal may.live may.fitting,
  fold-append after_entry (begun o) h (group_of (state_after o h) c (step (state_after o h) c.agent c.op))
      ∙ group-after (state_after o h) c (judged (state_after o h) c.agent c.op) may.fitting,
)

abbrev CutAt : State Text Own → List Text → Entry → List Entry → List Entry → Option Text → Type 0
CutAt s gone e front rest told = NextFrom s gone e (front ++ rest) told → NextFrom s gone e front told

abbrev LastAt : State Text Own → List Text → Entry → List Entry → Option Text → Type 0
LastAt s gone e rest told = NextFrom s gone e rest told → is_none told ≡ true → NextFrom s gone e [] told

front-from : (s : State Text Own) (gone : List Text) (e : Entry) (front rest : List Entry)
    → LegalFrom s gone ((e ∷ front) ++ rest) → ends_with_call (e ∷ front) ≡ true → LegalFrom s gone (e ∷ front)
front-from s gone e [] rest legal ends =
    elim (evicted_by e.op) as (LastAt s gone e rest) [
      | Some unit ↦ λ h last. cc
      | None ↦ λ h last. (h.0, refl)
    ] legal ends
front-from s gone e (next ∷ front) rest legal ends =
    elim (evicted_by e.op) as (CutAt s gone e (next ∷ front) rest) [
      | Some unit ↦ λ h. (h.0, front-from s (gone ++ unit ∷ []) next front rest h.1 ends)
      | None ↦ λ h. (h.0, front-from (after_reply (fold evicted s gone) e.agent e.op e.reply) [] next front rest h.1 ends)
    ] legal

pub front-legal : (o : Opening) (front rest : List Entry) → Legal o (front ++ rest) → IsTrue (ends_with_call front) → Legal o front
front-legal o [] rest legal ends = refl
front-legal o (e ∷ front) rest legal ends = front-from (begun o) [] e front rest legal ends
