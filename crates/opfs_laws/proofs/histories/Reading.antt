-- The state does not see the bytes that reads gave.
use Rattle.std.proofs.Common.{◌≡◌, ℕ, Bool, true, false, List, [], ◌∷◌, ◌++◌, map, fold, Option, Some, None, refl, sym, ap, ◌∙◌, subst}
use Rattle.opfs_base.specs.Texts.{Text}
use Rattle.opfs_hist.specs.declared.entry.Entry.{Entry}
use Rattle.opfs_hist.specs.declared.op.Op.{Op}
use Rattle.opfs_hist.specs.declared.reply.Reply.{Reply}
use Rattle.opfs_hist.specs.declared.reply.Reply.TheVariants as reply
use Rattle.opfs_machine.specs.declared.own.Own.{Own}
use Rattle.opfs_machine.specs.declared.state.State.{State}
use Rattle.opfs_machine.specs.Agents.{counted}
use Rattle.opfs_machine.specs.Changes.{Change, stored_by, entry_changes, changes_from, changes}
use Rattle.opfs_machine.specs.Contents.{in_bytes}
use Rattle.opfs_machine.specs.Effects.{effect, refused}
use Rattle.opfs_machine.specs.Histories.{Legal, after_op, after_entry, state_after, evicted_by}
use Rattle.opfs_machine.specs.Openings.{Opening, begun}
use Rattle.opfs_machine.specs.Replies.{sizes_of}
use Rattle.opfs_machine.specs.Steps.{is_refusal, step}
use Rattle.opfs_laws.specs.GoingOn.{ArePending}
use Rattle.opfs_laws.specs.Histories.Unread.{unread, unread_entry, IsTold, ArePendingFor, ArePendingTold, ReadsLeaveTheState}

pub refuses-same : (r : Reply) → is_refusal (unread r) ≡ is_refusal r
refuses-same (reply.Read bytes) = refl
refuses-same r = refl

abbrev changed_if : State Text Own → ℕ → Op → Bool → State Text Own
changed_if s k op b = counted (elim b [ true ↦ refused s k op | false ↦ effect in_bytes s (sizes_of s k op) k op ]) k

op-same : (s : State Text Own) (e : Entry) (o : Option Text) → after_op s (unread_entry e) o ≡ after_op s e o
op-same s e (Some unit) = refl
op-same s e None = ap (changed_if s e.agent e.op) (refuses-same e.reply)

pub entry-same : (s : State Text Own) (e : Entry) → after_entry s (unread_entry e) ≡ after_entry s e
entry-same s e = op-same s e (evicted_by e.op)

pub unread-fold : (s : State Text Own) (es : List Entry) → fold after_entry s (map unread_entry es) ≡ fold after_entry s es
unread-fold s [] = refl
unread-fold s (e ∷ es) = ap (λ t. fold after_entry t (map unread_entry es)) (entry-same s e) ∙ unread-fold (after_entry s e) es

abbrev changes_if : State Text Own → Entry → Bool → List Change
changes_if s e b = elim b [ true ↦ [] | false ↦ stored_by s e.agent e.op ]

changes-same : (s : State Text Own) (es : List Entry) → changes_from s (map unread_entry es) ≡ changes_from s es
changes-same s [] = refl
changes-same s (e ∷ es) =
    (λ i. changes_if s e (refuses-same e.reply i) ++ changes_from (entry-same s e i) (map unread_entry es))
    ∙ ap (λ cs. entry_changes s e ++ cs) (changes-same (after_entry s e) es)

pub unread-state : (o : Opening) (h real : List Entry) → map unread_entry h ≡ map unread_entry real → state_after o h ≡ state_after o real
unread-state o h real alike = sym (unread-fold (begun o) h) ∙ ap (fold after_entry (begun o)) alike ∙ unread-fold (begun o) real

pub unread-changes : (o : Opening) (h real : List Entry) → map unread_entry h ≡ map unread_entry real → changes o h ≡ changes o real
unread-changes o h real alike = sym (changes-same (begun o) h) ∙ ap (changes_from (begun o)) alike ∙ changes-same (begun o) real

-- The entry with the machine's own answer.
abbrev own_entry : State Text Own → Entry → Entry
own_entry s e = record e { reply = (step s e.agent e.op).answered }

-- Pending calls are those with the machine's own answers, up to the bytes that reads gave.
pub pending-told : (tells : Type 0) (s : State Text Own) (k : ℕ) (es : List Entry) → ArePendingFor tells s k es → ArePendingTold tells s k es
pending-told tells s k [] h = record { real = []; pending = tt; alike = refl; told = λ t. refl }
pending-told tells s k (e ∷ es) h =
    let rest = pending-told tells (after_entry s e) k es h.1 in
    let here : unread_entry e ≡ unread_entry (own_entry s e) = ap (λ r. record e { reply = r }) h.0.alike in
    let after : after_entry s e ≡ after_entry s (own_entry s e) = sym (entry-same s e) ∙ ap (after_entry s) here ∙ entry-same s (own_entry s e) in
    record {
      real = own_entry s e ∷ rest.real;
      pending = (
        record { agent = h.0.agent; live = h.0.live; fitting = h.0.fitting; local = h.0.local; answered = refl; turn = h.0.turn },
        subst (λ t. ArePending t k rest.real) after rest.pending,
      );
      alike = λ i. here i ∷ rest.alike i;
      told = λ t i. record e { reply = h.0.answered t i } ∷ rest.told t i;
    }

map-joined : (xs ys : List Entry) → map unread_entry (xs ++ ys) ≡ map unread_entry xs ++ map unread_entry ys
map-joined [] ys = refl
map-joined (x ∷ xs) ys = ap (λ zs. unread_entry x ∷ zs) (map-joined xs ys)

joined-alike : (h more real rest : List Entry) → map unread_entry h ≡ map unread_entry real → map unread_entry more ≡ map unread_entry rest
    → map unread_entry (h ++ more) ≡ map unread_entry (real ++ rest)
joined-alike h more real rest a b = map-joined h more ∙ (λ i. a i ++ b i) ∙ sym (map-joined real rest)

-- A told history goes on with entries that are right up to the bytes that reads gave.
pub told-more : (tells : Type 0) (o : Opening) (h more real : List Entry) (t : IsTold tells o h) → Legal o (t.real ++ real)
    → map unread_entry more ≡ map unread_entry real → (tells → more ≡ real) → IsTold tells o (h ++ more)
told-more tells o h more real t legal alike told = record {
  real = t.real ++ real;
  legal = legal;
  alike = joined-alike h more t.real real t.alike alike;
  told = λ tell i. t.told tell i ++ told tell i;
}

pub reads-leave : ReadsLeaveTheState
reads-leave = record { state = unread-state; changes = unread-changes }
