-- An agent's pending calls, evictions and its call are added to a legal history.
use Rattle.std.proofs.Common.{◌≡◌, ℕ, List, [], ◌∷◌, ◌++◌, map, fold, refl, sym, ap, ◌∙◌, subst, append_assoc}
use Rattle.std.proofs.lemmas.List.Sums.{fold-append}
use Rattle.opfs_base.specs.Texts.{Text}
use Rattle.opfs_hist.specs.declared.entry.Entry.{Entry}
use Rattle.opfs_machine.specs.declared.own.Own.{Own}
use Rattle.opfs_machine.specs.declared.state.State.{State}
use Rattle.opfs_machine.specs.Changes.{Change, evict, stored_by, entry_changes, changes_from, changes}
use Rattle.opfs_machine.specs.Histories.{IsCall, Legal, after_entry, state_after}
use Rattle.opfs_machine.specs.Openings.{Opening, begun}
use Rattle.opfs_machine.specs.Runs.{eviction}
use Rattle.opfs_machine.specs.Steps.{evicted, after_reply}
use Rattle.opfs_laws.specs.GoingOn.{ArePending}
use Rattle.opfs_laws.proofs.Building.{local-none}
use Rattle.opfs_laws.proofs.Going.{not_evict, call-after, go-on, answered}
use Rattle.opfs_laws.proofs.Local.{pending-legal}
use Rattle.opfs_laws.specs.Histories.Opened.{added, CallsAreAdded}

pub changes-append : (s : State Text Own) (xs ys : List Entry) → changes_from s (xs ++ ys) ≡ changes_from s xs ++ changes_from (fold after_entry s xs) ys
changes-append s [] ys = refl
changes-append s (x ∷ xs) ys =
    ap (λ cs. entry_changes s x ++ cs) (changes-append (after_entry s x) xs ys)
    ∙ sym (append_assoc (entry_changes s x) (changes_from (after_entry s x) xs) (changes_from (fold after_entry (after_entry s x) xs) ys))

pub pending-none : (s : State Text Own) (k : ℕ) (es : List Entry) → ArePending s k es → changes_from s es ≡ []
pending-none s k [] h = refl
pending-none s k (e ∷ es) h = (λ i. local-none s e h.0.local i ++ pending-none (after_entry s e) k es h.1 i)

evictions-change : (s : State Text Own) (gone : List Text) → changes_from s (map eviction gone) ≡ map evict gone
unfolding stored_by
evictions-change s [] = refl
evictions-change s (unit ∷ gone) = ap (λ cs. evict unit ∷ cs) (evictions-change (evicted s unit) gone)

evictions-after : (s : State Text Own) (units : List Text) → fold after_entry s (map eviction units) ≡ fold evicted s units
evictions-after s [] = refl
evictions-after s (unit ∷ units) = evictions-after (evicted s unit) units

last-one : (cs : List Change) → cs ++ [] ≡ cs
last-one [] = refl
last-one (c ∷ cs) = ap (λ xs. c ∷ xs) (last-one cs)

group-changes : (s : State Text Own) (gone : List Text) (e : Entry) → changes_from s (map eviction gone ++ e ∷ []) ≡ map evict gone ++ entry_changes (fold evicted s gone) e
group-changes s gone e =
    changes-append s (map eviction gone) (e ∷ [])
    ∙ (λ i. evictions-change s gone i ++ (entry_changes (evictions-after s gone i) e ++ []))
    ∙ ap (λ cs. map evict gone ++ cs) (last-one (entry_changes (fold evicted s gone) e))

module _ (o : Opening) (h pending : List Entry) (k : ℕ) (gone : List Text) (e : Entry) where
  abbrev group : List Entry
  group = map eviction gone ++ e ∷ []

  there : state_after o (h ++ pending) ≡ fold after_entry (state_after o h) pending
  there = fold-append after_entry (begun o) h pending

  pub added-legal : Legal o h → ArePending (state_after o h) k pending → IsCall (state_after o (h ++ pending)) gone e → Legal o (h ++ added pending gone e)
  added-legal legal waits call =
      let first = (go-on o h pending legal (pending-legal (state_after o h) k pending waits)).0 in
      subst (Legal o) (append_assoc h pending group) (answered o (h ++ pending) gone e first call).0

  pub added-state : IsCall (state_after o (h ++ pending)) gone e → state_after o (h ++ added pending gone e) ≡ after_reply (fold evicted (state_after o (h ++ pending)) gone) e.agent e.op e.reply
  added-state call =
      ap (state_after o) (sym (append_assoc h pending group))
      ∙ fold-append after_entry (begun o) (h ++ pending) group
      ∙ call-after (state_after o (h ++ pending)) gone e (not_evict (state_after o (h ++ pending)) e.agent e.op call.fitting)

  pub added-changes : ArePending (state_after o h) k pending → changes o (h ++ added pending gone e) ≡ changes o h ++ (map evict gone ++ entry_changes (fold evicted (state_after o (h ++ pending)) gone) e)
  added-changes waits =
      changes-append (begun o) h (pending ++ group)
      ∙ ap (λ cs. changes o h ++ cs)
      (changes-append (state_after o h) pending group
      ∙ ap (λ cs. cs ++ changes_from (fold after_entry (state_after o h) pending) group) (pending-none (state_after o h) k pending waits)
      ∙ ap (λ t. changes_from t group) (sym there)
      ∙ group-changes (state_after o (h ++ pending)) gone e)

pub calls-added : CallsAreAdded
calls-added = record {
  legal = added-legal;
  state = λ o h pending k gone e waits call. added-state o h pending k gone e call;
  changes = added-changes;
}
