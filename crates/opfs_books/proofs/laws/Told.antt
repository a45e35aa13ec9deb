-- Histories that are told go on with evictions and with calls, and what their entries store.
use Rattle.std.proofs.Common.{◌≡◌, List, [], ◌∷◌, ◌++◌, map, fold, Some, None, refl, sym, ap, ◌∙◌, subst, append-nil}
use Rattle.opfs_base.specs.Texts.{Text}
use Rattle.opfs_hist.specs.declared.entry.Entry.{Entry}
use Rattle.opfs_laws.specs.Histories.Opened.{LegalTo, IsOpenAt}
use Rattle.opfs_laws.specs.Histories.Unread.{unread_entry, IsTold}
use Rattle.opfs_laws.proofs.histories.Adding.{changes-append}
use Rattle.opfs_laws.proofs.histories.Opening.{NextTo, open-more, open-state, open-begin, open-whole}
use Rattle.opfs_laws.proofs.histories.Reading.{entry-same, unread-state}
use Rattle.opfs_laws.proofs.Going.{not_evict}
use Rattle.opfs_machine.specs.declared.own.Own.{Own}
use Rattle.opfs_machine.specs.declared.state.State.{State}
use Rattle.opfs_machine.specs.Changes.{entry_changes, changes}
use Rattle.opfs_machine.specs.Histories.{IsCall, evicted_by, after_op, after_entry, state_after}
use Rattle.opfs_machine.specs.Openings.{Opening, begun}
use Rattle.opfs_machine.specs.Runs.{eviction}
use Rattle.opfs_machine.specs.Steps.{evicted, after_reply}
use Rattle.opfs_books.specs.Laws.Books.{IsToldAt, IsNext}

map-joined : (xs ys : List Entry) → map unread_entry (xs ++ ys) ≡ map unread_entry xs ++ map unread_entry ys
map-joined [] ys = refl
map-joined (x ∷ xs) ys = ap (λ zs. unread_entry x ∷ zs) (map-joined xs ys)

pub joined-alike : (h more real rest : List Entry) → map unread_entry h ≡ map unread_entry real → map unread_entry more ≡ map unread_entry rest
    → map unread_entry (h ++ more) ≡ map unread_entry (real ++ rest)
joined-alike h more real rest a b = map-joined h more ∙ (λ i. a i ++ b i) ∙ sym (map-joined real rest)

-- The call that comes next leaves its group whole.
open-call : (s : State Text Own) (gone : List Text) (es : List Entry) (base : State Text Own) (last : List Text) (d : Entry) → LegalTo s gone es base last → IsCall base last d
    → LegalTo s gone (es ++ d ∷ []) (after_reply (fold evicted base last) d.agent d.op d.reply) []
open-call s gone [] base last d legal call =
    let here : IsCall s gone d = subst (λ t. IsCall t gone d) (sym legal.0) (subst (λ g. IsCall base g d) (sym legal.1) call) in
    let same : after_reply (fold evicted s gone) d.agent d.op d.reply ≡ after_reply (fold evicted base last) d.agent d.op d.reply = λ i. after_reply (fold evicted (legal.0 i) (legal.1 i)) d.agent d.op d.reply in
    let end : NextTo s gone d [] (after_reply (fold evicted base last) d.agent d.op d.reply) [] None = (here, (same, refl)) in
    subst (NextTo s gone d [] (after_reply (fold evicted base last) d.agent d.op d.reply) []) (sym (not_evict s d.agent d.op here.fitting)) end
open-call s gone (e ∷ es) base last d legal call =
    let new = after_reply (fold evicted base last) d.agent d.op d.reply in
    elim (evicted_by e.op) as (λ o. NextTo s gone e es base last o → NextTo s gone e (es ++ d ∷ []) new [] o) [
      | Some unit ↦ λ next. (next.0, open-call s (gone ++ unit ∷ []) es base last d next.1 call)
      | None ↦ λ next. (next.0, open-call (after_reply (fold evicted s gone) e.agent e.op e.reply) [] es base last d next.1 call)
    ] legal

module _ (tells : Type 0) (o : Opening) (h : List Entry) (base : State Text Own) (gone : List Text) (t : IsToldAt tells o h base gone) where
  -- The state of the history.
  pub told-state : state_after o h ≡ fold evicted base gone
  told-state = unread-state o h t.real t.alike ∙ open-state (begun o) [] t.real base gone t.opened

  pub told-evicted : (unit : Text) → IsToldAt tells o (h ++ eviction unit ∷ []) base (gone ++ unit ∷ [])
  told-evicted unit = record {
    real = t.real ++ eviction unit ∷ [];
    opened = open-more (begun o) [] t.real base gone unit t.opened;
    alike = joined-alike h (eviction unit ∷ []) t.real (eviction unit ∷ []) t.alike refl;
    told = λ x i. t.told x i ++ eviction unit ∷ [];
  }

  module _ (e : Entry) (n : IsNext tells base gone e) where
    same-after : (s : State Text Own) → after_entry s e ≡ after_entry s n.real
    same-after s = sym (entry-same s e) ∙ ap (after_entry s) n.alike ∙ entry-same s n.real

    same-op : e.op ≡ n.real.op
    same-op = ap (λ x. x.op) n.alike

    -- It is no eviction.
    pub next-plain : evicted_by e.op ≡ None
    next-plain = ap evicted_by same-op ∙ not_evict base n.real.agent n.real.op n.call.fitting

    after-next : after_reply (fold evicted base gone) n.real.agent n.real.op n.real.reply ≡ after_entry (fold evicted base gone) e
    after-next =
        sym (ap (after_op (fold evicted base gone) n.real) (not_evict base n.real.agent n.real.op n.call.fitting)) ∙ sym (same-after (fold evicted base gone))

    pub next-reply : after_entry (fold evicted base gone) e ≡ after_reply (fold evicted base gone) e.agent e.op e.reply
    next-reply = ap (after_op (fold evicted base gone) e) next-plain

    told-called : IsToldAt tells o (h ++ e ∷ []) (after_entry (fold evicted base gone) e) []
    told-called = record {
      real = t.real ++ n.real ∷ [];
      opened = subst (λ s. IsOpenAt o (t.real ++ n.real ∷ []) s []) after-next (open-call (begun o) [] t.real base gone n.real t.opened n.call);
      alike = joined-alike h (e ∷ []) t.real (n.real ∷ []) t.alike (ap (λ x. x ∷ []) n.alike);
      told = λ x i. t.told x i ++ n.told x i ∷ [];
    }

    pub next-state : state_after o (h ++ e ∷ []) ≡ after_entry (fold evicted base gone) e
    next-state = unread-state o (h ++ e ∷ []) told-called.real told-called.alike ∙ open-state (begun o) [] told-called.real (after_entry (fold evicted base gone) e) [] told-called.opened

    -- The history is whole again.
    pub told-next : IsToldAt tells o (h ++ e ∷ []) (state_after o (h ++ e ∷ [])) []
    told-next = subst (λ s. IsToldAt tells o (h ++ e ∷ []) s []) (sym next-state) told-called

-- What one entry more stores.
pub changes-more : (o : Opening) (h : List Entry) (e : Entry) → changes o (h ++ e ∷ []) ≡ changes o h ++ entry_changes (state_after o h) e
changes-more o h e = changes-append (begun o) h (e ∷ []) ∙ ap (λ cs. changes o h ++ cs) (append-nil (entry_changes (state_after o h) e))

-- A history that is whole is told, and one that is told is.
pub whole-told : (tells : Type 0) (o : Opening) (h : List Entry) → IsTold tells o h → IsToldAt tells o h (state_after o h) []
whole-told tells o h t = record {
  real = t.real;
  opened = subst (λ s. IsOpenAt o t.real s []) (sym (unread-state o h t.real t.alike)) (open-begin (begun o) [] t.real t.legal);
  alike = t.alike;
  told = t.told;
}

pub told-whole : (tells : Type 0) (o : Opening) (h : List Entry) (base : State Text Own) → IsToldAt tells o h base [] → IsTold tells o h
told-whole tells o h base t = record {
  real = t.real;
  legal = open-whole (begun o) [] t.real base [] refl t.opened;
  alike = t.alike;
  told = t.told;
}
