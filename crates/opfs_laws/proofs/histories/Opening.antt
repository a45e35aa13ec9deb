-- Histories whose last group is not whole yet go on.
use Rattle.std.proofs.Common.{◌≡◌, List, [], ◌∷◌, ◌++◌, fold, Option, Some, None, refl, sym, ap, ◌∙◌, subst}
use Rattle.std.proofs.lemmas.List.Sums.{fold-append}
use Rattle.opfs_base.specs.Texts.{Text}
use Rattle.opfs_hist.specs.declared.entry.Entry.{Entry}
use Rattle.opfs_machine.specs.declared.own.Own.{Own}
use Rattle.opfs_machine.specs.declared.state.State.{State}
use Rattle.opfs_machine.specs.Histories.{evicted_by, IsEviction, IsCall, LegalFrom, after_op, after_entry}
use Rattle.opfs_machine.specs.Runs.{eviction}
use Rattle.opfs_machine.specs.Steps.{evicted, after_reply}
use Rattle.opfs_laws.proofs.Going.{NextFrom, not_evict}
use Rattle.opfs_machine.specs.Openings.{begun}
use Rattle.opfs_laws.specs.Histories.Opened.{LegalTo, OpenHistoriesGoOn}

-- A history from an entry on, whose eviction is told.
abbrev pub NextTo : State Text Own → List Text → Entry → List Entry → State Text Own → List Text → Option Text → Type 0
NextTo s gone e es base last (Some unit) = IsEviction unit e × LegalTo s (gone ++ unit ∷ []) es base last
NextTo s gone e es base last None = IsCall s gone e × LegalTo (after_reply (fold evicted s gone) e.agent e.op e.reply) [] es base last

pub open-begin : (s : State Text Own) (gone : List Text) (es : List Entry) → LegalFrom s gone es → LegalTo s gone es (fold after_entry (fold evicted s gone) es) []
open-begin s gone [] ends = (ap (fold evicted s) (sym ends), ends)
open-begin s gone (e ∷ es) legal =
    elim (evicted_by e.op) as (λ o. NextFrom s gone e es o → NextTo s gone e es (fold after_entry (after_op (fold evicted s gone) e o) es) [] o) [
      | Some unit ↦ λ next. (
        next.0,
        subst (λ t. LegalTo s (gone ++ unit ∷ []) es (fold after_entry t es) []) (fold-append evicted s gone (unit ∷ [])) (open-begin s (gone ++ unit ∷ []) es next.1),
      )
      | None ↦ λ next. (next.0, open-begin (after_reply (fold evicted s gone) e.agent e.op e.reply) [] es next.1)
    ] legal

-- One eviction more.
pub open-more : (s : State Text Own) (gone : List Text) (es : List Entry) (base : State Text Own) (last : List Text) (unit : Text) → LegalTo s gone es base last
    → LegalTo s gone (es ++ eviction unit ∷ []) base (last ++ unit ∷ [])
open-more s gone [] base last unit legal = (record { agent = refl; number = refl; told = refl }, (legal.0, ap (λ g. g ++ unit ∷ []) legal.1))
open-more s gone (e ∷ es) base last unit legal =
    elim (evicted_by e.op) as (λ o. NextTo s gone e es base last o → NextTo s gone e (es ++ eviction unit ∷ []) base (last ++ unit ∷ []) o) [
      | Some first ↦ λ next. (next.0, open-more s (gone ++ first ∷ []) es base last unit next.1)
      | None ↦ λ next. (next.0, open-more (after_reply (fold evicted s gone) e.agent e.op e.reply) [] es base last unit next.1)
    ] legal

-- The call that may come next.
pub open-ended : (s : State Text Own) (gone : List Text) (es : List Entry) (base : State Text Own) (last : List Text) (d : Entry) → LegalTo s gone es base last → IsCall base last d
    → LegalFrom s gone (es ++ d ∷ [])
open-ended s gone [] base last d legal call =
    let here : IsCall s gone d = subst (λ t. IsCall t gone d) (sym legal.0) (subst (λ g. IsCall base g d) (sym legal.1) call) in
    let end : NextFrom s gone d [] None = (here, refl) in
    subst (NextFrom s gone d []) (sym (not_evict s d.agent d.op here.fitting)) end
open-ended s gone (e ∷ es) base last d legal call =
    elim (evicted_by e.op) as (λ o. NextTo s gone e es base last o → NextFrom s gone e (es ++ d ∷ []) o) [
      | Some unit ↦ λ next. (next.0, open-ended s (gone ++ unit ∷ []) es base last d next.1 call)
      | None ↦ λ next. (next.0, open-ended (after_reply (fold evicted s gone) e.agent e.op e.reply) [] es base last d next.1 call)
    ] legal

pub open-state : (s : State Text Own) (gone : List Text) (es : List Entry) (base : State Text Own) (last : List Text) → LegalTo s gone es base last
    → fold after_entry (fold evicted s gone) es ≡ fold evicted base last
open-state s gone [] base last legal = λ i. fold evicted (legal.0 i) (legal.1 i)
open-state s gone (e ∷ es) base last legal =
    elim (evicted_by e.op) as (λ o. NextTo s gone e es base last o → fold after_entry (after_op (fold evicted s gone) e o) es ≡ fold evicted base last) [
      | Some unit ↦ λ next. ap (λ t. fold after_entry t es) (sym (fold-append evicted s gone (unit ∷ []))) ∙ open-state s (gone ++ unit ∷ []) es base last next.1
      | None ↦ λ next. open-state (after_reply (fold evicted s gone) e.agent e.op e.reply) [] es base last next.1
    ] legal

pub open-one : (s : State Text Own) (gone : List Text) (es : List Entry) (a b : State Text Own) (x y : List Text) → LegalTo s gone es a x → LegalTo s gone es b y → (a ≡ b) × (x ≡ y)
open-one s gone [] a b x y first second = (sym first.0 ∙ second.0, sym first.1 ∙ second.1)
open-one s gone (e ∷ es) a b x y first second =
    elim (evicted_by e.op) as (λ o. NextTo s gone e es a x o → NextTo s gone e es b y o → (a ≡ b) × (x ≡ y)) [
      | Some unit ↦ λ p q. open-one s (gone ++ unit ∷ []) es a b x y p.1 q.1
      | None ↦ λ p q. open-one (after_reply (fold evicted s gone) e.agent e.op e.reply) [] es a b x y p.1 q.1
    ] first second

-- Without evictions the history is legal.
pub open-whole : (s : State Text Own) (gone : List Text) (es : List Entry) (base : State Text Own) (last : List Text) → last ≡ [] → LegalTo s gone es base last → LegalFrom s gone es
open-whole s gone [] base last none legal = legal.1 ∙ none
open-whole s gone (e ∷ es) base last none legal =
    elim (evicted_by e.op) as (λ o. NextTo s gone e es base last o → NextFrom s gone e es o) [
      | Some unit ↦ λ next. (next.0, open-whole s (gone ++ unit ∷ []) es base last none next.1)
      | None ↦ λ next. (next.0, open-whole (after_reply (fold evicted s gone) e.agent e.op e.reply) [] es base last none next.1)
    ] legal

pub histories-open : OpenHistoriesGoOn
histories-open = record {
  begin = λ o h legal. open-begin (begun o) [] h legal;
  whole = λ o h base opened. (open-whole (begun o) [] h base [] refl opened, open-state (begun o) [] h base [] opened);
  more = λ o h base last unit opened. open-more (begun o) [] h base last unit opened;
  ended = λ o h e opened may. open-ended (begun o) [] h opened.base opened.last e opened.is (may opened.base opened.last opened.is);
  state = λ o h base last opened. open-state (begun o) [] h base last opened;
  one = λ o h a b x y first second. open-one (begun o) [] h a b x y first second;
  may = λ o h e base last opened call other gone there.
      let same = open-one (begun o) [] h base other last gone opened there in
      subst (λ t. IsCall t gone e) same.0 (subst (λ g. IsCall base g e) same.1 call);
}
