-- A doubt is told by its place.
use Rattle.std.proofs.Common.{◌≡◌, ℕ, ◌<◌, zero, suc, List, [], ◌∷◌, ◌++◌, fold, length, Option, Some, None, refl, sym, ap, ◌∙◌, arith}
use Rattle.opfs_base.specs.Texts.{Text}
use Rattle.opfs_hist.specs.declared.entry.Entry.{Entry}
use Rattle.opfs_machine.specs.declared.own.Own.{Own}
use Rattle.opfs_machine.specs.declared.state.State.{State}
use Rattle.opfs_machine.specs.Changes.{Change}
use Rattle.opfs_machine.specs.Histories.{evicted_by, IsCall}
use Rattle.opfs_machine.specs.Openings.{begun}
use Rattle.opfs_machine.specs.Steps.{evicted, after_reply}
use Rattle.opfs_laws.proofs.Going.{not_evict}
use Rattle.opfs_laws.specs.Histories.Doubts.{faulted, doubt_from, ADoubtStays}
use Rattle.opfs_laws.specs.Histories.Opened.{LegalTo}
use Rattle.opfs_laws.proofs.histories.Opening.{NextTo}

abbrev step_by : State Text Own → List Text → Entry → List Entry → ℕ → Option Text → List Change
step_by s gone e es place (Some unit) = doubt_from s (gone ++ unit ∷ []) es place
step_by s gone e es place None = doubt_from (after_reply (fold evicted s gone) e.agent e.op e.reply) [] es place

abbrev here_by : State Text Own → List Text → Entry → Option Text → List Change
here_by s gone e (Some unit) = []
here_by s gone e None = faulted s gone e

step-is : (s : State Text Own) (gone : List Text) (e : Entry) (es : List Entry) (place : ℕ) → doubt_from s gone (e ∷ es) (suc place) ≡ step_by s gone e es place (evicted_by e.op)
step-is s gone e es place =
    elim (evicted_by e.op) as (λ o. (elim o as (λ x. List Change) [ Some unit ↦ doubt_from s (gone ++ unit ∷ []) es place | None ↦ doubt_from (after_reply (fold evicted s gone) e.agent e.op e.reply) [] es place ]) ≡ step_by s gone e es place o) [
      | Some unit ↦ refl
      | None ↦ refl
    ]

pub doubt-stays : (s : State Text Own) (gone : List Text) (es more : List Entry) (place : ℕ) → place < length es → doubt_from s gone (es ++ more) place ≡ doubt_from s gone es place
doubt-stays s gone [] more place within = absurd (omega (arith, within))
doubt-stays s gone (e ∷ es) more zero within = refl
doubt-stays s gone (e ∷ es) more (suc place) within =
    let inside : place < length es = omega (arith, within) in
    step-is s gone e (es ++ more) place
    ∙ (elim (evicted_by e.op) as (λ o. step_by s gone e (es ++ more) place o ≡ step_by s gone e es place o) [
      | Some unit ↦ doubt-stays s (gone ++ unit ∷ []) es more place inside
      | None ↦ doubt-stays (after_reply (fold evicted s gone) e.agent e.op e.reply) [] es more place inside
    ])
    ∙ sym (step-is s gone e es place)

here-is : (s : State Text Own) (gone : List Text) (e : Entry) → doubt_from s gone (e ∷ []) zero ≡ here_by s gone e (evicted_by e.op)
here-is s gone e =
    elim (evicted_by e.op) as (λ o. (elim o as (λ x. List Change) [ Some unit ↦ [] | None ↦ faulted s gone e ]) ≡ here_by s gone e o) [ Some unit ↦ refl | None ↦ refl ]

pub doubt-next : (s : State Text Own) (gone : List Text) (es : List Entry) (base : State Text Own) (last : List Text) (d : Entry) → LegalTo s gone es base last → IsCall base last d
    → doubt_from s gone (es ++ d ∷ []) (length es) ≡ faulted base last d
doubt-next s gone [] base last d legal call =
    here-is s gone d ∙ ap (here_by s gone d) (not_evict base d.agent d.op call.fitting) ∙ (λ i. faulted (legal.0 i) (legal.1 i) d)
doubt-next s gone (e ∷ es) base last d legal call =
    step-is s gone e (es ++ d ∷ []) (length es)
    ∙ (elim (evicted_by e.op) as (λ o. NextTo s gone e es base last o → step_by s gone e (es ++ d ∷ []) (length es) o ≡ faulted base last d) [
      | Some unit ↦ λ next. doubt-next s (gone ++ unit ∷ []) es base last d next.1 call
      | None ↦ λ next. doubt-next (after_reply (fold evicted s gone) e.agent e.op e.reply) [] es base last d next.1 call
    ] legal)

pub doubt : ADoubtStays
doubt = record {
  stays = λ o h more place within. doubt-stays (begun o) [] h more place within;
  next = λ o h e base last opened may. doubt-next (begun o) [] h base last e opened (may base last opened);
}
