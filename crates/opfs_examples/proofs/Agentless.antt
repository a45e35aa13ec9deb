-- Where there are no agents, nothing is entered.
use Rattle.std.proofs.Common.{◌≡◌, ℕ, zero, suc, true, false, List, [], ◌∷◌, ◌++◌, fold, Option, Some, None, refl, sym, ap, ◌∙◌}
use Rattle.std.specs.List.{slice_get}
use Rattle.std.specs.Option.{unwrap_or}
use Rattle.opfs_base.specs.Texts.{Text}
use Rattle.opfs_hist.specs.declared.entry.Entry.{Entry}
use Rattle.opfs_machine.specs.Agents.{agent_of, nobody}
use Rattle.opfs_machine.specs.Histories.{evicted_by, IsCall, IsEviction, LegalFrom}
use Rattle.opfs_machine.specs.Steps.{evicted, after_reply}
use Rattle.opfs_machine.specs.declared.own.Own.{Own}
use Rattle.opfs_machine.specs.declared.state.State.{State}

none_live : (s : State Text Own) → s.agents ≡ [] → (k : ℕ) → (agent_of s k).live ≡ false
none_live s none zero = refl
none_live s none (suc k) = ap (λ whos. (unwrap_or (slice_get whos k) nobody).live) none

not_empty : (xs : List Text) (x : Text) → xs ++ x ∷ [] ≡ [] → ⊥
not_empty [] x e = cc
not_empty (y ∷ xs) x e = cc

not_both : {A : Type 0} → true ≡ false → A
not_both e = cc

-- A legal history from an entry on, whose eviction is told.
abbrev NextFrom : State Text Own → List Text → Entry → List Entry → Option Text → Type 0
NextFrom s gone e es (Some unit) = IsEviction unit e × LegalFrom s (gone ++ unit ∷ []) es
NextFrom s gone e es None = IsCall s gone e × LegalFrom (after_reply (fold evicted s gone) e.agent e.op e.reply) [] es

pub nothing_entered : (s : State Text Own) (gone : List Text) (es : List Entry) → s.agents ≡ [] → LegalFrom s gone es
    → (gone ≡ []) × (es ≡ [])
nothing_entered s gone [] none h = (h, refl)
nothing_entered s gone (e ∷ es) none h =
    elim (evicted_by e.op) as (λ o. NextFrom s gone e es o → (gone ≡ []) × (e ∷ es ≡ [])) [
      | Some unit ↦ λ h. absurd (not_empty gone unit (nothing_entered s (gone ++ unit ∷ []) es none h.1).0)
      | None ↦ λ h. not_both (sym h.0.live ∙ none_live s none e.agent)
    ] h
