-- A history leaves as many agents as it began with.
use Rattle.std.proofs.Common.{◌≡◌, ℕ, ◌-◌, Some, None, List, [], ◌∷◌, ◌++◌, fold, length, ap, ◌∙◌, subst}
use Rattle.std.proofs.lemmas.List.Sums.{fold-append}
use lib.ListN.{length-map}
use Rattle.opfs_base.specs.Texts.{Text}
use Rattle.opfs_hist.specs.declared.entry.Entry.{Entry}
use Rattle.opfs_machine.specs.declared.own.Own.{Own}
use Rattle.opfs_machine.specs.declared.state.State.{State}
use Rattle.opfs_machine.specs.Histories.{LegalFrom, after_entry, after_op, evicted_by, state_after}
use Rattle.opfs_machine.specs.Openings.{Opening, agent_begun, begun}
use Rattle.opfs_machine.specs.Steps.{after_reply, evicted}
use Rattle.opfs_laws.specs.Histories.Unread.{IsTold}
use Rattle.opfs_laws.proofs.Acting.{changed-acts}
use Rattle.opfs_laws.proofs.Going.{NextFrom}
use Rattle.opfs_laws.proofs.LocksEffect.{number-after}
use Rattle.opfs_laws.proofs.Numbers.{IsNumber}
use Rattle.opfs_laws.proofs.histories.Reading.{reads-leave}
use Rattle.opfs_serving.proofs.Seating.{length-set}

call-many : (t : State Text Own) (e : Entry) → IsNumber t e.agent → length (after_reply t e.agent e.op e.reply).agents ≡ length t.agents
call-many t e number = let acts = changed-acts t e.agent number e.op e.reply in ap (λ as_. length as_) acts.agents ∙ length-set t.agents (e.agent - 1) acts.agent

many-from : (s : State Text Own) (gone : List Text) (es : List Entry) (n : ℕ) → LegalFrom s gone es → length (fold evicted s gone).agents ≡ n → length (fold after_entry (fold evicted s gone) es).agents ≡ n
many-from s gone [] n legal is = is
many-from s gone (e ∷ es) n legal is =
    let t = fold evicted s gone in
    elim (evicted_by e.op) as (λ told. NextFrom s gone e es told → length (fold after_entry (after_op t e told) es).agents ≡ n) [
      | Some unit ↦ λ next.
          subst (λ (x : State Text Own). length (fold after_entry x es).agents ≡ n) (fold-append evicted s gone (unit ∷ []))
          (many-from s (gone ++ unit ∷ []) es n next.1 (ap (λ (x : State Text Own). length x.agents) (fold-append evicted s gone (unit ∷ [])) ∙ is))
      | None ↦ λ next. many-from (after_reply t e.agent e.op e.reply) [] es n next.1 (call-many t e (number-after s gone e.agent next.0.live) ∙ is)
    ] legal

pub as-many : (tells : Type 0) (o : Opening) (es : List Entry) → IsTold tells o es → length (state_after o es).agents ≡ length o.agents
as-many tells o es told =
    ap (λ (s : State Text Own). length s.agents) (reads-leave.state o es told.real told.alike) ∙ many-from (begun o) [] told.real (length o.agents) told.legal (length-map o.agents agent_begun)
