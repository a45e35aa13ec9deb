-- A history goes on with one more call of the machine.
use Rattle.std.proofs.Common.{◌≡◌, true, false, All, [], ◌++◌, fold, sym, ap, ◌∙◌, subst, IsTrue, Result, Ok, Err, OnOk}
use Rattle.std.proofs.lemmas.List.Sums.{fold-append}
use Rattle.std.proofs.lemmas.List.Elements.{All-append}
use Rattle.opfs_base.specs.Texts.{Text}
use Rattle.opfs_machine.specs.declared.own.Own.{Own}
use Rattle.opfs_machine.specs.declared.state.State.{State}
use Rattle.opfs_machine.specs.Agents.{agent_of}
use Rattle.opfs_machine.specs.Histories.{may_enter, LegalFrom, after_entry}
use Rattle.opfs_machine.specs.Runs.{Call, group_of}
use Rattle.opfs_machine.specs.Steps.{step, judged}
use Rattle.opfs_laws.proofs.NeverFaults.{group_sound}
use Rattle.opfs_machine.proofs.GoOn.{group-after, legal-group}
use Rattle.opfs_hist.specs.Faults.{is_disk_fault}
use Rattle.opfs_plain.specs.Keeping.{IsKept}
use Rattle.opfs_plain.specs.declared.plain.Plain.{Plain}

step-after : (s : State Text Own) (c : Call) → may_enter s c.agent c.op ≡ true
    → fold after_entry s (group_of s c (step s c.agent c.op)) ≡ (step s c.agent c.op).after
unfolding step
step-after s c fitting = group-after s c (judged s c.agent c.op) fitting

pub kept-more : (start : State Text Own) (old new : Plain) (c : Call)
    → IsKept start old → IsTrue (agent_of old.state c.agent).live → may_enter old.state c.agent c.op ≡ true
    → new.state ≡ (step old.state c.agent c.op).after → new.entries ≡ old.entries ++ group_of old.state c (step old.state c.agent c.op)
    → IsKept start new
kept-more start old new c kept live fitting is_after is_more =
    let group = group_of old.state c (step old.state c.agent c.op) in
    record {
      legal = subst (LegalFrom start []) (sym is_more) (legal-group start old.entries old.state c kept.present kept.legal live fitting);
      faultless = subst (All (λ e. is_disk_fault e.reply ≡ false)) (sym is_more)
          (All-append (λ e. is_disk_fault e.reply ≡ false) old.entries group kept.faultless (group_sound old.state c));
      present =
          is_after
          ∙ sym (step-after old.state c fitting)
          ∙ ap (λ t. fold after_entry t group) kept.present
          ∙ sym (fold-append after_entry start old.entries group)
          ∙ ap (fold after_entry start) (sym is_more);
    }

-- The same where the call found its memory.
pub kept_on : {A E : Type 0} (r : Result A E) (old new : Plain) (c : Call)
    → OnOk r (new.state ≡ (step old.state c.agent c.op).after)
    → OnOk r (new.entries ≡ old.entries ++ group_of old.state c (step old.state c.agent c.op))
    → IsTrue (agent_of old.state c.agent).live → IsTrue (may_enter old.state c.agent c.op)
    → OnOk r ((start : State Text Own) → IsKept start old → IsKept start new)
kept_on (Ok x) old new c is_after is_more live fitting = λ start kept. kept-more start old new c kept live fitting is_after is_more
kept_on (Err e) old new c is_after is_more live fitting = tt
