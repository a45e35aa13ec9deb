-- The history that the machine makes of calls is legal, and another answer in it is not.
use Rattle.std.proofs.Common.{◌≡◌, ℕ, Bool, true, false, ◌&&◌, not, ◌==◌, filter, List, [], ◌∷◌, map, fold, length, refl, sym, ◌∙◌, subst, inl, inr}
use Rattle.opfs_base.specs.Texts.{Text}
use Rattle.opfs_hist.specs.declared.entry.Entry.{Entry}
use Rattle.opfs_hist.specs.declared.reply.Refusal.TheVariants as refusal
use Rattle.opfs_hist.specs.declared.reply.Reply.{Reply}
use Rattle.opfs_hist.specs.declared.reply.Reply.TheVariants as reply
use Rattle.opfs_machine.proofs.GoOn.{legal-append, legal-group, group-after}
use Rattle.opfs_machine.specs.Agents.{agent_of}
use Rattle.opfs_machine.specs.Histories.{may_enter, is_disk_op, IsCall, IsFront, Legal, LegalFrom, after_entry}
use Rattle.opfs_machine.specs.Openings.{Opening, begun}
use Rattle.opfs_machine.specs.Runs.{Call, group_of, run, may_run}
use Rattle.opfs_machine.specs.Steps.{step, judged, is_refusal}
use Rattle.opfs_machine.specs.declared.own.Own.{Own}
use Rattle.opfs_machine.specs.declared.state.State.{State}

first_holds : (a b : Bool) → (a && b) ≡ true → a ≡ true
first_holds true b h = refl
first_holds false b h = h

second_holds : (a b : Bool) → (a && b) ≡ true → b ≡ true
second_holds true b h = h
second_holds false b h = cc

-- The calls of a history.
abbrev pub calls_of : List Entry → List Call
calls_of es = map (λ e. record { agent = e.agent; number = e.number; op = e.op }) (filter (λ e. not (e.agent == 0)) es)

after-step : (s : State Text Own) (c : Call) → may_enter s c.agent c.op ≡ true
    → fold after_entry s (group_of s c (step s c.agent c.op)) ≡ (step s c.agent c.op).after
unfolding step
after-step s c fitting = group-after s c (judged s c.agent c.op) fitting

-- What the machine answers to calls that may be made is legal.
pub run-legal : (s : State Text Own) (cs : List Call) → may_run s cs ≡ true → LegalFrom s [] (run s cs)
run-legal s [] h = refl
run-legal s (c ∷ cs) h =
    let front : ((agent_of s c.agent).live && may_enter s c.agent c.op) ≡ true = first_holds _ _ h in
    let live : (agent_of s c.agent).live ≡ true = first_holds _ _ front in
    let fitting : may_enter s c.agent c.op ≡ true = second_holds _ _ front in
    let rest : may_run (step s c.agent c.op).after cs ≡ true = second_holds _ _ h in
    legal-append s [] (group_of s c (step s c.agent c.op)) (run (step s c.agent c.op).after cs)
    (legal-group s [] s c refl refl live fitting)
    (subst (λ t. LegalFrom t [] (run (step s c.agent c.op).after cs)) (sym (after-step s c fitting))
    (run-legal (step s c.agent c.op).after cs rest))

-- A history that the machine makes of its calls is legal.
pub legal-by_run : (o : Opening) (es : List Entry)
    → may_run (begun o) (calls_of es) ≡ true → run (begun o) (calls_of es) ≡ es → Legal o es
legal-by_run o es may is = subst (LegalFrom (begun o) []) is (run-legal (begun o) (calls_of es) may)

-- A call whose answer is not the machine's, nor a disk fault, is not legal.
pub differs : (s : State Text Own) (gone : List Text) (e : Entry) (answered : Reply)
    → (step s e.agent e.op).answered ≡ answered → (e.reply ≡ answered → ⊥) → (e.reply ≡ reply.No refusal.DiskFault → ⊥)
    → IsCall s gone e → ⊥
differs s gone e answered is other sound call = elim call.agrees [
  | inl a ↦ other (a.same_reply ∙ is)
  | inr f ↦ sound f.told
]

-- How many bytes an answer has read.
abbrev pub read_length : Reply → ℕ
read_length (reply.Read bytes) = length bytes
read_length r = 0

-- A call whose evictions are not all its victims is not legal.
pub unentered : (s : State Text Own) (gone : List Text) (e : Entry) (units : List Text)
    → (step s e.agent e.op).victims ≡ units → (gone ≡ units → ⊥) → (e.reply ≡ reply.No refusal.DiskFault → ⊥)
    → IsCall s gone e → ⊥
unentered s gone e units is other sound call = elim call.agrees [
  | inl a ↦ other (a.victims ∙ is)
  | inr f ↦ sound f.told
]

-- A call that is answered as the machine answers.
pub answers : (s : State Text Own) (gone : List Text) (e : Entry)
    → (agent_of s e.agent).live ≡ true → may_enter s e.agent e.op ≡ true
    → e.reply ≡ (step s e.agent e.op).answered → gone ≡ (step s e.agent e.op).victims → IsCall s gone e
answers s gone e live fitting is all = record {
  live = live;
  fitting = fitting;
  agrees = inl (record { same_reply = is; victims = all });
}

-- A call that the disk refuses.
pub faults : (s : State Text Own) (gone : List Text) (e : Entry)
    → (agent_of s e.agent).live ≡ true → may_enter s e.agent e.op ≡ true → e.reply ≡ reply.No refusal.DiskFault
    → is_refusal (step s e.agent e.op).answered ≡ false → is_disk_op s e.agent e.op ≡ true
    → IsFront gone (step s e.agent e.op).victims → IsCall s gone e
faults s gone e live fitting told accepted disk front = record {
  live = live;
  fitting = fitting;
  agrees = inr (record { told = told; accepted = accepted; disk = disk; front = front });
}

-- A call that may not be entered is not legal.
pub unfit : (s : State Text Own) (gone : List Text) (e : Entry) → may_enter s e.agent e.op ≡ false → IsCall s gone e → ⊥
unfit s gone e is call = apart (sym call.fitting ∙ is)
  where
    apart : true ≡ false → ⊥
    apart h = cc
