-- What the machine answers never begins as a disk fault does.
use Rattle.std.proofs.Common.{◌≡◌, ℕ, ◌<◌, ◌⊎◌, inl, inr, true, false, ◌∷◌, ◌++◌, codes, refl, sym, arith}
use Rattle.std.proofs.lemmas.Bool.{false≢true}
use Rattle.opfs_base.specs.Texts.{Text}
use Rattle.opfs_hist.specs.declared.op.Op.{Op}
use Rattle.opfs_hist.specs.declared.reply.Refusal.{Refusal}
use Rattle.opfs_hist.specs.declared.reply.Refusal.TheVariants as refusal
use Rattle.opfs_hist.specs.declared.reply.Reply.{Reply}
use Rattle.opfs_hist.specs.declared.reply.Reply.TheVariants as reply
use Rattle.opfs_hist.specs.Faults.{is_disk_fault}
use Rattle.opfs_laws.proofs.NeverFaults.{step_sound}
use Rattle.opfs_machine.specs.declared.own.Own.{Own}
use Rattle.opfs_machine.specs.declared.state.State.{State}
use Rattle.opfs_machine.specs.Steps.{is_refusal, step}
use Rattle.opfs_print.specs.Lines.{refusal_text, reply_text}
use Rattle.opfs_transcripts.proofs.told.Apart.{head-same, tail-same}
use Rattle.opfs_transcripts.proofs.told.Replies.{fault-apart, step-said}

first-apart : (a : ℕ) (x y : Text) → (a < 68) ⊎ (68 < a) → a ∷ x ≡ 68 ∷ y → ⊥
first-apart a x y (inl h) e = let same = head-same a 68 x y e in omega (arith, h, same)
first-apart a x y (inr h) e = let same = head-same a 68 x y e in omega (arith, h, same)

refusal-apart : (r : Refusal) (m n : Text) → is_disk_fault (reply.No r) ≡ false → refusal_text r ++ m ≡ codes "DiskFault" ++ n → ⊥
refusal-apart refusal.TypeError m n h e = first-apart 84 _ _ (inr (omega arith)) e
refusal-apart refusal.NotFoundError m n h e = first-apart 78 _ _ (inr (omega arith)) e
refusal-apart refusal.TypeMismatchError m n h e = first-apart 84 _ _ (inr (omega arith)) e
refusal-apart refusal.InvalidModificationError m n h e = first-apart 73 _ _ (inr (omega arith)) e
refusal-apart (refusal.NoModificationAllowedError v k) m n h e = first-apart 78 _ _ (inr (omega arith)) e
refusal-apart refusal.InvalidStateError m n h e = first-apart 73 _ _ (inr (omega arith)) e
refusal-apart refusal.SecurityError m n h e = first-apart 83 _ _ (inr (omega arith)) e
refusal-apart (refusal.QuotaExceededError usage need quota) m n h e = first-apart 81 _ _ (inr (omega arith)) e
refusal-apart refusal.NameLimit m n h e = first-apart 78 _ _ (inr (omega arith)) e
refusal-apart (refusal.MetaFull charge growth area) m n h e = first-apart 77 _ _ (inr (omega arith)) e
refusal-apart (refusal.DataFull pool need size) m n h e =
    let rest = tail-same 68 68 _ (codes "iskFault" ++ n) e in
    let second : 97 ≡ 105 = head-same 97 105 _ (codes "skFault" ++ n) rest in
    omega (arith, second)
refusal-apart refusal.DiskFault m n h e = false≢true (sym h)
refusal-apart refusal.Stuck m n h e = first-apart 83 _ _ (inr (omega arith)) e
refusal-apart refusal.Unbound m n h e = first-apart 85 _ _ (inr (omega arith)) e

no-apart : (a : Reply) (m n : Text) → is_refusal a ≡ true → is_disk_fault a ≡ false → reply_text a ++ m ≡ codes "DiskFault" ++ n → ⊥
no-apart (reply.No r) m n refused sound e = refusal-apart r m n sound e
no-apart a m n refused sound e = absurd (false≢true refused)

pub answer-apart : (s : State Text Own) (k : ℕ) (o : Op) (m n : Text) → reply_text (step s k o).answered ++ m ≡ reply_text (reply.No refusal.DiskFault) ++ n → ⊥
answer-apart s k o m n e =
    elim (is_refusal (step s k o).answered) as (λ b. is_refusal (step s k o).answered ≡ b → ⊥) [
      | true ↦ λ refused. no-apart (step s k o).answered m n refused (step_sound s k o) e
      | false ↦ λ accepted. fault-apart (step s k o).answered m n (step-said s k o accepted) e
    ] refl
