-- A reply that the machine gives, and a disk fault, never begin the same text.
use Rattle.std.proofs.Common.{◌≡◌, ℕ, false, true, Bool, List, [], ◌∷◌, ◌++◌, codes, decimal, Option, Some, None, Ok, Err, refl, sym, ap, ◌∙◌, arith}
use Rattle.opfs_base.specs.Places.{Place, place_of, resolved}
use Rattle.opfs_base.specs.Texts.{Text}
use Rattle.opfs_hist.specs.declared.op.Op.{Op}
use Rattle.opfs_hist.specs.declared.op.Op.TheVariants as op
use Rattle.opfs_hist.specs.declared.reply.Refusal.TheVariants as refusal
use Rattle.opfs_hist.specs.declared.reply.Reply.{Reply}
use Rattle.opfs_hist.specs.declared.reply.Reply.TheVariants as reply
use Rattle.opfs_machine.specs.declared.own.Own.{Own}
use Rattle.opfs_machine.specs.declared.state.FileRow.{FileRow}
use Rattle.opfs_machine.specs.declared.state.Sizes.{Sizes}
use Rattle.opfs_machine.specs.declared.state.State.{State}
use Rattle.opfs_machine.specs.Agents.{agent_of, own_of}
use Rattle.opfs_machine.specs.Contents.{next_of}
use Rattle.opfs_machine.specs.Replies.{answer, child_reply, path_reply, file_reply, given_in, sizes_of}
use Rattle.opfs_machine.specs.Ruled.{Ruled}
use Rattle.opfs_machine.specs.Rows.{children_of, file_at}
use Rattle.opfs_machine.specs.Steps.{is_refusal, judged, outcome_of, step}
use Rattle.opfs_print.specs.Lines.{reply_text}
use Rattle.opfs_transcripts.proofs.told.Apart.{head-same}

-- A reply that is no refusal and names no unit that is gone.
abbrev pub is_said : Reply → Bool
is_said (reply.No r) = false
is_said (reply.Gone unit) = false
is_said answered = true

child-said : (s : State Text Own) (dir : Place) (name : Option Text) → is_said (child_reply s dir name) ≡ true
child-said s dir None = refl
child-said s dir (Some name) = refl

path-said : (names : Option (List Text)) → is_said (path_reply names) ≡ true
path-said None = refl
path-said (Some names) = refl

file-said : (f : Option (FileRow Text)) → is_said (file_reply f) ≡ true
file-said None = refl
file-said (Some f) = refl

answer-said : (s : State Text Own) (z : Sizes) (k : ℕ) (o : Op) → is_said (answer s z k o) ≡ true
unfolding answer
answer-said s z k (op.Next n dir) = child-said s (place_of dir) (next_of (given_in (own_of (agent_of s k) n)) (children_of s (place_of dir)))
answer-said s z k (op.Resolve dir entry) = path-said (resolved dir entry)
answer-said s z k (op.GetFile at) = file-said (file_at s (place_of at))
answer-said s z k o = refl

outcome-said : (s : State Text Own) (k : ℕ) (o : Op) (r : Ruled (List Text)) → is_refusal (outcome_of s k o r).answered ≡ false → is_said (outcome_of s k o r).answered ≡ true
unfolding outcome_of
outcome-said s k o (Ok units) accepted = answer-said s (sizes_of s k o) k o
outcome-said s k o (Err r) accepted = absurd (cc)

-- What the machine answers to a call that it does not refuse.
pub step-said : (s : State Text Own) (k : ℕ) (o : Op) → is_refusal (step s k o).answered ≡ false → is_said (step s k o).answered ≡ true
unfolding step
step-said s k o accepted = outcome-said s k o (judged s k o) accepted

-- It begins as `ok`.
record BeginsOk (text : Text) : Type 0 where
  pub rest : Text
  pub is : text ≡ 111 ∷ rest

said-text : (answered : Reply) → is_said answered ≡ true → BeginsOk (reply_text answered)
said-text reply.Done h = record { rest = codes "k"; is = refl }
said-text (reply.Length n) h = record { rest = codes "k " ++ decimal n; is = refl }
said-text (reply.Flag true) h = record { rest = codes "k true"; is = refl }
said-text (reply.Flag false) h = record { rest = codes "k false"; is = refl }
said-text (reply.Child k name) h = record { rest = _; is = refl }
said-text reply.Last h = record { rest = codes "k end"; is = refl }
said-text reply.NoPath h = record { rest = codes "k null"; is = refl }
said-text (reply.Names path) h = record { rest = _; is = refl }
said-text (reply.FileInfo size stamp) h = record { rest = _; is = refl }
said-text (reply.Read []) h = record { rest = codes "k 0"; is = refl }
said-text (reply.Read (b ∷ bytes)) h = record { rest = _; is = refl }
said-text (reply.Estimate used quota) h = record { rest = _; is = refl }
said-text (reply.Gone unit) h = absurd (cc)
said-text (reply.No r) h = absurd (cc)

-- So it is told from a disk fault by its first letter.
pub fault-apart : (answered : Reply) (x y : Text) → is_said answered ≡ true → reply_text answered ++ x ≡ reply_text (reply.No refusal.DiskFault) ++ y → ⊥
fault-apart answered x y h e =
    let ok = said-text answered h in
    let both : 111 ∷ (ok.rest ++ x) ≡ 68 ∷ (codes "iskFault" ++ y) = sym (ap (λ t. t ++ x) ok.is) ∙ e in
    let same : 111 ≡ 68 = head-same 111 68 (ok.rest ++ x) (codes "iskFault" ++ y) both in
    omega (arith, same)
