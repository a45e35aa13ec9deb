-- Two runs of a party's machine that ask the same are answered the same.
use Rattle.std.proofs.Common.{◌≡◌, ◌||◌, ℕ, true, false, List, [], ◌∷◌, Option, Some, None, Ok, Err, IsTrue, refl, sym, ◌∙◌, subst}
use Rattle.opfs_base.specs.Texts.{Text}
use Rattle.opfs_hist.specs.declared.entry.Entry.{Entry}
use Rattle.opfs_hist.specs.declared.op.Op.{Op}
use Rattle.opfs_hist.specs.declared.reply.Refusal.TheVariants as refusal
use Rattle.opfs_hist.specs.declared.reply.Reply.{Reply}
use Rattle.opfs_hist.specs.declared.reply.Reply.TheVariants as reply
use Rattle.opfs_machine.specs.declared.own.Own.{Own}
use Rattle.opfs_machine.specs.declared.state.Need.{Need}
use Rattle.opfs_machine.specs.declared.state.State.{State}
use Rattle.opfs_machine.specs.Alone.{project, begun_alone, judged_alone, AcceptedAlone, AgreesAlone, AloneFrom}
use Rattle.opfs_machine.specs.Histories.{evicted_by}
use Rattle.opfs_machine.specs.Replies.{answer, sizes_of}
use Rattle.opfs_machine.specs.Ruled.{Ruled}
use Rattle.opfs_machine.specs.Steps.{evicted, after_reply}
use Rattle.opfs_laws.proofs.separation.Clearing.{first_out, second_out}
use Rattle.opfs_laws.proofs.separation.Separation.{NextAlone, each-alone}
use Rattle.opfs_laws.specs.Separation.Apart.{is_shared, AreAskedAlike, replies, OthersLeaveNoTrace}

module _ (t : State Text Own) (k : ℕ) (o : Op) where
  -- An accepted answer that tells of nothing shared is the machine's.
  own-reply : (need : Need) (r : Reply) → is_shared r ≡ false → AcceptedAlone t k o need r → r ≡ answer t (sizes_of t k o) k o
  own-reply need (reply.No (refusal.MetaFull charge growth area)) h accepted = cc
  own-reply need (reply.No (refusal.DataFull pool wanted blocks)) h accepted = cc
  own-reply need (reply.No refusal.DiskFault) h accepted = cc
  own-reply need r h accepted = accepted

  one-reply : (a b : Reply) (x : Ruled Need) → (IsTrue (is_shared a || is_shared b) → a ≡ b) → AgreesAlone t k o a x → AgreesAlone t k o b x → a ≡ b
  one-reply a b (Ok need) same left right =
      elim (is_shared a || is_shared b) as (λ c. (is_shared a || is_shared b) ≡ c → a ≡ b) [
        | true ↦ λ is. same is
        | false ↦ λ is.
            own-reply need a (first_out (is_shared a) (is_shared b) is) left
            ∙ sym (own-reply need b (second_out (is_shared a) (is_shared b) is) right)
      ] refl
  one-reply a b (Err why) same left right = left ∙ sym right

abbrev Said : State Text Own → Entry → List Entry → Entry → List Entry → Option Text → Type 0
Said t e es f fs told = evicted_by e.op ≡ told → NextAlone t e es told → NextAlone t f fs told → replies (e ∷ es) ≡ replies (f ∷ fs)

pub same-replies : (t : State Text Own) (es fs : List Entry) → AloneFrom t es → AloneFrom t fs → AreAskedAlike es fs → replies es ≡ replies fs
same-replies t [] [] left right asked = refl
same-replies t [] (f ∷ fs) left right asked = absurd asked
same-replies t (e ∷ es) [] left right asked = absurd asked
same-replies t (e ∷ es) (f ∷ fs) left right asked =
    let ask = asked.0 in
    let other : NextAlone t f fs (evicted_by e.op) = subst (λ o. NextAlone t f fs (evicted_by o)) (sym ask.op) right in
    elim (evicted_by e.op) as (Said t e es f fs) [
      | Some unit ↦ λ is a b.
          let told : e.reply ≡ f.reply = a.0.entry.told ∙ sym b.0.entry.told in
          let rest = same-replies (evicted t unit) es fs a.1 b.1 asked.1 in
          λ i. told i ∷ rest i
      | None ↦ λ is a b.
          let agrees : AgreesAlone t e.agent e.op f.reply (judged_alone t e.agent e.op) =
          subst (λ k. AgreesAlone t k e.op f.reply (judged_alone t k e.op)) (sym ask.agent)
          (subst (λ o. AgreesAlone t f.agent o f.reply (judged_alone t f.agent o)) (sym ask.op) b.0.agrees)
          in
          let told : e.reply ≡ f.reply = one-reply t e.agent e.op e.reply f.reply (judged_alone t e.agent e.op) ask.shared a.0.agrees agrees in
          let after : after_reply t f.agent f.op f.reply ≡ after_reply t e.agent e.op e.reply = λ i. after_reply t (sym ask.agent i) (sym ask.op i) (sym told i) in
          let rest = same-replies (after_reply t e.agent e.op e.reply) es fs a.1 (subst (λ x. AloneFrom x fs) after b.1) asked.1 in
          λ i. told i ∷ rest i
    ] refl left other

pub no-trace : OthersLeaveNoTrace
no-trace p o q es fs same =
    same-replies (begun_alone o p) (project o p es) (project q p fs)
    (each-alone o p es same.order same.legal)
    (subst (λ t. AloneFrom t (project q p fs)) (sym same.begun) (each-alone q p fs same.other_order same.other_legal))
    same.asked
