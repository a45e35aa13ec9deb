-- A history that the machine makes of its calls is legal, and with another answer it is not.
use Rattle.std.proofs.Common.{◌≡◌, ℕ, zero, suc, Bool, true, false, ◌&&◌, List, [], ◌∷◌, map, refl, sym, ap, ◌∙◌, subst, arith}
use Rattle.std.specs.Prelude.{nat_eq}
use Rattle.std.specs.List.{list_all}
use Rattle.std.specs.Cmp.Lexicographic.{pointwise}
use Rattle.opfs_base.specs.Texts.{Text, same_text}
use Rattle.opfs_hist.specs.Faults.{is_disk_fault}
use Rattle.opfs_hist.specs.declared.entry.Entry.{Entry}
use Rattle.opfs_hist.specs.declared.reply.Refusal.TheVariants as refusal
use Rattle.opfs_hist.specs.declared.reply.Reply.{Reply}
use Rattle.opfs_hist.specs.declared.reply.Reply.TheVariants as reply
use Rattle.opfs_machine.specs.Histories.{Legal, LegalFrom}
use Rattle.opfs_machine.specs.Openings.{Opening, begun}
use Rattle.opfs_machine.specs.Runs.{run, may_run}
use Rattle.opfs_print.specs.Lines.{reply_text}
use Rattle.opfs_examples.specs.Determined.{calls_of, HasNoFault, told_by}
use Rattle.opfs_examples.specs.Trying.{IsAnswered, reply_at, with_reply}
use Rattle.opfs_examples.proofs.Made.{made}
use Rattle.opfs_examples.proofs.Runs.{run-legal}

-- Whether no answer is a disk fault.
abbrev pub is_faultless : List Entry → Bool
is_faultless [] = true
is_faultless (e ∷ es) = elim (is_disk_fault e.reply) [ true ↦ false | false ↦ is_faultless es ]

apart : true ≡ false → ⊥
apart e = cc

sound_by : (r : Reply) (rest : Bool) (b : Bool) → is_disk_fault r ≡ b → elim b [ true ↦ false | false ↦ rest ] ≡ true → (r ≡ reply.No refusal.DiskFault → ⊥) × (rest ≡ true)
sound_by r rest true is h = absurd (apart (sym h))
sound_by r rest false is h = (λ e. apart (ap is_disk_fault (sym e) ∙ is), h)

sound : (es : List Entry) → is_faultless es ≡ true → HasNoFault es
sound [] h = tt
sound (e ∷ es) h = let both = sound_by e.reply (is_faultless es) (is_disk_fault e.reply) refl h in (both.0, sound es both.1)

told_reply : (n : ℕ) (es : List Entry) → reply_at n (map told_by es) ≡ reply_at n es
told_reply n [] = refl
told_reply zero (e ∷ es) = refl
told_reply (suc n) (e ∷ es) = told_reply n es

same_self : (xs : Text) → same_text xs xs ≡ true
same_self [] = refl
same_self (x ∷ xs) = let e : nat_eq x x ≡ true = search (arith) in rw (e, same_self xs) refl

-- texts of answers that differ are those of other answers
differ : (a b : Reply) → same_text (reply_text a) (reply_text b) ≡ false → a ≡ b → ⊥
differ a b other same = apart (sym (same_self (reply_text a)) ∙ ap (λ r. same_text (reply_text a) (reply_text r)) same ∙ other)

pub answered : (o : Opening) (es : List Entry) (place : ℕ) (wrong : Reply)
    → may_run (begun o) (calls_of es) ≡ true → run (begun o) (calls_of es) ≡ es
    → is_faultless (with_reply place wrong es) ≡ true → reply_at place (with_reply place wrong es) ≡ wrong
    → same_text (reply_text wrong) (reply_text (reply_at place es)) ≡ false
    → calls_of (with_reply place wrong es) ≡ calls_of es → IsAnswered o es place wrong
answered o es place wrong may is faultless there other asked = record {
  legal = subst (LegalFrom (begun o) []) is (run-legal (begun o) (calls_of es) may);
  strict = λ h.
      let all : map told_by (with_reply place wrong es) ≡ es = made (begun o) [] (with_reply place wrong es) h (sound (with_reply place wrong es) faultless) ∙ ap (run (begun o)) asked ∙ is in
      differ wrong (reply_at place es) other (sym there ∙ sym (told_reply place (with_reply place wrong es)) ∙ ap (reply_at place) all);
}
