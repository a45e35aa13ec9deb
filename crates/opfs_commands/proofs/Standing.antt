-- Answers to refusals.
use Rattle.std.proofs.Common.{◌≡◌, ◌≢◌, ℕ, List, refl, sym, subst}
use Rattle.std.specs.Prelude.{Result, Err, IfOk}
use Rattle.std.proofs.lemmas.Result.{IfOk-weaker}
use Rattle.std.specs.declared.alloc.AllocError.{AllocError}
use Rattle.opfs_outside.specs.Faults.{Rose}
use Rattle.opfs_print.specs.Status.{status_text}
use Rattle.opfs_print.specs.declared.end.End.TheVariants as end
use Rattle.opfs_image.specs.declared.refusal.ImageRefusal.{ImageRefusal}
use Rattle.opfs_image.specs.declared.refusal.ImageRefusal.TheVariants as image
use Rattle.opfs_commands.specs.Telling.{IsLineOf, IsImageLine, IsAnswer}
use Rattle.opfs_commands.specs.declared.answers.ToolAnswer.{ToolAnswer}
use Rattle.opfs_commands.specs.declared.answers.ToolEnd.TheVariants as tool_end
use Rattle.opfs_image.specs.Reading.{Image}

-- an answer to a refusal
module _ (tells : Type 0) (Done : List ℕ → Type 0) (read : Result Image ImageRefusal) (r : Result ToolAnswer AllocError) (old new : ℕ) where
  abbrev Wanted : ToolAnswer → Type 0
  Wanted a = IsAnswer tells Done (IsImageLine read) (Rose old new) a.end a.text

  abbrev Refused : ImageRefusal → Type 0
  Refused why = why ≢ image.DiskFault → why ≢ image.NoMemory → tells → read ≡ Err why

  abbrev Line : ImageRefusal → Type 0
  Line why = why ≢ image.DiskFault → IfOk r (λ a. (a.end ≡ tool_end.Image) × IsLineOf why a.text)

  by_image : (why : ImageRefusal) → (why ≡ image.DiskFault → ⊥) → (why ≡ image.NoMemory → ⊥) → Refused why → Line why → IfOk r Wanted
  by_image why no_fault no_want refused line =
      IfOk-weaker r _ _ (λ a is. subst (λ e. IsAnswer tells Done (IsImageLine read) (Rose old new) e a.text) (sym is.0) (λ told. record { why = why; refused = refused no_fault no_want told; line = is.1 })) (line no_fault)

  pub refused_answer : (why : ImageRefusal) → (why ≡ image.DiskFault → Rose old new) → (why ≡ image.DiskFault → IfOk r (λ a. (a.end ≡ tool_end.Host) × (a.text ≡ status_text end.Host)))
      → (why ≡ image.NoMemory → IfOk r (λ a. ⊥)) → Refused why → Line why → IfOk r Wanted
  refused_answer image.Short cause fault memory refused line = by_image image.Short (λ e. absurd (cc e)) (λ e. absurd (cc e)) refused line
  refused_answer image.Magic cause fault memory refused line = by_image image.Magic (λ e. absurd (cc e)) (λ e. absurd (cc e)) refused line
  refused_answer image.Geometry cause fault memory refused line = by_image image.Geometry (λ e. absurd (cc e)) (λ e. absurd (cc e)) refused line
  refused_answer image.NoArea cause fault memory refused line = by_image image.NoArea (λ e. absurd (cc e)) (λ e. absurd (cc e)) refused line
  refused_answer (image.BadRecord p) cause fault memory refused line = by_image (image.BadRecord p) (λ e. absurd (cc e)) (λ e. absurd (cc e)) refused line
  refused_answer image.NotOld cause fault memory refused line = by_image image.NotOld (λ e. absurd (cc e)) (λ e. absurd (cc e)) refused line
  refused_answer image.Old cause fault memory refused line = by_image image.Old (λ e. absurd (cc e)) (λ e. absurd (cc e)) refused line
  refused_answer (image.Overfull p q) cause fault memory refused line = by_image (image.Overfull p q) (λ e. absurd (cc e)) (λ e. absurd (cc e)) refused line
  refused_answer image.DiskFault cause fault memory refused line =
      IfOk-weaker r _ _ (λ a is. subst (λ e. IsAnswer tells Done (IsImageLine read) (Rose old new) e a.text) (sym is.0) (cause refl, is.1)) (fault refl)
  refused_answer image.NoMemory cause fault memory refused line = IfOk-weaker r _ _ (λ a is. absurd is) (memory refl)
