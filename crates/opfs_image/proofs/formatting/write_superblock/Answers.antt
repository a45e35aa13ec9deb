use Rattle.std.proofs.Common.{◌≡◌, inr, refl, ◌∙◌, ap, subst, arith}
use Rattle.std.specs.Prelude.{slice_index, length}
use Rattle.opfs_outside.specs.Bytes.{window}
use Rattle.opfs_image.proofs.Formatted.{zeros_behind}
use Rattle.opfs_image.proofs.formatting.write_superblock.Goals as goal

pub returns-in_err-write-2-clause-behind : goal.returns-in_err-write-2-clause-behind
returns-in_err-write-2-clause-behind g c = λ told i h. c.write-2.ensures.elsewhere told i (inr (omega (arith, h))) ∙ c.write.ensures.elsewhere told i (inr (omega (arith, h)))

pub returns-in_err-sync-clause-behind : goal.returns-in_err-sync-clause-behind
returns-in_err-sync-clause-behind g c = λ told i h. (ap (λ d. slice_index d i) (c.sync.ensures.same told)) ∙ c.write-2.ensures.elsewhere told i (inr (omega (arith, h))) ∙ c.write.ensures.elsewhere told i (inr (omega (arith, h)))

pub returns-clause-head : goal.returns-clause-head
returns-clause-head g c = λ told. ap (λ d. window d 0 24) (c.sync.ensures.same told) ∙ subst (λ h. window (g.D.Disk.content c.write-2.new.self) 0 (length h) ≡ h) c.head.ensures (c.in_ok-write-2.ensures.written told)

pub returns-clause-behind : goal.returns-clause-behind
returns-clause-behind g c = λ told i h. (ap (λ d. slice_index d i) (c.sync.ensures.same told)) ∙ c.write-2.ensures.elsewhere told i (inr (omega (arith, h))) ∙ c.write.ensures.elsewhere told i (inr (omega (arith, h)))

pub returns-clause-zeros : goal.returns-clause-zeros
returns-clause-zeros g c = λ told i least most.
    ap (λ d. slice_index d i) (c.sync.ensures.same told)
    ∙ c.write-2.ensures.elsewhere told i (inr (omega (arith, least)))
    ∙ zeros_behind (g.D.Disk.content c.write.new.self) _ 4072 refl refl (c.in_ok-write.ensures.written told) i least (omega (arith, most))
