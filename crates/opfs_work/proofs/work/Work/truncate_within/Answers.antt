use Rattle.std.proofs.Common.{◌≡◌, ◌<◌, ℕ, arith, ap, ◌∙◌}
use Rattle.opfs_work.specs.Pages.{byte_at}
use Rattle.opfs_work.specs.Works.{WorkingCopy}
use Rattle.opfs_work.proofs.Holding.{cut_law}
use Rattle.opfs_work.proofs.Writing.{shrunk_stored}
use Rattle.opfs_work.proofs.work.Work.truncate_within.Goals as goal
use Rattle.opfs_work.proofs.work.Work.truncate_within.Goals.{then-self-size, else-self-size}

pub returns-clause-bytes : goal.returns-clause-bytes
returns-clause-bytes c = λ far.
    elim c.if-self-size.branch [
      | then-self-size w ↦ rw (← (c.self-2.view_is ∙ w.self-is)) at (w.lengthen.ensures.bytes far)
      | else-self-size w ↦
          let size : c.self-2.inside.length ≡ c.args.size = rw (← (c.self-2.view_is ∙ w.self-is)) at w.shrink.ensures.length in
          let same : (far : ℕ → ℕ) (i : ℕ) → i < c.args.size → byte_at far c.self-2.inside.table.pages i ≡ byte_at far c.self.inside.table.pages i =
          rw (← (c.self-2.view_is ∙ w.self-is), ← c.self.view_is) at w.shrink.ensures.same in
          rw (size, ← c.self.view_is) (cut_law far c.self.inside.table.pages c.self-2.inside.table.pages c.self.inside.length c.args.size (omega (arith, w.if-self-size.false)) (same far))
    ]

pub returns-clause-stored : goal.returns-clause-stored
returns-clause-stored c = λ k below stored.
    elim c.if-self-size.branch [
      | then-self-size w ↦ (rw (← (c.self-2.view_is ∙ w.self-is)) at w.lengthen.ensures.stored) k stored
      | else-self-size w ↦
          (rw (← (c.self-2.view_is ∙ w.self-is)) at (shrunk_stored c.args.self.now w.shrink.new.self c.args.size k (omega (arith, w.if-self-size.false, ap (λ (w : WorkingCopy). w.length) c.self.view_is)) (w.shrink.ensures.held k below) w.shrink.ensures.rest)) stored
    ]
