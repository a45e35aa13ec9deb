use Rattle.std.proofs.Common.{sym, ap, ◌∙◌, arith}
use Rattle.opfs_work.specs.Pages.{is_changed}
use Rattle.opfs_work.proofs.Holding.{work_stretched}
use Rattle.opfs_work.proofs.Changing.{between_less}
use Rattle.opfs_work.proofs.work.Work.stretch.Goals as goal

pub invariant_of-self : goal.invariant_of-self
invariant_of-self c = (
  work_stretched c.self.inside.table.pages _ c.self.inside.table.room _ c.self.inside.length c.args.size c.self.inside.reserve c.self.invariant.0 (omega (arith, c.if-self-size.true)) c.stretch.ensures.room
      (omega (arith, c.stretch.ensures.length, c.blocks-then-self-size.ensures)) c.stretch.ensures.same,
  between_less c.self.inside.table.pages c.stretch.new.self.pages _ _ c.self.invariant.1 (λ k changed. sym (ap is_changed (c.stretch.ensures.same k)) ∙ changed),
)
