use Rattle.opfs_work.proofs.Changing.{work_settled, between_less, forgot_zero, forgot_less}
use Rattle.opfs_work.proofs.work.Work.forget.Goals as goal

pub invariant_of-self : goal.invariant_of-self
invariant_of-self c = (
  work_settled c.self.inside.table.pages c.forget.new.self.pages _ _ _ _ c.self.invariant.0 c.forget.ensures.room c.forget.ensures.length
      (forgot_zero c.self.inside.table.pages c.forget.new.self.pages c.args.from c.args.to c.forget.ensures.far c.forget.ensures.others),
  between_less c.self.inside.table.pages c.forget.new.self.pages _ _ c.self.invariant.1 (forgot_less c.self.inside.table.pages c.forget.new.self.pages c.args.from c.args.to c.forget.ensures.far c.forget.ensures.others),
)
