use Rattle.std.proofs.Common.{◌/◌, ◌*◌, ◌<◌, length, arith}
use Rattle.opfs_work.proofs.Places.{byte_apart}
use Rattle.opfs_work.proofs.Changing.{work_filled, filled_less, between_less}
use Rattle.opfs_work.proofs.work.Work.resize_far.Goals as goal

pub invariant_of-self : goal.invariant_of-self
invariant_of-self c = (
  work_filled c.self.inside.table.pages c.fill_far.new.self.pages _ _ c.self.inside.length c.args.size _ c.self.invariant.0 (omega (arith, c.if-self-size.true)) c.fill_far.ensures.room
      (omega (arith, c.fill_far.ensures.length, c.blocks-then-self-size.ensures, c.self.invariant.0.pages_are)) (λ k from below. c.fill_far.ensures.far k from (omega (arith, c.blocks-then-self-size.ensures))) c.fill_far.ensures.same,
  between_less c.self.inside.table.pages c.fill_far.new.self.pages _ _ c.self.invariant.1
      (filled_less c.self.inside.table.pages c.fill_far.new.self.pages _ c.fill_far.ensures.length c.fill_far.ensures.far c.fill_far.ensures.same),
)

pub returns-then-self-size-clause-bytes : goal.returns-then-self-size-clause-bytes
returns-then-self-size-clause-bytes c = λ far i there below.
    let inside : i < 4096 * length c.self.inside.table.pages = rw (← c.self.view_is) at there in
    rw (← c.self.view_is) (byte_apart far c.self.inside.table.pages c.fill_far.new.self.pages i (c.fill_far.ensures.same (i / 4096) (omega arith)))
