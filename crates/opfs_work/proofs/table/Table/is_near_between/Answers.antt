use Rattle.std.proofs.Common.{arith, sym, ◌∙◌, refl}
use Rattle.opfs_work.proofs.Copying.{true_false}
use Rattle.opfs_work.proofs.Reading.{near_none, near_at, near_all}
use Rattle.opfs_work.proofs.table.Table.is_near_between.Goals as goal

pub returns-then-to-from : goal.returns-then-to-from
returns-then-to-from c = ((λ is. near_none c.args.self.now.pages c.args.from c.args.to (omega arith)), (λ near. refl))

pub returns-then-is_far : goal.returns-then-is_far
returns-then-is_far c = (
  (λ is. absurd (true_false (sym is))),
  (λ near. sym (near_at c.args.self.now.pages c.args.from c.args.to c.loop-page.page near c.if-to-from.false c.loop-page.auto.page (omega (arith, c.loop-page-test.true, c.blocks-page-end.ensures))) ∙ sym c.is_far.ensures ∙ c.if-is_far.true),
)

pub returns : goal.returns
returns c =
    ((λ is. near_all c.args.self.now.pages c.args.from c.args.to (λ k first last. c.loop-page.invariant k first (omega (arith, c.loop-page-test.false, c.blocks-page-end.ensures)))), (λ near. refl))
