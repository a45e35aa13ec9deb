use Rattle.std.proofs.Common.{arith, sym, ◌∙◌, refl}
use Rattle.opfs_work.proofs.Copying.{covers_none, covers_first, covers_last, covers_ends, true_false}
use Rattle.opfs_work.proofs.table.Table.covers_far.Goals as goal

pub returns-then-to-from : goal.returns-then-to-from
returns-then-to-from c = ((λ is. covers_none c.args.self.now.pages c.args.from c.args.to (omega arith)), (λ covers. refl))

pub returns-then-not-has_whole : goal.returns-then-not-has_whole
returns-then-not-has_whole c = (
  (λ is. absurd (true_false (sym is))),
  (λ covers. sym c.if-not-has_whole.true ∙ c.has_whole.ensures.1 (covers_first c.args.self.now.pages c.args.from c.args.to c.if-to-from.false covers)),
)

pub returns-then-to-eq0 : goal.returns-then-to-eq0
returns-then-to-eq0 c =
    ((λ is. covers_ends c.args.self.now.pages c.args.from c.args.to (c.has_whole.ensures.0 c.if-not-has_whole.false) (λ part. absurd (part c.if-to-eq0.true))), (λ covers. refl))

pub returns : goal.returns
returns c = (
  (λ is. covers_ends c.args.self.now.pages c.args.from c.args.to (c.has_whole.ensures.0 c.if-not-has_whole.false) (λ part. c.has_whole-2.ensures.0 is)),
  (λ covers. c.has_whole-2.ensures.1 (covers_last c.args.self.now.pages c.args.from c.args.to c.if-to-from.false c.if-to-eq0.false covers)),
)
