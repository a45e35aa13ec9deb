use Rattle.std.proofs.Common.{◌-◌, arith}
use Rattle.std.specs.List.{slice_range}
use Rattle.opfs_pages.proofs.PageBytes.{not_reached, written_over, range_bytes, range_length}
use Rattle.opfs_pages.proofs.bytes.overlay.Goals as goal

pub returns-then-to-from-clause-written : goal.returns-then-to-from-clause-written
returns-then-to-from-clause-written c = λ old is.
    not_reached old c.args.given.now c.args.into.now c.args.page c.args.at c.max-from.result c.min-to.result (omega (arith, c.max-from.ensures)) (omega (arith, c.min-to.ensures)) (omega (arith, c.if-to-from.true)) is

pub returns-clause-written : goal.returns-clause-written
returns-clause-written c = λ old is.
    written_over old c.args.given.now c.args.into.now c.copy_into.new.bytes (slice_range c.args.given.now (c.max-from.result - c.args.at) (c.min-to.result - c.args.at)) c.args.page c.args.at c.max-from.result c.min-to.result _ (omega (arith, c.max-from.ensures)) (omega (arith, c.min-to.ensures)) (omega (arith, c.if-to-from.false)) (omega (arith, c.max-from.ensures))
    (range_length c.args.given.now (c.max-from.result - c.args.at) (c.min-to.result - c.args.at) (c.min-to.result - c.max-from.result) (omega (arith, c.max-from.ensures, c.if-to-from.false)) (omega (arith, c.min-to.ensures)))
    (λ j below. range_bytes c.args.given.now (c.max-from.result - c.args.at) (c.min-to.result - c.args.at) j (omega (arith, c.max-from.ensures)))
    c.copy_into.ensures.inside c.copy_into.ensures.before c.copy_into.ensures.behind c.copy_into.ensures.size is
