use Rattle.std.proofs.Common.{length, refl, sym, ap, subst, ◌∙◌, arith}
use Rattle.std.specs.Option.{option_copied}
use Rattle.std.proofs.lemmas.Bool.{false≢true}
use Rattle.opfs_records.proofs.checkpoint.Left.{AllKeys}
use Rattle.opfs_records.proofs.checkpoint.Ordered.{behind_next, behind_none}
use Rattle.opfs_records.proofs.checkpoint.checks.are_units.Goals as goal

pub loop-unit-preserved : goal.loop-unit-preserved
loop-unit-preserved c =
    let next = behind_next (option_copied c.loop-unit.last) c.in-Some.unit.now c.args.shed.now.buckets c.in-Some.ensures.ordered (sym c.in-Some.ensures.first) in
    let here = c.is_key.ensures.0 c.if-not-is_key.false in
    (λ all. c.loop-unit.invariant.0 (subst AllKeys (sym next) (here, all)), λ all. (subst AllKeys next (c.loop-unit.invariant.1 all)).1)

pub loop-unit-smaller : goal.loop-unit-smaller
loop-unit-smaller c =
    let next = behind_next (option_copied c.loop-unit.last) c.in-Some.unit.now c.args.shed.now.buckets c.in-Some.ensures.ordered (sym c.in-Some.ensures.first) in
    omega (arith, ap length next)

pub returns-then-not-is_key : goal.returns-then-not-is_key
returns-then-not-is_key c =
    let next = behind_next (option_copied c.loop-unit.last) c.in-Some.unit.now c.args.shed.now.buckets c.in-Some.ensures.ordered (sym c.in-Some.ensures.first) in
    (λ h. absurd cc, λ all. absurd (false≢true (sym c.if-not-is_key.true ∙ c.is_key.ensures.1 (subst AllKeys next (c.loop-unit.invariant.1 all)).0)))

pub returns : goal.returns
returns c =
    let none = behind_none (option_copied c.loop-unit.last) c.args.shed.now.buckets (sym c.in_default.ensures.first) in
    (λ h. c.loop-unit.invariant.0 (subst AllKeys (sym none) tt), λ all. refl)
