use Rattle.std.proofs.Common.{◌≡◌, None, Some, sym, subst, arith, rules}
use Rattle.json.specs.Json.{after_end_array}
use Rattle.opfs_script_kept.specs.Reading.Steps.{TakesStep}
use Rattle.opfs_script_kept.proofs.reading.Stepping.{Steps, are-steps, many-steps, no-steps, one-step}
use Rattle.opfs_script_kept.proofs.reading.steps.read_steps.Goals as goal

pub loop-alloc-init : goal.loop-alloc-init
loop-alloc-init c =
    let first = c.args.reader.now in
    let none = c.args.sums.now in
    subst (λ texts. Steps first first texts none none) (sym c.empty-texts.ensures) (no-steps first none)

pub loop-alloc-preserved : goal.loop-alloc-preserved
loop-alloc-preserved c =
    let l = c.loop-alloc in
    let new = c.take_step.new in
    let going : (after_end_array l.reader ≡ None) × (c.take_end_array.new.self ≡ l.reader) = grind arith in
    let takes : TakesStep l.reader new.reader l.texts new.texts l.sums new.sums =
    subst (λ now. TakesStep now new.reader l.texts new.texts l.sums new.sums) going.1 (c.in_ok-take_step.ensures (search rules)) in
    one-step c.args.reader.now l.reader new.reader l.texts new.texts c.args.sums.now l.sums new.sums l.invariant going.0 takes

pub returns-clause-read : goal.returns-clause-read
returns-clause-read c =
    let l = c.loop-alloc in
    let closed : after_end_array l.reader ≡ Some c.take_end_array.new.self = grind arith in
    are-steps c.args.reader.now l.reader c.take_end_array.new.self l.texts c.args.sums.now l.sums l.invariant closed

pub returns-clause-many : goal.returns-clause-many
returns-clause-many c =
    let l = c.loop-alloc in
    many-steps c.args.reader.now l.reader l.texts c.args.sums.now l.sums l.invariant
