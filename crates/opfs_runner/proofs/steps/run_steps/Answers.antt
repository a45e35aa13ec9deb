use Rattle.std.proofs.Common.{◌≡◌, ℕ, ◌+◌, ◌<◌, Bool, true, List, drop, get_or, length, refl, sym, ap, ◌∙◌, subst, arith}
use Rattle.opfs_script.specs.declared.step.Step.{Step}
use Rattle.opfs_script.specs.Limits.{keeps_bounds}
use Rattle.opfs_runner.specs.Stepping.{IsStepped}
use Rattle.opfs_runner.proofs.Way.{UnderWay, none-closes, step-next, step-fits, key-fine, few-steps, stop-few, way-enters, way-more, way-room, way-stops, way-ends}
use Rattle.opfs_runner.proofs.steps.run_steps.Given.{Over}
use Rattle.opfs_runner.proofs.steps.run_steps.Goals as goal
use Rattle.opfs_runner.proofs.steps.run_steps.Goals.{After-make_step-done}

pub returns-in_default-clause-closes : goal.returns-in_default-clause-closes
returns-in_default-clause-closes g c =
    none-closes g.S.Store.tells c.args.script.now c.args.agent.now c.args.agent_rows.now.items c.requires.ready.fresh c.requires.ready.pending c.requires.ready.number c.requires.none

pub make_step-done-requires-clause-bounds : goal.make_step-done-requires-clause-bounds
make_step-done-requires-clause-bounds g c =
    let i = c.loop-step.step-index in
    let within : i < length c.args.script.now.steps = subst (λ (xs : List Step). i < length xs) c.steps-steps.ensures.steps c.loop-step-test.true in
    let item = c.step-item.is ∙ ap (λ (xs : List Step). get_or xs i c.step-item.result) c.steps-steps.ensures.steps in
    subst (λ (s : Step). keeps_bounds s ≡ true) (sym item) (step-fits c.args.script.now c.steps-steps.ensures.limits i c.step-item.result within)

pub returns-then-not-done-clause-few : goal.returns-then-not-done-clause-few
returns-then-not-done-clause-few g c =
    let i = c.loop-step.step-index in
    let within : i < length c.args.script.now.steps = subst (λ (xs : List Step). i < length xs) c.steps-steps.ensures.steps c.loop-step-test.true in
    let way = c.loop-step.invariant.0 in
    let few = few-steps c.args.script.now c.steps-steps.ensures.limits in
    stop-few g.S.Store.tells c.loop-step.agent c.make_step-done.new.agent c.loop-step.agent_rows.items c.make_step-done.new.agent_rows.items c.loop-step.hand c.make_step-done.new.hand c.step-item.result
    i (omega (arith, within, few)) way.entries way.rows (subst (λ (b : Bool). IsStepped g.S.Store.tells c.loop-step.agent c.make_step-done.new.agent c.loop-step.agent_rows.items c.make_step-done.new.agent_rows.items c.loop-step.hand c.make_step-done.new.hand c.step-item.result b) c.if-not-done.true c.make_step-done.ensures)

pub returns-then-not-done-clause-closes : goal.returns-then-not-done-clause-closes
returns-then-not-done-clause-closes g c =
    let asked = c.args.script.now in
    let i = c.loop-step.step-index in
    let s = c.step-item.result in
    let within : i < length asked.steps = subst (λ (xs : List Step). i < length xs) c.steps-steps.ensures.steps c.loop-step-test.true in
    let item = c.step-item.is ∙ ap (λ (xs : List Step). get_or xs i s) c.steps-steps.ensures.steps in
    let fits = subst (λ (x : Step). keeps_bounds x ≡ true) (sym item) (step-fits asked c.steps-steps.ensures.limits i s within) in
    way-stops g.S.Store.tells asked c.args.agent.now.pass c.loop-step.agent c.make_step-done.new.agent c.loop-step.agent_rows.items c.make_step-done.new.agent_rows.items c.loop-step.hand c.make_step-done.new.hand i s
    (drop (i + 1) asked.steps) (key-fine asked c.steps-steps.ensures.limits) c.loop-step.invariant.0 (step-next asked i s item within) fits (subst (λ (b : Bool). IsStepped g.S.Store.tells c.loop-step.agent c.make_step-done.new.agent c.loop-step.agent_rows.items c.make_step-done.new.agent_rows.items c.loop-step.hand c.make_step-done.new.hand s b) c.if-not-done.true c.make_step-done.ensures)

-- How far the script is once a step was made.
made : (g : Over) (c : After-make_step-done g) → c.make_step-done.result ≡ true
    → UnderWay g.S.Store.tells c.args.script.now c.args.agent.now.pass c.make_step-done.new.agent c.make_step-done.new.agent_rows.items c.make_step-done.new.hand (c.loop-step.step-index + 1)
made g c well =
    let asked = c.args.script.now in
    let i = c.loop-step.step-index in
    let s = c.step-item.result in
    let within : i < length asked.steps = subst (λ (xs : List Step). i < length xs) c.steps-steps.ensures.steps c.loop-step-test.true in
    let item = c.step-item.is ∙ ap (λ (xs : List Step). get_or xs i s) c.steps-steps.ensures.steps in
    let fits = subst (λ (x : Step). keeps_bounds x ≡ true) (sym item) (step-fits asked c.steps-steps.ensures.limits i s within) in
    way-more g.S.Store.tells asked c.args.agent.now.pass c.loop-step.agent c.make_step-done.new.agent c.loop-step.agent_rows.items c.make_step-done.new.agent_rows.items c.loop-step.hand c.make_step-done.new.hand i s
    (drop (i + 1) asked.steps) (key-fine asked c.steps-steps.ensures.limits) c.loop-step.invariant.0 (step-next asked i s item within) fits refl (subst (λ (b : Bool). IsStepped g.S.Store.tells c.loop-step.agent c.make_step-done.new.agent c.loop-step.agent_rows.items c.make_step-done.new.agent_rows.items c.loop-step.hand c.make_step-done.new.hand s b) well c.make_step-done.ensures)

pub enter_at-requires-clause-room : goal.enter_at-requires-clause-room
enter_at-requires-clause-room g c =
    let i = c.loop-step.step-index in
    let within : i < length c.args.script.now.steps = subst (λ (xs : List Step). i < length xs) c.steps-steps.ensures.steps c.loop-step-test.true in
    let few = few-steps c.args.script.now c.steps-steps.ensures.limits in
    way-room g.S.Store.tells c.args.script.now c.args.agent.now.pass c.make_step-done.new.agent c.make_step-done.new.agent_rows.items c.make_step-done.new.hand (i + 1) (made g (goal.at.enter_at-requires-clause-room g c).After-make_step-done c.if-not-done.false) (omega (arith, within, few))

pub loop-step-preserved : goal.loop-step-preserved
loop-step-preserved g c = (
  way-enters g.S.Store.tells c.args.script.now c.args.agent.now.pass c.make_step-done.new.agent c.enter_at.new.agent c.make_step-done.new.agent_rows.items c.make_step-done.new.hand (c.loop-step.step-index + 1)
      (made g (goal.at.loop-step-preserved g c).After-make_step-done c.if-not-done.false) c.enter_at.ensures,
  ap (λ (n : ℕ). n + 1) c.loop-step.invariant.1,
)

pub returns-clause-closes : goal.returns-clause-closes
returns-clause-closes g c =
    let same : length c.steps-steps.result.now ≡ length c.args.script.now.steps = ap length c.steps-steps.ensures.steps in
    way-ends g.S.Store.tells c.args.script.now c.args.agent.now.pass c.loop-step.agent c.loop-step.agent_rows.items c.loop-step.hand c.loop-step.step-index c.loop-step.invariant.0
    (omega (arith, same, c.loop-step-test.false, c.loop-step.auto.step-index-end))
