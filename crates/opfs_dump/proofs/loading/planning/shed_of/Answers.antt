use Rattle.std.proofs.Common.{◌≡◌, ℕ, ◌+◌, ◌<◌, List, ◌∷◌, ◌++◌, take, drop, length, sym, ap, ◌∙◌, arith}
use Rattle.std.proofs.lemmas.List.{take_all, take-append-drop}
use Rattle.opfs_base.specs.Texts.{Text}
use Rattle.opfs_records.specs.Replay.Sums.{persistent_in}
use Rattle.opfs_shed.specs.Buckets.{Storage}
use Rattle.opfs_dump.specs.Text.Limits.{is_rising}
use Rattle.opfs_dump.proofs.loading.Modes.{below_next, modes_of, persisted, persistent_modes}
use Rattle.opfs_dump.proofs.loading.Orders.{drop_next, take_next}
use Rattle.opfs_dump.proofs.loading.planning.shed_of.Goals as goal

pub loop-unit-init : goal.loop-unit-init
loop-unit-init c = ap (λ (s : Storage). s.buckets) c.make-shed.ensures

pub loop-unit-preserved : goal.loop-unit-preserved
loop-unit-preserved c =
    let units : List Text = c.args.units.now in
    let i : ℕ = c.loop-unit.unit-index in
    let unit : Text = c.unit-item.result in
    let lt : i < length units = omega (arith, c.loop-unit-test.true, c.loop-unit.auto) in
    let parts : take i units ++ unit ∷ drop (i + 1) units ≡ units = ap (λ xs. take i units ++ xs) (sym (drop_next units i unit c.unit-item.is lt)) ∙ take-append-drop i units in
    let below = below_next (take i units) unit (drop (i + 1) units) (ap is_rising parts ∙ c.requires) in
    persisted unit (take i units) c.loop-unit.shed c.touch.new.self c.set_persistent.new.self below c.loop-unit.invariant c.in_ok-touch.ensures.touched c.set_persistent.ensures.bucket
    ∙ ap modes_of (sym (take_next units i unit c.unit-item.is lt))

pub returns : goal.returns
returns c =
    ap persistent_in c.loop-unit.invariant
    ∙ (persistent_modes (take c.loop-unit.unit-index c.args.units.now) ∙ take_all c.loop-unit.unit-index c.args.units.now c.loop-unit-test.false)
