use Rattle.std.proofs.Common.{sym, ap, ◌∙◌, map}
use Rattle.opfs_rulings.specs.Known.{freed}
use Rattle.opfs_rulings.proofs.Clearing.{front_stops, front_fails, front_more, none_left}
use Rattle.opfs_rulings.proofs.room.shortest_front.Goals as goal

pub returns-then-branch : goal.returns-then-branch
returns-then-branch c =
    front_stops c.args.state.now c.args.need c.loop-unit.held c.loop-unit.gone.items (map (λ e. e.1) c.loop-unit.left.keys) _
    c.loop-unit.invariant.0 c.loop-unit.invariant.1 (sym c.in_ok-fits_beside.ensures ∙ c.if-branch.true)

pub loop-unit-preserved : goal.loop-unit-preserved
loop-unit-preserved c =
    front_more c.args.state.now c.args.need c.loop-unit.held _ _ c.loop-unit.gone.items _ _ c.loop-unit.left.keys _ _
    c.loop-unit.invariant.0 c.loop-unit.invariant.1 (sym c.in_ok-fits_beside.ensures ∙ c.if-branch.false) c.in-Some.ensures.removal
    (c.in_ok-freed.ensures ∙ ap (λ units. freed units c.in-Some.unit c.args.state.now.rows) c.as_slice.ensures.value)
    c.saturating_sub-held.ensures c.in_ok-push.ensures.items

pub returns-then-branch-2 : goal.returns-then-branch-2
returns-then-branch-2 c =
    front_stops c.args.state.now c.args.need c.loop-unit.held c.loop-unit.gone.items (map (λ e. e.1) c.loop-unit.left.keys) _
    c.loop-unit.invariant.0 c.loop-unit.invariant.1 (sym c.in_ok-fits_beside-2.ensures ∙ c.if-branch-2.true)

pub returns : goal.returns
returns c =
    front_fails c.args.state.now c.args.need c.loop-unit.held c.loop-unit.gone.items (map (λ e. e.1) c.loop-unit.left.keys) _
    c.loop-unit.invariant.0 c.loop-unit.invariant.1 (none_left c.loop-unit.left.keys c.in_default.ensures.variant.1) (sym c.in_ok-fits_beside-2.ensures ∙ c.if-branch-2.false)
