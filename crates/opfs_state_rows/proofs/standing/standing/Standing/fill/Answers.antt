use Rattle.std.proofs.Common.{None, ◌≡◌, ℕ, ◌+◌, Some, sym, ap, subst, ◌∙◌}
use Rattle.opfs_machine.specs.declared.state.Row.{Row as Line}
use Rattle.opfs_machine.specs.Contents.{in_lengths}
use Rattle.opfs_machine.specs.Effects.{new_row as machine_row}
use Rattle.opfs_machine.specs.Rows.{with_row}
use Rattle.opfs_tree.specs.Ready.Ready.{new_row}
use Rattle.opfs_state_rows.specs.Standing.Seen.{Seen, machine_of, is_known}
use Rattle.opfs_state_rows.specs.Standing.Tied.{IsTied}
use Rattle.opfs_state_rows.proofs.standing.Made.{made-machine, made-tied, line-new, charge-new, bare-new, known-unit}
use Rattle.opfs_state_rows.proofs.standing.Stores.{units-kept, prepared-same, same-register}
use Rattle.opfs_state_rows.proofs.standing.standing.Standing.fill.Goals as goal

pub mark-requires : goal.mark-requires
mark-requires c = (known-unit c.self.inside.shed c.self.inside.pool c.args.unit.now c.self.invariant.shared (ap (λ (s : Seen). is_known c.args.unit.now s.prepared) c.self.view_is ∙ c.requires.known)).share

pub invariant_of-self : goal.invariant_of-self
invariant_of-self c =
    let kind = c.requires.ready.kind in
    let row = new_row kind c.args.stamp in
    let stands : c.self.inside.tree.ready ≡ Some ((c.args.unit.now, c.args.path.now), kind) = ap (λ (s : Seen). s.prepared.place) c.self.view_is ∙ c.requires.ready.is in
    subst (λ (n : ℕ). IsTied (machine_of c.fill.new.self.rows c.self.inside.shed.buckets c.self.inside.register) c.self.inside.shed c.mark.new.pool (c.self.inside.fixed + n) c.self.inside.root) (charge-new kind c.args.stamp (c.args.unit.now, c.args.path.now) ∙ sym c.requires.ready.charge)
    (made-tied c.self.inside.tree.rows c.fill.new.self.rows c.self.inside.shed c.self.inside.pool c.self.inside.register c.self.inside.fixed c.self.inside.root c.args.unit.now c.args.path.now row (c.fill.ensures.rows (c.args.unit.now, c.args.path.now) kind stands) c.self.invariant
    (known-unit c.self.inside.shed c.self.inside.pool c.args.unit.now c.self.invariant.shared (ap (λ (s : Seen). is_known c.args.unit.now s.prepared) c.self.view_is ∙ c.requires.known))
    (c.fill.ensures.free (c.args.unit.now, c.args.path.now) kind stands) (bare-new kind c.args.stamp) c.mark.new.pool c.mark.ensures)

pub returns-clause-machine : goal.returns-clause-machine
returns-clause-machine c = λ kind is.
    let stands : c.self.inside.tree.ready ≡ Some ((c.args.unit.now, c.args.path.now), kind) = ap (λ (s : Seen). s.prepared.place) c.self.view_is ∙ is in
    made-machine c.self.inside.tree.rows c.fill.new.self.rows c.self.inside.shed c.self.inside.pool c.self.inside.register c.self.inside.fixed c.self.inside.root c.args.unit.now c.args.path.now (new_row kind c.args.stamp) (c.fill.ensures.rows (c.args.unit.now, c.args.path.now) kind stands)
    ∙ (ap (λ (r : Line ℕ). with_row (machine_of c.self.inside.tree.rows c.self.inside.shed.buckets c.self.inside.register) (c.args.unit.now, c.args.path.now) r) (line-new kind c.args.stamp)
    ∙ ap (λ (s : Seen). with_row s.machine (c.args.unit.now, c.args.path.now) (machine_row in_lengths kind c.args.stamp)) c.self.view_is)

pub returns-clause-prepared : goal.returns-clause-prepared
returns-clause-prepared c =
    prepared-same None c.fill.new.self.ready c.self.inside.pool.shares c.mark.new.pool.shares c.self.inside.register c.self.inside.register c.fill.ensures.ready
    (units-kept c.self.inside.pool c.mark.new.pool _ _ c.mark.ensures) (same-register c.self.inside.register)
    ∙ ap (λ (s : Seen). record s.prepared { place = None }) c.self.view_is
