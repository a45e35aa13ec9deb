use Rattle.std.proofs.Common.{cond, refl, sym, ap, ◌∙◌}
use Rattle.opfs_base.specs.Measures.{mode_charge}
use Rattle.opfs_machine.specs.Ordered.{insert_by}
use Rattle.opfs_machine.specs.Sums.{is_persistent}
use Rattle.opfs_shed.specs.Buckets.{text_cmp}
use Rattle.opfs_state_rows.specs.Standing.Seen.{Seen, is_known}
use Rattle.opfs_state_rows.proofs.standing.Made.{known-unit}
use Rattle.opfs_state_rows.proofs.standing.Persisted.{persisted-machine, persisted-tied}
use Rattle.opfs_state_rows.proofs.standing.Stores.{units-kept, prepared-same, same-register}
use Rattle.opfs_state_rows.proofs.standing.standing.Standing.persist.Goals as goal

pub set_persistent-requires : goal.set_persistent-requires
set_persistent-requires c = (known-unit c.self.inside.shed c.self.inside.pool c.args.unit.now c.self.invariant.shared (ap (λ (s : Seen). is_known c.args.unit.now s.prepared) c.self.view_is ∙ c.requires.known)).bucket

pub mark-requires : goal.mark-requires
mark-requires c = (known-unit c.self.inside.shed c.self.inside.pool c.args.unit.now c.self.invariant.shared (ap (λ (s : Seen). is_known c.args.unit.now s.prepared) c.self.view_is ∙ c.requires.known)).share

pub invariant_of-self : goal.invariant_of-self
invariant_of-self c =
    persisted-tied c.self.inside.tree.rows c.self.inside.shed c.set_persistent.new.self c.self.inside.register c.args.unit.now (known-unit c.self.inside.shed c.self.inside.pool c.args.unit.now c.self.invariant.shared (ap (λ (s : Seen). is_known c.args.unit.now s.prepared) c.self.view_is ∙ c.requires.known)).bucket c.set_persistent.ensures.ordered c.set_persistent.ensures.bucket c.self.inside.pool c.mark.new.pool c.self.inside.fixed c.args.more c.self.inside.root c.self.invariant (known-unit c.self.inside.shed c.self.inside.pool c.args.unit.now c.self.invariant.shared (ap (λ (s : Seen). is_known c.args.unit.now s.prepared) c.self.view_is ∙ c.requires.known)).share
    (c.requires.charge ∙ sym (ap (λ (s : Seen). cond (is_persistent s.machine c.args.unit.now) 0 (mode_charge c.args.unit.now)) c.self.view_is)) c.set_persistent.ensures.usage c.mark.ensures

pub returns-clause-machine : goal.returns-clause-machine
returns-clause-machine c =
    persisted-machine c.self.inside.tree.rows c.self.inside.shed c.set_persistent.new.self c.self.inside.register c.args.unit.now (known-unit c.self.inside.shed c.self.inside.pool c.args.unit.now c.self.invariant.shared (ap (λ (s : Seen). is_known c.args.unit.now s.prepared) c.self.view_is ∙ c.requires.known)).bucket c.set_persistent.ensures.ordered c.set_persistent.ensures.bucket
    ∙ ap (λ (s : Seen). record s.machine { persistent = insert_by text_cmp c.args.unit.now s.machine.persistent }) c.self.view_is

pub returns-clause-prepared : goal.returns-clause-prepared
returns-clause-prepared c =
    prepared-same c.self.inside.tree.ready c.self.inside.tree.ready c.self.inside.pool.shares c.mark.new.pool.shares c.self.inside.register c.self.inside.register refl
    (units-kept c.self.inside.pool c.mark.new.pool _ _ c.mark.ensures)
    (same-register c.self.inside.register)
    ∙ ap (λ (s : Seen). s.prepared) c.self.view_is
