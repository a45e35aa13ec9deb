use Rattle.std.proofs.Common.{sym, ap, subst, ◌∙◌, refl}
use Rattle.opfs_machine.specs.declared.own.Outline.TheVariants as outline
use Rattle.opfs_state_rows.specs.Standing.Open.{IsHandleAt}
use Rattle.opfs_state_rows.specs.Standing.Seen.{Seen, machine_of, with_slot_at}
use Rattle.opfs_state_rows.proofs.standing.OpenHandles.{handle-blocks, handle-closed-machine, handle-closed-tied}
use Rattle.opfs_state_rows.proofs.standing.Stores.{units-kept, prepared-same, agents-stand}
use Rattle.opfs_state_rows.proofs.standing.AgentMoves.{own-slots}
use Rattle.opfs_state_rows.proofs.standing.standing.Standing.close_handle.Goals as goal

pub lower-requires : goal.lower-requires
lower-requires c =
    let w = c.close_handle-handle.result in
    let found = c.close_handle-handle.ensures.handle in
    let at : IsHandleAt (machine_of c.self.inside.tree.rows c.self.inside.shed.buckets c.self.inside.register) c.args.at c.args.n = subst (λ (s : Seen). IsHandleAt s.machine c.args.at c.args.n) (sym c.self.view_is) c.requires.handle in
    rw (c.outline.ensures, c.outline-2.ensures) (handle-blocks c.self.inside.tree.rows c.self.inside.shed c.self.inside.pool c.self.inside.register c.self.inside.fixed c.self.inside.root c.args.at c.args.n w c.self.invariant found (at.there w found))

pub invariant_of-self : goal.invariant_of-self
invariant_of-self c =
    let w = c.close_handle-handle.result in
    let found = c.close_handle-handle.ensures.handle in
    let at : IsHandleAt (machine_of c.self.inside.tree.rows c.self.inside.shed.buckets c.self.inside.register) c.args.at c.args.n = subst (λ (s : Seen). IsHandleAt s.machine c.args.at c.args.n) (sym c.self.view_is) c.requires.handle in
    handle-closed-tied c.self.inside.tree.rows c.self.inside.shed c.self.inside.pool c.self.inside.register c.self.inside.fixed c.self.inside.root c.args.at c.args.n w c.self.invariant found (at.there w found) c.lower.new.self c.close_handle-handle.new.self c.close_handle-handle.ensures.rest
    (rw (c.outline.ensures, c.outline-2.ensures) at c.lower.ensures.share) (rw c.outline.ensures at c.lower.ensures.held)

pub returns-clause-machine : goal.returns-clause-machine
returns-clause-machine c =
    let w = c.close_handle-handle.result in
    let found = c.close_handle-handle.ensures.handle in
    let at : IsHandleAt (machine_of c.self.inside.tree.rows c.self.inside.shed.buckets c.self.inside.register) c.args.at c.args.n = subst (λ (s : Seen). IsHandleAt s.machine c.args.at c.args.n) (sym c.self.view_is) c.requires.handle in
    handle-closed-machine c.self.inside.tree.rows c.self.inside.shed c.self.inside.pool c.self.inside.register c.self.inside.fixed c.self.inside.root c.args.at c.args.n w c.self.invariant found (at.there w found) c.lower.new.self c.close_handle-handle.new.self c.close_handle-handle.ensures.rest
    ∙ ap (λ (s : Seen). with_slot_at s.machine c.args.at c.args.n outline.ClosedHandle) c.self.view_is ∙ own-slots c.args.self.now.machine c.args.at c.args.n outline.ClosedHandle

pub returns-clause-prepared : goal.returns-clause-prepared
returns-clause-prepared c =
    prepared-same c.self.inside.tree.ready c.self.inside.tree.ready c.self.inside.pool.shares c.lower.new.self.shares c.self.inside.register c.close_handle-handle.new.self refl
    (units-kept c.self.inside.pool c.lower.new.self _ _ c.lower.ensures.share)
    (agents-stand c.self.inside.register c.close_handle-handle.new.self _ c.close_handle-handle.ensures.rest)
    ∙ ap (λ (s : Seen). s.prepared) c.self.view_is
