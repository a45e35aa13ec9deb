use Rattle.std.proofs.Common.{◌≡◌, ◌+◌, Some, sym, ap, subst, ◌∙◌, arith, refl}
use Rattle.opfs_machine.specs.declared.own.HandleOutline.{HandleOutline}
use Rattle.opfs_machine.specs.declared.own.Outline.TheVariants as outline
use Rattle.opfs_pool.proofs.Sums.{share_at-le}
use Rattle.opfs_register.specs.Slots.{handle_at}
use Rattle.opfs_state_rows.specs.Standing.Open.{IsHandleAt}
use Rattle.opfs_state_rows.specs.Standing.Seen.{Seen, machine_of, with_slot_at}
use Rattle.opfs_state_rows.proofs.standing.OpenHandles.{one_handle, handle-blocks, handle-grown-machine, handle-grown-tied, slot-is-handle}
use Rattle.opfs_state_rows.proofs.standing.Stores.{units-kept, prepared-same, agents-stand}
use Rattle.opfs_state_rows.proofs.standing.AgentMoves.{own-slots}
use Rattle.opfs_state_rows.proofs.standing.standing.Standing.grow_handle.Goals as goal

pub overflow_add-reserve : goal.overflow_add-reserve
overflow_add-reserve c =
    let w = c.in-Some.handle.now in
    let found : handle_at c.self.inside.register.agents c.args.at c.args.n ≡ Some w = sym c.in-Some.ensures in
    let at : IsHandleAt (machine_of c.self.inside.tree.rows c.self.inside.shed.buckets c.self.inside.register) c.args.at c.args.n = subst (λ (s : Seen). IsHandleAt s.machine c.args.at c.args.n) (sym c.self.view_is) c.requires.handle in
    omega (arith, handle-blocks c.self.inside.tree.rows c.self.inside.shed c.self.inside.pool c.self.inside.register c.self.inside.fixed c.self.inside.root c.args.at c.args.n w c.self.invariant found (at.there w found), share_at-le c.self.inside.pool.shares w.file.0, c.raise.ensures.held, c.count-kept.ensures.count, c.count-kept.type_inv)

pub invariant_of-self : goal.invariant_of-self
invariant_of-self c =
    let w = c.in-Some.handle.now in
    let found : handle_at c.self.inside.register.agents c.args.at c.args.n ≡ Some w = sym c.in-Some.ensures in
    let at : IsHandleAt (machine_of c.self.inside.tree.rows c.self.inside.shed.buckets c.self.inside.register) c.args.at c.args.n = subst (λ (s : Seen). IsHandleAt s.machine c.args.at c.args.n) (sym c.self.view_is) c.requires.handle in
    handle-grown-tied c.self.inside.tree.rows c.self.inside.shed c.self.inside.pool c.self.inside.register c.self.inside.fixed c.self.inside.root c.args.at c.args.n w c.self.invariant found (at.there w found) c.raise.new.self c.set_reserve.new.self c.args.more c.set_reserve.ensures c.raise.ensures.share c.raise.ensures.held

pub returns-clause-machine : goal.returns-clause-machine
returns-clause-machine c =
    let w = c.in-Some.handle.now in
    let found : handle_at c.self.inside.register.agents c.args.at c.args.n ≡ Some w = sym c.in-Some.ensures in
    let at : IsHandleAt (machine_of c.self.inside.tree.rows c.self.inside.shed.buckets c.self.inside.register) c.args.at c.args.n = subst (λ (s : Seen). IsHandleAt s.machine c.args.at c.args.n) (sym c.self.view_is) c.requires.handle in
    rw (← c.self.view_is) (λ v told.
    handle-grown-machine c.self.inside.tree.rows c.self.inside.shed c.self.inside.pool c.self.inside.register c.self.inside.fixed c.self.inside.root c.args.at c.args.n w c.self.invariant found (at.there w found) c.raise.new.self c.set_reserve.new.self c.args.more c.set_reserve.ensures
    ∙ ap (λ (x : HandleOutline). with_slot_at (machine_of c.self.inside.tree.rows c.self.inside.shed.buckets c.self.inside.register) c.args.at c.args.n (outline.Handle (record x { reserve = x.reserve + c.args.more }))) (one_handle (sym found ∙ told))
    ∙ own-slots (machine_of c.self.inside.tree.rows c.self.inside.shed.buckets c.self.inside.register) c.args.at c.args.n (outline.Handle (record v { reserve = v.reserve + c.args.more })))

pub returns-clause-prepared : goal.returns-clause-prepared
returns-clause-prepared c =
    prepared-same c.self.inside.tree.ready c.self.inside.tree.ready c.self.inside.pool.shares c.raise.new.self.shares c.self.inside.register c.set_reserve.new.self refl
    (units-kept c.self.inside.pool c.raise.new.self _ _ c.raise.ensures.share)
    (agents-stand c.self.inside.register c.set_reserve.new.self _ (c.set_reserve.ensures _ (slot-is-handle c.self.inside.register.agents c.args.at c.args.n c.in-Some.handle.now (sym c.in-Some.ensures))))
    ∙ ap (λ (s : Seen). s.prepared) c.self.view_is
