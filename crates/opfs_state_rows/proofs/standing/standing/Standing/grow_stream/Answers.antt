use Rattle.std.proofs.Common.{◌≡◌, ◌+◌, ◌<◌, ◌^◌, Some, sym, ap, subst, ◌∙◌, arith, refl}
use Rattle.opfs_base.specs.Units.{origin_of}
use Rattle.opfs_machine.specs.declared.own.Outline.TheVariants as outline
use Rattle.opfs_machine.specs.declared.own.StreamOutline.{StreamOutline}
use Rattle.opfs_machine.specs.Contents.{in_lengths}
use Rattle.opfs_machine.specs.Sums.{usage}
use Rattle.opfs_register.specs.Slots.{stream_at}
use Rattle.opfs_state_rows.specs.Standing.Open.{IsStreamAt}
use Rattle.opfs_state_rows.specs.Standing.Seen.{Seen, machine_of, with_slot_at}
use Rattle.opfs_state_rows.proofs.standing.OpenStreams.{stream-in-usage, usage-known, one_stream, grown-machine, grown-tied}
use Rattle.opfs_state_rows.proofs.standing.Stores.{units-kept, prepared-same, agents-stand}
use Rattle.opfs_state_rows.proofs.standing.Reserved.{slot-is-stream}
use Rattle.opfs_state_rows.proofs.standing.AgentMoves.{own-slots}
use Rattle.opfs_state_rows.proofs.standing.standing.Standing.grow_stream.Goals as goal

pub overflow_add-reserve : goal.overflow_add-reserve
overflow_add-reserve c =
    let w = c.in-Some.stream.now in
    let found : stream_at c.self.inside.register.agents c.args.at c.args.n ≡ Some w = sym c.in-Some.ensures in
    let at : IsStreamAt (machine_of c.self.inside.tree.rows c.self.inside.shed.buckets c.self.inside.register) c.args.at c.args.n = subst (λ (s : Seen). IsStreamAt s.machine c.args.at c.args.n) (sym c.self.view_is) c.requires.stream in
    let quota : usage in_lengths (machine_of c.self.inside.tree.rows c.self.inside.shed.buckets c.self.inside.register) (origin_of w.file.0) + c.args.more < 2 ^ 64 =
    (rw (← c.self.view_is) at c.requires.quota) w found in
    omega (arith, quota, stream-in-usage c.self.inside.tree.rows c.self.inside.shed c.self.inside.pool c.self.inside.register c.self.inside.fixed c.self.inside.root c.args.at c.args.n w c.self.invariant found (at.there w found))

pub add-requires-clause-fits : goal.add-requires-clause-fits
add-requires-clause-fits c =
    let w = c.in-Some.stream.now in
    let found : stream_at c.self.inside.register.agents c.args.at c.args.n ≡ Some w = sym c.in-Some.ensures in
    let at : IsStreamAt (machine_of c.self.inside.tree.rows c.self.inside.shed.buckets c.self.inside.register) c.args.at c.args.n = subst (λ (s : Seen). IsStreamAt s.machine c.args.at c.args.n) (sym c.self.view_is) c.requires.stream in
    let quota : usage in_lengths (machine_of c.self.inside.tree.rows c.self.inside.shed.buckets c.self.inside.register) (origin_of w.file.0) + c.args.more < 2 ^ 64 =
    (rw (← c.self.view_is) at c.requires.quota) w found in
    omega (arith, quota, usage-known c.self.inside.tree.rows c.self.inside.shed c.self.inside.pool c.self.inside.register c.self.inside.fixed c.self.inside.root c.args.at c.args.n w c.self.invariant found (at.there w found))

pub invariant_of-self : goal.invariant_of-self
invariant_of-self c =
    let w = c.in-Some.stream.now in
    let found : stream_at c.self.inside.register.agents c.args.at c.args.n ≡ Some w = sym c.in-Some.ensures in
    let at : IsStreamAt (machine_of c.self.inside.tree.rows c.self.inside.shed.buckets c.self.inside.register) c.args.at c.args.n = subst (λ (s : Seen). IsStreamAt s.machine c.args.at c.args.n) (sym c.self.view_is) c.requires.stream in
    grown-tied c.self.inside.tree.rows c.self.inside.shed c.self.inside.pool c.self.inside.register c.self.inside.fixed c.self.inside.root c.args.at c.args.n w c.self.invariant found (at.there w found)
    c.add.new.self c.raise.new.self c.set_reserve.new.self c.args.more c.add.ensures.bucket c.set_reserve.ensures c.add.ensures.usage c.raise.ensures.share c.raise.ensures.held

pub returns-clause-machine : goal.returns-clause-machine
returns-clause-machine c =
    let w = c.in-Some.stream.now in
    let found : stream_at c.self.inside.register.agents c.args.at c.args.n ≡ Some w = sym c.in-Some.ensures in
    let at : IsStreamAt (machine_of c.self.inside.tree.rows c.self.inside.shed.buckets c.self.inside.register) c.args.at c.args.n = subst (λ (s : Seen). IsStreamAt s.machine c.args.at c.args.n) (sym c.self.view_is) c.requires.stream in
    rw (← c.self.view_is) (λ v told.
    grown-machine c.self.inside.tree.rows c.self.inside.shed c.self.inside.pool c.self.inside.register c.self.inside.fixed c.self.inside.root c.args.at c.args.n w c.self.invariant found (at.there w found)
    c.add.new.self c.raise.new.self c.set_reserve.new.self c.args.more c.add.ensures.bucket c.set_reserve.ensures
    ∙ ap (λ (x : StreamOutline). with_slot_at (machine_of c.self.inside.tree.rows c.self.inside.shed.buckets c.self.inside.register) c.args.at c.args.n (outline.Stream (record x { reserve = x.reserve + c.args.more }))) (one_stream (sym found ∙ told))
    ∙ own-slots (machine_of c.self.inside.tree.rows c.self.inside.shed.buckets c.self.inside.register) c.args.at c.args.n (outline.Stream (record v { reserve = v.reserve + c.args.more })))

pub returns-clause-prepared : goal.returns-clause-prepared
returns-clause-prepared c =
    prepared-same c.self.inside.tree.ready c.self.inside.tree.ready c.self.inside.pool.shares c.raise.new.self.shares c.self.inside.register c.set_reserve.new.self refl
    (units-kept c.self.inside.pool c.raise.new.self _ _ c.raise.ensures.share)
    (agents-stand c.self.inside.register c.set_reserve.new.self _ (c.set_reserve.ensures _ (slot-is-stream c.self.inside.register.agents c.args.at c.args.n c.in-Some.stream.now (sym c.in-Some.ensures))))
    ∙ ap (λ (s : Seen). s.prepared) c.self.view_is
