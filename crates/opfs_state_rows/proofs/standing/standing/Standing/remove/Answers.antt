use Rattle.std.proofs.Common.{◌≡◌, ℕ, ◌+◌, ◌-◌, true, is_some, sym, ap, subst, ◌∙◌, arith}
use Rattle.opfs_machine.specs.Rows.{without}
use Rattle.opfs_pool.specs.Shares.{changed, share_at, held}
use Rattle.opfs_pool.proofs.Sums.{share_at-le}
use Rattle.opfs_shed.specs.Buckets.{bucket_at, usage_of, part_of}
use Rattle.opfs_shed.specs.Buckets.{changed as changed_shed}
use Rattle.opfs_shed.proofs.Usages.{bucket_at-le}
use Rattle.opfs_tree.specs.Rows.{row_at}
use Rattle.opfs_state_rows.specs.Standing.Seen.{Seen, machine_of}
use Rattle.opfs_state_rows.specs.Standing.Tied.{IsTied}
use Rattle.opfs_state_rows.proofs.standing.Gone.{gone-usage, gone-blocks, gone-charge, removed-machine, removed-share, removed-tied}
use Rattle.opfs_state_rows.proofs.standing.Stores.{units-kept, prepared-same, same-register}
use Rattle.opfs_state_rows.proofs.standing.standing.Standing.remove.Goals as goal

pub sums_below-gone-requires-clause-present : goal.sums_below-gone-requires-clause-present
sums_below-gone-requires-clause-present c =
    let there : is_some (row_at (c.args.unit.now, c.args.path.now) c.self.inside.tree.rows) ≡ true = ap (λ (s : Seen). is_some (row_at (c.args.unit.now, c.args.path.now) s.tree)) c.self.view_is ∙ c.requires.there in
    omega (arith, gone-usage c.self.inside.tree.rows c.self.inside.shed c.self.inside.pool c.self.inside.register c.self.inside.fixed c.self.inside.root c.args.unit.now c.args.path.now c.self.invariant there, bucket_at-le c.args.unit.now c.self.inside.shed.buckets, c.usage-used.ensures, c.usage-used.type_inv)

pub sums_below-gone-requires-clause-durable : goal.sums_below-gone-requires-clause-durable
sums_below-gone-requires-clause-durable c =
    let there : is_some (row_at (c.args.unit.now, c.args.path.now) c.self.inside.tree.rows) ≡ true = ap (λ (s : Seen). is_some (row_at (c.args.unit.now, c.args.path.now) s.tree)) c.self.view_is ∙ c.requires.there in
    omega (arith, gone-blocks c.self.inside.tree.rows c.self.inside.shed c.self.inside.pool c.self.inside.register c.self.inside.fixed c.self.inside.root c.args.unit.now c.args.path.now c.self.invariant there, share_at-le c.self.inside.pool.shares c.args.unit.now, c.count-kept.ensures.count, c.count-kept.type_inv)

pub sums_below-gone-requires-clause-charge : goal.sums_below-gone-requires-clause-charge
sums_below-gone-requires-clause-charge c =
    let there : is_some (row_at (c.args.unit.now, c.args.path.now) c.self.inside.tree.rows) ≡ true = ap (λ (s : Seen). is_some (row_at (c.args.unit.now, c.args.path.now) s.tree)) c.self.view_is ∙ c.requires.there in
    omega (arith, gone-charge c.self.inside.tree.rows c.self.inside.shed c.self.inside.pool c.self.inside.register c.self.inside.fixed c.self.inside.root c.args.unit.now c.args.path.now c.self.invariant there, c.self.ranges)

pub free-requires : goal.free-requires
free-requires c =
    let there : is_some (row_at (c.args.unit.now, c.args.path.now) c.self.inside.tree.rows) ≡ true = ap (λ (s : Seen). is_some (row_at (c.args.unit.now, c.args.path.now) s.tree)) c.self.view_is ∙ c.requires.there in
    omega (arith, gone-usage c.self.inside.tree.rows c.self.inside.shed c.self.inside.pool c.self.inside.register c.self.inside.fixed c.self.inside.root c.args.unit.now c.args.path.now c.self.invariant there, c.sums_below-gone.ensures.present)

pub lower-requires : goal.lower-requires
lower-requires c =
    let there : is_some (row_at (c.args.unit.now, c.args.path.now) c.self.inside.tree.rows) ≡ true = ap (λ (s : Seen). is_some (row_at (c.args.unit.now, c.args.path.now) s.tree)) c.self.view_is ∙ c.requires.there in
    omega (arith, gone-blocks c.self.inside.tree.rows c.self.inside.shed c.self.inside.pool c.self.inside.register c.self.inside.fixed c.self.inside.root c.args.unit.now c.args.path.now c.self.invariant there, c.sums_below-gone.ensures.durable)

pub overflow_sub-self : goal.overflow_sub-self
overflow_sub-self c =
    let there : is_some (row_at (c.args.unit.now, c.args.path.now) c.self.inside.tree.rows) ≡ true = ap (λ (s : Seen). is_some (row_at (c.args.unit.now, c.args.path.now) s.tree)) c.self.view_is ∙ c.requires.there in
    omega (arith, gone-charge c.self.inside.tree.rows c.self.inside.shed c.self.inside.pool c.self.inside.register c.self.inside.fixed c.self.inside.root c.args.unit.now c.args.path.now c.self.invariant there, c.sums_below-gone.ensures.charge)

pub mark-requires : goal.mark-requires
mark-requires c =
    let there : is_some (row_at (c.args.unit.now, c.args.path.now) c.self.inside.tree.rows) ≡ true = ap (λ (s : Seen). is_some (row_at (c.args.unit.now, c.args.path.now) s.tree)) c.self.view_is ∙ c.requires.there in
    removed-share c.self.inside.tree.rows c.self.inside.shed c.self.inside.pool c.self.inside.register c.self.inside.fixed c.self.inside.root c.args.unit.now c.args.path.now c.self.invariant there c.remove.new.self.rows c.free.new.self c.lower.new.self c.lower.new.self c.remove.ensures.rows
    (subst (λ (n : ℕ). c.free.new.self ≡ changed_shed c.self.inside.shed c.args.unit.now (record (bucket_at c.self.inside.shed.buckets c.args.unit.now) { usage = (bucket_at c.self.inside.shed.buckets c.args.unit.now).usage - n })) c.sums_below-gone.ensures.present c.free.ensures.bucket)
    (subst (λ (n : ℕ). c.lower.new.self ≡ changed c.self.inside.pool c.args.unit.now (record (share_at c.self.inside.pool.shares c.args.unit.now) { blocks = (share_at c.self.inside.pool.shares c.args.unit.now).blocks - n })) c.sums_below-gone.ensures.durable c.lower.ensures.share) (subst (λ (n : ℕ). held c.lower.new.self.shares + n ≡ held c.self.inside.pool.shares) c.sums_below-gone.ensures.durable c.lower.ensures.held)

pub invariant_of-self : goal.invariant_of-self
invariant_of-self c =
    let there : is_some (row_at (c.args.unit.now, c.args.path.now) c.self.inside.tree.rows) ≡ true = ap (λ (s : Seen). is_some (row_at (c.args.unit.now, c.args.path.now) s.tree)) c.self.view_is ∙ c.requires.there in
    subst (λ (n : ℕ). IsTied (machine_of c.remove.new.self.rows c.free.new.self.buckets c.self.inside.register) c.free.new.self c.mark.new.pool (c.self.inside.fixed - n) c.self.inside.root) (sym c.sums_below-gone.ensures.charge)
    (removed-tied c.self.inside.tree.rows c.self.inside.shed c.self.inside.pool c.self.inside.register c.self.inside.fixed c.self.inside.root c.args.unit.now c.args.path.now c.self.invariant there c.remove.new.self.rows c.free.new.self c.lower.new.self c.mark.new.pool c.remove.ensures.rows
    (subst (λ (n : ℕ). c.free.new.self ≡ changed_shed c.self.inside.shed c.args.unit.now (record (bucket_at c.self.inside.shed.buckets c.args.unit.now) { usage = (bucket_at c.self.inside.shed.buckets c.args.unit.now).usage - n })) c.sums_below-gone.ensures.present c.free.ensures.bucket)
    (subst (λ (n : ℕ). c.lower.new.self ≡ changed c.self.inside.pool c.args.unit.now (record (share_at c.self.inside.pool.shares c.args.unit.now) { blocks = (share_at c.self.inside.pool.shares c.args.unit.now).blocks - n })) c.sums_below-gone.ensures.durable c.lower.ensures.share) (subst (λ (n : ℕ). held c.lower.new.self.shares + n ≡ held c.self.inside.pool.shares) c.sums_below-gone.ensures.durable c.lower.ensures.held)
    (λ origin. subst (λ (n : ℕ). usage_of origin c.free.new.self.buckets + part_of origin c.args.unit.now n ≡ usage_of origin c.self.inside.shed.buckets) c.sums_below-gone.ensures.present (c.free.ensures.usage origin)) c.mark.ensures)

pub returns-clause-machine : goal.returns-clause-machine
returns-clause-machine c =
    let there : is_some (row_at (c.args.unit.now, c.args.path.now) c.self.inside.tree.rows) ≡ true = ap (λ (s : Seen). is_some (row_at (c.args.unit.now, c.args.path.now) s.tree)) c.self.view_is ∙ c.requires.there in
    removed-machine c.self.inside.tree.rows c.self.inside.shed c.self.inside.pool c.self.inside.register c.self.inside.fixed c.self.inside.root c.args.unit.now c.args.path.now c.self.invariant there c.remove.new.self.rows c.free.new.self c.lower.new.self c.lower.new.self c.remove.ensures.rows
    (subst (λ (n : ℕ). c.free.new.self ≡ changed_shed c.self.inside.shed c.args.unit.now (record (bucket_at c.self.inside.shed.buckets c.args.unit.now) { usage = (bucket_at c.self.inside.shed.buckets c.args.unit.now).usage - n })) c.sums_below-gone.ensures.present c.free.ensures.bucket)
    ∙ ap (λ (s : Seen). without s.machine (c.args.unit.now, c.args.path.now)) c.self.view_is

pub returns-clause-prepared : goal.returns-clause-prepared
returns-clause-prepared c =
    prepared-same c.self.inside.tree.ready c.remove.new.self.ready c.self.inside.pool.shares c.mark.new.pool.shares c.self.inside.register c.self.inside.register c.remove.ensures.ready
    (units-kept c.lower.new.self c.mark.new.pool _ _ c.mark.ensures ∙ units-kept c.self.inside.pool c.lower.new.self _ _ c.lower.ensures.share)
    (same-register c.self.inside.register)
    ∙ ap (λ (s : Seen). s.prepared) c.self.view_is
