use Rattle.std.proofs.Common.{◌≡◌, sym}
use Rattle.opfs_pool.proofs.Values.{set_value-none}
use Rattle.opfs_pool.proofs.shares.mark_share.Goals as goal

pub returns-in_default : goal.returns-in_default
returns-in_default c =
    let same : c.get_mut.follows.lender-at-none ≡ c.args.shares.now = c.get_mut.follows.holds-at-none in
    rw same (sym (set_value-none _ _ _ (sym c.in_default.ensures.value)))
