use Rattle.opfs_dump.proofs.loading.Adding.{charge_is}
use Rattle.opfs_dump.proofs.loading.sums.charge_of.Goals as goal

pub returns : goal.returns
returns c =
    charge_is c.args.rows.now c.args.persistent.now c.in_ok-rows.rows c.in_ok-modes.modes c.in_ok-charge.charge
    c.in_ok-rows.ensures c.in_ok-modes.ensures c.in_ok-charge.ensures
