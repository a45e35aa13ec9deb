use Rattle.std.proofs.Common.{◌≡◌, sym}
use Rattle.opfs_register.proofs.Entries.{set-none}
use Rattle.opfs_register.proofs.uses.set_number.Goals as goal

pub returns-in_default-clause-set : goal.returns-in_default-clause-set
returns-in_default-clause-set c =
    let same : c.get_mut.follows.lender-at-none ≡ c.args.items.now = c.get_mut.follows.holds-at-none in
    rw same (sym (set-none _ _ _ (sym c.in_default.ensures.value)))
