use Rattle.std.proofs.Common.{◌-◌, length}
use Rattle.opfs_tools.specs.Units.{units_of}
use Rattle.opfs_tools.proofs.Merging.{all_added, used_within}
use Rattle.opfs_tools.proofs.units.units_of.Goals as goal

pub returns : goal.returns
returns c =
    all_added c.args.rows.now c.loop-at.at c.loop-at.past c.args.persistent.now c.loop-at.units.items c.add_alone.new.units.items (units_of c.args.rows.now c.args.persistent.now)
    c.loop-at-test.false c.in_ok-add_alone.ensures c.loop-at.invariant.units

pub add_first-requires-clause-fits : goal.add_first-requires-clause-fits
add_first-requires-clause-fits c = used_within c.args.rows.now c.loop-at.at (length c.args.rows.now - c.loop-at.at) c.requires
