use Rattle.std.proofs.Common.{◌≡◌, ◌++◌, drop}
use Rattle.std.specs.List.{flat_map}
use Rattle.opfs_tools.specs.Listing.{unit_text}
use Rattle.opfs_tools.proofs.listing.units_text.Given as goal

abbrev pub invariant-loop-unit : goal.invariant-loop-unit
invariant-loop-unit l = l.text.items ++ flat_map unit_text (drop l.unit-index l.units) ≡ flat_map unit_text l.units
