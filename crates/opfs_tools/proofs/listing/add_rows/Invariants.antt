use Rattle.std.proofs.Common.{◌≡◌, ◌++◌, drop}
use Rattle.std.specs.List.{flat_map}
use Rattle.opfs_tools.specs.Listing.{row_line}
use Rattle.opfs_tools.proofs.listing.add_rows.Given as goal

abbrev pub invariant-loop-entry : goal.invariant-loop-entry
invariant-loop-entry l = l.text.items ++ flat_map row_line (drop l.entry-index l.rows) ≡ l.fn.text.items ++ flat_map row_line l.rows
