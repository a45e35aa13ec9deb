use Rattle.std.proofs.Common.{◌↔◌, drop}
use Rattle.std.specs.List.{AllByRecursion}
use Rattle.opfs_codec.specs.Spelling.{IsName}
use Rattle.opfs_records.proofs.checkpoint.checks.are_names.Given as goal

-- the names that are left are short enough exactly where all are
abbrev pub invariant-loop-name : goal.invariant-loop-name
invariant-loop-name l = AllByRecursion IsName (drop l.name-index l.names) ↔ AllByRecursion IsName l.names
