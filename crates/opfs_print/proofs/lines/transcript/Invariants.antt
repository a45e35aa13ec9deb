use Rattle.std.proofs.Common.{◌≡◌, ◌++◌, length, take}
use Rattle.opfs_print.specs.Lines.{text_of}
use Rattle.opfs_print.proofs.lines.transcript.Given as goal

-- what is written and what is left make the whole, and the old bytes stay in front
abbrev pub invariant-loop-entry : goal.invariant-loop-entry
invariant-loop-entry l = record {
  whole : l.into.items ++ text_of l.entry-iterator ≡ l.initial.into.items ++ text_of l.entries;
  front : take (length l.initial.into.items) l.into.items ≡ l.initial.into.items;
}
