use Rattle.std.proofs.Common.{◌≡◌, take}
use Rattle.opfs_print.specs.Lines.{text_of}
use Rattle.opfs_judge.proofs.turn.text_of.Given as goal

abbrev pub invariant-loop-entry : goal.invariant-loop-entry
invariant-loop-entry l = l.text.items ≡ text_of (take l.entry-index l.entries)
