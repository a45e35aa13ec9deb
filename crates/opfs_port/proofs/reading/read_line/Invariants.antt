use Rattle.std.proofs.Common.{◌≤◌, vec_len, vec_items}
use Rattle.std.specs.Io.KnownBytes.{Consumes}
use Rattle.opfs_port.specs.Lines.{HasNoFeed}
use Rattle.opfs_port.proofs.reading.read_line.Given as goal

abbrev pub invariant-loop : goal.invariant-loop
invariant-loop g l = record {
  within : vec_len l.line ≤ l.most;
  clean : HasNoFeed (vec_items l.line);
  bytes : Consumes (g.R.Read.remaining l.initial.reader) (g.R.Read.remaining l.reader) (vec_items l.line);
}
