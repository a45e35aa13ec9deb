use Rattle.std.proofs.Common.{◌≡◌, ◌≤◌, ◌<◌, ◌++◌, length}
use Rattle.opfs_top.proofs.input.read_into.Given as goal

abbrev pub invariant-loop-turn : goal.invariant-loop-turn
invariant-loop-turn g l = record {
  read : g.S.Source.tells → g.S.Source.rest l.initial.source ≡ l.bytes.items ++ g.S.Source.rest l.source;
  turns : l.turn ≤ length l.bytes.items;
  fits : length l.bytes.items ≤ 16777216;
  buffer : 0 < length l.buffer;
  later : g.S.Source.faults l.initial.source ≤ g.S.Source.faults l.source;
}
