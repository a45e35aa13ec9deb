use Rattle.std.proofs.Common.{◌≤◌}
use Rattle.opfs_port.specs.Sessions.{Conversed}
use Rattle.opfs_port.proofs.conversing.converse.Given as goal

abbrev pub invariant-loop : goal.invariant-loop
invariant-loop g l = record {
  talk : g.P.Port.tells → Conversed g.S.Session.step l.initial.session l.session (g.P.Port.said l.initial.port) (g.P.Port.said l.port) (g.P.Port.rest l.initial.port) (g.P.Port.rest l.port);
  later : g.P.Port.faults l.initial.port ≤ g.P.Port.faults l.port;
}
