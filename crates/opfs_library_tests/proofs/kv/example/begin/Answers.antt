use Rattle.std.proofs.Common.{rules}
use Rattle.opfs_library_tests.specs.Kv.Sessions.{IsOneAgent}
use Rattle.opfs_library_tests.proofs.kv.Begun.{alone-of}
use Rattle.opfs_notebook.proofs.Beginning.{may-begin, stands-new}
use Rattle.opfs_library_tests.proofs.kv.example.begin.Goals as goal

pub begin-agent-requires : goal.begin-agent-requires
begin-agent-requires g c =
    let of = c.in_ok-court.court in
    let one : IsOneAgent (g.S.Store.opened of.opening) c.args.key = search rules in
    may-begin g.S.Store.opened of 1 c.args.key (alone-of (g.S.Store.opened of.opening) c.args.key one c.requires.key) _ (search rules)

pub returns-clause-begun : goal.returns-clause-begun
returns-clause-begun g c =
    let of = c.in_ok-court.court in
    let one : IsOneAgent (g.S.Store.opened of.opening) c.args.key = search rules in
    record {
      owns = search rules;
      one = search rules;
      idle = stands-new g.S.Store.opened of 1 c.args.key (alone-of (g.S.Store.opened of.opening) c.args.key one c.requires.key) _ c.begin-agent.result (search rules) c.begin-agent.ensures;
    }
