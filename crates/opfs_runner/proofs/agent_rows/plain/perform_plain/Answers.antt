use Rattle.std.proofs.Common.{subst}
use Rattle.opfs_turns.proofs.other_rows.Leaving.{Leaves}
use Rattle.opfs_runner.specs.AgentRows.Tables.{kinds_of}
use Rattle.opfs_runner.proofs.agent_rows.Tabled.{table-same, leaves-calls, rows-same}
use Rattle.opfs_runner.proofs.agent_rows.Using.{plain-row, plain-none}
use Rattle.opfs_runner.proofs.agent_rows.plain.perform_plain.Goals as goal

pub returns-clause-table : goal.returns-clause-table
returns-clause-table g c =
    let a = c.args.agent.now in
    let b = c.call_plain-done.new.agent in
    let o = c.args.op.now in
    let done = c.call_plain-done in
    table-same g.S.Store.tells a b c.know_kept.ensures c.know_kept-2.ensures c.args.agent_rows.now c.requires.table
    (subst (Leaves g.S.Store.tells a b) (plain-row a.key (kinds_of c.args.agent_rows.now) o c.requires.plain c.requires.may.names)
    (leaves-calls g.S.Store.tells a b c.know_kept.ensures c.know_kept-2.ensures o done.result done.ensures))
    (rows-same g.S.Store.tells a b c.know_kept.ensures c.know_kept-2.ensures o done.result done.ensures (plain-none o c.requires.plain))
