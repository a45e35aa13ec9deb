use Rattle.std.proofs.Common.{◌∙◌, ap, sym, subst}
use Rattle.opfs_runner.specs.AgentRows.Tables.{kinds_of, IsLent, HasTable}
use Rattle.opfs_runner.proofs.agent_rows.Handed.{handed-has, handed-fits, handed-table, handed-set, handed-kind}
use Rattle.opfs_runner.proofs.agent_rows.Using.{lent-agent_row, lends-row, lends-none, lends-told, kinds-kept}
use Rattle.opfs_runner.proofs.agent_rows.lends.lend_row.Goals as goal

pub on_agent_row-done-requires-clause-agent_row : goal.on_agent_row-done-requires-clause-agent_row
on_agent_row-done-requires-clause-agent_row g c =
    let a = c.args.agent.now in
    let o = c.args.op.now in
    let agent_rows = c.args.agent_rows.now.items in
    let found = lent-agent_row a.key agent_rows c.args.row o c.requires.lends c.requires.may.names in
    handed-has agent_rows c.args.row o (IsLent o) found (lends-row c.args.row o c.requires.lends) g.S.Store.tells a a c.know_kept.ensures c.know_kept.ensures c.requires.table c.index_mut.result.now _ c.index_mut.ensures.value

pub on_agent_row-done-requires-clause-lent : goal.on_agent_row-done-requires-clause-lent
on_agent_row-done-requires-clause-lent g c =
    let o = c.args.op.now in
    let agent_rows = c.args.agent_rows.now.items in
    let found = lent-agent_row c.args.agent.now.key agent_rows c.args.row o c.requires.lends c.requires.may.names in
    handed-fits agent_rows c.args.row o (IsLent o) found (lends-row c.args.row o c.requires.lends) c.index_mut.result.now _ c.index_mut.ensures.value

pub returns-clause-table : goal.returns-clause-table
returns-clause-table g c =
    let T = g.S.Store.tells in
    let a = c.args.agent.now in
    let b = c.on_agent_row-done.new.agent in
    let o = c.args.op.now in
    let agent_rows = c.args.agent_rows.now.items in
    let row = lends-row c.args.row o c.requires.lends in
    let found = lent-agent_row a.key agent_rows c.args.row o c.requires.lends c.requires.may.names in
    let new = c.on_agent_row-done.new.agent_row in
    subst (HasTable T b) (sym (handed-set agent_rows c.args.row o (IsLent o) found row new))
    (handed-table agent_rows c.args.row o (IsLent o) found row T a b c.know_kept.ensures c.know_kept-2.ensures c.requires.table c.on_agent_row-done.result new c.on_agent_row-done.ensures.called
    (lends-none c.args.row o c.requires.lends) c.on_agent_row-done.ensures.agent_row)

pub returns-clause-kinds : goal.returns-clause-kinds
returns-clause-kinds g c =
    let o = c.args.op.now in
    let agent_rows = c.args.agent_rows.now.items in
    let row = lends-row c.args.row o c.requires.lends in
    let found = lent-agent_row c.args.agent.now.key agent_rows c.args.row o c.requires.lends c.requires.may.names in
    let new = c.on_agent_row-done.new.agent_row in
    ap kinds_of (handed-set agent_rows c.args.row o (IsLent o) found row new)
    ∙ kinds-kept agent_rows found.place found.agent_row new found.there (c.on_agent_row-done.ensures.kind ∙ handed-kind agent_rows c.args.row o (IsLent o) found row c.index_mut.result.now _ c.index_mut.ensures.value)
    ∙ lends-told c.args.row (kinds_of agent_rows) o c.on_agent_row-done.result c.requires.lends
